-- The normal form: each user rule with its pattern cut to one operator, and behind them a helper rule for each operator below the root of a pattern.
use Rattle.std.specs.Prelude.{◌≡◌, ℕ, ◌+◌, Option, Some, None, List, [], ◌∷◌, ◌++◌, length}
use Rattle.sel_base.specs.declared.range.Range.{Range}
use Rattle.sel_grammar.specs.declared.grammar.Grammar.{Grammar}
use Rattle.sel_grammar.specs.declared.grammar.Rule.{Rule}
use Rattle.sel_grammar.specs.declared.grammar.Pattern.{Pattern, Leaf, Nullary, Unary', Binary', end_of-Pattern, more_of-Pattern}
use Rattle.sel_normal.specs.declared.normal.Body.{Body}
use Rattle.sel_normal.specs.declared.normal.Body.TheVariants.{Chain, Operator}
use Rattle.sel_normal.specs.declared.normal.NormalRule.{NormalRule}
use Rattle.sel_normal.specs.NormalForms.{NormalForm}

-- the parts of a pattern at its operators, in preorder
abbrev pub parts : Pattern → List Pattern
parts (Leaf n) = []
parts (Nullary op) = Nullary op ∷ []
parts (Unary' op s (more_of-Pattern p end_of-Pattern)) = Unary' op s (more_of-Pattern p end_of-Pattern) ∷ parts p
parts (Binary' op s (more_of-Pattern p end_of-Pattern) s' (more_of-Pattern q end_of-Pattern)) =
    Binary' op s (more_of-Pattern p end_of-Pattern) s' (more_of-Pattern q end_of-Pattern) ∷ (parts p ++ parts q)

-- those below the root
abbrev pub inner_parts : Pattern → List Pattern
inner_parts (Leaf n) = []
inner_parts (Nullary op) = []
inner_parts (Unary' op s (more_of-Pattern p end_of-Pattern)) = parts p
inner_parts (Binary' op s (more_of-Pattern p end_of-Pattern) s' (more_of-Pattern q end_of-Pattern)) = parts p ++ parts q

-- those of all rules, in the order of rules
abbrev pub places : List Rule → List Pattern
places [] = []
places (rule ∷ rules) = inner_parts rule.pattern ++ places rules

-- the normal nonterminal for a part, where the helper for its first operator has the number k
abbrev pub head : ℕ → Pattern → ℕ
head k (Leaf n) = n
head k p = k

-- a pattern cut to one operator, where the helper for its first inner part has the number k
abbrev pub body : ℕ → Option ℕ → Pattern → Body
body k test (Leaf n) = Chain n
body k test (Nullary op) = Operator op None None test
body k test (Unary' op s (more_of-Pattern p end_of-Pattern)) = Operator op (Some (head k p)) None test
body k test (Binary' op s (more_of-Pattern p end_of-Pattern) s' (more_of-Pattern q end_of-Pattern)) = Operator op (Some (head k p)) (Some (head (k + length (parts p)) q)) test

-- the rule of the helper k, which stands for the part. The part's inner parts have the numbers behind it
abbrev pub helper_rule : ℕ → Pattern → NormalRule
helper_rule k p = record { left = k; cost = record { first = 0; second = 0 }; body = body (k + 1) None p }

-- the rules of the helpers for the parts, numbered from k
abbrev pub helper_rules : ℕ → List Pattern → List NormalRule
helper_rules k [] = []
helper_rules k (p ∷ ps) = helper_rule k p ∷ helper_rules (k + 1) ps

abbrev pub some_range : Option Range → List Range
some_range None = []
some_range (Some r) = r ∷ []

-- the ranges of the rules in their order
abbrev pub tests : List Rule → List Range
tests [] = []
tests (rule ∷ rules) = some_range rule.range ++ tests rules

-- j where there is a range
abbrev pub test_number : ℕ → Option Range → Option ℕ
test_number j None = None
test_number j (Some r) = Some j

-- the user rules cut, where the first inner part has the number k and the first test the number j
abbrev pub cut_rules : ℕ → ℕ → List Rule → List NormalRule
cut_rules k j [] = []
cut_rules k j (rule ∷ rules) =
    record { left = rule.left; cost = rule.cost; body = body k (test_number j rule.range) rule.pattern }
    ∷ cut_rules (k + length (inner_parts rule.pattern)) (j + length (some_range rule.range)) rules

-- The normal form of a grammar: user nonterminals and rules keep their numbers, and the helpers stand behind them.
pub record IsFormOf (g : Grammar) (normal : NormalForm) : Type 0 where
  pub nonterminals : normal.nonterminals ≡ length g.nonterminals + length (places g.rules)
  pub user_rules : normal.user_rules ≡ length g.rules
  pub rules : normal.rules ≡ cut_rules (length g.nonterminals) 0 g.rules ++ helper_rules (length g.nonterminals) (places g.rules)
  pub tests : normal.tests ≡ tests g.rules
