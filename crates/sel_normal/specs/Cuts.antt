-- Which normal rule each rule and each inner part of the user's became.
use Rattle.std.specs.Prelude.{◌≡◌, ℕ, ◌+◌, ◌<◌, ◌⊎◌, Option, Some, None, length, slice_get}
use Rattle.sel_grammar.specs.declared.grammar.Grammar.{Grammar}
use Rattle.sel_grammar.specs.declared.grammar.Rule.{Rule}
use Rattle.sel_grammar.specs.declared.grammar.Pattern.{Pattern, Leaf, Nullary, Unary', Binary', end_of-Pattern, more_of-Pattern}
use Rattle.sel_grammar.specs.Fits.{rule_at}
use Rattle.sel_grammar.specs.Lawful.{IsPatternOf}
use Rattle.sel_normal.specs.declared.normal.NormalRule.{NormalRule}
use Rattle.sel_normal.specs.NormalForms.{NormalForm, normal_at}
use Rattle.sel_normal.specs.Forms.{places, parts, body, helper_rule, test_number}
use Rattle.sel_normal.specs.Seen.{range_at}

-- the number k is the normal nonterminal of the part
abbrev pub HeadAt : Grammar → ℕ → Pattern → Type 0
HeadAt g k (Leaf n) = n < length g.nonterminals
HeadAt g k p = (j : ℕ) × (k ≡ length g.nonterminals + j) × (slice_get (places g.rules) j ≡ Some p)

-- the inner parts of the pattern have the numbers from k on
abbrev pub BodyAt : Grammar → ℕ → Pattern → Type 0
BodyAt g k (Leaf n) = n < length g.nonterminals
BodyAt g k (Nullary op) = Unit {0}
BodyAt g k (Unary' op s (more_of-Pattern p end_of-Pattern)) = HeadAt g k p
BodyAt g k (Binary' op s (more_of-Pattern p end_of-Pattern) s' (more_of-Pattern q end_of-Pattern)) = HeadAt g k p × HeadAt g (k + length (parts p)) q

-- the part has an operator at its root
abbrev pub IsOperatorPart : Pattern → Type 0
IsOperatorPart p = (m : ℕ) → p ≡ Leaf m → ⊥

-- the user rule, cut, where its first inner part has the number `number` and its test the number `test`
pub record CutUser (g : Grammar) (normal : NormalForm) (rule : Rule) (nr : NormalRule) : Type 0 where
  pub number : ℕ
  pub test : ℕ
  pub is : nr ≡ record { left = rule.left; cost = rule.cost; body = body number (test_number test rule.range) rule.pattern }
  pub below : BodyAt g number rule.pattern
  pub range : range_at normal.tests (test_number test rule.range) ≡ rule.range

-- the helper rule of the inner part j
pub record CutHelper (g : Grammar) (j : ℕ) (part : Pattern) (nr : NormalRule) : Type 0 where
  pub is : nr ≡ helper_rule (length g.nonterminals + j) part
  pub below : BodyAt g (length g.nonterminals + j + 1) part
  pub low : IsPatternOf g part
  pub operator : IsOperatorPart part

-- the normal rules are the grammar's rules, cut, and the helpers' of all inner parts
pub record IsCut (g : Grammar) (normal : NormalForm) : Type 0 where
  pub user : (r : ℕ) (rule : Rule) → rule_at g r ≡ Some rule → (nr : NormalRule) × (normal_at normal r ≡ Some nr) × CutUser g normal rule nr
  pub helper : (j : ℕ) (part : Pattern) → slice_get (places g.rules) j ≡ Some part → (nr : NormalRule) × (normal_at normal (length g.rules + j + 1) ≡ Some nr) × CutHelper g j part nr
  pub back : (r : ℕ) (nr : NormalRule) → normal_at normal r ≡ Some nr
      → ((rule : Rule) × (rule_at g r ≡ Some rule) × CutUser g normal rule nr)
      ⊎ ((j : ℕ) × (part : Pattern) × (slice_get (places g.rules) j ≡ Some part) × (r ≡ length g.rules + j + 1) × CutHelper g j part nr)
