-- How a grammar is printed.
use Rattle.std.specs.Prelude.{◌≡◌, ℕ, ◌==◌, ◌&&◌, List, [], ◌++◌, map, Option, Some, None, codes, decimal, if◌then◌else◌}
use Rattle.std.specs.Fmt.{signed_decimal}
use Rattle.std.specs.List.{flat_map}
use Rattle.sel_base.specs.declared.range.Range.{Range}
use Rattle.sel_grammar.specs.declared.grammar.Grammar.{Grammar}
use Rattle.sel_grammar.specs.declared.grammar.Operator.{Operator}
use Rattle.sel_grammar.specs.declared.grammar.Rule.{Rule}
use Rattle.sel_grammar.specs.declared.grammar.RuleCost.{RuleCost}
use Rattle.sel_grammar_text.specs.GrammarText.{SpellsGrammar}
use Rattle.sel_grammar_text.specs.Printing.{printed_template, name_at, printed_pattern}

abbrev pub operator_names : List Operator → List (List ℕ)
operator_names operators = map (λ (operator : Operator). operator.name) operators

-- the second number of a pair, unless that is 0
abbrev pub printed_second : ℕ → List ℕ
printed_second second = if second == 0 then [] else codes "," ++ decimal second

-- `N` where the second number is 0, and otherwise `(N,M)`
abbrev pub printed_amount : RuleCost → List ℕ
printed_amount cost = if cost.second == 0 then decimal cost.first else codes "(" ++ (decimal cost.first ++ (codes "," ++ (decimal cost.second ++ codes ")")))

-- what a range costs where it holds, unless that is (0,0)
abbrev pub printed_addend : RuleCost → List ℕ
printed_addend cost = if (cost.first == 0) && (cost.second == 0) then [] else codes "+" ++ printed_amount cost

abbrev pub printed_range : Range → List ℕ
printed_range range = codes "range(a," ++ (signed_decimal range.lo ++ (codes "," ++ (signed_decimal range.hi ++ codes ")")))

-- the cost of a one-line rule: an amount, or a range with its addend
abbrev pub printed_cost : RuleCost → Option Range → List ℕ
printed_cost cost None = printed_amount cost
printed_cost cost (Some range) = printed_range range ++ printed_addend cost

-- A rule's tail: that of a BURG rule where it gives itself a number, else a template and a cost.
abbrev pub printed_tail : Option ℕ → Rule → List ℕ
printed_tail (Some external) rule = codes " = " ++ (decimal external ++ (codes " (" ++ (decimal rule.cost.first ++ (printed_second rule.cost.second ++ codes ");"))))
printed_tail None rule = codes " \"" ++ (printed_template rule.template.parts ++ (codes "\" " ++ printed_cost rule.cost rule.range))

-- a rule on its line
abbrev pub printed_rule : List (List ℕ) → List (List ℕ) → Rule → List ℕ
printed_rule ops nts rule = name_at nts rule.left ++ (codes ": " ++ (printed_pattern ops nts rule.pattern ++ (printed_tail rule.external rule ++ codes "\n")))

-- an operator on its line
abbrev pub printed_operator : Operator → List ℕ
printed_operator operator = codes "%term " ++ (operator.name ++ (codes "=" ++ (decimal operator.external ++ codes "\n")))

-- The grammar's text: the start symbol, the operators, `%%` and the rules, each on a line that ends with LF.
unfoldable pub printed : Grammar → List ℕ
printed g =
    codes "%start " ++ (name_at g.nonterminals g.start ++ (codes "\n" ++ (flat_map printed_operator g.operators
    ++ (codes "%%\n" ++ flat_map (printed_rule (operator_names g.operators) g.nonterminals) g.rules))))

-- the rule at no place
abbrev pub without_place : Rule → Rule
without_place rule = record rule { line = 0; column = 0 }

-- the two grammars are equal but for the places of their rules
pub record IsSameButPlaces (g h : Grammar) : Type 0 where
  pub start : g.start ≡ h.start
  pub operators : g.operators ≡ h.operators
  pub nonterminals : g.nonterminals ≡ h.nonterminals
  pub rules : map without_place g.rules ≡ map without_place h.rules

-- the text spells a grammar that is this one but for the places of rules
pub record SpellsAgain (text : List ℕ) (g : Grammar) : Type 0 where
  pub read : Grammar
  pub spells : SpellsGrammar text read
  pub same : IsSameButPlaces g read
