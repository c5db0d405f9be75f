-- The grammar that items say.
use Rattle.std.specs.Prelude.{ℕ, List, [], ◌∷◌, Option, Some, None, if◌then◌else◌, map, drop, ℤ, pos, neg_ℤ}
use Rattle.std.specs.Str.Parse.{digits_value}
use Rattle.sel_base.specs.declared.range.Range.{Range}
use Rattle.sel_grammar.specs.declared.grammar.Grammar.{Grammar}
use Rattle.sel_grammar.specs.declared.grammar.Operator.{Operator}
use Rattle.sel_grammar.specs.declared.grammar.Part.{Part}
use Rattle.sel_grammar.specs.declared.grammar.Rule.{Rule}
use Rattle.sel_grammar.specs.declared.grammar.RuleCost.{RuleCost}
use Rattle.sel_grammar_text.specs.Items.{Word, AmountText, NoCost, Amount, Ranged, TailText, OneLine, Burg, RuleText, Item, StartItem, EntryItem}
use Rattle.sel_grammar_text.specs.Names.{number_of, operators, rules, nonterminals, uses, first_use}
use Rattle.sel_grammar_text.specs.Patterns.{pattern_of}
use Rattle.sel_grammar_text.specs.TemplateText.{template_of}
use Rattle.sel_grammar_text.specs.Checks.{begins_with_minus}
use Rattle.sel_grammar_text.specs.Places.{line_of, column_of}

-- a bound with its sign
abbrev pub bound_of : Word → ℤ
bound_of w = if begins_with_minus w.bytes then neg_ℤ (pos (digits_value 10 (drop 1 w.bytes))) else pos (digits_value 10 w.bytes)

-- an omitted number is 0
abbrev pub number_or_0 : Option Word → ℕ
number_or_0 None = 0
number_or_0 (Some w) = digits_value 10 w.bytes

-- one number c is the pair (c,0)
abbrev pub amount_cost : AmountText → RuleCost
amount_cost a = record { first = digits_value 10 a.first.bytes; second = number_or_0 a.second }

-- an omitted amount is (0,0)
abbrev pub amount_or_none : Option AmountText → RuleCost
amount_or_none None = record { first = 0; second = 0 }
amount_or_none (Some a) = amount_cost a

-- a rule's cost: that of a range is its addend
abbrev pub cost_of : TailText → RuleCost
cost_of (OneLine w NoCost) = record { first = 0; second = 0 }
cost_of (OneLine w (Amount a)) = amount_cost a
cost_of (OneLine w (Ranged at lo hi addend)) = amount_or_none addend
cost_of (Burg external cost) = amount_or_none cost

abbrev pub range_of : TailText → Option Range
range_of (OneLine w (Ranged at lo hi addend)) = Some (record { lo = bound_of lo; hi = bound_of hi })
range_of _ = None

-- the template's parts, which a BURG rule has none of
abbrev pub parts_of_tail : TailText → List Part
parts_of_tail (OneLine w cost) = template_of w.bytes
parts_of_tail (Burg external cost) = []

-- the number that a BURG rule gives itself
abbrev pub external_of : TailText → Option ℕ
external_of (OneLine w cost) = None
external_of (Burg external cost) = Some (digits_value 10 external.bytes)

abbrev pub rule_of : List ℕ → List (List ℕ) → List (List ℕ) → RuleText → Rule
rule_of bytes ops nts r = record {
  left = number_of nts r.left.bytes;
  pattern = pattern_of ops nts r.pattern;
  template = record { parts = parts_of_tail r.tail };
  cost = cost_of r.tail;
  range = range_of r.tail;
  external = external_of r.tail;
  line = line_of bytes r.left.at;
  column = column_of bytes r.left.at;
}

-- what the entries declare, each with as many kids as at its first use
abbrev pub operators_of : List (Word × ℕ) → List Item → List Operator
operators_of us [] = []
operators_of us (EntryItem name number ∷ items) = record { name = name.bytes; external = digits_value 10 number.bytes; arity = first_use us name.bytes } ∷ operators_of us items
operators_of us (_ ∷ items) = operators_of us items

-- the start symbol: the name behind `%start`, or else the first rule's left name, which has the number 0
abbrev pub start_of : List (List ℕ) → List Item → ℕ
start_of nts [] = 0
start_of nts (StartItem w ∷ items) = number_of nts w.bytes
start_of nts (_ ∷ items) = start_of nts items

unfoldable pub grammar_of : List ℕ → List Item → Grammar
grammar_of bytes items = record {
  start = start_of (nonterminals items) items;
  operators = operators_of (uses (rules items)) items;
  nonterminals = nonterminals items;
  rules = map (rule_of bytes (operators items) (nonterminals items)) (rules items);
}
