-- Normal rules, seen as a grammar.
use Rattle.std.specs.Prelude.{ℕ, Option, Some, None, List, [], map, slice_get}
use Rattle.sel_base.specs.declared.range.Range.{Range}
use Rattle.sel_grammar.specs.declared.grammar.Grammar.{Grammar}
use Rattle.sel_grammar.specs.declared.grammar.Rule.{Rule}
use Rattle.sel_grammar.specs.declared.grammar.Pattern.{Pattern, Leaf, Nullary, Unary, Binary}
use Rattle.sel_normal.specs.declared.normal.Body.{Body}
use Rattle.sel_normal.specs.declared.normal.Body.TheVariants.{Chain, Operator}
use Rattle.sel_normal.specs.declared.normal.NormalRule.{NormalRule}
use Rattle.sel_normal.specs.NormalForms.{NormalForm}

-- the operator over the nonterminals of its kids
abbrev pub seen_kids : ℕ → Option ℕ → Option ℕ → Pattern
seen_kids op (Some a) (Some b) = Binary op (Leaf a) (Leaf b)
seen_kids op (Some a) None = Unary op (Leaf a)
seen_kids op None b = Nullary op

abbrev pub seen_pattern : Body → Pattern
seen_pattern (Chain m) = Leaf m
seen_pattern (Operator op a b test) = seen_kids op a b

-- the range of a test's number
abbrev pub range_at : List Range → Option ℕ → Option Range
range_at tests None = None
range_at tests (Some i) = slice_get tests i

abbrev pub seen_range : List Range → Body → Option Range
seen_range tests (Chain m) = None
seen_range tests (Operator op a b test) = range_at tests test

abbrev pub seen_rule : List Range → NormalRule → Rule
seen_rule tests rule = record {
  left = rule.left;
  pattern = seen_pattern rule.body;
  template = record { parts = [] };
  cost = rule.cost;
  range = seen_range tests rule.body;
  external = None;
  line = 0;
  column = 0;
}

-- The normal rules as a grammar. Its nonterminals and operators have no names.
abbrev pub seen : NormalForm → Grammar
seen normal = record { start = 0; operators = []; nonterminals = []; rules = map (seen_rule normal.tests) normal.rules }
