-- What each grammar keeps that a text spells, whole.
use Rattle.std.specs.Prelude.{◌≡◌, ℕ, List, ◌+◌, ◌<◌, ◌≤◌, Some, slice_get, length}
use Rattle.sel_base.specs.declared.range.Range.{Range}
use Rattle.sel_grammar.specs.declared.grammar.Grammar.{Grammar}
use Rattle.sel_grammar.specs.declared.grammar.Operator.{Operator}
use Rattle.sel_grammar.specs.declared.grammar.Pattern.{Pattern, Leaf, Nullary, Unary', Binary', end_of-Pattern, more_of-Pattern}
use Rattle.sel_grammar.specs.declared.grammar.Rule.{Rule}
use Rattle.sel_grammar.specs.Limits.{IsWithinLimits, most_names, greatest_cost}
use Rattle.sel_grammar.specs.Names.{IsName}

-- how many names a pattern has
abbrev pub names_of : Pattern → ℕ
names_of (Leaf n) = 1
names_of (Nullary op) = 1
names_of (Unary' op s (more_of-Pattern p end_of-Pattern)) = 1 + names_of p
names_of (Binary' op s (more_of-Pattern p end_of-Pattern) s' (more_of-Pattern q end_of-Pattern)) = 1 + (names_of p + names_of q)

-- the grammar has the operator, with so many kids
abbrev pub HasOperator : Grammar → ℕ → ℕ → Type 0
HasOperator g op kids = (operator : Operator) × (slice_get g.operators op ≡ Some operator) × (operator.arity ≡ Some kids)

-- each nonterminal of the pattern is the grammar's, and each operator is, with as many kids as it has
abbrev pub IsPatternOf : Grammar → Pattern → Type 0
IsPatternOf g (Leaf n) = n < length g.nonterminals
IsPatternOf g (Nullary op) = HasOperator g op 0
IsPatternOf g (Unary' op s (more_of-Pattern p end_of-Pattern)) = HasOperator g op 1 × IsPatternOf g p
IsPatternOf g (Binary' op s (more_of-Pattern p end_of-Pattern) s' (more_of-Pattern q end_of-Pattern)) = HasOperator g op 2 × (IsPatternOf g p × IsPatternOf g q)

-- The rule's pattern is one of the grammar and not too large, a range stands only with one operator without kids, and neither number of the cost is too large.
pub record IsRuleOf (g : Grammar) (rule : Rule) : Type 0 where
  pub pattern : IsPatternOf g rule.pattern
  pub names : names_of rule.pattern ≤ most_names
  pub range : (range : Range) → rule.range ≡ Some range → (op : ℕ) × (rule.pattern ≡ Nullary op)
  pub cost : ((rule.cost).first ≤ greatest_cost) × ((rule.cost).second ≤ greatest_cost)

-- the grammar is within the limits, and so is each of its rules
pub record IsLawful (g : Grammar) : Type 0 where
  pub within : IsWithinLimits g
  pub rules : (k : ℕ) (rule : Rule) → slice_get g.rules k ≡ Some rule → IsRuleOf g rule

-- each operator has a name, and no two have the same
pub record HasNames (g : Grammar) : Type 0 where
  pub named : (k : ℕ) (operator : Operator) → slice_get g.operators k ≡ Some operator → IsName operator.name
  pub differ : (j k : ℕ) (a b : Operator) → slice_get g.operators j ≡ Some a → slice_get g.operators k ≡ Some b → a.name ≡ b.name → j ≡ k
