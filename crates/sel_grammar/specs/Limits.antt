-- The limits of a grammar, and the kinds of its faults.
use Rattle.std.specs.Prelude.{◌≡◌, ℕ, ◌<◌, ◌≤◌, length, slice_get, Option, Some, None}
use Rattle.sel_grammar.specs.declared.limits.TheConstants.{MOST_OPERATORS, MOST_NONTERMINALS, MOST_RULES, MOST_NAMES, MOST_NORMAL_NONTERMINALS, MOST_KIDS, GREATEST_COST, GREATEST_EXTERNAL, TOKEN, NO_RULES, DUPLICATE_TERM, ARITY, TERM_ON_LEFT, NO_RULE, COST_FORM, COST_LARGE, TEMPLATE_FORM, KID_NUMBER, RESULT_IN_FRAGMENT, RANGE_PLACE, TOO_MANY, ZERO_CYCLE}
use Rattle.sel_grammar.specs.declared.grammar.Grammar.{Grammar}
use Rattle.sel_grammar.specs.declared.grammar.Operator.{Operator}
use Rattle.sel_grammar.specs.declared.grammar.Rule.{Rule}

abbrev pub most_operators : ℕ
most_operators = MOST_OPERATORS

abbrev pub most_nonterminals : ℕ
most_nonterminals = MOST_NONTERMINALS

abbrev pub most_rules : ℕ
most_rules = MOST_RULES

-- how many names a pattern may have, its root's among them
abbrev pub most_names : ℕ
most_names = MOST_NAMES

-- how many nonterminals the normal form of a grammar may have
abbrev pub most_normal_nonterminals : ℕ
most_normal_nonterminals = MOST_NORMAL_NONTERMINALS

-- how many kids an operator may have
abbrev pub most_kids : ℕ
most_kids = MOST_KIDS

-- the greatest number of a rule's cost
abbrev pub greatest_cost : ℕ
greatest_cost = GREATEST_COST

-- the greatest number that `%term` gives an operator, and that a BURG rule gives itself
abbrev pub greatest_external : ℕ
greatest_external = GREATEST_EXTERNAL

-- no text of the form goes on with this token
abbrev pub token : ℕ
token = TOKEN

abbrev pub no_rules : ℕ
no_rules = NO_RULES

abbrev pub duplicate_term : ℕ
duplicate_term = DUPLICATE_TERM

abbrev pub arity : ℕ
arity = ARITY

abbrev pub term_on_left : ℕ
term_on_left = TERM_ON_LEFT

abbrev pub no_rule : ℕ
no_rule = NO_RULE

abbrev pub cost_form : ℕ
cost_form = COST_FORM

abbrev pub cost_large : ℕ
cost_large = COST_LARGE

abbrev pub template_form : ℕ
template_form = TEMPLATE_FORM

abbrev pub kid_number : ℕ
kid_number = KID_NUMBER

abbrev pub result_in_fragment : ℕ
result_in_fragment = RESULT_IN_FRAGMENT

abbrev pub range_place : ℕ
range_place = RANGE_PLACE

abbrev pub too_many : ℕ
too_many = TOO_MANY

abbrev pub zero_cycle : ℕ
zero_cycle = ZERO_CYCLE

-- an operator takes none, one or two kids, or it is open how many
abbrev pub IsArity : Option ℕ → Type 0
IsArity None = Unit {0}
IsArity (Some kids) = kids ≤ most_kids

-- What each grammar keeps that a text spells.
pub record IsWithinLimits (g : Grammar) : Type 0 where
  pub start : g.start < length g.nonterminals
  pub lefts : (k : ℕ) (rule : Rule) → slice_get g.rules k ≡ Some rule → rule.left < length g.nonterminals
  pub arities : (k : ℕ) (operator : Operator) → slice_get g.operators k ≡ Some operator → IsArity operator.arity
  pub operators : length g.operators ≤ most_operators
  pub nonterminals : length g.nonterminals ≤ most_nonterminals
  pub rules : length g.rules ≤ most_rules
