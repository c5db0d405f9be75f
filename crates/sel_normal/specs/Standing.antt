-- What each normal form keeps: whoever reads a rule finds numbers that exist.
use Rattle.std.specs.Prelude.{◌≡◌, ℕ, ◌+◌, ◌<◌, ◌≤◌, Option, Some, None, length}
use Rattle.sel_grammar.specs.Limits.{most_operators, most_rules, most_normal_nonterminals}
use Rattle.sel_normal.specs.declared.normal.Body.{Body}
use Rattle.sel_normal.specs.declared.normal.Body.TheVariants.{Chain, Operator}
use Rattle.sel_normal.specs.declared.normal.NormalRule.{NormalRule}
use Rattle.sel_normal.specs.NormalForms.{NormalForm, normal_at}

-- the number, where there is one, is below the bound
abbrev pub IsWithin : ℕ → Option ℕ → Type 0
IsWithin bound None = Unit {0}
IsWithin bound (Some n) = n < bound

-- a second kid stands beside a first
abbrev pub AreKids : Option ℕ → Option ℕ → Type 0
AreKids None (Some n) = ⊥
AreKids _ _ = Unit {0}

-- the nonterminals and the test of the right side are the normal form's, and the operator is one that a grammar may have
abbrev pub IsBodyWithin : NormalForm → Body → Type 0
IsBodyWithin normal (Chain n) = n < normal.nonterminals
IsBodyWithin normal (Operator op first second test) =
    IsWithin normal.nonterminals first × IsWithin normal.nonterminals second × IsWithin (length normal.tests) test × AreKids first second × (op < most_operators)

-- a rule whose left side and right side are the normal form's
pub record IsRuleWithin (normal : NormalForm) (rule : NormalRule) : Type 0 where
  pub left : rule.left < normal.nonterminals
  pub body : IsBodyWithin normal rule.body

-- There is some nonterminal, there are few of them, few rules and few tests, and each rule names only such as there are.
pub record IsStanding (normal : NormalForm) : Type 0 where
  pub some_nonterminal : 1 ≤ normal.nonterminals
  pub few_nonterminals : normal.nonterminals ≤ most_normal_nonterminals
  pub few_rules : length normal.rules ≤ most_rules + most_normal_nonterminals
  pub few_tests : length normal.tests ≤ most_rules
  pub user_rules : normal.user_rules ≤ length normal.rules
  pub within : (r : ℕ) (rule : NormalRule) → normal_at normal r ≡ Some rule → IsRuleWithin normal rule
