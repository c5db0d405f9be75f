-- What a normal form is to a caller.
use Rattle.std.specs.Prelude.{ℕ, Option, None, List, slice_get}
use Rattle.std.proofs.Common.{zero, suc}
use Rattle.sel_base.specs.declared.range.Range.{Range}
use Rattle.sel_normal.specs.declared.normal.NormalRule.{NormalRule}

-- how many normal nonterminals it has, how many of its rules are the user's, its rules, and the ranges that they test
pub record NormalForm : Type 0 where
  pub nonterminals : ℕ
  pub user_rules : ℕ
  pub rules : List NormalRule
  pub tests : List Range

-- the normal rule of a number, from 1
abbrev pub normal_at : NormalForm → ℕ → Option NormalRule
normal_at normal zero = None
normal_at normal (suc k) = slice_get normal.rules k
