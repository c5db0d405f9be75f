-- Derivations under a grammar and under its normal form: each one has a match with the same cost and, helpers left out, the same list.
use Rattle.std.specs.Prelude.{◌≡◌, ℕ, nat_le, List}
use Rattle.std.specs.List.{filter}
use Rattle.sel_grammar.specs.declared.grammar.Grammar.{Grammar}
use Rattle.sel_grammar.specs.PlainTrees.{PlainTree}
use Rattle.sel_grammar.specs.Derivations.{Derivation, Derives, cost, list}
use Rattle.sel_normal.specs.NormalForms.{NormalForm}
use Rattle.sel_normal.specs.Seen.{seen}

-- the list without the rules of helpers, which are numbered behind the user's
abbrev pub without_helpers : NormalForm → List ℕ → List ℕ
without_helpers normal = filter (λ r. nat_le r normal.user_rules)

-- a derivation under the grammar and one under the normal form cost the same, and have the same list but for helpers
pub record AreMatched (g : Grammar) (normal : NormalForm) (d e : Derivation) : Type 0 where
  pub costs : cost (seen normal) e ≡ cost g d
  pub lists : without_helpers normal (list e) ≡ list d

-- there is exactly one derivation in the normal form that matches d
pub record HasNormalMatch (g : Grammar) (normal : NormalForm) (n : ℕ) (t : PlainTree) (d : Derivation) : Type 0 where
  pub normal_one : Derivation
  pub derives : Derives (seen normal) normal_one n t
  pub matched : AreMatched g normal d normal_one
  pub only : (e : Derivation) → Derives (seen normal) e n t → AreMatched g normal d e → e ≡ normal_one

-- there is exactly one derivation under the grammar that e matches
pub record HasUserMatch (g : Grammar) (normal : NormalForm) (n : ℕ) (t : PlainTree) (e : Derivation) : Type 0 where
  pub user_one : Derivation
  pub derives : Derives g user_one n t
  pub matched : AreMatched g normal user_one e
  pub only : (d : Derivation) → Derives g d n t → AreMatched g normal d e → d ≡ user_one
