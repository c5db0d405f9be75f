-- One turn of the loop that offers each chain rule to a row.
use Rattle.std.proofs.Common.{◌≡◌, ℕ, zero, suc, ◌+◌, ◌<◌, ◌⊎◌, inl, inr, length, ap, sym, ◌∙◌, subst, arith, Some, slice_get, add-one}
use Rattle.sel_normal.specs.declared.normal.NormalRule.{NormalRule}
use Rattle.sel_normal.specs.NormalForms.{NormalForm, normal_at}
use Rattle.sel_items.specs.Entries.{ItemRow}
use Rattle.sel_items.specs.CostBounds.{AreBelow}
use Rattle.sel_items.specs.ChainPasses.{IsTurned, ChainStands, AllStand, KeepsRow, HasStart}
use Rattle.sel_normal.proofs.Steps.{some_same, some_none}
use Rattle.sel_items.proofs.Rows.{length-slice_set}
use Rattle.sel_items.proofs.Closings.{IsKeptFrom-turned, AreBelow-kept}

module _ (normal : NormalForm) (old : ItemRow) where
  abbrev pub StandsTo : ℕ → Type 0
  StandsTo k = (j : ℕ) (rule : NormalRule) → j < k → slice_get normal.rules j ≡ Some rule → ChainStands rule (j + 1) old

  pub stands_more : (k : ℕ) (rule : NormalRule) → slice_get normal.rules k ≡ Some rule → StandsTo k → ChainStands rule (k + 1) old → StandsTo (k + 1)
  stands_more k rule at below here j rule' lt at' = go (split j k lt)
    where
      split : (j k : ℕ) → j < k + 1 → (j < k) ⊎ (j ≡ k)
      split j k h = grind arith

      go : (j < k) ⊎ (j ≡ k) → ChainStands rule' (j + 1) old
      go (inl h) = below j rule' h at'
      go (inr q) =
          let same : rule ≡ rule' = some_same (sym at ∙ ap (slice_get normal.rules) (sym q) ∙ at') in
          subst (λ x. ChainStands rule' (x + 1) old) (sym q) (subst (λ (x : NormalRule). ChainStands x (k + 1) old) same here)

  pub stands_all : (k : ℕ) → ((j : ℕ) (rule : NormalRule) → slice_get normal.rules j ≡ Some rule → j < k) → StandsTo k → AllStand normal old
  stands_all k within h zero rule at = absurd (some_none (sym at))
  stands_all k within h (suc j) rule at = subst (λ x. ChainStands rule x old) (add-one j) (h j rule (within j rule at) at)

  pub keeps_more : (row new : ItemRow) (k : ℕ) (rule : NormalRule) → slice_get normal.rules k ≡ Some rule → rule.left < length row → KeepsRow normal old row → IsTurned rule (k + 1) row new → KeepsRow normal old new
  keeps_more row new k rule at inside keeps t start low kept =
      let numbered : normal_at normal (k + 1) ≡ Some rule = rw (add-one) at in
      IsKeptFrom-turned normal start row new rule (k + 1) numbered inside (keeps start low kept) t

  pub long_more : (rule : NormalRule) (r : ℕ) (row new : ItemRow) → IsTurned rule r row new → length row ≡ length old → length new ≡ length old
  long_more rule r row new t h = ap length (t.bettered).set ∙ length-slice_set row rule.left (Some ((t.bettered).item)) ∙ h

pub below_now : (normal : NormalForm) (old row : ItemRow) → HasStart normal old → KeepsRow normal old row → AreBelow 49 row
below_now normal old row (start, low, kept) keeps = AreBelow-kept normal start row low (keeps start low kept)
