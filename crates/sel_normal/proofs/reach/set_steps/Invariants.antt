use Rattle.std.proofs.Common.{◌≡◌, ◌≤◌, ◌⊎◌, ℕ, length}
use Rattle.std.specs.Prelude.{◌↔◌}
use Rattle.sel_grammar.specs.Chains.{IsFreeStep}
use Rattle.sel_normal.specs.Reach.{Leads}
use Rattle.sel_normal.proofs.reach.set_steps.Given as goal

abbrev pub invariant-loop-rule : goal.invariant-loop-rule
invariant-loop-rule l = (n m : ℕ) → Leads l.rows n m ↔ (Leads l.initial.rows n m ⊎ ((r : ℕ) × (r ≤ l.rule-index) × IsFreeStep l.grammar r n m))
