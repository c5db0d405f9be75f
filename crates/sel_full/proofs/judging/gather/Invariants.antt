use Rattle.std.proofs.Common.{◌≡◌, ℕ, ◌<◌, take}
use Rattle.sel_full.specs.Judging.{IsWrongState}
use Rattle.sel_full.proofs.judging.gather.Given as goal

abbrev pub invariant-loop-items : goal.invariant-loop-items
invariant-loop-items l = record { are : l.states ≡ take l.items-index l.list; right : (k : ℕ) → k < l.items-index → IsWrongState l.list k → ⊥ }
