use Rattle.std.proofs.Common.{ℕ, ◌<◌}
use Rattle.sel_items.specs.Entries.{item_at}
use Rattle.sel_full.specs.Builds.{IsDearEntry}
use Rattle.sel_full.proofs.keeping.has_dear_entry.Given as goal

abbrev pub invariant-loop-entry : goal.invariant-loop-entry
invariant-loop-entry l = (n : ℕ) → n < l.entry-index → IsDearEntry (item_at l.items.entries n) → ⊥
