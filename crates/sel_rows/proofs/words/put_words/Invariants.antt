use Rattle.std.proofs.Common.{◌-◌, ◌≡◌, ℕ, ◌<◌, length}
use Rattle.std.specs.Prelude.{slice_index}
use Rattle.sel_items.specs.Entries.{item_at}
use Rattle.sel_items.specs.Unpacking.{unpacked}
use Rattle.sel_items.specs.Words.{IsWordOf}
use Rattle.sel_rows.proofs.words.put_words.Given as goal

abbrev pub invariant-loop-index : goal.invariant-loop-index
invariant-loop-index l = record {
  long : length l.words ≡ length l.items.entries;
  again : (j : ℕ) → j < l.index → unpacked (slice_index l.words j) ≡ item_at l.items.entries j;
  packed : (j : ℕ) → j < l.index → IsWordOf (unpacked (slice_index l.words j)) (slice_index l.words j);
}

abbrev pub decreases-loop-index : goal.decreases-loop-index
decreases-loop-index l = length l.words - l.index
