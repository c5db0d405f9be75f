use Rattle.std.proofs.Common.{◌≡◌, map}
use Rattle.sel_items.specs.Unpacking.{unpacked}
use Rattle.sel_law.specs.Words.{read}
use Rattle.sel_rows.proofs.reading.read_content.Given as goal

abbrev pub invariant-loop-index : goal.invariant-loop-index
invariant-loop-index l = l.entries.items ≡ map unpacked (read l.words l.first l.index)
