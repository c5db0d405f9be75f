use Rattle.std.proofs.Common.{length}
use Rattle.std.specs.List.{AllByRecursion}
use Rattle.sel_grammar_text.specs.Places.{IsMark}
use Rattle.sel_grammar_text.specs.Reading.{IsReading}
use Rattle.sel_grammar_text.proofs.read.read_items.Given as goal

abbrev pub invariant-items : goal.invariant-items
invariant-items l = IsReading l.bytes l.tables l.from × AllByRecursion (IsMark l.bytes) l.marks.items

abbrev pub decreases-items : goal.decreases-items
decreases-items l = length l.from.left.now
