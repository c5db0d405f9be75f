use Rattle.sel_closing.proofs.PartMarks.{mark_of_parts}
use Rattle.sel_rows.specs.Parts.{part_used_up, part_row_full}
use Rattle.sel_closing.proofs.ending.marks_of.Goals as goal

pub returns : goal.returns
returns c = record {
  numbers = mark_of_parts part_used_up c.args.parts.now _ c.any_used_up.ensures;
  row = mark_of_parts part_row_full c.args.parts.now _ c.any_row_full.ensures;
}
