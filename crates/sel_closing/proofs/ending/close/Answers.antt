use Rattle.std.proofs.Common.{subst}
use Rattle.sel_rows.specs.Tables.{id_of, setting_of}
use Rattle.sel_closing.specs.Asking.{AreMarksOf}
use Rattle.sel_closing.proofs.Closing.{snapshots_tell}
use Rattle.sel_closing.proofs.ending.close.Goals as goal

pub returns-clause-tells : goal.returns-clause-tells
returns-clause-tells c = λ normal room made.
    snapshots_tell normal room c.args.parts c.in_ok-snapshot.snapshot c.marks_of-marks.result.used_up c.marks_of-marks.result.row_full (record {
      table = id_of c.args.rows;
      setting = setting_of c.args.rows;
      made_for = made;
      parts_of = c.requires.of;
      closed = c.in_ok-snapshot.ensures.closed;
      marks = subst (λ ps. AreMarksOf ps c.marks_of-marks.result.used_up c.marks_of-marks.result.row_full) c.as_slice.ensures c.marks_of-marks.ensures;
    })
