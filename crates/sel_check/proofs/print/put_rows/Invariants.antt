use Rattle.std.proofs.Common.{◌≡◌, ◌++◌, drop}
use Rattle.std.specs.Prelude.{map}
use Rattle.sel_check.specs.CertificateTexts.{row_line, ended}
use Rattle.sel_check.proofs.print.put_rows.Given as goal

abbrev pub invariant-loop-row : goal.invariant-loop-row
invariant-loop-row l = l.text.items ++ ended (map row_line (drop l.row-index l.rows)) ≡ l.initial.text.items ++ ended (map row_line l.rows)
