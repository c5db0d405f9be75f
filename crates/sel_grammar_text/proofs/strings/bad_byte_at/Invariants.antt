use Rattle.std.proofs.Common.{◌≡◌, ◌+◌, ◌≤◌, length}
use Rattle.sel_grammar_text.specs.FormFaults as faults
use Rattle.sel_grammar_text.proofs.strings.bad_byte_at.Given as goal

abbrev pub invariant-bytes : goal.invariant-bytes
invariant-bytes l = record {
  same : faults.bad_byte l.at l.rest ≡ faults.bad_byte l.start l.inside;
  room : l.at + length l.rest ≤ l.start + length l.inside;
}

abbrev pub decreases-bytes : goal.decreases-bytes
decreases-bytes l = length l.rest
