use Rattle.std.proofs.Common.{◌≡◌, ◌+◌, ◌<◌, ◌^◌, length}
use Rattle.sel_grammar_text.proofs.PlaceSteps.{behind_bytes}
use Rattle.sel_grammar_text.proofs.place.advance.Given as goal

abbrev pub invariant-bytes : goal.invariant-bytes
invariant-bytes l = record {
  same : behind_bytes (record { line = l.line; column = l.column }) l.rest ≡ behind_bytes l.fn.place l.bytes;
  line_fits : l.line + length l.rest < 2 ^ 32;
  column_fits : l.column + length l.rest < 2 ^ 32;
}

abbrev pub decreases-bytes : goal.decreases-bytes
decreases-bytes l = length l.rest
