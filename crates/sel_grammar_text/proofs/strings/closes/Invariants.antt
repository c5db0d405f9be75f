use Rattle.std.proofs.Common.{◌≡◌, length}
use Rattle.sel_grammar_text.specs.FormFaults as faults
use Rattle.sel_grammar_text.proofs.strings.closes.Given as goal

abbrev pub invariant-further : goal.invariant-further
invariant-further l = faults.closes l.left ≡ faults.closes l.bytes

abbrev pub decreases-further : goal.decreases-further
decreases-further l = length l.left
