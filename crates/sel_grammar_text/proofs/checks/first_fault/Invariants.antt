use Rattle.std.proofs.Common.{◌≡◌, drop}
use Rattle.sel_grammar_text.specs.ItemFaults as faults
use Rattle.sel_grammar_text.proofs.checks.first_fault.Given as goal

abbrev pub invariant-places : goal.invariant-places
invariant-places l = faults.first_fault (drop l.kind-index l.kind-items) ≡ faults.first_fault l.fn.places
