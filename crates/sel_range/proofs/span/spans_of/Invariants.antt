use Rattle.std.proofs.Common.{◌≡◌, map, take}
use Rattle.sel_range.specs.SortedCuts.{span_among}
use Rattle.sel_range.proofs.span.spans_of.Given as goal

abbrev pub invariant-loop-test : goal.invariant-loop-test
invariant-loop-test l = l.spans.items ≡ map (span_among l.sorted) (take l.test-index l.tests)
