use Rattle.std.proofs.Common.{◌≡◌, take}
use Rattle.std.specs.List.{All}
use Rattle.sel_range.specs.Classes.{cuts}
use Rattle.sel_range.specs.Limits.{IsAttributeNumber}
use Rattle.sel_range.proofs.cuts.all_cuts.Given as goal

abbrev pub invariant-loop-test : goal.invariant-loop-test
invariant-loop-test l = record { all : l.all.items ≡ cuts (take l.test-index l.tests); numbers : All IsAttributeNumber l.all.items }
