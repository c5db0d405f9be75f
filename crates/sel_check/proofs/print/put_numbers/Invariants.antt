use Rattle.std.proofs.Common.{◌≡◌, ◌++◌, drop}
use Rattle.std.specs.Prelude.{flat_map, codes}
use Rattle.std.specs.Fmt.{decimal}
use Rattle.sel_check.proofs.print.put_numbers.Given as goal

abbrev pub invariant-loop-number : goal.invariant-loop-number
invariant-loop-number l = l.text.items ++ flat_map (λ r. codes " " ++ decimal r) (drop l.number-index l.numbers) ≡ l.initial.text.items ++ flat_map (λ r. codes " " ++ decimal r) l.numbers
