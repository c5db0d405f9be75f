use Rattle.std.proofs.Common.{◌≡◌, ◌++◌, drop}
use Rattle.std.specs.Prelude.{map}
use Rattle.std.specs.Fmt.{decimal}
use Rattle.sel_full.specs.TableTexts.{lines_text}
use Rattle.sel_full.proofs.print.put_numbers.Given as goal

abbrev pub invariant-loop-number : goal.invariant-loop-number
invariant-loop-number l = l.text.items ++ lines_text (map decimal (drop l.number-index l.numbers)) ≡ l.initial.text.items ++ lines_text (map decimal l.numbers)
