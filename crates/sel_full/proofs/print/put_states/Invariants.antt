use Rattle.std.proofs.Common.{◌≡◌, ◌++◌, drop}
use Rattle.std.specs.Prelude.{map}
use Rattle.sel_full.specs.TableTexts.{state_text, lines_text}
use Rattle.sel_full.proofs.print.put_states.Given as goal

abbrev pub invariant-loop-items : goal.invariant-loop-items
invariant-loop-items l = l.text.items ++ lines_text (map state_text (drop l.items-index l.states)) ≡ l.initial.text.items ++ lines_text (map state_text l.states)
