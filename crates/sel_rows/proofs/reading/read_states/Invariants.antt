use Rattle.std.proofs.Common.{◌≡◌, ◌+◌, ◌*◌, take}
use Rattle.sel_law.specs.Words.{read}
use Rattle.sel_rows.specs.Numbered.{states_in}
use Rattle.sel_rows.proofs.reading.read_states.Given as goal

abbrev pub invariant-loop-number : goal.invariant-loop-number
invariant-loop-number l = l.states.items ≡ states_in (λ n. read l.words (l.first + n * l.width) l.width) 0 (take l.number l.found)
