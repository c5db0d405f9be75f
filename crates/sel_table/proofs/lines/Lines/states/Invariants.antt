use Rattle.sel_full.specs.Forms.{IsFormState}
use Rattle.sel_full.specs.TableTexts.{state_text}
use Rattle.sel_table.proofs.Taking.{SoFar}
use Rattle.sel_table.proofs.lines.Lines.states.Given as goal

abbrev pub invariant-lines : goal.invariant-lines
invariant-lines l = SoFar (IsFormState l.normal) state_text l.initial.self l.self l._line l.states
