use Rattle.std.proofs.Common.{◌+◌, ap, ◌∙◌, slice_get}
use Rattle.sel_full.specs.Automata.{FullTable}
use Rattle.sel_full.proofs.Placing.{found_follows, missed_follows}
use Rattle.sel_full.proofs.automaton.FullAutomaton.number_at.Goals as goal

pub returns-in-Some : goal.returns-in-Some
returns-in-Some c =
    found_follows c.args.self.now c.is_lawful.ensures.lawful (c.args.start + c.args.inner) c.in-Some.number.now
    (c.in-Some.ensures.value ∙ ap (λ (t : FullTable). slice_get t.numbers (c.args.start + c.args.inner)) c.self.view_is)

pub returns-in-None : goal.returns-in-None
returns-in-None c =
    missed_follows c.args.self.now c.is_lawful.ensures.lawful (c.args.start + c.args.inner) 0
    (c.in-None.ensures.value ∙ ap (λ (t : FullTable). slice_get t.numbers (c.args.start + c.args.inner)) c.self.view_is)
