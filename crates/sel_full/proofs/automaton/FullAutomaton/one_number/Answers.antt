use Rattle.sel_full.proofs.Placing.{zero_follows, within_numbers, one_at}
use Rattle.sel_full.proofs.automaton.FullAutomaton.one_number.Goals as goal

pub number_at-requires : goal.number_at-requires
number_at-requires c =
    within_numbers c.args.self.now c.is_lawful.ensures.lawful _ _
    (one_at c.args.self.now c.is_lawful.ensures.lawful c.is_lawful.ensures.standing _ _ c.in-Some.ensures _ _ c.requires.takes (c.requires.first).1)

pub returns-in-None : goal.returns-in-None
returns-in-None c = λ i at. zero_follows c.args.self.now c.is_lawful.ensures.lawful _ _ _ c.in-None.ensures

pub returns-in-Some : goal.returns-in-Some
returns-in-Some c = λ i at. c.number_at.ensures _ (one_at c.args.self.now c.is_lawful.ensures.lawful c.is_lawful.ensures.standing _ _ c.in-Some.ensures _ _ c.requires.takes at)
