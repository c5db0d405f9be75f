use Rattle.std.proofs.Common.{◌+◌, ◌*◌, ◌<◌, length, arith}
use Rattle.sel_full.proofs.Placing.{zero_follows, within_numbers, two_at}
use Rattle.sel_full.proofs.automaton.FullAutomaton.two_number.Goals as goal

pub overflow_mul-row : goal.overflow_mul-row
overflow_mul-row c =
    let w : c.in-Some.start + (c.args.first * c.state_count-count.result + c.args.second) < length (c.args.self.now).numbers =
    within_numbers c.args.self.now c.is_lawful.ensures.lawful _ _
    (two_at c.args.self.now c.is_lawful.ensures.lawful c.is_lawful.ensures.standing _ _ c.in-Some.ensures _ _ _ _ _ c.state_count-count.ensures c.requires.takes (c.requires.first).1 (c.requires.second).1) in
    let b = c.number_count.ensures.is in
    let d = c.number_count.ensures.few in
    omega arith

pub overflow_add-inner : goal.overflow_add-inner
overflow_add-inner c =
    let w : c.in-Some.start + (c.args.first * c.state_count-count.result + c.args.second) < length (c.args.self.now).numbers =
    within_numbers c.args.self.now c.is_lawful.ensures.lawful _ _
    (two_at c.args.self.now c.is_lawful.ensures.lawful c.is_lawful.ensures.standing _ _ c.in-Some.ensures _ _ _ _ _ c.state_count-count.ensures c.requires.takes (c.requires.first).1 (c.requires.second).1) in
    let b = c.number_count.ensures.is in
    let d = c.number_count.ensures.few in
    omega arith

pub number_at-requires : goal.number_at-requires
number_at-requires c =
    within_numbers c.args.self.now c.is_lawful.ensures.lawful _ _
    (two_at c.args.self.now c.is_lawful.ensures.lawful c.is_lawful.ensures.standing _ _ c.in-Some.ensures _ _ _ _ _ c.state_count-count.ensures c.requires.takes (c.requires.first).1 (c.requires.second).1)

pub returns-in-None : goal.returns-in-None
returns-in-None c = λ i j at at'. zero_follows c.args.self.now c.is_lawful.ensures.lawful _ _ _ c.in-None.ensures

pub returns-in-Some : goal.returns-in-Some
returns-in-Some c = λ i j at at'.
    c.number_at.ensures _
    (two_at c.args.self.now c.is_lawful.ensures.lawful c.is_lawful.ensures.standing _ _ c.in-Some.ensures _ _ _ _ _ c.state_count-count.ensures c.requires.takes at at')
