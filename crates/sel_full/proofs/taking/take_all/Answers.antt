use Rattle.std.proofs.Common.{arith, ◌<◌, length}
use Rattle.sel_full.proofs.Rounds.{rounds_begin, rounds_next, rounds_more, not_end}
use Rattle.sel_full.proofs.taking.take_all.Goals as goal

pub loop-last-init : goal.loop-last-init
loop-last-init c = record { took = rounds_begin c.args.normal.now c.args.states.now c.take_leaves.new.states c.requires.one c.in_ok-take_leaves.ensures.took; found = c.in_ok-take_leaves.ensures.found; within = omega arith }

pub loop-last-preserved : goal.loop-last-preserved
loop-last-preserved c =
    let a = c.loop-last.states in
    let lt : c.loop-last.last < length a = not_end c.loop-last.last (length a) c.len.result c.loop-last.invariant.within c.len.ensures c.if-last-len.false in
    record {
      took = rounds_next c.args.normal.now a c.take_round.new.states c.loop-last.last lt c.loop-last.invariant.took c.in_ok-take_round.ensures.took;
      found = c.in_ok-take_round.ensures.found;
      within = rounds_more c.args.normal.now a c.take_round.new.states _ c.loop-last.last lt c.in_ok-take_round.ensures.took;
    }
