use Rattle.std.proofs.Common.{arith, map, sym, subst}
use Rattle.std.specs.Fmt.{decimal}
use Rattle.sel_table.specs.LineReading.{IsNumber}
use Rattle.sel_table.proofs.Taking.{SoFar, took_room, so_far_none, so_far_more, early_behind}
use Rattle.sel_table.proofs.lines.Lines.numbers.Goals as goal

pub lines-init : goal.lines-init
lines-init c = subst (SoFar IsNumber decimal c.args.self.now c.args.self.now 0) (sym c.new-numbers.ensures) (so_far_none IsNumber decimal c.args.self.now)

pub number-requires : goal.number-requires
number-requires c =
    let room = c.requires.room in
    record { room = omega (arith, room, took_room c.args.self.now c.lines.self (map decimal c.lines.numbers) c.lines.invariant.took) }

pub returns-in-Err-clause-fault : goal.returns-in-Err-clause-fault
returns-in-Err-clause-fault c =
    early_behind IsNumber decimal c.args.self.now c.lines.self c.lines._line c.args.count c.lines.numbers c.in-Err.refusal c.lines.invariant c.lines-test.true c.in-Err.ensures.fault

pub lines-preserved : goal.lines-preserved
lines-preserved c =
    so_far_more IsNumber decimal c.args.self.now c.lines.self c.number.new.self c.lines._line c.lines.numbers c.push.new.self c.in-Ok.number c.lines.invariant c.in-Ok.ensures.is c.in-Ok.ensures.line c.in_ok-push.ensures.ok
