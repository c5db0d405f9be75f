use Rattle.std.proofs.Common.{arith, map, sym, subst}
use Rattle.sel_full.specs.Forms.{IsFormState}
use Rattle.sel_full.specs.TableTexts.{state_text}
use Rattle.sel_table.proofs.Taking.{SoFar, took_room, so_far_none, so_far_more, early_behind}
use Rattle.sel_table.proofs.lines.Lines.states.Goals as goal

pub lines-init : goal.lines-init
lines-init c = subst (SoFar (IsFormState c.args.normal.now) state_text c.args.self.now c.args.self.now 0) (sym c.new-states.ensures) (so_far_none (IsFormState c.args.normal.now) state_text c.args.self.now)

pub state-requires : goal.state-requires
state-requires c =
    let room = c.requires.room in
    record { room = omega (arith, room, took_room c.args.self.now c.lines.self (map state_text c.lines.states) c.lines.invariant.took) }

pub returns-in-Err-clause-fault : goal.returns-in-Err-clause-fault
returns-in-Err-clause-fault c =
    early_behind (IsFormState c.args.normal.now) state_text c.args.self.now c.lines.self c.lines._line c.args.count c.lines.states c.in-Err.refusal c.lines.invariant c.lines-test.true c.in-Err.ensures.fault

pub lines-preserved : goal.lines-preserved
lines-preserved c =
    so_far_more (IsFormState c.args.normal.now) state_text c.args.self.now c.lines.self c.state.new.self c.lines._line c.lines.states c.push.new.self c.in-Ok.items c.lines.invariant c.in-Ok.ensures.is c.in-Ok.ensures.line c.in_ok-push.ensures.ok
