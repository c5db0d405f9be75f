use Rattle.std.proofs.Common.{arith, map}
use Rattle.sel_check.specs.CertificateTexts.{row_line}
use Rattle.sel_check.proofs.Reading.{refused_row, rows_more, took_room}
use Rattle.sel_check.proofs.lines.Lines.rows.Goals as goal

pub row-requires-clause-room : goal.row-requires-clause-room
row-requires-clause-room c =
    let room = c.requires.room in
    omega (arith, room, took_room c.args.self.now c.nodes.self (map row_line c.nodes.rows) c.nodes.invariant.took)

pub returns-in-Err-clause-fault : goal.returns-in-Err-clause-fault
returns-in-Err-clause-fault c = λ others.
    refused_row c.args.self.now c.nodes.self c.args.width c.args.nodes.now c.nodes._node-index c._node-item.result c.nodes.rows others c.in-Err.refusal c.nodes-test.true c._node-item.is
    c.nodes.invariant.count_is c.nodes.invariant.all c.nodes.invariant.took c.in-Err.ensures.fault

pub nodes-preserved : goal.nodes-preserved
nodes-preserved c =
    rows_more c.args.self.now c.nodes.self c.row.new.self c.args.width c.nodes._node-index c.nodes.rows c.push.new.self c.in-Ok.row c.nodes.invariant c.in-Ok.ensures.line.0 c.in-Ok.ensures.line.1 c.in_ok-push.ensures.ok
