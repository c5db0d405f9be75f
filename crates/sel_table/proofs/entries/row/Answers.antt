use Rattle.std.proofs.Common.{arith}
use Rattle.sel_table.proofs.Items.{row_wrong, row_end, row_long, row_next}
use Rattle.sel_table.proofs.entries.row.Goals as goal

pub returns-in_default : goal.returns-in_default
returns-in_default c = row_wrong c.args.line.now _ _ c.args.width _ _ c.first_part-cut.ensures.lacks c.first_part-cut.ensures.whole c.requires c.args.rules (let few = c.ranges.rules.fits in omega (arith, few)) c.parts.invariant c.in_default.ensures

pub returns-in_default-rest : goal.returns-in_default-rest
returns-in_default-rest c =
    row_end c.args.line.now _ _ c.args.width _ _ c.first_part-cut.ensures.lacks c.first_part-cut.ensures.whole c.requires c.args.rules (let few = c.ranges.rules.fits in omega (arith, few)) c.parts.invariant c.in-Some.entry c.push.new.self.items c.in-Some.ensures.1 c.in-Some.ensures.0
    c.in_ok-push.ensures.items c.full_row.result c.in_default-rest.is c.full_row.ensures

pub returns-then-len-width : goal.returns-then-len-width
returns-then-len-width c =
    row_long c.args.line.now _ _ c.args.width _ _ c.first_part-cut.ensures.lacks c.first_part-cut.ensures.whole c.requires c.args.rules (let few = c.ranges.rules.fits in omega (arith, few)) c.parts.invariant c.in-Some.entry c.push.new.self.items c.in-Some.ensures.1 c.in-Some.ensures.0
    c.in_ok-push.ensures.items c.in-Some-rest.behind c.in-Some-rest.is (let held = c.push.new.self.ok.0 in let full = c.if-len-width.true in omega (arith, held, c.len.ensures, full))

pub parts-preserved : goal.parts-preserved
parts-preserved c =
    row_next c.args.line.now _ _ c.args.width _ _ c.first_part-cut.ensures.lacks c.first_part-cut.ensures.whole c.requires c.args.rules (let few = c.ranges.rules.fits in omega (arith, few)) c.parts.invariant c.in-Some.entry c.push.new.self.items c.in-Some.ensures.1 c.in-Some.ensures.0
    c.in_ok-push.ensures.items c.in-Some-rest.behind c.in-Some-rest.is (λ e. c.if-len-width.false (let held = c.push.new.self.ok.0 in omega (arith, held, c.len.ensures, e)))
