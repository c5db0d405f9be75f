-- Each turn looks at one entry.
use Rattle.std.proofs.Common.{◌≡◌, sym, subst, arith, length}
use Rattle.sel_items.proofs.Rows.{LeastBelow, least_more, least_all}
use Rattle.sel_items.proofs.reduction.least_cost.Goals as goal

pub loop-n-preserved : goal.loop-n-preserved
loop-n-preserved c = least_more c.args.entries.now c.loop-n.n c.loop-n.least c.entry_of.result c.with_entry-least.result (sym c.entry_of.ensures) c.loop-n.invariant c.with_entry-least.ensures

pub returns : goal.returns
returns c =
    let same : c.loop-n.n ≡ length c.args.entries.now = let h = c.loop-n.auto.n-end in let k = c.loop-n-test.false in omega arith in
    least_all c.args.entries.now c.loop-n.least (subst (λ n. LeastBelow c.args.entries.now n c.loop-n.least) same c.loop-n.invariant)
