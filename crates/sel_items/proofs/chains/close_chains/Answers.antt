-- A pass that changes nothing shows that no chain rule betters the row.
use Rattle.std.proofs.Common.{arith, ◌≡◌, sym, subst}
use Rattle.sel_items.specs.CostBounds.{AreBelow}
use Rattle.sel_items.specs.ChainClosing.{IsClosedFrom}
use Rattle.sel_items.proofs.Closings.{IsClosedFrom-still, AreBelow-kept}
use Rattle.sel_items.proofs.chains.close_chains.Goals as goal

pub returns-then-not-pass-clause-closed : goal.returns-then-not-pass-clause-closed
returns-then-not-pass-clause-closed g c =
    let same : c.pass.new.row ≡ c.passes.items.entries = c.pass.ensures.stays c.if-not-pass.true in
    subst (λ x. IsClosedFrom c.args.normal.now c.args.items.now.entries x) (sym same)
    (IsClosedFrom-still c.args.normal.now c.args.items.now.entries c.passes.items.entries c.passes.invariant.kept (c.pass.ensures.stands c.if-not-pass.true))

pub returns-then-not-pass-clause-low : goal.returns-then-not-pass-clause-low
returns-then-not-pass-clause-low g c =
    let same : c.pass.new.row ≡ c.passes.items.entries = c.pass.ensures.stays c.if-not-pass.true in
    subst (AreBelow 49) (sym same)
    (AreBelow-kept c.args.normal.now c.args.items.now.entries c.passes.items.entries (record { low = c.requires.low; short = (let h = c.requires.long in let k = c.nonterminals-few.ensures.few in omega arith) }) c.passes.invariant.kept)
