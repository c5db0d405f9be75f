-- Each turn takes the cost away from one entry.
use Rattle.std.proofs.Common.{◌≡◌, ◌+◌, ◌<◌, length, Some, ap, sym, ◌∙◌, subst, arith}
use Rattle.sel_items.specs.Entries.{item_at, raised}
use Rattle.sel_items.proofs.Rows.{IsReducedTo, reduced_more, reduced_all}
use Rattle.sel_items.proofs.reduction.take_away.Goals as goal

pub reduced-relative-requires-clause-entry : goal.reduced-relative-requires-clause-entry
reduced-relative-requires-clause-entry c = λ item is.
    let old = c.args.entries.now in
    let here : item_at old c.loop-n.n ≡ Some item =
    sym (c.loop-n.invariant.behind c.loop-n.n (omega arith)) ∙ ap (λ xs. item_at xs c.loop-n.n) (sym c.as_slice.ensures) ∙ sym c.entry_of-entry.ensures ∙ is in
    (c.requires.entries c.loop-n.n item here, c.requires.order c.loop-n.n item here)

pub loop-n-preserved : goal.loop-n-preserved
loop-n-preserved c =
    let inside : c.loop-n.n < length c.loop-n.entries = let l = c.loop-n.invariant.long in omega arith in
    let is : item_at c.loop-n.entries c.loop-n.n ≡ raised c.args.least c.reduced-relative.result =
    ap (λ xs. item_at xs c.loop-n.n) (sym c.as_slice.ensures) ∙ sym c.entry_of-entry.ensures ∙ c.reduced-relative.ensures in
    subst (λ x. IsReducedTo (c.loop-n.n + 1) c.args.least c.args.entries.now x) (sym c.set.ensures)
    (reduced_more c.loop-n.n c.args.least c.args.entries.now c.loop-n.entries c.reduced-relative.result inside c.loop-n.invariant is)

pub returns-clause-raised : goal.returns-clause-raised
returns-clause-raised c = reduced_all c.loop-n.n c.args.least c.args.entries.now c.loop-n.entries (omega arith) c.loop-n.invariant
