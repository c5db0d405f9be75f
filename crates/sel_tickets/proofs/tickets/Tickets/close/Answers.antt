use Rattle.std.proofs.Common.{◌≡◌, ◌≤◌, sym, ap, ◌∙◌, arith}
use Rattle.std.specs.Slots.{slots_items}
use Rattle.std.specs.Prelude.{slice_index}
use Rattle.sel_tickets.specs.Sums.{times, one_if_below, late_in}
use Rattle.sel_tickets.proofs.Moves.{closes, below_once}
use Rattle.sel_tickets.proofs.tickets.Tickets.close.Goals as goal

pub close_with-closed-requires : goal.close_with-closed-requires
close_with-closed-requires c = ap (λ d. d.of.id) c.drawer.view_is ∙ ap (λ r. r.id) (c.requires.of ∙ sym c.self.view_is)

pub free-requires : goal.free-requires
free-requires c = λ k h. absurd (let a = c.close_with-closed.ensures.counts.1 in let b = c.self.invariant.1 in omega arith)

pub returns : goal.returns
returns c = λ x.
    let seat = c.drawer.inside.seat in
    let closed = c.close_with-closed.result in
    let whole : seat.me.0.seats ≡ c.self.inside.table.shared.key.workers = ap (λ d. d.seats) c.drawer.view_is ∙ c.requires.whole ∙ sym (ap (λ r. r.workers) c.self.view_is) in
    let all = closes c.self.inside.table.shared.key (slots_items closed.words) (slots_items closed.slots) seat.id seat.me.0 whole c.close_with-closed.ensures.values.2 in
    let ended : 1 ≤ late_in seat.me.0.trees seat.me.0.drawn = (let e = ap (λ d. d.ended) c.drawer.view_is in let r = c.requires.ended in omega arith) in
    ap (λ d. times x d.numbers) (sym c.drawer.view_is)
    ∙ below_once seat.me.0.trees (slice_index (slots_items closed.words) 0) seat.me.0.drawn ended all x
    ∙ ap (one_if_below x) (ap (λ d. d.of.trees) c.drawer.view_is ∙ ap (λ r. r.trees) c.requires.of)
