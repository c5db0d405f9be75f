use Rattle.std.proofs.Common.{◌≡◌, sym, ap, ◌∙◌, arith}
use Rattle.sel_tickets.specs.Rule.{both_views}
use Rattle.sel_tickets.specs.Tickets.{joined}
use Rattle.sel_tickets.proofs.Moves.{glues}
use Rattle.sel_tickets.proofs.Drawing.{shown, shown_both}
use Rattle.sel_tickets.proofs.tickets.Tickets.join.Goals as goal

pub join_seat-requires : goal.join_seat-requires
join_seat-requires c = (
  ap (λ d. d.of.id) c.drawer.view_is ∙ ap (λ r. r.id) (c.requires.of.0 ∙ sym c.self.view_is),
  ap (λ d. d.of.id) c.other.view_is ∙ ap (λ r. r.id) (c.requires.of.1 ∙ sym c.self.view_is),
  c.other.invariant.0,
  (let w = c.self.invariant.0 in omega arith),
  glues c.self.inside.table.shared.key c.drawer.inside.seat.id c.drawer.inside.seat.me.0 c.other.inside.seat.id c.other.inside.seat.me.0 c.drawer.invariant.1 c.other.invariant.1,
)

pub returns : goal.returns
returns c =
    let seat = c.drawer.inside.seat in
    let other = c.other.inside.seat in
    let new = c.join_seat.new.seat in
    let trees : other.me.0.trees ≡ seat.me.0.trees = ap (λ d. d.of.trees) c.other.view_is ∙ ap (λ r. r.trees) (c.requires.of.1 ∙ sym c.requires.of.0) ∙ sym (ap (λ d. d.of.trees) c.drawer.view_is) in
    ap (shown new.table_id) (ap (λ m. m.0) c.join_seat.ensures.2)
    ∙ ap (λ i. shown i (both_views seat.me.0 other.me.0)) c.join_seat.ensures.0
    ∙ shown_both seat.table_id other.table_id seat.me.0 other.me.0 trees
    ∙ ap (λ d. joined d (shown other.table_id other.me.0)) c.drawer.view_is
    ∙ ap (joined c.args.drawer.now) c.other.view_is
