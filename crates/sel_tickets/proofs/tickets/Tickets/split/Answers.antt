use Rattle.std.proofs.Common.{sym, ap, ◌∙◌, arith}
use Rattle.sel_tickets.proofs.Moves.{cuts}
use Rattle.sel_tickets.proofs.tickets.Tickets.split.Goals as goal

pub split_seat-seat-requires : goal.split_seat-seat-requires
split_seat-seat-requires c =
    let of = ap (λ d. d.of) c.drawer.view_is ∙ c.requires.of ∙ sym c.self.view_is in (
      ap (λ r. r.id) of,
      (let w = c.self.invariant.0 in omega arith),
      cuts c.self.inside.table.shared.key c.drawer.inside.seat.id c.drawer.inside.seat.me.0 (let r = ap (λ d. d.rest) c.drawer.view_is in let l = c.requires.left in omega arith),
    )
