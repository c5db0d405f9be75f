use Rattle.std.proofs.Common.{◌≡◌, ◌<◌, length, sym, ap, ◌∙◌, arith}
use Rattle.sel_tickets.specs.Sums.{late_in}
use Rattle.sel_tickets.proofs.Sums.{below_short}
use Rattle.sel_tickets.proofs.Moves.{draws}
use Rattle.sel_tickets.specs.Tickets.{with_number, with_end}
use Rattle.sel_tickets.proofs.Drawing.{shown, drew_number, drew_end}
use Rattle.sel_tickets.proofs.tickets.Tickets.draw.Goals as goal
use Rattle.sel_tickets.proofs.tickets.Tickets.draw.Goals.{then-number-self, else-number-self}

pub fetch_add-number-requires : goal.fetch_add-number-requires
fetch_add-number-requires c =
    let of = ap (λ d. d.of) c.drawer.view_is ∙ c.requires.of ∙ sym c.self.view_is in
    let few : late_in c.drawer.inside.seat.me.0.trees c.drawer.inside.seat.me.0.drawn < c.drawer.inside.seat.me.0.seats =
    let e = ap (λ d. d.ended) c.drawer.view_is in let s = ap (λ d. d.seats) c.drawer.view_is in let m = c.requires.more in omega arith in (
      ap (λ r. r.id) of,
      (let w = c.self.invariant.0 in omega arith),
      draws c.self.inside.table.shared.key c.self.inside.table.shared.table_id.slots c.drawer.inside.seat.id c.drawer.inside.seat.me few,
    )

pub returns-clause-number : goal.returns-clause-number
returns-clause-number c =
    let seat = c.drawer.inside.seat in
    let new = c.fetch_add-number.new.seat in
    let x = c.fetch_add-number.result in
    let trees : seat.me.0.trees ≡ c.self.inside.trees = ap (λ d. d.of.trees) c.drawer.view_is ∙ ap (λ r. r.trees) (c.requires.of ∙ sym c.self.view_is) in
    elim c.if-number-self.branch [
      | then-number-self w ↦ rw w.result-is (let h = w.if-number-self.true in
          drew_number new.table_id seat.me.0 x new.me.0 c.fetch_add-number.ensures.2.0 (omega arith)
          ∙ ap (λ i. with_number (shown i seat.me.0) x) c.fetch_add-number.ensures.0
          ∙ ap (λ d. with_number d x) c.drawer.view_is)
      | else-number-self w ↦ rw w.result-is tt
    ]

pub returns-clause-tree : goal.returns-clause-tree
returns-clause-tree c =
    let seat = c.drawer.inside.seat in
    let trees : c.self.inside.trees ≡ c.args.self.now.trees = ap (λ r. r.trees) c.self.view_is in
    let short = below_short seat.me.0.trees seat.me.0.drawn in
    let numbers = ap (λ d. length d.numbers) c.drawer.view_is in
    let long = c.fetch_add-number.ensures.2.0.long in
    elim c.if-number-self.branch [
      | then-number-self w ↦ rw w.result-is (let h = w.if-number-self.true in (omega arith, omega arith))
      | else-number-self w ↦ rw w.result-is tt
    ]

pub returns-clause-end : goal.returns-clause-end
returns-clause-end c =
    let seat = c.drawer.inside.seat in
    let new = c.fetch_add-number.new.seat in
    let x = c.fetch_add-number.result in
    let trees : seat.me.0.trees ≡ c.self.inside.trees = ap (λ d. d.of.trees) c.drawer.view_is ∙ ap (λ r. r.trees) (c.requires.of ∙ sym c.self.view_is) in
    elim c.if-number-self.branch [
      | then-number-self w ↦ rw w.result-is tt
      | else-number-self w ↦ rw w.result-is (let h = w.if-number-self.false in
          drew_end new.table_id seat.me.0 x new.me.0 c.fetch_add-number.ensures.2.0 (omega arith)
          ∙ ap (λ i. with_end (shown i seat.me.0)) c.fetch_add-number.ensures.0
          ∙ ap with_end c.drawer.view_is)
    ]
