use Rattle.std.proofs.Common.{◌≡◌, ◌+◌, ap, ◌∙◌, arith}
use Rattle.sel_law.specs.declared.View.{View}
use Rattle.std.proofs.Common.{sym, subst, [], ◌∷◌}
use Rattle.sel_law.specs.Words.{In}
use Rattle.sel_law.proofs.Base.{in_front, in_back, in_here}
use Rattle.sel_rows.proofs.Joins.{within_left, last_of, front_of, seats_split, still, asked_still}
use Rattle.sel_rows.proofs.closing.join_all.Goals as goal

pub join-requires-clause-of : goal.join-requires-clause-of
join-requires-clause-of c =
    let i = c.loop-part.invariant in
    let l = last_of c.args.rows.now.table.shared.table_id c.args.rows.now.table.shared.key c.loop-part.parts.items c.pop.new.self.items c.in-Some.part c.in-Some.ensures.items i.parts in
    (i.of.0, l.of)

pub join-requires-clause-idle : goal.join-requires-clause-idle
join-requires-clause-idle c =
    c.in-Some.part.idle

pub join-requires-clause-seats : goal.join-requires-clause-seats
join-requires-clause-seats c =
    let i = c.loop-part.invariant in
    let l = last_of c.args.rows.now.table.shared.table_id c.args.rows.now.table.shared.key c.loop-part.parts.items c.pop.new.self.items c.in-Some.part c.in-Some.ensures.items i.parts in
    (i.of.2, c.in-Some.part.seated)

pub loop-part-preserved : goal.loop-part-preserved
loop-part-preserved c =
    let i = c.loop-part.invariant in
    let t = c.args.rows.now.table.shared.table_id in
    let z = c.args.rows.now.table.shared.key in
    let all = c.loop-part.parts.items in
    let front = c.pop.new.self.items in
    let last = c.in-Some.part in
    let e = c.in-Some.ensures.items in
    let v = c.loop-part.seat.me.0 in
    let b = c.join.new.seat.me.0 in
    let is = ap (λ m. m.0) c.join.ensures.1 in
    let s : b.seats ≡ v.seats + last.seat.me.0.seats = ap (λ (x : View). x.seats) is in
    let sp = seats_split t z all front last e in
    let so = i.seats in
    let one = i.of.2 in
    record {
      of = (c.join.ensures.0 ∙ i.of.0, ap (λ m. m.1) c.join.ensures.1 ∙ i.of.1, omega arith);
      parts = front_of t z all front last e i.parts;
      seats = omega arith;
      first = within_left c.args.first.me.0 v last.seat.me.0 b is i.first;
      within = still t z all front last e v b is c.args.parts.items i.within;
      rest = λ p h. i.rest p (subst (In p) (sym e) (in_front p front (last ∷ []) h));
      only = asked_still t z all front last e c.args.parts.items c.args.first.me.0 v b is (i.rest last (subst (In last) (sym e) (in_back last front (last ∷ []) (in_here last [])))) i.only;
    }
