-- Both parts are of the table, and have one seat each from beginning to end.
use Rattle.std.proofs.Common.{◌≡◌, List, [], ◌∷◌, ◌++◌, sym, ap, ◌∙◌, subst, arith}
use Rattle.sel_law.specs.declared.View.{View}
use Rattle.sel_law.specs.Words.{In}
use Rattle.sel_law.proofs.Base.{in_back, in_front, in_here}
use Rattle.sel_rows.specs.declared.part.PassPart.{PassPart}
use Rattle.sel_rows.specs.Parts.{IsFresh, seats_of}
use Rattle.sel_rows.specs.Tables.{id_of, setting_of}
use Rattle.sel_rows.specs.Told.{Standing}
use Rattle.sel_rows.proofs.Joins.{last_of, front_of, seats_split}
use Rattle.sel_rows_cases.proofs.playing.play.Goals as goal

last_in : (all front : List PassPart) (last : PassPart) → all ≡ front ++ last ∷ [] → In last all
last_in all front last is = subst (In last) (sym is) (in_back last front (last ∷ []) (in_here last []))

front_in : (all front : List PassPart) (last p : PassPart) → all ≡ front ++ last ∷ [] → In p front → In p all
front_in all front last p is h = subst (In p) (sym is) (in_front p front (last ∷ []) h)

pub new-second-requires-clause-of : goal.new-second-requires-clause-of
new-second-requires-clause-of g c =
    let rows = c.in_ok-rows.rows in
    let is = sym c.into_vec-parts.ensures ∙ c.in-Some.ensures.items in
    last_of (id_of rows) (setting_of rows) c.in_ok-rows.parts c.pop.new.self.items c.in-Some.second is c.in_ok-rows.ensures.of

pub new-first-requires-clause-of : goal.new-first-requires-clause-of
new-first-requires-clause-of g c =
    let rows = c.in_ok-rows.rows in
    let is = sym c.into_vec-parts.ensures ∙ c.in-Some.ensures.items in
    let front = front_of (id_of rows) (setting_of rows) c.in_ok-rows.parts c.pop.new.self.items c.in-Some.second is c.in_ok-rows.ensures.of in
    last_of (id_of rows) (setting_of rows) c.pop.new.self.items c.pop-2.new.self.items c.in-Some-pop.first c.in-Some-pop.ensures.items front

pub close-requires-clause-seats : goal.close-requires-clause-seats
close-requires-clause-seats g c =
    let rows = c.in_ok-rows.rows in
    let t = id_of rows in
    let z = setting_of rows in
    let is = sym c.into_vec-parts.ensures ∙ c.in-Some.ensures.items in
    let second = c.in-Some.second in
    let first = c.in-Some-pop.first in
    let fresh_second : IsFresh second = c.in_ok-rows.ensures.fresh second (last_in c.in_ok-rows.parts c.pop.new.self.items second is) in
    let fresh_first : IsFresh first = c.in_ok-rows.ensures.fresh first (front_in c.in_ok-rows.parts c.pop.new.self.items second first is (last_in c.pop.new.self.items c.pop-2.new.self.items first c.in-Some-pop.ensures.items)) in
    let one_first : c.part.result.seat.me.0.seats ≡ 1 = ap (λ (v : View). v.seats) (sym (c.part.ensures.part).view) ∙ (ap (λ (s : Standing). s.seats) (c.in_ok-take_all.ensures.first ∙ c.new-first.ensures.standing) ∙ fresh_first.one_seat) in
    let one_second : c.part-2.result.seat.me.0.seats ≡ 1 = ap (λ (v : View). v.seats) (sym (c.part-2.ensures.part).view) ∙ (ap (λ (s : Standing). s.seats) (c.in_ok-take_all.ensures.second ∙ c.new-second.ensures.standing) ∙ fresh_second.one_seat) in
    let one = seats_split t z c.push.new.self.items [] c.part.result (c.in_ok-push.ensures.items ∙ ap (λ l. l ++ c.part.result ∷ []) c.new-given.ensures.items) in
    let both = seats_split t z c.push-2.new.self.items c.push.new.self.items c.part-2.result c.in_ok-push-2.ensures.items in
    let given : seats_of c.from_vec.result ≡ seats_of c.push-2.new.self.items = ap seats_of c.from_vec.ensures in
    let workers = c.in_ok-rows.ensures.setting.workers_is in
    omega arith
