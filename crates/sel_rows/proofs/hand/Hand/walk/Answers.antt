use Rattle.std.proofs.Common.{◌≡◌, ◌⊎◌, ℕ, ◌+◌, ◌*◌, ◌<◌, ◌≤◌, sym, ap, ◌∙◌, subst, inl, inr, arith}
use mathlib.Core.Logic.{dite}
use native.Mathlib.Decide.{ℕ_discrete}
use Rattle.sel_law.specs.declared.Setting.{Setting}
use Rattle.sel_law.specs.declared.View.{View}
use Rattle.sel_law.specs.Words.{IsKey, row_at, walk, key_home}
use Rattle.sel_law.specs.Kinds.{HeldKey, looked, OtherKey, Learns, Tells, Marks}
use Rattle.sel_law.proofs.Base.{in_back}
use Rattle.sel_rows.proofs.Places.{walk_next, walk_around}
use Rattle.sel_rows.proofs.Growth.{grown_then, grown_looked, key_grown, walked_row_grown}
use Rattle.sel_rows.proofs.Interns.{number_then}
use Rattle.sel_rows.proofs.RowWalks.{own_looked, last_looked, asked_looked, found_looked, other_here, others_looked, full_looked, marks_looked, hit_marks, walked_row}
use Rattle.sel_rows.proofs.hand.Hand.walk.Goals as goal

asked_of : {n : ℕ} {A : Type 0} → 1 ≤ n → (n ≡ 0) ⊎ A → A
asked_of h (inl e) = absurd (omega arith)
asked_of h (inr a) = a

pub look_row_as-found-requires-clause-key : goal.look_row_as-found-requires-clause-key
look_row_as-found-requires-clause-key g c =
    let k = c.requires.key in
    let a = g.J.Doing.ask in
    let asks = g.J.Doing.asks in
    let x = c.args.key in
    let inv = c.loop-steps.invariant in
    let u = c.args.self.now.seat.me.0 in
    let v = c.loop-steps.self.seat.me.0 in
    let m = c.args.self.now.rows.now.rows in
    let h = c.args.home in
    let place : ℕ = 1 + 2 * c.args.self.now.rows.now.states + c.loop-steps.at in
    let st : v.setting.states ≡ c.args.self.now.rows.now.states = ap (λ s. s.states) c.loop-steps.self.setting ∙ (ap (λ r. r.now.table.shared.key.states) inv.same ∙ sym c.args.self.now.rows.now.states_is) in
    let rs : m ≡ v.setting.rows = c.args.self.now.rows.now.rows_is ∙ (sym (ap (λ r. r.now.table.shared.key.rows) inv.same) ∙ sym (ap (λ s. s.rows) c.loop-steps.self.setting)) in
    let at_row : place ≡ row_at v.setting c.loop-steps.at = omega arith in
    let key_is : v.setting ≡ c.args.self.now.rows.now.table.shared.key = c.loop-steps.self.setting ∙ ap (λ r. r.now.table.shared.key) inv.same in
    let home_is : h ≡ key_home v.setting x = c.requires.home.0 ∙ ap (λ (y : Setting). key_home y x) (sym key_is) in
    let few = c.requires.rows.1 in
    let test = c.loop-steps-test.true in
    let in_row : c.loop-steps.steps < m = omega arith in
    let walked = walked_row v x m h c.loop-steps.at c.loop-steps.steps rs home_is in_row inv.place.0 inv.others in
    (subst IsKey (sym k.0) k.1, subst (λ y. HeldKey v y a) (sym k.0) inv.held, in_back a v.asked asks k.3, c.loop-steps.self.seated)

pub returns-then-found-eq0-clause-grown : goal.returns-then-found-eq0-clause-grown
returns-then-found-eq0-clause-grown g c =
    let k = c.requires.key in
    let a = g.J.Doing.ask in
    let asks = g.J.Doing.asks in
    let x = c.args.key in
    let inv = c.loop-steps.invariant in
    let u = c.args.self.now.seat.me.0 in
    let v = c.loop-steps.self.seat.me.0 in
    let m = c.args.self.now.rows.now.rows in
    let h = c.args.home in
    let place : ℕ = 1 + 2 * c.args.self.now.rows.now.states + c.loop-steps.at in
    let st : v.setting.states ≡ c.args.self.now.rows.now.states = ap (λ s. s.states) c.loop-steps.self.setting ∙ (ap (λ r. r.now.table.shared.key.states) inv.same ∙ sym c.args.self.now.rows.now.states_is) in
    let rs : m ≡ v.setting.rows = c.args.self.now.rows.now.rows_is ∙ (sym (ap (λ r. r.now.table.shared.key.rows) inv.same) ∙ sym (ap (λ s. s.rows) c.loop-steps.self.setting)) in
    let at_row : place ≡ row_at v.setting c.loop-steps.at = omega arith in
    let key_is : v.setting ≡ c.args.self.now.rows.now.table.shared.key = c.loop-steps.self.setting ∙ ap (λ r. r.now.table.shared.key) inv.same in
    let home_is : h ≡ key_home v.setting x = c.requires.home.0 ∙ ap (λ (y : Setting). key_home y x) (sym key_is) in
    let few = c.requires.rows.1 in
    let test = c.loop-steps-test.true in
    let in_row : c.loop-steps.steps < m = omega arith in
    let walked = walked_row v x m h c.loop-steps.at c.loop-steps.steps rs home_is in_row inv.place.0 inv.others in
    let w = c.look_row_as-found.new.seat.me.0 in
    let found = c.look_row_as-found.result in
    let e = c.look_row_as-found.ensures in
    let d = e.1.0 in
    let is : w ≡ looked v asks x a d place found = ap (λ m. m.0) e.1.1 ∙ λ i. looked v asks (k.0 i) a d place found in
    let grown = grown_looked asks v w x a d place found k.3 is in
    let learns : Learns v x a d found = subst (λ y. Learns v y a d found) k.0 e.1.2 in
    let tells : Tells v x a place found = subst (λ y. Tells v y a place found) k.0 e.3 in
    grown_then asks u v w inv.grown grown

pub returns-then-found-eq0-clause-own : goal.returns-then-found-eq0-clause-own
returns-then-found-eq0-clause-own g c =
    let k = c.requires.key in
    let a = g.J.Doing.ask in
    let asks = g.J.Doing.asks in
    let x = c.args.key in
    let inv = c.loop-steps.invariant in
    let u = c.args.self.now.seat.me.0 in
    let v = c.loop-steps.self.seat.me.0 in
    let m = c.args.self.now.rows.now.rows in
    let h = c.args.home in
    let place : ℕ = 1 + 2 * c.args.self.now.rows.now.states + c.loop-steps.at in
    let st : v.setting.states ≡ c.args.self.now.rows.now.states = ap (λ s. s.states) c.loop-steps.self.setting ∙ (ap (λ r. r.now.table.shared.key.states) inv.same ∙ sym c.args.self.now.rows.now.states_is) in
    let rs : m ≡ v.setting.rows = c.args.self.now.rows.now.rows_is ∙ (sym (ap (λ r. r.now.table.shared.key.rows) inv.same) ∙ sym (ap (λ s. s.rows) c.loop-steps.self.setting)) in
    let at_row : place ≡ row_at v.setting c.loop-steps.at = omega arith in
    let key_is : v.setting ≡ c.args.self.now.rows.now.table.shared.key = c.loop-steps.self.setting ∙ ap (λ r. r.now.table.shared.key) inv.same in
    let home_is : h ≡ key_home v.setting x = c.requires.home.0 ∙ ap (λ (y : Setting). key_home y x) (sym key_is) in
    let few = c.requires.rows.1 in
    let test = c.loop-steps-test.true in
    let in_row : c.loop-steps.steps < m = omega arith in
    let walked = walked_row v x m h c.loop-steps.at c.loop-steps.steps rs home_is in_row inv.place.0 inv.others in
    let w = c.look_row_as-found.new.seat.me.0 in
    let found = c.look_row_as-found.result in
    let e = c.look_row_as-found.ensures in
    let d = e.1.0 in
    let is : w ≡ looked v asks x a d place found = ap (λ m. m.0) e.1.1 ∙ λ i. looked v asks (k.0 i) a d place found in
    let grown = grown_looked asks v w x a d place found k.3 is in
    let learns : Learns v x a d found = subst (λ y. Learns v y a d found) k.0 e.1.2 in
    let tells : Tells v x a place found = subst (λ y. Tells v y a place found) k.0 e.3 in
    number_then u v w inv.own (own_looked v w asks x a d place found is)

pub returns-then-found-eq0-clause-found : goal.returns-then-found-eq0-clause-found
returns-then-found-eq0-clause-found g c =
    let k = c.requires.key in
    let a = g.J.Doing.ask in
    let asks = g.J.Doing.asks in
    let x = c.args.key in
    let inv = c.loop-steps.invariant in
    let u = c.args.self.now.seat.me.0 in
    let v = c.loop-steps.self.seat.me.0 in
    let m = c.args.self.now.rows.now.rows in
    let h = c.args.home in
    let place : ℕ = 1 + 2 * c.args.self.now.rows.now.states + c.loop-steps.at in
    let st : v.setting.states ≡ c.args.self.now.rows.now.states = ap (λ s. s.states) c.loop-steps.self.setting ∙ (ap (λ r. r.now.table.shared.key.states) inv.same ∙ sym c.args.self.now.rows.now.states_is) in
    let rs : m ≡ v.setting.rows = c.args.self.now.rows.now.rows_is ∙ (sym (ap (λ r. r.now.table.shared.key.rows) inv.same) ∙ sym (ap (λ s. s.rows) c.loop-steps.self.setting)) in
    let at_row : place ≡ row_at v.setting c.loop-steps.at = omega arith in
    let key_is : v.setting ≡ c.args.self.now.rows.now.table.shared.key = c.loop-steps.self.setting ∙ ap (λ r. r.now.table.shared.key) inv.same in
    let home_is : h ≡ key_home v.setting x = c.requires.home.0 ∙ ap (λ (y : Setting). key_home y x) (sym key_is) in
    let few = c.requires.rows.1 in
    let test = c.loop-steps-test.true in
    let in_row : c.loop-steps.steps < m = omega arith in
    let walked = walked_row v x m h c.loop-steps.at c.loop-steps.steps rs home_is in_row inv.place.0 inv.others in
    let w = c.look_row_as-found.new.seat.me.0 in
    let found = c.look_row_as-found.result in
    let e = c.look_row_as-found.ensures in
    let d = e.1.0 in
    let is : w ≡ looked v asks x a d place found = ap (λ m. m.0) e.1.1 ∙ λ i. looked v asks (k.0 i) a d place found in
    let grown = grown_looked asks v w x a d place found k.3 is in
    let learns : Learns v x a d found = subst (λ y. Learns v y a d found) k.0 e.1.2 in
    let tells : Tells v x a place found = subst (λ y. Tells v y a place found) k.0 e.3 in
    let set_is = grown.setting in
    let rw : w.setting.rows ≡ v.setting.rows = ap (λ (y : Setting). y.rows) set_is in
    let inside = inv.place.1 in (
      omega arith,
      (walked_row_grown asks v w grown x c.loop-steps.at walked).0,
      (let f = inv.grown.steps in let g = ap (λ (y : View). y.steps) is in omega arith),
      last_looked v w asks x a d place found is ∙ ((λ i. (w.steps, at_row i, c.if-found-eq0.true i)) ∙ ap (λ (y : Setting). (w.steps, row_at y c.loop-steps.at, 0)) (sym set_is)),
      asked_looked v w asks x a d place found is k.3,
    )

pub returns-then-found-eq0-clause-known : goal.returns-then-found-eq0-clause-known
returns-then-found-eq0-clause-known g c =
    let k = c.requires.key in
    let a = g.J.Doing.ask in
    let asks = g.J.Doing.asks in
    let x = c.args.key in
    let inv = c.loop-steps.invariant in
    let u = c.args.self.now.seat.me.0 in
    let v = c.loop-steps.self.seat.me.0 in
    let m = c.args.self.now.rows.now.rows in
    let h = c.args.home in
    let place : ℕ = 1 + 2 * c.args.self.now.rows.now.states + c.loop-steps.at in
    let st : v.setting.states ≡ c.args.self.now.rows.now.states = ap (λ s. s.states) c.loop-steps.self.setting ∙ (ap (λ r. r.now.table.shared.key.states) inv.same ∙ sym c.args.self.now.rows.now.states_is) in
    let rs : m ≡ v.setting.rows = c.args.self.now.rows.now.rows_is ∙ (sym (ap (λ r. r.now.table.shared.key.rows) inv.same) ∙ sym (ap (λ s. s.rows) c.loop-steps.self.setting)) in
    let at_row : place ≡ row_at v.setting c.loop-steps.at = omega arith in
    let key_is : v.setting ≡ c.args.self.now.rows.now.table.shared.key = c.loop-steps.self.setting ∙ ap (λ r. r.now.table.shared.key) inv.same in
    let home_is : h ≡ key_home v.setting x = c.requires.home.0 ∙ ap (λ (y : Setting). key_home y x) (sym key_is) in
    let few = c.requires.rows.1 in
    let test = c.loop-steps-test.true in
    let in_row : c.loop-steps.steps < m = omega arith in
    let walked = walked_row v x m h c.loop-steps.at c.loop-steps.steps rs home_is in_row inv.place.0 inv.others in
    let w = c.look_row_as-found.new.seat.me.0 in
    let found = c.look_row_as-found.result in
    let e = c.look_row_as-found.ensures in
    let d = e.1.0 in
    let is : w ≡ looked v asks x a d place found = ap (λ m. m.0) e.1.1 ∙ λ i. looked v asks (k.0 i) a d place found in
    let grown = grown_looked asks v w x a d place found k.3 is in
    let learns : Learns v x a d found = subst (λ y. Learns v y a d found) k.0 e.1.2 in
    let tells : Tells v x a place found = subst (λ y. Tells v y a place found) k.0 e.3 in
    λ n kn. (tells n c.loop-steps.at (inv.grown.known (a, n) kn) at_row walked).0 c.if-found-eq0.true

pub returns-then-found-eq0-clause-full : goal.returns-then-found-eq0-clause-full
returns-then-found-eq0-clause-full g c =
    let k = c.requires.key in
    let a = g.J.Doing.ask in
    let asks = g.J.Doing.asks in
    let x = c.args.key in
    let inv = c.loop-steps.invariant in
    let u = c.args.self.now.seat.me.0 in
    let v = c.loop-steps.self.seat.me.0 in
    let m = c.args.self.now.rows.now.rows in
    let h = c.args.home in
    let place : ℕ = 1 + 2 * c.args.self.now.rows.now.states + c.loop-steps.at in
    let st : v.setting.states ≡ c.args.self.now.rows.now.states = ap (λ s. s.states) c.loop-steps.self.setting ∙ (ap (λ r. r.now.table.shared.key.states) inv.same ∙ sym c.args.self.now.rows.now.states_is) in
    let rs : m ≡ v.setting.rows = c.args.self.now.rows.now.rows_is ∙ (sym (ap (λ r. r.now.table.shared.key.rows) inv.same) ∙ sym (ap (λ s. s.rows) c.loop-steps.self.setting)) in
    let at_row : place ≡ row_at v.setting c.loop-steps.at = omega arith in
    let key_is : v.setting ≡ c.args.self.now.rows.now.table.shared.key = c.loop-steps.self.setting ∙ ap (λ r. r.now.table.shared.key) inv.same in
    let home_is : h ≡ key_home v.setting x = c.requires.home.0 ∙ ap (λ (y : Setting). key_home y x) (sym key_is) in
    let few = c.requires.rows.1 in
    let test = c.loop-steps-test.true in
    let in_row : c.loop-steps.steps < m = omega arith in
    let walked = walked_row v x m h c.loop-steps.at c.loop-steps.steps rs home_is in_row inv.place.0 inv.others in
    let w = c.look_row_as-found.new.seat.me.0 in
    let found = c.look_row_as-found.result in
    let e = c.look_row_as-found.ensures in
    let d = e.1.0 in
    let is : w ≡ looked v asks x a d place found = ap (λ m. m.0) e.1.1 ∙ λ i. looked v asks (k.0 i) a d place found in
    let grown = grown_looked asks v w x a d place found k.3 is in
    let learns : Learns v x a d found = subst (λ y. Learns v y a d found) k.0 e.1.2 in
    let tells : Tells v x a place found = subst (λ y. Tells v y a place found) k.0 e.3 in
    e.5.free c.if-found-eq0.true

pub returns-then-found-key-clause-grown : goal.returns-then-found-key-clause-grown
returns-then-found-key-clause-grown g c =
    let k = c.requires.key in
    let a = g.J.Doing.ask in
    let asks = g.J.Doing.asks in
    let x = c.args.key in
    let inv = c.loop-steps.invariant in
    let u = c.args.self.now.seat.me.0 in
    let v = c.loop-steps.self.seat.me.0 in
    let m = c.args.self.now.rows.now.rows in
    let h = c.args.home in
    let place : ℕ = 1 + 2 * c.args.self.now.rows.now.states + c.loop-steps.at in
    let st : v.setting.states ≡ c.args.self.now.rows.now.states = ap (λ s. s.states) c.loop-steps.self.setting ∙ (ap (λ r. r.now.table.shared.key.states) inv.same ∙ sym c.args.self.now.rows.now.states_is) in
    let rs : m ≡ v.setting.rows = c.args.self.now.rows.now.rows_is ∙ (sym (ap (λ r. r.now.table.shared.key.rows) inv.same) ∙ sym (ap (λ s. s.rows) c.loop-steps.self.setting)) in
    let at_row : place ≡ row_at v.setting c.loop-steps.at = omega arith in
    let key_is : v.setting ≡ c.args.self.now.rows.now.table.shared.key = c.loop-steps.self.setting ∙ ap (λ r. r.now.table.shared.key) inv.same in
    let home_is : h ≡ key_home v.setting x = c.requires.home.0 ∙ ap (λ (y : Setting). key_home y x) (sym key_is) in
    let few = c.requires.rows.1 in
    let test = c.loop-steps-test.true in
    let in_row : c.loop-steps.steps < m = omega arith in
    let walked = walked_row v x m h c.loop-steps.at c.loop-steps.steps rs home_is in_row inv.place.0 inv.others in
    let w = c.look_row_as-found.new.seat.me.0 in
    let found = c.look_row_as-found.result in
    let e = c.look_row_as-found.ensures in
    let d = e.1.0 in
    let is : w ≡ looked v asks x a d place found = ap (λ m. m.0) e.1.1 ∙ λ i. looked v asks (k.0 i) a d place found in
    let grown = grown_looked asks v w x a d place found k.3 is in
    let learns : Learns v x a d found = subst (λ y. Learns v y a d found) k.0 e.1.2 in
    let tells : Tells v x a place found = subst (λ y. Tells v y a place found) k.0 e.3 in
    grown_then asks u v w inv.grown grown

pub returns-then-found-key-clause-own : goal.returns-then-found-key-clause-own
returns-then-found-key-clause-own g c =
    let k = c.requires.key in
    let a = g.J.Doing.ask in
    let asks = g.J.Doing.asks in
    let x = c.args.key in
    let inv = c.loop-steps.invariant in
    let u = c.args.self.now.seat.me.0 in
    let v = c.loop-steps.self.seat.me.0 in
    let m = c.args.self.now.rows.now.rows in
    let h = c.args.home in
    let place : ℕ = 1 + 2 * c.args.self.now.rows.now.states + c.loop-steps.at in
    let st : v.setting.states ≡ c.args.self.now.rows.now.states = ap (λ s. s.states) c.loop-steps.self.setting ∙ (ap (λ r. r.now.table.shared.key.states) inv.same ∙ sym c.args.self.now.rows.now.states_is) in
    let rs : m ≡ v.setting.rows = c.args.self.now.rows.now.rows_is ∙ (sym (ap (λ r. r.now.table.shared.key.rows) inv.same) ∙ sym (ap (λ s. s.rows) c.loop-steps.self.setting)) in
    let at_row : place ≡ row_at v.setting c.loop-steps.at = omega arith in
    let key_is : v.setting ≡ c.args.self.now.rows.now.table.shared.key = c.loop-steps.self.setting ∙ ap (λ r. r.now.table.shared.key) inv.same in
    let home_is : h ≡ key_home v.setting x = c.requires.home.0 ∙ ap (λ (y : Setting). key_home y x) (sym key_is) in
    let few = c.requires.rows.1 in
    let test = c.loop-steps-test.true in
    let in_row : c.loop-steps.steps < m = omega arith in
    let walked = walked_row v x m h c.loop-steps.at c.loop-steps.steps rs home_is in_row inv.place.0 inv.others in
    let w = c.look_row_as-found.new.seat.me.0 in
    let found = c.look_row_as-found.result in
    let e = c.look_row_as-found.ensures in
    let d = e.1.0 in
    let is : w ≡ looked v asks x a d place found = ap (λ m. m.0) e.1.1 ∙ λ i. looked v asks (k.0 i) a d place found in
    let grown = grown_looked asks v w x a d place found k.3 is in
    let learns : Learns v x a d found = subst (λ y. Learns v y a d found) k.0 e.1.2 in
    let tells : Tells v x a place found = subst (λ y. Tells v y a place found) k.0 e.3 in
    number_then u v w inv.own (own_looked v w asks x a d place found is)

pub returns-then-found-key-clause-found : goal.returns-then-found-key-clause-found
returns-then-found-key-clause-found g c =
    let k = c.requires.key in
    let a = g.J.Doing.ask in
    let asks = g.J.Doing.asks in
    let x = c.args.key in
    let inv = c.loop-steps.invariant in
    let u = c.args.self.now.seat.me.0 in
    let v = c.loop-steps.self.seat.me.0 in
    let m = c.args.self.now.rows.now.rows in
    let h = c.args.home in
    let place : ℕ = 1 + 2 * c.args.self.now.rows.now.states + c.loop-steps.at in
    let st : v.setting.states ≡ c.args.self.now.rows.now.states = ap (λ s. s.states) c.loop-steps.self.setting ∙ (ap (λ r. r.now.table.shared.key.states) inv.same ∙ sym c.args.self.now.rows.now.states_is) in
    let rs : m ≡ v.setting.rows = c.args.self.now.rows.now.rows_is ∙ (sym (ap (λ r. r.now.table.shared.key.rows) inv.same) ∙ sym (ap (λ s. s.rows) c.loop-steps.self.setting)) in
    let at_row : place ≡ row_at v.setting c.loop-steps.at = omega arith in
    let key_is : v.setting ≡ c.args.self.now.rows.now.table.shared.key = c.loop-steps.self.setting ∙ ap (λ r. r.now.table.shared.key) inv.same in
    let home_is : h ≡ key_home v.setting x = c.requires.home.0 ∙ ap (λ (y : Setting). key_home y x) (sym key_is) in
    let few = c.requires.rows.1 in
    let test = c.loop-steps-test.true in
    let in_row : c.loop-steps.steps < m = omega arith in
    let walked = walked_row v x m h c.loop-steps.at c.loop-steps.steps rs home_is in_row inv.place.0 inv.others in
    let w = c.look_row_as-found.new.seat.me.0 in
    let found = c.look_row_as-found.result in
    let e = c.look_row_as-found.ensures in
    let d = e.1.0 in
    let is : w ≡ looked v asks x a d place found = ap (λ m. m.0) e.1.1 ∙ λ i. looked v asks (k.0 i) a d place found in
    let grown = grown_looked asks v w x a d place found k.3 is in
    let learns : Learns v x a d found = subst (λ y. Learns v y a d found) k.0 e.1.2 in
    let tells : Tells v x a place found = subst (λ y. Tells v y a place found) k.0 e.3 in
    found_looked v w asks x a d place found is k.3 (let some = c.requires.rows.0 in omega arith) (λ z. c.if-found-eq0.false z) c.if-found-key.true learns e.2

pub returns-then-found-key-clause-known : goal.returns-then-found-key-clause-known
returns-then-found-key-clause-known g c =
    let k = c.requires.key in
    let a = g.J.Doing.ask in
    let asks = g.J.Doing.asks in
    let x = c.args.key in
    let inv = c.loop-steps.invariant in
    let u = c.args.self.now.seat.me.0 in
    let v = c.loop-steps.self.seat.me.0 in
    let m = c.args.self.now.rows.now.rows in
    let h = c.args.home in
    let place : ℕ = 1 + 2 * c.args.self.now.rows.now.states + c.loop-steps.at in
    let st : v.setting.states ≡ c.args.self.now.rows.now.states = ap (λ s. s.states) c.loop-steps.self.setting ∙ (ap (λ r. r.now.table.shared.key.states) inv.same ∙ sym c.args.self.now.rows.now.states_is) in
    let rs : m ≡ v.setting.rows = c.args.self.now.rows.now.rows_is ∙ (sym (ap (λ r. r.now.table.shared.key.rows) inv.same) ∙ sym (ap (λ s. s.rows) c.loop-steps.self.setting)) in
    let at_row : place ≡ row_at v.setting c.loop-steps.at = omega arith in
    let key_is : v.setting ≡ c.args.self.now.rows.now.table.shared.key = c.loop-steps.self.setting ∙ ap (λ r. r.now.table.shared.key) inv.same in
    let home_is : h ≡ key_home v.setting x = c.requires.home.0 ∙ ap (λ (y : Setting). key_home y x) (sym key_is) in
    let few = c.requires.rows.1 in
    let test = c.loop-steps-test.true in
    let in_row : c.loop-steps.steps < m = omega arith in
    let walked = walked_row v x m h c.loop-steps.at c.loop-steps.steps rs home_is in_row inv.place.0 inv.others in
    let w = c.look_row_as-found.new.seat.me.0 in
    let found = c.look_row_as-found.result in
    let e = c.look_row_as-found.ensures in
    let d = e.1.0 in
    let is : w ≡ looked v asks x a d place found = ap (λ m. m.0) e.1.1 ∙ λ i. looked v asks (k.0 i) a d place found in
    let grown = grown_looked asks v w x a d place found k.3 is in
    let learns : Learns v x a d found = subst (λ y. Learns v y a d found) k.0 e.1.2 in
    let tells : Tells v x a place found = subst (λ y. Tells v y a place found) k.0 e.3 in
    λ n kn. (tells n c.loop-steps.at (inv.grown.known (a, n) kn) at_row walked).1 c.if-found-key.true

pub returns-then-found-key-clause-full : goal.returns-then-found-key-clause-full
returns-then-found-key-clause-full g c =
    let k = c.requires.key in
    let a = g.J.Doing.ask in
    let asks = g.J.Doing.asks in
    let x = c.args.key in
    let inv = c.loop-steps.invariant in
    let u = c.args.self.now.seat.me.0 in
    let v = c.loop-steps.self.seat.me.0 in
    let m = c.args.self.now.rows.now.rows in
    let h = c.args.home in
    let place : ℕ = 1 + 2 * c.args.self.now.rows.now.states + c.loop-steps.at in
    let st : v.setting.states ≡ c.args.self.now.rows.now.states = ap (λ s. s.states) c.loop-steps.self.setting ∙ (ap (λ r. r.now.table.shared.key.states) inv.same ∙ sym c.args.self.now.rows.now.states_is) in
    let rs : m ≡ v.setting.rows = c.args.self.now.rows.now.rows_is ∙ (sym (ap (λ r. r.now.table.shared.key.rows) inv.same) ∙ sym (ap (λ s. s.rows) c.loop-steps.self.setting)) in
    let at_row : place ≡ row_at v.setting c.loop-steps.at = omega arith in
    let key_is : v.setting ≡ c.args.self.now.rows.now.table.shared.key = c.loop-steps.self.setting ∙ ap (λ r. r.now.table.shared.key) inv.same in
    let home_is : h ≡ key_home v.setting x = c.requires.home.0 ∙ ap (λ (y : Setting). key_home y x) (sym key_is) in
    let few = c.requires.rows.1 in
    let test = c.loop-steps-test.true in
    let in_row : c.loop-steps.steps < m = omega arith in
    let walked = walked_row v x m h c.loop-steps.at c.loop-steps.steps rs home_is in_row inv.place.0 inv.others in
    let w = c.look_row_as-found.new.seat.me.0 in
    let found = c.look_row_as-found.result in
    let e = c.look_row_as-found.ensures in
    let d = e.1.0 in
    let is : w ≡ looked v asks x a d place found = ap (λ m. m.0) e.1.1 ∙ λ i. looked v asks (k.0 i) a d place found in
    let grown = grown_looked asks v w x a d place found k.3 is in
    let learns : Learns v x a d found = subst (λ y. Learns v y a d found) k.0 e.1.2 in
    let tells : Tells v x a place found = subst (λ y. Tells v y a place found) k.0 e.3 in
    λ f. hit_marks v w asks x a d place found is u inv.marks (λ z. c.if-found-eq0.false z) c.if-found-key.true (subst (λ y. Marks v y found w) k.0 e.5) f

pub loop-steps-preserved-then-at-rows : goal.loop-steps-preserved-then-at-rows
loop-steps-preserved-then-at-rows g c =
    let k = c.requires.key in
    let a = g.J.Doing.ask in
    let asks = g.J.Doing.asks in
    let x = c.args.key in
    let inv = c.loop-steps.invariant in
    let u = c.args.self.now.seat.me.0 in
    let v = c.loop-steps.self.seat.me.0 in
    let m = c.args.self.now.rows.now.rows in
    let h = c.args.home in
    let place : ℕ = 1 + 2 * c.args.self.now.rows.now.states + c.loop-steps.at in
    let st : v.setting.states ≡ c.args.self.now.rows.now.states = ap (λ s. s.states) c.loop-steps.self.setting ∙ (ap (λ r. r.now.table.shared.key.states) inv.same ∙ sym c.args.self.now.rows.now.states_is) in
    let rs : m ≡ v.setting.rows = c.args.self.now.rows.now.rows_is ∙ (sym (ap (λ r. r.now.table.shared.key.rows) inv.same) ∙ sym (ap (λ s. s.rows) c.loop-steps.self.setting)) in
    let at_row : place ≡ row_at v.setting c.loop-steps.at = omega arith in
    let key_is : v.setting ≡ c.args.self.now.rows.now.table.shared.key = c.loop-steps.self.setting ∙ ap (λ r. r.now.table.shared.key) inv.same in
    let home_is : h ≡ key_home v.setting x = c.requires.home.0 ∙ ap (λ (y : Setting). key_home y x) (sym key_is) in
    let few = c.requires.rows.1 in
    let test = c.loop-steps-test.true in
    let in_row : c.loop-steps.steps < m = omega arith in
    let walked = walked_row v x m h c.loop-steps.at c.loop-steps.steps rs home_is in_row inv.place.0 inv.others in
    let w = c.look_row_as-found.new.seat.me.0 in
    let found = c.look_row_as-found.result in
    let e = c.look_row_as-found.ensures in
    let d = e.1.0 in
    let is : w ≡ looked v asks x a d place found = ap (λ m. m.0) e.1.1 ∙ λ i. looked v asks (k.0 i) a d place found in
    let grown = grown_looked asks v w x a d place found k.3 is in
    let learns : Learns v x a d found = subst (λ y. Learns v y a d found) k.0 e.1.2 in
    let tells : Tells v x a place found = subst (λ y. Tells v y a place found) k.0 e.3 in
    let here = other_here v w asks x a d place found is c.loop-steps.at at_row (λ z. c.if-found-eq0.false z) (λ z. c.if-found-key.false z) in
    let all = others_looked v w asks x a d place found is k.3 m h c.loop-steps.steps inv.others (subst (OtherKey w x) inv.place.0 here) in
    record {
      same = inv.same;
      place = (sym (walk_around m h c.loop-steps.steps (let p = inv.place.0 in let t = c.if-at-rows.true in omega arith)), omega arith, omega arith);
      held = key_grown asks v w grown x a inv.held;
      grown = grown_then asks u v w inv.grown grown;
      own = number_then u v w inv.own (own_looked v w asks x a d place found is);
      others = all;
      marks = λ f. marks_looked v w asks x a d place found is k.3 u inv.marks f;
      done = λ e. full_looked v w asks x a d place found is m h rs (λ j lt. all j (omega arith));
      stays = λ n kn f. inv.stays n kn (e.4 n (inv.grown.known (a, n) kn) f);
      count = (let one : w.steps ≡ v.steps + 1 = ap (λ (y : View). y.steps) is in let n = inv.count in omega arith);
      asked = inr (asked_looked v w asks x a d place found is k.3);
    }

pub loop-steps-preserved : goal.loop-steps-preserved
loop-steps-preserved g c =
    let k = c.requires.key in
    let a = g.J.Doing.ask in
    let asks = g.J.Doing.asks in
    let x = c.args.key in
    let inv = c.loop-steps.invariant in
    let u = c.args.self.now.seat.me.0 in
    let v = c.loop-steps.self.seat.me.0 in
    let m = c.args.self.now.rows.now.rows in
    let h = c.args.home in
    let place : ℕ = 1 + 2 * c.args.self.now.rows.now.states + c.loop-steps.at in
    let st : v.setting.states ≡ c.args.self.now.rows.now.states = ap (λ s. s.states) c.loop-steps.self.setting ∙ (ap (λ r. r.now.table.shared.key.states) inv.same ∙ sym c.args.self.now.rows.now.states_is) in
    let rs : m ≡ v.setting.rows = c.args.self.now.rows.now.rows_is ∙ (sym (ap (λ r. r.now.table.shared.key.rows) inv.same) ∙ sym (ap (λ s. s.rows) c.loop-steps.self.setting)) in
    let at_row : place ≡ row_at v.setting c.loop-steps.at = omega arith in
    let key_is : v.setting ≡ c.args.self.now.rows.now.table.shared.key = c.loop-steps.self.setting ∙ ap (λ r. r.now.table.shared.key) inv.same in
    let home_is : h ≡ key_home v.setting x = c.requires.home.0 ∙ ap (λ (y : Setting). key_home y x) (sym key_is) in
    let few = c.requires.rows.1 in
    let test = c.loop-steps-test.true in
    let in_row : c.loop-steps.steps < m = omega arith in
    let walked = walked_row v x m h c.loop-steps.at c.loop-steps.steps rs home_is in_row inv.place.0 inv.others in
    let w = c.look_row_as-found.new.seat.me.0 in
    let found = c.look_row_as-found.result in
    let e = c.look_row_as-found.ensures in
    let d = e.1.0 in
    let is : w ≡ looked v asks x a d place found = ap (λ m. m.0) e.1.1 ∙ λ i. looked v asks (k.0 i) a d place found in
    let grown = grown_looked asks v w x a d place found k.3 is in
    let learns : Learns v x a d found = subst (λ y. Learns v y a d found) k.0 e.1.2 in
    let tells : Tells v x a place found = subst (λ y. Tells v y a place found) k.0 e.3 in
    let here = other_here v w asks x a d place found is c.loop-steps.at at_row (λ z. c.if-found-eq0.false z) (λ z. c.if-found-key.false z) in
    let all = others_looked v w asks x a d place found is k.3 m h c.loop-steps.steps inv.others (subst (OtherKey w x) inv.place.0 here) in
    record {
      same = inv.same;
      place = (ap (λ q. q + 1) inv.place.0 ∙ sym (walk_next m h c.loop-steps.steps (let p = inv.place.0 in let t = c.if-at-rows.false in omega arith)), omega arith, omega arith);
      held = key_grown asks v w grown x a inv.held;
      grown = grown_then asks u v w inv.grown grown;
      own = number_then u v w inv.own (own_looked v w asks x a d place found is);
      others = all;
      marks = λ f. marks_looked v w asks x a d place found is k.3 u inv.marks f;
      done = λ e. full_looked v w asks x a d place found is m h rs (λ j lt. all j (omega arith));
      stays = λ n kn f. inv.stays n kn (e.4 n (inv.grown.known (a, n) kn) f);
      count = (let one : w.steps ≡ v.steps + 1 = ap (λ (y : View). y.steps) is in let n = inv.count in omega arith);
      asked = inr (asked_looked v w asks x a d place found is k.3);
    }

pub returns-clause-found : goal.returns-clause-found
returns-clause-found g c =
    let k = c.requires.key in
    let a = g.J.Doing.ask in
    let asks = g.J.Doing.asks in
    let x = c.args.key in
    let inv = c.loop-steps.invariant in
    let u = c.args.self.now.seat.me.0 in
    let v = c.loop-steps.self.seat.me.0 in
    let m = c.args.self.now.rows.now.rows in
    let h = c.args.home in
    let place : ℕ = 1 + 2 * c.args.self.now.rows.now.states + c.loop-steps.at in
    let st : v.setting.states ≡ c.args.self.now.rows.now.states = ap (λ s. s.states) c.loop-steps.self.setting ∙ (ap (λ r. r.now.table.shared.key.states) inv.same ∙ sym c.args.self.now.rows.now.states_is) in
    let rs : m ≡ v.setting.rows = c.args.self.now.rows.now.rows_is ∙ (sym (ap (λ r. r.now.table.shared.key.rows) inv.same) ∙ sym (ap (λ s. s.rows) c.loop-steps.self.setting)) in
    let at_row : place ≡ row_at v.setting c.loop-steps.at = omega arith in
    let key_is : v.setting ≡ c.args.self.now.rows.now.table.shared.key = c.loop-steps.self.setting ∙ ap (λ r. r.now.table.shared.key) inv.same in
    let home_is : h ≡ key_home v.setting x = c.requires.home.0 ∙ ap (λ (y : Setting). key_home y x) (sym key_is) in
    let few = c.requires.rows.1 in
    let past = c.loop-steps-test.false in
    let end = inv.place.2 in (
      (λ e. inv.done (omega arith)),
      (λ j lt. subst (OtherKey v x) (λ i. walk (rs i) (home_is i) j) (inv.others j (omega arith))),
      asked_of (let some = c.requires.rows.0 in let goal : 1 ≤ c.loop-steps.steps = omega arith in goal) inv.asked,
    )

pub returns-clause-known : goal.returns-clause-known
returns-clause-known g c =
    let k = c.requires.key in
    let a = g.J.Doing.ask in
    let asks = g.J.Doing.asks in
    let x = c.args.key in
    let inv = c.loop-steps.invariant in
    let u = c.args.self.now.seat.me.0 in
    let v = c.loop-steps.self.seat.me.0 in
    let m = c.args.self.now.rows.now.rows in
    let h = c.args.home in
    let place : ℕ = 1 + 2 * c.args.self.now.rows.now.states + c.loop-steps.at in
    let st : v.setting.states ≡ c.args.self.now.rows.now.states = ap (λ s. s.states) c.loop-steps.self.setting ∙ (ap (λ r. r.now.table.shared.key.states) inv.same ∙ sym c.args.self.now.rows.now.states_is) in
    let rs : m ≡ v.setting.rows = c.args.self.now.rows.now.rows_is ∙ (sym (ap (λ r. r.now.table.shared.key.rows) inv.same) ∙ sym (ap (λ s. s.rows) c.loop-steps.self.setting)) in
    let at_row : place ≡ row_at v.setting c.loop-steps.at = omega arith in
    let key_is : v.setting ≡ c.args.self.now.rows.now.table.shared.key = c.loop-steps.self.setting ∙ ap (λ r. r.now.table.shared.key) inv.same in
    let home_is : h ≡ key_home v.setting x = c.requires.home.0 ∙ ap (λ (y : Setting). key_home y x) (sym key_is) in
    let few = c.requires.rows.1 in
    let past = c.loop-steps-test.false in
    let end = inv.place.2 in
    λ n kn. dite (ℕ_discrete c.args.most m)
    (λ e. inr (inv.stays n kn (inv.done (omega arith))))
    (λ ne. inl (let r : u.setting.rows ≡ m = ap (λ (y : Setting). y.rows) c.args.self.now.setting ∙ sym c.args.self.now.rows.now.rows_is in omega arith))

-- the last look is one step
one_more : (u v w most : ℕ) (steps : ℕ) → v ≡ u + steps → steps < most → w ≡ v + 1 → w ≤ u + most
one_more u v w most steps e lt is = omega (arith, e, lt, is)

pub returns-then-found-eq0-clause-few : goal.returns-then-found-eq0-clause-few
returns-then-found-eq0-clause-few g c =
    let inv = c.loop-steps.invariant in
    one_more c.args.self.now.seat.me.0.steps c.loop-steps.self.seat.me.0.steps c.look_row_as-found.new.seat.me.0.steps c.args.most c.loop-steps.steps inv.count c.loop-steps-test.true
    (ap (λ m. (m.0).steps) c.look_row_as-found.ensures.1.1)

pub returns-then-found-key-clause-few : goal.returns-then-found-key-clause-few
returns-then-found-key-clause-few g c =
    let inv = c.loop-steps.invariant in
    one_more c.args.self.now.seat.me.0.steps c.loop-steps.self.seat.me.0.steps c.look_row_as-found.new.seat.me.0.steps c.args.most c.loop-steps.steps inv.count c.loop-steps-test.true
    (ap (λ m. (m.0).steps) c.look_row_as-found.ensures.1.1)

pub returns-clause-few : goal.returns-clause-few
returns-clause-few g c =
    let count = c.loop-steps.invariant.count in
    let end = c.loop-steps.invariant.place.2 in
    omega arith
