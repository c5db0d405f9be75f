use Rattle.std.proofs.Common.{◌≡◌, ℕ, ◌+◌, ◌*◌, ◌%◌, ◌<◌, ◌≤◌, ◌==◌, Bool, List, [], ◌∷◌, true, false, sym, ap, ◌∙◌, subst, arith, refl, inl, eq-eqb, ne_eqb}
use Rattle.sel_law.specs.declared.Setting.{Setting}
use Rattle.sel_law.specs.declared.Ask.{Ask}
use Rattle.sel_law.specs.declared.View.{View}
use Rattle.sel_law.specs.Words.{IsKey, In, IsMadeOf, row_at, walk, key_home, word_of}
use Rattle.sel_law.specs.Kinds.{HeldKey, HeldNumber, HeldWhole, looked, placed, placed_as, OtherKey, WalkedRow, Learns, Marks}
use Rattle.sel_law.proofs.Base.{in_back, in_here}
use Rattle.sel_rows.specs.Held.{held_content}
use Rattle.sel_rows.proofs.Places.{walk_next, walk_around}
use Rattle.sel_rows.proofs.Growth.{grown_then, grown_self, grown_looked, grown_placed, key_grown, number_grown, whole_grown}
use Rattle.sel_rows.proofs.Contents.{is_whole, content_is}
use Rattle.sel_rows.proofs.Interns.{number_then}
use Rattle.sel_rows.proofs.RowWalks.{own_looked, found_looked, other_here, others_looked, full_looked, marks_looked, hit_marks, walked_row, walk_far}
use Rattle.sel_rows.proofs.hand.Hand.place.Goals as goal
use Rattle.sel_rows.proofs.hand.Hand.place.Goals.{then-place-start, else-place-start}

true_false : true ≡ false → ⊥
true_false e = cc

pub loop-steps-init : goal.loop-steps-init
loop-steps-init g c =
    let k = c.requires.key in
    let x = c.args.key in
    let u = c.args.self.now.seat.me.0 in
    let m = c.args.self.now.rows.now.rows in
    let h = c.args.home in
    let rs : m ≡ u.setting.rows = c.args.self.now.rows.now.rows_is ∙ sym (ap (λ s. s.rows) c.args.self.now.setting) in
    let home_is : h ≡ key_home u.setting x = c.requires.home.0 ∙ ap (λ (y : Setting). key_home y x) (sym c.args.self.now.setting) in
    let wk = c.requires.walked.1 in
    let below = wk.1 in
    let lt : wk.0 < m = omega arith in
    let at_is : c.args.place ≡ walk m h wk.0 = wk.2 ∙ sym (λ i. walk (rs i) (home_is i) wk.0) in
    let far = walk_far m h wk.0 c.args.place (h % m) lt refl at_is in
    let steps_is : c.if-place-start.steps ≡ wk.0 = elim c.if-place-start.branch [ then-place-start w ↦ w.steps-is ∙ sym (far.0 w.if-place-start.true) | else-place-start w ↦ w.steps-is ∙ sym (far.1 w.if-place-start.false) ] in
    record {
      same = refl;
      place = (at_is ∙ ap (walk m h) (sym steps_is), c.requires.walked.0, omega arith);
      held = k.2;
      number = c.requires.number.2;
      content = c.requires.number.3;
      grown = grown_self g.J.Doing.asks u;
      own = record { own = refl; draft = refl; used_up = refl };
      others = λ j l. subst (OtherKey u x) (sym (λ i. walk (rs i) (home_is i) j)) (wk.3 j (omega arith));
      marks = λ f. inl f;
      done = λ e. absurd (omega arith);
      count = omega arith;
    }

pub place_as-found-requires-clause-word : goal.place_as-found-requires-clause-word
place_as-found-requires-clause-word g c =
    let k = c.requires.key in
    let a = g.J.Doing.ask in
    let asks = g.J.Doing.asks in
    let x = c.args.key in
    let inv = c.loop-steps.invariant in
    let u = c.args.self.now.seat.me.0 in
    let v = c.loop-steps.self.seat.me.0 in
    let m = c.args.self.now.rows.now.rows in
    let h = c.args.home in
    let place : ℕ = 1 + 2 * c.args.self.now.rows.now.states + c.loop-steps.at in
    let st : v.setting.states ≡ c.args.self.now.rows.now.states = ap (λ s. s.states) c.loop-steps.self.setting ∙ (ap (λ r. r.now.table.shared.key.states) inv.same ∙ sym c.args.self.now.rows.now.states_is) in
    let rs : m ≡ v.setting.rows = c.args.self.now.rows.now.rows_is ∙ (sym (ap (λ r. r.now.table.shared.key.rows) inv.same) ∙ sym (ap (λ s. s.rows) c.loop-steps.self.setting)) in
    let at_row : place ≡ row_at v.setting c.loop-steps.at = omega arith in
    let key_is : v.setting ≡ c.args.self.now.rows.now.table.shared.key = c.loop-steps.self.setting ∙ ap (λ r. r.now.table.shared.key) inv.same in
    let home_is : h ≡ key_home v.setting x = c.requires.home.0 ∙ ap (λ (y : Setting). key_home y x) (sym key_is) in
    let walked = walked_row v x m h c.loop-steps.at c.loop-steps.steps rs home_is c.loop-steps-test.true inv.place.0 inv.others in
    let inside = inv.place.1 in
    let ks : m ≡ c.loop-steps.self.rows.now.table.shared.key.rows = c.args.self.now.rows.now.rows_is ∙ sym (ap (λ r. r.now.table.shared.key.rows) inv.same) in
    let row_is : row_at v.setting c.loop-steps.at ≡ row_at c.loop-steps.self.rows.now.table.shared.key c.loop-steps.at = ap (λ (y : Setting). row_at y c.loop-steps.at) c.loop-steps.self.setting in
    (c.loop-steps.at, omega arith, at_row ∙ row_is, subst (λ y. WalkedRow v y c.loop-steps.at) (sym k.0) walked)

pub place_as-found-requires-clause-key : goal.place_as-found-requires-clause-key
place_as-found-requires-clause-key g c =
    let k = c.requires.key in
    let a = g.J.Doing.ask in
    let asks = g.J.Doing.asks in
    let x = c.args.key in
    let inv = c.loop-steps.invariant in
    let u = c.args.self.now.seat.me.0 in
    let v = c.loop-steps.self.seat.me.0 in
    let m = c.args.self.now.rows.now.rows in
    let h = c.args.home in
    let place : ℕ = 1 + 2 * c.args.self.now.rows.now.states + c.loop-steps.at in
    let st : v.setting.states ≡ c.args.self.now.rows.now.states = ap (λ s. s.states) c.loop-steps.self.setting ∙ (ap (λ r. r.now.table.shared.key.states) inv.same ∙ sym c.args.self.now.rows.now.states_is) in
    let rs : m ≡ v.setting.rows = c.args.self.now.rows.now.rows_is ∙ (sym (ap (λ r. r.now.table.shared.key.rows) inv.same) ∙ sym (ap (λ s. s.rows) c.loop-steps.self.setting)) in
    let at_row : place ≡ row_at v.setting c.loop-steps.at = omega arith in
    let key_is : v.setting ≡ c.args.self.now.rows.now.table.shared.key = c.loop-steps.self.setting ∙ ap (λ r. r.now.table.shared.key) inv.same in
    let home_is : h ≡ key_home v.setting x = c.requires.home.0 ∙ ap (λ (y : Setting). key_home y x) (sym key_is) in
    let walked = walked_row v x m h c.loop-steps.at c.loop-steps.steps rs home_is c.loop-steps-test.true inv.place.0 inv.others in
    (subst IsKey (sym k.0) k.1, subst (λ y. HeldKey v y a) (sym k.0) inv.held, in_back a v.asked asks k.3, c.loop-steps.self.seated)

pub place_as-found-requires-clause-number : goal.place_as-found-requires-clause-number
place_as-found-requires-clause-number g c =
    let k = c.requires.key in
    let a = g.J.Doing.ask in
    let asks = g.J.Doing.asks in
    let x = c.args.key in
    let inv = c.loop-steps.invariant in
    let u = c.args.self.now.seat.me.0 in
    let v = c.loop-steps.self.seat.me.0 in
    let m = c.args.self.now.rows.now.rows in
    let h = c.args.home in
    let place : ℕ = 1 + 2 * c.args.self.now.rows.now.states + c.loop-steps.at in
    let st : v.setting.states ≡ c.args.self.now.rows.now.states = ap (λ s. s.states) c.loop-steps.self.setting ∙ (ap (λ r. r.now.table.shared.key.states) inv.same ∙ sym c.args.self.now.rows.now.states_is) in
    let rs : m ≡ v.setting.rows = c.args.self.now.rows.now.rows_is ∙ (sym (ap (λ r. r.now.table.shared.key.rows) inv.same) ∙ sym (ap (λ s. s.rows) c.loop-steps.self.setting)) in
    let at_row : place ≡ row_at v.setting c.loop-steps.at = omega arith in
    let key_is : v.setting ≡ c.args.self.now.rows.now.table.shared.key = c.loop-steps.self.setting ∙ ap (λ r. r.now.table.shared.key) inv.same in
    let home_is : h ≡ key_home v.setting x = c.requires.home.0 ∙ ap (λ (y : Setting). key_home y x) (sym key_is) in
    let walked = walked_row v x m h c.loop-steps.at c.loop-steps.steps rs home_is c.loop-steps-test.true inv.place.0 inv.others in
    let nr = c.requires.number in (
      sym (λ i. word_of (k.0 i) (nr.0 i)),
      subst (HeldNumber v) (sym nr.0) inv.number,
      (inv.content.0, subst (λ n. HeldWhole v n inv.content.0) (sym nr.0) inv.content.1, subst (λ (s : Setting). IsMadeOf s a inv.content.0) (sym (ap (λ r. r.now.table.shared.key) inv.same)) inv.content.2),
    )

pub returns-then-found-eq0-clause-grown : goal.returns-then-found-eq0-clause-grown
returns-then-found-eq0-clause-grown g c =
    let k = c.requires.key in
    let a = g.J.Doing.ask in
    let asks = g.J.Doing.asks in
    let x = c.args.key in
    let inv = c.loop-steps.invariant in
    let u = c.args.self.now.seat.me.0 in
    let v = c.loop-steps.self.seat.me.0 in
    let m = c.args.self.now.rows.now.rows in
    let h = c.args.home in
    let place : ℕ = 1 + 2 * c.args.self.now.rows.now.states + c.loop-steps.at in
    let st : v.setting.states ≡ c.args.self.now.rows.now.states = ap (λ s. s.states) c.loop-steps.self.setting ∙ (ap (λ r. r.now.table.shared.key.states) inv.same ∙ sym c.args.self.now.rows.now.states_is) in
    let rs : m ≡ v.setting.rows = c.args.self.now.rows.now.rows_is ∙ (sym (ap (λ r. r.now.table.shared.key.rows) inv.same) ∙ sym (ap (λ s. s.rows) c.loop-steps.self.setting)) in
    let at_row : place ≡ row_at v.setting c.loop-steps.at = omega arith in
    let key_is : v.setting ≡ c.args.self.now.rows.now.table.shared.key = c.loop-steps.self.setting ∙ ap (λ r. r.now.table.shared.key) inv.same in
    let home_is : h ≡ key_home v.setting x = c.requires.home.0 ∙ ap (λ (y : Setting). key_home y x) (sym key_is) in
    let walked = walked_row v x m h c.loop-steps.at c.loop-steps.steps rs home_is c.loop-steps-test.true inv.place.0 inv.others in
    let nr = c.requires.number in
    let w = c.place_as-found.new.seat.me.0 in
    let found = c.place_as-found.result in
    let e = c.place_as-found.ensures in
    let d = e.1.0 in
    let learns : Learns v x a d found = subst (λ y. Learns v y a d found) k.0 e.1.2 in
    let is : w ≡ placed v asks x a place c.args.number = ap (λ m. m.0) e.1.1 ∙ (λ i. placed_as (eq-eqb found 0 c.if-found-eq0.true i) v asks (k.0 i) a d place (nr.0 i) found) in
    let grown = grown_placed asks v w x a place c.args.number k.3 is in
    grown_then asks u v w inv.grown grown

pub returns-then-found-eq0-clause-full : goal.returns-then-found-eq0-clause-full
returns-then-found-eq0-clause-full g c =
    let k = c.requires.key in
    let a = g.J.Doing.ask in
    let asks = g.J.Doing.asks in
    let x = c.args.key in
    let inv = c.loop-steps.invariant in
    let u = c.args.self.now.seat.me.0 in
    let v = c.loop-steps.self.seat.me.0 in
    let m = c.args.self.now.rows.now.rows in
    let h = c.args.home in
    let place : ℕ = 1 + 2 * c.args.self.now.rows.now.states + c.loop-steps.at in
    let st : v.setting.states ≡ c.args.self.now.rows.now.states = ap (λ s. s.states) c.loop-steps.self.setting ∙ (ap (λ r. r.now.table.shared.key.states) inv.same ∙ sym c.args.self.now.rows.now.states_is) in
    let rs : m ≡ v.setting.rows = c.args.self.now.rows.now.rows_is ∙ (sym (ap (λ r. r.now.table.shared.key.rows) inv.same) ∙ sym (ap (λ s. s.rows) c.loop-steps.self.setting)) in
    let at_row : place ≡ row_at v.setting c.loop-steps.at = omega arith in
    let key_is : v.setting ≡ c.args.self.now.rows.now.table.shared.key = c.loop-steps.self.setting ∙ ap (λ r. r.now.table.shared.key) inv.same in
    let home_is : h ≡ key_home v.setting x = c.requires.home.0 ∙ ap (λ (y : Setting). key_home y x) (sym key_is) in
    let walked = walked_row v x m h c.loop-steps.at c.loop-steps.steps rs home_is c.loop-steps-test.true inv.place.0 inv.others in
    let nr = c.requires.number in
    let w = c.place_as-found.new.seat.me.0 in
    let found = c.place_as-found.result in
    let e = c.place_as-found.ensures in
    let d = e.1.0 in
    let learns : Learns v x a d found = subst (λ y. Learns v y a d found) k.0 e.1.2 in
    let is : w ≡ placed v asks x a place c.args.number = ap (λ m. m.0) e.1.1 ∙ (λ i. placed_as (eq-eqb found 0 c.if-found-eq0.true i) v asks (k.0 i) a d place (nr.0 i) found) in
    let grown = grown_placed asks v w x a place c.args.number k.3 is in
    λ f. absurd (true_false (sym f ∙ e.3.free c.if-found-eq0.true))

pub returns-then-found-eq0-clause-own : goal.returns-then-found-eq0-clause-own
returns-then-found-eq0-clause-own g c =
    let k = c.requires.key in
    let a = g.J.Doing.ask in
    let asks = g.J.Doing.asks in
    let x = c.args.key in
    let inv = c.loop-steps.invariant in
    let u = c.args.self.now.seat.me.0 in
    let v = c.loop-steps.self.seat.me.0 in
    let m = c.args.self.now.rows.now.rows in
    let h = c.args.home in
    let place : ℕ = 1 + 2 * c.args.self.now.rows.now.states + c.loop-steps.at in
    let st : v.setting.states ≡ c.args.self.now.rows.now.states = ap (λ s. s.states) c.loop-steps.self.setting ∙ (ap (λ r. r.now.table.shared.key.states) inv.same ∙ sym c.args.self.now.rows.now.states_is) in
    let rs : m ≡ v.setting.rows = c.args.self.now.rows.now.rows_is ∙ (sym (ap (λ r. r.now.table.shared.key.rows) inv.same) ∙ sym (ap (λ s. s.rows) c.loop-steps.self.setting)) in
    let at_row : place ≡ row_at v.setting c.loop-steps.at = omega arith in
    let key_is : v.setting ≡ c.args.self.now.rows.now.table.shared.key = c.loop-steps.self.setting ∙ ap (λ r. r.now.table.shared.key) inv.same in
    let home_is : h ≡ key_home v.setting x = c.requires.home.0 ∙ ap (λ (y : Setting). key_home y x) (sym key_is) in
    let walked = walked_row v x m h c.loop-steps.at c.loop-steps.steps rs home_is c.loop-steps-test.true inv.place.0 inv.others in
    let nr = c.requires.number in
    let w = c.place_as-found.new.seat.me.0 in
    let found = c.place_as-found.result in
    let e = c.place_as-found.ensures in
    let d = e.1.0 in
    let learns : Learns v x a d found = subst (λ y. Learns v y a d found) k.0 e.1.2 in
    let is : w ≡ placed v asks x a place c.args.number = ap (λ m. m.0) e.1.1 ∙ (λ i. placed_as (eq-eqb found 0 c.if-found-eq0.true i) v asks (k.0 i) a d place (nr.0 i) found) in
    let grown = grown_placed asks v w x a place c.args.number k.3 is in
    number_then u v w inv.own record { own = ap (λ (y : View). y.own) is; draft = ap (λ (y : View). y.draft) is; used_up = ap (λ (y : View). y.used_up) is }

pub returns-then-found-eq0-clause-placed : goal.returns-then-found-eq0-clause-placed
returns-then-found-eq0-clause-placed g c =
    let k = c.requires.key in
    let a = g.J.Doing.ask in
    let asks = g.J.Doing.asks in
    let x = c.args.key in
    let inv = c.loop-steps.invariant in
    let u = c.args.self.now.seat.me.0 in
    let v = c.loop-steps.self.seat.me.0 in
    let m = c.args.self.now.rows.now.rows in
    let h = c.args.home in
    let place : ℕ = 1 + 2 * c.args.self.now.rows.now.states + c.loop-steps.at in
    let st : v.setting.states ≡ c.args.self.now.rows.now.states = ap (λ s. s.states) c.loop-steps.self.setting ∙ (ap (λ r. r.now.table.shared.key.states) inv.same ∙ sym c.args.self.now.rows.now.states_is) in
    let rs : m ≡ v.setting.rows = c.args.self.now.rows.now.rows_is ∙ (sym (ap (λ r. r.now.table.shared.key.rows) inv.same) ∙ sym (ap (λ s. s.rows) c.loop-steps.self.setting)) in
    let at_row : place ≡ row_at v.setting c.loop-steps.at = omega arith in
    let key_is : v.setting ≡ c.args.self.now.rows.now.table.shared.key = c.loop-steps.self.setting ∙ ap (λ r. r.now.table.shared.key) inv.same in
    let home_is : h ≡ key_home v.setting x = c.requires.home.0 ∙ ap (λ (y : Setting). key_home y x) (sym key_is) in
    let walked = walked_row v x m h c.loop-steps.at c.loop-steps.steps rs home_is c.loop-steps-test.true inv.place.0 inv.others in
    let nr = c.requires.number in
    let w = c.place_as-found.new.seat.me.0 in
    let found = c.place_as-found.result in
    let e = c.place_as-found.ensures in
    let d = e.1.0 in
    let learns : Learns v x a d found = subst (λ y. Learns v y a d found) k.0 e.1.2 in
    let is : w ≡ placed v asks x a place c.args.number = ap (λ m. m.0) e.1.1 ∙ (λ i. placed_as (eq-eqb found 0 c.if-found-eq0.true i) v asks (k.0 i) a d place (nr.0 i) found) in
    let grown = grown_placed asks v w x a place c.args.number k.3 is in
    let n = c.args.number in
    let spot : Ask × ℕ = (a, n) in
    let cs = inv.content in
    let whole = whole_grown asks v w grown n cs.0 cs.1 in
    let set_is : w.setting ≡ c.args.self.now.rows.now.table.shared.key = grown.setting ∙ key_is in
    let below : n < w.setting.states = subst (λ s. n < s) (c.args.self.now.rows.now.states_is ∙ ap (λ (s : Setting). s.states) (sym set_is)) nr.1 in
    record {
      asked = subst (λ (y : View). In a y.asked) (sym is) (in_back a v.asked asks k.3);
      some_rows = subst (λ (s : Setting). 1 ≤ s.rows) (sym set_is) (let lt = nr.1 in let b = c.requires.walked.0 in let e = c.args.self.now.rows.now.rows_is in omega arith);
      known = subst (λ (y : View). In spot y.known) (sym is) (in_back spot v.known (spot ∷ []) (in_here spot []));
      below = below;
      whole = is_whole w n cs.0 whole;
      made_of = subst (λ (s : Setting). IsMadeOf s a (held_content w n)) (sym set_is) (subst (IsMadeOf c.args.self.now.rows.now.table.shared.key a) (sym (content_is w n e.2 cs.0 whole)) cs.2);
    }

pub returns-then-found-key-clause-grown : goal.returns-then-found-key-clause-grown
returns-then-found-key-clause-grown g c =
    let k = c.requires.key in
    let a = g.J.Doing.ask in
    let asks = g.J.Doing.asks in
    let x = c.args.key in
    let inv = c.loop-steps.invariant in
    let u = c.args.self.now.seat.me.0 in
    let v = c.loop-steps.self.seat.me.0 in
    let m = c.args.self.now.rows.now.rows in
    let h = c.args.home in
    let place : ℕ = 1 + 2 * c.args.self.now.rows.now.states + c.loop-steps.at in
    let st : v.setting.states ≡ c.args.self.now.rows.now.states = ap (λ s. s.states) c.loop-steps.self.setting ∙ (ap (λ r. r.now.table.shared.key.states) inv.same ∙ sym c.args.self.now.rows.now.states_is) in
    let rs : m ≡ v.setting.rows = c.args.self.now.rows.now.rows_is ∙ (sym (ap (λ r. r.now.table.shared.key.rows) inv.same) ∙ sym (ap (λ s. s.rows) c.loop-steps.self.setting)) in
    let at_row : place ≡ row_at v.setting c.loop-steps.at = omega arith in
    let key_is : v.setting ≡ c.args.self.now.rows.now.table.shared.key = c.loop-steps.self.setting ∙ ap (λ r. r.now.table.shared.key) inv.same in
    let home_is : h ≡ key_home v.setting x = c.requires.home.0 ∙ ap (λ (y : Setting). key_home y x) (sym key_is) in
    let walked = walked_row v x m h c.loop-steps.at c.loop-steps.steps rs home_is c.loop-steps-test.true inv.place.0 inv.others in
    let nr = c.requires.number in
    let w = c.place_as-found.new.seat.me.0 in
    let found = c.place_as-found.result in
    let e = c.place_as-found.ensures in
    let d = e.1.0 in
    let learns : Learns v x a d found = subst (λ y. Learns v y a d found) k.0 e.1.2 in
    let is : w ≡ looked v asks x a d place found = ap (λ m. m.0) e.1.1 ∙ (λ i. placed_as (ne_eqb found 0 (λ z. c.if-found-eq0.false z) i) v asks (k.0 i) a d place (nr.0 i) found) in
    let grown = grown_looked asks v w x a d place found k.3 is in
    grown_then asks u v w inv.grown grown

pub returns-then-found-key-clause-full : goal.returns-then-found-key-clause-full
returns-then-found-key-clause-full g c =
    let k = c.requires.key in
    let a = g.J.Doing.ask in
    let asks = g.J.Doing.asks in
    let x = c.args.key in
    let inv = c.loop-steps.invariant in
    let u = c.args.self.now.seat.me.0 in
    let v = c.loop-steps.self.seat.me.0 in
    let m = c.args.self.now.rows.now.rows in
    let h = c.args.home in
    let place : ℕ = 1 + 2 * c.args.self.now.rows.now.states + c.loop-steps.at in
    let st : v.setting.states ≡ c.args.self.now.rows.now.states = ap (λ s. s.states) c.loop-steps.self.setting ∙ (ap (λ r. r.now.table.shared.key.states) inv.same ∙ sym c.args.self.now.rows.now.states_is) in
    let rs : m ≡ v.setting.rows = c.args.self.now.rows.now.rows_is ∙ (sym (ap (λ r. r.now.table.shared.key.rows) inv.same) ∙ sym (ap (λ s. s.rows) c.loop-steps.self.setting)) in
    let at_row : place ≡ row_at v.setting c.loop-steps.at = omega arith in
    let key_is : v.setting ≡ c.args.self.now.rows.now.table.shared.key = c.loop-steps.self.setting ∙ ap (λ r. r.now.table.shared.key) inv.same in
    let home_is : h ≡ key_home v.setting x = c.requires.home.0 ∙ ap (λ (y : Setting). key_home y x) (sym key_is) in
    let walked = walked_row v x m h c.loop-steps.at c.loop-steps.steps rs home_is c.loop-steps-test.true inv.place.0 inv.others in
    let nr = c.requires.number in
    let w = c.place_as-found.new.seat.me.0 in
    let found = c.place_as-found.result in
    let e = c.place_as-found.ensures in
    let d = e.1.0 in
    let learns : Learns v x a d found = subst (λ y. Learns v y a d found) k.0 e.1.2 in
    let is : w ≡ looked v asks x a d place found = ap (λ m. m.0) e.1.1 ∙ (λ i. placed_as (ne_eqb found 0 (λ z. c.if-found-eq0.false z) i) v asks (k.0 i) a d place (nr.0 i) found) in
    let grown = grown_looked asks v w x a d place found k.3 is in
    λ f. hit_marks v w asks x a d place found is u inv.marks (λ z. c.if-found-eq0.false z) c.if-found-key.true (subst (λ y. Marks v y found w) k.0 e.3) f

pub returns-then-found-key-clause-own : goal.returns-then-found-key-clause-own
returns-then-found-key-clause-own g c =
    let k = c.requires.key in
    let a = g.J.Doing.ask in
    let asks = g.J.Doing.asks in
    let x = c.args.key in
    let inv = c.loop-steps.invariant in
    let u = c.args.self.now.seat.me.0 in
    let v = c.loop-steps.self.seat.me.0 in
    let m = c.args.self.now.rows.now.rows in
    let h = c.args.home in
    let place : ℕ = 1 + 2 * c.args.self.now.rows.now.states + c.loop-steps.at in
    let st : v.setting.states ≡ c.args.self.now.rows.now.states = ap (λ s. s.states) c.loop-steps.self.setting ∙ (ap (λ r. r.now.table.shared.key.states) inv.same ∙ sym c.args.self.now.rows.now.states_is) in
    let rs : m ≡ v.setting.rows = c.args.self.now.rows.now.rows_is ∙ (sym (ap (λ r. r.now.table.shared.key.rows) inv.same) ∙ sym (ap (λ s. s.rows) c.loop-steps.self.setting)) in
    let at_row : place ≡ row_at v.setting c.loop-steps.at = omega arith in
    let key_is : v.setting ≡ c.args.self.now.rows.now.table.shared.key = c.loop-steps.self.setting ∙ ap (λ r. r.now.table.shared.key) inv.same in
    let home_is : h ≡ key_home v.setting x = c.requires.home.0 ∙ ap (λ (y : Setting). key_home y x) (sym key_is) in
    let walked = walked_row v x m h c.loop-steps.at c.loop-steps.steps rs home_is c.loop-steps-test.true inv.place.0 inv.others in
    let nr = c.requires.number in
    let w = c.place_as-found.new.seat.me.0 in
    let found = c.place_as-found.result in
    let e = c.place_as-found.ensures in
    let d = e.1.0 in
    let learns : Learns v x a d found = subst (λ y. Learns v y a d found) k.0 e.1.2 in
    let is : w ≡ looked v asks x a d place found = ap (λ m. m.0) e.1.1 ∙ (λ i. placed_as (ne_eqb found 0 (λ z. c.if-found-eq0.false z) i) v asks (k.0 i) a d place (nr.0 i) found) in
    let grown = grown_looked asks v w x a d place found k.3 is in
    number_then u v w inv.own (own_looked v w asks x a d place found is)

pub returns-then-found-key-clause-placed : goal.returns-then-found-key-clause-placed
returns-then-found-key-clause-placed g c =
    let k = c.requires.key in
    let a = g.J.Doing.ask in
    let asks = g.J.Doing.asks in
    let x = c.args.key in
    let inv = c.loop-steps.invariant in
    let u = c.args.self.now.seat.me.0 in
    let v = c.loop-steps.self.seat.me.0 in
    let m = c.args.self.now.rows.now.rows in
    let h = c.args.home in
    let place : ℕ = 1 + 2 * c.args.self.now.rows.now.states + c.loop-steps.at in
    let st : v.setting.states ≡ c.args.self.now.rows.now.states = ap (λ s. s.states) c.loop-steps.self.setting ∙ (ap (λ r. r.now.table.shared.key.states) inv.same ∙ sym c.args.self.now.rows.now.states_is) in
    let rs : m ≡ v.setting.rows = c.args.self.now.rows.now.rows_is ∙ (sym (ap (λ r. r.now.table.shared.key.rows) inv.same) ∙ sym (ap (λ s. s.rows) c.loop-steps.self.setting)) in
    let at_row : place ≡ row_at v.setting c.loop-steps.at = omega arith in
    let key_is : v.setting ≡ c.args.self.now.rows.now.table.shared.key = c.loop-steps.self.setting ∙ ap (λ r. r.now.table.shared.key) inv.same in
    let home_is : h ≡ key_home v.setting x = c.requires.home.0 ∙ ap (λ (y : Setting). key_home y x) (sym key_is) in
    let walked = walked_row v x m h c.loop-steps.at c.loop-steps.steps rs home_is c.loop-steps-test.true inv.place.0 inv.others in
    let nr = c.requires.number in
    let w = c.place_as-found.new.seat.me.0 in
    let found = c.place_as-found.result in
    let e = c.place_as-found.ensures in
    let d = e.1.0 in
    let learns : Learns v x a d found = subst (λ y. Learns v y a d found) k.0 e.1.2 in
    let is : w ≡ looked v asks x a d place found = ap (λ m. m.0) e.1.1 ∙ (λ i. placed_as (ne_eqb found 0 (λ z. c.if-found-eq0.false z) i) v asks (k.0 i) a d place (nr.0 i) found) in
    let grown = grown_looked asks v w x a d place found k.3 is in
    found_looked v w asks x a d place found is k.3 (let lt = c.requires.walked.0 in omega arith) (λ z. c.if-found-eq0.false z) c.if-found-key.true learns e.2

pub loop-steps-preserved-then-at-rows : goal.loop-steps-preserved-then-at-rows
loop-steps-preserved-then-at-rows g c =
    let k = c.requires.key in
    let a = g.J.Doing.ask in
    let asks = g.J.Doing.asks in
    let x = c.args.key in
    let inv = c.loop-steps.invariant in
    let u = c.args.self.now.seat.me.0 in
    let v = c.loop-steps.self.seat.me.0 in
    let m = c.args.self.now.rows.now.rows in
    let h = c.args.home in
    let place : ℕ = 1 + 2 * c.args.self.now.rows.now.states + c.loop-steps.at in
    let st : v.setting.states ≡ c.args.self.now.rows.now.states = ap (λ s. s.states) c.loop-steps.self.setting ∙ (ap (λ r. r.now.table.shared.key.states) inv.same ∙ sym c.args.self.now.rows.now.states_is) in
    let rs : m ≡ v.setting.rows = c.args.self.now.rows.now.rows_is ∙ (sym (ap (λ r. r.now.table.shared.key.rows) inv.same) ∙ sym (ap (λ s. s.rows) c.loop-steps.self.setting)) in
    let at_row : place ≡ row_at v.setting c.loop-steps.at = omega arith in
    let key_is : v.setting ≡ c.args.self.now.rows.now.table.shared.key = c.loop-steps.self.setting ∙ ap (λ r. r.now.table.shared.key) inv.same in
    let home_is : h ≡ key_home v.setting x = c.requires.home.0 ∙ ap (λ (y : Setting). key_home y x) (sym key_is) in
    let walked = walked_row v x m h c.loop-steps.at c.loop-steps.steps rs home_is c.loop-steps-test.true inv.place.0 inv.others in
    let nr = c.requires.number in
    let w = c.place_as-found.new.seat.me.0 in
    let found = c.place_as-found.result in
    let e = c.place_as-found.ensures in
    let d = e.1.0 in
    let learns : Learns v x a d found = subst (λ y. Learns v y a d found) k.0 e.1.2 in
    let is : w ≡ looked v asks x a d place found = ap (λ m. m.0) e.1.1 ∙ (λ i. placed_as (ne_eqb found 0 (λ z. c.if-found-eq0.false z) i) v asks (k.0 i) a d place (nr.0 i) found) in
    let grown = grown_looked asks v w x a d place found k.3 is in
    let here = other_here v w asks x a d place found is c.loop-steps.at at_row (λ z. c.if-found-eq0.false z) (λ z. c.if-found-key.false z) in
    let all = others_looked v w asks x a d place found is k.3 m h c.loop-steps.steps inv.others (subst (OtherKey w x) inv.place.0 here) in
    let lt = c.loop-steps-test.true in
    let cs = inv.content in
    record {
      same = inv.same;
      place = (sym (walk_around m h c.loop-steps.steps (let p = inv.place.0 in let t = c.if-at-rows.true in omega arith)), omega arith, omega arith);
      held = key_grown asks v w grown x a inv.held;
      number = number_grown asks v w grown c.args.number inv.number;
      content = (cs.0, whole_grown asks v w grown c.args.number cs.0 cs.1, cs.2);
      grown = grown_then asks u v w inv.grown grown;
      own = number_then u v w inv.own (own_looked v w asks x a d place found is);
      others = all;
      marks = λ f. marks_looked v w asks x a d place found is k.3 u inv.marks f;
      done = λ e. full_looked v w asks x a d place found is m h rs (λ j lt. all j (omega arith));
      count = (let one : w.steps ≡ v.steps + 1 = ap (λ (y : View). y.steps) is in let n = inv.count in omega arith);
    }

pub loop-steps-preserved : goal.loop-steps-preserved
loop-steps-preserved g c =
    let k = c.requires.key in
    let a = g.J.Doing.ask in
    let asks = g.J.Doing.asks in
    let x = c.args.key in
    let inv = c.loop-steps.invariant in
    let u = c.args.self.now.seat.me.0 in
    let v = c.loop-steps.self.seat.me.0 in
    let m = c.args.self.now.rows.now.rows in
    let h = c.args.home in
    let place : ℕ = 1 + 2 * c.args.self.now.rows.now.states + c.loop-steps.at in
    let st : v.setting.states ≡ c.args.self.now.rows.now.states = ap (λ s. s.states) c.loop-steps.self.setting ∙ (ap (λ r. r.now.table.shared.key.states) inv.same ∙ sym c.args.self.now.rows.now.states_is) in
    let rs : m ≡ v.setting.rows = c.args.self.now.rows.now.rows_is ∙ (sym (ap (λ r. r.now.table.shared.key.rows) inv.same) ∙ sym (ap (λ s. s.rows) c.loop-steps.self.setting)) in
    let at_row : place ≡ row_at v.setting c.loop-steps.at = omega arith in
    let key_is : v.setting ≡ c.args.self.now.rows.now.table.shared.key = c.loop-steps.self.setting ∙ ap (λ r. r.now.table.shared.key) inv.same in
    let home_is : h ≡ key_home v.setting x = c.requires.home.0 ∙ ap (λ (y : Setting). key_home y x) (sym key_is) in
    let walked = walked_row v x m h c.loop-steps.at c.loop-steps.steps rs home_is c.loop-steps-test.true inv.place.0 inv.others in
    let nr = c.requires.number in
    let w = c.place_as-found.new.seat.me.0 in
    let found = c.place_as-found.result in
    let e = c.place_as-found.ensures in
    let d = e.1.0 in
    let learns : Learns v x a d found = subst (λ y. Learns v y a d found) k.0 e.1.2 in
    let is : w ≡ looked v asks x a d place found = ap (λ m. m.0) e.1.1 ∙ (λ i. placed_as (ne_eqb found 0 (λ z. c.if-found-eq0.false z) i) v asks (k.0 i) a d place (nr.0 i) found) in
    let grown = grown_looked asks v w x a d place found k.3 is in
    let here = other_here v w asks x a d place found is c.loop-steps.at at_row (λ z. c.if-found-eq0.false z) (λ z. c.if-found-key.false z) in
    let all = others_looked v w asks x a d place found is k.3 m h c.loop-steps.steps inv.others (subst (OtherKey w x) inv.place.0 here) in
    let lt = c.loop-steps-test.true in
    let cs = inv.content in
    record {
      same = inv.same;
      place = (ap (λ q. q + 1) inv.place.0 ∙ sym (walk_next m h c.loop-steps.steps (let p = inv.place.0 in let t = c.if-at-rows.false in omega arith)), omega arith, omega arith);
      held = key_grown asks v w grown x a inv.held;
      number = number_grown asks v w grown c.args.number inv.number;
      content = (cs.0, whole_grown asks v w grown c.args.number cs.0 cs.1, cs.2);
      grown = grown_then asks u v w inv.grown grown;
      own = number_then u v w inv.own (own_looked v w asks x a d place found is);
      others = all;
      marks = λ f. marks_looked v w asks x a d place found is k.3 u inv.marks f;
      done = λ e. full_looked v w asks x a d place found is m h rs (λ j lt. all j (omega arith));
      count = (let one : w.steps ≡ v.steps + 1 = ap (λ (y : View). y.steps) is in let n = inv.count in omega arith);
    }

pub returns-clause-placed : goal.returns-clause-placed
returns-clause-placed g c =
    let x = c.args.key in
    let inv = c.loop-steps.invariant in
    let v = c.loop-steps.self.seat.me.0 in
    let m = c.args.self.now.rows.now.rows in
    let h = c.args.home in
    let rs : m ≡ v.setting.rows = c.args.self.now.rows.now.rows_is ∙ (sym (ap (λ r. r.now.table.shared.key.rows) inv.same) ∙ sym (ap (λ s. s.rows) c.loop-steps.self.setting)) in
    let key_is : v.setting ≡ c.args.self.now.rows.now.table.shared.key = c.loop-steps.self.setting ∙ ap (λ r. r.now.table.shared.key) inv.same in
    let home_is : h ≡ key_home v.setting x = c.requires.home.0 ∙ ap (λ (y : Setting). key_home y x) (sym key_is) in
    let past = c.loop-steps-test.false in
    let end = inv.place.2 in
    (inv.done (omega arith), λ j lt. subst (OtherKey v x) (λ i. walk (rs i) (home_is i) j) (inv.others j (omega arith)))

-- an exchange is one step, whether it is won or not
placed_steps : (b : Bool) (v : View) (asks : List Ask) (x : ℕ) (a : Ask) (d : List ℕ) (place n found : ℕ) → (placed_as b v asks x a d place n found).steps ≡ v.steps + 1
placed_steps true v asks x a d place n found = refl
placed_steps false v asks x a d place n found = refl

last_step : (u v w rows steps : ℕ) → v ≤ u + steps → steps < rows → w ≡ v + 1 → w ≤ u + rows
last_step u v w rows steps e lt is = omega (arith, e, lt, is)

pub returns-then-found-eq0-clause-few : goal.returns-then-found-eq0-clause-few
returns-then-found-eq0-clause-few g c =
    let v = c.loop-steps.self.seat.me.0 in
    let found = c.place_as-found.result in
    let e = c.place_as-found.ensures in
    let place : ℕ = 1 + 2 * c.args.self.now.rows.now.states + c.loop-steps.at in
    last_step c.args.self.now.seat.me.0.steps v.steps c.place_as-found.new.seat.me.0.steps c.args.self.now.rows.now.rows c.loop-steps.steps c.loop-steps.invariant.count c.loop-steps-test.true
    (ap (λ m. (m.0).steps) e.1.1 ∙ placed_steps (found == 0) v g.J.Doing.asks g.J.Doing.key g.J.Doing.ask e.1.0 place g.J.Doing.number found)

pub returns-then-found-key-clause-few : goal.returns-then-found-key-clause-few
returns-then-found-key-clause-few g c =
    let v = c.loop-steps.self.seat.me.0 in
    let found = c.place_as-found.result in
    let e = c.place_as-found.ensures in
    let place : ℕ = 1 + 2 * c.args.self.now.rows.now.states + c.loop-steps.at in
    last_step c.args.self.now.seat.me.0.steps v.steps c.place_as-found.new.seat.me.0.steps c.args.self.now.rows.now.rows c.loop-steps.steps c.loop-steps.invariant.count c.loop-steps-test.true
    (ap (λ m. (m.0).steps) e.1.1 ∙ placed_steps (found == 0) v g.J.Doing.asks g.J.Doing.key g.J.Doing.ask e.1.0 place g.J.Doing.number found)

pub returns-clause-few : goal.returns-clause-few
returns-clause-few g c =
    let count = c.loop-steps.invariant.count in
    let end = c.loop-steps.invariant.place.2 in
    omega arith
