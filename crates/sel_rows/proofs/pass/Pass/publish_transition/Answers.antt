use Rattle.std.proofs.Common.{◌≡◌, ◌+◌, ◌<◌, ◌≤◌, [], ◌∷◌, sym, ap, ◌∙◌, subst, refl, arith, ⊎_elim}
use Rattle.sel_items.specs.declared.items.Items.{Items}
use Rattle.sel_items.specs.Follows.{Follows}
use Rattle.sel_items.specs.Words.{FitsWords}
use Rattle.sel_law.specs.declared.Setting.{Setting}
use Rattle.sel_law.specs.Words.{In, items_of, node_key, key_home, IsMadeOf}
use Rattle.sel_law.specs.Kinds.{WalkedRow}
use Rattle.sel_law.proofs.Base.{in_here}
use Rattle.sel_rows.specs.Held.{held_ask, held_content}
use Rattle.sel_rows.specs.Grown.{Grown}
use Rattle.sel_rows.specs.FoundRow.{HoldsKey, HoldsOthers}
use Rattle.sel_rows.specs.Calls.{number_of_key, ask_of_key}
use Rattle.sel_rows.proofs.Contents.{whole_is}
use Rattle.sel_rows.proofs.SingleCalls.{ReadKey, read_key}
use Rattle.sel_rows.proofs.pass.Pass.publish_transition.Goals as goal

pub place-requires-clause-key : goal.place-requires-clause-key
place-requires-clause-key c =
    let s = c.args.self.now in
    let v = s.hand.seat.me.0 in
    let x = c.number_of_key-key_number.result in
    let same = c.number_of_key-key_number.ensures in
    let r = subst (ReadKey v c.args.key) (sym same) (read_key v c.args.key (omega arith) (omega arith) (omega arith) c.requires.key) in
    (refl, r.key, r.held, in_here (held_ask v x) [])

pub place-requires-clause-small : goal.place-requires-clause-small
place-requires-clause-small c =
    let s = c.args.self.now in
    let v = s.hand.seat.me.0 in
    let x = c.number_of_key-key_number.result in
    let same = c.number_of_key-key_number.ensures in
    let r = subst (ReadKey v c.args.key) (sym same) (read_key v c.args.key (omega arith) (omega arith) (omega arith) c.requires.key) in
    r.small

pub place-requires-clause-home : goal.place-requires-clause-home
unfolding key_home
place-requires-clause-home c = (c.home_of_key-home.ensures.is, c.home_of_key-home.ensures.small)

pub place-requires-clause-walked : goal.place-requires-clause-walked
place-requires-clause-walked c =
    let s = c.args.self.now in
    let v = s.hand.seat.me.0 in
    let same = c.number_of_key-key_number.ensures in
    let ne = c.if-self-eq0.false in
    let rows : s.hand.rows.now.rows ≡ v.setting.rows = s.hand.rows.now.rows_is ∙ ap (λ (y : Setting). y.rows) (sym s.hand.setting) in
    ⊎_elim
    (λ (h : (v.setting.rows ≡ 0) × (c.args.place ≡ 0)). absurd (ne (rows ∙ h.0)))
    (λ (h : (c.args.place < v.setting.rows) × WalkedRow v (number_of_key c.args.key) c.args.place × In (ask_of_key v c.args.key) v.asked).
    (subst (λ r. c.args.place < r) (sym rows) h.0, subst (λ y. WalkedRow v y c.args.place) (sym same) h.1))
    c.requires.walked

pub place-requires-clause-number : goal.place-requires-clause-number
place-requires-clause-number c =
    let s = c.args.self.now in
    let v = s.hand.seat.me.0 in
    let x = c.number_of_key-key_number.result in
    let same = c.number_of_key-key_number.ensures in
    let n = c.args.number in
    let i = c.requires.number.0 in
    let holds = c.requires.number.1 in
    let follows = c.requires.number.2 in
    let z = s.hand.rows.now.table.shared.key in
    let states : s.hand.rows.now.states ≡ v.setting.states = s.hand.rows.now.states_is ∙ ap (λ (y : Setting). y.states) (sym s.hand.setting) in
    let below = holds.below in
    let whole = whole_is v n holds.whole in
    let made : IsMadeOf v.setting (held_ask v x) (held_content v n) = record {
      long = whole.0;
      words = holds.packed;
      fits = subst FitsWords holds.items holds.fits;
      follows = subst (λ y. Follows v.setting.normal.value (node_key (held_ask v y)) (items_of (held_content v n))) (sym same) (subst (λ (j : Items). Follows v.setting.normal.value (node_key (ask_of_key v c.args.key)) j) holds.items follows);
    } in
    (refl, omega arith, holds.number, (held_content v n, whole, subst (λ (y : Setting). IsMadeOf y (held_ask v x) (held_content v n)) s.hand.setting made))

pub returns-in-Known-clause-kept : goal.returns-in-Known-clause-kept
returns-in-Known-clause-kept c =
    let s = c.args.self.now in
    let v = s.hand.seat.me.0 in
    let t = c.place.new.self in
    let same = c.number_of_key-key_number.ensures in
    let grown = subst (λ x. Grown (held_ask v x ∷ []) v t.seat.me.0) same c.place.ensures.grown in
    record {
      grown = grown;
      standing = λ i. record { table = (c.place.ensures.same i).now.table.shared.table_id; setting = (c.place.ensures.same i).now.table.shared.key; seats = grown.seats.0 i; rest = grown.seats.1 i };
      plain = refl;
      evaluated = refl;
    }

pub returns-in-RowFull-clause-kept : goal.returns-in-RowFull-clause-kept
returns-in-RowFull-clause-kept c =
    let s = c.args.self.now in
    let v = s.hand.seat.me.0 in
    let t = c.place.new.self in
    let same = c.number_of_key-key_number.ensures in
    let grown = subst (λ x. Grown (held_ask v x ∷ []) v t.seat.me.0) same c.place.ensures.grown in
    record {
      grown = grown;
      standing = λ i. record { table = (c.place.ensures.same i).now.table.shared.table_id; setting = (c.place.ensures.same i).now.table.shared.key; seats = grown.seats.0 i; rest = grown.seats.1 i };
      plain = refl;
      evaluated = refl;
    }

pub returns-in-Known-clause-placed : goal.returns-in-Known-clause-placed
returns-in-Known-clause-placed c =
    let s = c.args.self.now in
    let v = s.hand.seat.me.0 in
    (subst (λ x. HoldsKey c.place.new.self.seat.me.0 (held_ask v x) c.in-Known.known) c.number_of_key-key_number.ensures c.in-Known.ensures.placed, refl)

pub returns-in-RowFull-clause-placed : goal.returns-in-RowFull-clause-placed
returns-in-RowFull-clause-placed c =
    let w = c.place.new.self.seat.me.0 in
    (refl, subst (λ x. HoldsOthers w x w.setting.rows) c.number_of_key-key_number.ensures c.in-RowFull.ensures.placed.1)

pub returns-in-Known-clause-few : goal.returns-in-Known-clause-few
returns-in-Known-clause-few c =
    let s = c.args.self.now in
    let v = s.hand.seat.me.0 in
    let rows : s.hand.rows.now.rows ≡ v.setting.rows = s.hand.rows.now.rows_is ∙ ap (λ (y : Setting). y.rows) (sym s.hand.setting) in
    subst (λ r. c.place.new.self.seat.me.0.steps ≤ v.steps + r) rows c.place.ensures.few

pub returns-in-RowFull-clause-few : goal.returns-in-RowFull-clause-few
returns-in-RowFull-clause-few c =
    let s = c.args.self.now in
    let v = s.hand.seat.me.0 in
    let rows : s.hand.rows.now.rows ≡ v.setting.rows = s.hand.rows.now.rows_is ∙ ap (λ (y : Setting). y.rows) (sym s.hand.setting) in
    subst (λ r. c.place.new.self.seat.me.0.steps ≤ v.steps + r) rows c.place.ensures.few
