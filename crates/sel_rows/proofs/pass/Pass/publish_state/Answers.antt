use Rattle.std.proofs.Common.{◌≡◌, ◌+◌, ◌*◌, ◌≤◌, [], length, sym, ap, ◌∙◌, subst, refl, arith}
use Rattle.sel_normal.specs.NormalForms.{NormalForm}
use Rattle.sel_items.specs.Follows.{Follows}
use Rattle.sel_law.specs.declared.Setting.{Setting}
use Rattle.sel_law.proofs.Base.{in_front}
use Rattle.sel_rows.proofs.Labelled.{made_by}
use Rattle.sel_rows.proofs.SingleCalls.{fits_of_packable, holds_of_content, walked_for}
use Rattle.sel_rows.proofs.pass.Pass.publish_state.Goals as goal

pub publish-requires-clause-asked : goal.publish-requires-clause-asked
publish-requires-clause-asked c =
    let s = c.args.self.now in
    let v = s.hand.seat.me.0 in
    let z = s.hand.rows.now.table.shared.key in
    let e = c.put_words.ensures in
    let f = c.requires.follows in
    let a = f.1.0 in
    let width : z.width ≡ z.normal.value.nonterminals = sym s.hand.rows.now.width_is ∙ s.hand.rows.now.width_normal in (
      a,
      in_front a v.asked [] f.1.1,
      made_by z z.normal.value a f.0 c.args.items.now c.put_words.new.words width refl (sym f.1.2) (subst (λ (y : Setting). Follows y.normal.value f.0 c.args.items.now) s.hand.setting f.2) (fits_of_packable c.args.items.now c.requires.items.packable) e.again e.packed,
    )

pub publish-requires-clause-items : goal.publish-requires-clause-items
publish-requires-clause-items c =
    let s = c.args.self.now in
    let long : length c.put_words.new.words ≡ s.hand.rows.now.width = c.put_words.ensures.long ∙ (c.requires.items.long ∙ sym (s.hand.rows.now.width_normal ∙ ap (λ (n : NormalForm). n.nonterminals) s.normal_is)) in
    let some = s.hand.rows.now.some_width in
    (long, omega arith)

pub publish-requires-clause-walked : goal.publish-requires-clause-walked
publish-requires-clause-walked c =
    let s = c.args.self.now in
    let v = s.hand.seat.me.0 in
    let e = c.put_words.ensures in
    let states : s.hand.rows.now.states ≡ v.setting.states = s.hand.rows.now.states_is ∙ ap (λ (y : Setting). y.states) (sym s.hand.setting) in
    let inside = c.requires.walked.0 in
    (omega arith, walked_for v c.args.items.now c.args.place c.put_words.new.words record { packed = e.packed; says = e.again } c.requires.walked)

pub returns-in-Own-clause-stands : goal.returns-in-Own-clause-stands
returns-in-Own-clause-stands c =
    let s = c.args.self.now in
    let w = c.publish.new.self.seat.me.0 in
    let e = c.put_words.ensures in
    let h = c.in-Own.ensures.stands in
    (sym s.spare_is ∙ h.0, refl, holds_of_content w c.in-Own.own c.put_words.new.words c.args.items.now h.2 e.packed e.again (fits_of_packable c.args.items.now c.requires.items.packable))

pub returns-in-Lost-clause-stands : goal.returns-in-Lost-clause-stands
returns-in-Lost-clause-stands c =
    let w = c.publish.new.self.seat.me.0 in
    let e = c.put_words.ensures in
    let h = c.in-Lost.ensures.stands in
    (refl, holds_of_content w c.in-Lost.other c.put_words.new.words c.args.items.now h.1 e.packed e.again (fits_of_packable c.args.items.now c.requires.items.packable))

pub returns-in-Own-clause-kept : goal.returns-in-Own-clause-kept
returns-in-Own-clause-kept c =
    let e = c.publish.ensures in
    record {
      grown = e.grown;
      standing = λ i. record { table = (e.same i).now.table.shared.table_id; setting = (e.same i).now.table.shared.key; seats = e.grown.seats.0 i; rest = e.grown.seats.1 i };
      plain = refl;
      evaluated = refl;
    }

pub returns-in-Lost-clause-kept : goal.returns-in-Lost-clause-kept
returns-in-Lost-clause-kept c =
    let e = c.publish.ensures in
    record {
      grown = e.grown;
      standing = λ i. record { table = (e.same i).now.table.shared.table_id; setting = (e.same i).now.table.shared.key; seats = e.grown.seats.0 i; rest = e.grown.seats.1 i };
      plain = refl;
      evaluated = refl;
    }

pub returns-in-Own-clause-few : goal.returns-in-Own-clause-few
returns-in-Own-clause-few c =
    let s = c.args.self.now in
    let v = s.hand.seat.me.0 in
    let w = c.publish.new.self.seat.me.0 in
    let states : s.hand.rows.now.states ≡ v.setting.states = s.hand.rows.now.states_is ∙ ap (λ (y : Setting). y.states) (sym s.hand.setting) in
    let entries = length c.args.items.now.entries in
    subst (λ k. w.steps ≤ v.steps + entries + 2 * k * (entries + 1)) states
    (subst (λ l. w.steps ≤ v.steps + l + 2 * s.hand.rows.now.states * (l + 1)) c.put_words.ensures.long c.publish.ensures.few)

pub returns-in-Lost-clause-few : goal.returns-in-Lost-clause-few
returns-in-Lost-clause-few c =
    let s = c.args.self.now in
    let v = s.hand.seat.me.0 in
    let w = c.publish.new.self.seat.me.0 in
    let states : s.hand.rows.now.states ≡ v.setting.states = s.hand.rows.now.states_is ∙ ap (λ (y : Setting). y.states) (sym s.hand.setting) in
    let entries = length c.args.items.now.entries in
    subst (λ k. w.steps ≤ v.steps + entries + 2 * k * (entries + 1)) states
    (subst (λ l. w.steps ≤ v.steps + l + 2 * s.hand.rows.now.states * (l + 1)) c.put_words.ensures.long c.publish.ensures.few)
