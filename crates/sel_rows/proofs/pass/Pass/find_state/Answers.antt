use Rattle.std.proofs.Common.{◌≡◌, ◌+◌, ◌*◌, ◌≤◌, length, [], subst, arith, sym, ap, ◌∙◌, refl, inl}
use Rattle.sel_normal.specs.NormalForms.{NormalForm}
use Rattle.sel_law.specs.declared.Setting.{Setting}
use Rattle.sel_law.specs.Words.{content_home}
use Rattle.sel_rows.proofs.Growth.{grown_self}
use Rattle.sel_rows.proofs.SingleCalls.{fits_of_packable, finds_state}
use Rattle.sel_rows.proofs.pass.Pass.find_state.Goals as goal

pub returns-then-self-eq0-clause-found : goal.returns-then-self-eq0-clause-found
returns-then-self-eq0-clause-found c =
    let s = c.args.self.now in
    inl (ap (λ (y : Setting). y.states) s.hand.setting ∙ (sym s.hand.rows.now.states_is ∙ c.if-self-eq0.true), refl, refl)

pub returns-then-self-eq0-clause-kept : goal.returns-then-self-eq0-clause-kept
returns-then-self-eq0-clause-kept c = record { grown = grown_self [] c.args.self.now.hand.seat.me.0; standing = refl; plain = refl; evaluated = refl }

pub find_state-requires-clause-items : goal.find_state-requires-clause-items
find_state-requires-clause-items c =
    let s = c.args.self.now in
    c.put_words.ensures.long ∙ (c.requires.items.long ∙ sym (s.hand.rows.now.width_normal ∙ ap (λ (n : NormalForm). n.nonterminals) s.normal_is))

pub find_state-requires-clause-home : goal.find_state-requires-clause-home
unfolding content_home
find_state-requires-clause-home c = (c.home_of_words.ensures.is, c.home_of_words.ensures.small)

pub returns-clause-found : goal.returns-clause-found
returns-clause-found c =
    let s = c.args.self.now in
    let e = c.put_words.ensures in
    finds_state s.hand.seat.me.0 c.find_state.new.self.seat.me.0 c.put_words.new.words c.args.items.now record { packed = e.packed; says = e.again } (fits_of_packable c.args.items.now c.requires.items.packable) c.find_state.result c.find_state.ensures.found

pub returns-clause-kept : goal.returns-clause-kept
returns-clause-kept c =
    let e = c.find_state.ensures in
    record {
      grown = e.grown;
      standing = λ i. record { table = (e.same i).now.table.shared.table_id; setting = (e.same i).now.table.shared.key; seats = e.grown.seats.0 i; rest = e.grown.seats.1 i };
      plain = refl;
      evaluated = refl;
    }

pub returns-then-self-eq0-clause-few : goal.returns-then-self-eq0-clause-few
returns-then-self-eq0-clause-few c = omega arith

pub returns-clause-few : goal.returns-clause-few
returns-clause-few c =
    let s = c.args.self.now in
    let v = s.hand.seat.me.0 in
    let w = c.find_state.new.self.seat.me.0 in
    let states : s.hand.rows.now.states ≡ v.setting.states = s.hand.rows.now.states_is ∙ ap (λ (y : Setting). y.states) (sym s.hand.setting) in
    subst (λ k. w.steps ≤ v.steps + 2 * k * (length c.args.items.now.entries + 1)) states
    (subst (λ l. w.steps ≤ v.steps + 2 * s.hand.rows.now.states * (l + 1)) c.put_words.ensures.long c.find_state.ensures.few)
