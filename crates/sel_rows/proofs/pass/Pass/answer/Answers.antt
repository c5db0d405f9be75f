use Rattle.std.proofs.Common.{◌≡◌, ℕ, List, [], ◌∷◌, Some, None, sym, ap, ◌∙◌, subst, arith, refl}
use Rattle.sel_items.specs.declared.items.Items.{Items}
use Rattle.sel_items.specs.Labels.{KidsAre}
use Rattle.sel_rows.specs.Meanings.{Means, KnowsKey}
use Rattle.sel_rows.specs.SeenKey.{LooksMarked}
use Rattle.sel_law.specs.declared.Setting.{Setting}
use Rattle.sel_law.specs.Words.{node_key}
use Rattle.sel_law.proofs.Base.{in_here, in_one, in_nil}
use Rattle.sel_rows.specs.Held.{held_ask}
use Rattle.sel_rows.specs.Answers.{AnswersKnown, PlainCause, IsTabledAs}
use Rattle.sel_rows.proofs.Keys.{KeyFacts, key_facts}
use Rattle.sel_rows.proofs.pass.Pass.answer.Goals as goal

some_is : (x y : ℕ) → Some x ≡ Some y → x ≡ y
some_is x y e = cc

none_some : (x : ℕ) → None ≡ Some x → ⊥
none_some x e = cc

pub answer_over_numbers-requires-clause-doing : goal.answer_over_numbers-requires-clause-doing
answer_over_numbers-requires-clause-doing g c = (refl, in_here (held_ask c.args.self.now.hand.seat.me.0 c.in-Some.key) [])

pub answer_over_numbers-requires-clause-node : goal.answer_over_numbers-requires-clause-node
answer_over_numbers-requires-clause-node g c =
    let s = c.args.self.now in
    let u = s.hand.seat.me.0 in
    let x = c.in-Some.key in
    let ks = (c.requires.may).kids in
    let few = s.hand.rows.now.small_states.0 in
    let states : s.hand.rows.now.states ≡ u.setting.states = s.hand.rows.now.states_is ∙ ap (λ (y : Setting). y.states) (sym s.hand.setting) in
    let facts : (is : List Items) → KidsAre (Means u s.plain.items) c.args.kids.0 c.args.kids.1 is → KeyFacts u x c.args.operator c.args.class c.args.kids.0 c.args.kids.1 is = λ is h. key_facts s.normal.now u s.plain.items c.args.operator c.args.class x c.args.kids.0 c.args.kids.1 is (omega arith) (omega arith) (omega arith) (c.requires.may).over (sym c.key_number.ensures ∙ c.in-Some.is) h in
    let f = facts ks.0 ks.1 in
    record {
      lawful = (f.key, f.small);
      held = f.held;
      numbered = f.numbered;
      packed = f.packed;
      node = λ is h. (facts is h).node;
    }

pub returns-in-None-clause-grown : goal.returns-in-None-clause-grown
returns-in-None-clause-grown g c = record { asks = []; grown = c.answer_over_plain.ensures.grown; own = λ k h. absurd (in_nil k h) }

pub returns-in-Some-clause-grown : goal.returns-in-Some-clause-grown
returns-in-Some-clause-grown g c =
    let s = c.args.self.now in
    let u = s.hand.seat.me.0 in
    let x = c.in-Some.key in
    let ks = (c.requires.may).kids in
    let few = s.hand.rows.now.small_states.0 in
    let states : s.hand.rows.now.states ≡ u.setting.states = s.hand.rows.now.states_is ∙ ap (λ (y : Setting). y.states) (sym s.hand.setting) in
    let facts : (is : List Items) → KidsAre (Means u s.plain.items) c.args.kids.0 c.args.kids.1 is → KeyFacts u x c.args.operator c.args.class c.args.kids.0 c.args.kids.1 is = λ is h. key_facts s.normal.now u s.plain.items c.args.operator c.args.class x c.args.kids.0 c.args.kids.1 is (omega arith) (omega arith) (omega arith) (c.requires.may).over (sym c.key_number.ensures ∙ c.in-Some.is) h in
    let ask = held_ask u x in record {
      asks = ask ∷ [];
      grown = c.answer_over_numbers.ensures.grown;
      own = λ k h. ((facts ks.0 ks.1).numbered, λ is q. ap node_key (sym (in_one k ask h)) ∙ (facts is q).node);
    }

pub returns-in-None-clause-hit : goal.returns-in-None-clause-hit
returns-in-None-clause-hit g c = λ x e. absurd (none_some x (sym (sym c.key_number.ensures ∙ c.in-None.is) ∙ e))

pub returns-in-Some-clause-hit : goal.returns-in-Some-clause-hit
returns-in-Some-clause-hit g c = λ x e.
    let same : c.in-Some.key ≡ x = some_is c.in-Some.key x (sym (sym c.key_number.ensures ∙ c.in-Some.is) ∙ e) in
    subst (λ y. AnswersKnown c.args.self.now c.answer_over_numbers.new.self (held_ask c.args.self.now.hand.seat.me.0 y) c.answer_over_numbers.result c.args.steps.now c.answer_over_numbers.new.steps) same c.answer_over_numbers.ensures.hit

pub returns-in-None-clause-cause : goal.returns-in-None-clause-cause
returns-in-None-clause-cause g c = λ x e. absurd (none_some x (sym (sym c.key_number.ensures ∙ c.in-None.is) ∙ e))

pub returns-in-Some-clause-cause : goal.returns-in-Some-clause-cause
returns-in-Some-clause-cause g c = λ x e.
    let s = c.args.self.now in
    let t = c.answer_over_numbers.new.self in
    let u = s.hand.seat.me.0 in
    let same : c.in-Some.key ≡ x = some_is c.in-Some.key x (sym (sym c.key_number.ensures ∙ c.in-Some.is) ∙ e) in
    subst (λ y. PlainCause u s.spare s.hand.rows.now.table.shared.key (held_ask u y) t.used_up t.hand.seat.me.0 c.answer_over_numbers.result) same c.answer_over_numbers.ensures.cause

pub returns-in-None-clause-published : goal.returns-in-None-clause-published
returns-in-None-clause-published g c = λ x e. absurd (none_some x (sym (sym c.key_number.ensures ∙ c.in-None.is) ∙ e))

pub returns-in-Some-clause-published : goal.returns-in-Some-clause-published
returns-in-Some-clause-published g c = λ x e.
    let s = c.args.self.now in
    let t = c.answer_over_numbers.new.self in
    let u = s.hand.seat.me.0 in
    let same : c.in-Some.key ≡ x = some_is c.in-Some.key x (sym (sym c.key_number.ensures ∙ c.in-Some.is) ∙ e) in
    subst (λ y. IsTabledAs t.hand.seat.me.0 (held_ask u y) t.row_full c.answer_over_numbers.result) same c.answer_over_numbers.ensures.published

pub returns-in-None-clause-known : goal.returns-in-None-clause-known
returns-in-None-clause-known g c = λ x n e. absurd (none_some x (sym (sym c.key_number.ensures ∙ c.in-None.is) ∙ e))

pub returns-in-Some-clause-known : goal.returns-in-Some-clause-known
returns-in-Some-clause-known g c = λ x n e known.
    let u = c.args.self.now.hand.seat.me.0 in
    let same : x ≡ c.in-Some.key = some_is x c.in-Some.key (sym e ∙ (sym c.key_number.ensures ∙ c.in-Some.is)) in
    c.answer_over_numbers.ensures.known n (subst (λ y. KnowsKey u (held_ask u y) n) same known)

pub returns-in-None-clause-looked : goal.returns-in-None-clause-looked
returns-in-None-clause-looked g c = λ x e. absurd (none_some x (sym (sym c.key_number.ensures ∙ c.in-None.is) ∙ e))

pub returns-in-Some-clause-looked : goal.returns-in-Some-clause-looked
returns-in-Some-clause-looked g c = λ x e.
    let s = c.args.self.now in
    let u = s.hand.seat.me.0 in
    let same : c.in-Some.key ≡ x = some_is c.in-Some.key x (sym (sym c.key_number.ensures ∙ c.in-Some.is) ∙ e) in
    subst (λ y. LooksMarked u c.answer_over_numbers.new.self.hand.seat.me.0 y (held_ask u y) s.row_full) same c.answer_over_numbers.ensures.looked
