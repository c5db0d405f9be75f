use Rattle.std.specs.Prelude.{IfOk, ◌↔◌}
use Rattle.sel_law.specs.declared.View.{View}
use Rattle.sel_law.specs.Words.{node_key, HasPackedKids}
use Rattle.sel_items.specs.Labels.{IsPlain, KidsAre}
use Rattle.sel_items.specs.Laws.{FollowsIsOne}
use Rattle.sel_items.specs.declared.label.Label.TheVariants.{Plain}
use Rattle.sel_rows.specs.declared.pass.Pass.{Pass}
use Rattle.sel_rows.specs.Answers.{IsTabledAs, PlainCause}
use Rattle.sel_rows.specs.FoundRow.{HoldsKey}
use Rattle.sel_rows.specs.Keys.{key_number}
use Rattle.sel_rows.specs.PlainLabels.{IsPlainFor}
use Rattle.sel_rows.proofs.PlainCauses.{plain_cause, not_plain_for, if_ok_both}
use Rattle.std.proofs.Common.{◌≡◌, ◌⊎◌, ℕ, Bool, true, List, Option, Some, None, Result, Ok, Err, refl, sym, ap, ◌∙◌, subst, ⊎_elim, inl, inr, arith}
use Rattle.sel_normal.specs.NormalForms.{NormalForm}
use Rattle.sel_items.specs.declared.items.Items.{Items}
use Rattle.sel_items.specs.declared.label.Label.{Label}
use Rattle.sel_items.specs.declared.label.Label.TheVariants.{Numbered}
use Rattle.sel_items.specs.Follows.{NodeKey, key_of, Follows}
use Rattle.sel_law.specs.declared.Setting.{Setting}
use Rattle.sel_law.specs.Words.{In}
use Rattle.sel_law.proofs.Packed.{asks_same}
use Rattle.sel_rows.specs.Held.{held_ask, held_content}
use Rattle.sel_items.specs.Automata.{IsLabelled}
use Rattle.sel_rows.specs.Meanings.{told_by, Means, KnowsKey, IsKnownAs}
use Rattle.sel_rows.proofs.Keys.{KeyFacts, key_facts, some_number, not_numbered}
use Rattle.sel_rows.proofs.Labelled.{if_ok_of, plain_keeps, plain_labels_one, none_counted, plain_new, keeps, keeps_asked, keeps_known, keeps_held, asks_own, knows_own, holds_own}
use Rattle.sel_rows.proofs.automaton.PassAutomaton.label.Goals as goal

published_by : {E : Type 0} (r : Result Label E) (v w : View) (full : Bool) (op class : ℕ) (a b : Option Label) {Own : NodeKey → Type 0}
    → ((k : NodeKey) → Own k → (x : ℕ) × (key_number op class a b ≡ Some x) × (k ≡ node_key (held_ask v x)) × HasPackedKids (held_ask v x))
    → ((x : ℕ) → key_number op class a b ≡ Some x → IsTabledAs w (held_ask v x) full r) → IfOk r (λ l. (k : NodeKey) (n : ℕ) → Own k → l ≡ Numbered n → IsKnownAs w k n ⊎ (full ≡ true))
published_by (Ok l) v w full op class a b facts tabled = λ k n own e.
    let f = facts k own in
    ⊎_elim
    (λ (h : HoldsKey w (held_ask v f.0) n). inl (held_ask v f.0, record { known = h.known; some_rows = h.some_rows; packed = f.3; below = h.below; made = (held_content w n, h.made_of) }, f.2))
    (λ (h : full ≡ true). inr h)
    (tabled f.0 f.1 n e)
published_by (Err x) v w full op class a b facts tabled = tt

plain_where : {E : Type 0} (one : FollowsIsOne) (s t : Pass) (z : Setting) → z.normal.value ≡ s.normal.now → (op class : ℕ) (a b : Option Label) (is : List Items) → KidsAre (Means s.hand.seat.me.0 s.plain.items) a b is → (r : Result Label E)
    → ((x : ℕ) → key_number op class a b ≡ Some x → node_key (held_ask s.hand.seat.me.0 x) ≡ key_of op class is)
    → (o : Option ℕ) → key_number op class a b ≡ o
    → IfOk r (λ l. (js : List Items) → KidsAre (Means s.hand.seat.me.0 s.plain.items) a b js → IsLabelled (told_by s.normal.now t.hand.seat.me.0 t.plain.items t.used_up t.row_full) op class a b js l)
    → ((x : ℕ) → key_number op class a b ≡ Some x → PlainCause s.hand.seat.me.0 s.spare z (held_ask s.hand.seat.me.0 x) t.used_up t.hand.seat.me.0 r)
    → IfOk r (λ l. IsPlain l ↔ IsPlainFor s t a b l)
plain_where one s t z form op class a b is kids r node None e labelled cause =
    if_ok_of r _ _ (λ l h. both l (λ _. inl (not_numbered s.hand.seat.me.0 s.plain.items op class a b is e kids)) (h is kids)) labelled
  where
    both : (l : Label) → (IsPlain l → IsPlainFor s t a b l) → IsLabelled (told_by s.normal.now t.hand.seat.me.0 t.plain.items t.used_up t.row_full) op class a b is l → IsPlain l ↔ IsPlainFor s t a b l
    both (Numbered n) f h = ((λ p. absurd p), (λ p. not_plain_for s t a b n (h.numbered tt).0 p))
    both (Plain n) f h = (f, λ p. tt)
plain_where one s t z form op class a b is kids r node (Some x) e labelled cause =
    if_ok_both r _ _ _ (λ l h why. both l (λ p. (let k = h is kids in plain_cause one s t s.normal.now z form (held_ask s.hand.seat.me.0 x) (key_of op class is) (node x e) a b l k.items k.meant k.follows (why p))) (h is kids)) labelled (cause x e)
  where
    both : (l : Label) → (IsPlain l → IsPlainFor s t a b l) → IsLabelled (told_by s.normal.now t.hand.seat.me.0 t.plain.items t.used_up t.row_full) op class a b is l → IsPlain l ↔ IsPlainFor s t a b l
    both (Numbered n) f h = ((λ p. absurd p), (λ p. not_plain_for s t a b n (h.numbered tt).0 p))
    both (Plain n) f h = (f, λ p. tt)

pub returns-clause-fixed : goal.returns-clause-fixed
returns-clause-fixed g c =
    let e = c.answer.ensures in
    let s = e.grown.grown in λ i. record {
      table = (e.left.rows i).now.table.shared.table_id;
      setting = (e.left.rows i).now.table.shared.key;
      seats = s.seats.0 i;
      rest = s.seats.1 i;
    }

pub returns-clause-labelled : goal.returns-clause-labelled
returns-clause-labelled g c =
    let s = c.args.self.now in
    let t = c.answer.new.self in
    let e = c.answer.ensures in
    let same : t.normal.now ≡ s.normal.now = λ i. (e.left.normal i).now in
    if_ok_of c.answer.result _ _ (λ l h is kids. subst (λ (n : NormalForm). IsLabelled (told_by n t.hand.seat.me.0 t.plain.items t.used_up t.row_full) c.args.operator c.args.class c.args.kids.0 c.args.kids.1 is l) (sym same) (h is kids)) e.labelled

pub returns-clause-grows : goal.returns-clause-grows
returns-clause-grows g c =
    let s = c.args.self.now in
    let t = c.answer.new.self in
    let v = s.hand.seat.me.0 in
    let w = t.hand.seat.me.0 in
    let e = c.answer.ensures in
    let op = c.args.operator in
    let class = c.args.class in
    let a = c.args.kids.0 in
    let b = c.args.kids.1 in
    let means = keeps v w s.plain.items op class a b e.grown t.plain.items (plain_keeps s.plain.items t.plain.items c.answer.result e.left.plain) in
    record {
      keeps = record {
        normal = λ i. (e.left.normal i).now;
        numbered = λ n i h. means (Numbered n) i h;
        asked = keeps_asked v w s.plain.items op class a b e.grown;
        known = keeps_known v w s.plain.items op class a b e.grown;
        held = keeps_held v w s.plain.items op class a b e.grown;
        used_up = λ u. sym t.marked ∙ e.grown.grown.used_up (s.marked ∙ u);
        row_full = e.left.row_full;
      };
      means = means;
      plain = plain_new s.plain.items t.plain.items c.answer.result e.left.plain v w;
      plain_labels = plain_labels_one s.plain.items t.plain.items c.answer.result e.left.plain;
      none_counted = none_counted s.plain.items t.plain.items c.answer.result e.left.plain;
    }

pub returns-clause-adds : goal.returns-clause-adds
returns-clause-adds g c =
    let s = c.args.self.now in
    let t = c.answer.new.self in
    let v = s.hand.seat.me.0 in
    let w = t.hand.seat.me.0 in
    let e = c.answer.ensures in
    let op = c.args.operator in
    let class = c.args.class in
    let a = c.args.kids.0 in
    let b = c.args.kids.1 in
    let k = c.requires.may.kids in
    let form : v.setting.normal.value ≡ s.normal.now = ap (λ (y : Setting). y.normal.value) s.hand.setting ∙ s.normal_is in
    record {
      asked = asks_own v w s.plain.items op class a b e.grown k.0 k.1;
      known = knows_own v w s.plain.items op class a b e.grown k.0 k.1;
      held = λ i h. ⊎_elim (λ o. inl o) (λ o. inr (o.0, o.1, subst (λ (n : NormalForm). Follows n o.0 i) form o.2)) (holds_own v w s.plain.items op class a b e.grown k.0 k.1 i h);
    }

pub returns-clause-by_pass : goal.returns-clause-by_pass
returns-clause-by_pass g c =
    let s = c.args.self.now in
    let t = c.answer.new.self in
    let v = s.hand.seat.me.0 in
    let w = t.hand.seat.me.0 in
    let e = c.answer.ensures in
    let op = c.args.operator in
    let class = c.args.class in
    let a = c.args.kids.0 in
    let b = c.args.kids.1 in
    let few = s.hand.rows.now.small_states.0 in
    let states : s.hand.rows.now.states ≡ v.setting.states = s.hand.rows.now.states_is ∙ ap (λ (y : Setting). y.states) (sym s.hand.setting) in
    let may = c.requires.may in
    let z = s.hand.rows.now.table.shared.key in
    let facts : (x : ℕ) (is : List Items) → key_number op class a b ≡ Some x → KidsAre (Means v s.plain.items) a b is → KeyFacts v x op class a b is = λ x is h kids. key_facts s.normal.now v s.plain.items op class x a b is (omega arith) (omega arith) (omega arith) may.over h kids in
    record {
      known = λ k n own known. (
          let kids = own.1 in
          let x = some_number v s.plain.items op class a b kids.0 kids.1 own.0 in
          let f = facts x.0 kids.0 x.1 kids.1 in
          let same = asks_same known.0 (held_ask v x.0) (known.1).packed f.packed (sym known.2 ∙ (kids.2 ∙ sym f.node)) in
          (e.known x.0 n x.1 (subst (λ j. KnowsKey v j n) same known.1), λ unmarked. e.hit x.0 x.1 n (subst (λ j. In (j, n) v.known) same (known.1).known) unmarked (known.1).some_rows)
          );
      looked = e.looked;
      published = published_by c.answer.result v w t.row_full op class a b (λ k own. (
          let x = some_number v s.plain.items op class a b own.1.0 own.1.1 own.0 in
          let f = facts x.0 own.1.0 x.1 own.1.1 in
          (x.0, x.1, own.1.2 ∙ sym f.node, f.packed)
          )) e.published;
      plain_where = plain_where c.follows_is_one.ensures s t z s.normal_is op class a b (may.kids).0 (may.kids).1 c.answer.result (λ x h. (facts x (may.kids).0 h (may.kids).1).node) (key_number op class a b) refl e.labelled e.cause;
      counted = (e.left).counted;
      refused = (e.left).refused;
    }

pub returns-clause-steps : goal.returns-clause-steps
returns-clause-steps g c = (c.answer.ensures.left).steps

pub returns-clause-hit : goal.returns-clause-hit
returns-clause-hit g c ready =
    let s = c.args.self.now in
    let t = c.answer.new.self in
    let v = s.hand.seat.me.0 in
    let w = t.hand.seat.me.0 in
    let e = c.answer.ensures in
    let op = c.args.operator in
    let class = c.args.class in
    let a = c.args.kids.0 in
    let b = c.args.kids.1 in
    let few = s.hand.rows.now.small_states.0 in
    let states : s.hand.rows.now.states ≡ v.setting.states = s.hand.rows.now.states_is ∙ ap (λ (y : Setting). y.states) (sym s.hand.setting) in
    let own = ready.1 in
    let kids = own.1 in
    let x = some_number v s.plain.items op class a b kids.0 kids.1 own.0 in
    let f = key_facts s.normal.now v s.plain.items op class x.0 a b kids.0 (omega arith) (omega arith) (omega arith) c.requires.may.over x.1 kids.1 in
    let known = (ready.2.0).1 in
    let same = asks_same known.0 (held_ask v x.0) (known.1).packed f.packed (sym known.2 ∙ (kids.2 ∙ sym f.node)) in
    let n = (ready.2.0).0 in
    let hit = e.hit x.0 x.1 n (subst (λ k. In (k, n) v.known) same (known.1).known) ready.2.1 (known.1).some_rows in
    record {
      number = n;
      label = hit.label;
      no_step = hit.no_step;
      ready = λ k h. (keeps_known v w s.plain.items op class a b e.grown k h.0, hit.row_full);
    }
