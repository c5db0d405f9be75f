-- A split and a join of seats.
use Rattle.std.proofs.Common.{◌≡◌, ◌≢◌, ◌⊎◌, ℕ, zero, suc, ◌+◌, ◌<◌, ◌≤◌, Bool, true, false, List, [], ◌∷◌, ◌++◌, length, set, refl, sym, ap, ◌∙◌, subst, ⊎_elim, inl, inr, arith, Option, Some, None}
use Rattle.std.specs.Prelude.{◌||◌}
use mathlib.Core.Option.{some, some-ne-none, some-injective}
use lib.ListN.{get_elem?}
use native.Mathlib.Decide.{ℕ_discrete}
use Rattle.atomic_table.specs.Table.{Splits, Joins}
use Rattle.atomic_table.proofs.Lists.{at_longer, at_snoc, at_set, set_here, set_else}
use Rattle.sel_law.specs.declared.Setting.{Setting}
use Rattle.sel_law.specs.declared.View.{View}
use Rattle.sel_law.specs.Words.{In}
use Rattle.sel_law.specs.Law.{spent, own_count, IsTrueOf, IsInUse, IsInSomeView, past}
use Rattle.sel_law.specs.Kinds.{left_view, new_view, both_views}
use Rattle.sel_law.proofs.Base.{weigh_append, weigh_set, in_front, in_back, in_split}
use Rattle.sel_law.proofs.Grow.{asked_views, some_set}
use Rattle.sel_law.proofs.Draw.{Alone, fit_set, fit_snoc, in_use, alone_set, apart, Holds}

no_own : (n : ℕ) → None ≡ Some n → ⊥
no_own n e = cc

true_false : true ≡ false → ⊥
true_false e = cc

alone_snoc : (views : List View) (w : View) → Alone views → w.own ≡ None → Alone (views ++ w ∷ [])
alone_snoc views w alone none i j u v n ei ej ou ov = ⊎_elim
    (λ (a : get_elem? views i ≡ some u). ⊎_elim
    (λ (b : get_elem? views j ≡ some v). alone i j u v n a b ou ov)
    (λ (b : w ≡ v). absurd (no_own n (sym none ∙ ap (λ (x : View). x.own) b ∙ ov)))
    (at_snoc views w v j ej))
    (λ (a : w ≡ u). absurd (no_own n (sym none ∙ ap (λ (x : View). x.own) a ∙ ou)))
    (at_snoc views w u i ei)

some_longer : (views more : List View) (P : View → Type 0) → IsInSomeView views P → IsInSomeView (views ++ more) P
some_longer views more P (i, u, at, p) = (i, u, at_longer views more i u at, p)

or_false : (a b : Bool) → a || b ≡ false → (a ≡ false) × (b ≡ false)
or_false true b e = absurd (true_false e)
or_false false b e = (refl, e)

or_true : (a b : Bool) → a || b ≡ true → (a ≡ true) ⊎ ((a ≡ false) × (b ≡ true))
or_true true b e = inl refl
or_true false b e = inr (refl, e)

either_way : (b : Bool) → (b ≡ true) ⊎ (b ≡ false)
either_way true = inl refl
either_way false = inr refl

own_few : (o : Option ℕ) → own_count o ≤ 1
own_few None = omega arith
own_few (Some n) = omega arith

module _ (z : Setting) where
  pub cuts : (id : ℕ) (v : View) → 1 ≤ v.rest → 1 ≤ v.seats → v.own ≡ None → Splits (Holds z) id v (left_view v) (new_view v)
  cuts id v some_rest seat none s l at =
      let ws = s.words in
      let use_v = in_use z ws v (l.views_fit id v at) seat in
      let left = left_view v in
      let new = new_view v in
      let mid = set s.views id left in
      let a = weigh_set (λ (u : View). own_count u.own) s.views id v left at in
      let b = weigh_set (λ (u : View). u.dropped) s.views id v left at in
      let d = weigh_set (λ (u : View). u.past) s.views id v left at in
      let f = weigh_set (λ (u : View). u.seats + u.rest) s.views id v left at in
      let a' = weigh_append (λ (u : View). own_count u.own) mid (new ∷ []) in
      let b' = weigh_append (λ (u : View). u.dropped) mid (new ∷ []) in
      let d' = weigh_append (λ (u : View). u.past) mid (new ∷ []) in
      let f' = weigh_append (λ (u : View). u.seats + u.rest) mid (new ∷ []) in
      let c = l.counts in let c0 = c.counter in let c1 = c.room in let c3 = c.seats in
      let same_past : past (mid ++ new ∷ []) ≡ past s.views = omega arith in
      let truth : (u : View) → u.places ≡ v.places → u.contents ≡ v.contents → u.known ≡ v.known → u.asked ≡ v.asked → IsTrueOf z ws u = λ u p q k h. record {
        places = λ e m. use_v.true_now.places e (subst (In e) p m);
        contents = λ e m. use_v.true_now.contents e (subst (In e) q m);
        known = λ e m. (let r = use_v.true_now.known e (subst (In e) k m) in (subst (In e.0) (sym h) r.0, r.1));
      } in
      record {
        small = l.small;
        size = l.size;
        transitions = l.transitions;
        states = l.states;
        views_fit = fit_snoc z ws mid new
            (fit_set z ws s.views id left (λ j u ne e. l.views_fit j u e)
            (inr record { setting = use_v.setting; true_now = truth left refl refl refl refl; own = use_v.own; seated = seat; spare = use_v.spare; few = use_v.few; full = use_v.full }))
            (inr record { setting = use_v.setting; true_now = truth new refl refl refl refl; own = λ n e. absurd (no_own n e); seated = omega arith; spare = λ e. omega arith; few = λ e. omega arith; full = use_v.full });
        own_apart = alone_snoc mid new (alone_set s.views id left l.own_apart (λ n o. apart s.views id v at l.own_apart n o)) refl;
        counts = record {
          counter = omega arith;
          room = omega arith;
          filled = λ h. (let g = c.filled (omega arith) in omega arith);
          marked = λ i u e m. ⊎_elim
              (λ (t : get_elem? mid i ≡ some u). ⊎_elim
              (λ (r : (i ≡ id) × (left ≡ u)). let g = c.marked id v at (ap (λ (x : View). x.used_up) r.1 ∙ m) in omega arith)
              (λ (r : (i ≢ id) × (get_elem? s.views i ≡ some u)). let g = c.marked i u r.1 m in omega arith)
              (at_set s.views id i left u t))
              (λ (t : new ≡ u). let g = c.marked id v at (ap (λ (x : View). x.used_up) t ∙ m) in omega arith)
              (at_snoc mid new u i e);
          seats = omega arith;
        };
        asked = asked_views z ws s.views (mid ++ new ∷ []) l.asked
            (λ x h. some_longer mid (new ∷ []) (λ u. In x u.asked) (some_set s.views id v left (λ u. In x u.asked) at (λ y. y) h))
            (λ x h. some_longer mid (new ∷ []) (λ u. In x u.places) (some_set s.views id v left (λ u. In x u.places) at (λ y. y) h));
      }

  some_joined : (views : List View) (id other : ℕ) (v w both : View) (P : View → Type 0) → get_elem? views id ≡ some v → get_elem? views other ≡ some w → ¬ (other ≡ id)
      → (P v → P both) → (P w → P both) → IsInSomeView views P → IsInSomeView (set (set views id both) other spent) P
  some_joined views id other v w both P at there apart_ids from_v from_w (i, u, here, p) =
      let placed : P both → IsInSomeView (set (set views id both) other spent) P = λ q. (id, both, set_else (set views id both) other id spent (λ e. apart_ids (sym e)) ∙ set_here views id both (len views id v at), q) in
      go placed (ℕ_discrete i id) (ℕ_discrete i other)
    where
      len : (views : List View) (id : ℕ) (v : View) → get_elem? views id ≡ some v → id < length views
      len [] id v e = absurd (some-ne-none v (sym e))
      len (x ∷ xs) zero v e = omega arith
      len (x ∷ xs) (suc id) v e = omega (arith, len xs id v e)

      go : (P both → IsInSomeView (set (set views id both) other spent) P) → Dec (i ≡ id) → Dec (i ≡ other) → IsInSomeView (set (set views id both) other spent) P
      go placed (yes e) d = placed (from_v (subst P (some-injective u v (sym here ∙ ap (get_elem? views) e ∙ at)) p))
      go placed (no n) (yes e) = placed (from_w (subst P (some-injective u w (sym here ∙ ap (get_elem? views) e ∙ there)) p))
      go placed (no n) (no k) = (i, u, set_else (set views id both) other i spent k ∙ (set_else views id i both n ∙ here), p)

  pub glues : (id : ℕ) (v : View) (other : ℕ) (w : View) → 1 ≤ v.seats → 1 ≤ w.seats → Joins (Holds z) id v other w (both_views v w) spent
  glues id v other w seat_v seat_w s l at apart_ids there_mid =
      let ws = s.words in
      let both = both_views v w in
      let mid = set s.views id both in
      let there : get_elem? s.views other ≡ some w = ⊎_elim (λ (t : (other ≡ id) × (both ≡ w)). absurd (apart_ids t.0)) (λ (t : (other ≢ id) × (get_elem? s.views other ≡ some w)). t.1) (at_set s.views id other both w there_mid) in
      let use_v = in_use z ws v (l.views_fit id v at) seat_v in
      let use_w = in_use z ws w (l.views_fit other w there) seat_w in
      let a = weigh_set (λ (u : View). own_count u.own) s.views id v both at in
      let b = weigh_set (λ (u : View). u.dropped) s.views id v both at in
      let d = weigh_set (λ (u : View). u.past) s.views id v both at in
      let f = weigh_set (λ (u : View). u.seats + u.rest) s.views id v both at in
      let a' = weigh_set (λ (u : View). own_count u.own) mid other w spent there_mid in
      let b' = weigh_set (λ (u : View). u.dropped) mid other w spent there_mid in
      let d' = weigh_set (λ (u : View). u.past) mid other w spent there_mid in
      let f' = weigh_set (λ (u : View). u.seats + u.rest) mid other w spent there_mid in
      let c = l.counts in let c0 = c.counter in let c1 = c.room in let c3 = c.seats in
      let same_past : past (set mid other spent) ≡ past s.views = omega arith in
      let few_v = own_few v.own in let few_w = own_few w.own in
      let usage : IsInUse z ws both = record {
        setting = use_v.setting;
        true_now = record {
          places = λ e m. ⊎_elim (λ (h : In e v.places). use_v.true_now.places e h) (λ (h : In e w.places). use_w.true_now.places e h) (in_split e v.places w.places m);
          contents = λ e m. ⊎_elim (λ (h : In e v.contents). use_v.true_now.contents e h) (λ (h : In e w.contents). use_w.true_now.contents e h) (in_split e v.contents w.contents m);
          known = λ e m. ⊎_elim
              (λ (h : In e v.known). let r = use_v.true_now.known e h in (in_front e.0 v.asked w.asked r.0, r.1))
              (λ (h : In e w.known). let r = use_w.true_now.known e h in (in_back e.0 v.asked w.asked r.0, r.1))
              (in_split e v.known w.known m);
        };
        own = use_v.own;
        seated = omega arith;
        spare = λ e. (let p = use_v.spare (or_false v.used_up w.used_up e).0 in let q = use_w.spare (or_false v.used_up w.used_up e).1 in omega arith);
        few = λ e. ⊎_elim
            (λ (h : v.used_up ≡ true). let p = use_v.few h in ⊎_elim (λ (q : w.used_up ≡ true). let k = use_w.few q in omega arith) (λ (q : w.used_up ≡ false). let k = use_w.spare q in omega arith) (either_way w.used_up))
            (λ (h : (v.used_up ≡ false) × (w.used_up ≡ true)). let p = use_v.spare h.0 in let q = use_w.few h.1 in omega arith)
            (or_true v.used_up w.used_up e);
        full = λ e r. ⊎_elim
            (λ (h : v.row_full ≡ true). let g = use_v.full h r in (g.0, (g.1.0, in_front g.1.0 v.asked w.asked g.1.1, g.1.2)))
            (λ (h : (v.row_full ≡ false) × (w.row_full ≡ true)). let g = use_w.full h.1 r in (g.0, (g.1.0, in_back g.1.0 v.asked w.asked g.1.1, g.1.2)))
            (or_true v.row_full w.row_full e);
      } in
      record {
        small = l.small;
        size = l.size;
        transitions = l.transitions;
        states = l.states;
        views_fit = fit_set z ws mid other spent (λ j u ne e. fit_set z ws s.views id both (λ i x k q. l.views_fit i x q) (inr usage) j u e) (inl refl);
        own_apart = alone_set mid other spent (alone_set s.views id both l.own_apart (λ n o. apart s.views id v at l.own_apart n o)) (λ n o. absurd (no_own n o));
        counts = record {
          counter = omega arith;
          room = omega arith;
          filled = λ h. (let g = c.filled (omega arith) in omega arith);
          marked = λ i u e m. ⊎_elim
              (λ (t : (i ≡ other) × (spent ≡ u)). absurd (true_false (sym (ap (λ (x : View). x.used_up) t.1 ∙ m))))
              (λ (t : (i ≢ other) × (get_elem? mid i ≡ some u)). ⊎_elim
              (λ (r : (i ≡ id) × (both ≡ u)). ⊎_elim
              (λ (h : v.used_up ≡ true). let g = c.marked id v at h in omega arith)
              (λ (h : (v.used_up ≡ false) × (w.used_up ≡ true)). let g = c.marked other w there h.1 in omega arith)
              (or_true v.used_up w.used_up (ap (λ (x : View). x.used_up) r.1 ∙ m)))
              (λ (r : (i ≢ id) × (get_elem? s.views i ≡ some u)). let g = c.marked i u r.1 m in omega arith)
              (at_set s.views id i both u t.1))
              (at_set mid other i spent u e);
          seats = omega arith;
        };
        asked = asked_views z ws s.views (set mid other spent) l.asked
            (λ x h. some_joined s.views id other v w both (λ u. In x u.asked) at there apart_ids (in_front x v.asked w.asked) (in_back x v.asked w.asked) h)
            (λ x h. some_joined s.views id other v w both (λ u. In x u.places) at there apart_ids (in_front x v.places w.places) (in_back x v.places w.places) h);
      }
