-- The table at its beginning and at its end.
use Rattle.std.proofs.Common.{◌≡◌, ℕ, zero, suc, ◌+◌, ◌*◌, ◌≤◌, true, false, List, [], ◌∷◌, length, set, replicate, refl, sym, ap, ◌∙◌, subst, ⊎_elim, inl, inr, arith, Some, None}
use Rattle.std.specs.Prelude.{slice_index}
use mathlib.Core.Option.{some, some-ne-none, some-injective}
use native.Mathlib.Decide.{ℕ_discrete}
use lib.ListN.{get_elem?, length-replicate}
use Rattle.atomic_table.specs.Table.{Final, Seen}
use Rattle.atomic_table.proofs.Lists.{set_else}
use Rattle.sel_law.specs.declared.Setting.{Setting}
use Rattle.sel_law.specs.declared.View.{View}
use Rattle.sel_law.specs.Words.{weigh, In, read, used, intern_at, row_at, word_count, Published, published, ask_of, key_of}
use Rattle.sel_law.specs.Law.{spent, own_count, IsInUse, IsInSomeView, Lawful, Small, Closes}
use Rattle.sel_law.specs.Kinds.{first_view}
use Rattle.sel_law.proofs.Base.{weigh_set, in_nil}
use Rattle.sel_law.proofs.Draw.{AllFit, fit_set, in_use, Holds}

zero_word : (n j : ℕ) → slice_index (replicate n 0) j ≡ 0
zero_word zero j = refl
zero_word (suc n) zero = refl
zero_word (suc n) (suc j) = zero_word n j

none_used : (ws : List ℕ) → ((j : ℕ) → slice_index ws j ≡ 0) → (b n : ℕ) → weigh used (read ws b n) ≡ 0
none_used ws h b zero = refl
none_used ws h b (suc n) = let a : used (slice_index ws b) ≡ 0 = ap used (h b) in let r = none_used ws h (b + 1) n in omega arith

true_false : true ≡ false → ⊥
true_false e = cc

no_own : (n : ℕ) → None ≡ Some n → ⊥
no_own n e = cc

pub begins : (z : Setting) (ws : List ℕ) → ws ≡ replicate (word_count z) 0 → Small z → 1 ≤ z.workers → Lawful z ws (first_view z ∷ [])
begins z ws is small some_worker =
    let zero_at : (j : ℕ) → slice_index ws j ≡ 0 = λ j. ap (λ us. slice_index us j) is ∙ zero_word (word_count z) j in
    let pub_none : published z ws ≡ 0 = none_used ws zero_at 1 (2 * z.states) in
    let hidden : (n : ℕ) → Published z ws n → ⊥ = λ n h. (let e = zero_at (intern_at h.0) in let f = h.2 in absurd (omega arith)) in
    let count = zero_at 0 in
    record {
      small = small;
      size = ap length is ∙ length-replicate (word_count z) 0;
      transitions = record { each = λ q lt ne. absurd (ne (zero_at (row_at z q))); differ = λ q r a b ne nf k. absurd (ne (zero_at (row_at z q))) };
      states = record { each = λ p n lt e. absurd (hidden n (p, lt, e)); differ = λ p q m n a b e f k. absurd (hidden m (p, a, e)) };
      views_fit = one;
      own_apart = λ i j v w n a b e f. only i j v w a b;
      counts = record { counter = omega arith; room = omega arith; filled = λ h. absurd (omega arith); marked = λ i v e m. absurd (true_false (sym m ∙ unmarked i v e)); seats = omega arith };
      asked = record { states = λ n h. absurd (hidden n h); rows = λ q lt ne. absurd (ne (zero_at (row_at z q))); places = λ j lo hi ne. absurd (ne (zero_at j)) };
    }
  where
    only : (i j : ℕ) (v w : View) → get_elem? (first_view z ∷ []) i ≡ some v → get_elem? (first_view z ∷ []) j ≡ some w → i ≡ j
    only zero zero v w a b = refl
    only zero (suc j) v w a b = absurd (some-ne-none w (sym b))
    only (suc i) j v w a b = absurd (some-ne-none v (sym a))

    unmarked : (i : ℕ) (v : View) → get_elem? (first_view z ∷ []) i ≡ some v → v.used_up ≡ false
    unmarked zero v e = ap (λ (u : View). u.used_up) (sym (some-injective _ _ e))
    unmarked (suc i) v e = absurd (some-ne-none v (sym e))

    one : AllFit z ws (first_view z ∷ [])
    one zero v e = inr (subst (IsInUse z ws) (some-injective _ _ e) record {
      setting = refl;
      true_now = record { places = λ e h. absurd (in_nil e h); contents = λ e h. absurd (in_nil e h); known = λ e h. absurd (in_nil e h) };
      own = λ n h. absurd (no_own n h);
      seated = omega arith;
      spare = λ h. omega arith;
      few = λ h. absurd (true_false (sym h));
      full = λ h r. absurd (true_false (sym h));
    })
    one (suc i) v e = absurd (some-ne-none v (sym e))

-- views that have no seat are spent
no_seats : (z : Setting) (ws : List ℕ) (f : View → ℕ) → f spent ≡ 0 → (vs : List View) → AllFit z ws vs → weigh (λ v. v.seats + v.rest) vs ≡ 0 → weigh f vs ≡ 0
no_seats z ws f e [] all none = refl
no_seats z ws f e (v ∷ vs) all none =
    let mine : v ≡ spent = ⊎_elim (λ (s : v ≡ spent). s) (λ (u : IsInUse z ws v). let s = u.seated in absurd (omega arith)) (all 0 v refl) in
    let a : f v ≡ 0 = ap f mine ∙ e in
    let b = no_seats z ws f e vs (λ i u h. all (suc i) u h) (omega arith) in
    omega arith

seats_at : (vs : List View) (i : ℕ) (v : View) → get_elem? vs i ≡ some v → v.seats ≤ weigh (λ v. v.seats + v.rest) vs
seats_at [] i v e = absurd (some-ne-none v (sym e))
seats_at (x ∷ xs) zero v e = let s : x.seats ≡ v.seats = ap (λ (u : View). u.seats) (some-injective x v e) in omega arith
seats_at (x ∷ xs) (suc i) v e = omega (arith, seats_at xs i v e)

pub whole : (z : Setting) (ws : List ℕ) (views : List View) → Lawful z ws views → (id : ℕ) (v : View) → get_elem? views id ≡ some v → 1 ≤ v.seats → v.seats ≡ z.workers → Closes z ws v
whole z ws views l id v at seat all =
    let u = in_use z ws v (l.views_fit id v at) seat in
    let others = set views id spent in
    let fit : AllFit z ws others = fit_set z ws views id spent (λ j x ne e. l.views_fit j x e) (inl refl) in
    let s0 = weigh_set (λ (x : View). x.seats + x.rest) views id v spent at in
    let s1 = l.counts.seats in
    let none : weigh (λ (x : View). x.seats + x.rest) others ≡ 0 = omega arith in
    let a0 = weigh_set (λ (x : View). own_count x.own) views id v spent at in
    let a1 = no_seats z ws (λ (x : View). own_count x.own) refl others fit none in
    let b0 = weigh_set (λ (x : View). x.dropped) views id v spent at in
    let b1 = no_seats z ws (λ (x : View). x.dropped) refl others fit none in
    let d0 = weigh_set (λ (x : View). x.past) views id v spent at in
    let d1 = no_seats z ws (λ (x : View). x.past) refl others fit none in
    let mine : (P : View → Type 0) → (P spent → ⊥) → IsInSomeView views P → P v = λ P never w. only P never w (ℕ_discrete w.0 id) none in
    record {
      small = l.small;
      size = l.size;
      setting = u.setting;
      rows = l.transitions;
      states = l.states;
      true_now = u.true_now;
      asked_states = λ n h. (let a = l.asked.states n h in (a.0, a.1, mine (λ x. In a.0 x.asked) (in_nil a.0) a.2));
      asked_rows = λ q lt ne. mine (λ x. In (ask_of z ws (key_of (slice_index ws (row_at z q)))) x.asked) (in_nil (ask_of z ws (key_of (slice_index ws (row_at z q))))) (l.asked.rows q lt ne);
      held = λ j lo hi ne. mine (λ x. In (j, slice_index ws j) x.places) (in_nil (j, slice_index ws j)) (l.asked.places j lo hi ne);
      few = (let r = l.counts.room in omega arith);
      used_up = λ h. (let p = l.counts.marked id v at h in let f = l.counts.filled p in let k = u.few h in omega arith);
      full = u.full;
    }
  where
    only : (P : View → Type 0) → (P spent → ⊥) → (w : IsInSomeView views P) → Dec (w.0 ≡ id) → weigh (λ (x : View). x.seats + x.rest) (set views id spent) ≡ 0 → P v
    only P never (i, x, here, p) (yes e) none = subst P (some-injective x v (sym here ∙ (ap (get_elem? views) e ∙ at))) p
    only P never (i, x, here, p) (no n) none =
        let there : get_elem? (set views id spent) i ≡ some x = set_else views id i spent n ∙ here in
        let s = seats_at (set views id spent) i x there in
        ⊎_elim (λ (e : x ≡ spent). absurd (never (subst P e p))) (λ (y : IsInUse z ws x). let k = y.seated in absurd (omega arith)) (l.views_fit i x here)

pub closes : (z : Setting) (words : List ℕ) (xs : List (Unit {0})) (id : ℕ) (v : View) → 1 ≤ v.seats → v.seats ≡ z.workers → Final (Seen (Holds z) id v) words xs → Closes z words v
closes z words xs id v seat all f = subst (λ ws. Closes z ws v) f.2 (whole z f.0.words f.0.views f.1.0 id v f.1.1 seat all)

pub closed_length : (z : Setting) (words : List ℕ) (xs : List (Unit {0})) (id : ℕ) (v : View) → Final (Seen (Holds z) id v) words xs → length words ≡ word_count z
closed_length z words xs id v f = ap length (sym f.2) ∙ f.1.0.size
