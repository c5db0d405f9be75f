-- Intern words by their numbers, and the states that they are.
use Rattle.std.proofs.Common.{◌≡◌, ◌≢◌, ℕ, zero, suc, ◌+◌, ◌-◌, ◌*◌, ◌<◌, ◌≤◌, Bool, true, false, cond, ◌==◌, List, [], ◌∷◌, length, set, replicate, refl, sym, ap, ◌∙◌, subst, arith, eq-eqb, ne_eqb}
use Rattle.std.specs.Prelude.{slice_index}
use mathlib.Core.Option.{some, some-injective}
use mathlib.Core.Logic.{dite}
use native.Mathlib.Decide.{dec_lt, ℕ_discrete}
use Rattle.sel_law.specs.declared.Setting.{Setting}
use Rattle.sel_law.specs.Words.{In, weigh, used, read, intern_at, content, Published, published}
use Rattle.sel_law.proofs.Base.{index_set, index_else, weigh_append, in_nil}
use Rattle.sel_law.proofs.Draw.{length_set}
use Rattle.sel_rows.specs.declared.snapshot.State.{State}
use Rattle.sel_rows.specs.Closed.{state_items}
use Rattle.sel_rows.specs.Snapshots.{IsAscending, AreStatesOf}
use Rattle.sel_rows.specs.Numbered.{AreByNumber, state_by, states_in}
use Rattle.sel_rows.proofs.Lists.{read_snoc, weigh_put}

zeros_weigh : (n : ℕ) → weigh used (replicate n 0) ≡ 0
zeros_weigh zero = refl
zeros_weigh (suc n) = let r = zeros_weigh n in omega arith

zeros_at : (n i : ℕ) → slice_index (replicate n 0) i ≡ 0
zeros_at zero i = refl
zeros_at (suc n) zero = refl
zeros_at (suc n) (suc i) = zeros_at n i

zeros_long : (n : ℕ) → length {A = ℕ} (replicate n 0) ≡ n
zeros_long zero = refl
zeros_long (suc n) = ap suc (zeros_long n)

pub by_number_begins : (ws : List ℕ) (states : ℕ) (found : List ℕ) → found ≡ replicate states 0 → AreByNumber ws states 0 found
by_number_begins ws states found e = record {
  long = ap length e ∙ zeros_long states;
  only = λ n lt ne. absurd (ne (ap (λ l. slice_index l n) e ∙ zeros_at states n));
  each = λ p n lt h. absurd (omega arith);
  count = ap (weigh used) e ∙ zeros_weigh states;
}

one_more : (ws : List ℕ) (k : ℕ) → weigh used (read ws 1 (k + 1)) ≡ weigh used (read ws 1 k) + used (slice_index ws (intern_at k))
one_more ws k = ap (weigh used) (read_snoc ws 1 k) ∙ (let a = weigh_append used (read ws 1 k) (slice_index ws (1 + k) ∷ []) in omega arith)

pub by_number_free : (ws : List ℕ) (states k : ℕ) (found : List ℕ) → AreByNumber ws states k found → slice_index ws (intern_at k) ≡ 0 → AreByNumber ws states (k + 1) found
by_number_free ws states k found h free = record {
  long = h.long;
  only = λ n lt ne. (let o = h.only n lt ne in (o.0, (let l = o.1 in omega arith), o.2));
  each = λ p n lt e. dite (dec_lt p k)
      (λ before. h.each p n before e)
      (λ no. let same : p ≡ k = omega arith in absurd (let f : slice_index ws (intern_at k) ≡ n + 1 = ap (λ j. slice_index ws (intern_at j)) (sym same) ∙ e in omega arith));
  count = (let m = one_more ws k in let u : used (slice_index ws (intern_at k)) ≡ 0 = ap used free in let c = h.count in omega arith);
}

pub by_number_taken : (ws : List ℕ) (states k : ℕ) (found : List ℕ) → AreByNumber ws states k found → (word : ℕ) → word ≡ slice_index ws (intern_at k) → word ≢ 0 → word ≤ states
    → ((p : ℕ) → p < k → slice_index ws (intern_at p) ≡ word → ⊥) → AreByNumber ws states (k + 1) (set found (word - 1) word)
by_number_taken ws states k found h word is ne below alone =
    let n : ℕ = word - 1 in
    let up : word ≡ n + 1 = omega arith in
    let inside : n < length found = (let l = h.long in omega arith) in
    let old : slice_index found n ≡ 0 = dite (ℕ_discrete (slice_index found n) 0) (λ e. e) (λ no. let o = h.only n (omega arith) no in absurd (alone o.0 o.1 (o.2 ∙ sym up))) in
    record {
      long = length_set found n word ∙ h.long;
      only = λ m lt some. dite (ℕ_discrete m n)
          (λ e. (k, omega arith, sym is ∙ (up ∙ ap (λ j. j + 1) (sym e))))
          (λ no. let o = h.only m lt (λ z. some (index_else found n m word no ∙ z)) in (o.0, (let l = o.1 in omega arith), o.2));
      each = λ p m lt e. dite (ℕ_discrete m n)
          (λ same z. ne (sym (ap (slice_index (set found n word)) same ∙ index_set found n word inside) ∙ z))
          (λ no z. dite (dec_lt p k)
          (λ before. h.each p m before e (sym (index_else found n m word no) ∙ z))
          (λ after. let same : p ≡ k = omega arith in no (let f : word ≡ m + 1 = is ∙ (ap (λ j. slice_index ws (intern_at j)) (sym same) ∙ e) in omega arith)));
      count = (
          let m = one_more ws k in
          let u : used (slice_index ws (intern_at k)) ≡ 1 = ap used (sym is) ∙ ap (λ b. cond b 0 1) (ne_eqb word 0 ne) in
          let w = weigh_put used found n word inside in
          let uo : used (slice_index found n) ≡ 0 = ap used old in
          let uw : used word ≡ 1 = ap (λ b. cond b 0 1) (ne_eqb word 0 ne) in
          let c = h.count in omega arith);
    }

module _ (f : ℕ → List ℕ) where
  pub state_found : (n : ℕ) (ws : List ℕ) (s : State) → In s (states_in f n ws) → (i : ℕ) × (i < length ws) × (slice_index ws i ≢ 0) × (s ≡ state_by f (n + i))
  state_found n [] s h = absurd (in_nil s h)
  state_found n (w ∷ ws) s h = dite (ℕ_discrete w 0)
      (λ e. later (state_found (n + 1) ws s) (subst (λ b. In s (cond b (states_in f (n + 1) ws) (state_by f n ∷ states_in f (n + 1) ws))) (eq-eqb w 0 e) h))
      (λ ne. here (state_found (n + 1) ws s) ne (subst (λ b. In s (cond b (states_in f (n + 1) ws) (state_by f n ∷ states_in f (n + 1) ws))) (ne_eqb w 0 ne) h))
    where
      later : (In s (states_in f (n + 1) ws) → (i : ℕ) × (i < length ws) × (slice_index ws i ≢ 0) × (s ≡ state_by f (n + 1 + i))) → In s (states_in f (n + 1) ws) → (i : ℕ) × (i < suc (length ws)) × (slice_index (w ∷ ws) i ≢ 0) × (s ≡ state_by f (n + i))
      later more k = let r = more k in (suc r.0, (let l = r.1 in omega arith), r.2, r.3 ∙ (let e : n + 1 + r.0 ≡ n + suc r.0 = omega arith in ap (state_by f) e))

      here : (In s (states_in f (n + 1) ws) → (i : ℕ) × (i < length ws) × (slice_index ws i ≢ 0) × (s ≡ state_by f (n + 1 + i))) → w ≢ 0 → In s (state_by f n ∷ states_in f (n + 1) ws) → (i : ℕ) × (i < suc (length ws)) × (slice_index (w ∷ ws) i ≢ 0) × (s ≡ state_by f (n + i))
      here more ne (zero, e) = (zero, omega arith, ne, sym (some-injective (state_by f n) s e) ∙ (let e : n ≡ n + 0 = omega arith in ap (state_by f) e))
      here more ne (suc k, e) = later more (k, e)

  pub state_there : (n : ℕ) (ws : List ℕ) (i : ℕ) → i < length ws → slice_index ws i ≢ 0 → In (state_by f (n + i)) (states_in f n ws)
  state_there n [] i lt ne = absurd (omega arith)
  state_there n (w ∷ ws) zero lt ne = subst (λ b. In (state_by f (n + 0)) (cond b (states_in f (n + 1) ws) (state_by f n ∷ states_in f (n + 1) ws))) (sym (ne_eqb w 0 ne)) (0, (let e : n ≡ n + 0 = omega arith in ap (λ k. some (state_by f k)) e))
  state_there n (w ∷ ws) (suc i) lt ne =
      let r = subst (λ k. In (state_by f k) (states_in f (n + 1) ws)) (let e : n + 1 + i ≡ n + suc i = omega arith in e) (state_there (n + 1) ws i (omega arith) ne) in
      go r (w == 0)
    where
      go : In (state_by f (n + suc i)) (states_in f (n + 1) ws) → (b : Bool) → In (state_by f (n + suc i)) (cond b (states_in f (n + 1) ws) (state_by f n ∷ states_in f (n + 1) ws))
      go r true = r
      go r false = (suc r.0, r.1)

  pub states_ascend : (n : ℕ) (ws : List ℕ) → IsAscending (states_in f n ws)
  states_ascend n [] = tt
  states_ascend n (w ∷ ws) = go (states_ascend (n + 1) ws) (state_found (n + 1) ws) (w == 0)
    where
      go : IsAscending (states_in f (n + 1) ws) → ((s : State) → In s (states_in f (n + 1) ws) → (i : ℕ) × (i < length ws) × (slice_index ws i ≢ 0) × (s ≡ state_by f (n + 1 + i))) → (b : Bool) → IsAscending (cond b (states_in f (n + 1) ws) (state_by f n ∷ states_in f (n + 1) ws))
      go h more true = h
      go h more false = ((λ t k. (let r = more t k in let e : t.number ≡ n + 1 + r.0 = ap (λ (s : State). s.number) r.3 in omega arith)), h)

  pub states_count : (n : ℕ) (ws : List ℕ) → length (states_in f n ws) ≡ weigh used ws
  states_count n [] = refl
  states_count n (w ∷ ws) = go (states_count (n + 1) ws) (w == 0)
    where
      go : length (states_in f (n + 1) ws) ≡ weigh used ws → (b : Bool) → length (cond b (states_in f (n + 1) ws) (state_by f n ∷ states_in f (n + 1) ws)) ≡ cond b 0 1 + weigh used ws
      go h true = omega arith
      go h false = omega arith

pub states_same : (f g : ℕ → List ℕ) → ((n : ℕ) → f n ≡ g n) → (n : ℕ) (ws : List ℕ) → states_in f n ws ≡ states_in g n ws
states_same f g h n [] = refl
states_same f g h n (w ∷ ws) = λ i. cond (w == 0) (states_same f g h (n + 1) ws i) (record { number = n; items = Rattle.sel_law.specs.Words.items_of (h n i) } ∷ states_same f g h (n + 1) ws i)

-- the states by their numbers are those that the words publish
pub states_are : (z : Setting) (ws found : List ℕ) → AreByNumber ws z.states (2 * z.states) found → ((p n : ℕ) → p < 2 * z.states → slice_index ws (intern_at p) ≡ n + 1 → n < z.states)
    → AreStatesOf z ws (states_in (content z ws) 0 found)
states_are z ws found h below = record {
  ascending = states_ascend (content z ws) 0 found;
  each = λ s k. (
      let r = state_found (content z ws) 0 found s k in
      let o = h.only r.0 (let l = r.1 in let m = h.long in omega arith) r.2 in
      let e0 : s.number ≡ 0 + r.0 = ap (λ (t : State). t.number) r.3 in
      let e : s.number ≡ r.0 = omega arith in
      ((o.0, o.1, o.2 ∙ ap (λ j. j + 1) (sym e)), ap (λ (t : State). t.items) r.3 ∙ ap (state_items z ws) (sym e0)));
  all = λ n p. (
      let lt = below p.0 n p.1 p.2 in
      let ne = h.each p.0 n p.1 p.2 in
      (state_by (content z ws) (0 + n), state_there (content z ws) 0 found n (let m = h.long in omega arith) ne, omega arith));
  count = states_count (content z ws) 0 found ∙ h.count;
}
