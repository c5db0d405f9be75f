-- Lists that grow at their end: words that are read, transitions, states, and members.
use Rattle.std.proofs.Common.{◌≡◌, ◌≢◌, ℕ, zero, suc, ◌+◌, ◌<◌, ◌≤◌, Bool, true, false, cond, ◌==◌, List, [], ◌∷◌, ◌++◌, length, map, set, take, refl, ap, ◌∙◌, arith, eq-eqb, ne_eqb}
use Rattle.std.specs.Prelude.{slice_index}
use Rattle.sel_items.specs.declared.items.Items.{Items}
use Rattle.sel_law.specs.Words.{weigh, read, number_of}
use Rattle.sel_rows.specs.declared.snapshot.Key.{Key}
use Rattle.sel_rows.specs.declared.snapshot.State.{State}
use Rattle.sel_rows.specs.declared.snapshot.Transition.{Transition}
use Rattle.sel_rows.specs.Snapshots.{transition_by, transitions_in}
use Rattle.sel_rows.specs.Numbered.{state_by, states_in}

pub read_snoc : (ws : List ℕ) (b n : ℕ) → read ws b (n + 1) ≡ read ws b n ++ slice_index ws (b + n) ∷ []
read_snoc ws b n = (let e : n + 1 ≡ suc n = omega arith in ap (read ws b) e) ∙ go ws b n
  where
    go : (ws : List ℕ) (b n : ℕ) → read ws b (suc n) ≡ read ws b n ++ slice_index ws (b + n) ∷ []
    go ws b zero = let e : b ≡ b + 0 = omega arith in ap (λ k. slice_index ws k ∷ []) e
    go ws b (suc n) = ap (λ l. slice_index ws b ∷ l) (go ws (b + 1) n ∙ (let e : b + 1 + n ≡ b + suc n = omega arith in ap (λ k. read ws (b + 1) n ++ slice_index ws k ∷ []) e))

pub map_snoc : {A B : Type 0} (f : A → B) (l : List A) (x : A) → map f (l ++ x ∷ []) ≡ map f l ++ f x ∷ []
map_snoc f [] x = refl
map_snoc f (y ∷ l) x = ap (λ k. f y ∷ k) (map_snoc f l x)

-- a word that is free adds no transition
pub transitions_free : (ws : List ℕ) (w : ℕ) → w ≡ 0 → transitions_in (ws ++ w ∷ []) ≡ transitions_in ws
transitions_free [] w e = ap (λ b. cond b [] (transition_by w ∷ [])) (eq-eqb w 0 e)
transitions_free (x ∷ ws) w e = (λ i. cond (x == 0) (transitions_free ws w e i) (transition_by x ∷ transitions_free ws w e i))

-- a word in use adds its own
pub transitions_used : (ws : List ℕ) (w : ℕ) → w ≢ 0 → transitions_in (ws ++ w ∷ []) ≡ transitions_in ws ++ transition_by w ∷ []
transitions_used [] w ne = ap (λ b. cond b [] (transition_by w ∷ [])) (ne_eqb w 0 ne)
transitions_used (x ∷ ws) w ne = (λ i. cond (x == 0) (transitions_used ws w ne i) (transition_by x ∷ transitions_used ws w ne i)) ∙ go (x == 0)
  where
    go : (b : Bool) → cond b (transitions_in ws ++ transition_by w ∷ []) (transition_by x ∷ (transitions_in ws ++ transition_by w ∷ [])) ≡ cond b (transitions_in ws) (transition_by x ∷ transitions_in ws) ++ transition_by w ∷ []
    go true = refl
    go false = refl

module _ (f : ℕ → List ℕ) where
  pub states_free : (n : ℕ) (ws : List ℕ) (w : ℕ) → w ≡ 0 → states_in f n (ws ++ w ∷ []) ≡ states_in f n ws
  states_free n [] w e = ap (λ b. cond b [] (state_by f n ∷ [])) (eq-eqb w 0 e)
  states_free n (x ∷ ws) w e = (λ i. cond (x == 0) (states_free (n + 1) ws w e i) (state_by f n ∷ states_free (n + 1) ws w e i))

  pub states_used : (n : ℕ) (ws : List ℕ) (w : ℕ) → w ≢ 0 → states_in f n (ws ++ w ∷ []) ≡ states_in f n ws ++ state_by f (n + length ws) ∷ []
  states_used n [] w ne = ap (λ b. cond b [] (state_by f n ∷ [])) (ne_eqb w 0 ne) ∙ (let e : n ≡ n + 0 = omega arith in ap (λ k. state_by f k ∷ []) e)
  states_used n (x ∷ ws) w ne =
      (λ i. cond (x == 0) (states_used (n + 1) ws w ne i) (state_by f n ∷ states_used (n + 1) ws w ne i))
      ∙ (go (x == 0) ∙ (let e : n + 1 + length ws ≡ n + suc (length ws) = omega arith in ap (λ k. cond (x == 0) (states_in f (n + 1) ws) (state_by f n ∷ states_in f (n + 1) ws) ++ state_by f k ∷ []) e))
    where
      go : (b : Bool) → cond b (states_in f (n + 1) ws ++ state_by f (n + 1 + length ws) ∷ []) (state_by f n ∷ (states_in f (n + 1) ws ++ state_by f (n + 1 + length ws) ∷ []))
          ≡ cond b (states_in f (n + 1) ws) (state_by f n ∷ states_in f (n + 1) ws) ++ state_by f (n + 1 + length ws) ∷ []
      go true = refl
      go false = refl

pub take_snoc : (l : List ℕ) (i : ℕ) → i < length l → take (i + 1) l ≡ take i l ++ slice_index l i ∷ []
take_snoc l i h = (let e : i + 1 ≡ suc i = omega arith in ap (λ n. take n l) e) ∙ go l i h
  where
    go : (l : List ℕ) (i : ℕ) → i < length l → take (suc i) l ≡ take i l ++ slice_index l i ∷ []
    go [] i h = absurd (omega arith)
    go (x ∷ l) zero h = refl
    go (x ∷ l) (suc i) h = λ k. x ∷ go l i (omega arith) k

pub take_long : (l : List ℕ) (i : ℕ) → i ≤ length l → length (take i l) ≡ i
take_long l zero h = refl
take_long [] (suc i) h = absurd (omega arith)
take_long (x ∷ l) (suc i) h = ap suc (take_long l i (omega arith))

pub take_full : (l : List ℕ) (n : ℕ) → length l ≤ n → take n l ≡ l
take_full [] zero h = refl
take_full [] (suc n) h = refl
take_full (x ∷ l) zero h = absurd (omega arith)
take_full (x ∷ l) (suc n) h = λ k. x ∷ take_full l n (omega arith) k

-- a free word that becomes x weighs so much more
pub weigh_put : (f : ℕ → ℕ) (l : List ℕ) (i x : ℕ) → i < length l → weigh f (set l i x) + f (slice_index l i) ≡ weigh f l + f x
weigh_put f [] i x h = absurd (omega arith)
weigh_put f (y ∷ l) zero x h = omega arith
weigh_put f (y ∷ l) (suc i) x h = omega (arith, weigh_put f l i x (omega arith))

-- a transition with this key and the word's number
abbrev pub made_by_key : Key → ℕ → Transition
made_by_key k w = record { key = k; number = number_of w }

-- a state with this number and item set
abbrev pub made_of_items : ℕ → Items → State
made_of_items n i = record { number = n; items = i }
