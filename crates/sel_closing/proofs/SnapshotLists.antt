-- The states and transitions that words say, as the lists of a snapshot.
use Rattle.std.proofs.Common.{◌≡◌, ◌≢◌, ◌⊎◌, inl, inr, ℕ, zero, suc, ◌+◌, ◌<◌, ◌≤◌, Bool, true, false, cond, ◌==◌, List, [], ◌∷◌, length, map, refl, sym, ap, subst, ◌∙◌, arith, eq-eqb, ne_eqb}
use Rattle.std.specs.Prelude.{slice_index}
use mathlib.Core.Logic.{dite}
use native.Mathlib.Decide.{ℕ_discrete}
use Rattle.sel_items.specs.Follows.{NodeKey, key_of as node_key_of}
use Rattle.sel_law.specs.declared.Setting.{Setting}
use Rattle.sel_law.specs.Words.{read, row_at, content, Published, KidsPublished, EachKid, by_kids, class_by, key_of, kids_of, operator_of, left_of, right_of, items_of}
use Rattle.sel_rows.specs.declared.snapshot.State.{State}
use Rattle.sel_rows.specs.declared.snapshot.Transition.{Transition}
use Rattle.sel_rows.specs.Closed.{state_items, row_word, row_key}
use Rattle.sel_rows.specs.Snapshots.{IsAscending, key_by, transition_by, transitions_in}
use Rattle.sel_count.specs.Counts.{AllDiffer}
use Rattle.sel_count.specs.ClosedTables.{ClosedState, ClosedTransition}
use Rattle.sel_count.proofs.Elements.{IsOneOf, is_one_of}
use Rattle.sel_closing.specs.SnapshotTables.{items_by_number, key_by_items, closed_state}
use Rattle.sel_closing.proofs.Members.{one_of_in, out_map}

module _ (z : Setting) (ws : List ℕ) where
  -- the state is one that the words say
  pub record IsSaid (s : State) : Type 0 where
    pub published : Published z ws s.number
    pub items : s.items ≡ state_items z ws s.number

  abbrev pub AreSaid : List State → Type 0
  AreSaid ss = (s : State) → IsOneOf s ss → IsSaid s

  -- a number that a state has leads to its item set
  pub looked_up : (ss : List State) (n : ℕ) (s : State) → AreSaid ss → IsOneOf s ss → s.number ≡ n → items_by_number ss n ≡ state_items z ws n
  looked_up [] n s said h e = absurd h
  looked_up (r ∷ rs) n s said h e = dite (ℕ_discrete r.number n)
      (λ same. ap (λ b. cond b r.items (items_by_number rs n)) (eq-eqb r.number n same) ∙ ((said r (inl refl)).items ∙ ap (state_items z ws) same))
      (λ apart. ap (λ b. cond b r.items (items_by_number rs n)) (ne_eqb r.number n apart) ∙ go apart (λ m. looked_up rs n s (λ t i. said t (inr i)) m e) h)
    where
      go : r.number ≢ n → (IsOneOf s rs → items_by_number rs n ≡ state_items z ws n) → (r ≡ s) ⊎ IsOneOf s rs → items_by_number rs n ≡ state_items z ws n
      go apart more (inl q) = absurd (apart (ap (λ (t : State). t.number) q ∙ e))
      go apart more (inr m) = more m

  -- different numbers have different item sets, so the states' item sets differ
  pub sets_differ : (ss : List State) → IsAscending ss → AreSaid ss → ((m n : ℕ) → Published z ws m → Published z ws n → state_items z ws m ≡ state_items z ws n → m ≡ n)
      → AllDiffer (map (λ (s : ClosedState). s.items) (map closed_state ss))
  sets_differ [] up said one = tt
  sets_differ (s ∷ ss) up said one = (
    (λ c. none (out_map (λ (t : ClosedState). t.items) (map closed_state ss) s.items (is_one_of (map (λ (t : ClosedState). t.items) (map closed_state ss)) s.items c))),
    sets_differ ss up.1 (λ t i. said t (inr i)) one,
  )
    where
      apart : (t : State) → IsOneOf t ss → t.items ≡ s.items → ⊥
      apart t m e =
          let a = said t (inr m) in
          let b = said s (inl refl) in
          let same : t.number ≡ s.number = one t.number s.number a.published b.published (sym a.items ∙ (e ∙ b.items)) in
          let less = up.0 t (one_of_in t ss m) in
          absurd (omega arith)

      none : (t : ClosedState) × IsOneOf t (map closed_state ss) × (t.items ≡ s.items) → ⊥
      none (t, m, e) = let r = out_map closed_state ss t m in apart r.0 r.1 (ap (λ (x : ClosedState). x.items) r.2 ∙ e)

  -- the key of a word by the states is its key by the words
  kids_said : (ss : List State) → ((n : ℕ) → Published z ws n → items_by_number ss n ≡ state_items z ws n) → (k l r : ℕ) → EachKid (Published z ws) k l r
      → by_kids k (items_by_number ss l) (items_by_number ss r) ≡ map items_of (by_kids k (content z ws l) (content z ws r))
  kids_said ss look zero l r h = refl
  kids_said ss look (suc zero) l r h = λ i. look l h i ∷ []
  kids_said ss look (suc (suc k)) l r h = λ i. look l h.0 i ∷ look r h.1 i ∷ []

  pub key_said : (ss : List State) → ((n : ℕ) → Published z ws n → items_by_number ss n ≡ state_items z ws n) → (q : ℕ) → KidsPublished z ws (key_of (row_word z ws q))
      → key_by_items ss (key_by (key_of (row_word z ws q))) ≡ row_key z ws q
  key_said ss look q h =
      let x : ℕ = key_of (row_word z ws q) in
      ap (node_key_of (operator_of x) (class_by (kids_of x) (left_of x))) (kids_said ss look (kids_of x) (left_of x) (right_of x) h)

  -- the transition is that of a place's word
  pub record IsPlaced (q n : ℕ) (x : Transition) : Type 0 where
    pub place : ℕ
    pub from : q ≤ place
    pub before : place < q + n
    pub word : row_word z ws place ≢ 0
    pub is : x ≡ transition_by (row_word z ws place)

  abbrev pub those : ℕ → ℕ → List Transition
  those b n = transitions_in (read ws b n)

  word_here : (q b : ℕ) → b ≡ row_at z q → slice_index ws b ≡ row_word z ws q
  word_here q b e = ap (slice_index ws) e

  pub placed : (n q b : ℕ) (x : Transition) → b ≡ row_at z q → IsOneOf x (those b n) → IsPlaced q n x
  placed zero q b x e h = absurd h
  placed (suc n) q b x e h = dite (ℕ_discrete (slice_index ws b) 0)
      (λ free. later (placed n (q + 1) (b + 1) x (omega arith) (subst (λ c. IsOneOf x (cond c (those (b + 1) n) (transition_by (slice_index ws b) ∷ those (b + 1) n))) (eq-eqb (slice_index ws b) 0 free) h)))
      (λ taken. here (λ m. placed n (q + 1) (b + 1) x (omega arith) m) taken (subst (λ c. IsOneOf x (cond c (those (b + 1) n) (transition_by (slice_index ws b) ∷ those (b + 1) n))) (ne_eqb (slice_index ws b) 0 taken) h))
    where
      later : IsPlaced (q + 1) n x → IsPlaced q (suc n) x
      later w = record { place = w.place; from = (let l = w.from in omega arith); before = (let l = w.before in omega arith); word = w.word; is = w.is }

      here : (IsOneOf x (those (b + 1) n) → IsPlaced (q + 1) n x) → slice_index ws b ≢ 0 → (transition_by (slice_index ws b) ≡ x) ⊎ IsOneOf x (those (b + 1) n) → IsPlaced q (suc n) x
      here more taken (inl s) = record { place = q; from = omega arith; before = omega arith; word = (λ o. taken (word_here q b e ∙ o)); is = sym s ∙ ap transition_by (word_here q b e) }
      here more taken (inr m) = later (more m)

  pub there : (n q b k : ℕ) → b ≡ row_at z q → q ≤ k → k < q + n → row_word z ws k ≢ 0 → IsOneOf (transition_by (row_word z ws k)) (those b n)
  there zero q b k e l l' o = absurd (omega arith)
  there (suc n) q b k e l l' o = dite (ℕ_discrete q k)
      (λ same.
      let w : slice_index ws b ≡ row_word z ws k = word_here q b e ∙ ap (row_word z ws) same in
      subst (λ c. IsOneOf (transition_by (row_word z ws k)) (cond c (those (b + 1) n) (transition_by (slice_index ws b) ∷ those (b + 1) n))) (sym (ne_eqb (slice_index ws b) 0 (λ f. o (sym w ∙ f)))) (inl (ap transition_by w)))
      (λ apart. behind (there n (q + 1) (b + 1) k (omega arith) (omega arith) (omega arith) o) (slice_index ws b == 0))
    where
      behind : IsOneOf (transition_by (row_word z ws k)) (those (b + 1) n) → (c : Bool) → IsOneOf (transition_by (row_word z ws k)) (cond c (those (b + 1) n) (transition_by (slice_index ws b) ∷ those (b + 1) n))
      behind m true = m
      behind m false = inr m

  pub few : (n b : ℕ) → length (those b n) ≤ n
  few zero b = omega arith
  few (suc n) b = go (few n (b + 1)) (slice_index ws b == 0)
    where
      go : length (those (b + 1) n) ≤ n → (c : Bool) → length (cond c (those (b + 1) n) (transition_by (slice_index ws b) ∷ those (b + 1) n)) ≤ suc n
      go h true = omega arith
      go h false = omega arith

  pub all : (n q b : ℕ) → b ≡ row_at z q → ((k : ℕ) → k < q + n → row_word z ws k ≢ 0) → length (those b n) ≡ n
  all zero q b e h = refl
  all (suc n) q b e h =
      ap (λ c. length (cond c (those (b + 1) n) (transition_by (slice_index ws b) ∷ those (b + 1) n))) (ne_eqb (slice_index ws b) 0 (λ f. h q (omega arith) (sym (word_here q b e) ∙ f)))
      ∙ ap suc (all n (q + 1) (b + 1) (omega arith) (λ k l. h k (omega arith)))

  -- the keys of closed transitions
  abbrev key_list : (Transition → ClosedTransition) → List Transition → List NodeKey
  key_list g ts = map (λ (x : ClosedTransition). x.key) (map g ts)

  -- the keys by the states, of those whose key f gives, differ where different places have different ones
  pub keys_differ : (f : Transition → NodeKey) (n q b : ℕ) → b ≡ row_at z q
      → ((k l : ℕ) → k < q + n → l < q + n → row_word z ws k ≢ 0 → row_word z ws l ≢ 0 → f (transition_by (row_word z ws k)) ≡ f (transition_by (row_word z ws l)) → k ≡ l)
      → (g : Transition → ClosedTransition) → ((x : Transition) → (g x).key ≡ f x) → AllDiffer (map (λ (x : ClosedTransition). x.key) (map g (those b n)))
  keys_differ f zero q b e d g is = tt
  keys_differ f (suc n) q b e d g is = go (keys_differ f n (q + 1) (b + 1) (omega arith) (λ k l a c h i s. d k l (omega arith) (omega arith) h i s) g is)
    where
      apart : slice_index ws b ≢ 0 → (x : Transition) → IsPlaced (q + 1) n x → f x ≡ f (transition_by (slice_index ws b)) → ⊥
      apart taken x w s =
          let l = w.from in
          let l' = w.before in
          let here = word_here q b e in
          let same : w.place ≡ q = d w.place q (omega arith) (omega arith) w.word (λ o. taken (here ∙ o)) (ap f (sym w.is) ∙ (s ∙ ap (λ y. f (transition_by y)) here)) in
          absurd (omega arith)

      none : slice_index ws b ≢ 0 → (x : ClosedTransition) × IsOneOf x (map g (those (b + 1) n)) × (x.key ≡ (g (transition_by (slice_index ws b))).key) → ⊥
      none taken (x, m, s) =
          let r = out_map g (those (b + 1) n) x m in
          apart taken r.0 (placed n (q + 1) (b + 1) r.0 (omega arith) r.1) (sym (is r.0) ∙ (ap (λ (y : ClosedTransition). y.key) r.2 ∙ (s ∙ is (transition_by (slice_index ws b)))))

      here : slice_index ws b ≢ 0 → AllDiffer (key_list g (those (b + 1) n)) → AllDiffer (key_list g (transition_by (slice_index ws b) ∷ those (b + 1) n))
      here taken more = (
        (λ c. none taken (out_map (λ (x : ClosedTransition). x.key) (map g (those (b + 1) n)) (g (transition_by (slice_index ws b))).key (is_one_of (key_list g (those (b + 1) n)) (g (transition_by (slice_index ws b))).key c))),
        more,
      )

      go : AllDiffer (key_list g (those (b + 1) n)) → AllDiffer (key_list g (cond (slice_index ws b == 0) (those (b + 1) n) (transition_by (slice_index ws b) ∷ those (b + 1) n)))
      go more = dite (ℕ_discrete (slice_index ws b) 0)
          (λ free. subst (λ c. AllDiffer (key_list g (cond c (those (b + 1) n) (transition_by (slice_index ws b) ∷ those (b + 1) n)))) (sym (eq-eqb (slice_index ws b) 0 free)) more)
          (λ taken. subst (λ c. AllDiffer (key_list g (cond c (those (b + 1) n) (transition_by (slice_index ws b) ∷ those (b + 1) n)))) (sym (ne_eqb (slice_index ws b) 0 taken)) (here taken more))
