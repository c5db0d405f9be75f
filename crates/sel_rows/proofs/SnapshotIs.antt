-- What a snapshot says, by the words that it was read from.
use Rattle.std.proofs.Common.{◌≡◌, ◌≢◌, ℕ, zero, suc, ◌<◌, ◌≤◌, Bool, true, false, cond, ◌==◌, List, [], ◌∷◌, length, map, refl, sym, ap, ◌∙◌, subst, arith, eq-eqb, ne_eqb}
use Rattle.std.specs.Prelude.{slice_index}
use mathlib.Core.Option.{some-injective}
use mathlib.Core.Logic.{dite}
use native.Mathlib.Decide.{ℕ_discrete}
use Rattle.atomic_table.specs.Seated.{TableId}
use Rattle.sel_items.specs.declared.items.Items.{Items}
use Rattle.sel_items.specs.Follows.{NodeKey, Follows, key_of as key_of_node}
use Rattle.sel_items.specs.Words.{FitsWords}
use Rattle.sel_law.specs.declared.Setting.{Setting}
use Rattle.sel_law.specs.Words.{In, EachKid, by_kids, class_by, items_of, node_key, content, read, row_at, Published, key_of, number_of, ask_of, operator_of, kids_of, left_of, right_of}
use Rattle.sel_law.proofs.Base.{in_nil, read_at, length_read}
use Rattle.sel_rows.specs.declared.part.PassPart.{PassPart}
use Rattle.sel_rows.specs.declared.snapshot.State.{State}
use Rattle.sel_rows.specs.declared.snapshot.Key.{Key}
use Rattle.sel_rows.specs.declared.snapshot.Transition.{Transition}
use Rattle.sel_rows.specs.declared.snapshot.Snapshot.{Snapshot}
use Rattle.sel_rows.specs.Closed.{state_items, row_word, row_key}
use Rattle.sel_rows.specs.Closing.{IsClosedBy}
use Rattle.sel_rows.specs.Meanings.{IsAsked}
use Rattle.sel_rows.specs.Parts.{AllOf}
use Rattle.sel_rows.specs.Snapshots.{states_of, transitions_of, key_by, transition_by, transitions_in}
use Rattle.sel_rows.specs.SnapshotLaws.{HasState, AreKidStates, IsNodeOf, IsAskedOf, IsLawfulSnapshot}
use Rattle.sel_rows.specs.Tables.{view_of}

-- the transitions of words in use
transition_found : (ws : List ℕ) (t : Transition) → In t (transitions_in ws) → (i : ℕ) × (i < length ws) × (slice_index ws i ≢ 0) × (t ≡ transition_by (slice_index ws i))
transition_found [] t h = absurd (in_nil t h)
transition_found (w ∷ ws) t h = dite (ℕ_discrete w 0)
    (λ e. later (transition_found ws t) (subst (λ b. In t (cond b (transitions_in ws) (transition_by w ∷ transitions_in ws))) (eq-eqb w 0 e) h))
    (λ ne. here (transition_found ws t) ne (subst (λ b. In t (cond b (transitions_in ws) (transition_by w ∷ transitions_in ws))) (ne_eqb w 0 ne) h))
  where
    later : (In t (transitions_in ws) → (i : ℕ) × (i < length ws) × (slice_index ws i ≢ 0) × (t ≡ transition_by (slice_index ws i))) → In t (transitions_in ws) → (i : ℕ) × (i < suc (length ws)) × (slice_index (w ∷ ws) i ≢ 0) × (t ≡ transition_by (slice_index (w ∷ ws) i))
    later more k = let r = more k in (suc r.0, (let l = r.1 in omega arith), r.2, r.3)

    here : (In t (transitions_in ws) → (i : ℕ) × (i < length ws) × (slice_index ws i ≢ 0) × (t ≡ transition_by (slice_index ws i))) → w ≢ 0 → In t (transition_by w ∷ transitions_in ws) → (i : ℕ) × (i < suc (length ws)) × (slice_index (w ∷ ws) i ≢ 0) × (t ≡ transition_by (slice_index (w ∷ ws) i))
    here more ne (zero, e) = (zero, omega arith, ne, sym (some-injective (transition_by w) t e))
    here more ne (suc k, e) = later more (k, e)

transition_there : (ws : List ℕ) (i : ℕ) → i < length ws → slice_index ws i ≢ 0 → In (transition_by (slice_index ws i)) (transitions_in ws)
transition_there [] i lt ne = absurd (omega arith)
transition_there (w ∷ ws) zero lt ne = subst (λ b. In (transition_by w) (cond b (transitions_in ws) (transition_by w ∷ transitions_in ws))) (sym (ne_eqb w 0 ne)) (0, refl)
transition_there (w ∷ ws) (suc i) lt ne = go (transition_there ws i (omega arith) ne) (w == 0)
  where
    go : In (transition_by (slice_index ws i)) (transitions_in ws) → (b : Bool) → In (transition_by (slice_index ws i)) (cond b (transitions_in ws) (transition_by w ∷ transitions_in ws))
    go r true = r
    go r false = (suc r.0, r.1)

few_transitions : (ws : List ℕ) → length (transitions_in ws) ≤ length ws
few_transitions [] = omega arith
few_transitions (w ∷ ws) = go (few_transitions ws) (w == 0)
  where
    go : length (transitions_in ws) ≤ length ws → (b : Bool) → length (cond b (transitions_in ws) (transition_by w ∷ transitions_in ws)) ≤ suc (length ws)
    go h true = omega arith
    go h false = omega arith

all_transitions : (ws : List ℕ) → ((i : ℕ) → i < length ws → slice_index ws i ≢ 0) → length (transitions_in ws) ≡ length ws
all_transitions [] h = refl
all_transitions (w ∷ ws) h =
    (λ j. length (cond (ne_eqb w 0 (h 0 (omega arith)) j) (transitions_in ws) (transition_by w ∷ transitions_in ws)))
    ∙ ap suc (all_transitions ws (λ i lt. h (suc i) (omega arith)))

module _ (t : TableId) (z : Setting) (parts : List PassPart) (of : AllOf t z parts) (s : Snapshot) (c : IsClosedBy z parts s) where
  abbrev ws : List ℕ
  ws = c.words

  state_of : (n : ℕ) → Published z ws n → HasState s n (state_items z ws n)
  state_of n p =
      let st = (c.snapshot).states in
      let a = st.all n p in
      let e = st.each a.0 a.1 in
      subst (λ (x : State). In x (states_of s)) (λ i. record { number = a.2 i; items = (e.1 ∙ ap (state_items z ws) a.2) i }) a.1

  items_are : (n : ℕ) (i : Items) → HasState s n i → i ≡ state_items z ws n
  items_are n i h = (((c.snapshot).states).each (record { number = n; items = i }) h).1

  kids_of_key : (k l r : ℕ) → EachKid (Published z ws) k l r → AreKidStates s k l r (map items_of (by_kids k (content z ws l) (content z ws r)))
  kids_of_key zero l r h = refl
  kids_of_key (suc zero) l r h = (state_items z ws l, state_of l h, refl)
  kids_of_key (suc (suc k)) l r h = (state_items z ws l, state_items z ws r, state_of l h.0, state_of r h.1, refl)

  kids_are : (k l r : ℕ) (is : List Items) → AreKidStates s k l r is → is ≡ map items_of (by_kids k (content z ws l) (content z ws r))
  kids_are zero l r is h = h
  kids_are (suc zero) l r is h = h.2 ∙ (λ j. items_are l h.0 h.1 j ∷ [])
  kids_are (suc (suc k)) l r is h = h.4 ∙ (λ j. items_are l h.0 h.2 j ∷ items_are r h.1 h.3 j ∷ [])

  -- the words of the row
  abbrev row : List ℕ
  row = read ws (row_at z 0) z.rows

  row_is : (q : ℕ) → q < z.rows → slice_index row q ≡ row_word z ws q
  row_is q lt = read_at ws (row_at z 0) z.rows q lt ∙ ap (slice_index ws) (omega arith)

  node_of : (q : ℕ) → q < z.rows → row_word z ws q ≢ 0 → IsNodeOf s (key_by (key_of (row_word z ws q))) (row_key z ws q)
  node_of q lt ne =
      let x = key_of (row_word z ws q) in
      (map items_of (by_kids (kids_of x) (content z ws (left_of x)) (content z ws (right_of x))), kids_of_key (kids_of x) (left_of x) (right_of x) ((c.table).kids q lt ne), refl)

  node_is : (q : ℕ) (k : NodeKey) → IsNodeOf s (key_by (key_of (row_word z ws q))) k → k ≡ row_key z ws q
  node_is q k h =
      let x = key_of (row_word z ws q) in
      h.2 ∙ ap (key_of_node (operator_of x) (class_by (kids_of x) (left_of x))) (kids_are (kids_of x) (left_of x) (right_of x) h.0 h.1)

  asked_of : (k : NodeKey) → IsAsked c.view k → IsAskedOf parts k
  asked_of k h = let p = c.asked h.0 h.1 in (p.0, p.1, (h.0, p.2, h.2))

  in_row : (t : Transition) → In t (transitions_of s) → (q : ℕ) × (q < z.rows) × (row_word z ws q ≢ 0) × (t ≡ transition_by (row_word z ws q))
  in_row t h =
      let r = transition_found row t (subst (In t) (c.snapshot).transitions h) in
      let lt : r.0 < z.rows = (let l = r.1 in let e = length_read ws (row_at z 0) z.rows in omega arith) in
      (r.0, lt, (λ e. r.2 (row_is r.0 lt ∙ e)), r.3 ∙ ap transition_by (row_is r.0 lt))

  row_in : (q : ℕ) → q < z.rows → row_word z ws q ≢ 0 → In (transition_by (row_word z ws q)) (transitions_of s)
  row_in q lt ne = subst (In (transition_by (row_word z ws q))) (sym (c.snapshot).transitions)
      (subst (λ w. In (transition_by w) (transitions_in row)) (row_is q lt) (transition_there row q (let e = length_read ws (row_at z 0) z.rows in omega arith) (λ e. ne (sym (row_is q lt) ∙ e))))

  same_key : (x y : ℕ) → key_by x ≡ key_by y → node_key (ask_of z ws x) ≡ node_key (ask_of z ws y)
  same_key x y e =
      let o = ap (λ (k : Key). k.operator) e in
      let n = ap (λ (k : Key). k.kids) e in
      let l = ap (λ (k : Key). k.left) e in
      let r = ap (λ (k : Key). k.right) e in
      λ i. key_of_node (o i) (class_by (n i) (l i)) (map items_of (by_kids (n i) (content z ws (l i)) (content z ws (r i))))

  pub lawful_snapshot : IsLawfulSnapshot z parts s
  lawful_snapshot = record {
    ascending = ((c.snapshot).states).ascending;
    states_differ = λ a b ha hb e. (
        let ea = ((c.snapshot).states).each a ha in
        let eb = ((c.snapshot).states).each b hb in
        let n : a.number ≡ b.number = (c.table).states_differ a.number b.number ea.0 eb.0 (sym ea.1 ∙ (e ∙ eb.1)) in
        λ i. record { number = n i; items = e i });
    states = λ a h. (
        let e = ((c.snapshot).states).each a h in
        let f = (c.table).states a.number e.0 in
        (f.0, subst FitsWords (sym e.1) f.1, (f.2.0, asked_of f.2.0 f.2.1, subst (λ (i : Items). Follows z.normal.value f.2.0 i) (sym e.1) f.2.2)));
    transitions = λ t h. (
        let r = in_row t h in
        let f = (c.table).rows r.0 r.1 r.2 in
        let n = number_of (row_word z ws r.0) in
        subst (λ (u : Transition). (i : Items) × HasState s u.number i × ((k : NodeKey) × IsNodeOf s u.key k × IsAskedOf parts k × Follows z.normal.value k i)) (sym r.3)
        (state_items z ws n, state_of n f.0, (row_key z ws r.0, node_of r.0 r.1 r.2, asked_of (row_key z ws r.0) f.1, f.2)));
    keys_differ = λ t u ht hu e. (
        let a = in_row t ht in
        let b = in_row u hu in
        let keys : key_by (key_of (row_word z ws a.0)) ≡ key_by (key_of (row_word z ws b.0)) = ap (λ (x : Transition). x.key) (sym a.3) ∙ (e ∙ ap (λ (x : Transition). x.key) b.3) in
        let q : a.0 ≡ b.0 = (c.table).rows_differ a.0 b.0 a.1 b.1 a.2 b.2 (same_key (key_of (row_word z ws a.0)) (key_of (row_word z ws b.0)) keys) in
        a.3 ∙ (ap (λ p. transition_by (row_word z ws p)) q ∙ sym b.3));
    few = (
      (let n = ((c.snapshot).states).count in let f = (c.table).few in omega arith),
      (let a = ap length (c.snapshot).transitions in let f = few_transitions row in let e = length_read ws (row_at z 0) z.rows in omega arith),
    );
    held = λ p i h k. (
        let o = of p h in
        let f = (c.table).held (view_of p) i o.setting (c.parts_within p h) k in
        (f.0, subst (HasState s f.0) (sym f.2) (state_of f.0 f.1)));
    known = λ p k n h known. (
        let f = (c.table).known (view_of p) k n (c.parts_within p h) known in
        (transition_by (row_word z ws f.0), row_in f.0 f.1 f.2, f.4, subst (IsNodeOf s (key_by (key_of (row_word z ws f.0)))) f.3 (node_of f.0 f.1 f.2)));
    used_up = λ p h m. (
        let f = (c.table).used_up ((c.parts_within p h).used_up (p.marked ∙ m)) in
        let n = ((c.snapshot).states).count in
        omega arith);
    row_full = λ p h m some. (
        let o = of p h in
        let mine : 1 ≤ p.seat.me.0.setting.rows = subst (λ (y : Setting). 1 ≤ y.rows) (sym o.setting) some in
        let f = (c.table).row_full ((c.parts_within p h).row_full (p.full_by m mine)) (λ e. (let x : z.rows ≡ 0 = e in absurd (omega arith))) in
        let long = length_read ws (row_at z 0) z.rows in
        let all = all_transitions row (λ q lt e. (let l : q < z.rows = omega arith in f.0 q l (sym (row_is q l) ∙ e))) in
        let count = ap length (c.snapshot).transitions in
        (omega arith, (f.1.0, asked_of f.1.0 f.1.1, λ t ht node. (let r = in_row t ht in f.1.2 r.0 r.1 (sym (node_is r.0 f.1.0 (subst (λ (u : Transition). IsNodeOf s u.key f.1.0) r.3 node)))))));
  }
