-- A closed table tells of the trees what a table and its marks are to tell.
use Rattle.std.proofs.Common.{◌≡◌, ◌≢◌, ℕ, ◌+◌, ◌<◌, ◌≤◌, Bool, true, false, List, length, map, refl, sym, ap, subst, ◌∙◌, arith}
use Rattle.std.specs.List.{Contains}
use Rattle.std.proofs.lemmas.List.{length-map}
use Rattle.sel_grammar.specs.declared.grammar.Grammar.{Grammar}
use Rattle.sel_forest.specs.declared.forest.Tree.{Tree}
use Rattle.sel_normal.specs.NormalForms.{NormalForm}
use Rattle.sel_items.specs.declared.items.Items.{Items}
use Rattle.sel_items.specs.Follows.{NodeKey, Follows}
use Rattle.sel_items.specs.Laws.{IsAcceptedForm}
use Rattle.sel_items.specs.Words.{FitsWords}
use Rattle.sel_items.proofs.ItemLaws.{items_are_one}
use Rattle.sel_law.specs.declared.Setting.{Setting}
use Rattle.sel_law.specs.declared.View.{View}
use Rattle.sel_law.specs.Words.{In, row_at, Published, published, number_of}
use Rattle.sel_rows.specs.declared.part.PassPart.{PassPart}
use Rattle.sel_rows.specs.declared.snapshot.Snapshot.{Snapshot}
use Rattle.sel_rows.specs.declared.snapshot.Transition.{Transition}
use Rattle.sel_rows.specs.Closed.{IsClosedTable, state_items, row_word, row_key}
use Rattle.sel_rows.specs.Closing.{IsClosedBy}
use Rattle.sel_rows.specs.Meanings.{IsAsked}
use Rattle.sel_rows.specs.Parts.{IsSettingOf}
use Rattle.sel_rows.specs.Snapshots.{IsSnapshotOf, states_of, transitions_of, transition_by}
use Rattle.sel_rows.specs.Tables.{view_of}
use Rattle.sel_count.specs.Counts.{AllDiffer}
use Rattle.sel_count.specs.Counted.{IsCountedTable, IsWholeTable}
use Rattle.sel_count.specs.Things.{AreValid, IsTabledItems, IsTabledKey, IsAskableKey}
use Rattle.sel_count.specs.ClosedTables.{ClosedState, ClosedTransition, ClosedTable, IsClosedOver, KeepsTabled, LeadsToState, sets, keys}
use Rattle.sel_count.proofs.Asked.{trees_have_keys}
use Rattle.sel_count.proofs.Elements.{IsOneOf, is_one_of, contains}
use Rattle.sel_count.proofs.Marks.{closed_tables_tell}
use Rattle.sel_closing.specs.Asking.{PartsAskOnly, PartsKeep, AreMarksOf}
use Rattle.sel_closing.specs.Laws.{SnapshotsTell}
use Rattle.sel_closing.specs.SnapshotTables.{Room, closed_state, closed_transition, items_by_number, key_by_items, table_of}
use Rattle.sel_closing.proofs.Members.{in_one_of, one_of_in, in_map, out_map}
use Rattle.sel_closing.proofs.SnapshotLists as lists

-- the room of a table that was made so
abbrev room_of : Setting → Room
room_of z = record { states = z.states; keys = z.rows; workers = z.workers }

-- the states and transitions of a snapshot, as a closed table has them
abbrev states_in_table : Snapshot → List ClosedState
states_in_table s = map closed_state (states_of s)

abbrev transitions_in_table : Snapshot → List ClosedTransition
transitions_in_table s = map (closed_transition (states_of s)) (transitions_of s)

module _ (z : Setting) (ws : List ℕ) (v : View) (s : Snapshot) (snap : IsSnapshotOf z ws s) (cl : IsClosedTable z ws v) where
  said : lists.AreSaid z ws (states_of s)
  said r m = let e = (snap.states).each r (one_of_in r (states_of s) m) in record { published = e.0; items = e.1 }

  look : (n : ℕ) → Published z ws n → items_by_number (states_of s) n ≡ state_items z ws n
  look n p = let a = (snap.states).all n p in lists.looked_up z ws (states_of s) n a.0 said (in_one_of a.0 (states_of s) a.1) a.2

  -- each published number has a state with its item set
  state_there : (n : ℕ) → Published z ws n → (r : ClosedState) × IsOneOf r (states_in_table s) × (r.number ≡ n) × (r.items ≡ state_items z ws n)
  state_there n p =
      let a = (snap.states).all n p in
      let m = in_one_of a.0 (states_of s) a.1 in
      (closed_state a.0, in_map closed_state (states_of s) a.0 m, a.2, (said a.0 m).items ∙ ap (state_items z ws) a.2)

  state_said : (r : ClosedState) → IsOneOf r (states_in_table s) → Published z ws r.number × (r.items ≡ state_items z ws r.number)
  state_said r m =
      let t = out_map closed_state (states_of s) r m in
      let e = said t.0 t.1 in
      subst (λ (c : ClosedState). Published z ws c.number × (c.items ≡ state_items z ws c.number)) t.2 (e.published, e.items)

  long_states : length (states_in_table s) ≡ published z ws
  long_states = length-map (states_of s) closed_state ∙ (snap.states).count

  placed : (x : Transition) → IsOneOf x (transitions_of s) → lists.IsPlaced z ws 0 z.rows x
  placed x m = lists.placed z ws z.rows 0 (row_at z 0) x refl (subst (IsOneOf x) snap.transitions m)

  key_at : (x : Transition) (w : lists.IsPlaced z ws 0 z.rows x) → key_by_items (states_of s) x.key ≡ row_key z ws w.place
  key_at x w =
      ap (λ (y : Transition). key_by_items (states_of s) y.key) w.is
      ∙ lists.key_said z ws (states_of s) look w.place (cl.kids w.place (let l = w.before in omega arith) w.word)

  -- a transition stands at a place
  placed_in_table : (x : ClosedTransition) → IsOneOf x (transitions_in_table s) → (q : ℕ) × (q < z.rows) × (row_word z ws q ≢ 0) × (x.key ≡ row_key z ws q) × (x.number ≡ number_of (row_word z ws q))
  placed_in_table x m =
      let t = out_map (closed_transition (states_of s)) (transitions_of s) x m in
      let w = placed t.0 t.1 in (
        w.place,
        (let l = w.before in omega arith),
        w.word,
        sym (ap (λ (y : ClosedTransition). y.key) t.2) ∙ key_at t.0 w,
        sym (ap (λ (y : ClosedTransition). y.number) t.2) ∙ ap (λ (y : Transition). y.number) w.is,
      )

  -- and a place in use has its transition
  key_there : (q : ℕ) → q < z.rows → row_word z ws q ≢ 0 → (x : ClosedTransition) × IsOneOf x (transitions_in_table s) × (x.key ≡ row_key z ws q)
  key_there q lt o =
      let y : Transition = transition_by (row_word z ws q) in
      let m = subst (IsOneOf y) (sym snap.transitions) (lists.there z ws z.rows 0 (row_at z 0) q refl (omega arith) (omega arith) o) in
      (closed_transition (states_of s) y, in_map (closed_transition (states_of s)) (transitions_of s) y m, lists.key_said z ws (states_of s) look q (cl.kids q lt o))

  few_transitions : length (transitions_in_table s) ≤ z.rows
  few_transitions =
      let a = length-map (transitions_of s) (closed_transition (states_of s)) in
      let b = ap length snap.transitions in
      let c = lists.few z ws z.rows (row_at z 0) in
      omega arith

  all_transitions : ((q : ℕ) → q < z.rows → row_word z ws q ≢ 0) → length (transitions_in_table s) ≡ z.rows
  all_transitions taken =
      length-map (transitions_of s) (closed_transition (states_of s)) ∙ (ap length snap.transitions ∙ lists.all z ws z.rows 0 (row_at z 0) refl (λ k l. taken k (omega arith)))

  sets_differ : AllDiffer (map (λ (r : ClosedState). r.items) (states_in_table s))
  sets_differ = lists.sets_differ z ws (states_of s) (snap.states).ascending said cl.states_differ

  keys_differ : AllDiffer (map (λ (x : ClosedTransition). x.key) (transitions_in_table s))
  keys_differ =
      subst (λ ts. AllDiffer (map (λ (x : ClosedTransition). x.key) (map (closed_transition (states_of s)) ts))) (sym snap.transitions)
      (lists.keys_differ z ws (λ (x : Transition). key_by_items (states_of s) x.key) z.rows 0 (row_at z 0) refl
      (λ k l lk ll ok ol e. cl.rows_differ k l (omega arith) (omega arith) ok ol (sym (said_at k (omega arith) ok) ∙ (e ∙ said_at l (omega arith) ol)))
      (closed_transition (states_of s)) (λ x. refl))
    where
      said_at : (q : ℕ) → q < z.rows → row_word z ws q ≢ 0 → key_by_items (states_of s) (transition_by (row_word z ws q)).key ≡ row_key z ws q
      said_at q lt o = lists.key_said z ws (states_of s) look q (cl.kids q lt o)

  leads : (x : ClosedTransition) → IsOneOf x (transitions_in_table s) → LeadsToState z.normal.value (states_in_table s) x
  leads x m =
      let w = placed_in_table x m in
      let r = cl.rows w.0 w.1 w.2 in
      let t = state_there (number_of (row_word z ws w.0)) r.0 in (
        t.0,
        contains (states_in_table s) t.0 t.1,
        t.2 ∙ sym w.4,
        subst (Follows z.normal.value x.key) (sym t.3) (subst (λ k. Follows z.normal.value k (state_items z ws (number_of (row_word z ws w.0)))) (sym w.3) r.2),
      )

some_rows : (m n : ℕ) → m ≡ n → n ≢ 0 → 1 ≤ m
some_rows m n e r = grind arith

module _ (g : Grammar) (trees : List Tree) (z : Setting) (parts : List PassPart) (s : Snapshot) (used_up row_full : Bool) (valid : AreValid g trees) (of : (p : PassPart) → In p parts → (view_of p).setting ≡ z) (by : IsClosedBy z parts s) (asks : PartsAskOnly g trees parts) (marks : AreMarksOf parts used_up row_full) where
  abbrev table : ClosedTable
  table = table_of (room_of z) s used_up row_full

  -- each key that was asked may be asked of the trees
  may : (k : NodeKey) → IsAsked by.view k → IsAskableKey g trees k
  may k (a, h, e) = let p = by.asked a h in (asks p.0 p.1).keys k (a, p.2, e)

  state_is : (i : Items) → Contains (sets table) i → FitsWords i × ((k : NodeKey) × IsAskableKey g trees k × Follows z.normal.value k i)
  state_is i c =
      let t = out_map (λ (r : ClosedState). r.items) (states_in_table s) i (is_one_of (sets table) i c) in
      let h = state_said z by.words by.view s by.snapshot by.table t.0 t.1 in
      let a = (by.table).states (t.0).number h.0 in
      let q : state_items z by.words (t.0).number ≡ i = sym h.1 ∙ t.2 in
      (subst FitsWords q a.1, (a.2.0, may a.2.0 a.2.1, subst (Follows z.normal.value a.2.0) q a.2.2))

  asked_at : (x : ClosedTransition) → IsOneOf x (transitions_in_table s) → IsAskableKey g trees x.key
  asked_at x m =
      let w = placed_in_table z by.words by.view s by.snapshot by.table x m in
      subst (IsAskableKey g trees) (sym w.3) (may (row_key z by.words w.0) ((by.table).rows w.0 w.1 w.2).1)

  few : length (states_in_table s) ≤ z.states
  few = let l = long_states z by.words by.view s by.snapshot by.table in let f = (by.table).few in omega arith

  used : used_up ≡ true → z.states < length (states_in_table s) + z.workers
  used u =
      let p = marks.numbers.0 u in
      let f = (by.table).used_up ((by.parts_within p.0 p.1).used_up ((p.0).marked ∙ p.2)) in
      let l = long_states z by.words by.view s by.snapshot by.table in
      omega arith

  none : (k : NodeKey) → ((q : ℕ) → q < z.rows → row_key z by.words q ≢ k) → Contains (keys table) k → ⊥
  none k never c =
      let t = out_map (λ (x : ClosedTransition). x.key) (transitions_in_table s) k (is_one_of (keys table) k c) in
      let w = placed_in_table z by.words by.view s by.snapshot by.table t.0 t.1 in
      never w.0 w.1 (sym w.3 ∙ t.2)

  full : row_full ≡ true → z.rows ≢ 0 → (length (transitions_in_table s) ≡ z.rows) × ((k : NodeKey) × IsAskableKey g trees k × (Contains (keys table) k → ⊥))
  full f some =
      let p = marks.row.0 f in
      let rows = some_rows (view_of p.0).setting.rows z.rows (ap (λ (y : Setting). y.rows) (of p.0 p.1)) some in
      let e = (by.table).row_full ((by.parts_within p.0 p.1).row_full ((p.0).full_by p.2 rows)) some in
      (all_transitions z by.words by.view s by.snapshot by.table e.0, (e.1.0, may e.1.0 e.1.1, none e.1.0 e.1.2))

  asked_some : row_full ≡ true → (k : NodeKey) × IsAskableKey g trees k
  asked_some f =
      let p = marks.row.0 f in
      let t = (asks p.0 p.1).some_tree p.2 in
      trees_have_keys g trees t.0 valid t.1

  closed_over : IsClosedOver g z.normal.value trees table
  closed_over = record {
    states_differ = sets_differ z by.words by.view s by.snapshot by.table;
    states = state_is;
    keys_differ = keys_differ z by.words by.view s by.snapshot by.table;
    transitions = λ x c. (let m = is_one_of (transitions_in_table s) x c in (asked_at x m, leads z by.words by.view s by.snapshot by.table x m));
    few_states = few;
    few_keys = few_transitions z by.words by.view s by.snapshot by.table;
    used_up = used;
    row_full = full;
    row_asked = asked_some;
  }

  not_set : (b : Bool) (P : Type 0) → b ≡ false → (P → b ≡ true) → P → ⊥
  not_set b P f up p = let t = up p in cc

  is_false : (b : Bool) → (b ≡ true → ⊥) → b ≡ false
  is_false true h = absurd (h refl)
  is_false false h = refl

  module _ (kept : PartsKeep g trees parts) where
    set_kept : used_up ≡ false → (i : Items) → IsTabledItems g trees i → Contains (sets table) i
    set_kept u i (t, (tree, j, c, root), tabled, is) =
        let b = kept tree c in
        let unmarked = is_false (b.0).used_up (λ m. not_set used_up _ u marks.numbers.1 (b.0, b.1, m)) in
        let h = (b.2).sets unmarked j t root tabled in
        let n = (by.table).held (view_of b.0) h.0 (of b.0 b.1) (by.parts_within b.0 b.1) h.2 in
        let r = state_there z by.words by.view s by.snapshot by.table n.0 n.1 in
        let q : (r.0).items ≡ i = r.3 ∙ (sym n.2 ∙ items_are_one g t h.0 i h.1 is) in
        subst (Contains (sets table)) q (contains (sets table) (r.0).items (in_map (λ (c : ClosedState). c.items) (states_in_table s) r.0 r.1))

    key_kept : used_up ≡ false → row_full ≡ false → (k : NodeKey) → IsTabledKey g trees k → Contains (keys table) k
    key_kept u f k (t, (tree, j, c, root), tabled, is) =
        let b = kept tree c in
        let unmarked = is_false (b.0).used_up (λ m. not_set used_up _ u marks.numbers.1 (b.0, b.1, m)) in
        let room = is_false (b.0).row_full (λ m. not_set row_full _ f marks.row.1 (b.0, b.1, m)) in
        let h = (b.2).keys unmarked room j t k root tabled is in
        let w = (by.table).known (view_of b.0) k h.0 (by.parts_within b.0 b.1) h.1 in
        let x = key_there z by.words by.view s by.snapshot by.table w.0 w.1 w.2 in
        subst (Contains (keys table)) (x.2 ∙ w.3) (contains (keys table) (x.0).key (in_map (λ (y : ClosedTransition). y.key) (transitions_in_table s) x.0 x.1))

    keeps : KeepsTabled g trees table
    keeps = record { sets = set_kept; keys = key_kept }

same_room : (z : Setting) (normal : NormalForm) (room : Room) → IsSettingOf z normal room.states room.keys room.workers → room_of z ≡ room
same_room z normal room h = λ i. record { states = h.states_is i; keys = h.rows_is i; workers = h.workers_is i }

pub snapshots_tell : SnapshotsTell
snapshots_tell normal room parts s used_up row_full by g trees form valid asks =
    let z = by.setting in
    let of : (p : PassPart) → In p parts → (view_of p).setting ≡ z = λ p i. (by.parts_of p i).setting in
    let here = same_room z normal room by.made_for in
    let tells = closed_tables_tell g z.normal.value trees (table_of (room_of z) s used_up row_full) (record {
      form = subst (IsAcceptedForm g) (sym (by.made_for).normal_is) form;
      valid = valid;
      closed = closed_over g trees z parts s used_up row_full valid of by.closed asks by.marks;
    }) in (
      subst (λ n. IsCountedTable g n trees (table_of room s used_up row_full)) (by.made_for).normal_is (subst (λ r. IsCountedTable g z.normal.value trees (table_of r s used_up row_full)) here tells.0),
      λ kept. subst (λ r. IsWholeTable g trees (table_of r s used_up row_full)) here (tells.1 (keeps g trees z parts s used_up row_full valid of by.closed asks by.marks kept)),
    )
