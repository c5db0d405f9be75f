-- The compare-exchange of a transition word.
use Rattle.std.proofs.Common.{◌≡◌, ◌≢◌, ℕ, zero, suc, ◌+◌, ◌*◌, ◌/◌, ◌<◌, ◌≤◌, Bool, true, false, ◌==◌, List, [], ◌∷◌, ◌++◌, length, set, refl, sym, ap, ◌∙◌, subst, ⊎_elim, inl, inr, arith, eq-eqb, ne_eqb}
use Rattle.std.specs.Prelude.{slice_index}
use mathlib.Core.Option.{some, some-ne-none}
use mathlib.Core.Logic.{dite}
use native.Mathlib.Decide.{dec_lt, ℕ_discrete}
use lib.ListN.{get_elem?}
use prog.Atomic.{either}
use Rattle.atomic_table.specs.Table.{Me, keeps, Allows}
use Rattle.atomic_table.proofs.Lists.{set_here}
use Rattle.sel_law.specs.declared.Setting.{Setting}
use Rattle.sel_law.specs.declared.Ask.{Ask}
use Rattle.sel_law.specs.declared.View.{View}
use Rattle.sel_law.specs.Words.{IsMadeOf, key_home, weigh, In, used, walk, intern_at, row_at, content_at, content, Published, published, key_of, number_of, ask_of, KidsPublished, IsKey, word_of}
use Rattle.sel_law.specs.Law.{spent, NoGap, IsInUse, TransitionAt, Transitions, IsInSomeView, Lawful}
use Rattle.sel_law.specs.Kinds.{HeldNumber, HeldWhole, HeldKey, WalkedRow, looked, placed, placed_as, Learns, OneContent, Marks}
use Rattle.sel_law.proofs.Base.{in_front, in_back, in_split, in_one, in_here, index_set, index_else, set_same, read_same}
use Rattle.sel_law.proofs.Grow.{Grows, made_moves, published_grows, ask_grows, kids_grow, transition_grows, states_same, fits_grows, asked_grows, asked_views, some_set}
use Rattle.sel_law.proofs.Draw.{Fits, fit_set, in_use, alone_set, apart, counts_quiet, Holds, length_set}
use Rattle.sel_law.proofs.Look.{full_more, same_counts, held_published, one_content}
use Rattle.sel_law.proofs.Row.{held_whole, held_kids, held_ask, looked_lawful, looked_learns, looked_marks, hit_of}

key_back : (x n : ℕ) → n < 65536 → key_of (word_of x n) ≡ x
key_back x n h = omega arith

number_back : (x n : ℕ) → n < 65536 → number_of (word_of x n) ≡ n
number_back x n h = omega arith

word_used : (x n : ℕ) → 1 ≤ x / 4294967296 → word_of x n ≢ 0
word_used x n h e = omega arith

module _ (z : Setting) (ws : List ℕ) (views : List View) (l : Lawful z ws views) (id : ℕ) (v : View) (at : get_elem? views id ≡ some v) (seat : 1 ≤ v.seats)
    (asks : List Ask) (x : ℕ) (a : Ask) (key : IsKey x) (held : HeldKey v x a) (asked : In a (v.asked ++ asks))
    (n : ℕ) (c : List ℕ) (known : HeldNumber v n) (whole : HeldWhole v n c) (is_made : IsMadeOf z a c)
    (q : ℕ) (inside : q < z.rows) (walked : WalkedRow v x q) (free : slice_index ws (row_at z q) ≡ 0) where
  abbrev i : ℕ
  i = row_at z q

  abbrev new : ℕ
  new = word_of x n

  abbrev us : List ℕ
  us = set ws i new

  abbrev w : View
  w = placed v asks x a i n

  mine : IsInUse z ws v
  mine = in_use z ws v (l.views_fit id v at) seat

  there : Published z ws n
  there = held_published z ws v mine.setting mine.true_now l.transitions n known

  small_number : n < 65536
  small_number = let p = there in let b = (l.states.each p.0 n p.1 p.2).below in let s = l.small.states in omega arith

  here : slice_index us i ≡ new
  here = let s = l.size in index_set ws i new (omega arith)

  else : (j : ℕ) → j ≢ i → slice_index us j ≡ slice_index ws j
  else j ne = index_else ws i j new ne

  low : (p : ℕ) → p < 2 * z.states → slice_index us (intern_at p) ≡ slice_index ws (intern_at p)
  low p lt = else (intern_at p) (λ e. absurd (omega arith))

  high : (m j : ℕ) → slice_index us (content_at z m j) ≡ slice_index ws (content_at z m j)
  high m j = else (content_at z m j) (λ e. absurd (omega arith))

  same_content : (m : ℕ) → content z us m ≡ content z ws m
  same_content m = read_same ws us (content_at z m 0) z.width (λ k lt. else (content_at z m 0 + k) (λ e. absurd (omega arith)))

  old : (m : ℕ) → Published z us m → Published z ws m
  old m (p, lt, e) = (p, lt, sym (low p lt) ∙ e)

  grows : Grows z ws us
  grows = record {
    counter = (let e = else 0 (λ e. absurd (omega arith)) in omega arith);
    kept = λ j lo hi ne. else j (λ e. ne (ap (slice_index ws) e ∙ free));
    content_kept = λ m h. same_content m;
  }

  walk_here : WalkedRow record v { setting = z } x q
  walk_here = subst (λ (y : Setting). WalkedRow record v { setting = y } x q) mine.setting walked

  gapless : NoGap us (row_at z 0) z.rows (key_home z x) walk_here.0
  gapless j lt e =
      let o = walk_here.3 j lt in
      let t = mine.true_now.places (row_at z (walk z.rows (key_home z x) j), o.0) o.1 in
      let same : row_at z (walk z.rows (key_home z x) j) ≡ row_at z 0 + walk z.rows (key_home z x) j = omega arith in
      let k = grows.kept (row_at z (walk z.rows (key_home z x) j)) t.0 t.1 (λ n. t.2 (sym t.3 ∙ n)) in
      t.2 (sym (k ∙ t.3) ∙ (ap (slice_index us) same ∙ e))

  kids : KidsPublished z ws x
  kids = held_kids z ws v mine.setting mine.true_now l.transitions x a held

  the_ask : ask_of z us x ≡ a
  the_ask = ask_grows z ws us grows x kids ∙ held_ask z ws v mine.setting mine.true_now x a held

  new_row : TransitionAt z us q new
  new_row =
      let k = key_back x n small_number in let m = number_back x n small_number in record {
        number = subst (Published z us) (sym m) (published_grows z ws us grows n there);
        kids = subst (KidsPublished z us) (sym k) (kids_grow z ws us grows x kids);
        lawful_key = subst IsKey (sym k) key;
        made_of = made_moves z a (ask_of z us (key_of new)) c (content z us (number_of new)) (sym (ap (ask_of z us) k ∙ the_ask)) (sym (ap (content z us) m ∙ (same_content n ∙ held_whole z ws v mine.setting mine.true_now n c whole))) is_made;
        place = subst (λ y. (d : ℕ) × (d < z.rows) × (q ≡ walk z.rows (key_home z y) d) × NoGap us (row_at z 0) z.rows (key_home z y) d) (sym k) (walk_here.0, walk_here.1, walk_here.2, gapless);
      }

  -- no transition has the key
  no_twin : (r : ℕ) → r < z.rows → slice_index ws (row_at z r) ≢ 0 → key_of (slice_index ws (row_at z r)) ≡ x → ⊥
  no_twin r lt ne same =
      let t = l.transitions.each r lt ne in
      let pl = subst (λ y. (d : ℕ) × (d < z.rows) × (r ≡ walk z.rows (key_home z y) d) × NoGap ws (row_at z 0) z.rows (key_home z y) d) same t.place in
      let h = key_home z x in
      let d = walk_here.0 in
      dite (dec_lt pl.0 d)
      (λ before.
      let o = walk_here.3 pl.0 before in
      let t = mine.true_now.places (row_at z (walk z.rows h pl.0), o.0) o.1 in
      o.2 (ap key_of (sym (ap (λ k. slice_index ws (row_at z k)) pl.2 ∙ t.3)) ∙ same))
      (λ no. dite (dec_lt d pl.0)
      (λ after.
      let spot : row_at z 0 + walk z.rows h d ≡ row_at z (walk z.rows h d) = omega arith in
      pl.3 d after (ap (slice_index ws) spot ∙ (ap (λ k. slice_index ws (row_at z k)) (sym walk_here.2) ∙ free)))
      (λ neither.
      let even : pl.0 ≡ d = omega arith in
      let same_place : r ≡ q = pl.2 ∙ (ap (walk z.rows h) even ∙ sym walk_here.2) in
      ne (ap (λ k. slice_index ws (row_at z k)) same_place ∙ free)))

  rows : Transitions z us
  rows = record {
    each = λ r lt ne. dite (ℕ_discrete r q)
        (λ same. subst (λ k. TransitionAt z us k (slice_index us (row_at z k))) (sym same) (subst (TransitionAt z us q) (sym here) new_row))
        (λ apart_rows. (
        let e = else (row_at z r) (λ e. apart_rows (omega arith)) in
        subst (TransitionAt z us r) (sym e) (transition_grows z ws us grows r (slice_index ws (row_at z r)) lt (l.transitions.each r lt (λ n. ne (e ∙ n))))));
    differ = λ r s lr ls nr ns same. dite (ℕ_discrete r q)
        (λ r_new. dite (ℕ_discrete s q)
        (λ s_new. r_new ∙ sym s_new)
        (λ s_old. (
        let e = else (row_at z s) (λ e. s_old (omega arith)) in
        let f : slice_index us (row_at z r) ≡ new = ap (λ k. slice_index us (row_at z k)) r_new ∙ here in
        absurd (no_twin s ls (λ n. ns (e ∙ n)) (ap key_of (sym e) ∙ (sym same ∙ (ap key_of f ∙ key_back x n small_number)))))))
        (λ r_old. dite (ℕ_discrete s q)
        (λ s_new. (
        let e = else (row_at z r) (λ e. r_old (omega arith)) in
        let f : slice_index us (row_at z s) ≡ new = ap (λ k. slice_index us (row_at z k)) s_new ∙ here in
        absurd (no_twin r lr (λ n. nr (e ∙ n)) (ap key_of (sym e) ∙ (same ∙ (ap key_of f ∙ key_back x n small_number))))))
        (λ s_old. (
        let e = else (row_at z r) (λ e. r_old (omega arith)) in
        let f = else (row_at z s) (λ e. s_old (omega arith)) in
        l.transitions.differ r s lr ls (λ n. nr (e ∙ n)) (λ n. ns (f ∙ n)) (ap key_of (sym e) ∙ (same ∙ ap key_of f)))));
  }

  other_fits : (j : ℕ) (u : View) → get_elem? views j ≡ some u → Fits z us u
  other_fits j u e = ⊎_elim (λ (s : u ≡ spent). inl s)
      (λ (s : IsInUse z ws u). inr (fits_grows z ws us grows l.transitions u s (λ m o. ((λ h. (s.own m o).hidden (old m h)), (λ k lt. high m k)))))
      (l.views_fit j u e)

  my_use : IsInUse z us w
  my_use =
      let u = in_use z us v (other_fits id v at) seat in
      let t = u.true_now in record {
        setting = mine.setting;
        true_now = record {
          places = λ e h. ⊎_elim (λ (k : In e v.places). t.places e k)
              (λ (k : In e ((i, new) ∷ [])). subst (λ (e : ℕ × ℕ). (1 ≤ e.0) × (e.0 < row_at z z.rows) × (e.1 ≢ 0) × (slice_index us e.0 ≡ e.1)) (in_one e (i, new) k) (omega arith, omega arith, word_used x n key.0, here))
              (in_split e v.places ((i, new) ∷ []) h);
          contents = t.contents;
          known = λ e h. ⊎_elim
              (λ (k : In e v.known). let r = t.known e k in (in_front e.0 v.asked asks r.0, r.1))
              (λ (k : In e ((a, n) ∷ [])). subst (λ (e : Ask × ℕ). In e.0 w.asked × ((q : ℕ) × (q < z.rows) × (slice_index us (row_at z q) ≢ 0) × (number_of (slice_index us (row_at z q)) ≡ e.1) × (ask_of z us (key_of (slice_index us (row_at z q))) ≡ e.0))) (in_one e (a, n) k)
              (asked, (q, inside, (λ e. word_used x n key.0 (sym here ∙ e)), ap number_of here ∙ number_back x n small_number, ap (λ y. ask_of z us (key_of y)) here ∙ (ap (ask_of z us) (key_back x n small_number) ∙ the_ask))))
              (in_split e v.known ((a, n) ∷ []) h);
        };
        own = u.own;
        seated = seat;
        spare = mine.spare;
        few = mine.few;
        full = λ h r. full_more z us v asks w (λ a k. in_front a v.asked asks k) (u.full h r);
      }

  pub placed_lawful : Lawful z us (set views id w)
  placed_lawful =
      let same : published z us ≡ published z ws = ap (weigh used) (read_same ws us 1 (2 * z.states) (λ k lt. low k lt)) in
      let c = counts_quiet z ws views id v w at (same_counts v w refl refl refl refl refl refl) l.counts in
      let c0 = c.counter in let c1 = c.room in let zero_same = else 0 (λ e. absurd (omega arith)) in
      let has_asked : IsInSomeView (set views id w) (λ u. In a u.asked) = (id, w, set_here views id w (len views id v at), asked) in
      let has_place : IsInSomeView (set views id w) (λ u. In (i, new) u.places) = (id, w, set_here views id w (len views id v at), in_back (i, new) v.places ((i, new) ∷ []) (in_here (i, new) [])) in
      record {
        small = l.small;
        size = length_set ws i new ∙ l.size;
        transitions = rows;
        states = states_same z ws us grows l.states low;
        views_fit = fit_set z us views id w (λ j u ne e. other_fits j u e) (inr my_use);
        own_apart = alone_set views id w l.own_apart (λ m o. apart views id v at l.own_apart m o);
        counts = record { counter = omega arith; room = omega arith; filled = λ h. (let f = c.filled h in omega arith); marked = c.marked; seats = c.seats };
        asked = asked_grows z ws us grows l.transitions (set views id w)
            (asked_views z ws views (set views id w) l.asked
            (λ x. some_set views id v w (λ u. In x u.asked) at (λ h. in_front x v.asked asks h))
            (λ x. some_set views id v w (λ u. In x u.places) at (λ h. in_front x v.places ((i, new) ∷ []) h)))
            (λ m h. inl (old m h))
            (λ r lt ne. dite (ℕ_discrete r q)
            (λ same. inr (
            let this : ask_of z us (key_of (slice_index us (row_at z r))) ≡ a = ap (λ k. ask_of z us (key_of (slice_index us (row_at z k)))) same ∙ (ap (λ y. ask_of z us (key_of y)) here ∙ (ap (ask_of z us) (key_back x n small_number) ∙ the_ask)) in
            subst (λ (b : Ask). IsInSomeView (set views id w) (λ u. In b u.asked)) (sym this) has_asked))
            (λ no. inl (else (row_at z r) (λ e. no (omega arith)))))
            (λ j lo hi ne. dite (ℕ_discrete j i)
            (λ e. inr (subst (λ (t : ℕ × ℕ). IsInSomeView (set views id w) (λ u. In t u.places)) (λ k. (sym e k, (sym here ∙ ap (slice_index us) (sym e)) k)) has_place))
            (λ no. inl (else j no)));
      }
    where
      len : (views : List View) (id : ℕ) (v : View) → get_elem? views id ≡ some v → id < length views
      len [] id v e = absurd (some-ne-none v (sym e))
      len (x ∷ xs) zero v e = omega arith
      len (x ∷ xs) (suc id) v e = omega (arith, len xs id v e)

placed_found : (z : Setting) (ws : List ℕ) (views : List View) (l : Lawful z ws views) (id : ℕ) (v : View) (at : get_elem? views id ≡ some v) (seat : 1 ≤ v.seats)
    (asks : List Ask) (x : ℕ) (a : Ask) (key : IsKey x) (held : HeldKey v x a) (asked : In a (v.asked ++ asks))
    (n : ℕ) (c : List ℕ) (known : HeldNumber v n) (whole : HeldWhole v n c) (is_made : IsMadeOf z a c)
    (q : ℕ) (inside : q < z.rows) (walked : WalkedRow v x q)
    → Dec (slice_index ws (row_at z q) ≡ 0)
    → Lawful z (set ws (row_at z q) (either (slice_index ws (row_at z q) == 0) (word_of x n) (slice_index ws (row_at z q)))) (set views id (placed_as (slice_index ws (row_at z q) == 0) v asks x a (content z ws (number_of (slice_index ws (row_at z q)))) (row_at z q) n (slice_index ws (row_at z q))))
placed_found z ws views l id v at seat asks x a key held asked n c known whole is_made q inside walked (yes free) =
    subst (λ b. Lawful z (set ws (row_at z q) (either b (word_of x n) (slice_index ws (row_at z q)))) (set views id (placed_as b v asks x a (content z ws (number_of (slice_index ws (row_at z q)))) (row_at z q) n (slice_index ws (row_at z q))))) (sym (eq-eqb (slice_index ws (row_at z q)) 0 free))
    (placed_lawful z ws views l id v at seat asks x a key held asked n c known whole is_made q inside walked free)
placed_found z ws views l id v at seat asks x a key held asked n c known whole is_made q inside walked (no taken) =
    subst (λ b. Lawful z (set ws (row_at z q) (either b (word_of x n) (slice_index ws (row_at z q)))) (set views id (placed_as b v asks x a (content z ws (number_of (slice_index ws (row_at z q)))) (row_at z q) n (slice_index ws (row_at z q))))) (sym (ne_eqb (slice_index ws (row_at z q)) 0 taken))
    (subst (λ us. Lawful z us (set views id (looked v asks x a (content z ws (number_of (slice_index ws (row_at z q)))) (row_at z q) (slice_index ws (row_at z q))))) (sym (set_same ws (row_at z q) (slice_index ws (row_at z q)) refl))
    (looked_lawful z ws views l id v at seat asks x a key held asked q inside))

-- a lawful view with a seat holds one content for each number
pub lawful_one : (z : Setting) (us : List ℕ) (views : List View) (id : ℕ) (v w : View) → get_elem? views id ≡ some v → 1 ≤ w.seats → Lawful z us (set views id w) → OneContent w
lawful_one z us views id v w at seat l = one_content z us w (in_use z us w (l.views_fit id w (set_here views id w (len views id v at))) seat).true_now
  where
    len : (views : List View) (id : ℕ) (v : View) → get_elem? views id ≡ some v → id < length views
    len [] id v e = absurd (some-ne-none v (sym e))
    len (x ∷ xs) zero v e = omega arith
    len (x ∷ xs) (suc id) v e = omega (arith, len xs id v e)

placed_seats : (b : Bool) (v : View) (asks : List Ask) (x : ℕ) (a : Ask) (c : List ℕ) (place n found : ℕ) → 1 ≤ v.seats → 1 ≤ (placed_as b v asks x a c place n found).seats
placed_seats true v asks x a c place n found h = h
placed_seats false v asks x a c place n found h = h

placed_marks : (z : Setting) (ws : List ℕ) (views : List View) (l : Lawful z ws views) (id : ℕ) (v : View) (at : get_elem? views id ≡ some v) (seat : 1 ≤ v.seats)
    (asks : List Ask) (x : ℕ) (a : Ask) (key : IsKey x) (held : HeldKey v x a) (asked : In a (v.asked ++ asks)) (n q : ℕ) (inside : q < z.rows)
    → Dec (slice_index ws (row_at z q) ≡ 0)
    → Marks v x (slice_index ws (row_at z q)) (placed_as (slice_index ws (row_at z q) == 0) v asks x a (content z ws (number_of (slice_index ws (row_at z q)))) (row_at z q) n (slice_index ws (row_at z q)))
placed_marks z ws views l id v at seat asks x a key held asked n q inside (yes free) =
    let found = slice_index ws (row_at z q) in
    let mine = in_use z ws v (l.views_fit id v at) seat in
    subst (λ b. Marks v x found (placed_as b v asks x a (content z ws (number_of found)) (row_at z q) n found)) (sym (eq-eqb found 0 free)) record {
      free = λ e. bool_false v.row_full (λ h. (mine.full h (λ r. absurd (omega arith))).0 q inside e);
      alone = λ h others. (hit_of x found h).0 free;
    }
  where
    bool_false : (b : Bool) → (b ≡ true → ⊥) → b ≡ false
    bool_false true n = absurd (n refl)
    bool_false false n = refl
placed_marks z ws views l id v at seat asks x a key held asked n q inside (no taken) =
    let found = slice_index ws (row_at z q) in
    subst (λ b. Marks v x found (placed_as b v asks x a (content z ws (number_of found)) (row_at z q) n found)) (sym (ne_eqb found 0 taken))
    (looked_marks z ws views l id v at seat asks x a key held asked q inside)

-- the exchange of a transition word
pub places : (z : Setting) (slots id : ℕ) (m : Me (Unit {0}) View) (asks : List Ask) (x : ℕ) (a : Ask) → IsKey x → HeldKey m.0 x a → In a (m.0.asked ++ asks)
    → (n : ℕ) (c : List ℕ) → HeldNumber m.0 n → HeldWhole m.0 n c → IsMadeOf z a c → (q : ℕ) → q < z.rows → WalkedRow m.0 x q → 1 ≤ m.0.seats
    → Allows (Holds z) slots id m (row_at z q) (λ k. either (k == 0) (word_of x n) k)
    (λ found w. (d : List ℕ) × (w.0 ≡ placed_as (found == 0) m.0 asks x a d (row_at z q) n found) × (w.1 ≡ m.1) × Learns m.0 x a d found × OneContent w.0 × Marks m.0 x found w.0)
places z slots id m asks x a key held asked n c known whole is_made q inside walked seat s l homes at fits =
    let found = slice_index s.words (row_at z q) in
    let d = content z s.words (number_of found) in
    let w = placed_as (found == 0) m.0 asks x a d (row_at z q) n found in
    let kept = placed_found z s.words s.views l id m.0 at seat asks x a key held asked n c known whole is_made q inside walked (ℕ_discrete found 0) in (
      w,
      keeps,
      tt,
      kept,
      (d, refl, refl, looked_learns z s.words s.views l id m.0 at seat asks x a key held asked q inside, lawful_one z (set s.words (row_at z q) (either (found == 0) (word_of x n) found)) s.views id m.0 w at (placed_seats (found == 0) m.0 asks x a d (row_at z q) n found seat) kept, placed_marks z s.words s.views l id m.0 at seat asks x a key held asked n q inside (ℕ_discrete found 0)),
    )
