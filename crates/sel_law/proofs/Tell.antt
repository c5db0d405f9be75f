-- What a look tells beside the word.
use Rattle.std.proofs.Common.{◌≡◌, ◌≢◌, ℕ, zero, suc, ◌+◌, ◌-◌, ◌*◌, ◌/◌, ◌<◌, ◌≤◌, Bool, true, false, cond, ◌==◌, List, [], ◌∷◌, ◌++◌, length, set, refl, sym, ap, ◌∙◌, subst, ⊎_elim, inl, inr, arith, ne_eqb, Some}
use Rattle.std.specs.Prelude.{slice_index}
use mathlib.Core.Option.{some}
use mathlib.Core.Logic.{dite}
use native.Mathlib.Decide.{dec_lt, ℕ_discrete}
use lib.ListN.{get_elem?}
use Rattle.atomic_table.specs.Table.{Me, keeps, Allows}
use Rattle.sel_law.specs.declared.Setting.{Setting}
use Rattle.sel_law.specs.declared.Ask.{Ask}
use Rattle.sel_law.specs.declared.View.{View}
use Rattle.sel_law.specs.Words.{IsMadeOf, key_home, content_home, content_at, weigh, In, read, used, walk, intern_at, row_at, key_of, number_of, Published, published, content, IsKey}
use Rattle.sel_law.specs.Law.{NoGap, IsTrueOf, IsInUse, Transitions, States, Lawful}
use Rattle.sel_law.specs.Kinds.{seen, read_entry, looked, stood_as, WalkedStates, HeldKey, WalkedRow, Tells, TellsStates, HeldNumber, OnlyMadeOf, HasContent, OneNumber, NotAll, Below, Learns, OneContent, Stays, Marks}
use Rattle.sel_law.proofs.Base.{set_same, read_at, in_front, in_split, in_one}
use Rattle.sel_law.proofs.Draw.{in_use, Holds, quiet}
use Rattle.sel_law.proofs.Look.{seen_lawful, held_published, full_more, same_counts, one_content}
use prog.Atomic.{either}
use Rattle.sel_law.proofs.Place.{lawful_one}
use Rattle.sel_law.proofs.Publish.{stood_found}
use Rattle.sel_law.proofs.Row.{number_injective, held_whole, held_kids, held_ask, key_injective, looked_lawful, looked_learns, looked_one, looked_stays, looked_marks}

no_key : (x : ℕ) → 0 ≡ x → 1 ≤ x / 4294967296 → ⊥
no_key x e h = omega arith

-- the content of a number that is published
has_content : (z : Setting) (ws : List ℕ) (v : View) → v.setting ≡ z → IsTrueOf z ws v → Transitions z ws → (n : ℕ) (c : List ℕ) → HasContent v n c → Published z ws n × (content z ws n ≡ c)
has_content z ws v same t rows n c (inl h) = (held_published z ws v same t rows n h.0, held_whole z ws v same t n c h.1)
has_content z ws v same t rows n c (inr h) =
    let k = t.known (h.0, n) h.1 in
    let row = rows.each k.1.0 k.1.1 k.1.2 in
    let made = subst (λ (y : Ask × ℕ). IsMadeOf z y.0 (content z ws y.1)) (λ i. (k.1.4 i, k.1.3 i)) row.made_of in
    (subst (Published z ws) k.1.3 row.number, subst (λ (s : Setting). OnlyMadeOf s h.0 c) same h.2 (content z ws n) made)

module _ (z : Setting) (ws : List ℕ) (views : List View) (l : Lawful z ws views) (id : ℕ) (v : View) (at : get_elem? views id ≡ some v) (seat : 1 ≤ v.seats) where
  mine : IsInUse z ws v
  mine = in_use z ws v (l.views_fit id v at) seat

  pub row_tells : (x : ℕ) (a : Ask) → IsKey x → HeldKey v x a → (q : ℕ) → q < z.rows → Tells v x a (row_at z q) (slice_index ws (row_at z q))
  row_tells x a key held q inside n p known place walked =
      let k = mine.true_now.known (a, n) known in
      let r = k.1.0 in
      let ne = k.1.2 in
      let row = l.transitions.each r k.1.1 ne in
      let keys : key_of (slice_index ws (row_at z r)) ≡ x = key_injective z ws l.states (key_of (slice_index ws (row_at z r))) x row.kids (held_kids z ws v mine.setting mine.true_now l.transitions x a held) row.lawful_key key
      (k.1.4 ∙ sym (held_ask z ws v mine.setting mine.true_now x a held)) in
      let same_place : p ≡ q = (let e : row_at v.setting p ≡ row_at z p = ap (λ (y : Setting). row_at y p) mine.setting in omega arith) in
      let walk_here = subst (λ (y : Setting). WalkedRow record v { setting = y } x p) mine.setting walked in
      let h = key_home z x in
      let pl = subst (λ y. (d : ℕ) × (d < z.rows) × (r ≡ walk z.rows (key_home z y) d) × NoGap ws (row_at z 0) z.rows (key_home z y) d) keys row.place in
      let d = walk_here.0 in
      let here : q ≡ walk z.rows h d = sym same_place ∙ walk_here.2 in (
        (λ free. dite (dec_lt pl.0 d)
            (λ before.
            let o = walk_here.3 pl.0 before in
            let t = mine.true_now.places (row_at z (walk z.rows h pl.0), o.0) o.1 in
            o.2 (ap key_of (sym (ap (λ k. slice_index ws (row_at z k)) pl.2 ∙ t.3)) ∙ keys))
            (λ no. dite (dec_lt d pl.0)
            (λ after.
            let spot : row_at z 0 + walk z.rows h d ≡ row_at z (walk z.rows h d) = omega arith in
            pl.3 d after (ap (slice_index ws) spot ∙ (ap (λ k. slice_index ws (row_at z k)) (sym here) ∙ free)))
            (λ neither.
            let even : pl.0 ≡ d = omega arith in
            let one : r ≡ q = pl.2 ∙ (ap (walk z.rows h) even ∙ sym here) in
            ne (ap (λ k. slice_index ws (row_at z k)) one ∙ free)))),
        (λ e. (
            let ne' : slice_index ws (row_at z q) ≢ 0 = λ f. (let big = key.0 in let g : key_of 0 ≡ x = ap key_of (sym f) ∙ e in no_key x g key.0) in
            let one : r ≡ q = l.transitions.differ r q k.1.1 inside ne ne' (keys ∙ sym e) in
            ap (λ k. number_of (slice_index ws (row_at z k))) (sym one) ∙ k.1.3)),
      )

  pub state_tells : (place : ℕ) → TellsStates v place (slice_index ws place)
  state_tells place c n q has spot walked free =
      let there = has_content z ws v mine.setting mine.true_now l.transitions n c has in
      let p = there.0 in
      let same : content z ws n ≡ c = there.1 in
      let pl = subst (λ e. (d : ℕ) × (d < 2 * z.states) × (p.0 ≡ walk (2 * z.states) (content_home z e) d) × NoGap ws 1 (2 * z.states) (content_home z e) d) same (l.states.each p.0 n p.1 p.2).place in
      let walk_here = subst (λ (y : Setting). WalkedStates record v { setting = y } c q) mine.setting walked in
      let h = content_home z c in
      let d = walk_here.0 in
      dite (dec_lt pl.0 d)
      (λ before.
      let o = walk_here.3 pl.0 before in
      let t = mine.true_now.places (intern_at (walk (2 * z.states) h pl.0), o.0 + 1) o.3 in
      let word : n + 1 ≡ o.0 + 1 = sym p.2 ∙ (ap (λ k. slice_index ws (intern_at k)) pl.2 ∙ t.3) in
      let one : o.0 ≡ n = omega arith in
      let e = mine.true_now.contents (o.0, o.1, o.2) o.4 in
      o.5 (sym e.2 ∙ (ap (λ k. slice_index ws (content_at z k o.1)) one ∙ ((let k : content_at z n o.1 ≡ content_at z n 0 + o.1 = omega arith in ap (slice_index ws) k) ∙ (sym (read_at ws (content_at z n 0) z.width o.1 e.1) ∙ ap (λ k. slice_index k o.1) same)))))
      (λ no. dite (dec_lt d pl.0)
      (λ after. pl.3 d after (ap (slice_index ws) (sym (spot ∙ ap intern_at walk_here.2)) ∙ free))
      (λ neither.
      let even : pl.0 ≡ d = omega arith in
      let there : q ≡ p.0 = walk_here.2 ∙ (ap (walk (2 * z.states) h) (sym even) ∙ sym pl.2) in
      let full : slice_index ws place ≡ n + 1 = ap (slice_index ws) (spot ∙ ap intern_at there) ∙ p.2 in
      omega arith))

  all_used : (b n : ℕ) → ((i : ℕ) → i < n → slice_index ws (b + i) ≢ 0) → weigh used (read ws b n) ≡ n
  all_used b zero h = refl
  all_used b (suc n) h =
      let a : used (slice_index ws b) ≡ 1 = ap (λ c. cond c 0 1) (ne_eqb (slice_index ws b) 0 (λ e. h 0 (omega arith) (ap (slice_index ws) (omega arith) ∙ e))) in
      let r = all_used (b + 1) n (λ i lt e. h (suc i) (omega arith) (ap (slice_index ws) (omega arith) ∙ e)) in
      omega arith

  pub not_all : (place : ℕ) → NotAll v place (slice_index ws place)
  not_all place ne some_state held =
      let st : v.setting.states ≡ z.states = ap (λ (y : Setting). y.states) mine.setting in
      let a = all_used 1 (2 * z.states) (λ i lt e. ⊎_elim
      (λ (s : intern_at i ≡ place). ne (ap (slice_index ws) (sym s) ∙ e))
      (λ (s : (w : ℕ) × In (intern_at i, w) v.places). let t = mine.true_now.places (intern_at i, s.0) s.1 in t.2 (sym t.3 ∙ e))
      (held i (omega arith))) in
      let room = l.counts.room in
      let p : published z ws ≡ 2 * z.states = a in
      absurd (omega arith)

module _ (z : Setting) (ws : List ℕ) (views : List View) (l : Lawful z ws views) (id : ℕ) (v : View) (at : get_elem? views id ≡ some v) (seat : 1 ≤ v.seats) where
  pub found_below : (place : ℕ) → 1 ≤ place → Below v place (slice_index ws place)
  found_below place lo hi =
      let u = in_use z ws v (l.views_fit id v at) seat in
      let st : v.setting.states ≡ z.states = ap (λ (y : Setting). y.states) u.setting in
      dite (ℕ_discrete (slice_index ws place) 0)
      (λ e. omega arith)
      (λ ne.
      let p : ℕ = place - 1 in
      let n : ℕ = slice_index ws place - 1 in
      let spot : intern_at p ≡ place = omega arith in
      let e : slice_index ws (intern_at p) ≡ n + 1 = ap (slice_index ws) spot ∙ (let k : slice_index ws place ≡ n + 1 = omega arith in k) in
      let b = (l.states.each p n (omega arith) e).below in
      omega arith)

-- a content is that of one published number
one_number : (z : Setting) (ws : List ℕ) (v : View) → v.setting ≡ z → IsTrueOf z ws v → Transitions z ws → States z ws → OneNumber v
one_number z ws v same t rows states m n c a b =
    let p = has_content z ws v same t rows m c a in
    let q = has_content z ws v same t rows n c b in
    number_injective z ws states m n p.0 q.0 (p.1 ∙ sym q.1)

module _ (z : Setting) where
  -- the load of an intern word, and of a transition word that has another key or none
  -- the load of a content word
  pub reads : (slots id : ℕ) (m : Me (Unit {0}) View) (asks : List Ask) (n i : ℕ) → i < z.width → HeldNumber m.0 n → 1 ≤ m.0.seats
      → Allows (Holds z) slots id m (content_at z n i) (λ x. x) (λ found w. (w.0 ≡ read_entry m.0 asks (content_at z n i) n i found) × (w.1 ≡ m.1) × OneContent w.0 × OneNumber w.0)
  reads slots id m asks n i lt held seat s l homes at fits =
      let v = m.0 in
      let ws = s.words in
      let place = content_at z n i in
      let found = slice_index ws place in
      let u = in_use z ws v (l.views_fit id v at) seat in
      let w = read_entry v asks place n i found in
      let there = held_published z ws v u.setting u.true_now l.transitions n held in
      let truth : IsTrueOf z ws w = record {
        places = u.true_now.places;
        contents = λ e h. ⊎_elim (λ (k : In e v.contents). u.true_now.contents e k)
            (λ (k : In e ((n, i, found) ∷ [])). subst (λ (e : ℕ × ℕ × ℕ). Published z ws e.0 × (e.1 < z.width) × (slice_index ws (content_at z e.0 e.1) ≡ e.2)) (in_one e (n, i, found) k) (there, lt, refl))
            (in_split e v.contents ((n, i, found) ∷ []) h);
        known = λ e h. (let r = u.true_now.known e h in (in_front e.0 v.asked asks r.0, r.1));
      } in (
        w,
        keeps,
        tt,
        subst (λ us. Lawful z us (set s.views id w)) (sym (set_same ws place found refl))
            (quiet z ws s.views l id v w at (λ a h. in_front a v.asked asks h) (λ e h. h) refl (same_counts v w refl refl refl refl refl refl)
            record {
              setting = u.setting;
              true_now = truth;
              own = u.own;
              seated = seat;
              spare = u.spare;
              few = u.few;
              full = λ h r. full_more z ws v asks w (λ a k. in_front a v.asked asks k) (u.full h r);
            }),
        (refl, refl, one_content z ws w truth, one_number z ws w u.setting truth l.transitions l.states),
      )

  pub looks : (slots id : ℕ) (m : Me (Unit {0}) View) (asks : List Ask) (i : ℕ) → 1 ≤ i → i < row_at z z.rows → 1 ≤ m.0.seats
      → Allows (Holds z) slots id m i (λ n. n) (λ found w. (w.0 ≡ seen m.0 asks i found) × (w.1 ≡ m.1) × NotAll m.0 i found × Below m.0 i found × TellsStates m.0 i found)
  looks slots id m asks i lo hi seat s l homes at fits = (
    seen m.0 asks i (slice_index s.words i),
    keeps,
    tt,
    subst (λ ws. Lawful z ws (set s.views id (seen m.0 asks i (slice_index s.words i)))) (sym (set_same s.words i (slice_index s.words i) refl)) (seen_lawful z s.words s.views l id m.0 at seat asks i lo hi),
    (refl, refl, not_all z s.words s.views l id m.0 at seat i, found_below z s.words s.views l id m.0 at seat i lo, state_tells z s.words s.views l id m.0 at seat i),
  )

  -- the load of a transition word
  pub looks_row : (slots id : ℕ) (m : Me (Unit {0}) View) (asks : List Ask) (x : ℕ) (a : Ask) → IsKey x → HeldKey m.0 x a → In a (m.0.asked ++ asks) → (q : ℕ) → q < z.rows → 1 ≤ m.0.seats
      → Allows (Holds z) slots id m (row_at z q) (λ n. n)
      (λ found w. (c : List ℕ) × (w.0 ≡ looked m.0 asks x a c (row_at z q) found) × (w.1 ≡ m.1) × Learns m.0 x a c found × OneContent w.0 × Tells m.0 x a (row_at z q) found × Stays m.0 a w.0 × Marks m.0 x found w.0)
  looks_row slots id m asks x a key held asked q inside seat s l homes at fits =
      let found = slice_index s.words (row_at z q) in
      let c = content z s.words (number_of found) in
      let w = looked m.0 asks x a c (row_at z q) found in (
        w,
        keeps,
        tt,
        subst (λ ws. Lawful z ws (set s.views id w)) (sym (set_same s.words (row_at z q) found refl))
            (looked_lawful z s.words s.views l id m.0 at seat asks x a key held asked q inside),
        (c, refl, refl, looked_learns z s.words s.views l id m.0 at seat asks x a key held asked q inside, looked_one z s.words s.views l id m.0 at seat asks x a key held asked q inside, row_tells z s.words s.views l id m.0 at seat x a key held q inside, looked_stays z s.words s.views l id m.0 at seat asks x a key held asked q inside, looked_marks z s.words s.views l id m.0 at seat asks x a key held asked q inside),
      )

stood_seats : (b : Bool) (v : View) (asks : List Ask) (place n found : ℕ) → 1 ≤ v.seats → 1 ≤ (stood_as b v asks place n found).seats
stood_seats true v asks place n found h = h
stood_seats false v asks place n found h = h

-- the exchange of an intern word
pub stands : (z : Setting) (slots id : ℕ) (m : Me (Unit {0}) View) (asks : List Ask) (n : ℕ) → 1 ≤ m.0.seats → m.0.own ≡ Some n → length m.0.draft ≡ z.width
    → (a : Ask) → In a (m.0.asked ++ asks) → IsMadeOf z a m.0.draft → (p : ℕ) → p < 2 * z.states → WalkedStates m.0 m.0.draft p
    → Allows (Holds z) slots id m (intern_at p) (λ k. either (k == 0) (n + 1) k)
    (λ found w. (w.0 ≡ stood_as (found == 0) m.0 asks (intern_at p) n found) × (w.1 ≡ m.1) × NotAll m.0 (intern_at p) found × Below m.0 (intern_at p) found × OneContent w.0)
stands z slots id m asks n seat own whole a asked is_made p inside walked s l homes at fits =
    let found = slice_index s.words (intern_at p) in
    let w = stood_as (found == 0) m.0 asks (intern_at p) n found in
    let kept = stood_found z s.words s.views l id m.0 at seat asks n own whole a asked is_made p inside walked (ℕ_discrete found 0) in (
      w,
      keeps,
      tt,
      kept,
      (refl, refl, not_all z s.words s.views l id m.0 at seat (intern_at p), found_below z s.words s.views l id m.0 at seat (intern_at p) (omega arith), lawful_one z (set s.words (intern_at p) (either (found == 0) (n + 1) found)) s.views id m.0 w at (stood_seats (found == 0) m.0 asks (intern_at p) n found seat) kept),
    )
