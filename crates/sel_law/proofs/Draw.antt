-- Steps that change the own view alone, and the draw of a number.
use Rattle.std.proofs.Common.{◌≡◌, ◌≢◌, ◌⊎◌, ℕ, zero, suc, ◌+◌, ◌*◌, ◌%◌, ◌^◌, ◌<◌, ◌≤◌, Bool, true, false, nat_lt, List, [], ◌∷◌, ◌++◌, length, set, refl, sym, ap, ◌∙◌, subst, ⊎_elim, inl, inr, arith, Some, None}
use Rattle.std.specs.Prelude.{slice_index}
use Rattle.std.proofs.lemmas.Bool.Decides.{nat_tests}
use Rattle.std.proofs.lemmas.Bool.{ltb-true}
use mathlib.Core.Option.{some}
use mathlib.Core.Logic.{dite}
use native.Mathlib.Decide.{dec_lt}
use lib.ListN.{get_elem?}
use Rattle.atomic_table.specs.Table.{State, Me, keeps, Allows}
use Rattle.atomic_table.proofs.Lists.{at_snoc, at_set}
use Rattle.sel_law.specs.declared.Setting.{Setting}
use Rattle.sel_law.specs.declared.Ask.{Ask}
use Rattle.sel_law.specs.declared.View.{View}
use Rattle.sel_law.specs.Words.{weigh, In, used, intern_at, row_at, content_at, word_count, content, Published, published}
use Rattle.sel_law.specs.Law.{spent, own_count, IsTrueOf, Owns, Full, IsInUse, Counts, Lawful, owned, dropped, past}
use Rattle.sel_law.specs.Kinds.{drew_as, drew}
use Rattle.sel_law.proofs.Base.{weigh_set, weigh_le, in_front, index_set, index_else, read_same}
use Rattle.sel_law.proofs.Grow.{Grows, transitions_same, states_same, fits_grows, asked_grows, asked_views, some_set}

abbrev pub Fits : Setting → List ℕ → View → Type 0
Fits z ws v = (v ≡ spent) ⊎ IsInUse z ws v

abbrev pub AllFit : Setting → List ℕ → List View → Type 0
AllFit z ws views = (i : ℕ) (v : View) → get_elem? views i ≡ some v → Fits z ws v

-- no number is owned twice
abbrev pub Alone : List View → Type 0
Alone views = (i j : ℕ) (v w : View) (n : ℕ) → get_elem? views i ≡ some v → get_elem? views j ≡ some w → v.own ≡ Some n → w.own ≡ Some n → i ≡ j

-- every view other than the id-th fits, and so does w
pub fit_set : (z : Setting) (ws : List ℕ) (views : List View) (id : ℕ) (w : View) → ((j : ℕ) (u : View) → j ≢ id → get_elem? views j ≡ some u → Fits z ws u) → Fits z ws w → AllFit z ws (set views id w)
fit_set z ws views id w all mine j u e = ⊎_elim (λ (t : (j ≡ id) × (w ≡ u)). subst (Fits z ws) t.1 mine) (λ (t : (j ≢ id) × (get_elem? views j ≡ some u)). all j u t.0 t.1) (at_set views id j w u e)

pub fit_snoc : (z : Setting) (ws : List ℕ) (views : List View) (w : View) → AllFit z ws views → Fits z ws w → AllFit z ws (views ++ w ∷ [])
fit_snoc z ws views w all mine j u e = ⊎_elim (λ (t : get_elem? views j ≡ some u). all j u t) (λ (t : w ≡ u). subst (Fits z ws) t mine) (at_snoc views w u j e)

-- a view with a seat is not spent
pub in_use : (z : Setting) (ws : List ℕ) (v : View) → Fits z ws v → 1 ≤ v.seats → IsInUse z ws v
in_use z ws v (inl e) s = let a : v.seats ≡ 0 = ap (λ (h : View). h.seats) e in absurd (omega arith)
in_use z ws v (inr u) s = u

pub alone_set : (views : List View) (id : ℕ) (w : View) → Alone views → ((n : ℕ) → w.own ≡ Some n → (j : ℕ) (u : View) → j ≢ id → get_elem? views j ≡ some u → u.own ≢ Some n) → Alone (set views id w)
alone_set views id w alone mine i j u v n ei ej ou ov = ⊎_elim
    (λ (s : (i ≡ id) × (w ≡ u)). ⊎_elim
    (λ (t : (j ≡ id) × (w ≡ v)). s.0 ∙ sym t.0)
    (λ (t : (j ≢ id) × (get_elem? views j ≡ some v)). absurd (mine n (ap (λ (h : View). h.own) s.1 ∙ ou) j v t.0 t.1 ov))
    (at_set views id j w v ej))
    (λ (s : (i ≢ id) × (get_elem? views i ≡ some u)). ⊎_elim
    (λ (t : (j ≡ id) × (w ≡ v)). absurd (mine n (ap (λ (h : View). h.own) t.1 ∙ ov) i u s.0 s.1 ou))
    (λ (t : (j ≢ id) × (get_elem? views j ≡ some v)). alone i j u v n s.1 t.1 ou ov)
    (at_set views id j w v ej))
    (at_set views id i w u ei)

-- what a view owned, no other view owns
pub apart : (views : List View) (id : ℕ) (v : View) → get_elem? views id ≡ some v → Alone views → (n : ℕ) → v.own ≡ Some n → (j : ℕ) (u : View) → j ≢ id → get_elem? views j ≡ some u → u.own ≢ Some n
apart views id v at alone n o j u ne here ou = ne (alone j id u v n here at ou o)

-- what a step of the own view has to keep the same
pub record SameCounts (v w : View) : Type 0 where
  pub own : own_count w.own ≡ own_count v.own
  pub dropped : w.dropped ≡ v.dropped
  pub past : w.past ≡ v.past
  pub seats : w.seats + w.rest ≡ v.seats + v.rest
  pub used_up : w.used_up ≡ v.used_up

pub counts_quiet : (z : Setting) (ws : List ℕ) (views : List View) (id : ℕ) (v w : View) → get_elem? views id ≡ some v → SameCounts v w → Counts z ws views → Counts z ws (set views id w)
counts_quiet z ws views id v w at same c =
    let a = weigh_set (λ (u : View). own_count u.own) views id v w at in
    let b = weigh_set (λ (u : View). u.dropped) views id v w at in
    let d = weigh_set (λ (u : View). u.past) views id v w at in
    let e = weigh_set (λ (u : View). u.seats + u.rest) views id v w at in
    let s0 = same.own in let s1 = same.dropped in let s2 = same.past in let s3 = same.seats in
    let c0 = c.counter in let c1 = c.room in let c3 = c.seats in
    let more : past (set views id w) ≡ past views = omega arith in
    let c2 : 1 ≤ past views → published z ws + owned views + dropped views ≡ z.states = c.filled in
    record {
      counter = omega arith;
      room = omega arith;
      filled = λ h. (let f = c2 (omega arith) in omega arith);
      marked = λ i u e m. ⊎_elim
          (λ (t : (i ≡ id) × (w ≡ u)). let f = c.marked id v at (sym same.used_up ∙ ap (λ (x : View). x.used_up) t.1 ∙ m) in omega arith)
          (λ (t : (i ≢ id) × (get_elem? views i ≡ some u)). let f = c.marked i u t.1 m in omega arith)
          (at_set views id i w u e);
      seats = omega arith;
    }

-- a step that leaves the words alone, after which the own view knows more
pub quiet : (z : Setting) (ws : List ℕ) (views : List View) → Lawful z ws views → (id : ℕ) (v w : View) → get_elem? views id ≡ some v
    → ((a : Ask) → In a v.asked → In a w.asked) → ((e : ℕ × ℕ) → In e v.places → In e w.places) → w.own ≡ v.own → SameCounts v w → IsInUse z ws w → Lawful z ws (set views id w)
quiet z ws views l id v w at asks places own same usage = record {
  small = l.small;
  size = l.size;
  transitions = l.transitions;
  states = l.states;
  views_fit = fit_set z ws views id w (λ j u ne e. l.views_fit j u e) (inr usage);
  own_apart = alone_set views id w l.own_apart (λ n o. apart views id v at l.own_apart n (sym own ∙ o));
  counts = counts_quiet z ws views id v w at same l.counts;
  asked = asked_views z ws views (set views id w) l.asked
      (λ a. some_set views id v w (λ u. In a u.asked) at (asks a))
      (λ e. some_set views id v w (λ u. In e u.places) at (places e));
}

past_fits : (z : Setting) (ws : List ℕ) (v : View) → Fits z ws v → v.past ≤ v.seats + v.rest
past_fits z ws v (inl e) = let a : v.past ≡ 0 = ap (λ (h : View). h.past) e in omega arith
past_fits z ws v (inr u) = go v.used_up refl
  where
    go : (b : Bool) → v.used_up ≡ b → v.past ≤ v.seats + v.rest
    go true e = let a = u.few e in omega arith
    go false e = let a = u.spare e in omega arith

pub counter_small : (z : Setting) (ws : List ℕ) (views : List View) → Lawful z ws views → slice_index ws 0 ≤ z.states + z.workers
counter_small z ws views l =
    let a = weigh_le (λ (v : View). v.past) (λ (v : View). v.seats + v.rest) views (λ i v e. past_fits z ws v (l.views_fit i v e)) in
    let b = l.counts.counter in let c = l.counts.room in let d = l.counts.seats in
    omega arith

module _ (z : Setting) (ws : List ℕ) (m : ℕ) where
  -- the word 0 is no other word
  else : (j : ℕ) → 1 ≤ j → slice_index (set ws 0 m) j ≡ slice_index ws j
  else j h = index_else ws 0 j m (λ e. absurd (omega arith))

  pub drawn_content : (n : ℕ) → content z (set ws 0 m) n ≡ content z ws n
  drawn_content n = read_same ws (set ws 0 m) (content_at z n 0) z.width (λ i lt. else (content_at z n 0 + i) (omega arith))

  pub drawn_grows : length ws ≡ word_count z → slice_index ws 0 ≤ m → Grows z ws (set ws 0 m)
  drawn_grows size more = let here = index_set ws 0 m (omega arith) in record {
    counter = omega arith;
    kept = λ j lo hi ne. else j lo;
    content_kept = λ n h. drawn_content n;
  }

  pub drawn_old : (n : ℕ) → Published z (set ws 0 m) n → Published z ws n
  drawn_old n (p, lt, e) = (p, lt, sym (else (intern_at p) (omega arith)) ∙ e)

  pub drawn_published : published z (set ws 0 m) ≡ published z ws
  drawn_published = ap (weigh used) (read_same ws (set ws 0 m) 1 (2 * z.states) (λ i lt. else (1 + i) (omega arith)))

pub length_set : (ws : List ℕ) (i x : ℕ) → length (set ws i x) ≡ length ws
length_set [] i x = refl
length_set (w ∷ ws) zero x = refl
length_set (w ∷ ws) (suc i) x = ap suc (length_set ws i x)

module _ (z : Setting) (ws : List ℕ) (views : List View) (l : Lawful z ws views) (id : ℕ) (v : View) (at : get_elem? views id ≡ some v)
    (seat : 1 ≤ v.seats) (none : v.own ≡ None) (unmarked : v.used_up ≡ false) (asks : List Ask) (m : ℕ) (is : m ≡ slice_index ws 0 + 1) where
  abbrev us : List ℕ
  us = set ws 0 m

  grows : Grows z ws us
  grows = drawn_grows z ws m l.size (omega arith)

  mine : IsInUse z ws v
  mine = in_use z ws v (l.views_fit id v at) seat

  other_fits : (j : ℕ) (u : View) → get_elem? views j ≡ some u → Fits z us u
  other_fits j u e = ⊎_elim (λ (s : u ≡ spent). inl s)
      (λ (s : IsInUse z ws u). inr (fits_grows z ws us grows l.transitions u s (λ n o. ((λ p. (s.own n o).hidden (drawn_old z ws m n p)), (λ i lt. index_else ws 0 (content_at z n i) m (λ e. absurd (omega arith)))))))
      (l.views_fit j u e)

  my_truth : IsTrueOf z us v
  my_truth = (elim_use (other_fits id v at)).true_now
    where
      elim_use : Fits z us v → IsInUse z us v
      elim_use f = in_use z us v f seat

  count_now : slice_index us 0 ≡ slice_index ws 0 + 1
  count_now = let s = l.size in index_set ws 0 m (omega arith) ∙ is

  same_published : published z us ≡ published z ws
  same_published = drawn_published z ws m

  own_none : own_count v.own ≡ 0
  own_none = ap own_count none

  no_own : (n : ℕ) → None ≡ Some n → ⊥
  no_own n e = cc

  truth_more : (w : View) → w.places ≡ v.places → w.contents ≡ v.contents → w.known ≡ v.known → ((a : Ask) → In a v.asked → In a w.asked) → IsTrueOf z us v → IsTrueOf z us w
  truth_more w p c k asks t = record {
    places = λ e h. t.places e (subst (In e) p h);
    contents = λ e h. t.contents e (subst (In e) c h);
    known = λ e h. (let a = t.known e (subst (In e) k h) in (asks e.0 a.0, a.1));
  }

  rest_lawful : (w : View) → ((a : Ask) → In a v.asked → In a w.asked) → ((e : ℕ × ℕ) → In e v.places → In e w.places)
      → ((n : ℕ) → w.own ≡ Some n → (j : ℕ) (u : View) → j ≢ id → get_elem? views j ≡ some u → u.own ≢ Some n)
      → Counts z us (set views id w) → IsInUse z us w → Lawful z us (set views id w)
  rest_lawful w asks places own counts usage = record {
    small = l.small;
    size = length_set ws 0 m ∙ l.size;
    transitions = transitions_same z ws us grows l.transitions (λ q lt. index_else ws 0 (row_at z q) m (λ e. absurd (omega arith)));
    states = states_same z ws us grows l.states (λ p lt. index_else ws 0 (intern_at p) m (λ e. absurd (omega arith)));
    views_fit = fit_set z us views id w (λ j u ne e. other_fits j u e) (inr usage);
    own_apart = alone_set views id w l.own_apart own;
    counts = counts;
    asked = asked_views z us views (set views id w)
        (asked_grows z ws us grows l.transitions views l.asked
        (λ n h. inl (drawn_old z ws m n h))
        (λ q lt ne. inl (index_else ws 0 (row_at z q) m (λ e. absurd (omega arith))))
        (λ j lo hi ne. inl (index_else ws 0 j m (λ e. absurd (omega arith)))))
        (λ a. some_set views id v w (λ u. In a u.asked) at (asks a))
        (λ e. some_set views id v w (λ u. In e u.places) at (places e));
  }

  drew_lawful : (b : Bool) → nat_lt (slice_index ws 0) v.setting.states ≡ b → Lawful z us (set views id (drew_as b v asks (slice_index ws 0)))
  drew_lawful true e =
      let found = slice_index ws 0 in
      let w = drew_as true v asks found in
      let small : found < v.setting.states = ltb-true found v.setting.states e in
      let small' : found < z.states = subst (λ (y : Setting). found < y.states) mine.setting small in
      let a = weigh_set (λ (u : View). own_count u.own) views id v w at in
      let b = weigh_set (λ (u : View). u.dropped) views id v w at in
      let d = weigh_set (λ (u : View). u.past) views id v w at in
      let f = weigh_set (λ (u : View). u.seats + u.rest) views id v w at in
      let c = l.counts in let c0 = c.counter in let c1 = c.room in let c3 = c.seats in
      let c2 : 1 ≤ past views → published z ws + owned views + dropped views ≡ z.states = c.filled in
      let p = same_published in let k = count_now in let o = own_none in
      let nothing_past : past views ≡ 0 = dite (dec_lt 0 (past views)) (λ h. let x = c2 h in absurd (omega arith)) (λ no. omega arith) in
      rest_lawful w (λ a h. in_front a v.asked asks h) (λ e h. h)
      (λ n h j u ne here ou.
      let uses = in_use_of j u here n ou in
      let n_is : n ≡ found = sym (some_inj found n h) in
      let lt = (uses.own n ou).drawn in absurd (omega arith))
      record {
        counter = omega arith;
        room = omega arith;
        filled = λ h. absurd (omega arith);
        marked = λ i u e m. ⊎_elim
            (λ (t : (i ≡ id) × (w ≡ u)). let g = c.marked id v at (ap (λ (x : View). x.used_up) t.1 ∙ m) in omega arith)
            (λ (t : (i ≢ id) × (get_elem? views i ≡ some u)). let g = c.marked i u t.1 m in omega arith)
            (at_set views id i w u e);
        seats = omega arith;
      }
      record {
        setting = mine.setting;
        true_now = truth_more w refl refl refl (λ a h. in_front a v.asked asks h) my_truth;
        own = λ n h. subst (Owns z us []) (some_inj found n h) (owns_new found small' (omega arith) refl);
        seated = seat;
        spare = mine.spare;
        few = λ h. absurd (true_false (sym h ∙ unmarked));
        full = λ h r. full_of w refl (λ a h. in_front a v.asked asks h) h r;
      }
    where
      some_inj : (x y : ℕ) → Some x ≡ Some y → x ≡ y
      some_inj x y e = cc

      true_false : true ≡ false → ⊥
      true_false e = cc

      in_use_of : (j : ℕ) (u : View) → get_elem? views j ≡ some u → (n : ℕ) → u.own ≡ Some n → IsInUse z ws u
      in_use_of j u here n ou = ⊎_elim (λ (s : u ≡ spent). absurd (no_own n (sym (ap (λ (x : View). x.own) s) ∙ ou))) (λ (s : IsInUse z ws u). s) (l.views_fit j u here)

      owns_new : (n : ℕ) → n < z.states → n < slice_index us 0 → n ≡ slice_index ws 0 → Owns z us [] n
      owns_new n lt more e = record {
        below = lt;
        drawn = more;
        hidden = λ p. (let old = drawn_old z ws m n p in let d = (l.states.each old.0 n old.1 old.2).drawn in absurd (omega arith));
        short = omega arith;
        draft_is = λ i h. absurd (omega arith);
      }

      full_of : (w : View) → w.row_full ≡ v.row_full → ((a : Ask) → In a v.asked → In a w.asked) → w.row_full ≡ true → z.rows ≢ 0 → Full z us w
      full_of w e asks h r = let f = (in_use z us v (other_fits id v at) seat).full (sym e ∙ h) r in (f.0, (f.1.0, asks f.1.0 f.1.1, f.1.2))
  drew_lawful false e =
      let found = slice_index ws 0 in
      let w = drew_as false v asks found in
      let big : z.states ≤ found = subst (λ (y : Setting). y.states ≤ found) mine.setting (not_below found v.setting.states e) in
      let a = weigh_set (λ (u : View). own_count u.own) views id v w at in
      let b = weigh_set (λ (u : View). u.dropped) views id v w at in
      let d = weigh_set (λ (u : View). u.past) views id v w at in
      let f = weigh_set (λ (u : View). u.seats + u.rest) views id v w at in
      let c = l.counts in let c0 = c.counter in let c1 = c.room in let c3 = c.seats in
      let c2 : 1 ≤ past views → published z ws + owned views + dropped views ≡ z.states = c.filled in
      let p = same_published in let k = count_now in let o = own_none in
      let some_past : 1 ≤ past (set views id w) = omega arith in
      let whole : published z ws + owned views + dropped views ≡ z.states = dite (dec_lt 0 (past views)) (λ h. c2 h) (λ no. omega arith) in
      rest_lawful w (λ a h. in_front a v.asked asks h) (λ e h. h)
      (λ n h. absurd (no_own n (sym none ∙ h)))
      record {
        counter = omega arith;
        room = omega arith;
        filled = λ h. omega arith;
        marked = λ i u e m. some_past;
        seats = omega arith;
      }
      record {
        setting = mine.setting;
        true_now = truth_more w refl refl refl (λ a h. in_front a v.asked asks h) my_truth;
        own = λ n h. absurd (no_own n (sym none ∙ h));
        seated = seat;
        spare = λ h. absurd (true_false h);
        few = λ h. (let s = mine.spare unmarked in omega arith);
        full = λ h r. (let f = (in_use z us v (other_fits id v at) seat).full h r in (f.0, (f.1.0, in_front f.1.0 v.asked asks f.1.1, f.1.2)));
      }
    where
      true_false : true ≡ false → ⊥
      true_false e = cc

      not_below : (x y : ℕ) → nat_lt x y ≡ false → y ≤ x
      not_below x y e = grind (arith, nat_tests)

module _ (z : Setting) where
  abbrev pub Holds : State (Unit {0}) View → Type 0
  Holds s = Lawful z s.words s.views

  pub draws : (slots id : ℕ) (m : Me (Unit {0}) View) (asks : List Ask) → 1 ≤ m.0.seats → m.0.own ≡ None → m.0.used_up ≡ false
      → Allows Holds slots id m 0 (λ n. (n + 1) % 2 ^ 64) (λ found w. (w.0 ≡ drew m.0 asks found) × (w.1 ≡ m.1))
  draws slots id m asks seat none unmarked s l homes at fits =
      let n = slice_index s.words 0 in
      let small = counter_small z s.words s.views l in
      let room = l.small.states in let crew = l.small.workers in
      let exact : (n + 1) % 2 ^ 64 ≡ n + 1 = grind arith in (
        drew m.0 asks n,
        keeps,
        tt,
        drew_lawful z s.words s.views l id m.0 at seat none unmarked asks ((n + 1) % 2 ^ 64) exact (nat_lt n m.0.setting.states) refl,
        (refl, refl),
      )
