-- Loads of intern words and of content words, and stores of content words.
use Rattle.std.proofs.Common.{◌≡◌, ◌≢◌, ◌⊎◌, ℕ, zero, suc, ◌+◌, ◌*◌, ◌<◌, ◌≤◌, Bool, true, false, cond, ◌==◌, List, [], ◌∷◌, ◌++◌, length, set, take, refl, sym, ap, ◌∙◌, subst, ⊎_elim, inl, inr, arith, Some, eq-eqb, ne_eqb}
use Rattle.std.specs.Prelude.{slice_index}
use mathlib.Core.Option.{some}
use mathlib.Core.Logic.{dite}
use native.Mathlib.Decide.{dec_lt, ℕ_discrete}
use lib.ListN.{get_elem?}
use Rattle.atomic_table.specs.Table.{Me, keeps, Allows}
use Rattle.sel_law.specs.declared.Setting.{Setting}
use Rattle.sel_law.specs.declared.Ask.{Ask}
use Rattle.sel_law.specs.declared.View.{View}
use Rattle.sel_law.specs.Words.{weigh, In, used, intern_at, row_at, content_at, word_count, Published, published}
use Rattle.sel_law.specs.Law.{spent, own_count, IsTrueOf, Transitions, Owns, Full, IsInUse, Lawful}
use Rattle.sel_law.specs.Kinds.{seen, drafted, HeldNumber, OneContent}
use Rattle.sel_law.proofs.Base.{in_front, in_split, in_one, index_set, index_else, read_same, stretches}
use Rattle.sel_law.proofs.Grow.{Grows, published_grows, transitions_same, states_same, fits_grows, asked_grows, asked_views, some_set}
use Rattle.sel_law.proofs.Draw.{Fits, fit_set, in_use, alone_set, apart, SameCounts, counts_quiet, quiet, Holds, length_set}

-- a place that was read, among those that are held after it
pub in_placed : (e : ℕ × ℕ) (ps : List (ℕ × ℕ)) (place found : ℕ) → In e (cond (found == 0) ps (ps ++ (place, found) ∷ [])) → In e ps ⊎ ((found ≢ 0) × ((place, found) ≡ e))
in_placed e ps place found h = dite (ℕ_discrete found 0)
    (λ z. inl (subst (λ b. In e (cond b ps (ps ++ (place, found) ∷ []))) (eq-eqb found 0 z) h))
    (λ n. ⊎_elim (λ (t : In e ps). inl t) (λ (t : In e ((place, found) ∷ [])). inr (n, in_one e (place, found) t))
    (in_split e ps ((place, found) ∷ []) (subst (λ b. In e (cond b ps (ps ++ (place, found) ∷ []))) (ne_eqb found 0 n) h)))

pub placed_in : (e : ℕ × ℕ) (ps : List (ℕ × ℕ)) (place found : ℕ) → In e ps → In e (cond (found == 0) ps (ps ++ (place, found) ∷ []))
placed_in e ps place found h = go (found == 0)
  where
    go : (b : Bool) → In e (cond b ps (ps ++ (place, found) ∷ []))
    go true = h
    go false = in_front e ps ((place, found) ∷ []) h

pub same_counts : (v w : View) → w.own ≡ v.own → w.dropped ≡ v.dropped → w.past ≡ v.past → w.seats ≡ v.seats → w.rest ≡ v.rest → w.used_up ≡ v.used_up → SameCounts v w
same_counts v w a b c d e f = record { own = ap own_count a; dropped = b; past = c; seats = omega arith; used_up = f }

pub full_more : (z : Setting) (ws : List ℕ) (v : View) (asked : List Ask) (w : View) → ((a : Ask) → In a v.asked → In a w.asked) → Full z ws v → Full z ws w
full_more z ws v asked w more f = (f.0, (f.1.0, more f.1.0 f.1.1, f.1.2))

module _ (z : Setting) where
  pub seen_truth : (ws : List ℕ) (v : View) (asks : List Ask) (i : ℕ) → 1 ≤ i → i < row_at z z.rows → IsTrueOf z ws v → IsTrueOf z ws (seen v asks i (slice_index ws i))
  seen_truth ws v asks i lo hi t = record {
    places = λ e m. ⊎_elim (λ (h : In e v.places). t.places e h)
        (λ (h : (slice_index ws i ≢ 0) × ((i, slice_index ws i) ≡ e)). subst (λ (e : ℕ × ℕ). (1 ≤ e.0) × (e.0 < row_at z z.rows) × (e.1 ≢ 0) × (slice_index ws e.0 ≡ e.1)) h.1 (lo, hi, h.0, refl))
        (in_placed e v.places i (slice_index ws i) m);
    contents = t.contents;
    known = λ e m. (let r = t.known e m in (in_front e.0 v.asked asks r.0, r.1));
  }

  pub seen_lawful : (ws : List ℕ) (views : List View) → Lawful z ws views → (id : ℕ) (v : View) → get_elem? views id ≡ some v → 1 ≤ v.seats → (asks : List Ask) (i : ℕ) → 1 ≤ i → i < row_at z z.rows
      → Lawful z ws (set views id (seen v asks i (slice_index ws i)))
  seen_lawful ws views l id v at seat asks i lo hi =
      let u = in_use z ws v (l.views_fit id v at) seat in
      let w = seen v asks i (slice_index ws i) in
      quiet z ws views l id v w at (λ a h. in_front a v.asked asks h) (λ e h. placed_in e v.places i (slice_index ws i) h) refl (same_counts v w refl refl refl refl refl refl)
      record { setting = u.setting; true_now = seen_truth ws v asks i lo hi u.true_now; own = u.own; seated = seat; spare = u.spare; few = u.few; full = λ h r. full_more z ws v asks w (λ a k. in_front a v.asked asks k) (u.full h r) }

  pub held_published : (ws : List ℕ) (v : View) → v.setting ≡ z → IsTrueOf z ws v → Transitions z ws → (n : ℕ) → HeldNumber v n → Published z ws n
  held_published ws v same t rows n (inl (p, lt, h)) = (p, subst (λ (y : Setting). p < 2 * y.states) same lt, (t.places (intern_at p, n + 1) h).3)
  held_published ws v same t rows n (inr (a, h)) = let k = t.known (a, n) h in subst (Published z ws) k.1.3 (rows.each k.1.0 k.1.1 k.1.2).number

  -- what is true of the words is one
  pub one_content : (ws : List ℕ) (v : View) → IsTrueOf z ws v → OneContent v
  one_content ws v t n i w u h k = sym (t.contents (n, i, w) h).2 ∙ (t.contents (n, i, u) k).2

-- a draft that is cut off before the i-th word, which becomes x
pub drafted_length : (d : List ℕ) (i x : ℕ) → i ≤ length d → length (take i d ++ x ∷ []) ≡ i + 1
drafted_length d zero x h = omega arith
drafted_length [] (suc i) x h = absurd (omega arith)
drafted_length (y ∷ d) (suc i) x h = omega (arith, drafted_length d i x (omega arith))

pub drafted_at : (d : List ℕ) (i x : ℕ) → i ≤ length d → slice_index (take i d ++ x ∷ []) i ≡ x
drafted_at d zero x h = refl
drafted_at [] (suc i) x h = absurd (omega arith)
drafted_at (y ∷ d) (suc i) x h = drafted_at d i x (omega arith)

pub drafted_old : (d : List ℕ) (i x k : ℕ) → i ≤ length d → k < i → slice_index (take i d ++ x ∷ []) k ≡ slice_index d k
drafted_old d zero x k h lt = absurd (omega arith)
drafted_old [] (suc i) x k h lt = absurd (omega arith)
drafted_old (y ∷ d) (suc i) x zero h lt = refl
drafted_old (y ∷ d) (suc i) x (suc k) h lt = drafted_old d i x k (omega arith) (omega arith)

-- content words of different numbers, and different words of one
pub other_words : (z : Setting) (m n i j : ℕ) → m ≢ n → i < z.width → j < z.width → content_at z m i ≢ content_at z n j
other_words z m n i j ne hi hj e = dite (dec_lt m n)
    (λ h. let a = stretches m n z.width h in let x : ℕ = m * z.width in let y : ℕ = n * z.width in let a' : x + z.width ≤ y = a in let e' : 1 + 2 * z.states + z.rows + x + i ≡ 1 + 2 * z.states + z.rows + y + j = e in absurd (omega arith))
    (λ no. let a = stretches n m z.width (omega arith) in let x : ℕ = m * z.width in let y : ℕ = n * z.width in let a' : y + z.width ≤ x = a in let e' : 1 + 2 * z.states + z.rows + x + i ≡ 1 + 2 * z.states + z.rows + y + j = e in absurd (omega arith))

pub in_words : (z : Setting) (n i : ℕ) → n < z.states → i < z.width → content_at z n i < word_count z
in_words z n i hn hi = let a = stretches n z.states z.width hn in let x : ℕ = n * z.width in let y : ℕ = z.states * z.width in let a' : x + z.width ≤ y = a in let goal : 1 + 2 * z.states + z.rows + x + i < 1 + 2 * z.states + z.rows + y = omega arith in goal

some_inj : (x y : ℕ) → Some x ≡ Some y → x ≡ y
some_inj x y e = cc

module _ (z : Setting) (ws : List ℕ) (views : List View) (l : Lawful z ws views) (id : ℕ) (v : View) (at : get_elem? views id ≡ some v) (seat : 1 ≤ v.seats)
    (asks : List Ask) (n : ℕ) (own : v.own ≡ Some n) (i x : ℕ) (within : i < z.width) (next : i ≤ length v.draft) where
  abbrev place : ℕ
  place = content_at z n i

  abbrev us : List ℕ
  us = set ws place x

  abbrev w : View
  w = drafted v asks place i x

  mine : IsInUse z ws v
  mine = in_use z ws v (l.views_fit id v at) seat

  owns : Owns z ws v.draft n
  owns = mine.own n own

  -- the rows, and the words of each other number, stay
  low : (j : ℕ) → j < row_at z z.rows → slice_index us j ≡ slice_index ws j
  low j h = index_else ws place j x (λ e. absurd (omega arith))

  high : (m j : ℕ) → m ≢ n → j < z.width → slice_index us (content_at z m j) ≡ slice_index ws (content_at z m j)
  high m j ne h = index_else ws place (content_at z m j) x (other_words z m n j i ne h within)

  old : (m : ℕ) → Published z us m → Published z ws m
  old m (p, lt, e) = (p, lt, sym (low (intern_at p) (omega arith)) ∙ e)

  not_mine : (m : ℕ) → Published z ws m → m ≢ n
  not_mine m h e = owns.hidden (subst (Published z ws) e h)

  grows : Grows z ws us
  grows = record {
    counter = (let a = low 0 (omega arith) in omega arith);
    kept = λ j lo hi ne. low j hi;
    content_kept = λ m h. read_same ws us (content_at z m 0) z.width (λ k lt. (let e : content_at z m k ≡ content_at z m 0 + k = omega arith in subst (λ j. slice_index us j ≡ slice_index ws j) e (high m k (not_mine m h) lt)));
  }

  my_draft : Owns z us w.draft n
  my_draft = record {
    below = owns.below;
    drawn = (let a = low 0 (omega arith) in let b = owns.drawn in omega arith);
    hidden = λ h. owns.hidden (old n h);
    short = (let a = drafted_length v.draft i x next in omega arith);
    draft_is = λ k lt. (
        let a = drafted_length v.draft i x next in
        dite (ℕ_discrete k i)
        (λ e. ap (λ j. slice_index us (content_at z n j)) e ∙ (index_set ws place x (let b = in_words z n i owns.below within in let s = l.size in omega arith) ∙ sym (ap (slice_index w.draft) e ∙ drafted_at v.draft i x next)))
        (λ ne. index_else ws place (content_at z n k) x (λ e. ne (omega arith)) ∙ (owns.draft_is k (omega arith) ∙ sym (drafted_old v.draft i x k next (omega arith)))));
  }

  other_fits : (j : ℕ) (u : View) → j ≢ id → get_elem? views j ≡ some u → Fits z us u
  other_fits j u ne e = ⊎_elim (λ (s : u ≡ spent). inl s)
      (λ (s : IsInUse z ws u). inr (fits_grows z ws us grows l.transitions u s (λ m o. ((λ p. (s.own m o).hidden (old m p)), (λ k lt. high m k (λ same. apart views id v at l.own_apart n own j u ne e (o ∙ ap Some same)) lt)))))
      (l.views_fit j u e)

  my_use : IsInUse z us w
  my_use =
      let t = Rattle.sel_law.proofs.Grow.true_grows z ws us grows l.transitions v mine.true_now in record {
        setting = mine.setting;
        true_now = record { places = t.places; contents = t.contents; known = λ e h. (let r = t.known e h in (in_front e.0 v.asked asks r.0, r.1)) };
        own = λ m o. subst (Owns z us w.draft) (some_inj n m (sym own ∙ o)) my_draft;
        seated = seat;
        spare = mine.spare;
        few = mine.few;
        full = λ h r. full_more z us v asks w (λ a k. in_front a v.asked asks k) (Rattle.sel_law.proofs.Grow.full_grows z ws us grows l.transitions v (mine.full h r));
      }

  pub draft_lawful : Lawful z us (set views id w)
  draft_lawful =
      let same : published z us ≡ published z ws = ap (weigh used) (read_same ws us 1 (2 * z.states) (λ k lt. low (1 + k) (omega arith))) in
      let c = counts_quiet z ws views id v w at (same_counts v w refl refl refl refl refl refl) l.counts in
      let c0 = c.counter in let c1 = c.room in let zero_same = low 0 (omega arith) in
      record {
        small = l.small;
        size = length_set ws place x ∙ l.size;
        transitions = transitions_same z ws us grows l.transitions (λ q lt. low (row_at z q) (omega arith));
        states = states_same z ws us grows l.states (λ p lt. low (intern_at p) (omega arith));
        views_fit = fit_set z us views id w other_fits (inr my_use);
        own_apart = alone_set views id w l.own_apart (λ m o. apart views id v at l.own_apart m o);
        counts = record { counter = omega arith; room = omega arith; filled = λ h. (let f = c.filled h in omega arith); marked = c.marked; seats = c.seats };
        asked = asked_views z us views (set views id w)
            (asked_grows z ws us grows l.transitions views l.asked (λ m h. inl (old m h)) (λ q lt ne. inl (low (row_at z q) (omega arith))) (λ j lo hi ne. inl (low j hi)))
            (λ a. some_set views id v w (λ u. In a u.asked) at (λ h. in_front a v.asked asks h))
            (λ e. some_set views id v w (λ u. In e u.places) at (λ h. h));
      }

module _ (z : Setting) where
  -- the store of a content word
  pub drafts : (slots id : ℕ) (m : Me (Unit {0}) View) (asks : List Ask) (n i x : ℕ) → 1 ≤ m.0.seats → m.0.own ≡ Some n → i < z.width → i ≤ length m.0.draft
      → Allows (Holds z) slots id m (content_at z n i) (λ _. x) (λ _ w. (w.0 ≡ drafted m.0 asks (content_at z n i) i x) × (w.1 ≡ m.1))
  drafts slots id m asks n i x seat own within next s l homes at fits = (drafted m.0 asks (content_at z n i) i x, keeps, tt, draft_lawful z s.words s.views l id m.0 at seat asks n own i x within next, (refl, refl))
