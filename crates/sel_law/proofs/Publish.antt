-- The compare-exchange of an intern word.
use Rattle.std.proofs.Common.{◌≡◌, ◌≢◌, ◌⊎◌, ℕ, zero, suc, ◌+◌, ◌*◌, ◌<◌, ◌≤◌, ◌==◌, List, [], ◌∷◌, ◌++◌, length, set, refl, sym, ap, ◌∙◌, subst, ⊎_elim, inl, inr, arith, Some, None, eq-eqb, ne_eqb}
use Rattle.std.specs.Prelude.{slice_index}
use Rattle.std.proofs.lemmas.Bool.Decides.{nat_tests}
use mathlib.Core.Option.{some, some-ne-none, some-injective}
use mathlib.Core.Logic.{dite}
use native.Mathlib.Decide.{dec_lt, ℕ_discrete}
use lib.ListN.{get_elem?}
use prog.Atomic.{either}
use Rattle.atomic_table.proofs.Lists.{at_set, set_here}
use Rattle.sel_law.specs.declared.Setting.{Setting}
use Rattle.sel_law.specs.declared.Ask.{Ask}
use Rattle.sel_law.specs.declared.View.{View}
use Rattle.sel_law.specs.Words.{IsMadeOf, content_home, In, used, walk, intern_at, row_at, content_at, content, Published}
use Rattle.sel_law.specs.Law.{spent, own_count, NoGap, Owns, IsInUse, StateAt, States, IsInSomeView, Lawful, past}
use Rattle.sel_law.specs.Kinds.{seen, stood, stood_as, entries, WalkedStates}
use Rattle.sel_law.proofs.Base.{weigh_set, weigh_read, in_front, in_back, in_split, in_one, in_here, index_set, index_else, set_same, read_same, read_at, read_is}
use Rattle.sel_law.proofs.Grow.{Grows, transitions_same, state_grows, fits_grows, true_grows, full_grows, asked_grows, asked_views, some_set}
use Rattle.sel_law.proofs.Draw.{Fits, fit_set, in_use, alone_set, apart, length_set}
use Rattle.sel_law.proofs.Look.{full_more, seen_lawful}

some_inj : (x y : ℕ) → Some x ≡ Some y → x ≡ y
some_inj x y e = cc

no_own : (n : ℕ) → None ≡ Some n → ⊥
no_own n e = cc

pub in_entries : (e : ℕ × ℕ × ℕ) (n b : ℕ) (ds : List ℕ) → In e (entries n b ds) → (e.0 ≡ n) × ((k : ℕ) × (k < length ds) × (e.1 ≡ b + k) × (slice_index ds k ≡ e.2))
in_entries e n b [] (zero, h) = absurd (some-ne-none e (sym h))
in_entries e n b [] (suc k, h) = absurd (some-ne-none e (sym h))
in_entries e n b (d ∷ ds) (zero, h) = let s = some-injective (n, b, d) e h in (ap (λ (t : ℕ × ℕ × ℕ). t.0) (sym s), (0, omega arith, ap (λ (t : ℕ × ℕ × ℕ). t.1) (sym s) ∙ omega arith, ap (λ (t : ℕ × ℕ × ℕ). t.2) s))
in_entries e n b (d ∷ ds) (suc k, h) = let r = in_entries e n (b + 1) ds (k, h) in (r.0, (suc r.1.0, (let a = r.1.1 in omega arith), (let a = r.1.2 in omega arith), r.1.3))

module _ (z : Setting) (ws : List ℕ) (views : List View) (l : Lawful z ws views) (id : ℕ) (v : View) (at : get_elem? views id ≡ some v) (seat : 1 ≤ v.seats)
    (asks : List Ask) (n : ℕ) (own : v.own ≡ Some n) (whole : length v.draft ≡ z.width)
    (a : Ask) (asked : In a (v.asked ++ asks)) (is_made : IsMadeOf z a v.draft)
    (p : ℕ) (inside : p < 2 * z.states) (walked : WalkedStates v v.draft p) (free : slice_index ws (intern_at p) ≡ 0) where
  abbrev i : ℕ
  i = intern_at p

  abbrev us : List ℕ
  us = set ws i (n + 1)

  abbrev w : View
  w = stood v asks i n

  mine : IsInUse z ws v
  mine = in_use z ws v (l.views_fit id v at) seat

  owns : Owns z ws v.draft n
  owns = mine.own n own

  here : slice_index us i ≡ n + 1
  here = let s = l.size in index_set ws i (n + 1) (omega arith)

  else : (j : ℕ) → j ≢ i → slice_index us j ≡ slice_index ws j
  else j ne = index_else ws i j (n + 1) ne

  high : (m j : ℕ) → slice_index us (content_at z m j) ≡ slice_index ws (content_at z m j)
  high m j = else (content_at z m j) (λ e. absurd (omega arith))

  same_content : (m : ℕ) → content z us m ≡ content z ws m
  same_content m = read_same ws us (content_at z m 0) z.width (λ k lt. else (content_at z m 0 + k) (λ e. absurd (omega arith)))

  grows : Grows z ws us
  grows = record {
    counter = (let e = else 0 (λ e. absurd (omega arith)) in omega arith);
    kept = λ j lo hi ne. else j (λ e. ne (ap (slice_index ws) e ∙ free));
    content_kept = λ m h. same_content m;
  }

  drafted_content : content z ws n ≡ v.draft
  drafted_content = read_is ws (content_at z n 0) v.draft z.width whole (λ k lt. ap (slice_index ws) (omega arith) ∙ owns.draft_is k (omega arith))

  number_there : (q m : ℕ) → q ≡ p → slice_index us (intern_at q) ≡ m + 1 → m ≡ n
  number_there q m same e = let b : slice_index us i ≡ m + 1 = ap (λ r. slice_index us (intern_at r)) (sym same) ∙ e in let h = here in omega arith

  old : (m : ℕ) → Published z us m → Published z ws m ⊎ (m ≡ n)
  old m (q, lt, e) = dite (ℕ_discrete q p)
      (λ same. inr (number_there q m same e))
      (λ ne. inl (q, lt, sym (else (intern_at q) (λ e. ne (omega arith))) ∙ e))

  new : Published z us n
  new = (p, inside, here)

  same_setting : (P : Setting → Type 0) → P v.setting → P z
  same_setting P h = subst P mine.setting h

  walk_here : WalkedStates record v { setting = z } v.draft p
  walk_here = subst (λ (y : Setting). WalkedStates record v { setting = y } v.draft p) mine.setting walked

  gapless : NoGap us 1 (2 * z.states) (content_home z v.draft) walk_here.0
  gapless j lt e =
      let o = walk_here.3 j lt in
      let t = mine.true_now.places (intern_at (walk (2 * z.states) (content_home z v.draft) j), o.0 + 1) o.3 in
      let k = grows.kept (intern_at (walk (2 * z.states) (content_home z v.draft) j)) t.0 t.1 (λ n. t.2 (sym t.3 ∙ n)) in
      t.2 (sym (k ∙ t.3) ∙ e)

  new_state : StateAt z us p n
  new_state = record {
    below = owns.below;
    drawn = (let g = grows.counter in let o = owns.drawn in omega arith);
    place = subst (λ (c : List ℕ). (d : ℕ) × (d < 2 * z.states) × (p ≡ walk (2 * z.states) (content_home z c) d) × NoGap us 1 (2 * z.states) (content_home z c) d) (sym (same_content n ∙ drafted_content))
        (walk_here.0, walk_here.1, walk_here.2, gapless);
  }

  -- no published number has the draft's content
  no_twin : (q m : ℕ) → q < 2 * z.states → slice_index ws (intern_at q) ≡ m + 1 → content z ws m ≡ v.draft → ⊥
  no_twin q m lt e same =
      let s = l.states.each q m lt e in
      let pl = subst (λ (c : List ℕ). (d : ℕ) × (d < 2 * z.states) × (q ≡ walk (2 * z.states) (content_home z c) d) × NoGap ws 1 (2 * z.states) (content_home z c) d) same s.place in
      let h = content_home z v.draft in
      let d = walk_here.0 in
      dite (dec_lt pl.0 d)
      (λ before.
      let o = walk_here.3 pl.0 before in
      let t = mine.true_now.places (intern_at (walk (2 * z.states) h pl.0), o.0 + 1) o.3 in
      let at_q : slice_index ws (intern_at q) ≡ o.0 + 1 = ap (λ r. slice_index ws (intern_at r)) pl.2 ∙ t.3 in
      let number : o.0 ≡ m = omega arith in
      let c = mine.true_now.contents (o.0, o.1, o.2) o.4 in
      let read_there : slice_index v.draft o.1 ≡ slice_index ws (content_at z m o.1) = ap (λ x. slice_index x o.1) (sym same) ∙ (read_at ws (content_at z m 0) z.width o.1 c.1 ∙ ap (slice_index ws) (omega arith)) in
      o.5 (sym c.2 ∙ (ap (λ k. slice_index ws (content_at z k o.1)) number ∙ sym read_there)))
      (λ no. dite (dec_lt d pl.0)
      (λ after. pl.3 d after (ap (λ r. slice_index ws (intern_at r)) (sym walk_here.2) ∙ free))
      (λ neither.
      let even : pl.0 ≡ d = omega arith in
      let same_place : q ≡ p = pl.2 ∙ (ap (walk (2 * z.states) h) even ∙ sym walk_here.2) in
      let zero_there : slice_index ws (intern_at q) ≡ 0 = ap (λ r. slice_index ws (intern_at r)) same_place ∙ free in
      absurd (omega arith)))

  states : States z us
  states = record {
    each = λ q m lt e. dite (ℕ_discrete q p)
        (λ same. (
        let number : m ≡ n = number_there q m same e in
        subst (λ (t : ℕ × ℕ). StateAt z us t.0 t.1) (λ k. (sym same k, sym number k)) new_state))
        (λ ne. (let e' = sym (else (intern_at q) (λ e. ne (omega arith))) ∙ e in state_grows z ws us grows q m lt e' (l.states.each q m lt e')));
    differ = λ q r m k a b e f same. (
        let same' : content z ws m ≡ content z ws k = sym (same_content m) ∙ (same ∙ same_content k) in
        dite (ℕ_discrete q p)
        (λ q_new. dite (ℕ_discrete r p)
        (λ r_new. q_new ∙ sym r_new)
        (λ r_old. (
        let number : m ≡ n = number_there q m q_new e in
        absurd (no_twin r k b (sym (else (intern_at r) (λ e. r_old (omega arith))) ∙ f) (sym same' ∙ (ap (content z ws) number ∙ drafted_content))))))
        (λ q_old. dite (ℕ_discrete r p)
        (λ r_new. (
        let number : k ≡ n = number_there r k r_new f in
        absurd (no_twin q m a (sym (else (intern_at q) (λ e. q_old (omega arith))) ∙ e) (same' ∙ (ap (content z ws) number ∙ drafted_content)))))
        (λ r_old. l.states.differ q r m k a b (sym (else (intern_at q) (λ e. q_old (omega arith))) ∙ e) (sym (else (intern_at r) (λ e. r_old (omega arith))) ∙ f) same')));
  }

  other_fits : (j : ℕ) (u : View) → j ≢ id → get_elem? views j ≡ some u → Fits z us u
  other_fits j u ne e = ⊎_elim (λ (s : u ≡ spent). inl s)
      (λ (s : IsInUse z ws u). inr (fits_grows z ws us grows l.transitions u s (λ m o. (
        (λ h. ⊎_elim (λ (t : Published z ws m). (s.own m o).hidden t) (λ (t : m ≡ n). apart views id v at l.own_apart n own j u ne e (o ∙ ap Some t)) (old m h)),
        (λ k lt. high m k),
      ))))
      (l.views_fit j u e)

  my_use : IsInUse z us w
  my_use =
      let t = true_grows z ws us grows l.transitions v mine.true_now in
      let one : own_count v.own ≡ 1 = ap own_count own in record {
        setting = mine.setting;
        true_now = record {
          places = λ e h. ⊎_elim (λ (k : In e v.places). t.places e k)
              (λ (k : In e ((i, n + 1) ∷ [])). subst (λ (e : ℕ × ℕ). (1 ≤ e.0) × (e.0 < row_at z z.rows) × (e.1 ≢ 0) × (slice_index us e.0 ≡ e.1)) (in_one e (i, n + 1) k) (omega arith, omega arith, (λ q. absurd (omega arith)), here))
              (in_split e v.places ((i, n + 1) ∷ []) h);
          contents = λ e h. ⊎_elim (λ (k : In e v.contents). t.contents e k)
              (λ (k : In e (entries n 0 v.draft)). (
              let r = in_entries e n 0 v.draft k in
              let lt : e.1 < z.width = (let a = r.1.1 in let b = r.1.2 in omega arith) in
              let j : e.1 ≡ r.1.0 = (let b = r.1.2 in omega arith) in
              (subst (Published z us) (sym r.0) new, lt, high e.0 e.1 ∙ (ap (λ m. slice_index ws (content_at z m e.1)) r.0 ∙ (owns.draft_is e.1 (omega arith) ∙ (ap (slice_index v.draft) j ∙ r.1.3))))))
              (in_split e v.contents (entries n 0 v.draft) h);
          known = λ e h. (let r = t.known e h in (in_front e.0 v.asked asks r.0, r.1));
        };
        own = λ m o. absurd (no_own m o);
        seated = seat;
        spare = mine.spare;
        few = λ h. (let f = mine.few h in omega arith);
        full = λ h r. full_more z us v asks w (λ a k. in_front a v.asked asks k) (full_grows z ws us grows l.transitions v (mine.full h r));
      }

  pub stood_lawful : Lawful z us (set views id w)
  stood_lawful =
      let one : own_count v.own ≡ 1 = ap own_count own in
      let used_new : used (n + 1) ≡ 1 = used_more n in
      let count = weigh_read used ws 1 (2 * z.states) i (n + 1) (omega arith) (omega arith) (let s = l.size in omega arith) in
      let used_free : used (slice_index ws i) ≡ 0 = ap used free in
      let a1 = weigh_set (λ (u : View). own_count u.own) views id v w at in
      let b1 = weigh_set (λ (u : View). u.dropped) views id v w at in
      let d1 = weigh_set (λ (u : View). u.past) views id v w at in
      let f1 = weigh_set (λ (u : View). u.seats + u.rest) views id v w at in
      let c = l.counts in let c0 = c.counter in let c1 = c.room in let c3 = c.seats in
      let zero_same = else 0 (λ e. absurd (omega arith)) in
      let same_past : past (set views id w) ≡ past views = omega arith in
      let has_asked : IsInSomeView (set views id w) (λ u. In a u.asked) = (id, w, set_here views id w (len views id v at), asked) in
      let has_place : IsInSomeView (set views id w) (λ u. In (i, n + 1) u.places) = (id, w, set_here views id w (len views id v at), in_back (i, n + 1) v.places ((i, n + 1) ∷ []) (in_here (i, n + 1) [])) in
      record {
        small = l.small;
        size = length_set ws i (n + 1) ∙ l.size;
        transitions = transitions_same z ws us grows l.transitions (λ q lt. else (row_at z q) (λ e. absurd (omega arith)));
        states = states;
        views_fit = fit_set z us views id w other_fits (inr my_use);
        own_apart = alone_set views id w l.own_apart (λ m o. absurd (no_own m o));
        counts = record {
          counter = omega arith;
          room = omega arith;
          filled = λ h. (let f = c.filled (omega arith) in omega arith);
          marked = λ k u e m. ⊎_elim
              (λ (t : (k ≡ id) × (w ≡ u)). let f = c.marked id v at (ap (λ (x : View). x.used_up) t.1 ∙ m) in omega arith)
              (λ (t : (k ≢ id) × (get_elem? views k ≡ some u)). let f = c.marked k u t.1 m in omega arith)
              (at_set views id k w u e);
          seats = omega arith;
        };
        asked = asked_grows z ws us grows l.transitions (set views id w)
            (asked_views z ws views (set views id w) l.asked
            (λ x. some_set views id v w (λ u. In x u.asked) at (λ h. in_front x v.asked asks h))
            (λ x. some_set views id v w (λ u. In x u.places) at (λ h. in_front x v.places ((i, n + 1) ∷ []) h)))
            (λ m h. ⊎_elim (λ (t : Published z ws m). inl t) (λ (t : m ≡ n). inr (a, subst (IsMadeOf z a) (sym (ap (content z us) t ∙ (same_content n ∙ drafted_content))) is_made, has_asked)) (old m h))
            (λ q lt ne. inl (else (row_at z q) (λ e. absurd (omega arith))))
            (λ j lo hi ne. dite (ℕ_discrete j i)
            (λ e. inr (subst (λ (t : ℕ × ℕ). IsInSomeView (set views id w) (λ u. In t u.places)) (λ k. (sym e k, (sym here ∙ ap (slice_index us) (sym e)) k)) has_place))
            (λ no. inl (else j no)));
      }
    where
      used_more : (n : ℕ) → used (n + 1) ≡ 1
      used_more n = grind (arith, nat_tests)

      len : (views : List View) (id : ℕ) (v : View) → get_elem? views id ≡ some v → id < length views
      len [] id v e = absurd (some-ne-none v (sym e))
      len (x ∷ xs) zero v e = omega arith
      len (x ∷ xs) (suc id) v e = omega (arith, len xs id v e)

-- the exchange of an intern word, as it is found
pub stood_found : (z : Setting) (ws : List ℕ) (views : List View) (l : Lawful z ws views) (id : ℕ) (v : View) (at : get_elem? views id ≡ some v) (seat : 1 ≤ v.seats)
    (asks : List Ask) (n : ℕ) (own : v.own ≡ Some n) (whole : length v.draft ≡ z.width)
    (a : Ask) (asked : In a (v.asked ++ asks)) (is_made : IsMadeOf z a v.draft)
    (p : ℕ) (inside : p < 2 * z.states) (walked : WalkedStates v v.draft p)
    → Dec (slice_index ws (intern_at p) ≡ 0)
    → Lawful z (set ws (intern_at p) (either (slice_index ws (intern_at p) == 0) (n + 1) (slice_index ws (intern_at p)))) (set views id (stood_as (slice_index ws (intern_at p) == 0) v asks (intern_at p) n (slice_index ws (intern_at p))))
stood_found z ws views l id v at seat asks n own whole a asked is_made p inside walked (yes free) =
    subst (λ b. Lawful z (set ws (intern_at p) (either b (n + 1) (slice_index ws (intern_at p)))) (set views id (stood_as b v asks (intern_at p) n (slice_index ws (intern_at p))))) (sym (eq-eqb (slice_index ws (intern_at p)) 0 free))
    (stood_lawful z ws views l id v at seat asks n own whole a asked is_made p inside walked free)
stood_found z ws views l id v at seat asks n own whole a asked is_made p inside walked (no taken) =
    subst (λ b. Lawful z (set ws (intern_at p) (either b (n + 1) (slice_index ws (intern_at p)))) (set views id (stood_as b v asks (intern_at p) n (slice_index ws (intern_at p))))) (sym (ne_eqb (slice_index ws (intern_at p)) 0 taken))
    (subst (λ us. Lawful z us (set views id (seen v asks (intern_at p) (slice_index ws (intern_at p))))) (sym (set_same ws (intern_at p) (slice_index ws (intern_at p)) refl))
    (seen_lawful z ws views l id v at seat asks (intern_at p) (omega arith) (omega arith)))
