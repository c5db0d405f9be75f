-- Each step of the tickets keeps the rule.
use Rattle.std.proofs.Common.{◌≡◌, ◌≢◌, ◌⊎◌, ℕ, zero, suc, ◌+◌, ◌%◌, ◌^◌, ◌<◌, ◌≤◌, List, [], ◌∷◌, ◌++◌, length, set, refl, sym, ap, ◌∙◌, subst, ⊎_elim, inl, inr, arith}
use Rattle.std.specs.Prelude.{slice_index}
use Rattle.std.proofs.lemmas.Bool.Decides.{nat_tests}
use mathlib.Core.Option.{some, some-ne-none, some-injective}
use mathlib.Core.Logic.{dite}
use native.Mathlib.Decide.{dec_lt}
use lib.ListN.{get_elem?}
use Rattle.atomic_table.specs.Table.{State, Me, keeps, Allows, Splits, Joins, Final, Seen}
use Rattle.atomic_table.proofs.Lists.{at_set, at_snoc}
use Rattle.sel_tickets.specs.declared.rule.TicketSetting.{TicketSetting}
use Rattle.sel_tickets.specs.declared.rule.TicketView.{TicketView}
use Rattle.sel_tickets.specs.Sums.{weigh, one_at, times, one_if_below, late_at, late_in, below}
use Rattle.sel_tickets.specs.Rule.{late, spent, IsSeated, AreTickets, first_view, left_view, new_view, both_views, Drew}
use Rattle.sel_tickets.proofs.Sums.{weigh_append, weigh_set, weigh_le, weigh_at, upto, exact, upto_late, upto_none, times_below, times_late}

-- what the rule says of one view
abbrev pub Fits : TicketSetting → TicketView → Type 0
Fits key v = (v ≡ spent) ⊎ IsSeated key v

abbrev pub AllFit : TicketSetting → List TicketView → Type 0
AllFit key views = (i : ℕ) (v : TicketView) → get_elem? views i ≡ some v → Fits key v

fit_set : (key : TicketSetting) (views : List TicketView) (id : ℕ) (w : TicketView) → AllFit key views → Fits key w → AllFit key (set views id w)
fit_set key views id w all mine j u e = ⊎_elim (λ (t : (j ≡ id) × (w ≡ u)). subst (Fits key) t.1 mine) (λ (t : (j ≢ id) × (get_elem? views j ≡ some u)). all j u t.1) (at_set views id j w u e)

fit_snoc : (key : TicketSetting) (views : List TicketView) (w : TicketView) → AllFit key views → Fits key w → AllFit key (views ++ w ∷ [])
fit_snoc key views w all mine j u e = ⊎_elim (λ (t : get_elem? views j ≡ some u). all j u t) (λ (t : w ≡ u). subst (Fits key) t mine) (at_snoc views w u j e)

-- a view with a seat is not spent
in_use : (key : TicketSetting) (v : TicketView) → Fits key v → 1 ≤ v.seats + v.rest → IsSeated key v
in_use key v (inl e) s = let a : v.seats ≡ 0 = ap (λ (h : TicketView). h.seats) e in let b : v.rest ≡ 0 = ap (λ (h : TicketView). h.rest) e in absurd (omega arith)
in_use key v (inr u) s = u

-- all numbers of all hands
flat : List TicketView → List ℕ
flat [] = []
flat (v ∷ vs) = v.drawn ++ flat vs

weigh_flat : (h : ℕ → ℕ) (vs : List TicketView) → weigh h (flat vs) ≡ weigh (λ v. weigh h v.drawn) vs
unfolding flat
weigh_flat h [] = refl
weigh_flat h (v ∷ vs) = omega (arith, weigh_append h v.drawn (flat vs), weigh_flat h vs)

-- however the numbers are weighed, those of all hands weigh what those below the word weigh
pub weighed : (key : TicketSetting) (words : List ℕ) (views : List TicketView) → AreTickets key words views → (h : ℕ → ℕ) → weigh (λ v. weigh h v.drawn) views ≡ upto h (slice_index words 0)
weighed key words views l h = sym (weigh_flat h views) ∙ exact (slice_index words 0) (flat views) (λ x. weigh_flat (one_at x) views ∙ l.each_once x) h

late_fits : (key : TicketSetting) (v : TicketView) → Fits key v → late_in key.trees v.drawn ≤ v.seats
late_fits key v (inl e) = let d : late_in key.trees v.drawn ≡ 0 = ap (λ (h : TicketView). late_in key.trees h.drawn) e in omega arith
late_fits key v (inr u) = let d : late v ≡ late_in key.trees v.drawn = ap (λ n. late_in n v.drawn) u.trees in let f = u.few in omega arith

pub word_small : (key : TicketSetting) (words : List ℕ) (views : List TicketView) → AreTickets key words views → slice_index words 0 ≤ key.trees + key.workers
word_small key words views l =
    let a = weighed key words views l (late_at key.trees) in
    let b = upto_late key.trees (slice_index words 0) in
    let c = weigh_le (λ (v : TicketView). late_in key.trees v.drawn) (λ (v : TicketView). v.seats + v.rest) views (λ i v e. let f = late_fits key v (l.seated i v e) in omega arith) in
    let d = l.all_seats in
    omega arith

upto_ones : (n : ℕ) → upto (λ _. 1) n ≡ n
upto_ones zero = refl
upto_ones (suc n) = omega (arith, upto_ones n)

weigh_ones : (xs : List ℕ) → weigh (λ _. 1) xs ≡ length xs
weigh_ones [] = refl
weigh_ones (x ∷ xs) = omega (arith, weigh_ones xs)

pub long_below : (key : TicketSetting) (words : List ℕ) (views : List TicketView) → AreTickets key words views → (id : ℕ) (v : TicketView) → get_elem? views id ≡ some v → length v.drawn ≤ slice_index words 0
long_below key words views l id v at =
    let a = weighed key words views l (λ _. 1) in
    let b = upto_ones (slice_index words 0) in
    let c = weigh_at (λ (u : TicketView). weigh (λ _. 1) u.drawn) views id v at in
    let d = weigh_ones v.drawn in
    omega arith

one_more : (x n : ℕ) → one_if_below x (n + 1) ≡ one_at x n + one_if_below x n
one_more x n = grind (arith, nat_tests)

late_one : (n x : ℕ) → late_at n x ≤ 1
late_one n x = grind (arith, nat_tests)

pub begins : (key : TicketSetting) → (key.trees < 2 ^ 32) → (key.workers < 2 ^ 32) → 1 ≤ key.workers → AreTickets key (0 ∷ []) (first_view key ∷ [])
begins key t w some_worker = record {
  small = (t, w);
  one_word = refl;
  each_once = λ x. (let z : one_if_below x 0 ≡ 0 = grind (arith, nat_tests) in omega arith);
  seated = one;
  all_seats = omega arith;
}
  where
    one : AllFit key (first_view key ∷ [])
    one zero v e = inr (subst (IsSeated key) (some-injective _ _ e) record { seated = omega arith; few = omega arith; trees = refl; workers = refl })
    one (suc i) v e = absurd (some-ne-none v (sym e))

module _ (key : TicketSetting) where
  abbrev Holds : State (Unit {0}) TicketView → Type 0
  Holds s = AreTickets key s.words s.views

  drawn_by : TicketView → ℕ → TicketView
  drawn_by v x = record { drawn = v.drawn ++ x ∷ []; trees = v.trees; workers = v.workers; seats = v.seats; rest = v.rest }

  draws_lawful : (words : List ℕ) (views : List TicketView) → AreTickets key words views → (id : ℕ) (v : TicketView) → get_elem? views id ≡ some v → late v < v.seats
      → (m : ℕ) → m ≡ slice_index words 0 + 1 → AreTickets key (set words 0 m) (set views id (drawn_by v (slice_index words 0)))
  unfolding drawn_by
  draws_lawful words views l id v at few m is =
      let n = slice_index words 0 in
      let w = drawn_by v n in
      let mine = in_use key v (l.seated id v at) (omega arith) in
      let now : set words 0 m ≡ m ∷ [] = ap (λ ws. set ws 0 m) l.one_word in
      let there : slice_index (set words 0 m) 0 ≡ n + 1 = ap (λ ws. slice_index ws 0) now ∙ is in
      record {
        small = l.small;
        one_word = now ∙ ap (λ k. k ∷ []) (sym (ap (λ ws. slice_index ws 0) now));
        each_once = λ x. (
            let a = weigh_set (λ (u : TicketView). times x u.drawn) views id v w at in
            let b = weigh_append (one_at x) v.drawn (n ∷ []) in
            let c = l.each_once x in
            let d = one_more x n in
            let e : one_if_below x (slice_index (set words 0 m) 0) ≡ one_if_below x (n + 1) = ap (one_if_below x) there in
            omega arith);
        seated = fit_set key views id w l.seated (inr record {
          seated = mine.seated;
          few = (let a = weigh_append (late_at v.trees) v.drawn (n ∷ []) in let b = late_one v.trees n in omega arith);
          trees = mine.trees;
          workers = mine.workers;
        });
        all_seats = (let a = weigh_set (λ (u : TicketView). u.seats + u.rest) views id v w at in let c = l.all_seats in omega arith);
      }

  pub draws : (slots id : ℕ) (m : Me (Unit {0}) TicketView) → late m.0 < m.0.seats
      → Allows Holds slots id m 0 (λ n. (n + 1) % 2 ^ 64) (λ found w. Drew m.0 found w.0 × (w.1 ≡ m.1))
  unfolding drawn_by
  draws slots id m few s l homes at fits =
      let n = slice_index s.words 0 in
      let small = word_small key s.words s.views l in
      let room = l.small in
      let exact : (n + 1) % 2 ^ 64 ≡ n + 1 = grind arith in (
        drawn_by m.0 n,
        keeps,
        tt,
        draws_lawful s.words s.views l id m.0 at few ((n + 1) % 2 ^ 64) exact,
        (record { view = refl; long = long_below key s.words s.views l id m.0 at }, refl),
      )

  pub cuts : (id : ℕ) (v : TicketView) → 1 ≤ v.rest → Splits Holds id v (left_view v) (new_view v)
  cuts id v some_rest s l at =
      let mine = in_use key v (l.seated id v at) (omega arith) in
      let views = set s.views id (left_view v) in
      record {
        small = l.small;
        one_word = l.one_word;
        each_once = λ x. (
            let a = weigh_set (λ (u : TicketView). times x u.drawn) s.views id v (left_view v) at in
            let b = weigh_append (λ (u : TicketView). times x u.drawn) views (new_view v ∷ []) in
            let c = l.each_once x in
            omega arith);
        seated = fit_snoc key views (new_view v) (fit_set key s.views id (left_view v) l.seated (inr record { seated = mine.seated; few = mine.few; trees = mine.trees; workers = mine.workers }))
            (inr record { seated = omega arith; few = omega arith; trees = mine.trees; workers = mine.workers });
        all_seats = (
            let a = weigh_set (λ (u : TicketView). u.seats + u.rest) s.views id v (left_view v) at in
            let b = weigh_append (λ (u : TicketView). u.seats + u.rest) views (new_view v ∷ []) in
            let c = l.all_seats in
            omega arith);
      }

  pub glues : (id : ℕ) (v : TicketView) (other : ℕ) (w : TicketView) → 1 ≤ v.seats → 1 ≤ w.seats → Joins Holds id v other w (both_views v w) spent
  glues id v other w some_v some_w s l at apart there =
      let mid = set s.views id (both_views v w) in
      let theirs : get_elem? s.views other ≡ some w = ⊎_elim (λ (t : (other ≡ id) × (both_views v w ≡ w)). absurd (apart t.0)) (λ (t : (other ≢ id) × (get_elem? s.views other ≡ some w)). t.1) (at_set s.views id other (both_views v w) w there) in
      let mine = in_use key v (l.seated id v at) (omega arith) in
      let his = in_use key w (l.seated other w theirs) (omega arith) in
      record {
        small = l.small;
        one_word = l.one_word;
        each_once = λ x. (
            let a = weigh_set (λ (u : TicketView). times x u.drawn) s.views id v (both_views v w) at in
            let b = weigh_set (λ (u : TicketView). times x u.drawn) mid other w spent there in
            let d = weigh_append (one_at x) v.drawn w.drawn in
            let c = l.each_once x in
            omega arith);
        seated = fit_set key mid other spent (fit_set key s.views id (both_views v w) l.seated (inr record {
          seated = omega arith;
          few = (
              let a = weigh_append (late_at v.trees) v.drawn w.drawn in
              let b : late w ≡ late_in v.trees w.drawn = ap (λ n. late_in n w.drawn) (his.trees ∙ sym mine.trees) in
              let c = mine.few in let d = his.few in
              omega arith);
          trees = mine.trees;
          workers = mine.workers;
        })) (inl refl);
        all_seats = (
            let a = weigh_set (λ (u : TicketView). u.seats + u.rest) s.views id v (both_views v w) at in
            let b = weigh_set (λ (u : TicketView). u.seats + u.rest) mid other w spent there in
            let c = l.all_seats in
            omega arith);
      }

-- views that have no seat have nothing
no_seats : (key : TicketSetting) (f : TicketView → ℕ) → f spent ≡ 0 → (vs : List TicketView) → AllFit key vs → weigh (λ v. v.seats + v.rest) vs ≡ 0 → weigh f vs ≡ 0
no_seats key f z [] all none = refl
no_seats key f z (v ∷ vs) all none =
    let mine : v ≡ spent = ⊎_elim (λ (e : v ≡ spent). e) (λ (u : IsSeated key v). let s = u.seated in absurd (omega arith)) (all 0 v refl) in
    let a : f v ≡ 0 = ap f mine ∙ z in
    let b = no_seats key f z vs (λ i u e. all (suc i) u e) (omega arith) in
    omega arith

-- the view that has every seat has all that there is
pub whole : (key : TicketSetting) (words : List ℕ) (views : List TicketView) → AreTickets key words views → (id : ℕ) (v : TicketView) → get_elem? views id ≡ some v → v.seats ≡ key.workers
    → (x : ℕ) → times x v.drawn ≡ one_if_below x (slice_index words 0)
whole key words views l id v at all x =
    let a = weigh_set (λ (u : TicketView). u.seats + u.rest) views id v spent at in
    let s = l.all_seats in
    let b = weigh_set (λ (u : TicketView). times x u.drawn) views id v spent at in
    let c = no_seats key (λ (u : TicketView). times x u.drawn) refl (set views id spent) (fit_set key views id spent l.seated (inl refl)) (omega arith) in
    let d = l.each_once x in
    omega arith

pub closes : (key : TicketSetting) (words : List ℕ) (xs : List (Unit {0})) (id : ℕ) (v : TicketView) → v.seats ≡ key.workers → Final (Seen (λ s. AreTickets key s.words s.views) id v) words xs
    → (x : ℕ) → times x v.drawn ≡ one_if_below x (slice_index words 0)
closes key words xs id v all f x = whole key f.0.words f.0.views f.1.0 id v f.1.1 all x ∙ ap (λ ws. one_if_below x (slice_index ws 0)) f.2

-- where some number isn't below n, those below n are each number below n once
pub below_once : (n w : ℕ) (drawn : List ℕ) → 1 ≤ late_in n drawn → ((x : ℕ) → times x drawn ≡ one_if_below x w) → (x : ℕ) → times x (below n drawn) ≡ one_if_below x n
below_once n w drawn ended all x =
    let late = exact w drawn all (late_at n) in
    let more : n < w = dite (dec_lt n w) (λ h. h) (λ no. let z = upto_none n w (omega arith) in absurd (omega arith)) in
    dite (dec_lt x n)
    (λ h. let a = times_below n x h drawn in let b = all x in let c : one_if_below x w ≡ one_if_below x n = grind (arith, nat_tests) in omega arith)
    (λ no. let a = times_late n x (omega arith) drawn in let c : one_if_below x n ≡ 0 = grind (arith, nat_tests) in omega arith)
