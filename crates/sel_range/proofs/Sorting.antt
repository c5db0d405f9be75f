-- Cuts in order: what sorting leaves, and where a number stands among them.
use Rattle.std.proofs.Common.{◌≡◌, ℕ, zero, suc, ◌+◌, ◌<◌, ◌≤◌, ◌⊎◌, inl, inr, Bool, true, false, ◌&&◌, List, [], ◌∷◌, length, get_or, refl, ap, sym, ◌∙◌, subst, arith, ℤ, ◌<ℤ◌, ◌≤ℤ◌}
use Rattle.std.specs.Prelude.{int_le}
use Rattle.std.specs.List.{All, AllPairs, Contains, count_by, dedup, filter}
use Rattle.std.specs.List.Sorted.{IsPartitionPoint, IsPartitionedBy, IsPermutation, IsSorted, IsStrictlySortedBy}
use Rattle.std.specs.Ordering.{int_cmp, int_eq}
use Rattle.std.specs.Set.{is_member}
use Rattle.std.specs.declared.cmp.Ordering.TheVariants.{Less}
use Rattle.std.proofs.lemmas.Bool.{cases_order}
use Rattle.std.proofs.lemmas.Bool.Decides.{Decides-int_eq, same_from_decides}
use Rattle.std.proofs.lemmas.Cmp.{int_cmp_total, int_eq_equiv, int_ranked}
use Rattle.std.proofs.lemmas.Int.{ints}
use Rattle.std.proofs.lemmas.List.{get_or_default}
use Rattle.std.proofs.lemmas.List.Elements.{All-from_recursion, All-weaker}
use Rattle.std.proofs.lemmas.List.Filters.{All-dedup}
use Rattle.std.proofs.lemmas.List.Kept.{AllPairs-cons, Contains-dedup, Contains-from_dedup, IsStrictlySortedBy-dedup, IsStrictlySortedBy-filter}
use Rattle.std.proofs.lemmas.List.Sorted.{All-permutation, Contains-permutation, IsPermutation-sym}
use Rattle.std.proofs.lemmas.List.Sums.{length-filter, sum_by-cons}
use Rattle.std.proofs.lemmas.Map.Keys.{IsDistinct-from_sorted}
use Rattle.std.proofs.lemmas.Map.Made.{alike_from_same, is_member-Decides, is_member-filter, length-from_keys}
use Rattle.sel_range.specs.Limits.{IsAttributeNumber}
use Rattle.sel_range.specs.SortedCuts.{AreInOrder}
use Rattle.sel_range.proofs.Counting.{le_true, le_false, true_le, lt_le, bit, count_to}

less_lt : (x y : ℤ) → int_cmp x y ≡ Less → x <ℤ y
less_lt x y h = int_ranked x y Less (sym h)

ascend : (ks : List ℤ) → IsStrictlySortedBy int_cmp ks → AllPairs (λ x y. x <ℤ y) ks
unfolding IsStrictlySortedBy
ascend [] h = λ i j d a b. absurd (omega arith)
ascend (x ∷ xs) h =
    AllPairs-cons (λ x y. x <ℤ y) x xs (All-weaker (λ y. int_cmp x y ≡ Less) (λ y. x <ℤ y) (λ y k. less_lt x y k) xs (All-from_recursion (λ y. int_cmp x y ≡ Less) xs h.0)) (ascend xs h.1)

module _ (all moved sorted : List ℤ) (perm : IsPermutation all moved) (up : IsSorted int_cmp moved) (is : sorted ≡ dedup int_eq moved) where
  strict : IsStrictlySortedBy int_cmp sorted
  strict = subst (IsStrictlySortedBy int_cmp) (sym is) (IsStrictlySortedBy-dedup int_cmp_total (λ x y. refl) moved up)

  from_all : (c : ℤ) → Contains all c → Contains sorted c
  from_all c h = subst (λ xs. Contains xs c) (sym is) (Contains-dedup int_eq_equiv (λ x y. (Decides-int_eq x y).0) moved c (Contains-permutation all moved c perm h))

  to_all : (c : ℤ) → Contains sorted c → Contains all c
  to_all c h = Contains-permutation moved all c (IsPermutation-sym all moved perm) (Contains-from_dedup int_eq moved c (subst (λ xs. Contains xs c) is h))

  members : (c : ℤ) → is_member int_eq sorted c ≡ is_member int_eq all c
  members c =
      let here = is_member-Decides Decides-int_eq sorted c in
      let there = is_member-Decides Decides-int_eq all c in
      same_from_decides {P = Contains sorted c} (is_member int_eq sorted c) (is_member int_eq all c) here (λ h. from_all c (there.0 h), λ h. there.1 (to_all c h))

  filtered : (p : ℤ → Bool) (c : ℤ) → is_member int_eq (filter p sorted) c ≡ is_member int_eq (filter p all) c
  filtered p c =
      is_member-filter int_eq_equiv p c (λ y e. alike_from_same Decides-int_eq p c y e) sorted
      ∙ ap (λ b. b && p c) (members c)
      ∙ sym (is_member-filter int_eq_equiv p c (λ y e. alike_from_same Decides-int_eq p c y e) all)

  pub in_order : All IsAttributeNumber all → AreInOrder all sorted
  in_order numbers = record {
    numbers = subst (All IsAttributeNumber) (sym is) (All-dedup int_eq IsAttributeNumber moved (All-permutation IsAttributeNumber all moved perm numbers));
    ascend = ascend sorted strict;
    count = λ v. sym (length-filter (λ c. int_le c v) sorted)
        ∙ length-from_keys int_eq_equiv (filter (λ c. int_le c v) sorted) (filter (λ c. int_le c v) all) (IsDistinct-from_sorted int_cmp _ (IsStrictlySortedBy-filter int_cmp (λ c. int_le c v) sorted strict)) (filtered (λ c. int_le c v));
    total = length-from_keys int_eq_equiv sorted all (IsDistinct-from_sorted int_cmp sorted strict) members;
    members = to_all;
  }

-- the numbers before a place pass, and the others do not: so many pass
count_point : (p : ℤ → Bool) (xs : List ℤ) (i : ℕ) → i ≤ length xs → IsPartitionPoint (λ y. p y ≡ true) (λ y. p y ≡ false) xs i → count_by p xs ≡ i
count_point p [] i h k = omega arith
count_point p (x ∷ xs) zero h k =
    let here : p x ≡ false = k.1 0 x (omega arith) (omega arith) in
    let first : bit (p x) ≡ 0 = ap bit here in
    let rest = count_point p xs zero (omega arith) (λ j d a b. absurd (omega arith), λ j d a b. k.1 (suc j) d (omega arith) (omega arith)) in
    let e : count_by p (x ∷ xs) ≡ bit (p x) + count_by p xs = sum_by-cons (λ y. bit (p y)) x xs in
    omega arith
count_point p (x ∷ xs) (suc i) h k =
    let here : p x ≡ true = k.0 0 x (omega arith) (omega arith) in
    let first : bit (p x) ≡ 1 = ap bit here in
    let rest = count_point p xs i (omega arith) (λ j d a b. k.0 (suc j) d (omega arith) (omega arith), λ j d a b. k.1 (suc j) d (omega arith) (omega arith)) in
    let e : count_by p (x ∷ xs) ≡ bit (p x) + count_by p xs = sum_by-cons (λ y. bit (p y)) x xs in
    omega arith

-- what the search for a number's place asks of the cuts
pub parted : (v : ℤ) (xs : List ℤ) → AllPairs (λ x y. x <ℤ y) xs → IsPartitionedBy (λ c. int_le c v) xs
parted v xs up i j d l in' h = by (cases_order i j)
  where
    by : (i ≡ j) ⊎ ((i < j) ⊎ (j < i)) → int_le (get_or xs i d) v ≡ true
    by (inl e) = subst (λ k. int_le (get_or xs k d) v ≡ true) (sym e) h
    by (inr (inl k)) =
        let below = up i j d k in' in
        let at = true_le (get_or xs j d) v h in
        let m : get_or xs i d ≤ℤ v = omega (arith, ints) in
        le_true (get_or xs i d) v m
    by (inr (inr k)) = absurd (omega arith)

-- the place of a number counts the cuts that are at most the number
pub count_at : (v : ℤ) (xs : List ℤ) (i : ℕ) → i ≤ length xs → IsPartitionPoint (λ c. int_le c v ≡ true) (λ c. int_le c v ≡ false) xs i → count_to v xs ≡ i
count_at v xs i h k = count_point (λ c. int_le c v) xs i h k

-- so many cuts are at most a cut as its place tells
pub count_cut : (xs : List ℤ) (i : ℕ) (d : ℤ) → AllPairs (λ x y. x <ℤ y) xs → i < length xs → count_to (get_or xs i d) xs ≡ i + 1
count_cut xs i d up in' = count_at (get_or xs i d) xs (i + 1) (omega arith) (before, after)
  where
    self : (x : ℤ) → x ≤ℤ x
    self x = omega (arith, ints)

    before : (k : ℕ) (e : ℤ) → 0 ≤ k → k < i + 1 → int_le (get_or xs k e) (get_or xs i d) ≡ true
    before k e _ l = by (cases_order k i)
      where
        by : (k ≡ i) ⊎ ((k < i) ⊎ (i < k)) → int_le (get_or xs k e) (get_or xs i d) ≡ true
        by (inl same) = subst (λ j. int_le (get_or xs j e) (get_or xs i d) ≡ true) (sym same) (subst (λ x. int_le x (get_or xs i d) ≡ true) (get_or_default xs i d e in') (le_true (get_or xs i d) (get_or xs i d) (self (get_or xs i d))))
        by (inr (inl m)) = subst (λ x. int_le x (get_or xs i d) ≡ true) (get_or_default xs k d e (omega arith)) (le_true (get_or xs k d) (get_or xs i d) (lt_le _ _ (up k i d m in')))
        by (inr (inr m)) = absurd (omega arith)

    after : (k : ℕ) (e : ℤ) → i + 1 ≤ k → k < length xs → int_le (get_or xs k e) (get_or xs i d) ≡ false
    after k e l m = subst (λ x. int_le x (get_or xs i d) ≡ false) (get_or_default xs k d e m) (le_false (get_or xs k d) (get_or xs i d) (up i k d (omega arith) m))
