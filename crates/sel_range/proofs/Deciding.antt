-- A number's class tells on which side of each cut it is, and so which tests hold of it.
use Rattle.std.proofs.Common.{◌≡◌, ℕ, zero, suc, ◌+◌, ◌*◌, ◌<◌, ◌≤◌, Bool, true, false, cond, ◌&&◌, List, [], ◌∷◌, length, length-append, get_or, map, refl, ap, sym, ◌∙◌, subst, arith, Some, None, slice_get, ℤ, pos, ◌+ℤ◌, ◌<ℤ◌, ◌≤ℤ◌}
use Rattle.std.specs.Prelude.{◌↔◌, IsTrue, int_le, int_lt, nat_le}
use Rattle.std.specs.List.{filter}
use Rattle.std.specs.Ordering.{int_eq}
use Rattle.std.specs.Set.{distinct_count, is_member, unique_keys}
use Rattle.std.proofs.lemmas.Bool.{or_left, or_right}
use Rattle.std.proofs.lemmas.Bool.Decides.{Decides-int_eq, nat_tests}
use Rattle.std.proofs.lemmas.Int.{ints, by_lt_z}
use Rattle.std.proofs.lemmas.List.Folds.{list_any-append}
use Rattle.std.proofs.lemmas.List.Sums.{count_by-le-length}
use Rattle.std.proofs.lemmas.Map.Made.{distinct_count-le}
use Rattle.sel_base.specs.declared.range.Range.{Range}
use Rattle.sel_range.specs.declared.span.Span.{Span}
use Rattle.sel_range.specs.Limits.{greatest_number, most_tests}
use Rattle.sel_range.specs.Classes.{cuts, cuts_of, cuts_behind, class_of, holds, Occurs, HoldsOfClass}
use Rattle.sel_range.specs.SortedCuts.{AreInOrder, class_among, span_among, spans_class}
use Rattle.sel_range.specs.Laws.{ClassDecides, PassesByClass, ClassesAreFew}
use Rattle.sel_range.proofs.Counting.{le_true, le_false, true_le, count_mono, count_strict, distinct_to, member_unique}

-- a lesser number has no greater class
pub class_mono : (tests : List Range) (a v : ℤ) → a ≤ℤ v → class_of tests (Some a) ≤ class_of tests (Some v)
class_mono tests a v h =
    let m = count_mono (unique_keys int_eq (cuts tests)) a v h in
    let e = distinct_to a (cuts tests) in
    let f = distinct_to v (cuts tests) in
    omega arith

-- a number below a cut has a lesser class than the cut
pub class_strict : (tests : List Range) (c v : ℤ) → is_member int_eq (cuts tests) c ≡ true → v <ℤ c → class_of tests (Some v) + 1 ≤ class_of tests (Some c)
class_strict tests c v m h =
    let s = count_strict (unique_keys int_eq (cuts tests)) c v (member_unique c (cuts tests) m) h in
    let e = distinct_to v (cuts tests) in
    let f = distinct_to c (cuts tests) in
    omega arith

-- the cuts of each test are among all cuts
member_cut : (tests : List Range) (i : ℕ) (r : Range) (c : ℤ) → slice_get tests i ≡ Some r → is_member int_eq (cuts_of r) c ≡ true → is_member int_eq (cuts tests) c ≡ true
member_cut [] i r c h k = cc
member_cut (x ∷ rs) zero r c h k =
    let same : x ≡ r = some_same h in
    list_any-append (int_eq c) (cuts_of x) (cuts rs) ∙ or_left _ _ (subst (λ y. is_member int_eq (cuts_of y) c ≡ true) (sym same) k)
  where
    some_same : {A : Type 0} {x y : A} → Some x ≡ Some y → x ≡ y
    some_same h = cc
member_cut (x ∷ rs) (suc i) r c h k = list_any-append (int_eq c) (cuts_of x) (cuts rs) ∙ or_right (is_member int_eq (cuts_of x) c) _ (member_cut rs i r c h k)

self_eq : (c : ℤ) → int_eq c c ≡ true
self_eq c = (Decides-int_eq c c).1 refl

lo_cut : (r : Range) → int_le r.lo r.hi ≡ true → is_member int_eq (cuts_of r) r.lo ≡ true
lo_cut r h =
    ap (λ b. is_member int_eq (cond b (r.lo ∷ cuts_behind r.hi) []) r.lo) h
    ∙ or_left (int_eq r.lo r.lo) (is_member int_eq (cuts_behind r.hi) r.lo) (self_eq r.lo)

hi_cut : (r : Range) → int_le r.lo r.hi ≡ true → int_lt r.hi greatest_number ≡ true → is_member int_eq (cuts_of r) (r.hi +ℤ pos 1) ≡ true
hi_cut r h k =
    ap (λ b. is_member int_eq (cond b (r.lo ∷ cuts_behind r.hi) []) (r.hi +ℤ pos 1)) h
    ∙ or_right (int_eq (r.hi +ℤ pos 1) r.lo) (is_member int_eq (cuts_behind r.hi) (r.hi +ℤ pos 1))
    (ap (λ b. is_member int_eq (cond b ((r.hi +ℤ pos 1) ∷ []) []) (r.hi +ℤ pos 1)) k ∙ or_left (int_eq (r.hi +ℤ pos 1) (r.hi +ℤ pos 1)) false (self_eq (r.hi +ℤ pos 1)))

nat_le_true : (a b : ℕ) → a ≤ b → nat_le a b ≡ true
nat_le_true a b h = grind (arith, nat_tests)

nat_le_false : (a b : ℕ) → b < a → nat_le a b ≡ false
nat_le_false a b h = grind (arith, nat_tests)

module _ (tests : List Range) (i : ℕ) (r : Range) (at : slice_get tests i ≡ Some r) (some : int_le r.lo r.hi ≡ true) where
  low : (v : ℤ) → nat_le (class_of tests (Some r.lo)) (class_of tests (Some v)) ≡ int_le r.lo v
  low v = by_lt_z v r.lo under over
    where
      under : v <ℤ r.lo → nat_le (class_of tests (Some r.lo)) (class_of tests (Some v)) ≡ int_le r.lo v
      under h = let s = class_strict tests r.lo v (member_cut tests i r r.lo at (lo_cut r some)) h in nat_le_false _ _ (omega arith) ∙ sym (le_false r.lo v h)

      over : r.lo ≤ℤ v → nat_le (class_of tests (Some r.lo)) (class_of tests (Some v)) ≡ int_le r.lo v
      over h = let m = class_mono tests r.lo v h in nat_le_true _ _ m ∙ sym (le_true r.lo v h)

  high : (v : ℤ) → v ≤ℤ greatest_number → nat_le (class_of tests (Some v)) (class_of tests (Some r.hi)) ≡ int_le v r.hi
  high v fits = by_lt_z r.hi v over under
    where
      up : (x : ℤ) → x <ℤ (x +ℤ pos 1)
      up x = omega (arith, ints)

      inside : (x y z : ℤ) → x <ℤ y → y ≤ℤ z → int_lt x z ≡ true
      inside x y z h k = grind (arith, ints)

      over : r.hi <ℤ v → nat_le (class_of tests (Some v)) (class_of tests (Some r.hi)) ≡ int_le v r.hi
      over h =
          let next : (r.hi +ℤ pos 1) ≤ℤ v = omega (arith, ints) in
          let c = member_cut tests i r (r.hi +ℤ pos 1) at (hi_cut r some (inside r.hi v greatest_number h fits)) in
          let s = class_strict tests (r.hi +ℤ pos 1) r.hi c (up r.hi) in
          let m = class_mono tests (r.hi +ℤ pos 1) v next in
          nat_le_false _ _ (omega arith) ∙ sym (le_false v r.hi h)

      under : v ≤ℤ r.hi → nat_le (class_of tests (Some v)) (class_of tests (Some r.hi)) ≡ int_le v r.hi
      under h = let m = class_mono tests v r.hi h in nat_le_true _ _ m ∙ sym (le_true v r.hi h)

none_between : (x y z : ℤ) → int_le x y ≡ false → (int_le x z && int_le z y) ≡ false
none_between x y z h = by (int_le x z) (int_le z y) refl refl
  where
    by : (p q : Bool) → int_le x z ≡ p → int_le z y ≡ q → (p && q) ≡ false
    by true true a b =
        let l = true_le x z a in
        let m = true_le z y b in
        let k : x ≤ℤ y = omega (arith, ints) in
        let t = le_true x y k in
        cc
    by true false a b = refl
    by false q a b = refl

and_none : (p q : Bool) → (p && (false && q)) ≡ false
and_none true q = refl
and_none false q = refl

pub class_decides : ClassDecides
class_decides tests i r None at fits =
    ap (λ b. int_le r.lo r.hi && (b && nat_le 0 (class_of tests (Some r.hi)))) (nat_le_false (class_of tests (Some r.lo)) 0 (omega arith))
    ∙ and_none (int_le r.lo r.hi) (nat_le 0 (class_of tests (Some r.hi)))
class_decides tests i r (Some v) at fits = go (int_le r.lo r.hi) refl
  where
    go : (b : Bool) → int_le r.lo r.hi ≡ b → holds tests (class_of tests (Some v)) r ≡ (int_le r.lo v && int_le v r.hi)
    go true k = ap (λ b. b && (nat_le (class_of tests (Some r.lo)) (class_of tests (Some v)) && nat_le (class_of tests (Some v)) (class_of tests (Some r.hi)))) k ∙ (λ j. low tests i r at k v j && high tests i r at k v fits.high j)
    go false k = ap (λ b. b && (nat_le (class_of tests (Some r.lo)) (class_of tests (Some v)) && nat_le (class_of tests (Some v)) (class_of tests (Some r.hi)))) k ∙ sym (none_between r.lo r.hi v k)

pub passes_by_class : PassesByClass
passes_by_class tests i r a b at here there same =
    sym (class_decides tests i r a at here) ∙ ap (λ class. holds tests class r) same ∙ class_decides tests i r b at there

two_cuts : (r : Range) → length (cuts_of r) ≤ 2
two_cuts r = by (int_le r.lo r.hi) (int_lt r.hi greatest_number)
  where
    by : (a b : Bool) → length (cond a (r.lo ∷ cond b ((r.hi +ℤ pos 1) ∷ []) []) []) ≤ 2
    by true true = omega arith
    by true false = omega arith
    by false b = omega arith

few_cuts : (tests : List Range) → length (cuts tests) ≤ 2 * length tests
few_cuts [] = omega arith
few_cuts (r ∷ rs) =
    let e = length-append (cuts_of r) (cuts rs) in
    let t = two_cuts r in
    let f = few_cuts rs in
    omega arith

pub few_distinct : (tests : List Range) → length tests ≤ most_tests → distinct_count int_eq (cuts tests) ≤ 2 * most_tests
few_distinct tests h =
    let d = distinct_count-le int_eq (cuts tests) in
    let f = few_cuts tests in
    omega arith

pub class_most : (tests : List Range) (v : ℤ) → distinct_count int_eq (filter (λ c. int_le c v) (cuts tests)) ≤ distinct_count int_eq (cuts tests)
class_most tests v =
    let e = distinct_to v (cuts tests) in
    let l = count_by-le-length (λ c. int_le c v) (unique_keys int_eq (cuts tests)) in
    omega arith

pub classes_are_few : ClassesAreFew
classes_are_few tests None h = omega arith
classes_are_few tests (Some v) h =
    let m = class_most tests v in
    let f = few_distinct tests h in
    omega arith

-- the span that the code keeps of a test decides its classes
pub span_decides : (tests : List Range) (sorted : List ℤ) (r : Range) (class : ℕ) → AreInOrder (cuts tests) sorted → spans_class (span_among sorted r) class ≡ holds tests class r
span_decides tests sorted r class o = by (int_le r.lo r.hi)
  where
    same : (v : ℤ) → class_among sorted v ≡ class_of tests (Some v)
    same v = ap (λ n. 1 + n) (o.count v)

    none : (nat_le 1 class && nat_le class 0) ≡ false
    none = grind (arith, nat_tests)

    by : (b : Bool) → spans_class (cond b (record { first = class_among sorted r.lo; last = class_among sorted r.hi }) (record { first = 1; last = 0 })) class
        ≡ (b && (nat_le (class_of tests (Some r.lo)) class && nat_le class (class_of tests (Some r.hi))))
    by true = λ j. nat_le (same r.lo j) class && nat_le class (same r.hi j)
    by false = none

-- where a class occurs, the rule says what holds of everything that has it
pub holds_every : (tests : List Range) (i : ℕ) (r : Range) (class : ℕ) → slice_get tests i ≡ Some r → Occurs tests class → IsTrue (holds tests class r) ↔ HoldsOfClass tests class r
holds_every tests i r class at (value, fits, e) = (every, one)
  where
    every : holds tests class r ≡ true → HoldsOfClass tests class r
    every h number here same = sym (class_decides tests i r number at here) ∙ ap (λ k. holds tests k r) same ∙ h

    one : HoldsOfClass tests class r → holds tests class r ≡ true
    one h = ap (λ k. holds tests k r) (sym e) ∙ class_decides tests i r value at fits ∙ h value fits e

-- what is kept has at most two cuts a test
pub few_sorted : (tests : List Range) (sorted : List ℤ) → length tests ≤ most_tests → AreInOrder (cuts tests) sorted → length sorted ≤ 2 * most_tests
few_sorted tests sorted h o =
    let t = o.total in
    let f = few_distinct tests h in
    omega arith

-- the span of a test that holds of some number
pub span_is : (sorted : List ℤ) (r : Range) (first last : ℕ) → r.lo ≤ℤ r.hi → first ≡ class_among sorted r.lo → last ≡ class_among sorted r.hi
    → ◌≡◌ {A = Span} (record { first = first; last = last }) (span_among sorted r)
span_is sorted r first last h e f =
    (λ i. record { first = e i; last = f i })
    ∙ sym (ap (λ b. cond b (record { first = class_among sorted r.lo; last = class_among sorted r.hi }) (record { first = 1; last = 0 })) (le_true r.lo r.hi h))

-- the span at a test's place is the test's
pub span_at : (sorted : List ℤ) (tests : List Range) (i : ℕ) (r : Range) (d : Span) → slice_get tests i ≡ Some r → get_or (map (span_among sorted) tests) i d ≡ span_among sorted r
span_at sorted [] i r d h = cc
span_at sorted (x ∷ rs) zero r d h = ap (span_among sorted) (some_same h)
  where
    some_same : {A : Type 0} {x y : A} → Some x ≡ Some y → x ≡ y
    some_same h = cc
span_at sorted (x ∷ rs) (suc i) r d h = span_at sorted rs i r d h
