-- Which classes occur.
use Rattle.std.proofs.Common.{◌≡◌, ℕ, ◌+◌, ◌-◌, ◌<◌, ◌≤◌, ◌⊎◌, inl, inr, true, List, length, get_or, sym, subst, arith, Option, Some, None, ℤ, pos, ◌-ℤ◌, ◌<ℤ◌, ◌≤ℤ◌}
use Rattle.std.specs.Prelude.{◌↔◌, IsTrue, nat_le}
use Rattle.std.specs.List.{Contains}
use Rattle.std.proofs.lemmas.Bool.{and_from, and_parts, cases_lt, cases_order, le-leb, leb-true}
use Rattle.std.proofs.lemmas.Bool.Decides.{Decides-int_eq}
use Rattle.std.proofs.lemmas.Int.{by_lt_z, ints}
use Rattle.std.proofs.lemmas.List.Elements.{Contains-get_or}
use Rattle.std.proofs.lemmas.Map.Made.{is_member-Decides}
use Rattle.sel_base.specs.declared.range.Range.{Range}
use Rattle.sel_range.specs.Limits.{IsAttributeNumber, least_number}
use Rattle.sel_range.specs.Classes.{cuts, class_of, last_class, Occurs, OccursByRule}
use Rattle.sel_range.specs.SortedCuts.{AreInOrder, spans_class}
use Rattle.sel_range.specs.declared.span.Span.{Span}
use Rattle.sel_range.proofs.Sorting.{count_cut}
use Rattle.sel_range.proofs.Deciding.{class_mono, class_strict, class_most}

-- class 0, and those from the class of the least number to the last
abbrev pub IsBetween : List Range → ℕ → Type 0
IsBetween tests class = (class ≡ 0) ⊎ ((class_of tests (Some least_number) ≤ class) × (class ≤ last_class tests))

least_fits : IsAttributeNumber least_number
least_fits = record { low = omega (arith, ints); high = omega (arith, ints) }

pub occurs_between : (tests : List Range) (class : ℕ) → Occurs tests class → IsBetween tests class
occurs_between tests class (None, fits, e) = inl (sym e)
occurs_between tests class (Some v, fits, e) =
    let m = class_mono tests least_number v fits.low in
    let l = class_most tests v in
    inr (omega arith, omega arith)

-- no class is above the last
pub class_last : (tests : List Range) (number : Option ℤ) → class_of tests number ≤ last_class tests
class_last tests None = omega arith
class_last tests (Some v) = let m = class_most tests v in omega arith

module _ (tests : List Range) (sorted : List ℤ) (o : AreInOrder (cuts tests) sorted) where
  -- each cut is the least number of a class
  cut_class : (k : ℕ) (d : ℤ) → k < length sorted → class_of tests (Some (get_or sorted k d)) ≡ k + 2
  cut_class k d h =
      let c = count_cut sorted k d o.ascend h in
      let e = o.count (get_or sorted k d) in
      omega arith

  pub between_occurs : (class : ℕ) → IsBetween tests class → Occurs tests class
  between_occurs class (inl e) = (None, tt, sym e)
  between_occurs class (inr h) = by (cases_order (class_of tests (Some least_number)) class)
    where
      by : (class_of tests (Some least_number) ≡ class) ⊎ ((class_of tests (Some least_number) < class) ⊎ (class < class_of tests (Some least_number))) → Occurs tests class
      by (inl e) = (Some least_number, least_fits, e)
      by (inr (inl l)) =
          let t = o.total in
          let in' : class - 2 < length sorted = omega arith in
          let c = cut_class (class - 2) (pos 0) in' in
          (Some (get_or sorted (class - 2) (pos 0)), o.numbers (class - 2) (pos 0) in', omega arith)
      by (inr (inr l)) = absurd (omega arith)

  pub last_occurs : Occurs tests (last_class tests)
  last_occurs = between_occurs (last_class tests) (inr (class_last tests (Some least_number), omega arith))

  -- where the least number is a cut, its class is above 1
  cut_above : Contains (cuts tests) least_number → 2 ≤ class_of tests (Some least_number)
  cut_above h =
      let m = (is_member-Decides Decides-int_eq (cuts tests) least_number).1 h in
      let below : (least_number -ℤ pos 1) <ℤ least_number = omega (arith, ints) in
      let s = class_strict tests least_number (least_number -ℤ pos 1) m below in
      omega arith

  pub between_rule : (class : ℕ) → IsBetween tests class → OccursByRule tests class
  between_rule class (inl e) = inl e
  between_rule class (inr h) = by (cases_order class 1)
    where
      by : (class ≡ 1) ⊎ ((class < 1) ⊎ (1 < class)) → OccursByRule tests class
      by (inl e) = inr (inl (e, λ k. let c = cut_above k in absurd (omega arith)))
      by (inr (inl l)) = absurd (omega arith)
      by (inr (inr l)) = inr (inr (omega arith, h.1))

  -- the class of the least number is 1 or 2, and 2 only where a cut is the least number
  first_above : 0 < length sorted → class_of tests (Some least_number) ≤ 2
  first_above h =
      let n = o.numbers 0 (pos 0) h in
      let m = class_mono tests least_number (get_or sorted 0 (pos 0)) n.low in
      let c = cut_class 0 (pos 0) h in
      omega arith

  none_above : (¬ Contains (cuts tests) least_number) → class_of tests (Some least_number) ≤ 1
  none_above h = by (cases_lt 0 (length sorted))
    where
      within : (k : ℕ) → k < length sorted → Contains (cuts tests) (get_or sorted k (pos 0))
      within k l = o.members (get_or sorted k (pos 0)) (Contains-get_or sorted k (pos 0) l)

      by : (0 < length sorted) ⊎ (length sorted ≤ 0) → class_of tests (Some least_number) ≤ 1
      by (inr l) =
          let t = o.total in
          let m = class_most tests least_number in
          omega arith
      by (inl l) = by_lt_z least_number (get_or sorted 0 (pos 0)) above here
        where
          above : least_number <ℤ get_or sorted 0 (pos 0) → class_of tests (Some least_number) ≤ 1
          above k =
              let m = (is_member-Decides Decides-int_eq (cuts tests) (get_or sorted 0 (pos 0))).1 (within 0 l) in
              let s = class_strict tests (get_or sorted 0 (pos 0)) least_number m k in
              let c = cut_class 0 (pos 0) l in
              omega arith

          here : get_or sorted 0 (pos 0) ≤ℤ least_number → class_of tests (Some least_number) ≤ 1
          here k =
              let n = o.numbers 0 (pos 0) l in
              let same : get_or sorted 0 (pos 0) ≡ least_number = omega (arith, ints) in
              absurd (h (subst (Contains (cuts tests)) same (within 0 l)))

  pub rule_between : (class : ℕ) → OccursByRule tests class → IsBetween tests class
  rule_between class (inl e) = inl e
  rule_between class (inr (inl h)) = let n = none_above h.1 in inr (omega arith, omega arith)
  rule_between class (inr (inr h)) =
      let t = o.total in
      let f = first_above (omega arith) in
      inr (omega arith, h.1)

-- what the code asks of a class but 0
module _ (tests : List Range) (sorted : List ℤ) (o : AreInOrder (cuts tests) sorted) (span : Span) (first : span.first ≡ class_of tests (Some least_number)) (last : span.last ≡ last_class tests) (class : ℕ) (some : class ≡ 0 → ⊥) where
  span_between : spans_class span class ≡ true → IsBetween tests class
  span_between h =
      let p = and_parts (nat_le span.first class) (nat_le class span.last) h in
      let a = leb-true span.first class p.0 in
      let b = leb-true class span.last p.1 in
      inr (omega arith, omega arith)

  between_span : IsBetween tests class → spans_class span class ≡ true
  between_span (inl e) = absurd (some e)
  between_span (inr h) =
      let a : span.first ≤ class = omega arith in
      let b : class ≤ span.last = omega arith in
      and_from (nat_le span.first class) (nat_le class span.last) (le-leb span.first class a) (le-leb class span.last b)

  pub span_value : IsTrue (spans_class span class) ↔ Occurs tests class
  span_value = (λ h. between_occurs tests sorted o class (span_between h), λ h. between_span (occurs_between tests class h))

  pub span_rule : IsTrue (spans_class span class) ↔ OccursByRule tests class
  span_rule = (λ h. between_rule tests sorted o class (span_between h), λ h. between_span (rule_between tests sorted o class h))
