-- The classes of the list occur.
use Rattle.std.proofs.Common.{◌≡◌, ℕ, zero, suc, ◌+◌, ◌-◌, ◌<◌, ◌≤◌, ◌⊎◌, inl, inr, Bool, List, slice_get, refl, sym, ◌∙◌, arith, Some, pos, ◌-ℤ◌, ◌<ℤ◌}
use Rattle.std.specs.Prelude.{◌↔◌, IsTrue}
use Rattle.std.specs.List.{Contains, range_with_len}
use Rattle.std.proofs.lemmas.Bool.{cases_order}
use Rattle.std.proofs.lemmas.Bool.Decides.{Decides-int_eq}
use Rattle.std.proofs.lemmas.Int.{ints}
use Rattle.std.proofs.lemmas.List.FromFn.{length-range_with_len}
use Rattle.std.proofs.lemmas.Map.Made.{is_member-Decides}
use Rattle.std.proofs.lemmas.Option.{slice_get_within}
use Rattle.sel_base.specs.declared.range.Range.{Range}
use Rattle.sel_normal.proofs.Steps.{some_same}
use Rattle.sel_range.specs.Limits.{least_number}
use Rattle.sel_range.specs.Classes.{cuts, class_of, last_class, Occurs, OccursByRule}
use Rattle.sel_range.proofs.Deciding.{class_strict}
use Rattle.sel_range.proofs.Occurring.{IsBetween}
use Rattle.sel_full.specs.Tables.{occurring}
use Rattle.sel_full.proofs.Counts.{get_range}

-- where the least number is a cut, its class is above 1
cut_above : (tests : List Range) → Contains (cuts tests) least_number → 2 ≤ class_of tests (Some least_number)
cut_above tests h =
    let m = (is_member-Decides Decides-int_eq (cuts tests) least_number).1 h in
    let below : (least_number -ℤ pos 1) <ℤ least_number = omega (arith, ints) in
    let s = class_strict tests least_number (least_number -ℤ pos 1) m below in
    omega arith

between_rule : (tests : List Range) (class : ℕ) → IsBetween tests class → OccursByRule tests class
between_rule tests class (inl e) = inl e
between_rule tests class (inr h) = by (cases_order class 1)
  where
    by : (class ≡ 1) ⊎ ((class < 1) ⊎ (1 < class)) → OccursByRule tests class
    by (inl e) = inr (inl (e, λ k. let c = cut_above tests k in absurd (omega arith)))
    by (inr (inl l)) = absurd (omega arith)
    by (inr (inr l)) = inr (inr (omega arith, h.1))

place_between : (tests : List Range) (p class : ℕ) → slice_get (occurring tests) p ≡ Some class → IsBetween tests class
place_between tests zero class h = inl (sym (some_same h))
place_between tests (suc k) class h = go (class_of tests (Some least_number)) (last_class tests) (last_class tests + 1 - class_of tests (Some least_number)) refl refl refl h
  where
    go : (f l n : ℕ) → class_of tests (Some least_number) ≡ f → last_class tests ≡ l → last_class tests + 1 - class_of tests (Some least_number) ≡ n → slice_get (range_with_len f n) k ≡ Some class → IsBetween tests class
    go f l n e q r at =
        let w = slice_get_within (range_with_len f n) k class at in
        let m = length-range_with_len f n in
        let s : f + k ≡ class = some_same (sym (get_range n f k (omega arith)) ∙ at) in
        inr (omega arith, omega arith)

pub class_occurs : (tests : List Range) (p class : ℕ) (b : Bool) → IsTrue b ↔ Occurs tests class → IsTrue b ↔ OccursByRule tests class → slice_get (occurring tests) p ≡ Some class → Occurs tests class
class_occurs tests p class b value rule h = value.0 (rule.1 (between_rule tests class (place_between tests p class h)))
