-- What the code keeps of the tests: their distinct cuts in order, and for each test the classes that it holds of.
use Rattle.std.specs.Prelude.{◌≡◌, ℕ, ◌+◌, ◌≤◌, Bool, ◌&&◌, if◌then◌else◌, nat_le, ℤ, int_le, ◌<ℤ◌, List, length, map}
use Rattle.std.specs.List.{All, AllPairs, Contains, count_by, filter}
use Rattle.std.specs.Ordering.{int_eq}
use Rattle.std.specs.Set.{distinct_count}
use Rattle.sel_base.specs.declared.range.Range.{Range}
use Rattle.sel_range.specs.declared.span.Span.{Span}
use Rattle.sel_range.specs.Limits.{IsAttributeNumber, most_tests}
use Rattle.sel_range.specs.Classes.{cuts}

-- the list has the distinct ones of these cuts, from the least up
pub record AreInOrder (all sorted : List ℤ) : Type 0 where
  pub numbers : All IsAttributeNumber sorted
  pub ascend : AllPairs (λ x y. x <ℤ y) sorted
  pub count : (v : ℤ) → count_by (λ c. int_le c v) sorted ≡ distinct_count int_eq (filter (λ c. int_le c v) all)
  pub total : length sorted ≡ distinct_count int_eq all
  pub members : (c : ℤ) → Contains sorted c → Contains all c

-- the class of a number among cuts in order
abbrev pub class_among : List ℤ → ℤ → ℕ
class_among sorted v = 1 + count_by (λ c. int_le c v) sorted

-- the classes of a test's first and last number. A test that never holds has a span without classes
abbrev pub span_among : List ℤ → Range → Span
span_among sorted r = if int_le r.lo r.hi then record { first = class_among sorted r.lo; last = class_among sorted r.hi } else record { first = 1; last = 0 }

-- whether the class is in the span
abbrev pub spans_class : Span → ℕ → Bool
spans_class span class = nat_le span.first class && nat_le class span.last

-- what is kept of the tests
pub record IsKeptOf (tests : List Range) (sorted : List ℤ) (spans : List Span) : Type 0 where
  pub few : length tests ≤ most_tests
  pub ordered : AreInOrder (cuts tests) sorted
  pub spanned : spans ≡ map (span_among sorted) tests
