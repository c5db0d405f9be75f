-- Which class a number is in, which classes occur, and which tests hold of a class.
use Rattle.std.specs.Prelude.{◌≡◌, ℕ, ◌+◌, ◌≤◌, ◌⊎◌, Bool, false, ◌&&◌, if◌then◌else◌, IsTrue, nat_le, ℤ, pos, ◌+ℤ◌, int_le, int_lt, Option, Some, None, List, [], ◌∷◌}
use Rattle.std.specs.List.{Contains, filter, flat_map}
use Rattle.std.specs.Ordering.{int_eq}
use Rattle.std.specs.Set.{distinct_count}
use Rattle.sel_base.specs.declared.range.Range.{Range}
use Rattle.sel_range.specs.Limits.{IsAttributeValue, least_number, greatest_number}

-- the cut behind a test's last number: the next number, if it is a signed 64-bit one
abbrev pub cuts_behind : ℤ → List ℤ
cuts_behind hi = if int_lt hi greatest_number then (hi +ℤ pos 1) ∷ [] else []

-- the cuts of a test: its first number, and the one behind its last. A test that never holds has none
abbrev pub cuts_of : Range → List ℤ
cuts_of r = if int_le r.lo r.hi then r.lo ∷ cuts_behind r.hi else []

-- the cuts of all tests, one after the other
abbrev pub cuts : List Range → List ℤ
cuts tests = flat_map cuts_of tests

-- the class of a number: 1 plus how many distinct cuts are at most the number. Without a number it is 0
abbrev pub class_of : List Range → Option ℤ → ℕ
class_of tests None = 0
class_of tests (Some v) = 1 + distinct_count int_eq (filter (λ c. int_le c v) (cuts tests))

-- the greatest class: 1 plus the number of distinct cuts
abbrev pub last_class : List Range → ℕ
last_class tests = 1 + distinct_count int_eq (cuts tests)

-- some attribute, or the absence of one, has the class
abbrev pub Occurs : List Range → ℕ → Type 0
Occurs tests class = (number : Option ℤ) × IsAttributeValue number × (class_of tests number ≡ class)

-- the same by a rule: class 0, class 1 where no cut is the least number, and each class from 2 to the last
abbrev pub OccursByRule : List Range → ℕ → Type 0
OccursByRule tests class = (class ≡ 0) ⊎ ((class ≡ 1) × (¬ Contains (cuts tests) least_number)) ⊎ ((2 ≤ class) × (class ≤ last_class tests))

-- whether a test holds of an attribute: it needs a number, from the test's first to its last
abbrev pub passes : Range → Option ℤ → Bool
passes r None = false
passes r (Some v) = int_le r.lo v && int_le v r.hi

-- the test holds of every attribute, or absence of one, that has the class
abbrev pub HoldsOfClass : List Range → ℕ → Range → Type 0
HoldsOfClass tests class r = (number : Option ℤ) → IsAttributeValue number → class_of tests number ≡ class → IsTrue (passes r number)

-- the same of a class that occurs, for a test among the tests: the class is one from that of the test's first number to that of its last
abbrev pub holds : List Range → ℕ → Range → Bool
holds tests class r = int_le r.lo r.hi && (nat_le (class_of tests (Some r.lo)) class && nat_le class (class_of tests (Some r.hi)))
