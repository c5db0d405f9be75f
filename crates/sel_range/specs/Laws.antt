-- Laws of classes.
use Rattle.std.specs.Prelude.{◌≡◌, ℕ, ◌≤◌, ℤ, Option, Some, List, length, slice_get}
use Rattle.sel_base.specs.declared.range.Range.{Range}
use Rattle.sel_range.specs.Classes.{class_of, holds, passes}
use Rattle.sel_range.specs.Limits.{IsAttributeValue, most_tests, greatest_class}

-- a test holds of a number's class exactly where it holds of the number
abbrev pub ClassDecides : Type 0
ClassDecides = (tests : List Range) (i : ℕ) (r : Range) (number : Option ℤ) → slice_get tests i ≡ Some r → IsAttributeValue number → holds tests (class_of tests number) r ≡ passes r number

-- all numbers of one class pass the same tests: whether a test holds rests on the class alone
abbrev pub PassesByClass : Type 0
PassesByClass = (tests : List Range) (i : ℕ) (r : Range) (a b : Option ℤ) → slice_get tests i ≡ Some r → IsAttributeValue a → IsAttributeValue b → class_of tests a ≡ class_of tests b → passes r a ≡ passes r b

-- no class is above the greatest
abbrev pub ClassesAreFew : Type 0
ClassesAreFew = (tests : List Range) (number : Option ℤ) → length tests ≤ most_tests → class_of tests number ≤ greatest_class
