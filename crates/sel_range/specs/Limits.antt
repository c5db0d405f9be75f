-- The limits of classes, and of the numbers that attributes have.
use Rattle.std.specs.Prelude.{ℕ, ℤ, pos, negsuc, ◌≤ℤ◌, Option, Some, None}
use Rattle.sel_range.specs.declared.limits.TheConstants.{MOST_TESTS, GREATEST_CLASS}

-- how many tests there may be: as many as a grammar has rules
abbrev pub most_tests : ℕ
most_tests = MOST_TESTS

-- the greatest class that any tests give, which have two cuts each
abbrev pub greatest_class : ℕ
greatest_class = GREATEST_CLASS

-- the least signed 64-bit number, -9,223,372,036,854,775,808
abbrev pub least_number : ℤ
least_number = negsuc 9223372036854775807

-- the greatest signed 64-bit number
abbrev pub greatest_number : ℤ
greatest_number = pos 9223372036854775807

-- a signed 64-bit number, as attributes have
pub record IsAttributeNumber (v : ℤ) : Type 0 where
  pub low : least_number ≤ℤ v
  pub high : v ≤ℤ greatest_number

-- no number, or a signed 64-bit one: an attribute that is absent or a symbol has none
abbrev pub IsAttributeValue : Option ℤ → Type 0
IsAttributeValue None = Unit {0}
IsAttributeValue (Some v) = IsAttributeNumber v
