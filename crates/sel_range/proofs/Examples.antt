-- A row of three tests, worked by hand. The cuts are 100, the least number, -2,048 twice, and 2,048, so that 4 are distinct.
use Rattle.std.proofs.Common.{◌≡◌, List, [], ◌∷◌, Some, None, true, false, refl, pos, negsuc}
use Rattle.sel_base.specs.declared.range.Range.{Range}
use Rattle.sel_range.specs.Limits.{least_number, greatest_number}
use Rattle.sel_range.specs.Classes.{class_of, cuts, holds, last_class, passes}

abbrev high : Range
high = record { lo = pos 100; hi = greatest_number }

abbrev low : Range
low = record { lo = least_number; hi = negsuc 2048 }

abbrev middle : Range
middle = record { lo = negsuc 2047; hi = pos 2047 }

abbrev row : List Range
row = high ∷ low ∷ middle ∷ []

cuts_of_row : cuts row ≡ pos 100 ∷ least_number ∷ negsuc 2047 ∷ negsuc 2047 ∷ pos 2048 ∷ []
cuts_of_row = refl

last_of_row : last_class row ≡ 5
last_of_row = refl

class_of_-2048 : class_of row (Some (negsuc 2047)) ≡ 3
class_of_-2048 = refl

class_of_-2049 : class_of row (Some (negsuc 2048)) ≡ 2
class_of_-2049 = refl

class_of_greatest : class_of row (Some greatest_number) ≡ 5
class_of_greatest = refl

class_of_least : class_of row (Some least_number) ≡ 2
class_of_least = refl

class_of_100 : class_of row (Some (pos 100)) ≡ 4
class_of_100 = refl

class_of_99 : class_of row (Some (pos 99)) ≡ 3
class_of_99 = refl

class_of_none : class_of row None ≡ 0
class_of_none = refl

-- a test that ends before it begins has no cuts, and never holds
abbrev never : Range
never = record { lo = pos 5; hi = pos 3 }

cuts_of_never : cuts (never ∷ []) ≡ []
cuts_of_never = refl

never_holds : holds (never ∷ []) 1 never ≡ false
never_holds = refl

never_passes : passes never (Some (pos 4)) ≡ false
never_passes = refl

-- the whole range has one cut, the least number, and so no class 1
abbrev whole : Range
whole = record { lo = least_number; hi = greatest_number }

cuts_of_whole : cuts (whole ∷ []) ≡ least_number ∷ []
cuts_of_whole = refl

whole_holds : holds (whole ∷ []) 2 whole ≡ true
whole_holds = refl
