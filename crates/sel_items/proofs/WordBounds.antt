-- Costs that fit words are small.
use Rattle.std.proofs.Common.{arith, ℤ, pos, ◌<ℤ◌, ◌≤ℤ◌, neg_ℤ, ◌^◌}
use Rattle.std.proofs.lemmas.Int.{ints}
use Rattle.sel_grammar.specs.Costs.{Cost}
use Rattle.sel_items.specs.declared.items.Items.{Items}
use Rattle.sel_items.specs.CostBounds.{IsBelow, AreBelow}
use Rattle.sel_items.specs.Words.{FitsWord, FitsWords}
use Rattle.sel_items.proofs.Widths.{IsBelow-47, IsBelow-49, IsBelow-50}

fits_46 : (c : Cost) → FitsWord c → IsBelow 46 c
fits_46 c h = record { first = let z = h.0 in omega arith; low = down c.second h.1; high = up c.second h.2 }
  where
    down : (y : ℤ) → neg_ℤ (pos 524288) ≤ℤ y → neg_ℤ (pos (2 ^ 46)) <ℤ y
    down y h = omega (arith, ints)

    up : (y : ℤ) → y ≤ℤ pos 524287 → y <ℤ pos (2 ^ 46)
    up y h = omega (arith, ints)

fits_48 : (c : Cost) → FitsWord c → IsBelow 48 c
fits_48 c h = record { first = let z = h.0 in omega arith; low = down c.second h.1; high = up c.second h.2 }
  where
    down : (y : ℤ) → neg_ℤ (pos 524288) ≤ℤ y → neg_ℤ (pos (2 ^ 48)) <ℤ y
    down y h = omega (arith, ints)

    up : (y : ℤ) → y ≤ℤ pos 524287 → y <ℤ pos (2 ^ 48)
    up y h = omega (arith, ints)

pub all_below_46 : (i : Items) → FitsWords i → AreBelow 46 i.entries
all_below_46 i h n item at = fits_46 item.cost (h n item at)

pub all_below_48 : (i : Items) → FitsWords i → AreBelow 48 i.entries
all_below_48 i h n item at = fits_48 item.cost (h n item at)

pub all_below_50 : (i : Items) → FitsWords i → AreBelow 50 i.entries
all_below_50 i h n item at = IsBelow-50 item.cost (IsBelow-49 item.cost (IsBelow-47 item.cost (fits_46 item.cost (h n item at))))
