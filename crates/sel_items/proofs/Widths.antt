-- Costs below one bound are below a greater one.
use Rattle.std.proofs.Common.{◌≡◌, Option, Some, None, sym, ap, subst, ◌≡◌, ℕ, ◌<◌, ◌^◌, arith, ℤ, pos, ◌+ℤ◌, ◌<ℤ◌, neg_ℤ, refl}
use Rattle.std.proofs.lemmas.Int.{ints}
use Rattle.sel_grammar.specs.declared.grammar.RuleCost.{RuleCost}
use Rattle.sel_grammar.specs.Costs.{Cost, ◌⊕◌, paid}
use Rattle.sel_items.specs.declared.items.Item.{Item}
use Rattle.sel_items.specs.Entries.{ItemRow, item_at}
use Rattle.sel_items.specs.Evaluating.{IsBelowIn}
use Rattle.sel_items.specs.Follows.{item_cost}
use Rattle.sel_items.specs.Offers.{offer_for, IsCheap}
use Rattle.sel_normal.proofs.Steps.{some_same, some_none}
use Rattle.sel_items.specs.CostBounds.{IsBelow, AreBelow}

pub IsBelow-47 : (c : Cost) → IsBelow 46 c → IsBelow 47 c
IsBelow-47 c b = record { first = let z = b.first in omega arith; low = down c.second b.low; high = up c.second b.high }
  where
    down : (y : ℤ) → neg_ℤ (pos (2 ^ 46)) <ℤ y → neg_ℤ (pos (2 ^ 47)) <ℤ y
    down y h = omega (arith, ints)

    up : (y : ℤ) → y <ℤ pos (2 ^ 46) → y <ℤ pos (2 ^ 47)
    up y h = omega (arith, ints)

pub IsBelow-49 : (c : Cost) → IsBelow 47 c → IsBelow 49 c
IsBelow-49 c b = record { first = let z = b.first in omega arith; low = down c.second b.low; high = up c.second b.high }
  where
    down : (y : ℤ) → neg_ℤ (pos (2 ^ 47)) <ℤ y → neg_ℤ (pos (2 ^ 49)) <ℤ y
    down y h = omega (arith, ints)

    up : (y : ℤ) → y <ℤ pos (2 ^ 47) → y <ℤ pos (2 ^ 49)
    up y h = omega (arith, ints)

pub IsBelow-50 : (c : Cost) → IsBelow 49 c → IsBelow 50 c
IsBelow-50 c b = record { first = let z = b.first in omega arith; low = down c.second b.low; high = up c.second b.high }
  where
    down : (y : ℤ) → neg_ℤ (pos (2 ^ 49)) <ℤ y → neg_ℤ (pos (2 ^ 50)) <ℤ y
    down y h = omega (arith, ints)

    up : (y : ℤ) → y <ℤ pos (2 ^ 49) → y <ℤ pos (2 ^ 50)
    up y h = omega (arith, ints)

pub IsBelow-priced : (p : RuleCost) (c : Cost) → p.first < 2 ^ 16 → p.second < 2 ^ 16 → IsBelow 47 c → IsBelow 48 (paid p ⊕ c)
IsBelow-priced p c h k b = record { first = let z = b.first in omega arith; low = down p.second c.second b.low; high = up p.second c.second k b.high }
  where
    down : (x : ℕ) (y : ℤ) → neg_ℤ (pos (2 ^ 47)) <ℤ y → neg_ℤ (pos (2 ^ 48)) <ℤ (pos x +ℤ y)
    down x y h = omega (arith, ints)

    up : (x : ℕ) (y : ℤ) → x < 2 ^ 16 → y <ℤ pos (2 ^ 47) → (pos x +ℤ y) <ℤ pos (2 ^ 48)
    up x y h k = omega (arith, ints)

pub wider_61 : (row : ItemRow) → AreBelow 49 row → AreBelow 61 row
wider_61 row h n item e =
    let b = h n item e in
    record { first = let z = b.first in omega arith; low = down (item.cost).second b.low; high = up (item.cost).second b.high }
  where
    down : (y : ℤ) → neg_ℤ (pos (2 ^ 49)) <ℤ y → neg_ℤ (pos (2 ^ 61)) <ℤ y
    down y h = omega (arith, ints)

    up : (y : ℤ) → y <ℤ pos (2 ^ 49) → y <ℤ pos (2 ^ 61)
    up y h = omega (arith, ints)

pub IsBelow-paid : (p : RuleCost) (c : Cost) → p.first < 2 ^ 16 → p.second < 2 ^ 16 → IsBelow 49 c → IsBelow 61 (paid p ⊕ c)
IsBelow-paid p c h k b = record { first = let z = b.first in omega arith; low = down p.second c.second b.low; high = up p.second c.second k b.high }
  where
    down : (x : ℕ) (y : ℤ) → neg_ℤ (pos (2 ^ 49)) <ℤ y → neg_ℤ (pos (2 ^ 61)) <ℤ (pos x +ℤ y)
    down x y h = omega (arith, ints)

    up : (x : ℕ) (y : ℤ) → x < 2 ^ 16 → y <ℤ pos (2 ^ 49) → (pos x +ℤ y) <ℤ pos (2 ^ 61)
    up x y h k = omega (arith, ints)

-- what the entries of a row cost is as small as the row says
pub cost_below : (b : ℕ) (row : ItemRow) (n : ℕ) → AreBelow b row → IsBelowIn b (item_cost (item_at row n))
cost_below b row n all = go (item_at row n) refl
  where
    go : (o : Option Item) → item_at row n ≡ o → IsBelowIn b (item_cost o)
    go None at c h = absurd (some_none (sym h))
    go (Some item) at c h = subst (IsBelow b) (some_same h) (all n item at)

-- what an offer is made of
pub offer_parts : (price : RuleCost) (r : ℕ) (o : Option Cost) (item : Item) → offer_for price r o ≡ Some item → (k : Cost) × (o ≡ Some k) × (item.cost ≡ paid price ⊕ k) × (item.rule ≡ r)
offer_parts price r None item h = absurd (some_none (sym h))
offer_parts price r (Some k) item h = let q = some_same h in (k, refl, sym (ap (λ (x : Item). x.cost) q), sym (ap (λ (x : Item). x.rule) q))

pub offer_below_61 : (price : RuleCost) (r : ℕ) (o : Option Cost) (item : Item) → offer_for price r o ≡ Some item → IsCheap price → IsBelowIn 49 o → IsBelow 61 item.cost
offer_below_61 price r o item h cheap low = let p = offer_parts price r o item h in subst (IsBelow 61) (sym p.2) (IsBelow-paid price p.0 cheap.0 cheap.1 (low p.0 p.1))

pub offer_below_48 : (price : RuleCost) (r : ℕ) (o : Option Cost) (item : Item) → offer_for price r o ≡ Some item → IsCheap price → IsBelowIn 47 o → IsBelow 48 item.cost
offer_below_48 price r o item h cheap low = let p = offer_parts price r o item h in subst (IsBelow 48) (sym p.2) (IsBelow-priced price p.0 cheap.0 cheap.1 (low p.0 p.1))
