-- How many entries of a row cost no more than something.
use Rattle.std.proofs.Common.{◌≡◌, ◌≤◌, ◌⊎◌, inl, inr, Bool, true, false, if◌then◌else◌, [], ◌∷◌, length, ap, arith, Option, Some, None}
use Rattle.std.proofs.lemmas.List.Sums.{sum_by-cons, sum_by-le-sum_by}
use Rattle.sel_grammar.specs.Costs.{Cost, IsCheaper}
use Rattle.sel_plain.specs.declared.entry.Entry.{Entry}
use Rattle.sel_plain.specs.CostBounds.{IsNoDearer, is_dearer}
use Rattle.sel_plain.specs.Rows.{Row}
use Rattle.sel_plain.specs.Bettering.{counts_to, count_to}
use Rattle.sel_plain.proofs.CostBoundLaws.{dearer_true, dearer_false, dearer_or_not, NoDearer-trans}

pub counted : (c : Cost) (e : Entry) → IsNoDearer e.cost c → counts_to c (Some e) ≡ 1
counted c e h = ap (λ x. if x then 0 else 1) (dearer_false e.cost c h)

pub uncounted : (c : Cost) (e : Entry) → IsCheaper c e.cost → counts_to c (Some e) ≡ 0
uncounted c e h = ap (λ x. if x then 0 else 1) (dearer_true e.cost c h)

pub counts_to_le : (c : Cost) (o : Option Entry) → counts_to c o ≤ 1
counts_to_le c None = omega arith
counts_to_le c (Some e) = go (is_dearer e.cost c)
  where
    go : (b : Bool) → (if b then 0 else 1) ≤ 1
    go true = omega arith
    go false = omega arith

pub count_to_le : (c : Cost) (row : Row) → count_to c row ≤ length row
count_to_le c [] = omega arith
count_to_le c (o ∷ row) = let x = counts_to_le c o in let y = count_to_le c row in omega (arith, sum_by-cons (counts_to c) o row)

counts_to_more : (a b : Cost) (o : Option Entry) → IsNoDearer a b → counts_to a o ≤ counts_to b o
counts_to_more a b None h = omega arith
counts_to_more a b (Some e) h = go (dearer_or_not e.cost a)
  where
    go : IsCheaper a e.cost ⊎ IsNoDearer e.cost a → counts_to a (Some e) ≤ counts_to b (Some e)
    go (inl k) = let x = uncounted a e k in omega arith
    go (inr k) = let x = counted b e (NoDearer-trans e.cost a b k h) in let y = counts_to_le a (Some e) in omega arith

pub count_to_more : (a b : Cost) (row : Row) → IsNoDearer a b → count_to a row ≤ count_to b row
count_to_more a b row h = sum_by-le-sum_by (counts_to a) (counts_to b) row (λ o. counts_to_more a b o h)

-- an entry that is no dearer counts where the other does
pub counts_sooner : (c : Cost) (e f : Entry) → IsNoDearer f.cost e.cost → counts_to c (Some e) ≤ counts_to c (Some f)
counts_sooner c e f h = go (dearer_or_not e.cost c)
  where
    go : IsCheaper c e.cost ⊎ IsNoDearer e.cost c → counts_to c (Some e) ≤ counts_to c (Some f)
    go (inl k) = let x = uncounted c e k in omega arith
    go (inr k) = let x = counted c f (NoDearer-trans f.cost e.cost c h k) in let y = counts_to_le c (Some e) in omega arith
