-- Entries of a row that is read and written place by place.
use Rattle.std.proofs.Common.{◌≡◌, ℕ, zero, suc, ◌+◌, ◌<◌, ◌≤◌, ◌⊎◌, inl, inr, [], ◌∷◌, length, map, refl, ap, subst, sym, ◌∙◌, Option, Some, None, arith}
use Rattle.std.specs.Prelude.{slice_set}
use Rattle.sel_base.proofs.Shared.Bettering.{place_at-set_same, place_at-set_other}
use Rattle.sel_grammar.specs.Costs.{Cost, no_cost, ◌⊕◌, IsCheaper}
use Rattle.sel_grammar.proofs.CostLaws.{cheaper_not_same, cheaper_trans, cheaper_same, same_cheaper, right_cheaper, sum_none, sum_same}
use Rattle.sel_items.specs.declared.items.Item.{Item}
use Rattle.sel_items.specs.Entries.{ItemRow, item_at, raised, IsReduced}
use Rattle.sel_items.specs.LeastCosts.{LeastCost, WithEntry}
use Rattle.sel_normal.proofs.Steps.{some_same, some_none}

pub length-slice_set : (row : ItemRow) (n : ℕ) (o : Option Item) → length (slice_set row n o) ≡ length row
length-slice_set [] n o = refl
length-slice_set (x ∷ row) zero o = refl
length-slice_set (x ∷ row) (suc n) o = ap suc (length-slice_set row n o)

pub item_at-map : (f : Option Item → Option Item) (row : ItemRow) (n : ℕ) → f None ≡ None → item_at (map f row) n ≡ f (item_at row n)
item_at-map f [] n h = sym h
item_at-map f (x ∷ row) zero h = refl
item_at-map f (x ∷ row) (suc n) h = item_at-map f row n h

pub no_entry : (row : ItemRow) (n : ℕ) → length row ≤ n → item_at row n ≡ None
no_entry [] n h = refl
no_entry (x ∷ row) zero h = absurd (omega arith)
no_entry (x ∷ row) (suc n) h = no_entry row n (omega arith)

pub below_or_not : (a b : ℕ) → (a < b) ⊎ (b ≤ a)
below_or_not a b = grind arith

pub below_or_at : (k n : ℕ) → k < n + 1 → (k < n) ⊎ (n ≡ k)
below_or_at k n h = grind arith

-- the least cost of the entries before the n-th
abbrev pub LeastBelow : ItemRow → ℕ → Option Cost → Type 0
LeastBelow row n None = (k : ℕ) → k < n → item_at row k ≡ None
LeastBelow row n (Some c) = ((k : ℕ) × (item : Item) × (item_at row k ≡ Some item) × (item.cost ≡ c)) × ((k : ℕ) (item : Item) → k < n → item_at row k ≡ Some item → IsCheaper item.cost c → ⊥)

pub least_more : (row : ItemRow) (n : ℕ) (o : Option Cost) (e : Option Item) (r : Option Cost) → item_at row n ≡ e → LeastBelow row n o → WithEntry o e r → LeastBelow row (n + 1) r
least_more row n o None r at h w = subst (LeastBelow row (n + 1)) (sym w) (go o h)
  where
    none_at : (k : ℕ) → (n ≡ k) → item_at row k ≡ None
    none_at k q = ap (item_at row) (sym q) ∙ at

    go : (o : Option Cost) → LeastBelow row n o → LeastBelow row (n + 1) o
    go None h = λ k l. pick k (below_or_at k n l)
      where
        pick : (k : ℕ) → (k < n) ⊎ (n ≡ k) → item_at row k ≡ None
        pick k (inl b) = h k b
        pick k (inr q) = none_at k q
    go (Some c) h = (h.0, λ k item l is low. pick k item (below_or_at k n l) is low)
      where
        pick : (k : ℕ) (item : Item) → (k < n) ⊎ (n ≡ k) → item_at row k ≡ Some item → IsCheaper item.cost c → ⊥
        pick k item (inl b) is low = h.1 k item b is low
        pick k item (inr q) is low = some_none (sym is ∙ none_at k q)
least_more row n o (Some item) None at h w = absurd w
least_more row n None (Some item) (Some r) at h w = ((n, item, at, sym w), λ k other l is low. go k other (below_or_at k n l) is low)
  where
    go : (k : ℕ) (other : Item) → (k < n) ⊎ (n ≡ k) → item_at row k ≡ Some other → IsCheaper other.cost r → ⊥
    go k other (inl b) is low = some_none (sym is ∙ h k b)
    go k other (inr q) is low =
        let same : item ≡ other = some_same (sym at ∙ ap (item_at row) q ∙ is) in
        cheaper_not_same other.cost r low (w ∙ ap (λ (x : Item). x.cost) same)
least_more row n (Some a) (Some item) (Some r) at h (inl w) = ((n, item, at, sym w.0), λ k other l is low. go k other (below_or_at k n l) is low)
  where
    go : (k : ℕ) (other : Item) → (k < n) ⊎ (n ≡ k) → item_at row k ≡ Some other → IsCheaper other.cost r → ⊥
    go k other (inl b) is low = h.1 k other b is (cheaper_trans other.cost r a low (same_cheaper r item.cost a w.0 w.1))
    go k other (inr q) is low =
        let same : item ≡ other = some_same (sym at ∙ ap (item_at row) q ∙ is) in
        cheaper_not_same other.cost r low (w.0 ∙ ap (λ (x : Item). x.cost) same)
least_more row n (Some a) (Some item) (Some r) at h (inr w) =
    (((h.0).0, (h.0).1, (h.0).2, (h.0).3 ∙ sym w.0), λ k other l is low. go k other (below_or_at k n l) is (cheaper_same other.cost r a low w.0))
  where
    go : (k : ℕ) (other : Item) → (k < n) ⊎ (n ≡ k) → item_at row k ≡ Some other → IsCheaper other.cost a → ⊥
    go k other (inl b) is low = h.1 k other b is low
    go k other (inr q) is low =
        let same : other ≡ item = some_same (sym is ∙ ap (item_at row) (sym q) ∙ at) in
        w.1 (subst (λ (x : Item). IsCheaper x.cost a) same low)

pub least_all : (row : ItemRow) (o : Option Cost) → LeastBelow row (length row) o → LeastCost row o
least_all row None h = λ n. go n (below_or_not n (length row))
  where
    go : (n : ℕ) → (n < length row) ⊎ (length row ≤ n) → item_at row n ≡ None
    go n (inl b) = h n b
    go n (inr b) = no_entry row n b
least_all row (Some c) h = (h.0, λ n item is low. go n item (below_or_not n (length row)) is low)
  where
    go : (n : ℕ) (item : Item) → (n < length row) ⊎ (length row ≤ n) → item_at row n ≡ Some item → IsCheaper item.cost c → ⊥
    go n item (inl b) is low = h.1 n item b is low
    go n item (inr b) is low = some_none (sym is ∙ no_entry row n b)

-- the entries before the n-th are less `least`, and the others as they were
pub record IsReducedTo (n : ℕ) (least : Cost) (old new : ItemRow) : Type 0 where
  pub long : length new ≡ length old
  pub before : (k : ℕ) → k < n → item_at old k ≡ raised least (item_at new k)
  pub behind : (k : ℕ) → n ≤ k → item_at new k ≡ item_at old k

pub reduced_more : (n : ℕ) (least : Cost) (old row : ItemRow) (o : Option Item) → n < length row → IsReducedTo n least old row → item_at row n ≡ raised least o → IsReducedTo (n + 1) least old (slice_set row n o)
reduced_more n least old row o inside t is = record {
  long = length-slice_set row n o ∙ t.long;
  before = λ k l. go k (below_or_at k n l);
  behind = λ k l. place_at-set_other row n k o (λ q. absurd (omega arith)) ∙ t.behind k (omega arith);
}
  where
    go : (k : ℕ) → (k < n) ⊎ (n ≡ k) → item_at old k ≡ raised least (item_at (slice_set row n o) k)
    go k (inl b) = t.before k b ∙ ap (raised least) (sym (place_at-set_other row n k o (λ q. absurd (omega arith))))
    go k (inr q) =
        subst (λ x. item_at old x ≡ raised least (item_at (slice_set row n o) x)) q
        (sym (t.behind n (omega arith)) ∙ is ∙ ap (raised least) (sym (place_at-set_same row n o inside)))

pub reduced_all : (n : ℕ) (least : Cost) (old row : ItemRow) → length old ≤ n → IsReducedTo n least old row → (k : ℕ) → item_at old k ≡ raised least (item_at row k)
reduced_all n least old row h t k = go (below_or_not k n)
  where
    go : (k < n) ⊎ (n ≤ k) → item_at old k ≡ raised least (item_at row k)
    go (inl b) = t.before k b
    go (inr b) = let l = t.long in no_entry old k (omega arith) ∙ ap (raised least) (sym (no_entry row k (omega arith)))

-- what was taken away is the least, and one entry is nothing now
pub reduced_least : (c : Cost) (old new : ItemRow) → LeastCost old (Some c) → length new ≡ length old → ((n : ℕ) → item_at old n ≡ raised c (item_at new n)) → IsReduced c old new
reduced_least c old new h long raised_is = record { long = sym long; raised_is = raised_is; lowest = lowest; reached = inl (reached (item_at new (h.0).0) refl) }
  where
    lowest : (n : ℕ) (item : Item) → item_at new n ≡ Some item → IsCheaper item.cost no_cost → ⊥
    lowest n item e low =
        h.1 n (record { cost = c ⊕ item.cost; rule = item.rule }) (raised_is n ∙ ap (raised c) e)
        (cheaper_same (c ⊕ item.cost) (c ⊕ no_cost) c (right_cheaper c c item.cost no_cost refl low) (sym (sum_none c)))

    reached : (o : Option Item) → item_at new (h.0).0 ≡ o → (n : ℕ) × (item : Item) × (item_at new n ≡ Some item) × (item.cost ≡ no_cost)
    reached None e = absurd (some_none (sym ((h.0).2) ∙ raised_is (h.0).0 ∙ ap (raised c) e))
    reached (Some item) e =
        let same : (h.0).1 ≡ record { cost = c ⊕ item.cost; rule = item.rule } = some_same (sym ((h.0).2) ∙ raised_is (h.0).0 ∙ ap (raised c) e) in
        let sum : c ⊕ item.cost ≡ c = sym (ap (λ (x : Item). x.cost) same) ∙ (h.0).3 in
        ((h.0).0, item, e, sum_same c item.cost sum)

pub reduced_none : (old : ItemRow) → LeastCost old None → IsReduced no_cost old old
reduced_none old h = record {
  long = refl;
  raised_is = λ n. h n ∙ ap (raised no_cost) (sym (h n));
  lowest = λ n item e low. some_none (sym e ∙ h n);
  reached = inr (h, refl);
}
