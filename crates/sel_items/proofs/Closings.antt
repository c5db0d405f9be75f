-- A row that takes a chain rule's offer comes nearer to the least row, and its entries stay the ends of ways.
use Rattle.std.proofs.Common.{◌≡◌, ℕ, suc, ◌+◌, ◌*◌, ◌<◌, ◌≤◌, ◌^◌, ◌⊎◌, inl, inr, List, [], ◌∷◌, length, refl, ap, subst, sym, ◌∙◌, Option, Some, None, arith, ℤ, pos, negsuc, ◌+ℤ◌, ◌<ℤ◌, neg_ℤ, get_or}
use Rattle.std.proofs.lemmas.Int.{ints}
use Rattle.sel_base.proofs.Shared.Bettering.{place_at-get_or, place_at-set_same, place_at-set_other, total_falls}
use Rattle.sel_base.proofs.Shared.Choices.{same_or_other}
use Rattle.sel_grammar.specs.declared.grammar.RuleCost.{RuleCost}
use Rattle.sel_grammar.specs.Costs.{Cost, ◌⊕◌, IsCheaper, paid}
use Rattle.sel_grammar.proofs.CostLaws.{right_cheaper, same_sums, cheaper_trans, cheaper_same, same_cheaper, cheaper_not_same, cheaper_or_not, paid_more}
use Rattle.sel_normal.specs.declared.normal.NormalRule.{NormalRule}
use Rattle.sel_normal.specs.NormalForms.{NormalForm, normal_at}
use Rattle.sel_items.specs.declared.items.Item.{Item}
use Rattle.sel_items.specs.Entries.{ItemRow, item_at, NoLater}
use Rattle.sel_items.specs.CostBounds.{IsBelow, AreBelow}
use Rattle.sel_items.specs.ChainClosing.{IsChained, IsChainedEntry, IsClosedFrom}
use Rattle.sel_items.specs.ChainPasses.{IsTurned, AllStand, CostsNoMore, NotIn, IsSimple, IsKeptFrom, IsLowStart, offset, distance, total_distance}
use Rattle.sel_items.specs.Offers.{offer_for, Stands, IsBettered}
use Rattle.sel_items.specs.Follows.{item_cost}
use Rattle.sel_normal.proofs.Steps.{some_same, some_none}
use Rattle.sel_items.proofs.Rows.{length-slice_set, below_or_not, no_entry}
use Rattle.sel_items.proofs.Pigeons.{Distinct, AllBelow, pigeons}

-- an offer against which an entry doesn't stand
pub later_than : (e f : Item) → (NoLater e.cost e.rule f.cost f.rule → ⊥) → IsCheaper f.cost e.cost ⊎ ((f.cost ≡ e.cost) × (f.rule < e.rule))
later_than e f h = go (cheaper_or_not e.cost f.cost) (below_or_not f.rule e.rule)
  where
    go : IsCheaper e.cost f.cost ⊎ ((e.cost ≡ f.cost) ⊎ IsCheaper f.cost e.cost) → (f.rule < e.rule) ⊎ (e.rule ≤ f.rule) → IsCheaper f.cost e.cost ⊎ ((f.cost ≡ e.cost) × (f.rule < e.rule))
    go (inl l) d = absurd (h (inl l))
    go (inr (inl q)) (inl d) = inr (sym q, d)
    go (inr (inl q)) (inr d) = absurd (h (inr (q, d)))
    go (inr (inr l)) d = inl l

-- as no later
pub no_later_trans : (a b c : Cost) (r s q : ℕ) → NoLater a r b s → NoLater b s c q → NoLater a r c q
no_later_trans a b c r s q (inl h) (inl k) = inl (cheaper_trans a b c h k)
no_later_trans a b c r s q (inl h) (inr k) = inl (cheaper_same a b c h k.0)
no_later_trans a b c r s q (inr h) (inl k) = inl (same_cheaper a b c h.0 k)
no_later_trans a b c r s q (inr h) (inr k) = inr (h.0 ∙ k.0, let x = h.1 in let y = k.1 in omega arith)

no_later_self : (a : Cost) (r : ℕ) → NoLater a r a r
no_later_self a r = inr (refl, omega arith)

entry_within : (row : ItemRow) (n : ℕ) (item : Item) → item_at row n ≡ Some item → n < length row
entry_within row n item h = go (below_or_not n (length row))
  where
    go : (n < length row) ⊎ (length row ≤ n) → n < length row
    go (inl b) = b
    go (inr b) = absurd (some_none (sym h ∙ no_entry row n b))

-- a row that took an offer
module _ (left : ℕ) (offer : Option Item) (old new : ItemRow) (b : IsBettered left offer old new) (inside : left < length old) where
  pub new_same : item_at new left ≡ Some (b.item)
  new_same = ap (λ x. item_at x left) b.set ∙ place_at-set_same old left (Some (b.item)) inside

  pub new_other : (n : ℕ) → (left ≡ n → ⊥) → item_at new n ≡ item_at old n
  new_other n h = ap (λ x. item_at x n) b.set ∙ place_at-set_other old left n (Some (b.item)) h

  pub new_long : length new ≡ length old
  new_long = ap length b.set ∙ length-slice_set old left (Some (b.item))

  -- each entry is there still, and is no later
  pub sooner : (n : ℕ) (e : Item) → item_at old n ≡ Some e → (f : Item) × (item_at new n ≡ Some f) × NoLater f.cost f.rule e.cost e.rule
  sooner n e h = go (same_or_other left n)
    where
      at_left : (e : Item) → item_at old left ≡ Some e → NoLater (b.item).cost (b.item).rule e.cost e.rule
      at_left e h = pick (later_than e b.item (b.later e h))
        where
          pick : IsCheaper (b.item).cost e.cost ⊎ (((b.item).cost ≡ e.cost) × ((b.item).rule < e.rule)) → NoLater (b.item).cost (b.item).rule e.cost e.rule
          pick (inl l) = inl l
          pick (inr l) = inr (l.0, let x = l.1 in omega arith)

      go : (left ≡ n) ⊎ (left ≡ n → ⊥) → (f : Item) × (item_at new n ≡ Some f) × NoLater f.cost f.rule e.cost e.rule
      go (inl q) = (b.item, ap (item_at new) (sym q) ∙ new_same, at_left e (ap (item_at old) q ∙ h))
      go (inr d) = (e, new_other n d ∙ h, no_later_self e.cost e.rule)

  known_still : (n : ℕ) (c : Cost) → CostsNoMore old n c → CostsNoMore new n c
  known_still n c (e, h, low) = let s = sooner n e h in (s.0, s.1, λ k. low (go s.0 s.2 k))
    where
      go : (f : Item) → NoLater f.cost f.rule e.cost e.rule → IsCheaper c f.cost → IsCheaper c e.cost
      go f (inl l) k = cheaper_trans c f.cost e.cost k l
      go f (inr l) k = cheaper_same c f.cost e.cost k l.0

  simple_still : (normal : NormalForm) (start : ItemRow) (n : ℕ) (ms : List ℕ) (c : Cost) → IsSimple start old n ms c → IsSimple start new n ms c
  simple_still normal start n [] c (item, at, is, known) = (item, at, is, known_still n c known)
  simple_still normal start n (m ∷ ms) c (rule, cheap, out, known, (k, w, is)) = (rule, cheap, out, known_still n c known, (k, simple_still normal start m ms k w, is))

offset_less : (x y : ℤ) → neg_ℤ (pos (2 ^ 61)) <ℤ x → x <ℤ y → offset x < offset y
offset_less (pos m) (pos n) l h = omega (arith, ints)
offset_less (pos m) (negsuc n) l h = absurd (omega (arith, ints))
offset_less (negsuc m) (pos n) l h = omega (arith, ints)
offset_less (negsuc m) (negsuc n) l h = omega (arith, ints)

offset_below : (x : ℤ) → x <ℤ pos (2 ^ 61) → offset x < 2 ^ 64
offset_below (pos m) h = omega (arith, ints)
offset_below (negsuc m) h = omega arith

nearer : (o : Option Item) (f : Item) → IsBelow 61 f.cost → f.rule < 2 ^ 16 → ((e : Item) → o ≡ Some e → NoLater e.cost e.rule f.cost f.rule → ⊥) → ((e : Item) → o ≡ Some e → IsBelow 61 e.cost) → distance (Some f) < distance o
nearer None f low r h k =
    let x = offset_below (f.cost).second low.high in
    let y = low.first in
    omega arith
nearer (Some e) f low r h k = go (later_than e f (h e refl))
  where
    x : offset (f.cost).second < 2 ^ 64
    x = offset_below (f.cost).second low.high

    go : IsCheaper f.cost e.cost ⊎ ((f.cost ≡ e.cost) × (f.rule < e.rule)) → distance (Some f) < distance (Some e)
    go (inl (inl l)) = let z = x in omega arith
    go (inl (inr l)) = let q = l.0 in let z = offset_less (f.cost).second (e.cost).second low.low l.1 in omega arith
    go (inr l) =
        let p : (f.cost).first ≡ (e.cost).first = ap (λ (c : Cost). c.first) l.0 in
        let q : offset (f.cost).second ≡ offset (e.cost).second = ap (λ (c : Cost). offset c.second) l.0 in
        let s = l.1 in
        omega arith

pub total_distance-bettered : (left : ℕ) (offer : Option Item) (old new : ItemRow) → (b : IsBettered left offer old new) → left < length old → IsBelow 61 (b.item).cost → (b.item).rule < 2 ^ 16 → AreBelow 61 old
    → total_distance new < total_distance old
total_distance-bettered left offer old new b h low few all =
    let here = place_at-get_or old left h in
    let near = nearer (get_or old left None) b.item low few (λ e q. b.later e (here ∙ q)) (λ e q. all left e (here ∙ q)) in
    total_falls distance old new left (Some (b.item)) b.set h near

-- what is on a simple way has an entry that costs no more than the way
on_way : (normal : NormalForm) (start row : ItemRow) (n m : ℕ) (ms : List ℕ) (k : Cost) → IsSimple start row m ms k → (NotIn n (m ∷ ms) → ⊥) → CostsNoMore row n k
on_way normal start row n m [] k (item, at, is, known) out = go (same_or_other n m)
  where
    go : (n ≡ m) ⊎ (n ≡ m → ⊥) → CostsNoMore row n k
    go (inl q) = subst (λ x. CostsNoMore row x k) (sym q) known
    go (inr d) = absurd (out (d, tt))
on_way normal start row n m (l ∷ ms) k (rule, cheap, apart, known, (j, w, is)) out = go (same_or_other n m) (λ h. on_way normal start row n l ms j w h)
  where
    less : (c : Cost) → IsCheaper k c → IsCheaper j c
    less c h = pick (paid_more rule j)
      where
        low : IsCheaper (paid rule ⊕ j) c
        low = same_cheaper (paid rule ⊕ j) k c (sym is) h

        pick : (j ≡ paid rule ⊕ j) ⊎ IsCheaper j (paid rule ⊕ j) → IsCheaper j c
        pick (inl q) = same_cheaper j (paid rule ⊕ j) c q low
        pick (inr q) = cheaper_trans j (paid rule ⊕ j) c q low

    widen : CostsNoMore row n j → CostsNoMore row n k
    widen (e, at, low) = (e, at, λ h. low (less e.cost h))

    go : (n ≡ m) ⊎ (n ≡ m → ⊥) → ((NotIn n (l ∷ ms) → ⊥) → CostsNoMore row n j) → CostsNoMore row n k
    go (inl q) rest = subst (λ x. CostsNoMore row x k) (sym q) known
    go (inr d) rest = widen (rest (λ h. out (d, h)))

not_in_or : (n : ℕ) (ms : List ℕ) → NotIn n ms ⊎ (NotIn n ms → ⊥)
not_in_or n [] = inl tt
not_in_or n (m ∷ ms) = go (same_or_other n m) (not_in_or n ms)
  where
    go : (n ≡ m) ⊎ (n ≡ m → ⊥) → NotIn n ms ⊎ (NotIn n ms → ⊥) → NotIn n (m ∷ ms) ⊎ (NotIn n (m ∷ ms) → ⊥)
    go (inl q) k = inr (λ h. h.0 q)
    go (inr d) (inl k) = inl (d, k)
    go (inr d) (inr k) = inr (λ h. k h.1)

-- a chain rule's offer by what it is made of
chain_parts : (c : RuleCost) (r : ℕ) (o : Option Item) (item : Item) → offer_for c r (item_cost o) ≡ Some item → (im : Item) × (o ≡ Some im) × (item.cost ≡ paid c ⊕ im.cost) × (item.rule ≡ r)
chain_parts c r None item h = absurd (some_none (sym h))
chain_parts c r (Some im) item h = let q = some_same h in (im, refl, sym (ap (λ (x : Item). x.cost) q), sym (ap (λ (x : Item). x.rule) q))

-- the row after a turn
module _ (normal : NormalForm) (start old new : ItemRow) (rule : NormalRule) (r : ℕ) (at : normal_at normal r ≡ Some rule) (inside : rule.left < length old)
    (kept : IsKeptFrom normal start old) (turn : IsTurned rule r old new) where
  abbrev b : IsBettered rule.left (offer_for rule.cost r (item_cost (item_at old turn.to))) old new
  b = turn.bettered

  abbrev off : Option Item
  off = offer_for rule.cost r (item_cost (item_at old turn.to))

  parts : (im : Item) × (item_at old turn.to ≡ Some im) × ((b.item).cost ≡ paid rule.cost ⊕ im.cost) × ((b.item).rule ≡ r)
  parts = chain_parts rule.cost r (item_at old turn.to) b.item b.offered_is

  way_new : (qs : List ℕ) × IsChained normal start rule.left qs (b.item).rule (b.item).cost
  way_new =
      let p = parts in
      let w = kept.ways turn.to p.0 p.1 in
      (r ∷ w.0, (rule, at, refl, p.3, (turn.to, (p.0).rule, turn.chain, ((p.0).cost, w.1, p.2))))

  known_new : CostsNoMore new rule.left (b.item).cost
  known_new = (b.item, new_same rule.left off old new b inside, λ h. cheaper_not_same (b.item).cost (b.item).cost h refl)

  -- a way that is cheaper than the entry before doesn't come back
  fresh : ((e : Item) → item_at old rule.left ≡ Some e → IsCheaper (b.item).cost e.cost) → (ms : List ℕ) × IsSimple start new rule.left ms (b.item).cost
  fresh low =
      let p = parts in
      let w = kept.simple turn.to p.0 p.1 in
      (turn.to ∷ w.0, (rule.cost, turn.cheap, apart p w.0 w.1 (not_in_or rule.left (turn.to ∷ w.0)), known_new, ((p.0).cost, simple_still rule.left off old new b inside normal start turn.to w.0 (p.0).cost w.1, p.2)))
    where
      apart : (p : (im : Item) × (item_at old turn.to ≡ Some im) × ((b.item).cost ≡ paid rule.cost ⊕ im.cost) × ((b.item).rule ≡ r)) (ms : List ℕ) → IsSimple start old turn.to ms (p.0).cost
          → NotIn rule.left (turn.to ∷ ms) ⊎ (NotIn rule.left (turn.to ∷ ms) → ⊥) → NotIn rule.left (turn.to ∷ ms)
      apart p ms w (inl h) = h
      apart p ms w (inr h) = absurd (contra (on_way normal start old rule.left turn.to ms (p.0).cost w h) (paid_more rule.cost (p.0).cost))
        where
          contra : CostsNoMore old rule.left (p.0).cost → ((p.0).cost ≡ paid rule.cost ⊕ (p.0).cost) ⊎ IsCheaper (p.0).cost (paid rule.cost ⊕ (p.0).cost) → ⊥
          contra (e, here, h) (inl q) = h (same_cheaper _ _ _ (q ∙ sym p.2) (low e here))
          contra (e, here, h) (inr q) = h (cheaper_trans _ _ _ q (same_cheaper _ _ _ (sym p.2) (low e here)))

  simple_new : (ms : List ℕ) × IsSimple start new rule.left ms (b.item).cost
  simple_new = go (item_at old rule.left) refl
    where
      go : (o : Option Item) → item_at old rule.left ≡ o → (ms : List ℕ) × IsSimple start new rule.left ms (b.item).cost
      go None h = fresh (λ e q. absurd (some_none (sym q ∙ h)))
      go (Some e) h = pick (later_than e b.item (b.later e h))
        where
          pick : IsCheaper (b.item).cost e.cost ⊎ (((b.item).cost ≡ e.cost) × ((b.item).rule < e.rule)) → (ms : List ℕ) × IsSimple start new rule.left ms (b.item).cost
          pick (inl l) = fresh (λ f q. subst (λ (x : Item). IsCheaper (b.item).cost x.cost) (some_same (sym h ∙ q)) l)
          pick (inr l) =
              let w = kept.simple rule.left e h in
              (w.0, subst (λ c. IsSimple start new rule.left w.0 c) (sym l.0) (simple_still rule.left off old new b inside normal start rule.left w.0 e.cost w.1))

  pub IsKeptFrom-turned : IsKeptFrom normal start new
  IsKeptFrom-turned = record {
    long = new_long rule.left off old new b inside ∙ kept.long;
    starts = λ n item h.
        let s = kept.starts n item h in
        let f = sooner rule.left off old new b inside n s.0 s.1 in
        (f.0, f.1, no_later_trans _ _ _ _ _ _ f.2 s.2);
    ways = λ n item h. way_of n item h (same_or_other rule.left n);
    simple = λ n item h. simple_of n item h (same_or_other rule.left n);
  }
    where
      item_is : (n : ℕ) (item : Item) → item_at new n ≡ Some item → rule.left ≡ n → b.item ≡ item
      item_is n item h q = some_same (sym (new_same rule.left off old new b inside) ∙ ap (item_at new) q ∙ h)

      way_of : (n : ℕ) (item : Item) → item_at new n ≡ Some item → (rule.left ≡ n) ⊎ (rule.left ≡ n → ⊥) → (qs : List ℕ) × IsChained normal start n qs item.rule item.cost
      way_of n item h (inl q) =
          let w = way_new in
          let same = item_is n item h q in
          (w.0, subst (λ x. IsChained normal start x w.0 item.rule item.cost) q (subst (λ (x : Item). IsChained normal start rule.left w.0 x.rule x.cost) same w.1))
      way_of n item h (inr d) = kept.ways n item (sym (new_other rule.left off old new b inside n d) ∙ h)

      simple_of : (n : ℕ) (item : Item) → item_at new n ≡ Some item → (rule.left ≡ n) ⊎ (rule.left ≡ n → ⊥) → (ms : List ℕ) × IsSimple start new n ms item.cost
      simple_of n item h (inl q) =
          let w = simple_new in
          let same = item_is n item h q in
          (w.0, subst (λ x. IsSimple start new x w.0 item.cost) q (subst (λ (x : Item). IsSimple start new rule.left w.0 x.cost) same w.1))
      simple_of n item h (inr d) =
          let w = kept.simple n item (sym (new_other rule.left off old new b inside n d) ∙ h) in
          (w.0, simple_still rule.left off old new b inside normal start n w.0 item.cost w.1)

-- the sums along a simple way
record IsLow (k : ℕ) (c : Cost) : Type 0 where
  first : c.first < 2 ^ 48 + 65536 * k
  low : neg_ℤ (pos (2 ^ 48)) <ℤ c.second
  high : c.second <ℤ pos (2 ^ 48 + 65536 * k)

simple_low : (normal : NormalForm) (start row : ItemRow) (n : ℕ) (ms : List ℕ) (c : Cost) → AreBelow 48 start → IsSimple start row n ms c → IsLow (length ms) c
simple_low normal start row n [] c low (item, at, is, known) =
    let b = low n item at in
    record {
      first = let e : c.first ≡ (item.cost).first = ap (λ (x : Cost). x.first) is in let h = b.first in omega arith;
      low = subst (λ (x : Cost). neg_ℤ (pos (2 ^ 48)) <ℤ x.second) (sym is) b.low;
      high = subst (λ (x : Cost). x.second <ℤ pos (2 ^ 48)) (sym is) b.high;
    }
simple_low normal start row n (m ∷ ms) c low (rule, cheap, apart, known, (k, w, is)) =
    let b = simple_low normal start row m ms k low w in
    record {
      first = let e : c.first ≡ rule.first + k.first = ap (λ (x : Cost). x.first) is in let h = b.first in let z = cheap.0 in omega arith;
      low = subst (λ (x : Cost). neg_ℤ (pos (2 ^ 48)) <ℤ x.second) (sym is) (down rule.second k.second b.low);
      high = subst (λ (x : Cost). x.second <ℤ pos (2 ^ 48 + 65536 * suc (length ms))) (sym is) (up rule.second k.second (length ms) cheap.1 b.high);
    }
  where
    down : (x : ℕ) (y : ℤ) → neg_ℤ (pos (2 ^ 48)) <ℤ y → neg_ℤ (pos (2 ^ 48)) <ℤ (pos x +ℤ y)
    down x y h = omega (arith, ints)

    up : (x : ℕ) (y : ℤ) (l : ℕ) → x < 2 ^ 16 → y <ℤ pos (2 ^ 48 + 65536 * l) → (pos x +ℤ y) <ℤ pos (2 ^ 48 + 65536 * suc l)
    up x y l h k = omega (arith, ints)

simple_within : (normal : NormalForm) (start row : ItemRow) (n : ℕ) (ms : List ℕ) (c : Cost) → IsSimple start row n ms c → Distinct (n ∷ ms) × AllBelow (length row) (n ∷ ms)
simple_within normal start row n [] c (item, at, is, known) = ((tt, tt), (entry_within row n known.0 known.1, tt))
simple_within normal start row n (m ∷ ms) c (rule, cheap, apart, known, (k, w, is)) =
    let r = simple_within normal start row m ms k w in
    ((apart, r.0), (entry_within row n known.0 known.1, r.1))

pub AreBelow-kept : (normal : NormalForm) (start row : ItemRow) → IsLowStart start → IsKeptFrom normal start row → AreBelow 49 row
AreBelow-kept normal start row s k n item h =
    let w = k.simple n item h in
    let d = simple_within normal start row n w.0 item.cost w.1 in
    let p = pigeons (length row) (n ∷ w.0) d.0 d.1 in
    let l = k.long in
    let short = s.short in
    let few : length w.0 < 2 ^ 16 = omega arith in
    let b = simple_low normal start row n w.0 item.cost s.low w.1 in
    record {
      first = let z = b.first in omega arith;
      low = wider (item.cost).second b.low;
      high = higher (length w.0) (item.cost).second few b.high;
    }
  where
    wider : (y : ℤ) → neg_ℤ (pos (2 ^ 48)) <ℤ y → neg_ℤ (pos (2 ^ 49)) <ℤ y
    wider y h = omega (arith, ints)

    higher : (l : ℕ) (y : ℤ) → l < 2 ^ 16 → y <ℤ pos (2 ^ 48 + 65536 * l) → y <ℤ pos (2 ^ 49)
    higher l y h k = omega (arith, ints)

-- a start is kept from itself
pub IsKeptFrom-start : (normal : NormalForm) (start : ItemRow) → IsKeptFrom normal start start
IsKeptFrom-start normal start = record {
  long = refl;
  starts = λ n item h. (item, h, no_later_self item.cost item.rule);
  ways = λ n item h. ([], (item, h, refl, refl));
  simple = λ n item h. ([], (item, h, refl, (item, h, λ l. cheaper_not_same item.cost item.cost l refl)));
}

-- a row that no chain rule betters is closed
module _ (normal : NormalForm) (start row : ItemRow) (k : IsKeptFrom normal start row) (still : AllStand normal row) where
  abbrev Soon : ℕ → Cost → ℕ → Type 0
  Soon n c r = (e : Item) × (item_at row n ≡ Some e) × NoLater e.cost e.rule c r

  raised_later : (p a b : Cost) (r s q : ℕ) → NoLater a r b s → NoLater (p ⊕ a) q (p ⊕ b) q
  raised_later p a b r s q (inl h) = inl (right_cheaper p p a b refl h)
  raised_later p a b r s q (inr h) = inr (same_sums p p a b refl h.0, omega arith)

  way_soon : (qs : List ℕ) (n r : ℕ) (c : Cost) → IsChained normal start n qs r c → Soon n c r
  way_soon [] n r c (item, at, is, costs) =
      let s = k.starts n item at in
      (s.0, s.1, subst (λ x. NoLater (s.0).cost (s.0).rule x r) (sym costs) (subst (λ x. NoLater (s.0).cost (s.0).rule (item.cost) x) (sym is) s.2))
  way_soon (q ∷ qs) n r c (rule, at, left, is, (m, s, body, (j, w, costs))) =
      go (way_soon qs m s j w)
    where
      stood : (f : Item) → item_at row m ≡ Some f → (o : Option Item) → item_at row rule.left ≡ o → Stands o (Some (record { cost = paid rule.cost ⊕ f.cost; rule = q })) → Soon rule.left (paid rule.cost ⊕ f.cost) q
      stood f h None e w = absurd w
      stood f h (Some e) at w = (e, at, w)

      go : Soon m j s → Soon n c r
      go (f, h, later) =
          let x = subst (λ o. Stands (item_at row rule.left) (offer_for rule.cost q (item_cost o))) h (still q rule at m body) in
          let y = stood f h (item_at row rule.left) refl x in
          let z = no_later_trans (y.0).cost (paid rule.cost ⊕ f.cost) (paid rule.cost ⊕ j) (y.0).rule q q y.2 (raised_later (paid rule.cost) f.cost j f.rule s q later) in
          (y.0, ap (item_at row) (sym left) ∙ y.1, subst (λ v. NoLater (y.0).cost (y.0).rule v r) (sym costs) (subst (λ v. NoLater (y.0).cost (y.0).rule (paid rule.cost ⊕ j) v) (sym is) z))

  pub IsClosedFrom-still : IsClosedFrom normal start row
  IsClosedFrom-still = record { long = k.long; each = λ n. go n (item_at row n) refl }
    where
      go : (n : ℕ) (o : Option Item) → item_at row n ≡ o → IsChainedEntry normal start n o
      go n None h = λ qs r c w. let s = way_soon qs n r c w in some_none (sym s.1 ∙ h)
      go n (Some item) h =
          let w = k.ways n item h in
          record {
            chains = w.0;
            candidate = w.1;
            least = λ qs r c v.
                let s = way_soon qs n r c v in
                let same : s.0 ≡ item = some_same (sym s.1 ∙ h) in
                subst (λ (x : Item). NoLater x.cost x.rule c r) same s.2;
          }
