-- Lines have a scan.
use Rattle.std.proofs.Common.{◌≡◌, ℕ, zero, suc, ◌+◌, ◌<◌, ◌≤◌, ◌⊎◌, inl, inr, Bool, true, false, ◌&&◌, ◌||◌, ◌==◌, if◌then◌else◌, Some, [], ◌∷◌, length, map, slice_get, refl, ap, sym, ◌∙◌, subst, arith}
use Rattle.std.specs.Prelude.{nat_lt}
use Rattle.std.specs.List.{list_any, range_with_len}
use Rattle.std.proofs.lemmas.List.Sums.{count_by-le-length}
use Rattle.std.proofs.lemmas.List.FromFn.{length-range_with_len, length-map-range_with_len}
use Rattle.std.proofs.lemmas.Bool.{and_parts, and_from, ltb-true, lt-ltb}
use Rattle.sel_regs.specs.Lives.{Lines, is_on, first_line, is_live}
use Rattle.sel_regs.specs.Scans.{register_of, IsBefore}
use Rattle.sel_regs.specs.Laws.{ScanExists}
use Rattle.sel_regs.proofs.Counting.{some_same, some_none, not_both, at_least}
use Rattle.sel_regs.proofs.Sharing.{in_range}

same_true : (a b : ℕ) → a ≡ b → (a == b) ≡ true
same_true a b h = grind arith

true_same : (a b : ℕ) → (a == b) ≡ true → a ≡ b
true_same a b h = grind arith

other_false : (a b : ℕ) → (a ≡ b → ⊥) → (a == b) ≡ false
other_false a b h = grind arith

or_parts : (a b : Bool) → (a || b) ≡ true → (a ≡ true) ⊎ (b ≡ true)
or_parts true b h = inl refl
or_parts false b h = inr h

or_none : (a b : Bool) → (a || b) ≡ false → (a ≡ false) × (b ≡ false)
or_none true b h = cc
or_none false b h = (refl, h)

or_first : (a b : Bool) → a ≡ true → (a || b) ≡ true
or_first true b h = refl
or_first false b h = cc

or_second : (a b : Bool) → b ≡ true → (a || b) ≡ true
or_second true b h = refl
or_second false b h = h

any_some : (p : ℕ → Bool) (n a : ℕ) → list_any p (range_with_len a n) ≡ true → (j : ℕ) × (a ≤ j) × (j < a + n) × (p j ≡ true)
any_some p zero a h = cc
any_some p (suc n) a h = go (or_parts (p a) (list_any p (range_with_len (a + 1) n)) h) (λ h. any_some p n (a + 1) h)
  where
    go : (p a ≡ true) ⊎ (list_any p (range_with_len (a + 1) n) ≡ true) → (list_any p (range_with_len (a + 1) n) ≡ true → (j : ℕ) × (a + 1 ≤ j) × (j < a + 1 + n) × (p j ≡ true)) → (j : ℕ) × (a ≤ j) × (j < a + suc n) × (p j ≡ true)
    go (inl e) r = (a, omega arith, omega arith, e)
    go (inr e) r = let (j, l, m, q) = r e in (j, omega arith, omega arith, q)

any_none : (p : ℕ → Bool) (n a j : ℕ) → list_any p (range_with_len a n) ≡ false → a ≤ j → j < a + n → p j ≡ false
any_none p zero a j h l m = absurd (omega arith)
any_none p (suc n) a j h l m = let q = or_none (p a) (list_any p (range_with_len (a + 1) n)) h in go (first a j l) q.0 (λ l. any_none p n (a + 1) j q.1 l (omega arith))
  where
    first : (a j : ℕ) → a ≤ j → (a ≡ j) ⊎ (a + 1 ≤ j)
    first a j h = grind arith

    go : (a ≡ j) ⊎ (a + 1 ≤ j) → p a ≡ false → (a + 1 ≤ j → p j ≡ false) → p j ≡ false
    go (inl e) q r = ap p (sym e) ∙ q
    go (inr l) q r = r l

below_or_last : (x n : ℕ) → x < suc n → (x < n) ⊎ (x ≡ n)
below_or_last x n h = grind arith

-- the least number of which a test fails, or it holds of all below n
least_or_all : (p : ℕ → Bool) (n : ℕ) → ((r : ℕ) × (p r ≡ false) × ((q : ℕ) → q < r → p q ≡ true)) ⊎ ((q : ℕ) → q < n → p q ≡ true)
least_or_all p zero = inr (λ q l. absurd (omega arith))
least_or_all p (suc n) = go (least_or_all p n) (p n) refl
  where
    go : ((r : ℕ) × (p r ≡ false) × ((q : ℕ) → q < r → p q ≡ true)) ⊎ ((q : ℕ) → q < n → p q ≡ true) → (b : Bool) → p n ≡ b
        → ((r : ℕ) × (p r ≡ false) × ((q : ℕ) → q < r → p q ≡ true)) ⊎ ((q : ℕ) → q < suc n → p q ≡ true)
    go (inl h) b e = inl h
    go (inr h) false e = inl (n, e, h)
    go (inr h) true e = inr (λ q l. by q (below_or_last q n l))
      where
        by : (q : ℕ) → (q < n) ⊎ (q ≡ n) → p q ≡ true
        by q (inl l) = h q l
        by q (inr m) = ap p m ∙ e

module _ (lines : Lines) (temps : ℕ) where
  before : ℕ → ℕ → Bool
  before j k = nat_lt (first_line lines j) (first_line lines k) || ((first_line lines j == first_line lines k) && nat_lt j k)

  before_is : (j k : ℕ) → before j k ≡ true → IsBefore lines j k
  unfolding before
  before_is j k h = go (or_parts (nat_lt (first_line lines j) (first_line lines k)) ((first_line lines j == first_line lines k) && nat_lt j k) h)
    where
      go : (nat_lt (first_line lines j) (first_line lines k) ≡ true) ⊎ (((first_line lines j == first_line lines k) && nat_lt j k) ≡ true) → IsBefore lines j k
      go (inl e) = inl (ltb-true (first_line lines j) (first_line lines k) e)
      go (inr e) = let p = and_parts (first_line lines j == first_line lines k) (nat_lt j k) e in inr (true_same (first_line lines j) (first_line lines k) p.0, ltb-true j k p.1)

  is_before : (j k : ℕ) → IsBefore lines j k → before j k ≡ true
  unfolding before
  is_before j k (inl h) = or_first (nat_lt (first_line lines j) (first_line lines k)) ((first_line lines j == first_line lines k) && nat_lt j k) (lt-ltb (first_line lines j) (first_line lines k) h)
  is_before j k (inr h) = or_second (nat_lt (first_line lines j) (first_line lines k)) ((first_line lines j == first_line lines k) && nat_lt j k)
      (and_from (first_line lines j == first_line lines k) (nat_lt j k) (same_true (first_line lines j) (first_line lines k) h.0) (lt-ltb j k h.1))

  before_trans : (i j k : ℕ) → IsBefore lines i j → IsBefore lines j k → IsBefore lines i k
  before_trans i j k (inl h) (inl l) = inl (omega arith)
  before_trans i j k (inl h) (inr l) = inl (let e = l.0 in omega arith)
  before_trans i j k (inr h) (inl l) = inl (let e = h.0 in omega arith)
  before_trans i j k (inr h) (inr l) = inr (h.0 ∙ l.0, let a = h.1 in let b = l.1 in omega arith)

  not_before_itself : (j k : ℕ) → IsBefore lines j k → j ≡ k → ⊥
  not_before_itself j k (inl h) e = let q : first_line lines j ≡ first_line lines k = ap (first_line lines) e in absurd (omega arith)
  not_before_itself j k (inr h) e = let q = h.1 in absurd (omega arith)

  -- a temporary that is taken before k, and live on its first line
  record Rival (k j : ℕ) : Type 0 where
    low : 1 ≤ j
    high : j < 1 + temps
    before : IsBefore lines j k
    live : is_live lines (first_line lines k) j ≡ true

  -- the register r is the lowest that no rival of k has
  record IsLowest (f : ℕ → ℕ) (k r : ℕ) : Type 0 where
    free : (j : ℕ) → Rival k j → f j ≡ r → ⊥
    lowest : (q : ℕ) → q < r → (j : ℕ) × Rival k j × (f j ≡ q)

  taken : (ℕ → ℕ) → ℕ → ℕ → ℕ → Bool
  taken f k r j = (before j k && is_live lines (first_line lines k) j) && (f j == r)

  taken_by : (f : ℕ → ℕ) (k r : ℕ) → list_any (taken f k r) (range_with_len 1 temps) ≡ true → (j : ℕ) × Rival k j × (f j ≡ r)
  unfolding taken
  taken_by f k r h =
      let (j, l, m, e) = any_some (taken f k r) temps 1 h in
      let p = and_parts (before j k && is_live lines (first_line lines k) j) (f j == r) e in
      let q = and_parts (before j k) (is_live lines (first_line lines k) j) p.0 in
      (j, record { low = l; high = m; before = before_is j k q.0; live = q.1 }, true_same (f j) r p.1)

  not_taken : (f : ℕ → ℕ) (k r : ℕ) → list_any (taken f k r) (range_with_len 1 temps) ≡ false → (j : ℕ) → Rival k j → f j ≡ r → ⊥
  unfolding taken
  not_taken f k r h j rival e =
      not_both (taken f k r j) (and_from (before j k && is_live lines (first_line lines k) j) (f j == r) (and_from (before j k) (is_live lines (first_line lines k) j) (is_before j k rival.before) rival.live) (same_true (f j) r e))
      (any_none (taken f k r) temps 1 j h rival.low rival.high)

  some_lowest : (f : ℕ → ℕ) (k : ℕ) → (r : ℕ) × IsLowest f k r
  some_lowest f k = go (least_or_all (λ r. list_any (taken f k r) (range_with_len 1 temps)) (temps + 1))
    where
      go : ((r : ℕ) × (list_any (taken f k r) (range_with_len 1 temps) ≡ false) × ((q : ℕ) → q < r → list_any (taken f k q) (range_with_len 1 temps) ≡ true))
          ⊎ ((q : ℕ) → q < temps + 1 → list_any (taken f k q) (range_with_len 1 temps) ≡ true) → (r : ℕ) × IsLowest f k r
      go (inl (r, free, all)) = (r, record { free = not_taken f k r free; lowest = λ q l. taken_by f k q (all q l) })
      go (inr all) =
          let many = at_least (λ j. Some (f j)) (λ j. true) (range_with_len 1 temps) (temps + 1) (λ r l. let (j, rival, e) = taken_by f k r (all r l) in
          record { item = j; among = in_range temps 1 j rival.low rival.high; passes = refl; has = ap Some e }) in
          let few = count_by-le-length (λ (j : ℕ). true) (range_with_len 1 temps) in
          let long = length-range_with_len 1 temps in absurd (omega arith)

  set : (ℕ → ℕ) → ℕ → ℕ → ℕ → ℕ
  set f k r x = if x == k then r else f x

  set_other : (f : ℕ → ℕ) (k r x : ℕ) → (x ≡ k → ⊥) → set f k r x ≡ f x
  unfolding set
  set_other f k r x h = ap (λ c. if c then r else f x) (other_false x k h)

  set_same : (f : ℕ → ℕ) (k r : ℕ) → set f k r k ≡ r
  unfolding set
  set_same f k r = ap (λ c. if c then r else f k) (same_true k k refl)

  abbrev IsScanAt : (ℕ → ℕ) → ℕ → Type 0
  IsScanAt f k = IsLowest f k (f k)

  -- what is told of temporaries before k stays when k gets its register
  kept : (f : ℕ → ℕ) (k r i s : ℕ) → ((j : ℕ) → IsBefore lines j i → j ≡ k → ⊥) → IsLowest f i s → IsLowest (set f k r) i s
  kept f k r i s apart h = record {
    free = λ j rival e. h.free j rival (sym (set_other f k r j (apart j rival.before)) ∙ e);
    lowest = λ q l. let (j, rival, e) = h.lowest q l in (j, rival, set_other f k r j (apart j rival.before) ∙ e);
  }

  abbrev Done : ℕ → ℕ → ℕ → Type 0
  Done n b k = ((first_line lines k < n) × (k < 1 + temps)) ⊎ ((first_line lines k ≡ n) × (k < b))

  abbrev Scanned : ℕ → ℕ → Type 0
  Scanned n b = (f : ℕ → ℕ) × ((k : ℕ) → Done n b k → IsScanAt f k)

  next : (n b : ℕ) → Scanned n b → Scanned n (suc b)
  next n b (f, done) = go (same_or_not (first_line lines b) n)
    where
      same_or_not : (x y : ℕ) → (x ≡ y) ⊎ (x ≡ y → ⊥)
      same_or_not x y = grind arith

      go : (first_line lines b ≡ n) ⊎ (first_line lines b ≡ n → ⊥) → Scanned n (suc b)
      go (inr e) = (f, λ k h. done k (less k h))
        where
          less : (k : ℕ) → Done n (suc b) k → Done n b k
          less k (inl h) = inl h
          less k (inr h) = by (below_or_last k b h.1)
            where
              by : (k < b) ⊎ (k ≡ b) → Done n b k
              by (inl l) = inr (h.0, l)
              by (inr q) = absurd (e (ap (first_line lines) (sym q) ∙ h.0))
      go (inl e) = (set f b (some_lowest f b).0, each)
        where
          each : (k : ℕ) → Done n (suc b) k → IsScanAt (set f b (some_lowest f b).0) k
          each k (inl h) = earlier k (inl h)
            where
              earlier : (k : ℕ) → Done n b k → IsScanAt (set f b (some_lowest f b).0) k
              earlier k h = subst (IsLowest (set f b (some_lowest f b).0) k) (sym (set_other f b (some_lowest f b).0 k (not_before_itself k b (older k h))))
                  (kept f b (some_lowest f b).0 k (f k) (λ j x q. not_before_itself j b (before_trans j k b x (older k h)) q) (done k h))
                where
                  older : (k : ℕ) → Done n b k → IsBefore lines k b
                  older k (inl h) = inl (let l = h.0 in omega arith)
                  older k (inr h) = inr (h.0 ∙ sym e, h.1)
          each k (inr h) = by (below_or_last k b h.1)
            where
              older : (k : ℕ) → Done n b k → IsBefore lines k b
              older k (inl h) = inl (let l = h.0 in omega arith)
              older k (inr h) = inr (h.0 ∙ sym e, h.1)

              earlier : (k : ℕ) → Done n b k → IsScanAt (set f b (some_lowest f b).0) k
              earlier k h = subst (IsLowest (set f b (some_lowest f b).0) k) (sym (set_other f b (some_lowest f b).0 k (not_before_itself k b (older k h))))
                  (kept f b (some_lowest f b).0 k (f k) (λ j x q. not_before_itself j b (before_trans j k b x (older k h)) q) (done k h))

              own : IsScanAt (set f b (some_lowest f b).0) b
              own = subst (IsLowest (set f b (some_lowest f b).0) b) (sym (set_same f b (some_lowest f b).0)) (kept f b (some_lowest f b).0 b (some_lowest f b).0 (λ j x q. not_before_itself j b x q) (some_lowest f b).1)

              by : (k < b) ⊎ (k ≡ b) → IsScanAt (set f b (some_lowest f b).0) k
              by (inl l) = earlier k (inr (h.0, l))
              by (inr q) = subst (IsScanAt (set f b (some_lowest f b).0)) (sym q) own

  on_line : (n b : ℕ) → Scanned n 0 → Scanned n b
  on_line n zero h = h
  on_line n (suc b) h = next n b (on_line n b h)

  on_lines : (n : ℕ) → Scanned n 0
  on_lines zero = (λ x. 0, none)
    where
      none : (k : ℕ) → Done 0 0 k → IsScanAt (λ x. 0) k
      none k (inl h) = let l = h.0 in absurd (omega arith)
      none k (inr h) = let l = h.1 in absurd (omega arith)
  on_lines (suc n) = go (on_line n (1 + temps) (on_lines n))
    where
      go : Scanned n (1 + temps) → Scanned (suc n) 0
      go (f, done) = (f, λ k h. by k h)
        where
          by : (k : ℕ) → Done (suc n) 0 k → IsScanAt f k
          by k (inr h) = let l = h.1 in absurd (omega arith)
          by k (inl h) = split (below_or_last (first_line lines k) n h.0)
            where
              split : (first_line lines k < n) ⊎ (first_line lines k ≡ n) → IsScanAt f k
              split (inl l) = done k (inl (l, h.1))
              split (inr e) = done k (inr (e, h.1))

  first_within : (lines : Lines) (k : ℕ) → first_line lines k ≤ length lines
  first_within [] k = omega arith
  first_within (line ∷ lines) k = go (is_on k line) (first_within lines k)
    where
      go : (b : Bool) → first_line lines k ≤ length lines → (if b then 0 else suc (first_line lines k)) ≤ suc (length lines)
      go true l = omega arith
      go false l = omega arith

  scanned : (f : ℕ → ℕ) × ((k : ℕ) → k < 1 + temps → IsScanAt f k)
  scanned = let (f, done) = on_lines (suc (length lines)) in (f, λ k l. done k (inl (let h = first_within lines k in omega arith, l)))

map_get : (f : ℕ → ℕ) (n a k r : ℕ) → slice_get (map f (range_with_len a n)) k ≡ Some r → (k < n) × (f (a + k) ≡ r)
map_get f zero a k r h = absurd (some_none (sym h))
map_get f (suc n) a zero r h = (omega arith, ap f (none a) ∙ some_same h)
  where
    none : (a : ℕ) → a + 0 ≡ a
    none a = omega arith
map_get f (suc n) a (suc k) r h = let (l, e) = map_get f n (a + 1) k r h in (omega arith, ap f (next_one a k) ∙ e)
  where
    next_one : (a k : ℕ) → a + suc k ≡ a + 1 + k
    next_one a k = omega arith

get_map : (f : ℕ → ℕ) (n a k i : ℕ) → k < n → i ≡ a + k → slice_get (map f (range_with_len a n)) k ≡ Some (f i)
get_map f zero a k i l e = absurd (omega arith)
get_map f (suc n) a zero i l e = let q : a ≡ i = omega arith in ap (λ x. Some (f x)) q
get_map f (suc n) a (suc k) i l e = get_map f n (a + 1) k i (omega arith) (omega arith)

register_is : (f : ℕ → ℕ) (n k r : ℕ) → register_of (map f (range_with_len 1 n)) k ≡ Some r → (1 ≤ k) × (k < 1 + n) × (f k ≡ r)
register_is f n zero r h = absurd (some_none (sym h))
register_is f n (suc k) r h = let (l, e) = map_get f n 1 k r h in (omega arith, omega arith, ap f (next_one k) ∙ e)
  where
    next_one : (k : ℕ) → suc k ≡ 1 + k
    next_one k = omega arith

register_has : (f : ℕ → ℕ) (n k : ℕ) → 1 ≤ k → k < 1 + n → register_of (map f (range_with_len 1 n)) k ≡ Some (f k)
register_has f n zero h l = absurd (omega arith)
register_has f n (suc k) h l = get_map f n 1 k (suc k) (omega arith) (omega arith)

pub scan_exists : ScanExists
scan_exists lines temps =
    let (f, each) = scanned lines temps in (
      map f (range_with_len 1 temps),
      length-map-range_with_len f 1 temps,
      record {
        free = λ k r h t.
            let (low, high, is) = register_is f temps k r h in
            let (low', high', is') = register_is f temps t.by r t.has in
            (each k high).free t.by (record { low = low'; high = high'; before = t.before; live = t.live }) (is' ∙ sym is);
        lowest = λ k r q h l.
            let (low, high, is) = register_is f temps k r h in
            let (j, rival, e) = (each k high).lowest q (omega arith) in
            record { by = j; before = rival.before; live = rival.live; has = register_has f temps j rival.low rival.high ∙ ap Some e };
      },
    )
