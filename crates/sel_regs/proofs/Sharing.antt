-- What a scan keeps.
use Rattle.std.proofs.Common.{◌≡◌, ℕ, zero, suc, ◌+◌, ◌<◌, ◌≤◌, ◌⊎◌, inl, inr, max, Bool, true, false, if◌then◌else◌, Some, List, [], ◌∷◌, length, map, slice_get, refl, ap, sym, ◌∙◌, subst, arith}
use Rattle.std.specs.Prelude.{nat_le, nat_lt}
use Rattle.std.specs.List.{range_with_len}
use Rattle.std.proofs.lemmas.Bool.{and_parts, and_from, leb-true, le-leb, ltb-true, lt-ltb}
use Rattle.std.proofs.lemmas.Option.{slice_get_within}
use Rattle.sel_regs.specs.Lives.{Lines, IsNamed, is_on, first_line, with_line, lines_to_last, is_live, live_on, greatest_of}
use Rattle.sel_regs.specs.Scans.{register_of, IsBefore}
use Rattle.sel_regs.specs.Laws.{NoneShare, ScansFit, NeedsAreNeeded}
use Rattle.sel_regs.proofs.Counting.{some_same, some_none, IsIn, Has, at_least, at_most}

pub live_parts : (lines : Lines) (i k : ℕ) → is_live lines i k ≡ true → (first_line lines k ≤ i) × (i < lines_to_last lines k)
live_parts lines i k h = let p = and_parts (nat_le (first_line lines k) i) (nat_lt i (lines_to_last lines k)) h in (leb-true (first_line lines k) i p.0, ltb-true i (lines_to_last lines k) p.1)

pub live_from : (lines : Lines) (i k : ℕ) → first_line lines k ≤ i → i < lines_to_last lines k → is_live lines i k ≡ true
live_from lines i k h l = and_from (nat_le (first_line lines k) i) (nat_lt i (lines_to_last lines k)) (le-leb (first_line lines k) i h) (lt-ltb i (lines_to_last lines k) l)

order : (lines : Lines) (j k : ℕ) → (j ≡ k) ⊎ (IsBefore lines j k ⊎ IsBefore lines k j)
order lines j k = by (first_line lines j) (first_line lines k)
  where
    by : (a b : ℕ) → (j ≡ k) ⊎ (((a < b) ⊎ ((a ≡ b) × (j < k))) ⊎ ((b < a) ⊎ ((b ≡ a) × (k < j))))
    by a b = go (three a b) (three j k)
      where
        three : (x y : ℕ) → (x < y) ⊎ ((x ≡ y) ⊎ (y < x))
        three x y = grind arith

        go : (a < b) ⊎ ((a ≡ b) ⊎ (b < a)) → (j < k) ⊎ ((j ≡ k) ⊎ (k < j)) → (j ≡ k) ⊎ (((a < b) ⊎ ((a ≡ b) × (j < k))) ⊎ ((b < a) ⊎ ((b ≡ a) × (k < j))))
        go (inl h) l = inr (inl (inl h))
        go (inr (inr h)) l = inr (inr (inl h))
        go (inr (inl h)) (inl l) = inr (inl (inr (h, l)))
        go (inr (inl h)) (inr (inl l)) = inl l
        go (inr (inl h)) (inr (inr l)) = inr (inr (inr (sym h, l)))

pub first_le : (lines : Lines) (j k : ℕ) → IsBefore lines j k → first_line lines j ≤ first_line lines k
first_le lines j k (inl h) = omega arith
first_le lines j k (inr h) = let e = h.0 in omega arith

-- one that is taken before k and live where k is, is live on the first line of k
live_at_first : (lines : Lines) (i j k : ℕ) → IsBefore lines j k → is_live lines i j ≡ true → is_live lines i k ≡ true → is_live lines (first_line lines k) j ≡ true
live_at_first lines i j k b h l =
    let p = live_parts lines i j h in let q = live_parts lines i k l in
    let a = p.1 in let c = q.0 in
    live_from lines (first_line lines k) j (first_le lines j k b) (omega arith)

pub none_share : NoneShare
none_share lines registers scan i j k r h l e f = go (order lines j k)
  where
    go : (j ≡ k) ⊎ (IsBefore lines j k ⊎ IsBefore lines k j) → j ≡ k
    go (inl q) = q
    go (inr (inl b)) = absurd (scan.free k r f (record { by = j; before = b; live = live_at_first lines i j k b h l; has = e }))
    go (inr (inr b)) = absurd (scan.free j r e (record { by = k; before = b; live = live_at_first lines i k j b l h; has = f }))

-- a temporary that is named is live on its first line, which is one of the lines
pub named_live : (lines : Lines) (k i : ℕ) (line : List ℕ) → slice_get lines i ≡ Some line → is_on k line ≡ true → first_line lines k < lines_to_last lines k
named_live [] k i line at h = absurd (some_none (sym at))
named_live (x ∷ lines) k zero line at h = go (is_on k x) (ap (is_on k) (some_same at) ∙ h) (lines_to_last lines k)
  where
    go : (b : Bool) → b ≡ true → (n : ℕ) → (if b then 0 else suc (first_line lines k)) < with_line b n
    go true e zero = omega arith
    go true e (suc n) = omega arith
    go false e n = cc
named_live (x ∷ lines) k (suc i) line at h = go (is_on k x) (lines_to_last lines k) (named_live lines k i line at h)
  where
    go : (b : Bool) (n : ℕ) → first_line lines k < n → (if b then 0 else suc (first_line lines k)) < with_line b n
    go true zero l = omega arith
    go true (suc n) l = omega arith
    go false zero l = absurd (omega arith)
    go false (suc n) l = omega arith

pub last_within : (lines : Lines) (k : ℕ) → lines_to_last lines k ≤ length lines
last_within [] k = omega arith
last_within (x ∷ lines) k = go (is_on k x) (lines_to_last lines k) (last_within lines k)
  where
    go : (b : Bool) (n : ℕ) → n ≤ length lines → with_line b n ≤ suc (length lines)
    go true zero l = omega arith
    go false zero l = omega arith
    go b (suc n) l = omega arith

greatest_of_map : (f : ℕ → ℕ) (len a i : ℕ) → a ≤ i → i < a + len → f i ≤ greatest_of (map f (range_with_len a len))
greatest_of_map f zero a i h l = absurd (omega arith)
greatest_of_map f (suc len) a i h l = go (first a i h) (λ h. greatest_of_map f len (a + 1) i h (omega arith))
  where
    first : (a i : ℕ) → a ≤ i → (a ≡ i) ⊎ (a + 1 ≤ i)
    first a i h = grind arith

    left : (x y : ℕ) → x ≤ max x y
    left x y = omega arith

    right : (x y z : ℕ) → z ≤ y → z ≤ max x y
    right x y z h = omega arith

    go : (a ≡ i) ⊎ (a + 1 ≤ i) → (a + 1 ≤ i → f i ≤ greatest_of (map f (range_with_len (a + 1) len))) → f i ≤ max (f a) (greatest_of (map f (range_with_len (a + 1) len)))
    go (inl e) r = subst (λ x. f x ≤ max (f a) (greatest_of (map f (range_with_len (a + 1) len)))) e (left (f a) (greatest_of (map f (range_with_len (a + 1) len))))
    go (inr m) r = right (f a) (greatest_of (map f (range_with_len (a + 1) len))) (f i) (r m)

greatest_of_most : (f : ℕ → ℕ) (len a most : ℕ) → ((i : ℕ) → f i ≤ most) → greatest_of (map f (range_with_len a len)) ≤ most
greatest_of_most f zero a most h = omega arith
greatest_of_most f (suc len) a most h = both (f a) (greatest_of (map f (range_with_len (a + 1) len))) (h a) (greatest_of_most f len (a + 1) most h)
  where
    both : (x y : ℕ) → x ≤ most → y ≤ most → max x y ≤ most
    both x y h l = omega arith

pub in_range : (len a x : ℕ) → a ≤ x → x < a + len → IsIn (range_with_len a len) x
in_range zero a x h k = absurd (omega arith)
in_range (suc len) a x h k = go (first a x h) (λ l. in_range len (a + 1) x l (omega arith))
  where
    first : (a x : ℕ) → a ≤ x → (a ≡ x) ⊎ (a + 1 ≤ x)
    first a x h = grind arith

    go : (a ≡ x) ⊎ (a + 1 ≤ x) → (a + 1 ≤ x → IsIn (range_with_len (a + 1) len) x) → IsIn (a ∷ range_with_len (a + 1) len) x
    go (inl e) r = (0, ap Some e)
    go (inr l) r = let (j, e) = r l in (suc j, e)

-- a temporary with a register is one of those from 1 on
has_range : (registers : List ℕ) (k r : ℕ) → register_of registers k ≡ Some r → (1 ≤ k) × (k ≤ length registers)
has_range registers zero r h = absurd (some_none (sym h))
has_range registers (suc k) r h = let w = slice_get_within registers k r h in (omega arith, omega arith)

pub scans_fit : ScansFit
scans_fit lines registers k r named scan h =
    let range = has_range registers k r h in
    let (i, line, at, is) = named in
    let live = named_live lines k i line at is in
    let within = last_within lines k in
    let temps = length registers in
    let here = first_line lines k in
    let many = at_least (register_of registers) (is_live lines here) (range_with_len 1 temps) (r + 1) (λ q l. below q (least q r l) live) in
    let top = greatest_of_map (live_on lines temps) (length lines) 0 here (omega arith) (omega arith) in
    omega arith
  where
    least : (q r : ℕ) → q < r + 1 → (q < r) ⊎ (q ≡ r)
    least q r h = grind arith

    below : (q : ℕ) → (q < r) ⊎ (q ≡ r) → first_line lines k < lines_to_last lines k → Has (register_of registers) (is_live lines (first_line lines k)) (range_with_len 1 (length registers)) q
    below q (inl l) live =
        let t = scan.lowest k r q h l in
        let range = has_range registers t.by q t.has in
        record { item = t.by; among = in_range (length registers) 1 t.by range.0 (let b = range.1 in omega arith); passes = t.live; has = t.has }
    below q (inr e) live =
        let range = has_range registers k r h in
        record { item = k; among = in_range (length registers) 1 k range.0 (let b = range.1 in omega arith); passes = live_from lines (first_line lines k) k (omega arith) live; has = h ∙ ap Some (sym e) }

has_register : (registers : List ℕ) (k : ℕ) → 1 ≤ k → k < 1 + length registers → (r : ℕ) × (register_of registers k ≡ Some r)
has_register registers zero h l = absurd (omega arith)
has_register registers (suc k) h l = at registers k (omega arith)
  where
    at : (xs : List ℕ) (k : ℕ) → k < length xs → (r : ℕ) × (slice_get xs k ≡ Some r)
    at [] k h = absurd (omega arith)
    at (x ∷ xs) zero h = (x, refl)
    at (x ∷ xs) (suc k) h = at xs k (omega arith)

-- a temporary that is live on a line is named
pub live_named : (lines : Lines) (k : ℕ) → 0 < lines_to_last lines k → IsNamed lines k
live_named [] k h = absurd (omega arith)
live_named (x ∷ lines) k h = go (is_on k x) refl (lines_to_last lines k) h (live_named lines k)
  where
    go : (b : Bool) → is_on k x ≡ b → (n : ℕ) → 0 < with_line b n → (0 < n → IsNamed lines k) → IsNamed (x ∷ lines) k
    go true e n h r = (0, x, refl, e)
    go false e zero h r = absurd (omega arith)
    go false e (suc n) h r = let (i, line, at, is) = r (omega arith) in (suc i, line, at, is)

pub needs_are_needed : NeedsAreNeeded
needs_are_needed lines registers most none small =
    greatest_of_most (live_on lines (length registers)) (length lines) 0 most (λ i.
    at_most (register_of registers) (is_live lines i) (length registers) 1 most
    (λ k h l live. let (r, is) = has_register registers k h l in (r, is, small k r (live_named lines k (let p = (live_parts lines i k live).1 in omega arith)) is))
    (λ j k r h l p q e f. none i j k r p q e f))
