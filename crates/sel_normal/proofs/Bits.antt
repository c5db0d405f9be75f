-- Words of bits, when a bit or a whole word is added to one of them.
use Rattle.std.proofs.Common.{◌≡◌, ◌≢◌, ℕ, ◌+◌, ◌*◌, ◌%◌, ◌^◌, ◌<◌, ◌≤◌, ◌⊎◌, inl, inr, max, List, [], ◌∷◌, length, refl, ap, sym, ◌∙◌, subst, arith, get_or, set, slice_set, slice_index, slice_index_or, bit_or}
use Rattle.std.specs.Prelude.{◌↔◌}
use Rattle.std.specs.Int.{bit_at}
use Rattle.std.proofs.lemmas.Nat.Bits.{bit_at-lt, bit_at_or, bit_at-zero, bit_at_set_same, bit_at_set_other}
use Rattle.std.proofs.lemmas.List.{get_or-set_same, get_or-set_other, get_or_past}
use Rattle.std.proofs.Common.{w64}
use Rattle.sel_normal.specs.Reach.{Leads}

pub same_or_not : (x y : ℕ) → (x ≡ y) ⊎ (x ≢ y)
same_or_not x y = grind arith

pub below_or_not : (x y : ℕ) → (x < y) ⊎ (y ≤ x)
below_or_not x y = grind arith

either_one : (x y z : ℕ) → x < 2 → y < 2 → z ≡ max x y → z ≡ 1 → (x ≡ 1) ⊎ (y ≡ 1)
either_one x y z h k e f = grind arith

left_one : (x y z : ℕ) → x < 2 → y < 2 → z ≡ max x y → x ≡ 1 → z ≡ 1
left_one x y z h k e f = omega arith

right_one : (x y z : ℕ) → x < 2 → y < 2 → z ≡ max x y → y ≡ 1 → z ≡ 1
right_one x y z h k e f = omega arith

or_bit : (a b m : ℕ) → (bit_at (bit_or a b) m ≡ 1) ↔ ((bit_at a m ≡ 1) ⊎ (bit_at b m ≡ 1))
or_bit a b m = (either_one _ _ _ (bit_at-lt a m) (bit_at-lt b m) (bit_at_or a b m), back)
  where
    back : (bit_at a m ≡ 1) ⊎ (bit_at b m ≡ 1) → bit_at (bit_or a b) m ≡ 1
    back (inl h) = left_one _ _ _ (bit_at-lt a m) (bit_at-lt b m) (bit_at_or a b m) h
    back (inr h) = right_one _ _ _ (bit_at-lt a m) (bit_at-lt b m) (bit_at_or a b m) h

none_one : (x : ℕ) → x ≡ 0 → x ≡ 1 → ⊥
none_one x h k = absurd (omega arith)

-- a word that is beyond the last has no bit
pub leads_within : (rows : List ℕ) (n m : ℕ) → Leads rows n m → n < length rows
leads_within rows n m h = go (below_or_not n (length rows))
  where
    go : (n < length rows) ⊎ (length rows ≤ n) → n < length rows
    go (inl k) = k
    go (inr k) = absurd (none_one (bit_at (slice_index rows n) m) (ap (λ w. bit_at w m) (get_or_past rows n 0 k) ∙ bit_at-zero m) h)

-- a word is replaced
set_leads : (rows : List ℕ) (from w : ℕ) (Q : ℕ → Type 0) → from < length rows → ((m : ℕ) → (bit_at w m ≡ 1) ↔ (Leads rows from m ⊎ Q m))
    → (n m : ℕ) → Leads (slice_set rows from w) n m ↔ (Leads rows n m ⊎ ((n ≡ from) × Q m))
set_leads rows from w Q within says n m = go (same_or_not n from)
  where
    go : (n ≡ from) ⊎ (n ≢ from) → Leads (slice_set rows from w) n m ↔ (Leads rows n m ⊎ ((n ≡ from) × Q m))
    go (inl e) =
        subst (λ x. Leads (slice_set rows from w) x m ↔ (Leads rows x m ⊎ ((x ≡ from) × Q m))) (sym e)
        (let same : bit_at (slice_index (slice_set rows from w) from) m ≡ bit_at w m = ap (λ x. bit_at x m) (get_or-set_same rows from w 0 within) in
        ((λ h. there ((says m).0 (sym same ∙ h))), (λ h. same ∙ (says m).1 (here h))))
      where
        there : Leads rows from m ⊎ Q m → Leads rows from m ⊎ ((from ≡ from) × Q m)
        there (inl h) = inl h
        there (inr h) = inr (refl, h)

        here : Leads rows from m ⊎ ((from ≡ from) × Q m) → Leads rows from m ⊎ Q m
        here (inl h) = inl h
        here (inr h) = inr h.1
    go (inr d) =
        let same : bit_at (slice_index (slice_set rows from w) n) m ≡ bit_at (slice_index rows n) m = ap (λ x. bit_at x m) (get_or-set_other rows from n w 0 d) in
        ((λ h. inl (sym same ∙ h)), back same)
      where
        back : bit_at (slice_index (slice_set rows from w) n) m ≡ bit_at (slice_index rows n) m → Leads rows n m ⊎ ((n ≡ from) × Q m) → Leads (slice_set rows from w) n m
        back same (inl h) = same ∙ h
        back same (inr h) = absurd (d h.0)

pub add_row_leads : (rows : List ℕ) (from through : ℕ) → from < length rows
    → (n m : ℕ) → Leads (slice_set rows from (bit_or (slice_index rows from) (slice_index rows through))) n m ↔ (Leads rows n m ⊎ ((n ≡ from) × Leads rows through m))
add_row_leads rows from through within =
    set_leads rows from (bit_or (slice_index rows from) (slice_index rows through)) (λ m. Leads rows through m) within (λ m. or_bit (slice_index rows from) (slice_index rows through) m)

pub set_bit_leads : (rows : List ℕ) (from to : ℕ) → from < length rows → to < 64
    → (n m : ℕ) → Leads (slice_set rows from (bit_or (slice_index rows from) (1 * 2 ^ to % 18446744073709551616))) n m ↔ (Leads rows n m ⊎ ((n ≡ from) × (m ≡ to)))
set_bit_leads rows from to within small =
    set_leads rows from (bit_or (slice_index rows from) (1 * 2 ^ to % 18446744073709551616)) (λ m. m ≡ to) within (λ m. one m (same_or_not m to))
  where
    one : (m : ℕ) → (m ≡ to) ⊎ (m ≢ to) → (bit_at (bit_or (slice_index rows from) (1 * 2 ^ to % 18446744073709551616)) m ≡ 1) ↔ (Leads rows from m ⊎ (m ≡ to))
    one m (inl e) = ((λ h. inr e), (λ h. ap (λ x. bit_at (bit_or (slice_index rows from) (1 * 2 ^ to % 18446744073709551616)) x) e ∙ bit_at_set_same w64 (slice_index rows from) to small))
    one m (inr d) = ((λ h. inl (sym same ∙ h)), back)
      where
        same : bit_at (bit_or (slice_index rows from) (1 * 2 ^ to % 18446744073709551616)) m ≡ bit_at (slice_index rows from) m
        same = bit_at_set_other w64 (slice_index rows from) to small m d

        back : Leads rows from m ⊎ (m ≡ to) → bit_at (bit_or (slice_index rows from) (1 * 2 ^ to % 18446744073709551616)) m ≡ 1
        back (inl h) = same ∙ h
        back (inr h) = absurd (d h)
