-- The entries of a row after a write.
use Rattle.std.proofs.Common.{◌≡◌, ℕ, zero, suc, ◌+◌, ◌<◌, ◌≤◌, ◌⊎◌, inl, inr, [], ◌∷◌, length, refl, ap, subst, ◌∙◌, arith, Option, None, get_or}
use Rattle.std.specs.Prelude.{slice_set}
use Rattle.std.specs.Option.{option_flatten}
use Rattle.std.proofs.lemmas.Option.{slice_get-get_or, slice_get_past}
use Rattle.sel_base.proofs.Shared.Bettering.{place_at-get_or, place_at-set_same, place_at-set_other}
use Rattle.sel_base.proofs.Shared.Choices.{same_or_other}
use Rattle.sel_plain.specs.declared.entry.Entry.{Entry}
use Rattle.sel_plain.specs.Rows.{Row, entry_at}

-- the first places are cleared
abbrev pub IsClearTo : ℕ → Row → Type 0
IsClearTo k row = (n : ℕ) → n < k → entry_at row n ≡ None

pub IsClearTo-more : (row : Row) (k : ℕ) → k < length row → IsClearTo k row → IsClearTo (k + 1) (slice_set row k None)
IsClearTo-more row k h clear n lt = go (same_or_other k n)
  where
    go : (k ≡ n) ⊎ (k ≡ n → ⊥) → entry_at (slice_set row k None) n ≡ None
    go (inl q) = subst (λ x. entry_at (slice_set row k None) x ≡ None) q (place_at-set_same row k None h)
    go (inr d) = place_at-set_other row k n None d ∙ clear n (apart d)
      where
        apart : (k ≡ n → ⊥) → n < k
        apart d = grind arith

pub all_clear : (row : Row) (k : ℕ) → length row ≤ k → IsClearTo k row → (n : ℕ) → entry_at row n ≡ None
all_clear row k h clear n = go (split n k)
  where
    split : (n k : ℕ) → (n < k) ⊎ (k ≤ n)
    split n k = grind arith

    go : (n < k) ⊎ (k ≤ n) → entry_at row n ≡ None
    go (inl l) = clear n l
    go (inr l) = ap option_flatten (slice_get_past row n (omega arith))
