-- The table of classes tells each byte as its definition does.
use Rattle.std.proofs.Common.{◌≡◌, ℕ, suc, zero, ◌+◌, ◌<◌, ◌==◌, ◌&&◌, ◌||◌, nat_le, Bool, true, false, List, [], ◌∷◌, refl, sym, subst, arith, length, slice_index_or}
use Rattle.sel_forest.specs.Symbols.{is_blank, is_letter, is_name_byte, is_symbol_byte}
use Rattle.sel_forest.specs.declared.classes.TheConstants.{CLASSES}

-- `.`, `$` or `@`
abbrev pub is_symbol_mark : ℕ → Bool
is_symbol_mark b = (b == 46) || (b == 36) || (b == 64)

abbrev same : Bool → Bool → Bool
same true true = true
same false false = true
same _ _ = false

same_is : (a b : Bool) → same a b ≡ true → a ≡ b
same_is true true h = refl
same_is true false h = sym h
same_is false true h = h
same_is false false h = refl

-- whether two tests agree on each class of the table and its byte, the first being byte k
abbrev agree : (ℕ → Bool) → (ℕ → Bool) → ℕ → List ℕ → Bool
agree f p k [] = true
agree f p k (c ∷ cs) = same (f c) (p k) && agree f p (suc k) cs

both_left : (a b : Bool) → (a && b) ≡ true → a ≡ true
both_left true b h = refl
both_left false b h = cc

both_right : (a b : Bool) → (a && b) ≡ true → b ≡ true
both_right true b h = h
both_right false b h = cc

agree_at : (f p : ℕ → Bool) (k i j : ℕ) (cs : List ℕ) → agree f p k cs ≡ true → i < length cs → k + i ≡ j → f (slice_index_or cs i 0) ≡ p j
agree_at f p k i j [] h lt e = absurd (omega (arith, lt))
agree_at f p k zero j (c ∷ cs) h lt e =
    subst (λ n. f c ≡ p n) (omega (arith, e)) (same_is (f c) (p k) (both_left (same (f c) (p k)) (agree f p (suc k) cs) h))
agree_at f p k (suc i) j (c ∷ cs) h lt e =
    agree_at f p (suc k) i j cs (both_right (same (f c) (p k)) (agree f p (suc k) cs) h) (omega (arith, lt)) (omega (arith, e))

pub blank_class : (b : ℕ) → b < 256 → (slice_index_or CLASSES b 0 == 1) ≡ is_blank b
blank_class b h = agree_at (λ c. c == 1) is_blank 0 b b CLASSES refl h (omega arith)

pub letter_class : (b : ℕ) → b < 256 → (slice_index_or CLASSES b 0 == 4) ≡ is_letter b
letter_class b h = agree_at (λ c. c == 4) is_letter 0 b b CLASSES refl h (omega arith)

pub name_class : (b : ℕ) → b < 256 → nat_le 3 (slice_index_or CLASSES b 0) ≡ is_name_byte b
name_class b h = agree_at (λ c. nat_le 3 c) is_name_byte 0 b b CLASSES refl h (omega arith)

pub mark_class : (b : ℕ) → b < 256 → (slice_index_or CLASSES b 0 == 2) ≡ is_symbol_mark b
mark_class b h = agree_at (λ c. c == 2) is_symbol_mark 0 b b CLASSES refl h (omega arith)

pub symbol_class : (b : ℕ) → b < 256 → nat_le 2 (slice_index_or CLASSES b 0) ≡ is_symbol_byte b
symbol_class b h = agree_at (λ c. nat_le 2 c) is_symbol_byte 0 b b CLASSES refl h (omega arith)
