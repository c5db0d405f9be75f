-- Taking blanks off one by one.
use Rattle.std.proofs.Common.{◌≡◌, ℕ, suc, zero, ◌≤◌, ◌<◌, List, [], ◌∷◌, Option, Some, None, Bool, true, false, length, refl, ap, ◌∙◌, arith, cond, ◌&&◌, eqb, subst}
use Rattle.sel_grammar_text.specs.Blanks.{is_blank, behind_pair, behind_comment, behind_blank, skip_at_most, skip}

abbrev IsShorter : ℕ → Option (List ℕ) → Type 0
IsShorter n None = Unit {0}
IsShorter n (Some rest) = length rest < n

choose : (P : Option (List ℕ) → Type 0) (b : Bool) (x y : Option (List ℕ)) → P x → P y → P (cond b x y)
choose P true x y p q = p
choose P false x y p q = q

weaker : (m n : ℕ) (o : Option (List ℕ)) → m ≤ n → IsShorter m o → IsShorter n o
weaker m n None h k = tt
weaker m n (Some rest) h k = omega arith

pair_shorter : (x y : ℕ) (bytes : List ℕ) → IsShorter (length bytes) (behind_pair x y bytes)
pair_shorter x y [] = tt
pair_shorter x y (b ∷ []) = tt
pair_shorter x y (b ∷ c ∷ bytes) =
    choose (IsShorter (length (b ∷ c ∷ bytes))) (eqb b x && eqb c y) (Some bytes) (behind_pair x y (c ∷ bytes)) (omega arith)
    (weaker (length (c ∷ bytes)) (length (b ∷ c ∷ bytes)) (behind_pair x y (c ∷ bytes)) (omega arith) (pair_shorter x y (c ∷ bytes)))

comment_shorter : (bytes : List ℕ) → IsShorter (length bytes) (behind_comment bytes)
comment_shorter [] = tt
comment_shorter (b ∷ []) = tt
comment_shorter (b ∷ c ∷ bytes) =
    choose (IsShorter (length (b ∷ c ∷ bytes))) (eqb b 47 && eqb c 42) (behind_pair 42 47 bytes) None
    (weaker (length bytes) (length (b ∷ c ∷ bytes)) (behind_pair 42 47 bytes) (omega arith) (pair_shorter 42 47 bytes)) tt

blank_shorter : (bytes : List ℕ) → IsShorter (length bytes) (behind_blank bytes)
blank_shorter [] = tt
blank_shorter (b ∷ bytes) = choose (IsShorter (length (b ∷ bytes))) (is_blank b) (Some bytes) (behind_comment (b ∷ bytes)) (omega arith) (comment_shorter (b ∷ bytes))

pub shorter : (bytes rest : List ℕ) → behind_blank bytes ≡ Some rest → length rest < length bytes
shorter bytes rest h = subst (IsShorter (length bytes)) h (blank_shorter bytes)

-- more turns than bytes change nothing
enough : (n m : ℕ) (bytes : List ℕ) → length bytes ≤ n → length bytes ≤ m → skip_at_most n bytes ≡ skip_at_most m bytes
enough zero zero bytes h k = refl
enough zero (suc m) [] h k = refl
enough zero (suc m) (b ∷ bytes) h k = absurd (omega arith)
enough (suc n) zero [] h k = refl
enough (suc n) zero (b ∷ bytes) h k = absurd (omega arith)
enough (suc n) (suc m) bytes h k = at (behind_blank bytes) refl (enough n m)
  where
    at : (o : Option (List ℕ)) → behind_blank bytes ≡ o → ((rest : List ℕ) → length rest ≤ n → length rest ≤ m → skip_at_most n rest ≡ skip_at_most m rest)
        → (elim o as (λ _. List ℕ) [ None ↦ bytes | Some rest ↦ skip_at_most n rest ]) ≡ (elim o as (λ _. List ℕ) [ None ↦ bytes | Some rest ↦ skip_at_most m rest ])
    at None e ih = refl
    at (Some rest) e ih = ih rest (omega (arith, shorter bytes rest e)) (omega (arith, shorter bytes rest e))

pub skip_one : (bytes rest : List ℕ) → behind_blank bytes ≡ Some rest → skip bytes ≡ skip rest
skip_one [] rest h = cc
skip_one (b ∷ bytes) rest h = ap (λ o. elim o as (λ _. List ℕ) [ None ↦ (b ∷ bytes) | Some r ↦ skip_at_most (length bytes) r ]) h ∙ enough (length bytes) (length rest) rest (omega (arith, shorter (b ∷ bytes) rest h)) (omega arith)

pub skip_none : (bytes : List ℕ) → behind_blank bytes ≡ None → skip bytes ≡ bytes
skip_none [] h = refl
skip_none (b ∷ bytes) h = ap (λ o. elim o as (λ _. List ℕ) [ None ↦ (b ∷ bytes) | Some r ↦ skip_at_most (length bytes) r ]) h

pub pair_short : (x y : ℕ) (bytes : List ℕ) → length bytes < 2 → behind_pair x y bytes ≡ None
pair_short x y [] h = refl
pair_short x y (b ∷ []) h = refl
pair_short x y (b ∷ c ∷ bytes) h = absurd (omega arith)

skip_short_to : (n : ℕ) (bytes : List ℕ) → length (skip_at_most n bytes) ≤ length bytes
skip_short_to zero bytes = omega arith
skip_short_to (suc n) bytes = go (behind_blank bytes) refl (skip_short_to n)
  where
    go : (o : Option (List ℕ)) → behind_blank bytes ≡ o → ((rest : List ℕ) → length (skip_at_most n rest) ≤ length rest)
        → length (elim o as (λ _. List ℕ) [ None ↦ bytes | Some rest ↦ skip_at_most n rest ]) ≤ length bytes
    go None e ih = omega arith
    go (Some rest) e ih = omega (arith, ih rest, shorter bytes rest e)

pub skip_short : (bytes : List ℕ) → length (skip bytes) ≤ length bytes
skip_short bytes = skip_short_to (length bytes) bytes
