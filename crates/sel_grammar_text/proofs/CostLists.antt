-- The Integers of a list of costs one by one.
use Rattle.std.proofs.Common.{◌≡◌, ℕ, suc, zero, ◌<◌, List, Option, Some, None, Bool, length, refl, ap, ◌∙◌, arith}
use Rattle.sel_grammar_text.specs.FormFaults.{behind_further, closes_to, closes, is_close, token_in}

-- whether the list closes, by what stands behind a further Integer
abbrev closes_by : ℕ → List ℕ → Option (List ℕ) → Bool
closes_by n bytes o = elim o as (λ _. Bool) [ None ↦ is_close (token_in bytes) | Some rest ↦ closes_to n rest ]

-- what stands behind a further Integer is shorter
abbrev pub IsShortening : Type 0
IsShortening = (bytes rest : List ℕ) → behind_further bytes ≡ Some rest → length rest < length bytes

-- more turns than bytes change nothing
enough : IsShortening → (n m : ℕ) (bytes : List ℕ) → length bytes < n → length bytes < m → closes_to n bytes ≡ closes_to m bytes
enough short zero m bytes h k = absurd (omega arith)
enough short (suc n) zero bytes h k = absurd (omega arith)
enough short (suc n) (suc m) bytes h k = go (behind_further bytes) refl (enough short n m)
  where
    go : (o : Option (List ℕ)) → behind_further bytes ≡ o → ((bs : List ℕ) → length bs < n → length bs < m → closes_to n bs ≡ closes_to m bs) → closes_by n bytes o ≡ closes_by m bytes o
    go None e ih = refl
    go (Some rest) e ih = ih rest (omega (arith, short bytes rest e)) (omega (arith, short bytes rest e))

pub closes_one : IsShortening → (bytes rest : List ℕ) → behind_further bytes ≡ Some rest → closes bytes ≡ closes rest
closes_one short bytes rest h = ap (closes_by (length bytes) bytes) h ∙ enough short (length bytes) (suc (length rest)) rest (short bytes rest h) (omega arith)

pub closes_none : (bytes : List ℕ) → behind_further bytes ≡ None → closes bytes ≡ is_close (token_in bytes)
closes_none bytes h = ap (closes_by (length bytes) bytes) h
