-- The place behind bytes one by one.
use Rattle.std.proofs.Common.{◌≡◌, ℕ, ◌+◌, List, [], ◌∷◌, ◌++◌, Bool, true, false, refl, ap, sym, ◌∙◌, subst, arith, append_assoc, append-nil, cond, eqb, if◌then◌else◌}
use Rattle.std.proofs.lemmas.List.{reverse-append}
use Rattle.std.proofs.lemmas.List.Sums.{sum_by_push}
use Rattle.std.specs.Prelude.{count_by, not}
use Rattle.std.specs.List.{suffix_len, prefix_len}
use Rattle.sel_grammar_text.specs.Places.{IsPlaceBehind}
use Rattle.sel_grammar_text.specs.declared.place.Place.{Place}

-- the place behind one more byte
abbrev pub behind_byte : Place → ℕ → Place
behind_byte p b = if eqb b 10 then record { line = p.line + 1; column = 1 } else record { line = p.line; column = p.column + 1 }

-- the place behind some more bytes
abbrev pub behind_bytes : Place → List ℕ → Place
behind_bytes p [] = p
behind_bytes p (b ∷ bytes) = behind_bytes (behind_byte p b) bytes

count_snoc : (p : ℕ → Bool) (xs : List ℕ) (b : ℕ) → count_by p (xs ++ b ∷ []) ≡ count_by p xs + cond (p b) 1 0
count_snoc p xs b = sum_by_push (λ x. cond (p x) 1 0) xs b

suffix_snoc : (p : ℕ → Bool) (xs : List ℕ) (b : ℕ) → suffix_len p (xs ++ b ∷ []) ≡ cond (p b) (1 + suffix_len p xs) 0
suffix_snoc p xs b = ap (prefix_len p) (reverse-append xs (b ∷ []))

one_byte : (before : List ℕ) (p : Place) (b : ℕ) → IsPlaceBehind before p → IsPlaceBehind (before ++ b ∷ []) (behind_byte p b)
one_byte before p b h = go (eqb b 10) refl
  where
    go : (x : Bool) → eqb b 10 ≡ x → IsPlaceBehind (before ++ b ∷ []) (cond x (record { line = p.line + 1; column = 1 }) (record { line = p.line; column = p.column + 1 }))
    go true e = record {
      line = omega (arith, h.line, count_snoc (λ b. eqb b 10) before b ∙ ap (λ y. count_by (λ b. eqb b 10) before + cond y 1 0) e);
      column = omega (arith, suffix_snoc (λ b. not (eqb b 10)) before b ∙ ap (λ y. cond (not y) (1 + suffix_len (λ b. not (eqb b 10)) before) 0) e);
    }
    go false e = record {
      line = omega (arith, h.line, count_snoc (λ b. eqb b 10) before b ∙ ap (λ y. count_by (λ b. eqb b 10) before + cond y 1 0) e);
      column = omega (arith, h.column, suffix_snoc (λ b. not (eqb b 10)) before b ∙ ap (λ y. cond (not y) (1 + suffix_len (λ b. not (eqb b 10)) before) 0) e);
    }

pub place_behind : (before bytes : List ℕ) (p : Place) → IsPlaceBehind before p → IsPlaceBehind (before ++ bytes) (behind_bytes p bytes)
place_behind before [] p h = subst (λ xs. IsPlaceBehind xs p) (sym (append-nil before)) h
place_behind before (b ∷ bytes) p h =
    subst (λ xs. IsPlaceBehind xs (behind_bytes (behind_byte p b) bytes)) (append_assoc before (b ∷ []) bytes) (place_behind (before ++ b ∷ []) bytes (behind_byte p b) (one_byte before p b h))
