-- Integers consist of digits.
use Rattle.std.proofs.Common.{◌≡◌, ℕ, suc, ◌+◌, ◌-◌, ◌<◌, Bool, true, false, List, [], ◌∷◌, Option, Some, None, length, refl, sym, subst, arith, take, drop, cond, eqb}
use Rattle.std.specs.Prelude.{codes}
use Rattle.std.specs.List.{prefix_len, starts_with}
use Rattle.std.specs.Char.{is_ascii_digit, digit_value}
use Rattle.std.specs.Int.{IsInRange}
use Rattle.std.proofs.lemmas.Str.{digit_value_digit}
use Rattle.std.specs.Str.Parse.{AllDigits}
use Rattle.sel_grammar.specs.Names.{is_letter}
use Rattle.sel_grammar_text.specs.Blanks.{behind_pair}
use Rattle.sel_grammar_text.specs.Tokens.{Token, Quoted, Unclosed, Start, Term, Percents, Code, OpenCode, Colon, Equals, Open, Close, Comma, Semi, Bad, token_of, mark, quoted, percent, option_cases, inside_len, is_on_line}
use Rattle.sel_grammar_text.specs.ItemNumbers.{HasDigits}

choose : (P : Token → Type 0) (b : Bool) (x y : Token) → P x → P y → P (cond b x y)
choose P true x y p q = p
choose P false x y p q = q

take_suc : (n b : ℕ) (bytes : List ℕ) → take (1 + n) (b ∷ bytes) ≡ b ∷ take n bytes
take_suc n b bytes = let e : 1 + n ≡ suc n = omega arith in rw e refl

front_yes : (p : ℕ → Bool) (b : ℕ) (bytes : List ℕ) → p b ≡ true → take (prefix_len p (b ∷ bytes)) (b ∷ bytes) ≡ b ∷ take (prefix_len p bytes) bytes
front_yes p b bytes h = rw h (take_suc (prefix_len p bytes) b bytes)

front_no : (p : ℕ → Bool) (b : ℕ) (bytes : List ℕ) → p b ≡ false → take (prefix_len p (b ∷ bytes)) (b ∷ bytes) ≡ []
front_no p b bytes h = rw h refl

digit_small : (b : ℕ) → is_ascii_digit b ≡ true → digit_value b < 10
digit_small b h = let r : IsInRange 48 57 b = grind arith in omega (arith, digit_value_digit b r, r)

-- the digits at the front of some bytes
pub digits_front : (bytes : List ℕ) → AllDigits 10 (take (prefix_len is_ascii_digit bytes) bytes)
digits_front [] = tt
digits_front (b ∷ bytes) = go (is_ascii_digit b) refl (digits_front bytes)
  where
    go : (x : Bool) → is_ascii_digit b ≡ x → AllDigits 10 (take (prefix_len is_ascii_digit bytes) bytes) → AllDigits 10 (take (prefix_len is_ascii_digit (b ∷ bytes)) (b ∷ bytes))
    go true e h = subst (AllDigits 10) (sym (front_yes is_ascii_digit b bytes e)) (digit_small b e, h)
    go false e h = subst (AllDigits 10) (sym (front_no is_ascii_digit b bytes e)) tt

mark_digits : (b : ℕ) → HasDigits (mark b)
mark_digits b =
    choose HasDigits (eqb b 58) Colon _ tt (choose HasDigits (eqb b 61) Equals _ tt (choose HasDigits (eqb b 40) Open _ tt
    (choose HasDigits (eqb b 41) Close _ tt (choose HasDigits (eqb b 44) Comma _ tt (choose HasDigits (eqb b 59) Semi (Bad b) tt tt)))))

by_option : {X : Type 0} (o : Option X) (t : Token) (f : X → Token) → HasDigits t → ((x : X) → HasDigits (f x)) → HasDigits (option_cases o t f)
by_option None t f h k = h
by_option (Some x) t f h k = k x

quoted_digits : (bs : List ℕ) → HasDigits (quoted bs)
quoted_digits bs = by_option (inside_len false bs) Unclosed (λ n. Quoted (take n bs) (take (prefix_len is_on_line (drop (n + 1) bs)) (drop (n + 1) bs))) tt (λ n. tt)

percent_digits : (bs : List ℕ) → HasDigits (percent bs)
percent_digits bs =
    choose HasDigits (starts_with eqb bs (codes "start")) Start _ tt (choose HasDigits (starts_with eqb bs (codes "term")) Term _ tt
    (choose HasDigits (starts_with eqb bs (codes "%")) Percents _ tt (choose HasDigits (starts_with eqb bs (codes "{")) _ (Bad 37)
    (by_option (behind_pair 37 125 (drop 1 bs)) OpenCode (λ rest. Code (length bs - length rest - 3)) tt (λ rest. tt)) tt)))

pub token_digits : (bytes : List ℕ) → HasDigits (token_of bytes)
token_digits [] = tt
token_digits (b ∷ bytes) =
    choose HasDigits (is_letter b) _ _ tt (choose HasDigits (is_ascii_digit b) _ _ (digits_front (b ∷ bytes))
    (choose HasDigits (eqb b 34) _ _ (quoted_digits bytes) (choose HasDigits (eqb b 37) _ _ (percent_digits bytes) (mark_digits b))))
