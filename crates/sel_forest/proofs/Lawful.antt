-- Numbers and symbols are spelled as their kind says.
use Rattle.std.proofs.Common.{◌≡◌, ℕ, suc, ◌+◌, ◌<◌, Bool, true, false, List, [], ◌∷◌, refl, sym, subst, arith, take, cond, if◌then◌else◌, ◌||◌, ◌&&◌, eqb}
use Rattle.std.specs.List.{prefix_len, list_all}
use Rattle.std.specs.Char.{is_ascii_digit, digit_value}
use Rattle.std.specs.Int.{IsInRange}
use Rattle.std.proofs.lemmas.Str.{digit_value_digit}
use Rattle.std.specs.Str.Parse.{AllDigits}
use Rattle.sel_forest.specs.Symbols.{is_symbol_start, is_symbol_byte, is_letter, IsSymbol}
use Rattle.sel_forest.specs.Tokens.{Token, Number, Colon, Open, Comma, Close, Bad, token_of, mark, begins_with_digit}
use Rattle.sel_forest.specs.TreeText.{without_sign}
use Rattle.sel_forest.specs.Pieces.{IsLawful}

choose : (P : Token → Type 0) (b : Bool) (x y : Token) → (b ≡ true → P x) → (b ≡ false → P y) → P (cond b x y)
choose P true x y f g = f refl
choose P false x y f g = g refl

mark_lawful : (b : ℕ) → IsLawful (mark b)
mark_lawful b =
    choose IsLawful (eqb b 58) Colon _ (λ _. tt) (λ _. choose IsLawful (eqb b 40) Open _ (λ _. tt)
    (λ _. choose IsLawful (eqb b 44) Comma _ (λ _. tt) (λ _. choose IsLawful (eqb b 41) Close (Bad b) (λ _. tt) (λ _. tt))))

take_suc : (n b : ℕ) (bytes : List ℕ) → take (1 + n) (b ∷ bytes) ≡ b ∷ take n bytes
take_suc n b bytes = let e : 1 + n ≡ suc n = omega arith in rw e refl

pub front_yes : (p : ℕ → Bool) (b : ℕ) (bytes : List ℕ) → p b ≡ true → take (prefix_len p (b ∷ bytes)) (b ∷ bytes) ≡ b ∷ take (prefix_len p bytes) bytes
front_yes p b bytes h = rw h (take_suc (prefix_len p bytes) b bytes)

pub front_no : (p : ℕ → Bool) (b : ℕ) (bytes : List ℕ) → p b ≡ false → take (prefix_len p (b ∷ bytes)) (b ∷ bytes) ≡ []
front_no p b bytes h = rw h refl

-- the bytes at the front that pass a test
front_of : (p : ℕ → Bool) (P : List ℕ → Type 0) → P [] → ((b : ℕ) (bytes : List ℕ) → p b ≡ true → P bytes → P (b ∷ bytes)) → (bytes : List ℕ) → P (take (prefix_len p bytes) bytes)
front_of p P none some [] = none
front_of p P none some (b ∷ bytes) = go (p b) refl (front_of p P none some bytes)
  where
    go : (x : Bool) → p b ≡ x → P (take (prefix_len p bytes) bytes) → P (take (prefix_len p (b ∷ bytes)) (b ∷ bytes))
    go true e h = subst P (sym (front_yes p b bytes e)) (some b (take (prefix_len p bytes) bytes) e h)
    go false e h = subst P (sym (front_no p b bytes e)) none

digit_small : (b : ℕ) → is_ascii_digit b ≡ true → digit_value b < 10
digit_small b h = let r : IsInRange 48 57 b = grind arith in omega (arith, digit_value_digit b r, r)

digits_front : (bytes : List ℕ) → AllDigits 10 (take (prefix_len is_ascii_digit bytes) bytes)
digits_front = front_of is_ascii_digit (AllDigits 10) tt (λ b bytes h more. (digit_small b h, more))

symbol_front : (bytes : List ℕ) → list_all is_symbol_byte (take (prefix_len is_symbol_byte bytes) bytes) ≡ true
symbol_front = front_of is_symbol_byte (λ bs. list_all is_symbol_byte bs ≡ true) refl (λ b bytes h more. both (is_symbol_byte b) (list_all is_symbol_byte bytes) h more)
  where
    both : (x y : Bool) → x ≡ true → y ≡ true → (x && y) ≡ true
    both true y h k = k
    both false y h k = h

or_left : (a b : Bool) → a ≡ true → (a || b) ≡ true
or_left true b h = refl
or_left false b h = cc

-- a symbol is lawful from its start on
symbol_lawful : (b : ℕ) (bytes : List ℕ) → is_symbol_start b ≡ true → IsSymbol (take (prefix_len is_symbol_byte (b ∷ bytes)) (b ∷ bytes))
symbol_lawful b bytes h = let k : is_symbol_byte b ≡ true = or_left (is_symbol_start b) (is_ascii_digit b) h in subst IsSymbol (sym (front_yes is_symbol_byte b bytes k)) (h, symbol_front bytes)

-- digits without a sign before them
no_sign : (b : ℕ) (bytes : List ℕ) → is_ascii_digit b ≡ true → AllDigits 10 (without_sign (take (prefix_len is_ascii_digit (b ∷ bytes)) (b ∷ bytes)))
no_sign b bytes h =
    let r : IsInRange 48 57 b = grind arith in
    let unsigned : eqb b 45 ≡ false = grind (arith, r) in
    subst (λ x. AllDigits 10 (without_sign x)) (sym (front_yes is_ascii_digit b bytes h))
    (subst (λ x. AllDigits 10 (if x then take (prefix_len is_ascii_digit bytes) bytes else (b ∷ take (prefix_len is_ascii_digit bytes) bytes))) (sym unsigned) (digit_small b h, digits_front bytes))

signed : (b : ℕ) (bytes : List ℕ) → (eqb b 45 && begins_with_digit bytes) ≡ true → AllDigits 10 (without_sign (b ∷ take (prefix_len is_ascii_digit bytes) bytes))
signed b bytes h =
    subst (λ x. AllDigits 10 (if x then take (prefix_len is_ascii_digit bytes) bytes else (b ∷ take (prefix_len is_ascii_digit bytes) bytes))) (sym (and_left (eqb b 45) (begins_with_digit bytes) h)) (digits_front bytes)
  where
    and_left : (x y : Bool) → (x && y) ≡ true → x ≡ true
    and_left true y h = refl
    and_left false y h = h

pub lawful : (a : Bool) (bytes : List ℕ) → IsLawful (token_of a bytes)
lawful a [] = tt
lawful true (b ∷ bytes) =
    choose IsLawful (is_symbol_start b) _ _ (λ h. symbol_lawful b bytes h)
    (λ _. choose IsLawful (is_ascii_digit b) _ _ (λ h. no_sign b bytes h)
    (λ _. choose IsLawful (eqb b 45 && begins_with_digit bytes) (Number (b ∷ take (prefix_len is_ascii_digit bytes) bytes)) _ (λ h. signed b bytes h) (λ _. mark_lawful b)))
lawful false (b ∷ bytes) = choose IsLawful (is_letter b) _ _ (λ _. tt) (λ _. mark_lawful b)
