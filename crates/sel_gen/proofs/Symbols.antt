-- Symbols that words give.
use Rattle.std.proofs.Common.{◌≡◌, ℕ, ◌<◌, ◌^◌, true, false, Bool, ◌||◌, ◌&&◌, List, [], ◌∷◌, refl, sym, subst, arith}
use Rattle.std.specs.List.{list_all}
use Rattle.std.specs.Fmt.{decimal}
use Rattle.std.specs.Str.Parse.{AllDigits}
use Rattle.std.specs.Char.{is_ascii_digit, digit_value}
use Rattle.std.proofs.lemmas.Fmt.{decimal_is_IsNumeral}
use Rattle.std.proofs.lemmas.Str.Parse.{digit_from_value}
use Rattle.sel_forest.specs.Symbols.{is_symbol_start, is_symbol_byte, IsSymbol}

either : (a b : Bool) → b ≡ true → (a || b) ≡ true
either true b h = refl
either false b h = h

both : (a b : Bool) → a ≡ true → b ≡ true → (a && b) ≡ true
both true b h k = k
both false b h k = h

digit_of_value : (b : ℕ) → digit_value b < 10 → is_ascii_digit b ≡ true
digit_of_value b h = let r = digit_from_value b h in grind (arith, r)

digits_lawful : (digits : List ℕ) → AllDigits 10 digits → list_all is_symbol_byte digits ≡ true
digits_lawful [] h = refl
digits_lawful (d ∷ digits) h = both (is_symbol_byte d) (list_all is_symbol_byte digits) (either (is_symbol_start d) (is_ascii_digit d) (digit_of_value d h.0)) (digits_lawful digits h.1)

pub symbol_lawful : (name : List ℕ) (n : ℕ) → name ≡ 115 ∷ decimal n → n < 2 ^ 64 → IsSymbol name
symbol_lawful name n e h = subst IsSymbol (sym e) (refl, digits_lawful (decimal n) ((decimal_is_IsNumeral n h).0).1)
