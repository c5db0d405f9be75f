-- Which bytes names and symbols are made of.
use Rattle.std.specs.Prelude.{◌≡◌, ℕ, Bool, true, List, [], ◌∷◌, ◌==◌, ◌||◌}
use Rattle.std.specs.List.{list_all}
use Rattle.std.specs.Char.{is_ascii_digit}
pub use Rattle.sel_grammar.specs.Names.{is_letter, is_name_byte, IsName}

-- space, tab, CR, form feed
abbrev pub is_blank : ℕ → Bool
is_blank b = (b == 32) || (b == 9) || (b == 13) || (b == 12)

-- a letter, _, ., $ or @
abbrev pub is_symbol_start : ℕ → Bool
is_symbol_start b = is_letter b || (b == 46) || (b == 36) || (b == 64)

abbrev pub is_symbol_byte : ℕ → Bool
is_symbol_byte b = is_symbol_start b || is_ascii_digit b

-- a letter, _, ., $ or @, and then these and digits
abbrev pub IsSymbol : List ℕ → Type 0
IsSymbol [] = ⊥
IsSymbol (b ∷ bytes) = (is_symbol_start b ≡ true) × (list_all is_symbol_byte bytes ≡ true)
