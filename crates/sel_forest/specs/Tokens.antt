-- How a line is cut into tokens.
use Rattle.std.specs.Prelude.{◌≡◌, ℕ, zero, suc, ◌-◌, Bool, true, false, List, [], ◌∷◌, ◌++◌, length, drop, codes, if◌then◌else◌, ◌==◌, ◌&&◌, take_while}
use Rattle.std.specs.List.{prefix_len}
use Rattle.std.specs.Char.{is_ascii_digit}
use Rattle.sel_forest.specs.Symbols.{is_blank, is_letter, is_name_byte, is_symbol_start, is_symbol_byte}

-- A token, with the bytes that it stands for. End is the line's end, and Bad a byte that begins no token.
pub data Token : Type 0 where
  Name : List ℕ → Token
  Number : List ℕ → Token
  Symbol : List ℕ → Token
  Colon : Token
  Open : Token
  Comma : Token
  Close : Token
  Bad : ℕ → Token
  End : Token

-- how many bytes a token takes
abbrev pub width : Token → ℕ
width (Name bytes) = length bytes
width (Number bytes) = length bytes
width (Symbol bytes) = length bytes
width Colon = 1
width Open = 1
width Comma = 1
width Close = 1
width (Bad b) = 1
width End = 0

-- the bytes of a token
abbrev pub source : Token → List ℕ
source (Name bytes) = bytes
source (Number bytes) = bytes
source (Symbol bytes) = bytes
source Colon = codes ":"
source Open = codes "("
source Comma = codes ","
source Close = codes ")"
source (Bad b) = b ∷ []
source End = []

-- a byte that is a token of its own, or none
abbrev pub mark : ℕ → Token
mark b = if b == 58 then Colon else (if b == 40 then Open else (if b == 44 then Comma else (if b == 41 then Close else Bad b)))

abbrev pub begins_with_digit : List ℕ → Bool
begins_with_digit [] = false
begins_with_digit (b ∷ bytes) = is_ascii_digit b

-- The token at the front of the bytes, the longest of its kind. Behind a colon a number or a symbol is wanted, elsewhere a name.
abbrev pub token_of : Bool → List ℕ → Token
token_of attribute [] = End
token_of true (b ∷ bytes) =
    if is_symbol_start b then Symbol (take_while is_symbol_byte (b ∷ bytes))
    else (if is_ascii_digit b then Number (take_while is_ascii_digit (b ∷ bytes))
    else (if (b == 45) && begins_with_digit bytes then Number (b ∷ take_while is_ascii_digit bytes)
    else mark b))
token_of false (b ∷ bytes) =
    if is_letter b then Name (take_while is_name_byte (b ∷ bytes)) else mark b

-- the bytes without the blanks at their front
abbrev pub skip : List ℕ → List ℕ
skip bytes = drop (prefix_len is_blank bytes) bytes

abbrev pub is_colon : Token → Bool
is_colon Colon = true
is_colon _ = false

-- A place in a line: whether an attribute is wanted there, and what is left of the line.
pub record Spot : Type 0 where
  pub attribute : Bool
  pub text : List ℕ

abbrev pub start : List ℕ → Spot
start line = record { attribute = false; text = line }

abbrev pub token_at : Spot → Token
token_at p = token_of p.attribute (skip p.text)

abbrev pub behind : Spot → Spot
behind p = record { attribute = is_colon (token_at p); text = drop (width (token_at p)) (skip p.text) }

-- the first n tokens from a place on
abbrev pub first : ℕ → Spot → List Token
first zero p = []
first (suc n) p = token_at p ∷ first n (behind p)

-- the place behind the first n tokens
abbrev pub after : ℕ → Spot → Spot
after zero p = p
after (suc n) p = after n (behind p)

-- where the token behind the first n of a line begins, from 0
abbrev pub place : List ℕ → ℕ → ℕ
place line n = length line - length (skip (after n (start line)).text)

-- the line's tokens before its end are these
abbrev pub IsCutInto : List ℕ → List Token → Type 0
IsCutInto line ts = first (suc (length ts)) (start line) ≡ ts ++ (End ∷ [])
