-- How a grammar's text is cut into tokens.
use Rattle.std.specs.Prelude.{ℕ, suc, ◌+◌, ◌-◌, Bool, true, false, List, [], ◌∷◌, length, take, drop, take_while, if◌then◌else◌, ◌==◌, not, Option, Some, None, option_map, codes}
use Rattle.std.specs.List.{starts_with}
use Rattle.std.specs.Char.{is_ascii_digit}
use Rattle.std.proofs.Common.{eqb}
use Rattle.sel_grammar.specs.Names.{is_letter, is_name_byte}
use Rattle.sel_grammar_text.specs.Blanks.{behind_pair}

-- How many bytes of a template stand before its closing quote on this line. A backslash takes the next byte with it.
abbrev pub inside_len : Bool → List ℕ → Option ℕ
inside_len escaped [] = None
inside_len true (b ∷ bytes) = if b == 10 then None else option_map suc (inside_len false bytes)
inside_len false (b ∷ bytes) =
    if b == 34 then Some 0 else (if b == 10 then None else option_map suc (inside_len (b == 92) bytes))

-- any byte but LF
abbrev pub is_on_line : ℕ → Bool
is_on_line b = not (b == 10)

-- a value by cases on an option
abbrev pub option_cases : {X Y : Type 0} → Option X → Y → (X → Y) → Y
option_cases None y f = y
option_cases (Some x) y f = f x

-- A token. Quoted has the template's bytes between the quotes, as they stand, and all that stands behind the closing
-- quote on its line. Unclosed is a quote that isn't closed on its line, and OpenCode a C text that isn't closed. Code has
-- the length of a C text. Bad is a byte that begins no token.
pub data Token : Type 0 where
  Name : List ℕ → Token
  Integer : List ℕ → Token
  Quoted : List ℕ → List ℕ → Token
  Unclosed : Token
  Start : Token
  Term : Token
  Percents : Token
  Code : ℕ → Token
  OpenCode : Token
  Colon : Token
  Equals : Token
  Open : Token
  Close : Token
  Comma : Token
  Semi : Token
  Bad : ℕ → Token
  End : Token

-- how many bytes a token takes
abbrev pub width : Token → ℕ
width (Name bytes) = length bytes
width (Integer bytes) = length bytes
width (Quoted inside behind) = length inside + length behind + 2
width Unclosed = 1
width Start = 6
width Term = 5
width Percents = 2
width (Code n) = n + 4
width OpenCode = 2
width Colon = 1
width Equals = 1
width Open = 1
width Close = 1
width Comma = 1
width Semi = 1
width (Bad b) = 1
width End = 0

-- a byte that is a token of its own, or none
abbrev pub mark : ℕ → Token
mark b =
    if b == 58 then Colon else (if b == 61 then Equals else (if b == 40 then Open else (if b == 41 then Close
    else (if b == 44 then Comma else (if b == 59 then Semi else Bad b)))))

-- what a quote begins, by the bytes behind it
abbrev pub quoted : List ℕ → Token
quoted bytes = option_cases (inside_len false bytes) Unclosed (λ n. Quoted (take n bytes) (take_while is_on_line (drop (n + 1) bytes)))

-- what a percent sign begins, by the bytes behind it
abbrev pub percent : List ℕ → Token
percent bytes =
    if starts_with eqb bytes (codes "start") then Start
    else (if starts_with eqb bytes (codes "term") then Term
    else (if starts_with eqb bytes (codes "%") then Percents
    else (if starts_with eqb bytes (codes "{")
    then option_cases (behind_pair 37 125 (drop 1 bytes)) OpenCode (λ rest. Code (length bytes - length rest - 3))
    else Bad 37)))

-- the token at the front of the bytes, which begin with no blank; the longest of its kind
abbrev pub token_of : List ℕ → Token
token_of [] = End
token_of (b ∷ bytes) =
    if is_letter b then Name (take_while is_name_byte (b ∷ bytes))
    else (if is_ascii_digit b then Integer (take_while is_ascii_digit (b ∷ bytes))
    else (if b == 34 then quoted bytes
    else (if b == 37 then percent bytes
    else mark b)))
