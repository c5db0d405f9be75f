-- Faults of form, each at one token.
use Rattle.std.specs.Prelude.{◌≡◌, ℕ, zero, suc, ◌+◌, ◌==◌, ◌&&◌, ◌||◌, Bool, true, false, nat_le, List, [], ◌∷◌, ◌++◌, length, drop, Option, Some, None, if◌then◌else◌}
use Rattle.sel_grammar.specs.Limits as limits
use Rattle.sel_grammar.specs.Limits.{most_names}
use Rattle.sel_grammar_text.specs.Blanks.{skip}
use Rattle.sel_grammar_text.specs.Tokens.{Token, Name, Integer, Quoted, Unclosed, Code, OpenCode, Open, Close, Comma, token_of}
use Rattle.sel_grammar_text.specs.Form.{GoesOn}
use Rattle.sel_grammar_text.specs.Items.{Word, word}
use Rattle.sel_grammar_text.specs.CostText.{and_then, wrong_cost}
use Rattle.sel_grammar_text.specs.Spots.{Spot, behind, after, tokens, first_spots, here}
use Rattle.sel_grammar_text.specs.Cutting.{cutting}
use Rattle.sel_grammar_text.specs.declared.fault.Fault.{Fault}

-- a byte that a String may have: tab, or one that is no control
abbrev pub is_string_byte : ℕ → Bool
is_string_byte b = (b == 9) || (nat_le 32 b && nat_le b 126) || nat_le 128 b

-- what may stand behind a backslash: n, t, a quote, a backslash
abbrev pub is_escape : ℕ → Bool
is_escape b = (b == 110) || (b == 116) || (b == 34) || (b == 92)

-- the first byte that a String may not have, or the backslash of another escape
abbrev pub bad_byte : ℕ → List ℕ → Option ℕ
bad_byte at [] = None
bad_byte at (b ∷ []) = if is_string_byte b then None else Some at
bad_byte at (b ∷ c ∷ bytes) =
    if b == 92 then (if is_escape c then bad_byte (at + 2) bytes else Some at)
    else (if is_string_byte b then bad_byte (at + 1) (c ∷ bytes) else Some at)

abbrev pub names_in : List Spot → List Word
names_in [] = []
names_in (s ∷ spots) = elim s.token as (λ _. List Word) [ Name n ↦ word s.at n ∷ names_in spots | _ ↦ names_in spots ]

-- how many names stand in the pattern of the rule that the spots begin
abbrev pub pattern_names : List Spot → ℕ
pattern_names spots = length (drop 1 (names_in spots))

abbrev pub is_integer : Token → Bool
is_integer (Integer d) = true
is_integer _ = false

abbrev pub is_comma : Token → Bool
is_comma Comma = true
is_comma _ = false

abbrev pub is_close : Token → Bool
is_close Close = true
is_close _ = false

-- the first token
abbrev pub token_in : List ℕ → Token
token_in bytes = token_of (skip bytes)

-- what stands behind a comma and an Integer, where the bytes begin with these
abbrev pub behind_further : List ℕ → Option (List ℕ)
behind_further bytes = if is_comma (token_in bytes) && is_integer (token_in (behind bytes)) then Some (behind (behind bytes)) else None

-- Integers with commas before them, n at most, and `)`
abbrev pub closes_to : ℕ → List ℕ → Bool
closes_to zero bytes = false
closes_to (suc n) bytes = elim (behind_further bytes) [ None ↦ is_close (token_in bytes) | Some rest ↦ closes_to n rest ]

abbrev pub closes : List ℕ → Bool
closes bytes = closes_to (suc (length bytes)) bytes

-- three or more Integers with commas between them, and `)`
abbrev pub is_cost_list : List ℕ → Bool
is_cost_list bytes = is_integer (token_in bytes) && (elim (and_then (behind_further (behind bytes)) behind_further) as (λ _. Bool) [ None ↦ false | Some rest ↦ closes rest ])

-- the last spot is an Integer
abbrev pub ends_integer : List Spot → Bool
ends_integer [] = false
ends_integer (s ∷ []) = is_integer s.token
ends_integer (s ∷ t ∷ spots) = ends_integer (t ∷ spots)

-- The token s has a fault of form. Some spots stand before it, of which `left` belong to no item yet, `more` is the text
-- behind it, and the whole text has that many bytes.
pub data FormFault (all : ℕ) (before left : List Spot) (s : Spot) (more : List ℕ) : Fault → Type 0 where
  unclosed_quote : s.token ≡ Unclosed → GoesOn (tokens before ++ (Quoted [] [] ∷ [])) → FormFault all before left s more (record { kind = limits.template_form; at = s.at })
  open_code : s.token ≡ OpenCode → GoesOn (tokens before ++ (Code 0 ∷ [])) → FormFault all before left s more (record { kind = limits.token; at = all })
  stray : (s.token ≡ Unclosed → GoesOn (tokens before ++ (Quoted [] [] ∷ [])) → ⊥) → (s.token ≡ OpenCode → GoesOn (tokens before ++ (Code 0 ∷ [])) → ⊥)
      → (GoesOn (tokens before ++ (s.token ∷ [])) → ⊥) → FormFault all before left s more (record { kind = limits.token; at = s.at })
  name_too_many : (n : List ℕ) → s.token ≡ Name n → GoesOn (tokens before ++ (s.token ∷ [])) → pattern_names left ≡ most_names → FormFault all before left s more (record { kind = limits.too_many; at = s.at })
  bad_string : (inside behind : List ℕ) (at : ℕ) → s.token ≡ Quoted inside behind → GoesOn (tokens before ++ (s.token ∷ [])) → bad_byte (s.at + 1) inside ≡ Some at
      → FormFault all before left s more (record { kind = limits.template_form; at = at })
  cost_line : (inside behind : List ℕ) (at : ℕ) → s.token ≡ Quoted inside behind → GoesOn (tokens before ++ (s.token ∷ [])) → bad_byte (s.at + 1) inside ≡ None
      → wrong_cost (s.at + length inside + 2) behind ≡ Some at → FormFault all before left s more (record { kind = limits.cost_form; at = at })
  cost_list : s.token ≡ Open → GoesOn (tokens before ++ (s.token ∷ [])) → ends_integer before ≡ true → is_cost_list more ≡ true → FormFault all before left s more (record { kind = limits.cost_form; at = s.at })

-- token n of the text, from 0, has the fault of form
abbrev pub HasFormFault : List ℕ → ℕ → Fault → Type 0
HasFormFault bytes n f = FormFault (length bytes) (first_spots n bytes) (cutting n bytes).left (here n bytes) (after (suc n) bytes) f
