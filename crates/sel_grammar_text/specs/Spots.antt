-- The tokens of a text with their places.
use Rattle.std.specs.Prelude.{ℕ, zero, suc, ◌-◌, List, [], ◌∷◌, length, drop, map}
use Rattle.sel_grammar_text.specs.Blanks.{skip}
use Rattle.sel_grammar_text.specs.Tokens.{Token, token_of, width}

-- a token and its place, from 0
pub record Spot : Type 0 where
  pub token : Token
  pub at : ℕ

-- the bytes behind the first token
abbrev pub behind : List ℕ → List ℕ
behind bytes = drop (width (token_of (skip bytes))) (skip bytes)

-- the bytes behind the first n tokens
abbrev pub after : ℕ → List ℕ → List ℕ
after zero bytes = bytes
after (suc n) bytes = after n (behind bytes)

-- the next token, where these bytes are left of a text with that many
abbrev pub spot : ℕ → List ℕ → Spot
spot all left = record { token = token_of (skip left); at = all - length (skip left) }

-- the next n tokens, where these bytes are left of a text with that many
abbrev pub first : ℕ → ℕ → List ℕ → List Spot
first all zero left = []
first all (suc n) left = spot all left ∷ first all n (behind left)

abbrev pub tokens : List Spot → List Token
tokens spots = map (λ s. s.token) spots

-- the first n tokens of the text
abbrev pub first_spots : ℕ → List ℕ → List Spot
first_spots n bytes = first (length bytes) n bytes

-- the token behind the first n
abbrev pub here : ℕ → List ℕ → Spot
here n bytes = spot (length bytes) (after n bytes)
