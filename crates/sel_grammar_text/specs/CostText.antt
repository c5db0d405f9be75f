-- What stands behind the closing quote of a one-line rule.
use Rattle.std.specs.Prelude.{ℕ, zero, suc, ◌+◌, ◌-◌, ◌==◌, ◌&&◌, Bool, false, List, [], ◌∷◌, length, drop, Option, Some, None, if◌then◌else◌, take_while, codes, bytes_eq}
use Rattle.std.specs.Char.{is_ascii_digit}
use Rattle.sel_grammar.specs.Names.{is_letter, is_name_byte}
use Rattle.sel_grammar_text.specs.Blanks.{skip}
use Rattle.sel_grammar_text.specs.Items.{Word, word, AmountText, CostText, NoCost, Amount, Ranged}

-- a token of a cost: a name, digits, digits behind their sign, or a single byte
pub data CostToken : Type 0 where
  CostName : List ℕ → CostToken
  Digits : List ℕ → CostToken
  Negative : List ℕ → CostToken
  Single : ℕ → CostToken

-- how many bytes a token takes
abbrev pub cost_width : CostToken → ℕ
cost_width (CostName bytes) = length bytes
cost_width (Digits bytes) = length bytes
cost_width (Negative bytes) = length bytes
cost_width (Single b) = 1

abbrev pub begins_with_digit : List ℕ → Bool
begins_with_digit [] = false
begins_with_digit (b ∷ bytes) = is_ascii_digit b

-- the token that begins with the byte
abbrev pub cost_token : ℕ → List ℕ → CostToken
cost_token b bytes =
    if is_letter b then CostName (take_while is_name_byte (b ∷ bytes))
    else (if is_ascii_digit b then Digits (take_while is_ascii_digit (b ∷ bytes))
    else (if (b == 45) && begins_with_digit bytes then Negative (b ∷ take_while is_ascii_digit bytes)
    else Single b))

-- The tokens of the bytes, each with its place, n at most. An unclosed comment is no blank, so its slash is a token.
abbrev pub cost_tokens_to : ℕ → ℕ → List ℕ → List (ℕ × CostToken)
cost_tokens_to zero at bytes = []
cost_tokens_to (suc n) at bytes = elim (skip bytes) [
  | [] ↦ []
  | ◌∷◌ b more ↦ (at + (length bytes - length (b ∷ more)), cost_token b more)
      ∷ cost_tokens_to n (at + (length bytes - length (b ∷ more)) + cost_width (cost_token b more)) (drop (cost_width (cost_token b more)) (b ∷ more))
]

-- the tokens of the bytes, which begin at a place
abbrev pub cost_tokens : ℕ → List ℕ → List (ℕ × CostToken)
cost_tokens at bytes = cost_tokens_to (length bytes) at bytes

abbrev pub is_single : ℕ → CostToken → Bool
is_single b (Single c) = c == b
is_single b _ = false

abbrev pub is_word : List ℕ → CostToken → Bool
is_word name (CostName bytes) = bytes_eq bytes name
is_word name _ = false

-- the tokens behind one that passes
abbrev pub behind_token : (CostToken → Bool) → List (ℕ × CostToken) → Option (List (ℕ × CostToken))
behind_token p [] = None
behind_token p (t ∷ ts) = if p t.1 then Some ts else None

-- the second step, on what the first one gave
abbrev pub and_then : {X Y : Type 0} → Option X → (X → Option Y) → Option Y
and_then None f = None
and_then (Some x) f = f x

-- digits, with or without a sign
abbrev pub bound_in : ℕ × CostToken → Option Word
bound_in (at, Digits bytes) = Some (word at bytes)
bound_in (at, Negative bytes) = Some (word at bytes)
bound_in (at, _) = None

-- a bound of a range, and the tokens behind it
abbrev pub read_bound : List (ℕ × CostToken) → Option (Word × List (ℕ × CostToken))
read_bound [] = None
read_bound (t ∷ ts) = and_then (bound_in t) (λ w. Some (w, ts))

-- digits alone
abbrev pub read_number : List (ℕ × CostToken) → Option Word
read_number ((at, Digits bytes) ∷ []) = Some (word at bytes)
read_number _ = None

-- digits, and the tokens behind them
abbrev pub read_digits : List (ℕ × CostToken) → Option (Word × List (ℕ × CostToken))
read_digits ((at, Digits bytes) ∷ ts) = Some (word at bytes, ts)
read_digits _ = None

-- what was read, where no token is left
abbrev pub at_end : {X : Type 0} → X → List (ℕ × CostToken) → Option X
at_end x [] = Some x
at_end x (t ∷ ts) = None

-- `N,M)` at the end, behind the opening parenthesis
abbrev pub read_pair : List (ℕ × CostToken) → Option AmountText
read_pair ts =
    and_then (read_digits ts) (λ first.
    and_then (behind_token (is_single 44) first.1) (λ ts.
    and_then (read_digits ts) (λ second.
    and_then (behind_token (is_single 41) second.1) (λ ts.
    at_end (record { first = first.0; second = Some second.0 }) ts))))

-- an amount at the end: a number, or `(N,M)`
abbrev pub read_amount : List (ℕ × CostToken) → Option AmountText
read_amount ts = elim (behind_token (is_single 40) ts) [
  | None ↦ and_then (read_number ts) (λ w. Some (record { first = w; second = None }))
  | Some more ↦ read_pair more
]

-- the addend at the end: none, or an amount behind a plus sign
abbrev pub read_addend : List (ℕ × CostToken) → Option (Option AmountText)
read_addend [] = Some None
read_addend (t ∷ ts) = and_then (behind_token (is_single 43) (t ∷ ts)) (λ ts. and_then (read_amount ts) (λ a. Some (Some a)))

-- `(a,LO,HI)` with or without an addend, behind the word `range`, which stands at a place
abbrev pub read_range : ℕ → List (ℕ × CostToken) → Option CostText
read_range at ts =
    and_then (behind_token (is_single 40) ts) (λ ts.
    and_then (behind_token (is_word (codes "a")) ts) (λ ts.
    and_then (behind_token (is_single 44) ts) (λ ts.
    and_then (read_bound ts) (λ lo.
    and_then (behind_token (is_single 44) lo.1) (λ ts.
    and_then (read_bound ts) (λ hi.
    and_then (behind_token (is_single 41) hi.1) (λ ts.
    and_then (read_addend ts) (λ addend.
    Some (Ranged at lo.0 hi.0 addend)))))))))

-- the cost that the tokens are, where they are one: none, an amount, or a range
abbrev pub read_cost : List (ℕ × CostToken) → Option CostText
read_cost [] = Some NoCost
read_cost (t ∷ ts) = if is_word (codes "range") t.1 then read_range t.0 ts else and_then (read_amount (t ∷ ts)) (λ a. Some (Amount a))

-- the cost that the bytes spell, where they spell one
unfoldable pub cost_in : ℕ → List ℕ → Option CostText
cost_in at bytes = read_cost (cost_tokens at bytes)

-- where the bytes spell no cost: the first byte that isn't a blank
abbrev pub wrong_cost : ℕ → List ℕ → Option ℕ
wrong_cost at bytes = elim (cost_in at bytes) [ None ↦ Some (at + (length bytes - length (skip bytes))) | Some c ↦ None ]
