-- What the code's tokens of a cost stand for.
use Rattle.std.specs.Prelude.{ℕ, List, Option, Some}
use Rattle.sel_grammar_text.specs.Items.{Word, CostText, Ranged}
use Rattle.sel_grammar_text.specs.CostText.{CostToken, CostName, Digits, Negative, Single, cost_tokens, and_then, behind_token, is_single, read_bound, read_addend}
use Rattle.sel_grammar_text.specs.declared.cost.CostPiece.{CostPiece}
use Rattle.sel_grammar_text.specs.declared.cost.CostPiece.TheVariants as piece
use Rattle.sel_grammar_text.specs.declared.cost.CostRest.{CostRest}

-- a token of the code, without where its bytes lie
abbrev pub view : CostPiece → CostToken
view (piece.Name bytes) = CostName bytes.now
view (piece.Digits bytes) = Digits bytes.now
view (piece.Negative bytes) = Negative bytes.now
view (piece.Single b) = Single b

-- the tokens of what is left of a cost
abbrev pub tokens_of : CostRest → List (ℕ × CostToken)
tokens_of rest = cost_tokens rest.at rest.bytes.now

-- the second half of a range that stands at a place, behind its lower bound: `,HI)` with or without an addend
abbrev pub upper_in : ℕ → Word → List (ℕ × CostToken) → Option CostText
upper_in at lo ts =
    and_then (behind_token (is_single 44) ts) (λ ts.
    and_then (read_bound ts) (λ hi.
    and_then (behind_token (is_single 41) hi.1) (λ ts.
    and_then (read_addend ts) (λ addend.
    Some (Ranged at lo hi.0 addend)))))
