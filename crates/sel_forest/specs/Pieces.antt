-- What the code's tokens and rests of a text stand for.
use Rattle.std.specs.Prelude.{◌≡◌, ℕ, List, [], Option, Some, None}
use Rattle.std.specs.Str.Parse.{AllDigits}
use Rattle.std.specs.Borrow.{Bor}
use Rattle.sel_forest.specs.declared.tokens.Piece.{Piece}
use Rattle.sel_forest.specs.declared.tokens.Piece.TheVariants as piece
use Rattle.sel_forest.specs.Tokens.{Token, Name, Number, Symbol, Colon, Open, Comma, Close, Bad, End}
use Rattle.sel_forest.specs.Symbols.{IsSymbol}
use Rattle.sel_grammar.specs.declared.grammar.Grammar.{Grammar}
use Rattle.sel_forest.specs.TreeText.{without_sign, operator_number}
use Rattle.sel_forest.specs.ForestText.{lines_of}

-- a token of the code, without where its bytes lie
abbrev pub view : Piece → Token
view (piece.Name bytes) = Name bytes.now
view (piece.Number bytes) = Number bytes.now
view (piece.Symbol bytes) = Symbol bytes.now
view piece.Colon = Colon
view piece.Open = Open
view piece.Comma = Comma
view piece.Close = Close
view (piece.Bad b) = Bad b
view piece.End = End

-- a number is digits behind an optional sign, and a symbol is a lawful one
abbrev pub IsLawful : Token → Type 0
IsLawful (Number bytes) = AllDigits 10 (without_sign bytes)
IsLawful (Symbol bytes) = IsSymbol bytes
IsLawful _ = Unit {0}

-- a name is that of the operator with this number
abbrev pub IsNamedBy : Grammar → ℕ → Token → Type 0
IsNamedBy g k (Name bytes) = operator_number g bytes ≡ k
IsNamedBy g k _ = Unit {0}

-- the lines of what stands behind a line feed, if there was one
abbrev pub lines_behind : Option (Bor (List ℕ)) → List (List ℕ)
lines_behind None = []
lines_behind (Some rest) = lines_of rest.now
