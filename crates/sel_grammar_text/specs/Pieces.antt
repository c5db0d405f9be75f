-- What the code's tokens stand for.
use Rattle.sel_grammar_text.specs.Tokens.{Token, Name, Integer, Quoted, Unclosed, Start, Term, Percents, Code, OpenCode, Colon, Equals, Open, Close, Comma, Semi, Bad, End}
use Rattle.sel_grammar_text.specs.declared.tokens.Piece.{Piece}
use Rattle.sel_grammar_text.specs.declared.tokens.Piece.TheVariants as piece

-- a token of the code, without where its bytes lie
abbrev pub view : Piece → Token
view (piece.Name bytes) = Name bytes.now
view (piece.Integer bytes) = Integer bytes.now
view (piece.Quoted inside behind) = Quoted inside.now behind.now
view piece.Unclosed = Unclosed
view piece.Start = Start
view piece.Term = Term
view piece.Percents = Percents
view (piece.Code n) = Code n
view piece.OpenCode = OpenCode
view piece.Colon = Colon
view piece.Equals = Equals
view piece.Open = Open
view piece.Close = Close
view piece.Comma = Comma
view piece.Semi = Semi
view (piece.Bad b) = Bad b
view piece.End = End
