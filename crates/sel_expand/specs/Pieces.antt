-- Pieces of a text: runs of bytes, and temporaries.
use Rattle.std.specs.Prelude.{◌≡◌, ℕ, ◌<◌, ◌≤◌, ◌^◌, Some, List, [], ◌∷◌, map, slice_get}
use Rattle.std.specs.List.{flat_map}
use Rattle.sel_grammar.specs.declared.emission.Emitted.TheVariants.{Byte, Temporary}
use Rattle.sel_grammar.specs.Expansions.{Text}
use Rattle.sel_expand.specs.declared.cutting.Piece.{Piece}
use Rattle.sel_expand.specs.declared.cutting.Piece.TheVariants as cut

-- the text of a piece
abbrev pub piece_text : Piece → Text
piece_text (cut.Text bytes) = map Byte bytes
piece_text (cut.Temp k) = Temporary k ∷ []

-- the texts of pieces, one behind the other
abbrev pub pieces_text : List Piece → Text
pieces_text ps = flat_map piece_text ps

-- each temporary of the text has a number from 1, of 32 bits
abbrev pub AreNumbered : Text → Type 0
AreNumbered text = (i k : ℕ) → slice_get text i ≡ Some (Temporary k) → (1 ≤ k) × (k < 2 ^ 32)
