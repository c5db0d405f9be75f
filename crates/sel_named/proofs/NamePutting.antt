-- Names in place of temporaries.
use Rattle.std.proofs.Common.{◌≡◌, ℕ, List, [], ◌∷◌, ◌++◌, map, refl, sym, ap, ◌∙◌, append_assoc}
use Rattle.std.proofs.lemmas.List.Concat.{flat_map-append}
use Rattle.sel_grammar.specs.declared.emission.Emitted.TheVariants.{Byte}
use Rattle.sel_expand.specs.declared.cutting.Piece.{Piece}
use Rattle.sel_expand.specs.declared.cutting.Piece.TheVariants as cut
use Rattle.sel_expand.specs.Pieces.{piece_text, pieces_text}
use Rattle.sel_named.specs.NamedTexts.{emitted_by_name, bytes_by_name}

pub bytes_stay : (names : List (List ℕ)) (registers bytes : List ℕ) → bytes_by_name names registers (map Byte bytes) ≡ bytes
bytes_stay names registers [] = refl
bytes_stay names registers (b ∷ bytes) = ap (λ x. b ∷ x) (bytes_stay names registers bytes)

pub text_put : (names : List (List ℕ)) (registers : List ℕ) (piece : Piece) (bytes text : List ℕ) → piece ≡ cut.Text text
    → bytes ++ text ≡ bytes ++ bytes_by_name names registers (piece_text piece)
text_put names registers piece bytes text is =
    ap (λ x. bytes ++ x) (sym (bytes_stay names registers text)) ∙ ap (λ (p : Piece). bytes ++ bytes_by_name names registers (piece_text p)) (sym is)

pub names_more : (names : List (List ℕ)) (registers bytes : List ℕ) (piece : Piece) (rest : List Piece)
    → (bytes ++ bytes_by_name names registers (piece_text piece)) ++ bytes_by_name names registers (pieces_text rest) ≡ bytes ++ bytes_by_name names registers (pieces_text (piece ∷ rest))
names_more names registers bytes piece rest =
    append_assoc bytes (bytes_by_name names registers (piece_text piece)) (bytes_by_name names registers (pieces_text rest))
    ∙ ap (λ x. bytes ++ x) (sym (flat_map-append (emitted_by_name names registers) (piece_text piece) (pieces_text rest)))
