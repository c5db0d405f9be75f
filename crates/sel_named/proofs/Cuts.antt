-- Lines that are cut from the front are the text's lines.
use Rattle.std.proofs.Common.{◌≡◌, ℕ, zero, suc, ◌<◌, ◌≤◌, ◌+◌, ◌==◌, Bool, true, false, Some, List, [], ◌∷◌, ◌++◌, length, map, drop, get_or, slice_get, refl, sym, ap, ◌∙◌, subst, arith, append_assoc, if◌then◌else◌}
use Rattle.std.specs.Prelude.{max}
use Rattle.std.specs.List.{onto_first}
use Rattle.std.proofs.lemmas.List.{append-nil, drop_more}
use Rattle.sel_grammar.specs.declared.emission.Emitted.TheVariants.{Byte, Temporary}
use Rattle.sel_grammar.specs.Expansions.{Text}
use Rattle.sel_expand.specs.declared.cutting.Piece.{Piece}
use Rattle.sel_expand.specs.declared.cutting.Piece.TheVariants as cut
use Rattle.sel_expand.specs.Pieces.{piece_text, pieces_text}
use Rattle.sel_regs.specs.Lives.{Lines}
use Rattle.sel_named.specs.TextLines.{temps_in, temps_of, text_lines, temps_by_line}
use Rattle.sel_named.specs.Cutting.{lines_behind}

-- the lines behind a line that is begun
abbrev behind : Bool → List ℕ → Lines → Lines
behind begun temps [] = if begun then temps ∷ [] else []
behind begun temps (line ∷ lines) = (temps ++ line) ∷ lines

behind_none : (lines : Lines) → behind false [] lines ≡ lines
behind_none [] = refl
behind_none (line ∷ lines) = refl

behind_byte : (begun : Bool) (temps : List ℕ) (b : ℕ) (parts : List Text) → behind begun temps (map temps_in (onto_first (Byte b) parts)) ≡ behind true temps (map temps_in parts)
behind_byte begun temps b [] = ap (λ x. x ∷ []) (append-nil temps)
behind_byte begun temps b (part ∷ parts) = refl

behind_temp : (begun : Bool) (temps : List ℕ) (k : ℕ) (parts : List Text) → behind begun temps (map temps_in (onto_first (Temporary k) parts)) ≡ behind true (temps ++ k ∷ []) (map temps_in parts)
behind_temp begun temps k [] = refl
behind_temp begun temps k (part ∷ parts) = ap (λ x. x ∷ map temps_in parts) (sym (append_assoc temps (k ∷ []) (temps_in part)))

lines_are : (begun : Bool) (temps : List ℕ) (text : Text) → lines_behind begun temps text ≡ behind begun temps (temps_by_line text)
lines_are begun temps [] = refl
lines_are begun temps (Byte b ∷ text) = go (b == 10) refl (lines_are false [] text) (lines_are true temps text)
  where
    go : (t : Bool) → (b == 10) ≡ t → lines_behind false [] text ≡ behind false [] (temps_by_line text) → lines_behind true temps text ≡ behind true temps (temps_by_line text)
        → lines_behind begun temps (Byte b ∷ text) ≡ behind begun temps (temps_by_line (Byte b ∷ text))
    go true e ended open_line = rw e (ap (λ x. temps ∷ x) (ended ∙ behind_none (temps_by_line text)) ∙ ap (λ x. x ∷ temps_by_line text) (sym (append-nil temps)))
    go false e ended open_line = rw e (open_line ∙ sym (behind_byte begun temps b (text_lines text)))
lines_are begun temps (Temporary k ∷ text) = lines_are true (temps ++ k ∷ []) text ∙ sym (behind_temp begun temps k (text_lines text))

pub lines_whole : (text : Text) → lines_behind false [] text ≡ temps_by_line text
lines_whole text = lines_are false [] text ∙ behind_none (temps_by_line text)

pub drop_read : {X : Type 0} (xs : List X) (i : ℕ) (x : X) → i < length xs → x ≡ get_or xs i x → drop i xs ≡ x ∷ drop (i + 1) xs
drop_read xs i x h is = drop_more xs i x h ∙ ap (λ y. y ∷ drop (i + 1) xs) (sym is)

-- ---- the greatest number of a temporary

pub temps_append : (xs ys : Text) → temps_of (xs ++ ys) ≡ max (temps_of xs) (temps_of ys)
temps_append [] ys = omega arith
temps_append (Byte b ∷ xs) ys = temps_append xs ys
temps_append (Temporary k ∷ xs) ys = let e = temps_append xs ys in omega arith

pub no_temps : (bytes : List ℕ) → temps_of (map Byte bytes) ≡ 0
no_temps [] = refl
no_temps (b ∷ bytes) = no_temps bytes

pub text_greater : (piece : Piece) (bytes : List ℕ) (most : ℕ) → piece ≡ cut.Text bytes → most ≡ max (temps_of (piece_text piece)) most
text_greater piece bytes most is = subst (λ (p : Piece). most ≡ max (temps_of (piece_text p)) most) (sym is) (same bytes most)
  where
    same : (bytes : List ℕ) (most : ℕ) → most ≡ max (temps_of (map Byte bytes)) most
    same bytes most = let e = no_temps bytes in omega arith

pub more_temps : (piece : Piece) (rest : List Piece) (most : ℕ)
    → max (temps_of (pieces_text rest)) (max (temps_of (piece_text piece)) most) ≡ max (temps_of (pieces_text (piece ∷ rest))) most
more_temps piece rest most = let e = temps_append (piece_text piece) (pieces_text rest) in omega arith

some_same : {A : Type 0} {x y : A} → Some x ≡ Some y → x ≡ y
some_same h = cc

pub temp_within : (text : Text) (i k : ℕ) → slice_get text i ≡ Some (Temporary k) → k ≤ temps_of text
temp_within [] i k e = absurd (cc)
temp_within (x ∷ xs) zero k e = subst (λ y. k ≤ temps_of (y ∷ xs)) (sym (some_same e)) (first k xs)
  where
    first : (k : ℕ) (xs : Text) → k ≤ temps_of (Temporary k ∷ xs)
    first k xs = omega arith
temp_within (Byte b ∷ xs) (suc i) k e = temp_within xs i k e
temp_within (Temporary j ∷ xs) (suc i) k e = let h = temp_within xs i k e in omega arith
