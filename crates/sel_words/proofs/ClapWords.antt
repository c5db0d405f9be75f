-- Words that are text can be read.
use Rattle.std.proofs.Common.{◌≡◌, ℕ, Bool, true, false, List, [], ◌∷◌, Option, Some, None, length, refl, sym, ap, ◌∙◌, subst, map, string_bytes, slice_get, String, Global, arith}
use Rattle.std.specs.Prelude.{◌==◌}
use Rattle.std.specs.Str.{IsUtf8, chars}
use Rattle.std.proofs.lemmas.Str.{IsUtf8-drop, IsCharBoundary-past_char, IsUtf8-had, encodes-chars}
use Rattle.std.proofs.lemmas.Bool.{eqb-true}
use lib.Utf8.{encode, encodes}
use Rattle.clap.specs.Lexer.{short_of_rest}
use Rattle.sel_words.proofs.ClapTakes.{HasFirst, IsReadable, AllReadable}

-- a text that is not empty has a first character
first_of : (flags cs : List ℕ) → chars flags ≡ cs → IsUtf8 flags → (x : ℕ) (xs : List ℕ) → flags ≡ x ∷ xs → HasFirst flags
first_of flags (c ∷ cs) e u x xs f = record { count = length xs; is_count = ap length f; first = c; is_first = ap (λ l. slice_get l 0) e }
first_of flags [] e u x xs f =
    let none : encodes [] ≡ flags = subst (λ (l : List ℕ). encodes l ≡ flags) e (encodes-chars flags u) in
    let empty : encodes [] ≡ x ∷ xs = none ∙ f in cc

-- what is behind a first hyphen is text
behind_hyphen : (rest : List ℕ) → IsUtf8 (45 ∷ rest) → IsUtf8 rest
unfolding encode
behind_hyphen rest u =
    IsUtf8-drop (45 ∷ rest) 1 u (IsCharBoundary-past_char (45 ∷ rest) rest 0 45 (omega arith) u refl)

some_is : {A : Type 0} (x y : A) → Some x ≡ Some y → x ≡ y
some_is x y e = cc

none_some : {A B : Type 0} (x : A) → let none : Option A = None in none ≡ Some x → B
none_some x e = cc

hyphened : (rest flags : List ℕ) → IsUtf8 rest → short_of_rest rest ≡ Some flags → HasFirst flags
hyphened [] flags u e = none_some flags e
hyphened (y ∷ ys) flags u e = go (y == 45) refl
  where
    go : (b : Bool) → (y == 45) ≡ b → HasFirst flags
    go true d = none_some flags (rw d at e)
    go false d = let f : y ∷ ys ≡ flags = some_is (y ∷ ys) flags (rw d at e) in first_of flags (chars flags) refl (subst (λ (l : List ℕ). IsUtf8 l) f u) y ys (sym f)

readable : (word : List ℕ) → IsUtf8 word → IsReadable word
readable [] u flags e = none_some flags e
readable (x ∷ rest) u flags e = go (x == 45) refl
  where
    go : (b : Bool) → (x == 45) ≡ b → HasFirst flags
    go true d = hyphened rest flags (behind_hyphen rest (subst (λ (n : ℕ). IsUtf8 (n ∷ rest)) (eqb-true x 45 d) u)) (rw d at e)
    go false d = none_some flags (rw d at e)

pub all_readable : (words : List (String Global)) → AllReadable (map string_bytes words)
all_readable [] = tt
all_readable (word ∷ rest) = (readable (string_bytes word) (IsUtf8-had (string_bytes word) word.ok), all_readable rest)
