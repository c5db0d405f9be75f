-- Texts on a sheet.
use Rattle.std.proofs.Common.{◌≡◌, ℕ, zero, suc, ◌+◌, ◌-◌, ◌<◌, Bool, true, false, Option, Some, None, List, [], ◌∷◌, refl, ap, sym, ◌∙◌, length, slice_get, arith, length-append, map, append_assoc, ◌++◌, take, drop}
use Rattle.std.specs.Prelude.{slice_range}
use Rattle.std.proofs.lemmas.List.{map-append}
use Rattle.std.specs.Fmt.{decimal}
use Rattle.std.proofs.lemmas.Fmt.{decimal_digit}
use Rattle.sel_grammar.specs.declared.emission.Emitted.TheVariants.{Byte, Temporary}
use Rattle.sel_forest.proofs.PlaceLemmas.{append-none}
use Rattle.sel_grammar.specs.Expansions.{emitted_bytes, text_bytes, Text, value_or_none}
use Rattle.sel_expand.specs.Sheets.{shown, IsOver, IsCut}
use Rattle.sel_expand.specs.Values.{text_at}
use Rattle.sel_expand.proofs.Adding.{map-take, map-drop}

pub text_bytes-append : (xs ys : Text) → text_bytes (xs ++ ys) ≡ text_bytes xs ++ text_bytes ys
text_bytes-append [] ys = refl
text_bytes-append (x ∷ xs) ys = ap (λ z. emitted_bytes x ++ z) (text_bytes-append xs ys) ∙ sym (append_assoc (emitted_bytes x) (text_bytes xs) (text_bytes ys))

pub size-append : (xs ys : Text) → length (text_bytes (xs ++ ys)) ≡ length (text_bytes xs) + length (text_bytes ys)
size-append xs ys = ap length (text_bytes-append xs ys) ∙ length-append (text_bytes xs) (text_bytes ys)

text_bytes-bytes : (xs : List ℕ) → text_bytes (map Byte xs) ≡ xs
text_bytes-bytes [] = refl
text_bytes-bytes (x ∷ xs) = ap (λ z. x ∷ z) (text_bytes-bytes xs)

pub shown-append : (b : Bool) (xs ys : Text) → shown b (xs ++ ys) ≡ shown b xs ++ shown b ys
shown-append true xs ys = refl
shown-append false xs ys = ap (map Byte) (text_bytes-append xs ys) ∙ map-append Byte (text_bytes xs) (text_bytes ys)

pub shown-bytes : (b : Bool) (bytes : List ℕ) → shown b (map Byte bytes) ≡ map Byte bytes
shown-bytes true bytes = refl
shown-bytes false bytes = ap (map Byte) (text_bytes-bytes bytes)

pub shown-none : (b : Bool) → shown b [] ≡ []
shown-none true = refl
shown-none false = refl

pub same_bytes : (xs ys : List ℕ) → map Byte xs ≡ map Byte ys → xs ≡ ys
same_bytes [] [] h = refl
same_bytes [] (y ∷ ys) h = cc
same_bytes (x ∷ xs) [] h = cc
same_bytes (x ∷ xs) (y ∷ ys) h = let e : x ≡ y = cc in let t : map Byte xs ≡ map Byte ys = cc in λ i. e i ∷ same_bytes xs ys t i

-- a run of bytes is copied
pub copied : (old new : List ℕ) (start end : ℕ) → new ≡ old ++ slice_range old start end → map Byte new ≡ map Byte old ++ slice_range (map Byte old) start end
copied old new start end e =
    ap (map Byte) e ∙ map-append Byte old (slice_range old start end)
    ∙ ap (λ x. map Byte old ++ x) (map-take Byte (end - start) (drop start old) ∙ ap (take (end - start)) (map-drop Byte start old))

abbrev pub text_or_none : List Text → Option ℕ → Text
text_or_none texts None = []
text_or_none texts (Some i) = text_at texts i

pub text_of_kid : (texts : List Text) (kids : List ℕ) (k : ℕ) → value_or_none (slice_get (map (text_at texts) kids) k) ≡ text_or_none texts (slice_get kids k)
text_of_kid texts [] k = refl
text_of_kid texts (i ∷ kids) zero = refl
text_of_kid texts (i ∷ kids) (suc k) = text_of_kid texts kids k

pub none_both : {A B : Type 0} (xs : List A) (ys : List B) (i : ℕ) → length ys ≡ length xs → slice_get xs i ≡ None → slice_get ys i ≡ None
none_both [] [] i e h = refl
none_both [] (y ∷ ys) i e h = cc
none_both (x ∷ xs) [] i e h = cc
none_both (x ∷ xs) (y ∷ ys) zero e h = cc
none_both (x ∷ xs) (y ∷ ys) (suc i) e h = none_both xs ys i (omega arith) h

-- a front of a text is one of each longer text
pub cut_more : (b : Bool) (out target more whole : Text) → target ++ more ≡ whole → IsCut b out target → IsCut b out whole
cut_more b out target more whole e c = record { more = c.more ++ more; front = sym (append_assoc out c.more more) ∙ ap (λ x. x ++ more) c.front ∙ e; over = c.over }

-- the whole text is one of its fronts
pub cut_whole : (b : Bool) (out target : Text) → out ≡ target → IsOver b out → IsCut b out target
cut_whole b out target e over = record { more = []; front = sym (append-none out) ∙ e; over = over }

pub cut_long : (b : Bool) (out target : Text) → IsCut b out target → 1048576 < length target
cut_long b out target c = let l = c.over.long in let e : length out + length c.more ≡ length target = sym (length-append out c.more) ∙ ap length c.front in omega arith

-- a name with one digit is put
pub named_digit : (old new : List ℕ) (number digit : ℕ) → number < 10 → new ≡ old ++ (116 ∷ digit ∷ []) → digit ≡ 48 + number → map Byte new ≡ map Byte old ++ map Byte (text_bytes (Temporary number ∷ []))
named_digit old new number digit h e d =
    let same : 116 ∷ digit ∷ [] ≡ text_bytes (Temporary number ∷ []) = ap (λ x. 116 ∷ x) (ap (λ x. x ∷ []) d ∙ sym (decimal_digit number h)) ∙ append-none (116 ∷ decimal number) in
    ap (map Byte) e ∙ map-append Byte old (116 ∷ digit ∷ []) ∙ ap (λ x. map Byte old ++ map Byte x) same
