-- A template that a text has is printed in a form that passes each check, and is read again.
use Rattle.std.proofs.Common.{◌≡◌, ℕ, ◌+◌, ◌-◌, ◌<◌, ◌≤◌, List, [], ◌∷◌, ◌++◌, Option, Some, None, Bool, true, false, refl, ap, sym, ◌∙◌, subst, arith, cond, eqb, ◌||◌, ◌⊎◌, append_assoc, inl, inr, map}
use Rattle.std.specs.List.{flat_map}
use Rattle.std.specs.Char.{is_ascii_digit}
use Rattle.std.proofs.lemmas.Bool.Decides.{eqb_tells}
use Rattle.std.proofs.lemmas.Fmt.{decimal_digit}
use Rattle.sel_grammar.specs.declared.grammar.Part.{Part}
use Rattle.sel_grammar.specs.declared.grammar.Part.TheVariants.{Text, Kid, Attribute, Temp}
use Rattle.sel_grammar_text.specs.declared.template.TemplatePiece.{TemplatePiece}
use Rattle.sel_grammar_text.specs.declared.template.TemplatePiece.TheVariants.{Byte, Sign, LoneSign}
use Rattle.sel_grammar_text.specs.Checks.{begins_reserved}
use Rattle.sel_grammar_text.specs.FormFaults.{is_string_byte, is_escape, bad_byte}
use Rattle.sel_grammar_text.specs.TemplateText.{pieces, unescape, may_follow_sign, bad_sign, first_sign, ends_line, add_byte, sign_parts, parts_of, template_of}
use Rattle.sel_grammar_text.specs.Printing.{printed_byte, printed_template, AreParts}
use Rattle.sel_grammar_text.proofs.Templates.{by_test}
use Rattle.sel_grammar_text.proofs.Printed.{Passes, byte_passes, sign_passes, none_passes, passes-append}

-- the pieces without their places
abbrev pub plain : List (ℕ × TemplatePiece) → List TemplatePiece
plain ps = map (λ p. p.1) ps

-- what a template of a text may have
abbrev pub IsPiece : TemplatePiece → Type 0
IsPiece (Byte b) = (eqb b 37 ≡ false) × ((b ≡ 10) ⊎ (is_string_byte b ≡ true))
IsPiece (Sign c) = may_follow_sign c ≡ true
IsPiece LoneSign = ⊥

abbrev pub ArePieces : List TemplatePiece → Type 0
ArePieces [] = Unit {0}
ArePieces (q ∷ qs) = IsPiece q × ArePieces qs

abbrev pub printed_piece : TemplatePiece → List ℕ
printed_piece (Byte b) = printed_byte b
printed_piece (Sign c) = 37 ∷ c ∷ []
printed_piece LoneSign = 37 ∷ []

test : (a b : ℕ) → (a ≡ b) ⊎ (eqb a b ≡ false)
test a b = elim (eqb_tells a b) [ inl e ↦ inl e.1 | inr e ↦ inr e.0 ]

cond_none : (v : Bool) (o : Option ℕ) (at : ℕ) → cond v o (Some at) ≡ None → (v ≡ true) × (o ≡ None)
cond_none true o at h = (refl, h)
cond_none false o at h = cc

-- The pieces of a text.

abbrev Escaped : ℕ → Type 0
Escaped c = IsPiece (Byte (unescape c)) × ((eqb (unescape c) 63 ≡ false) × (eqb (unescape c) 35 ≡ false))

escape_piece : (c : ℕ) → is_escape c ≡ true → Escaped c
escape_piece c h = elim (test c 110) [
  | inl e ↦ subst Escaped (sym e) ((refl, inl refl), (refl, refl))
  | inr n ↦ elim (test c 116) [
    | inl e ↦ subst Escaped (sym e) ((refl, inr refl), (refl, refl))
    | inr m ↦ elim (test c 34) [
      | inl e ↦ subst Escaped (sym e) ((refl, inr refl), (refl, refl))
      | inr k ↦ elim (test c 92) [
        | inl e ↦ subst Escaped (sym e) ((refl, inr refl), (refl, refl))
        | inr j ↦ let w : false ≡ true = rw (n, m, k, j) at h in absurd (let z : ⊥ = cc in z)
      ]
    ]
  ]
]

sign_is : (c : ℕ) → may_follow_sign c ≡ true → (is_string_byte c ≡ true) × (eqb c 92 ≡ false)
sign_is c h = (grind (arith, h), grind (arith, h))

past_sign : (at c : ℕ) (bytes : List ℕ) → is_string_byte c ≡ true → eqb c 92 ≡ false → bad_byte at (c ∷ bytes) ≡ None → (to : ℕ) × (bad_byte to bytes ≡ None)
past_sign at c [] h k e = (at, refl)
past_sign at c (d ∷ bytes) h k e =
    let w : cond (eqb c 92) (cond (is_escape d) (bad_byte (at + 2) bytes) (Some at)) (cond (is_string_byte c) (bad_byte (at + 1) (d ∷ bytes)) (Some at)) ≡ None = e in
    (at + 1, sym (ap (λ b. cond b (bad_byte (at + 1) (d ∷ bytes)) (Some at)) h) ∙ sym (ap (λ b. cond b (cond (is_escape d) (bad_byte (at + 2) bytes) (Some at)) (cond (is_string_byte c) (bad_byte (at + 1) (d ∷ bytes)) (Some at))) k) ∙ w)

one_piece : (at to b : ℕ) (t : Bool) → eqb b 37 ≡ t → cond (is_string_byte b) None (Some at) ≡ None → bad_sign ((to, cond t LoneSign (Byte b)) ∷ []) ≡ None → ArePieces (plain ((to, cond t LoneSign (Byte b)) ∷ []))
one_piece at to b true e h k = cc
one_piece at to b false e h k = ((e, inr (cond_none (is_string_byte b) None at h).0), tt)

abbrev Lawful : List ℕ → Type 0
Lawful bytes = (at to : ℕ) → bad_byte at bytes ≡ None → bad_sign (pieces to bytes) ≡ None → ArePieces (plain (pieces to bytes))

two_pieces : (at to b c : ℕ) (bytes : List ℕ) (t u : Bool) → eqb b 92 ≡ t → eqb b 37 ≡ u
    → cond t (cond (is_escape c) (bad_byte (at + 2) bytes) (Some at)) (cond (is_string_byte b) (bad_byte (at + 1) (c ∷ bytes)) (Some at)) ≡ None
    → bad_sign (cond t ((to, Byte (unescape c)) ∷ pieces (to + 2) bytes) (cond u ((to, Sign c) ∷ pieces (to + 2) bytes) ((to, Byte b) ∷ pieces (to + 1) (c ∷ bytes)))) ≡ None
    → Lawful bytes → Lawful (c ∷ bytes)
    → ArePieces (plain (cond t ((to, Byte (unescape c)) ∷ pieces (to + 2) bytes) (cond u ((to, Sign c) ∷ pieces (to + 2) bytes) ((to, Byte b) ∷ pieces (to + 1) (c ∷ bytes)))))
two_pieces at to b c bytes true u e f h k r s =
    let g = cond_none (is_escape c) (bad_byte (at + 2) bytes) at h in ((escape_piece c g.0).0, r (at + 2) (to + 2) g.1 k)
two_pieces at to b c bytes false true e f h k r s =
    let g = cond_none (is_string_byte b) (bad_byte (at + 1) (c ∷ bytes)) at h in
    let l = cond_none (may_follow_sign c) (bad_sign (pieces (to + 2) bytes)) to k in
    let p = past_sign (at + 1) c bytes (sign_is c l.0).0 (sign_is c l.0).1 g.1 in
    (l.0, r p.0 (to + 2) p.1 l.1)
two_pieces at to b c bytes false false e f h k r s =
    let g = cond_none (is_string_byte b) (bad_byte (at + 1) (c ∷ bytes)) at h in ((f, inr g.0), s (at + 1) (to + 1) g.1 k)

pub lawful_pieces : (bytes : List ℕ) → Lawful bytes
lawful_pieces [] at to h k = tt
lawful_pieces (b ∷ []) at to h k = one_piece at to b (eqb b 37) refl h k
lawful_pieces (b ∷ c ∷ bytes) at to h k = two_pieces at to b c bytes (eqb b 92) (eqb b 37) refl refl h k (lawful_pieces bytes) (lawful_pieces (c ∷ bytes))

-- the places don't matter
same_cond : (t : Bool) (x y x' y' : List (ℕ × TemplatePiece)) → plain x ≡ plain x' → plain y ≡ plain y' → plain (cond t x y) ≡ plain (cond t x' y')
same_cond true x y x' y' h k = h
same_cond false x y x' y' h k = k

pub anywhere : (bytes : List ℕ) (at to : ℕ) → plain (pieces at bytes) ≡ plain (pieces to bytes)
anywhere [] at to = refl
anywhere (b ∷ []) at to = refl
anywhere (b ∷ c ∷ bytes) at to =
    same_cond (eqb b 92) _ _ _ _ (ap (λ qs. Byte (unescape c) ∷ qs) (anywhere bytes (at + 2) (to + 2)))
    (same_cond (eqb b 37) _ _ _ _ (ap (λ qs. Sign c ∷ qs) (anywhere bytes (at + 2) (to + 2))) (ap (λ qs. Byte b ∷ qs) (anywhere (c ∷ bytes) (at + 1) (to + 1))))

-- What is printed.

added : (b : ℕ) (parts : List Part) → printed_template (add_byte b parts) ≡ printed_byte b ++ printed_template parts
added b [] = append_assoc (printed_byte b) [] []
added b (Text bytes ∷ parts) = append_assoc (printed_byte b) (flat_map printed_byte bytes) (printed_template parts)
added b (Kid k ∷ parts) = append_assoc (printed_byte b) [] (printed_template (Kid k ∷ parts))
added b (Attribute ∷ parts) = append_assoc (printed_byte b) [] (printed_template (Attribute ∷ parts))
added b (Temp ∷ parts) = append_assoc (printed_byte b) [] (printed_template (Temp ∷ parts))

abbrev SignPrints : List Part → ℕ → Type 0
SignPrints parts c = printed_template (sign_parts c parts) ≡ 37 ∷ c ∷ printed_template parts

digit_prints : (parts : List Part) (c k : ℕ) → c ≡ 48 + k → k < 10 → eqb c 97 ≡ false → eqb c 99 ≡ false → eqb c 37 ≡ false → SignPrints parts c
digit_prints parts c k e h a1 a2 a3 =
    let d : c - 48 ≡ k = omega (arith, e) in
    rw (a1, a2, a3, d, decimal_digit k h) (ap (λ x. 37 ∷ x ∷ printed_template parts) (sym e))

sign_prints : (parts : List Part) (c : ℕ) → may_follow_sign c ≡ true → SignPrints parts c
sign_prints parts c h = elim (test c 97) [
  | inl e ↦ subst (SignPrints parts) (sym e) refl
  | inr n ↦ elim (test c 99) [
    | inl e ↦ subst (SignPrints parts) (sym e) refl
    | inr m ↦ elim (test c 37) [
      | inl e ↦ subst (SignPrints parts) (sym e) (added 37 parts)
      | inr k ↦
          let d : is_ascii_digit c ≡ true = grind (arith, h, n, m, k) in
          let l : (48 ≤ c) × (c ≤ 57) = grind (arith, d) in
          digit_prints parts c (c - 48) (omega (arith, l.0)) (omega (arith, l.0, l.1)) n m k
    ]
  ]
]

pub prints : (ps : List (ℕ × TemplatePiece)) → ArePieces (plain ps) → printed_template (parts_of ps) ≡ flat_map printed_piece (plain ps)
prints [] h = refl
prints ((at, Byte b) ∷ ps) h = added b (parts_of ps) ∙ ap (λ x. printed_byte b ++ x) (prints ps h.1)
prints ((at, Sign c) ∷ ps) h = sign_prints (parts_of ps) c h.0 ∙ ap (λ x. 37 ∷ c ∷ x) (prints ps h.1)
prints ((at, LoneSign) ∷ ps) h = absurd h.0

-- it ends at the closing quote
pub pieces_pass : (qs : List TemplatePiece) → ArePieces qs → Passes (flat_map printed_piece qs)
pieces_pass [] h = none_passes
pieces_pass (Byte b ∷ qs) h = passes-append (printed_byte b) (flat_map printed_piece qs) (byte_passes b) (pieces_pass qs h.1)
pieces_pass (Sign c ∷ qs) h =
    passes-append (37 ∷ c ∷ []) (flat_map printed_piece qs) (sign_passes c (grind (arith, h.0)) (grind (arith, h.0)) (sign_is c h.0).1) (pieces_pass qs h.1)
pieces_pass (LoneSign ∷ qs) h = absurd h.0

-- it has the same pieces
abbrev Cut : List ℕ → List TemplatePiece → Type 0
Cut bytes qs = (at : ℕ) → plain (pieces at bytes) ≡ qs

plain_cut : (b : ℕ) (rest : List ℕ) (qs : List TemplatePiece) → eqb b 92 ≡ false → eqb b 37 ≡ false → Cut rest qs → Cut (b ∷ rest) (Byte b ∷ qs)
plain_cut b [] qs h k s at = rw k (ap (λ x. Byte b ∷ x) (s at))
plain_cut b (c ∷ rest) qs h k s at = rw (h, k) (ap (λ x. Byte b ∷ x) (s (at + 1)))

byte_cut : (b : ℕ) (rest : List ℕ) (qs : List TemplatePiece) → eqb b 37 ≡ false → Cut rest qs → Cut (printed_byte b ++ rest) (Byte b ∷ qs)
byte_cut b rest qs n s =
    let P : List ℕ → Type 0 = λ x. Cut (x ++ rest) (Byte b ∷ qs) in
    let at : (k : ℕ) → b ≡ k → (q : ℕ) → Byte k ∷ plain (pieces (q + 2) rest) ≡ Byte b ∷ qs = λ k e q. ap (λ x. Byte k ∷ x) (s (q + 2)) ∙ ap (λ x. Byte x ∷ qs) (sym e) in
    by_test b 10 _ _ P (λ e. at 10 e) (λ _.
    by_test b 9 _ _ P (λ e. at 9 e) (λ _.
    by_test b 34 _ _ P (λ e. at 34 e) (λ _.
    by_test b 92 _ _ P (λ e. at 92 e) (λ h.
    by_test b 37 _ _ P (λ e. let w : true ≡ false = sym (ap (λ x. eqb x 37) e) ∙ n in absurd (let z : ⊥ = cc in z)) (λ k. plain_cut b rest qs h k s)))))

pub cut_again : (qs : List TemplatePiece) → ArePieces qs → Cut (flat_map printed_piece qs) qs
cut_again [] h at = refl
cut_again (Byte b ∷ qs) h at = byte_cut b (flat_map printed_piece qs) qs h.0.0 (cut_again qs h.1) at
cut_again (Sign c ∷ qs) h at = ap (λ x. Sign c ∷ x) (cut_again qs h.1 (at + 2))
cut_again (LoneSign ∷ qs) h at = absurd h.0

-- it has no bad byte
abbrev Good : List ℕ → Type 0
Good bytes = (at : ℕ) → bad_byte at bytes ≡ None

good_byte : (b : ℕ) (rest : List ℕ) → eqb b 92 ≡ false → is_string_byte b ≡ true → Good rest → Good (b ∷ rest)
good_byte b [] h k s at = rw k refl
good_byte b (c ∷ rest) h k s at = rw (h, k) (s (at + 1))

string_byte : (b : ℕ) → eqb b 10 ≡ false → (b ≡ 10) ⊎ (is_string_byte b ≡ true) → is_string_byte b ≡ true
string_byte b n (inl e) = let w : true ≡ false = sym (ap (λ x. eqb x 10) e) ∙ n in absurd (let z : ⊥ = cc in z)
string_byte b n (inr h) = h

printed_good : (b : ℕ) (rest : List ℕ) → IsPiece (Byte b) → Good rest → Good (printed_byte b ++ rest)
printed_good b rest h s =
    let P : List ℕ → Type 0 = λ x. Good (x ++ rest) in
    by_test b 10 _ _ P (λ e at. s (at + 2)) (λ n.
    by_test b 9 _ _ P (λ e at. s (at + 2)) (λ _.
    by_test b 34 _ _ P (λ e at. s (at + 2)) (λ _.
    by_test b 92 _ _ P (λ e at. s (at + 2)) (λ k.
    by_test b 37 _ _ P (λ e. good_byte 37 (37 ∷ rest) refl refl (good_byte 37 rest refl refl s)) (λ _. good_byte b rest k (string_byte b n h.1) s)))))

pub good_again : (qs : List TemplatePiece) → ArePieces qs → Good (flat_map printed_piece qs)
good_again [] h at = refl
good_again (Byte b ∷ qs) h at = printed_good b (flat_map printed_piece qs) h.0 (good_again qs h.1) at
good_again (Sign c ∷ qs) h at = good_byte 37 (c ∷ flat_map printed_piece qs) refl refl (good_byte c (flat_map printed_piece qs) (sign_is c h.0).1 (sign_is c h.0).0 (good_again qs h.1)) at
good_again (LoneSign ∷ qs) h at = absurd h.0

-- its first byte isn't reserved
abbrev FirstFree : List TemplatePiece → Type 0
FirstFree (Byte b ∷ qs) = (eqb b 63 ≡ false) × (eqb b 35 ≡ false)
FirstFree _ = Unit {0}

or_false : (a b : Bool) → (a || b) ≡ false → (a ≡ false) × (b ≡ false)
or_false true b h = cc
or_false false b h = (refl, h)

free_pieces : (bytes : List ℕ) (at to : ℕ) → bad_byte at bytes ≡ None → begins_reserved bytes ≡ false → FirstFree (plain (pieces to bytes))
free_pieces [] at to h k = tt
free_pieces (b ∷ []) at to h k = one (eqb b 37)
  where
    one : (t : Bool) → FirstFree ((cond t LoneSign (Byte b)) ∷ [])
    one true = tt
    one false = or_false (eqb b 63) (eqb b 35) k
free_pieces (b ∷ c ∷ bytes) at to h k = two (eqb b 92) (eqb b 37) h
  where
    two : (t u : Bool) → cond t (cond (is_escape c) (bad_byte (at + 2) bytes) (Some at)) (cond (is_string_byte b) (bad_byte (at + 1) (c ∷ bytes)) (Some at)) ≡ None
        → FirstFree (plain (cond t ((to, Byte (unescape c)) ∷ pieces (to + 2) bytes) (cond u ((to, Sign c) ∷ pieces (to + 2) bytes) ((to, Byte b) ∷ pieces (to + 1) (c ∷ bytes)))))
    two true u h = (escape_piece c (cond_none (is_escape c) (bad_byte (at + 2) bytes) at h).0).1
    two false true h = tt
    two false false h = or_false (eqb b 63) (eqb b 35) k

free_byte : (b : ℕ) (rest : List ℕ) → (eqb b 63 ≡ false) × (eqb b 35 ≡ false) → begins_reserved (printed_byte b ++ rest) ≡ false
free_byte b rest h =
    let P : List ℕ → Type 0 = λ x. begins_reserved (x ++ rest) ≡ false in
    by_test b 10 _ _ P (λ e. refl) (λ n. by_test b 9 _ _ P (λ e. refl) (λ _. by_test b 34 _ _ P (λ e. refl) (λ _. by_test b 92 _ _ P (λ e. refl) (λ k. by_test b 37 _ _ P (λ e. refl) (λ _. rw (h.0, h.1) refl)))))

free_again : (qs : List TemplatePiece) → ArePieces qs → FirstFree qs → begins_reserved (flat_map printed_piece qs) ≡ false
free_again [] h k = refl
free_again (Byte b ∷ qs) h k = free_byte b (flat_map printed_piece qs) k
free_again (Sign c ∷ qs) h k = refl
free_again (LoneSign ∷ qs) h k = absurd h.0

-- What checks see of pieces.

pub no_bad_sign : (ps : List (ℕ × TemplatePiece)) → ArePieces (plain ps) → bad_sign ps ≡ None
no_bad_sign [] h = refl
no_bad_sign ((at, Byte b) ∷ ps) h = no_bad_sign ps h.1
no_bad_sign ((at, Sign c) ∷ ps) h = ap (λ b. cond b (bad_sign ps) (Some at)) h.0 ∙ no_bad_sign ps h.1
no_bad_sign ((at, LoneSign) ∷ ps) h = absurd h.0

abbrev pub NoSign : (ℕ → Bool) → List TemplatePiece → Type 0
NoSign p [] = Unit {0}
NoSign p (Sign c ∷ qs) = (p c ≡ false) × NoSign p qs
NoSign p (_ ∷ qs) = NoSign p qs

seen : (b : Bool) (o : Option ℕ) (at : ℕ) → cond b (Some at) o ≡ None → (b ≡ false) × (o ≡ None)
seen true o at h = cc
seen false o at h = (refl, h)

pub to_no_sign : (p : ℕ → Bool) (ps : List (ℕ × TemplatePiece)) → first_sign p ps ≡ None → NoSign p (plain ps)
to_no_sign p [] h = tt
to_no_sign p ((at, Byte b) ∷ ps) h = to_no_sign p ps h
to_no_sign p ((at, Sign c) ∷ ps) h = let g = seen (p c) (first_sign p ps) at h in (g.0, to_no_sign p ps g.1)
to_no_sign p ((at, LoneSign) ∷ ps) h = to_no_sign p ps h

pub from_no_sign : (p : ℕ → Bool) (ps : List (ℕ × TemplatePiece)) → NoSign p (plain ps) → first_sign p ps ≡ None
from_no_sign p [] h = refl
from_no_sign p ((at, Byte b) ∷ ps) h = from_no_sign p ps h
from_no_sign p ((at, Sign c) ∷ ps) h = ap (λ b. cond b (Some at) (first_sign p ps)) h.0 ∙ from_no_sign p ps h.1
from_no_sign p ((at, LoneSign) ∷ ps) h = from_no_sign p ps h

abbrev pub ends_plainly : List TemplatePiece → Bool
ends_plainly [] = false
ends_plainly (Byte b ∷ []) = eqb b 10
ends_plainly (Sign c ∷ []) = false
ends_plainly (LoneSign ∷ []) = false
ends_plainly (p ∷ q ∷ qs) = ends_plainly (q ∷ qs)

pub ends_so : (ps : List (ℕ × TemplatePiece)) → ends_line ps ≡ ends_plainly (plain ps)
ends_so [] = refl
ends_so ((at, Byte b) ∷ []) = refl
ends_so ((at, Sign c) ∷ []) = refl
ends_so ((at, LoneSign) ∷ []) = refl
ends_so ((at, Byte b) ∷ q ∷ ps) = ends_so (q ∷ ps)
ends_so ((at, Sign c) ∷ q ∷ ps) = ends_so (q ∷ ps)
ends_so ((at, LoneSign) ∷ q ∷ ps) = ends_so (q ∷ ps)

abbrev pub parts_plainly : List TemplatePiece → List Part
parts_plainly [] = []
parts_plainly (Byte b ∷ qs) = add_byte b (parts_plainly qs)
parts_plainly (Sign c ∷ qs) = sign_parts c (parts_plainly qs)
parts_plainly (LoneSign ∷ qs) = add_byte 37 (parts_plainly qs)

pub parts_so : (ps : List (ℕ × TemplatePiece)) → parts_of ps ≡ parts_plainly (plain ps)
parts_so [] = refl
parts_so ((at, Byte b) ∷ ps) = ap (add_byte b) (parts_so ps)
parts_so ((at, Sign c) ∷ ps) = ap (sign_parts c) (parts_so ps)
parts_so ((at, LoneSign) ∷ ps) = ap (add_byte 37) (parts_so ps)

-- What the parts are.

add_shaped : (b : ℕ) (parts : List Part) → AreParts parts → AreParts (add_byte b parts)
add_shaped b [] h = (refl, h)
add_shaped b (Text [] ∷ parts) h = absurd h.0
add_shaped b (Text (c ∷ bytes) ∷ parts) h = (h.0, h.1)
add_shaped b (Kid k ∷ parts) h = (refl, h)
add_shaped b (Attribute ∷ parts) h = (refl, h)
add_shaped b (Temp ∷ parts) h = (refl, h)

sign_shaped : (parts : List Part) (c : ℕ) → AreParts parts → may_follow_sign c ≡ true → AreParts (sign_parts c parts)
sign_shaped parts c g h = elim (test c 97) [
  | inl e ↦ subst (λ x. AreParts (sign_parts x parts)) (sym e) (tt, g)
  | inr n ↦ elim (test c 99) [
    | inl e ↦ subst (λ x. AreParts (sign_parts x parts)) (sym e) (tt, g)
    | inr m ↦ elim (test c 37) [
      | inl e ↦ subst (λ x. AreParts (sign_parts x parts)) (sym e) (add_shaped 37 parts g)
      | inr k ↦
          let d : is_ascii_digit c ≡ true = grind (arith, h, n, m, k) in
          let l : (48 ≤ c) × (c ≤ 57) = grind (arith, d) in
          rw (n, m, k) (omega (arith, l.1), g)
    ]
  ]
]

shaped : (ps : List (ℕ × TemplatePiece)) → ArePieces (plain ps) → AreParts (parts_of ps)
shaped [] h = tt
shaped ((at, Byte b) ∷ ps) h = add_shaped b (parts_of ps) (shaped ps h.1)
shaped ((at, Sign c) ∷ ps) h = sign_shaped (parts_of ps) c (shaped ps h.1) h.0
shaped ((at, LoneSign) ∷ ps) h = absurd h.0

-- What is printed of a text's template.
pub record IsReadAgain (inside : List ℕ) (again : List ℕ) : Type 0 where
  pub passes : Passes again
  pub same : (at to : ℕ) → plain (pieces at again) ≡ plain (pieces to inside)
  pub good : (at : ℕ) → bad_byte at again ≡ None
  pub free : begins_reserved again ≡ false
  pub signs : (at : ℕ) → bad_sign (pieces at again) ≡ None
  pub parts : template_of again ≡ template_of inside
  pub shape : AreParts (template_of inside)

pub read_so : (inside : List ℕ) (at to : ℕ) → bad_byte at inside ≡ None → begins_reserved inside ≡ false → bad_sign (pieces to inside) ≡ None → IsReadAgain inside (printed_template (template_of inside))
read_so inside at to h k l =
    let qs = plain (pieces to inside) in
    let lawful : ArePieces qs = lawful_pieces inside at to h l in
    let e : printed_template (template_of inside) ≡ flat_map printed_piece qs =
    prints (pieces 0 inside) (subst ArePieces (anywhere inside to 0) lawful) ∙ ap (flat_map printed_piece) (anywhere inside 0 to) in
    let same : (a b : ℕ) → plain (pieces a (flat_map printed_piece qs)) ≡ plain (pieces b inside) = λ a b. cut_again qs lawful a ∙ anywhere inside to b in
    subst (IsReadAgain inside) (sym e) (record {
      passes = pieces_pass qs lawful;
      same = same;
      good = good_again qs lawful;
      free = free_again qs lawful (free_pieces inside at to h k);
      signs = λ a. no_bad_sign (pieces a (flat_map printed_piece qs)) (subst ArePieces (sym (cut_again qs lawful a)) lawful);
      parts = parts_so (pieces 0 (flat_map printed_piece qs)) ∙ ap parts_plainly (same 0 0) ∙ sym (parts_so (pieces 0 inside));
      shape = shaped (pieces 0 inside) (subst ArePieces (anywhere inside to 0) lawful);
    })
