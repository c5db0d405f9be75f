-- A template that passes its checks names only kids that there are, and its result only in an instruction.
use Rattle.std.proofs.Common.{◌≡◌, ℕ, suc, zero, ◌-◌, ◌<◌, ◌⊎◌, inl, inr, List, [], ◌∷◌, Option, Some, None, Bool, true, false, length, refl, ap, sym, ◌∙◌, subst, arith, cond, eqb, ◌&&◌}
use Rattle.std.specs.Prelude.{slice_get, codes, nat_le}
use Rattle.std.specs.Char.{is_ascii_digit}
use Rattle.std.proofs.lemmas.Bool.Decides.{eqb_tells}
use Rattle.std.proofs.lemmas.Option.{same_Some}
use Rattle.sel_grammar.specs.Expansions.{has_result, is_instruction, last_of, is_line_feed, ends_in_line_feed}
use Rattle.sel_grammar.specs.declared.grammar.Part.{Part}
use Rattle.sel_grammar.specs.declared.grammar.Part.TheVariants.{Text, Kid, Attribute, Temp}
use Rattle.sel_grammar_text.specs.declared.template.TemplatePiece.{TemplatePiece}
use Rattle.sel_grammar_text.specs.declared.template.TemplatePiece.TheVariants.{Byte, Sign, LoneSign}
use Rattle.sel_grammar_text.specs.Checks.{begins_reserved, is_past_kid}
use Rattle.sel_grammar_text.specs.Printing.{printed_template}
use Rattle.sel_grammar_text.specs.TemplateText.{pieces, may_follow_sign, bad_sign, first_sign, ends_line, add_byte, sign_parts, parts_of, template_of}
use Rattle.sel_grammar_text.proofs.PrintedTemplates.{plain, anywhere, ends_plainly, ends_so, parts_plainly, parts_so}

test : (a b : ℕ) → (a ≡ b) ⊎ (eqb a b ≡ false)
test a b = elim (eqb_tells a b) [ inl e ↦ inl e.1 | inr e ↦ inr e.0 ]

passed : (b : Bool) (o : Option ℕ) (at : ℕ) → cond b o (Some at) ≡ None → (b ≡ true) × (o ≡ None)
passed true o at h = (refl, h)
passed false o at h = cc

pub missed : (b : Bool) (o : Option ℕ) (at : ℕ) → cond b (Some at) o ≡ None → (b ≡ false) × (o ≡ None)
missed true o at h = cc
missed false o at h = (refl, h)

-- the sign is one of four
sign_cases : (P : List Part → Type 0) (c : ℕ) (parts : List Part) → P (Attribute ∷ parts) → (eqb c 99 ≡ true → P (Temp ∷ parts)) → P (add_byte 37 parts)
    → (eqb c 97 ≡ false → eqb c 99 ≡ false → eqb c 37 ≡ false → P (Kid (c - 48) ∷ parts)) → P (sign_parts c parts)
sign_cases P c parts a t b k = one (eqb c 97) refl (eqb c 99) refl (eqb c 37) refl
  where
    one : (x : Bool) → eqb c 97 ≡ x → (y : Bool) → eqb c 99 ≡ y → (z : Bool) → eqb c 37 ≡ z → P (cond x (Attribute ∷ parts) (cond y (Temp ∷ parts) (cond z (add_byte 37 parts) (Kid (c - 48) ∷ parts))))
    one true e y f z g = a
    one false e true f z g = t f
    one false e false f true g = b
    one false e false f false g = k e f g

-- Kids.

abbrev KidsBelow : ℕ → List Part → Type 0
KidsBelow m [] = Unit {0}
KidsBelow m (Kid k ∷ parts) = (k < m) × KidsBelow m parts
KidsBelow m (Text bytes ∷ parts) = KidsBelow m parts
KidsBelow m (Attribute ∷ parts) = KidsBelow m parts
KidsBelow m (Temp ∷ parts) = KidsBelow m parts

add_below : (m b : ℕ) (parts : List Part) → KidsBelow m parts → KidsBelow m (add_byte b parts)
add_below m b [] h = tt
add_below m b (Text bytes ∷ parts) h = h
add_below m b (Kid k ∷ parts) h = h
add_below m b (Attribute ∷ parts) h = h
add_below m b (Temp ∷ parts) h = h

kid_below : (m c : ℕ) → may_follow_sign c ≡ true → is_past_kid m c ≡ false → eqb c 97 ≡ false → eqb c 99 ≡ false → eqb c 37 ≡ false → c - 48 < m
kid_below m c f h x y z =
    let d : is_ascii_digit c ≡ true = grind (arith, f, x, y, z) in
    let n : nat_le m (c - 48) ≡ false = sym (ap (λ b. b && nat_le m (c - 48)) d) ∙ h in
    grind (arith, n)

all_below : (m : ℕ) (ps : List (ℕ × TemplatePiece)) → bad_sign ps ≡ None → first_sign (is_past_kid m) ps ≡ None → KidsBelow m (parts_of ps)
all_below m [] h k = tt
all_below m ((at, Byte b) ∷ ps) h k = add_below m b (parts_of ps) (all_below m ps h k)
all_below m ((at, LoneSign) ∷ ps) h k = cc
all_below m ((at, Sign c) ∷ ps) h k =
    let f = passed (may_follow_sign c) (bad_sign ps) at h in
    let p = missed (is_past_kid m c) (first_sign (is_past_kid m) ps) at k in
    let rest = all_below m ps f.1 p.1 in
    sign_cases (KidsBelow m) c (parts_of ps) rest (λ _. rest) (add_below m 37 (parts_of ps) rest) (λ x y z. (kid_below m c f.0 p.0 x y z, rest))

below_at : (m : ℕ) (parts : List Part) → KidsBelow m parts → (j k : ℕ) → slice_get parts j ≡ Some (Kid k) → k < m
below_at m [] h j k e = cc
below_at m (Kid i ∷ parts) h zero k e = let same : i ≡ k = cc in subst (λ x. x < m) same h.0
below_at m (Text bytes ∷ parts) h zero k e = cc
below_at m (Attribute ∷ parts) h zero k e = cc
below_at m (Temp ∷ parts) h zero k e = cc
below_at m (Kid i ∷ parts) h (suc j) k e = below_at m parts h.1 j k e
below_at m (Text bytes ∷ parts) h (suc j) k e = below_at m parts h j k e
below_at m (Attribute ∷ parts) h (suc j) k e = below_at m parts h j k e
below_at m (Temp ∷ parts) h (suc j) k e = below_at m parts h j k e

-- The result.

add_result : (b : ℕ) (parts : List Part) → has_result (add_byte b parts) ≡ has_result parts
add_result b [] = refl
add_result b (Text bytes ∷ parts) = refl
add_result b (Kid k ∷ parts) = refl
add_result b (Attribute ∷ parts) = refl
add_result b (Temp ∷ parts) = refl

no_result : (ps : List (ℕ × TemplatePiece)) → first_sign (λ c. eqb c 99) ps ≡ None → has_result (parts_of ps) ≡ false
no_result [] h = refl
no_result ((at, Byte b) ∷ ps) h = add_result b (parts_of ps) ∙ no_result ps h
no_result ((at, LoneSign) ∷ ps) h = add_result 37 (parts_of ps) ∙ no_result ps h
no_result ((at, Sign c) ∷ ps) h =
    let p = missed (eqb c 99) (first_sign (λ c. eqb c 99) ps) at h in
    let rest = no_result ps p.1 in
    sign_cases (λ parts. has_result parts ≡ false) c (parts_of ps) rest (λ e. let w : true ≡ false = sym e ∙ p.0 in absurd (let z : ⊥ = cc in z)) (add_result 37 (parts_of ps) ∙ rest) (λ x y z. rest)

-- The last byte.

last_next : {A : Type 0} (x y : A) (xs : List A) → last_of (x ∷ y ∷ xs) ≡ last_of (y ∷ xs)
last_next x y xs = let e : length (x ∷ y ∷ xs) - 1 ≡ suc (length (y ∷ xs) - 1) = omega arith in ap (slice_get (x ∷ y ∷ xs)) e

-- there are parts, and the first is no empty text
abbrev Begins : List Part → Type 0
Begins [] = ⊥
Begins (Text [] ∷ parts) = ⊥
Begins (Text (b ∷ bytes) ∷ parts) = Unit {0}
Begins (Kid k ∷ parts) = Unit {0}
Begins (Attribute ∷ parts) = Unit {0}
Begins (Temp ∷ parts) = Unit {0}

add_begins : (b : ℕ) (parts : List Part) → Begins (add_byte b parts)
add_begins b [] = tt
add_begins b (Text bytes ∷ parts) = tt
add_begins b (Kid k ∷ parts) = tt
add_begins b (Attribute ∷ parts) = tt
add_begins b (Temp ∷ parts) = tt

parts_begin : (p : ℕ × TemplatePiece) (ps : List (ℕ × TemplatePiece)) → Begins (parts_of (p ∷ ps))
parts_begin (at, Byte b) ps = add_begins b (parts_of ps)
parts_begin (at, LoneSign) ps = add_begins 37 (parts_of ps)
parts_begin (at, Sign c) ps = sign_cases Begins c (parts_of ps) tt (λ _. tt) (add_begins 37 (parts_of ps)) (λ x y z. tt)

-- a part before others leaves their end
instruction_next : (p q : Part) (parts : List Part) → is_instruction (p ∷ q ∷ parts) ≡ is_instruction (q ∷ parts)
instruction_next p q parts = ap ends_in_line_feed (last_next p q parts)

before_parts : (p : Part) (parts : List Part) → Begins parts → is_instruction (p ∷ parts) ≡ is_instruction parts
before_parts p [] h = absurd h
before_parts p (q ∷ parts) h = instruction_next p q parts

add_ends : (b : ℕ) (parts : List Part) → Begins parts → is_instruction (add_byte b parts) ≡ is_instruction parts
add_ends b [] h = absurd h
add_ends b (Text [] ∷ parts) h = absurd h
add_ends b (Text (c ∷ bytes) ∷ []) h = ap is_line_feed (last_next b c bytes)
add_ends b (Text (c ∷ bytes) ∷ q ∷ parts) h = instruction_next (Text (b ∷ c ∷ bytes)) q parts ∙ sym (instruction_next (Text (c ∷ bytes)) q parts)
add_ends b (Kid k ∷ parts) h = instruction_next (Text (b ∷ [])) (Kid k) parts
add_ends b (Attribute ∷ parts) h = instruction_next (Text (b ∷ [])) Attribute parts
add_ends b (Temp ∷ parts) h = instruction_next (Text (b ∷ [])) Temp parts

ends_alike : (ps : List (ℕ × TemplatePiece)) → is_instruction (parts_of ps) ≡ ends_plainly (plain ps)
ends_alike [] = refl
ends_alike ((at, Byte b) ∷ []) = refl
ends_alike ((at, LoneSign) ∷ []) = refl
ends_alike ((at, Sign c) ∷ []) = sign_cases (λ parts. is_instruction parts ≡ false) c [] refl (λ _. refl) refl (λ x y z. refl)
ends_alike ((at, Byte b) ∷ q ∷ ps) = add_ends b (parts_of (q ∷ ps)) (parts_begin q ps) ∙ ends_alike (q ∷ ps)
ends_alike ((at, LoneSign) ∷ q ∷ ps) = add_ends 37 (parts_of (q ∷ ps)) (parts_begin q ps) ∙ ends_alike (q ∷ ps)
ends_alike ((at, Sign c) ∷ q ∷ ps) =
    let parts = parts_of (q ∷ ps) in
    let b = parts_begin q ps in
    sign_cases (λ xs. is_instruction xs ≡ is_instruction parts) c parts (before_parts Attribute parts b) (λ _. before_parts Temp parts b) (add_ends 37 parts b) (λ x y z. before_parts (Kid (c - 48)) parts b)
    ∙ ends_alike (q ∷ ps)

result_ends : (ps : List (ℕ × TemplatePiece)) → cond (ends_line ps) None (first_sign (λ c. eqb c 99) ps) ≡ None → has_result (parts_of ps) ≡ true → is_instruction (parts_of ps) ≡ true
result_ends ps h k = by_end (ends_line ps) refl h
  where
    by_end : (b : Bool) → ends_line ps ≡ b → cond b None (first_sign (λ c. eqb c 99) ps) ≡ None → is_instruction (parts_of ps) ≡ true
    by_end true e h = ends_alike ps ∙ sym (ends_so ps) ∙ e
    by_end false e h = let w : true ≡ false = sym k ∙ no_result ps h in absurd (let z : ⊥ = cc in z)

-- The first byte.

abbrev StartsFree : List Part → Type 0
StartsFree parts = (b : ℕ) (bytes : List ℕ) → slice_get parts 0 ≡ Some (Text (b ∷ bytes)) → (b ∷ [] ≡ codes "?" → ⊥) × (b ∷ [] ≡ codes "#" → ⊥)

not_reserved : (b : ℕ) (bytes : List ℕ) (parts : List Part) → begins_reserved (printed_template (Text (b ∷ bytes) ∷ parts)) ≡ false → (b ∷ [] ≡ codes "?" → ⊥) × (b ∷ [] ≡ codes "#" → ⊥)
not_reserved b bytes parts h = (is_not 63 refl, is_not 35 refl)
  where
    is_not : (n : ℕ) → begins_reserved (printed_template (Text (n ∷ bytes) ∷ parts)) ≡ true → b ∷ [] ≡ n ∷ [] → ⊥
    is_not n k e =
        let same : b ≡ n = cc in
        let w : true ≡ false = sym k ∙ sym (ap (λ x. begins_reserved (printed_template (Text (x ∷ bytes) ∷ parts))) same) ∙ h in
        cc

starts_free : (parts : List Part) → begins_reserved (printed_template parts) ≡ false → StartsFree parts
starts_free [] h b bytes e = absurd (let z : ⊥ = cc in z)
starts_free (part ∷ parts) h b bytes e =
    let same : part ≡ Text (b ∷ bytes) = same_Some part (Text (b ∷ bytes)) e in
    not_reserved b bytes parts (subst (λ x. begins_reserved (printed_template (x ∷ parts)) ≡ false) same h)

-- what a template's parts keep, where the pattern has so many leaves
pub record PartsLawful (leaf_count : ℕ) (parts : List Part) : Type 0 where
  pub kids : (j k : ℕ) → slice_get parts j ≡ Some (Kid k) → k < leaf_count
  pub result : has_result parts ≡ true → is_instruction parts ≡ true
  pub first : (b : ℕ) (bytes : List ℕ) → slice_get parts 0 ≡ Some (Text (b ∷ bytes)) → (b ∷ [] ≡ codes "?" → ⊥) × (b ∷ [] ≡ codes "#" → ⊥)

pub lawful_parts : (m at : ℕ) (bytes : List ℕ) → bad_sign (pieces at bytes) ≡ None → first_sign (is_past_kid m) (pieces at bytes) ≡ None → cond (ends_line (pieces at bytes)) None (first_sign (λ c. eqb c 99) (pieces at bytes)) ≡ None
    → begins_reserved (printed_template (template_of bytes)) ≡ false → PartsLawful m (template_of bytes)
lawful_parts m at bytes good kids result free =
    let same : parts_of (pieces at bytes) ≡ template_of bytes = parts_so (pieces at bytes) ∙ ap parts_plainly (anywhere bytes at 0) ∙ sym (parts_so (pieces 0 bytes)) in
    record {
      kids = below_at m (template_of bytes) (subst (KidsBelow m) same (all_below m (pieces at bytes) good kids));
      result = subst (λ parts. has_result parts ≡ true → is_instruction parts ≡ true) same (result_ends (pieces at bytes) result);
      first = starts_free (template_of bytes) free;
    }

pub no_parts : (m : ℕ) → PartsLawful m []
no_parts m = record { kids = λ j k e. cc; result = λ e. cc; first = λ b bytes e. absurd (let z : ⊥ = cc in z) }
