-- Templates part by part.
use Rattle.std.proofs.Common.{◌≡◌, ℕ, List, [], ◌∷◌, ◌++◌, Bool, true, false, refl, ap, sym, ◌∙◌, cond, eqb, append_assoc, append-nil, inl, inr}
use Rattle.std.proofs.lemmas.Bool.{eqb-true}
use Rattle.std.proofs.lemmas.Bool.Decides.{eqb_tells}
use Rattle.sel_grammar.specs.declared.grammar.Part.{Part}
use Rattle.sel_grammar.specs.declared.grammar.Part.TheVariants.{Text, Kid, Attribute, Temp}
use Rattle.sel_grammar_text.specs.TemplateText.{add_byte, begins_with_text, text_part, add_bytes}

by_bool : (t : Bool) (x y : List ℕ) (P : List ℕ → Type 0) → (t ≡ true → P x) → (t ≡ false → P y) → P (cond t x y)
by_bool true x y P f g = f refl
by_bool false x y P f g = g refl

pub by_test : (b : ℕ) (n : ℕ) (x y : List ℕ) (P : List ℕ → Type 0) → (b ≡ n → P x) → (eqb b n ≡ false → P y) → P (cond (eqb b n) x y)
by_test b n x y P f g = by_bool (eqb b n) x y P (λ e. f (eqb-true b n e)) g

alone : (b : ℕ) (parts : List Part) → begins_with_text parts ≡ false → add_byte b parts ≡ Text (b ∷ []) ∷ parts
alone b [] h = refl
alone b (Text bytes ∷ parts) h = cc
alone b (Kid k ∷ parts) h = refl
alone b (Attribute ∷ parts) h = refl
alone b (Temp ∷ parts) h = refl

pub unequal : (a b : ℕ) → (a ≡ b → ⊥) → eqb a b ≡ false
unequal a b h = elim (eqb_tells a b) [ inl e ↦ absurd (h e.1) | inr e ↦ e.0 ]

pub add_bytes-snoc : (bytes : List ℕ) (b : ℕ) (parts : List Part) → add_bytes (bytes ++ (b ∷ [])) parts ≡ add_bytes bytes (add_byte b parts)
add_bytes-snoc [] b parts = refl
add_bytes-snoc (c ∷ bytes) b parts = ap (add_byte c) (add_bytes-snoc bytes b parts)

pub flushed : (b : ℕ) (bytes : List ℕ) (parts : List Part) → begins_with_text parts ≡ false → add_bytes (b ∷ bytes) parts ≡ Text (b ∷ bytes) ∷ parts
flushed b [] parts h = alone b parts h
flushed b (c ∷ bytes) parts h = ap (add_byte b) (flushed c bytes parts h)

pub flushed_all : (bytes : List ℕ) (parts : List Part) → begins_with_text parts ≡ false → add_bytes bytes parts ≡ text_part bytes ++ parts
flushed_all [] parts k = refl
flushed_all (b ∷ bytes) parts k = flushed b bytes parts k

begins : (part : Part) (parts more : List Part) → begins_with_text (part ∷ parts) ≡ begins_with_text (part ∷ more)
begins (Text bytes) parts more = refl
begins (Kid k) parts more = refl
begins Attribute parts more = refl
begins Temp parts more = refl

-- One more byte of text, or one more part.
pub byte_added : (done : List Part) (waits : List ℕ) (b : ℕ) (more : List Part) → done ++ add_bytes (waits ++ (b ∷ [])) more ≡ done ++ add_bytes waits (add_byte b more)
byte_added done waits b more = ap (λ x. done ++ x) (add_bytes-snoc waits b more)

pub part_added : (done flat : List Part) (waits : List ℕ) (part : Part) → begins_with_text (part ∷ []) ≡ false → flat ≡ done ++ text_part waits
    → (more : List Part) → (flat ++ (part ∷ [])) ++ more ≡ done ++ add_bytes waits (part ∷ more)
part_added done flat waits part n f more =
    append_assoc flat (part ∷ []) more ∙ ap (λ x. x ++ (part ∷ more)) f ∙ append_assoc done (text_part waits) (part ∷ more)
    ∙ ap (λ x. done ++ x) (sym (flushed_all waits (part ∷ more) (begins part more [] ∙ n)))

pub end_step : (done flat : List Part) (waits : List ℕ) (parts all : List Part) → parts ≡ [] → flat ≡ done ++ text_part waits → done ++ add_bytes waits parts ≡ all → flat ≡ all
end_step done flat waits parts all e f h =
    f ∙ ap (λ x. done ++ x) (sym (append-nil (text_part waits))) ∙ ap (λ x. done ++ x) (sym (flushed_all waits [] refl)) ∙ ap (λ x. done ++ add_bytes waits x) (sym e) ∙ h
