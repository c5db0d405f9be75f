-- How templates and patterns are printed, and which lists of parts a template has.
use Rattle.std.specs.Prelude.{◌≡◌, ℕ, ◌==◌, ◌≤◌, false, List, [], ◌∷◌, ◌++◌, if◌then◌else◌, codes, decimal, slice_index_or}
use Rattle.std.specs.List.{flat_map}
use Rattle.sel_grammar.specs.declared.grammar.Part.{Part}
use Rattle.sel_grammar.specs.declared.grammar.Part.TheVariants.{Text, Kid, Attribute, Temp}
use Rattle.sel_grammar.specs.declared.grammar.Pattern.{Pattern, Leaf, Nullary, Unary', Binary', end_of-Pattern, more_of-Pattern}
use Rattle.sel_grammar_text.specs.TemplateText.{begins_with_text}

-- a byte of text: line ends, tabs, quotes and backslashes by their escapes, a percent sign doubled
abbrev pub printed_byte : ℕ → List ℕ
printed_byte b =
    if b == 10 then 92 ∷ 110 ∷ [] else (if b == 9 then 92 ∷ 116 ∷ [] else (if b == 34 then 92 ∷ 34 ∷ []
    else (if b == 92 then 92 ∷ 92 ∷ [] else (if b == 37 then 37 ∷ 37 ∷ [] else b ∷ []))))

abbrev pub printed_part : Part → List ℕ
printed_part (Text bytes) = flat_map printed_byte bytes
printed_part (Kid k) = 37 ∷ decimal k
printed_part Attribute = 37 ∷ 97 ∷ []
printed_part Temp = 37 ∷ 99 ∷ []

abbrev pub printed_template : List Part → List ℕ
printed_template parts = flat_map printed_part parts

-- a part with the parts behind it: no text is empty or stands beside another one, and a kid is one digit
abbrev pub IsPart : Part → List Part → Type 0
IsPart (Text []) more = ⊥
IsPart (Text (b ∷ bytes)) more = begins_with_text more ≡ false
IsPart (Kid k) more = k ≤ 9
IsPart Attribute more = Unit {0}
IsPart Temp more = Unit {0}

abbrev pub AreParts : List Part → Type 0
AreParts [] = Unit {0}
AreParts (part ∷ parts) = IsPart part parts × AreParts parts

-- the name of that number, and none beyond the last
abbrev pub name_at : List (List ℕ) → ℕ → List ℕ
name_at names n = slice_index_or names n []

-- a pattern, without blanks
abbrev pub printed_pattern : List (List ℕ) → List (List ℕ) → Pattern → List ℕ
printed_pattern ops nts (Leaf n) = name_at nts n
printed_pattern ops nts (Nullary op) = name_at ops op
printed_pattern ops nts (Unary' op s (more_of-Pattern p end_of-Pattern)) = name_at ops op ++ (codes "(" ++ (printed_pattern ops nts p ++ codes ")"))
printed_pattern ops nts (Binary' op s (more_of-Pattern p end_of-Pattern) s' (more_of-Pattern q end_of-Pattern)) =
    name_at ops op ++ (codes "(" ++ (printed_pattern ops nts p ++ (codes "," ++ (printed_pattern ops nts q ++ codes ")"))))
