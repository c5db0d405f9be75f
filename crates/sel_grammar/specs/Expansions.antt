-- The text that a derivation expands to, by the templates of its rules.
use Rattle.std.specs.Prelude.{ℕ, ◌+◌, ◌-◌, Bool, true, false, ◌||◌, ◌==◌, if◌then◌else◌, Option, Some, None, List, [], ◌∷◌, ◌++◌, length, map, slice_get}
use Rattle.std.specs.Fmt.{decimal, signed_decimal}
use Rattle.sel_grammar.specs.declared.emission.Emitted.{Emitted}
use Rattle.sel_grammar.specs.declared.emission.Emitted.TheVariants.{Byte, Temporary}
use Rattle.sel_grammar.specs.declared.grammar.Attribute.{Attribute}
use Rattle.sel_grammar.specs.declared.grammar.Attribute.TheVariants.{Absent, Number, Symbol}
use Rattle.sel_grammar.specs.declared.grammar.Grammar.{Grammar}
use Rattle.sel_grammar.specs.declared.grammar.Part.{Part}
use Rattle.sel_grammar.specs.declared.grammar.Part.TheVariants as Parts
use Rattle.sel_grammar.specs.declared.grammar.Rule.{Rule}
use Rattle.sel_grammar.specs.PlainTrees.{PlainTree, attribute_of}
use Rattle.sel_grammar.specs.Fits.{fits, rule_at}
use Rattle.sel_grammar.specs.Derivations.{Derivation, Deriv, Derivations, no_more, more}

-- bytes and temporaries
abbrev pub Text : Type 0
Text = List Emitted

-- a byte, or the name of a temporary: `t` and its number
abbrev pub emitted_bytes : Emitted → List ℕ
emitted_bytes (Byte b) = b ∷ []
emitted_bytes (Temporary k) = 116 ∷ decimal k

-- the bytes that a text prints
abbrev pub text_bytes : Text → List ℕ
text_bytes [] = []
text_bytes (x ∷ xs) = emitted_bytes x ++ text_bytes xs

-- Of a derivation: the lines that it emits, its value, and the number of the next temporary.
pub record Emission : Type 0 where
  pub lines : Text
  pub value : Text
  pub next : ℕ

-- Of the kids of a derivation: the lines that they emit, the value of each, and the number of the next temporary.
pub record Emissions : Type 0 where
  pub lines : Text
  pub values : List Text
  pub next : ℕ

-- what `%a` prints: the shortest decimal number, the symbol, or nothing
abbrev pub attribute_bytes : Attribute → List ℕ
attribute_bytes Absent = []
attribute_bytes (Number z) = signed_decimal z
attribute_bytes (Symbol name) = name

abbrev pub value_or_none : Option Text → Text
value_or_none None = []
value_or_none (Some value) = value

-- What a part of a template prints, where these are the kids' values, the attribute of the root, and the number of the next temporary.
abbrev pub part_text : List Text → Attribute → ℕ → Part → Text
part_text values a next (Parts.Text text) = map Byte text
part_text values a next (Parts.Kid k) = value_or_none (slice_get values k)
part_text values a next Parts.Attribute = map Byte (attribute_bytes a)
part_text values a next Parts.Temp = Temporary next ∷ []

-- what the parts print, one behind the other
abbrev pub filled : List Text → Attribute → ℕ → List Part → Text
filled values a next [] = []
filled values a next (part ∷ parts) = part_text values a next part ++ filled values a next parts

-- the part is `%c`
abbrev pub is_result : Part → Bool
is_result (Parts.Text text) = false
is_result (Parts.Kid k) = false
is_result Parts.Attribute = false
is_result Parts.Temp = true

-- some part is `%c`
abbrev pub has_result : List Part → Bool
has_result [] = false
has_result (part ∷ parts) = is_result part || has_result parts

abbrev pub last_of : {A : Type 0} → List A → Option A
last_of xs = slice_get xs (length xs - 1)

abbrev pub is_line_feed : Option ℕ → Bool
is_line_feed None = false
is_line_feed (Some b) = b == 10

-- the part is text whose last byte is a line end
abbrev pub ends_in_line_feed : Option Part → Bool
ends_in_line_feed (Some (Parts.Text text)) = is_line_feed (last_of text)
ends_in_line_feed _ = false

-- A template is an instruction where its last byte is a line end, and otherwise a fragment.
abbrev pub is_instruction : List Part → Bool
is_instruction parts = ends_in_line_feed (last_of parts)

-- Behind the kids' lines an instruction emits its text, and its value is the temporary that it takes, or empty where it has no `%c`. The text of a fragment is its value.
abbrev pub by_template : List Part → Attribute → Emissions → Emission
by_template parts a kids =
    if is_instruction parts then
    (if has_result parts then
    record { lines = kids.lines ++ filled kids.values a kids.next parts; value = Temporary kids.next ∷ []; next = kids.next + 1 }
    else
    record { lines = kids.lines ++ filled kids.values a kids.next parts; value = []; next = kids.next })
    else
    record { lines = kids.lines; value = filled kids.values a kids.next parts; next = kids.next }

-- the template of a rule
abbrev pub parts_of_rule : Option Rule → List Part
parts_of_rule None = []
parts_of_rule (Some rule) = rule.template.parts

abbrev pub trees_or_none : Option (List PlainTree) → List PlainTree
trees_or_none None = []
trees_or_none (Some ts) = ts

-- the subtrees that a rule's kids derive
abbrev pub kid_trees : Option Rule → PlainTree → List PlainTree
kid_trees None t = []
kid_trees (Some rule) t = trees_or_none (fits rule t)

-- what a derivation of a tree emits, where this is the number of the next temporary: its kids first, left to right, each from the temporary that the one before left, and then its rule
abbrev mutual
  pub emit : Grammar → Derivation → PlainTree → ℕ → Emission
  emit g (Deriv r kids) t k = by_template (parts_of_rule (rule_at g r)) (attribute_of t) (emit_all g kids (kid_trees (rule_at g r) t) k)

  pub emit_all : Grammar → Derivations → List PlainTree → ℕ → Emissions
  emit_all g no_more ts k = record { lines = []; values = []; next = k }
  emit_all g (more d ds) [] k = record { lines = []; values = []; next = k }
  emit_all g (more d ds) (t ∷ ts) k =
      let first = emit g d t k in
      let rest = emit_all g ds ts first.next in
      record { lines = first.lines ++ rest.lines; values = first.value ∷ rest.values; next = rest.next }

-- what a derivation of a tree expands to: all lines, from temporary 1 on, and then its value
abbrev pub expanded : Grammar → Derivation → PlainTree → Text
expanded g d t = let e = emit g d t 1 in e.lines ++ e.value

-- the bytes that it expands to
abbrev pub expanded_bytes : Grammar → Derivation → PlainTree → List ℕ
expanded_bytes g d t = text_bytes (expanded g d t)
