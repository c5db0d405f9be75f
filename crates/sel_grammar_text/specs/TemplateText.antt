-- Templates: their bytes cut into pieces, and the parts that these say.
use Rattle.std.specs.Prelude.{◌≡◌, ℕ, ◌+◌, ◌-◌, ◌==◌, ◌||◌, Bool, true, false, List, [], ◌∷◌, ◌++◌, Option, Some, None, if◌then◌else◌}
use Rattle.std.specs.Char.{is_ascii_digit}
use Rattle.sel_grammar.specs.declared.grammar.Part.{Part}
use Rattle.sel_grammar.specs.declared.grammar.Part.TheVariants.{Text, Kid, Attribute, Temp}
use Rattle.sel_grammar_text.specs.declared.template.TemplatePiece.{TemplatePiece}
use Rattle.sel_grammar_text.specs.declared.template.TemplatePiece.TheVariants.{Byte, Sign, LoneSign}
use Rattle.sel_grammar_text.specs.declared.template.Addition.{Addition}
use Rattle.sel_grammar_text.specs.declared.template.Addition.TheVariants as addition

-- what a byte behind a backslash stands for
abbrev pub unescape : ℕ → ℕ
unescape b = if b == 110 then 10 else (if b == 116 then 9 else b)

-- The pieces of a template, each with its place: bytes, after the escapes, and percent signs with the byte behind them.
abbrev pub pieces : ℕ → List ℕ → List (ℕ × TemplatePiece)
pieces at [] = []
pieces at (b ∷ []) = (at, (if b == 37 then LoneSign else Byte b)) ∷ []
pieces at (b ∷ c ∷ bytes) =
    if b == 92 then (at, Byte (unescape c)) ∷ pieces (at + 2) bytes
    else (if b == 37 then (at, Sign c) ∷ pieces (at + 2) bytes
    else (at, Byte b) ∷ pieces (at + 1) (c ∷ bytes))

-- a digit, `a`, `c` or `%`
abbrev pub may_follow_sign : ℕ → Bool
may_follow_sign c = is_ascii_digit c || (c == 97) || (c == 99) || (c == 37)

-- the first percent sign that isn't followed by one of these
abbrev pub bad_sign : List (ℕ × TemplatePiece) → Option ℕ
bad_sign [] = None
bad_sign ((at, Byte b) ∷ ps) = bad_sign ps
bad_sign ((at, Sign c) ∷ ps) = if may_follow_sign c then bad_sign ps else Some at
bad_sign ((at, LoneSign) ∷ ps) = Some at

-- the first percent sign whose byte passes
abbrev pub first_sign : (ℕ → Bool) → List (ℕ × TemplatePiece) → Option ℕ
first_sign p [] = None
first_sign p ((at, Byte b) ∷ ps) = first_sign p ps
first_sign p ((at, Sign c) ∷ ps) = if p c then Some at else first_sign p ps
first_sign p ((at, LoneSign) ∷ ps) = first_sign p ps

-- the piece is a line end
abbrev pub is_line_end : TemplatePiece → Bool
is_line_end (Byte b) = b == 10
is_line_end (Sign c) = false
is_line_end LoneSign = false

-- whether the last piece is a line end, where one stands before these or none
abbrev pub ends_line_from : Bool → List (ℕ × TemplatePiece) → Bool
ends_line_from last [] = last
ends_line_from last (p ∷ ps) = ends_line_from (is_line_end p.1) ps

-- whether the last byte, after the escapes, is a line end
abbrev pub ends_line : List (ℕ × TemplatePiece) → Bool
ends_line ps = ends_line_from false ps

-- a byte of text before some parts
abbrev pub add_byte : ℕ → List Part → List Part
add_byte b (Text bytes ∷ parts) = Text (b ∷ bytes) ∷ parts
add_byte b parts = Text (b ∷ []) ∷ parts

-- what a percent sign and its byte say: the attribute, the result, a percent sign, or a kid
abbrev pub sign_parts : ℕ → List Part → List Part
sign_parts c parts =
    if c == 97 then Attribute ∷ parts else (if c == 99 then Temp ∷ parts else (if c == 37 then add_byte 37 parts else Kid (c - 48) ∷ parts))

abbrev pub parts_of : List (ℕ × TemplatePiece) → List Part
parts_of [] = []
parts_of ((at, Byte b) ∷ ps) = add_byte b (parts_of ps)
parts_of ((at, Sign c) ∷ ps) = sign_parts c (parts_of ps)
parts_of ((at, LoneSign) ∷ ps) = add_byte 37 (parts_of ps)

-- the parts of the template between the quotes
abbrev pub template_of : List ℕ → List Part
template_of inside = parts_of (pieces 0 inside)

-- a text as a part, where there is any
abbrev pub text_part : List ℕ → List Part
text_part [] = []
text_part (b ∷ bytes) = Text (b ∷ bytes) ∷ []

-- text before some parts
abbrev pub add_bytes : List ℕ → List Part → List Part
add_bytes [] parts = parts
add_bytes (b ∷ bytes) parts = add_byte b (add_bytes bytes parts)

abbrev pub begins_with_text : List Part → Bool
begins_with_text [] = false
begins_with_text (Text bytes ∷ parts) = true
begins_with_text (part ∷ parts) = false

-- a byte of text or another part, before some parts
abbrev pub put : Addition → List Part → List Part
put (addition.Byte b) parts = add_byte b parts
put (addition.Part part) parts = part ∷ parts

abbrev pub is_text : Addition → Bool
is_text (addition.Byte b) = false
is_text (addition.Part part) = begins_with_text (part ∷ [])

-- the parts and the text that waits, with what is added, whatever follows
abbrev pub Adds : List Part → List ℕ → Addition → List Part → List ℕ → Type 0
Adds parts text added parts' text' = (more : List Part) → parts' ++ add_bytes text' more ≡ parts ++ add_bytes text (put added more)
