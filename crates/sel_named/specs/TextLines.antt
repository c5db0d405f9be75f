-- The lines of a text, and the temporaries that they name.
use Rattle.std.specs.Prelude.{ℕ, Bool, false, ◌==◌, if◌then◌else◌, Option, Some, None, List, [], ◌∷◌, map}
use Rattle.std.specs.List.{filter_map, onto_first}
use Rattle.sel_base.specs.Ascii.{line_feed}
use Rattle.sel_grammar.specs.declared.emission.Emitted.{Emitted}
use Rattle.sel_grammar.specs.declared.emission.Emitted.TheVariants.{Byte, Temporary}
use Rattle.sel_grammar.specs.Expansions.{Text}
use Rattle.sel_regs.specs.Lives.{Lines, greatest_of}

-- the number of a temporary
abbrev pub number_of : Emitted → Option ℕ
number_of (Byte b) = None
number_of (Temporary k) = Some k

-- the temporaries that a text names, in order
abbrev pub temps_in : Text → List ℕ
temps_in text = filter_map number_of text

-- how many temporaries there are: the greatest number of one
abbrev pub temps_of : Text → ℕ
temps_of text = greatest_of (temps_in text)

abbrev pub is_line_end : Emitted → Bool
is_line_end (Byte b) = b == line_feed
is_line_end (Temporary k) = false

-- The lines of a text: it is cut at line ends, and what stands behind the last one is a line where it isn't empty.
abbrev pub text_lines : Text → List Text
text_lines [] = []
text_lines (x ∷ xs) = if is_line_end x then [] ∷ text_lines xs else onto_first x (text_lines xs)

-- for each line of a text the temporaries that it names
abbrev pub temps_by_line : Text → Lines
temps_by_line text = map temps_in (text_lines text)
