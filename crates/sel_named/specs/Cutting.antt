-- Lines as they are cut, from the front.
use Rattle.std.specs.Prelude.{ℕ, Bool, true, false, ◌==◌, if◌then◌else◌, List, [], ◌∷◌, ◌++◌}
use Rattle.sel_base.specs.Ascii.{line_feed}
use Rattle.sel_grammar.specs.declared.emission.Emitted.TheVariants.{Byte, Temporary}
use Rattle.sel_grammar.specs.Expansions.{Text}
use Rattle.sel_regs.specs.Lives.{Lines}
use Rattle.sel_named.specs.declared.lines.LineCutter.{LineCutter}

-- the lines of a text behind a line that names these temporaries so far, where one is begun
abbrev pub lines_behind : Bool → List ℕ → Text → Lines
lines_behind begun temps [] = if begun then temps ∷ [] else []
lines_behind begun temps (Byte b ∷ rest) = if b == line_feed then temps ∷ lines_behind false [] rest else lines_behind true temps rest
lines_behind begun temps (Temporary k ∷ rest) = lines_behind true (temps ++ k ∷ []) rest

-- all lines, where this is the rest of the text
abbrev pub all_lines : LineCutter → Text → Lines
all_lines cutter rest = cutter.ended.items ++ lines_behind cutter.begun cutter.temps.items rest
