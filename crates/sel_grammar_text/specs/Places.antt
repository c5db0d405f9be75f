-- Lines and columns, both from 1. A column counts bytes, and a line begins behind each LF.
use Rattle.std.specs.Prelude.{◌≡◌, ℕ, ◌+◌, ◌≤◌, ◌==◌, not, List, length, take, count_by}
use Rattle.std.specs.List.{suffix_len}
use Rattle.sel_grammar_text.specs.declared.mark.Mark.{Mark}
use Rattle.sel_grammar_text.specs.declared.place.Place.{Place}

-- the line and the column behind some bytes
pub record IsPlaceBehind (before : List ℕ) (place : Place) : Type 0 where
  pub line : place.line ≡ 1 + count_by (λ b. b == 10) before
  pub column : place.column ≡ 1 + suffix_len (λ b. not (b == 10)) before

-- the mark stands in the text, and its line and column are right
pub record IsMark (bytes : List ℕ) (mark : Mark) : Type 0 where
  pub within : mark.at ≤ length bytes
  pub place : IsPlaceBehind (take mark.at bytes) mark.place

-- the line of a place in the text
abbrev pub line_of : List ℕ → ℕ → ℕ
line_of bytes at = 1 + count_by (λ b. b == 10) (take at bytes)

-- the column of a place in the text
abbrev pub column_of : List ℕ → ℕ → ℕ
column_of bytes at = 1 + suffix_len (λ b. not (b == 10)) (take at bytes)
