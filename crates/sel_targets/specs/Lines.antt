-- Texts by their lines.
use Rattle.std.specs.Prelude.{ℕ, List, [], ◌∷◌, ◌++◌, codes}

-- the lines, each ended by a line feed
unfoldable pub lines : List (List ℕ) → List ℕ
lines [] = []
lines (line ∷ rest) = line ++ (codes "\n" ++ lines rest)

-- how long the shipped texts are at most
abbrev pub most_bytes : ℕ
most_bytes = 4096
