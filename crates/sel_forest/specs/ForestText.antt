-- Which forest a text spells under a grammar, and the first fault of a text that spells none.
use Rattle.std.specs.Prelude.{◌≡◌, ℕ, ◌+◌, ◌≤◌, ◌==◌, List, [], ◌∷◌, ◌++◌, length, Option, Some, None}
use Rattle.std.specs.List.{slice_split}
use Rattle.sel_grammar.specs.declared.grammar.Grammar.{Grammar}
use Rattle.sel_forest.specs.declared.forest.Tree.{Tree}
use Rattle.sel_forest.specs.declared.forest.Forest.{Forest}
use Rattle.sel_forest.specs.declared.refusal.ForestFault.{ForestFault}
use Rattle.sel_forest.specs.declared.refusal.ForestRefusal.{ForestRefusal}
use Rattle.sel_forest.specs.declared.refusal.ForestRefusal.TheVariants as refusal
use Rattle.sel_forest.specs.Limits.{most_trees}
use Rattle.sel_forest.specs.Valid.{IsValidTree}
use Rattle.sel_forest.specs.Tokens.{Token, IsCutInto}
use Rattle.sel_forest.specs.TreeText.{SpellsTree}
use Rattle.sel_forest.specs.LineFaults.{HasFirstFault}

-- the line spells a tree that is valid under the grammar
pub record SpellsLine (g : Grammar) (line : List ℕ) (tree : Tree) : Type 0 where
  pub tokens : List Token
  pub cut : IsCutInto line tokens
  pub valid : IsValidTree g tree
  pub spells : SpellsTree g tokens valid.plain

-- there are only blanks on the line
abbrev pub IsBlankLine : List ℕ → Type 0
IsBlankLine line = IsCutInto line []

-- what is read of a line
abbrev pub IsLineResult : Grammar → List ℕ → Option Tree → Type 0
IsLineResult g line None = IsBlankLine line
IsLineResult g line (Some tree) = SpellsLine g line tree

-- The first fault of the line with that number, behind that many trees. Columns count from 1.
pub record IsLineFault (g : Grammar) (trees : ℕ) (line : List ℕ) (number : ℕ) (fault : ForestFault) : Type 0 where
  pub at : ℕ
  pub first_fault : HasFirstFault g trees line fault.kind at
  pub line_is : fault.line ≡ number
  pub column_is : fault.column ≡ at + 1

-- a fault is the line's first one, and want of memory comes freely
abbrev pub IsLineRefusal : Grammar → ℕ → List ℕ → ℕ → ForestRefusal → Type 0
IsLineRefusal g trees line number (refusal.Fault fault) = IsLineFault g trees line number fault
IsLineRefusal g trees line number refusal.NoMemory = Unit {0}

-- the lines spell the trees, in their order: each line spells one, or is blank
pub data LinesSpell (g : Grammar) : List (List ℕ) → List Tree → Type 0 where
  no_lines : LinesSpell g [] []
  blank_line : (line : List ℕ) (lines : List (List ℕ)) (trees : List Tree) → IsBlankLine line → LinesSpell g lines trees → LinesSpell g (line ∷ lines) trees
  tree_line : (line : List ℕ) (lines : List (List ℕ)) (tree : Tree) (trees : List Tree) → SpellsLine g line tree → LinesSpell g lines trees → LinesSpell g (line ∷ lines) (tree ∷ trees)

-- what stands between line feeds
abbrev pub lines_of : List ℕ → List (List ℕ)
lines_of bytes = slice_split (λ b. b == 10) bytes

pub record SpellsForest (g : Grammar) (bytes : List ℕ) (forest : Forest) : Type 0 where
  pub lines : LinesSpell g (lines_of bytes) forest.trees
  pub few : length forest.trees ≤ most_trees

-- The first fault of a text: the lines before its line, which are numbered from 1, spell trees or are blank.
pub record IsForestFault (g : Grammar) (bytes : List ℕ) (fault : ForestFault) : Type 0 where
  pub before : List (List ℕ)
  pub line : List ℕ
  pub others : List (List ℕ)
  pub lines : lines_of bytes ≡ before ++ (line ∷ others)
  pub trees : List Tree
  pub spelled : LinesSpell g before trees
  pub few : length trees ≤ most_trees
  pub here : IsLineFault g (length trees) line (length before + 1) fault

-- a fault is the text's first one, and want of memory comes freely
abbrev pub IsForestRefusal : Grammar → List ℕ → ForestRefusal → Type 0
IsForestRefusal g bytes (refusal.Fault fault) = IsForestFault g bytes fault
IsForestRefusal g bytes refusal.NoMemory = Unit {0}
