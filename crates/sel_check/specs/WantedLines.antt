-- What each line of a text of certificates is to be, and the first line that isn't.
use Rattle.std.specs.Prelude.{◌≡◌, ℕ, ◌+◌, ◌<◌, ◌^◌, Option, Some, None, IfSome, List, [], ◌∷◌, ◌++◌, All, length, map}
use Rattle.sel_grammar.specs.declared.grammar.Grammar.{Grammar}
use Rattle.sel_grammar.specs.Costs.{Cost}
use Rattle.sel_grammar.specs.SmallCosts.{IsSmall}
use Rattle.sel_forest.specs.declared.forest.Tree.{Tree}
use Rattle.sel_check.specs.CertificateTexts.{greatest_claim, row_line, cover_line, tree_line, ended}

-- the first line of the tree with this number, a node's line with this many entries, or the line of the rules
pub data Wanted : Type 0 where
  Title : ℕ → Wanted
  Row : ℕ → Wanted
  Rules : Wanted

-- nothing, or a cost that isn't too great for the text
abbrev pub IsEntry : Option Cost → Type 0
IsEntry entry = IfSome entry (IsSmall greatest_claim)

-- so many entries
pub record IsRow (width : ℕ) (row : List (Option Cost)) : Type 0 where
  pub width_is : length row ≡ width
  pub entries : All IsEntry row

-- none, or one or more numbers of 16 bits
abbrev pub AreRules : Option (List ℕ) → Type 0
AreRules None = Unit {0}
AreRules (Some rules) = (0 < length rules) × All (λ r. r < 2 ^ 16) rules

-- the line is as wanted
abbrev pub IsLine : Wanted → List ℕ → Type 0
IsLine (Title number) line = line ≡ tree_line number
IsLine (Row width) line = (row : List (Option Cost)) × IsRow width row × (line ≡ row_line row)
IsLine Rules line = (rules : Option (List ℕ)) × AreRules rules × (line ≡ cover_line rules)

-- and so each line
abbrev pub AreLines : List Wanted → List (List ℕ) → Type 0
AreLines [] [] = Unit {0}
AreLines (w ∷ wanted) (line ∷ lines) = IsLine w line × AreLines wanted lines
AreLines _ _ = ⊥

-- for each node as many entries as there are nonterminals
abbrev pub wanted_rows : Grammar → Tree → List Wanted
wanted_rows g tree = map (λ node. Row (length g.nonterminals)) tree.nodes

-- the title, the rows, and the rules
abbrev pub wanted_of_tree : Grammar → ℕ → Tree → List Wanted
wanted_of_tree g number tree = Title number ∷ (wanted_rows g tree ++ (Rules ∷ []))

-- the lines of the trees, which are numbered from this number on
abbrev pub wanted_lines : Grammar → ℕ → List Tree → List Wanted
wanted_lines g number [] = []
wanted_lines g number (tree ∷ trees) = wanted_of_tree g number tree ++ wanted_lines g (number + 1) trees

-- the text doesn't begin with a line as is wanted next and its line feed, or where none is wanted, there is text
abbrev pub IsNoLine : List Wanted → List ℕ → Type 0
IsNoLine [] text = text ≡ [] → ⊥
IsNoLine (w ∷ wanted) text = (line behind : List ℕ) → IsLine w line → text ≡ line ++ (10 ∷ behind) → ⊥

-- The line with this number, from 1, is the first that isn't as wanted: each before it is.
pub record IsFormFault (wanted : List Wanted) (bytes : List ℕ) (number : ℕ) : Type 0 where
  pub done : List Wanted
  pub others : List Wanted
  pub wanted_are : wanted ≡ done ++ others
  pub before : List (List ℕ)
  pub as_wanted : AreLines done before
  pub rest : List ℕ
  pub bytes_are : bytes ≡ ended before ++ rest
  pub here : IsNoLine others rest
  pub number_is : number ≡ length before + 1
