-- Laws of closed tables and their parts.
use Rattle.std.specs.Prelude.{◌≡◌, ◌↔◌, ℕ, ◌+◌, ◌-◌, ◌<◌, ◌^◌, Bool, false, List, [], ◌∷◌, ◌++◌, length, min}
use Rattle.std.specs.List.{Contains}
use Rattle.sel_grammar.specs.declared.grammar.Grammar.{Grammar}
use Rattle.sel_grammar.specs.PlainTrees.{PlainTree}
use Rattle.sel_forest.specs.declared.forest.Forest.{Forest}
use Rattle.sel_forest.specs.declared.forest.Tree.{Tree}
use Rattle.sel_forest.specs.Places.{IsRootAt}
use Rattle.sel_forest.specs.Valid.{IsValidTree, IsValidForest}
use Rattle.sel_normal.specs.NormalForms.{NormalForm}
use Rattle.sel_items.specs.declared.label.Label.{Label}
use Rattle.sel_items.specs.Automata.{Keeps}
use Rattle.sel_items.specs.Labels.{IsPlain}
use Rattle.sel_items.specs.Tabled.{IsTabled}
use Rattle.sel_label.specs.Labelling.{AddsOfTree, AreLabelled, LabelAt}
use Rattle.sel_rows.specs.declared.part.PassPart.{PassPart}
use Rattle.sel_rows.specs.declared.pass.Pass.{Pass}
use Rattle.sel_rows.specs.declared.snapshot.Snapshot.{Snapshot}
use Rattle.sel_rows.specs.Counts.{counted}
use Rattle.sel_rows.specs.Parts.{AreFresh}
use Rattle.sel_rows.specs.Tables.{IsPassOf}
use Rattle.sel_rows.specs.Told.{told_of_pass}
use Rattle.sel_work.specs.Kept.{AreTabledKept, IsPlainCount}
use Rattle.sel_count.specs.Counts.{AllDiffer, ListsExactly, CountIs}
use Rattle.sel_count.specs.Things.{AreValid}
use Rattle.sel_closing.specs.Asking.{told_of_part, AsksOnly, TellsMore, PartsAskOnly, PartsKeep, PartsTellMore}
use Rattle.sel_closing.specs.Closings.{IsClosingOf, TellsOfTrees}
use Rattle.sel_closing.specs.SnapshotTables.{Room}
use Rattle.sel_closing.specs.Untabled.{IsUntabledPlace, CountsUntabled, AreTreesAt}

-- The trees of a valid forest are valid.
abbrev pub ForestsAreValid : Type 0
ForestsAreValid = (g : Grammar) (forest : Forest) → IsValidForest g forest → AreValid g forest.trees

-- New parts asked nothing.
abbrev pub FreshAskNothing : Type 0
FreshAskNothing = (g : Grammar) (trees : List Tree) (parts : List PassPart) → AreFresh parts → PartsAskOnly g trees parts

-- What asked only of trees asked only of more trees.
abbrev pub AskOfMore : Type 0
AskOfMore = (g : Grammar) (trees more : List Tree) (parts : List PassPart) → ((tree : Tree) → Contains trees tree → Contains more tree) → PartsAskOnly g trees parts → PartsAskOnly g more parts

-- A pass tells what the part that it is over tells.
abbrev pub PassesTellOfParts : Type 0
PassesTellOfParts = (p : PassPart) (s : Pass) → IsPassOf p s → TellsMore (told_of_part p) (told_of_pass s) × TellsMore (told_of_pass s) (told_of_part p)
    × ((g : Grammar) (trees : List Tree) → AsksOnly g trees (told_of_part p) ↔ AsksOnly g trees (told_of_pass s))

-- The answer of a tree asks only keys that may be asked of trees of which it is one, and loses nothing.
abbrev pub AnswersAskOnly : Type 0
AnswersAskOnly = (g : Grammar) (trees : List Tree) (tree : Tree) (old new : Pass) → Contains trees tree → AddsOfTree g tree.nodes (told_of_pass old) (told_of_pass new)
    → AsksOnly g trees (told_of_pass old) → AsksOnly g trees (told_of_pass new)

abbrev pub AnswersTellMore : Type 0
AnswersTellMore = (old new : Pass) → Keeps (told_of_pass old) (told_of_pass new) → TellsMore (told_of_pass old) (told_of_pass new)

-- What a part keeps of a tree is kept by one that tells no less.
abbrev pub KeptStaysKept : Type 0
KeptStaysKept = (g : Grammar) (tree : Tree) (old new : PassPart) → TellsMore (told_of_part old) (told_of_part new) → AreTabledKept g tree.nodes (told_of_part old) → AreTabledKept g tree.nodes (told_of_part new)

-- So it is with all parts and all trees.
abbrev pub PartsStillKeep : Type 0
PartsStillKeep = (g : Grammar) (trees : List Tree) (old new : List PassPart) → PartsTellMore old new → PartsKeep g trees old → PartsKeep g trees new

-- What keeps two lists of trees keeps both, one behind the other.
abbrev pub PartsKeepBoth : Type 0
PartsKeepBoth = (g : Grammar) (xs ys : List Tree) (parts : List PassPart) → PartsKeep g xs parts → PartsKeep g ys parts → PartsKeep g (xs ++ ys) parts

-- A closed table tells of the trees what it is to tell.
abbrev pub SnapshotsTell : Type 0
SnapshotsTell = (normal : NormalForm) (room : Room) (parts : List PassPart) (s : Snapshot) (used_up row_full : Bool)
    → IsClosingOf normal room parts s used_up row_full → TellsOfTrees normal room parts s used_up row_full

-- Where a pass isn't used up behind a labelling, exactly the nodes that aren't tabled have plain labels.
abbrev pub PlainAreUntabled : Type 0
PlainAreUntabled = (g : Grammar) (tree : Tree) (s : Pass) (labels : List Label) (i : ℕ) (u : PlainTree) (l : Label) → AreLabelled g tree.nodes (told_of_pass s) labels → (told_of_pass s).used_up ≡ false
    → IsRootAt tree.nodes i u → LabelAt labels i l → IsPlain l ↔ (IsTabled g u → ⊥)

-- So its count of plain labels is that of these nodes.
abbrev pub PlainCountsUntabled : Type 0
PlainCountsUntabled = (g : Grammar) (tree : Tree) (s : Pass) (n : ℕ) → IsValidTree g tree → IsPlainCount g tree.nodes (told_of_pass s) n → (told_of_pass s).used_up ≡ false → CountIs (IsUntabledPlace g (tree ∷ [])) n

-- No trees have no nodes, the nodes of two lists of trees add up, and their number is one.
abbrev pub UntabledAddUp : Type 0
UntabledAddUp = (g : Grammar) → CountIs (IsUntabledPlace g []) 0
    × ((xs ys : List Tree) (m n : ℕ) → CountIs (IsUntabledPlace g xs) m → CountIs (IsUntabledPlace g ys) n → CountIs (IsUntabledPlace g (xs ++ ys)) (m + n))
    × ((trees : List Tree) (m n : ℕ) → CountIs (IsUntabledPlace g trees) m → CountIs (IsUntabledPlace g trees) n → m ≡ n)

-- So do counts that stop at the greatest number of 64 bits.
abbrev pub StoppedCountsAddUp : Type 0
StoppedCountsAddUp = (g : Grammar) → CountsUntabled g [] 0
    × ((trees : List Tree) (n : ℕ) → n < 2 ^ 64 → CountIs (IsUntabledPlace g trees) n → CountsUntabled g trees n)
    × ((xs ys : List Tree) (a b : ℕ) → CountsUntabled g xs a → CountsUntabled g ys b → CountsUntabled g (xs ++ ys) (min (a + b) (2 ^ 64 - 1)))

-- One more tree, behind which the pass isn't used up, adds its plain labels to the count.
abbrev pub PlainAddsUp : Type 0
PlainAddsUp = (g : Grammar) (trees : List Tree) (tree : Tree) (s : Pass) (count n : ℕ) → IsValidTree g tree → IsPlainCount g tree.nodes (told_of_pass s) n → (told_of_pass s).used_up ≡ false
    → CountsUntabled g trees count → CountsUntabled g (trees ++ tree ∷ []) (counted count n)

-- In whatever order trees are counted, there are as many: where each number of a tree was drawn once, the trees of the numbers have as many as all trees.
abbrev pub CountsInAnyOrder : Type 0
CountsInAnyOrder = (g : Grammar) (trees drawn : List Tree) (numbers : List ℕ) (count : ℕ) → AllDiffer numbers → ListsExactly (λ n. n < length trees) numbers → AreTreesAt trees numbers drawn
    → CountsUntabled g drawn count → CountsUntabled g trees count
