-- What a call tells of a tree and leaves where it may write, and what it tells of a text.
use Rattle.std.specs.Prelude.{◌≡◌, ℕ, ◌<◌, ◌≤◌, ◌⊎◌, List, [], ◌∷◌, ◌++◌, length, drop, Option, Some, None}
use Rattle.sel_grammar.specs.declared.grammar.Grammar.{Grammar}
use Rattle.sel_grammar.specs.Costs.{Cost}
use Rattle.sel_grammar.specs.PlainTrees.{PlainTree}
use Rattle.sel_forest.specs.declared.forest.Tree.{Tree}
use Rattle.sel_forest.specs.declared.forest.Forest.{Forest}
use Rattle.sel_forest.specs.ForestText.{SpellsForest, IsForestFault}
use Rattle.sel_forest.specs.Postorder.{IsPostorderOf}
use Rattle.sel_work.specs.declared.answer.Answer.{Answer}
use Rattle.sel_work.specs.declared.answer.Answer.TheVariants.{NoCover, Text, TooLong, Cover}
use Rattle.sel_work.specs.declared.answer.Goal.{Goal}
use Rattle.sel_work.specs.declared.answer.Goal.TheVariants as goals
use Rattle.sel_work.specs.Answers.{IsTreeAnswer}
use Rattle.sel_c.specs.declared.told.Told.{Told}
use Rattle.sel_c.specs.declared.accepted.Accepted.{Accepted}
use Rattle.sel_c.specs.declared.line.Unread.{Unread}
use Rattle.sel_c.specs.declared.line.Unread.TheVariants.{Fault, NotOne, TooBig, NoMemory}
use Rattle.sel_c.specs.Codes as codes
use Rattle.sel_c.specs.Codes.{told_code, told_fault, told_cost}

-- the greatest length of a forest's text, in bytes
abbrev pub forest_limit : ℕ
forest_limit = 67108864

-- Where the items fit, they stand at the front of the place to write to, which goes on as it did; where they don't, nothing is written, and it is told how many there are.
pub record Writes {A : Type 0} (c : Cost) (items old new : List A) (told : Told) : Type 0 where
  pub fits : length items ≤ length old → (told ≡ told_cost codes.done c (length items)) × (new ≡ items ++ drop (length items) old)
  pub wants : length old < length items → (told ≡ told_cost codes.short c (length items)) × (new ≡ old)

-- nothing is written
abbrev pub WritesNone : {A : Type 0} → Told → List A → List A → Told → Type 0
WritesNone wanted old new told = (told ≡ wanted) × (new ≡ old)

-- how the answer of a tree for its text is told
abbrev pub TellsText : List ℕ → List ℕ → Told → Answer → Type 0
TellsText old new told (Text c text) = Writes c text old new told
TellsText old new told (TooLong c) = WritesNone (told_cost codes.too_long c 0) old new told
TellsText old new told NoCover = WritesNone (told_code codes.no_cover) old new told
TellsText old new told (Cover cover) = ⊥

-- how the answer of a tree for its rules is told
abbrev pub TellsRules : List ℕ → List ℕ → Told → Answer → Type 0
TellsRules old new told (Cover cover) = Writes cover.cost cover.rules old new told
TellsRules old new told NoCover = WritesNone (told_code codes.no_cover) old new told
TellsRules old new told _ = ⊥

-- an answer for the goal
abbrev pub IsOfGoal : Goal → Answer → Type 0
IsOfGoal goals.Text (Cover cover) = ⊥
IsOfGoal goals.Cover (Text c text) = ⊥
IsOfGoal goals.Cover (TooLong c) = ⊥
IsOfGoal goal _ = Unit {0}

-- the answer is that of the tree for the goal
abbrev pub IsAnswerOf : Grammar → Goal → Tree → Answer → Type 0
IsAnswerOf g goal tree answer = (t : PlainTree) → IsPostorderOf tree t → IsTreeAnswer g goal t answer

-- the answer of the tree for the goal is told so
pub record AnswersTree (g : Grammar) (goal : Goal) (tree : Tree) (Tells : Answer → Type 0) : Type 0 where
  pub answer : Answer
  pub is_answer : IsAnswerOf g goal tree answer
  pub tells : Tells answer

-- so it is, or there is no memory, and nothing is written
abbrev pub TellsOfTree : Grammar → Goal → Tree → List ℕ → List ℕ → Told → (Answer → Type 0) → Type 0
TellsOfTree g goal tree old new told Tells = AnswersTree g goal tree Tells ⊎ WritesNone (told_code codes.no_memory) old new told

-- the text spells one tree
pub record SpellsOneTree (g : Grammar) (text : List ℕ) (tree : Tree) : Type 0 where
  pub forest : Forest
  pub spelled : SpellsForest g text forest
  pub one : forest.trees ≡ tree ∷ []

-- Why no tree is read of a text: its first fault, or that it spells no tree or several, or that it is too long, or there is no memory.
abbrev pub IsUnread : Grammar → List ℕ → Unread → Type 0
IsUnread g text (Fault fault) = IsForestFault g text fault
IsUnread g text NotOne = (forest : Forest) × SpellsForest g text forest × (length forest.trees ≡ 1 → ⊥)
IsUnread g text TooBig = forest_limit < length text
IsUnread g text NoMemory = Unit {0}

-- how it is told
abbrev pub told_unread : Unread → Told
told_unread (Fault fault) = told_fault codes.bad_forest fault.kind fault.line fault.column
told_unread NotOne = told_code codes.not_one
told_unread TooBig = told_code codes.too_big
told_unread NoMemory = told_code codes.no_memory

-- What is told of a text, where `old` and `new` are the place to write to: the answer of its one tree, or why it has none, with nothing written.
pub data TellsOfLine (g : Grammar) (goal : Goal) (text old new : List ℕ) (told : Told) (Tells : Answer → Type 0) : Type 0 where
  of_tree : (tree : Tree) → SpellsOneTree g text tree → TellsOfTree g goal tree old new told Tells → TellsOfLine g goal text old new told Tells
  of_none : (why : Unread) → IsUnread g text why → WritesNone (told_unread why) old new told → TellsOfLine g goal text old new told Tells

-- What is told of a text by a handle that holds this, or nothing.
abbrev pub TellsOfHeldLine : Option Accepted → Goal → List ℕ → List ℕ → List ℕ → Told → (Answer → Type 0) → Type 0
TellsOfHeldLine None goal text old new told Tells = WritesNone (told_code codes.is_closed) old new told
TellsOfHeldLine (Some a) goal text old new told Tells = TellsOfLine a.grammar goal text old new told Tells
