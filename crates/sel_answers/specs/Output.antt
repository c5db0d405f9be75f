-- What is written: an answer for each tree, in order, a text with the names of registers, a certificate or a least cost for each, a summary of all, or a grammar or forest in print.
use Rattle.std.specs.Prelude.{◌≡◌, ℕ, ◌+◌, ◌-◌, Bool, true, false, not, ◌==◌, Option, Some, None, is_some, List, [], ◌∷◌, ◌++◌, All, length, slice_get, count_by, codes, decimal, if◌then◌else◌}
use Rattle.std.specs.Fmt.{signed_decimal}
use Rattle.std.specs.List.{list_all, list_any}
use Rattle.sel_grammar.specs.declared.grammar.Grammar.{Grammar}
use Rattle.sel_grammar.specs.declared.grammar.Rule.{Rule}
use Rattle.sel_grammar.specs.Costs.{Cost, no_cost, ◌⊕◌}
use Rattle.sel_grammar.specs.PlainTrees.{PlainTree}
use Rattle.sel_grammar.specs.Best.{HasNone}
use Rattle.sel_forest.specs.declared.forest.Forest.{Forest}
use Rattle.sel_forest.specs.declared.forest.Tree.{Tree}
use Rattle.sel_forest.specs.Postorder.{IsPostorderOf, IsTree}
use Rattle.sel_forest.specs.Printed.{IsPrinted}
use Rattle.sel_grammar_print.specs.PrintedGrammar.{printed}
use Rattle.sel_work.specs.declared.answer.Answer.{Answer}
use Rattle.sel_work.specs.declared.answer.Answer.TheVariants.{NoCover, Text, TooLong}
use Rattle.sel_work.specs.declared.answer.Answer.TheVariants as answers
use Rattle.sel_work.specs.declared.answer.Goal.{Goal}
use Rattle.sel_work.specs.declared.answer.Goal.TheVariants as goals
use Rattle.sel_work.specs.Answers.{IsTreeAnswer}
use Rattle.sel_named.specs.declared.texts.NamedText.{NamedText}
use Rattle.sel_named.specs.declared.texts.NamedText.TheVariants as texts
use Rattle.sel_named.specs.NamedTexts.{IsBestNamed}
use Rattle.sel_check.specs.Checks.{AreLeastCosts}
use Rattle.sel_check.specs.CheckLaws.{IsCertifiedText}
use Rattle.sel_gen.specs.Made.{IsMadeForest}
use Rattle.sel_count.specs.Counts.{CountIs}
use Rattle.sel_count.specs.Things.{IsTabledItems, IsTabledKey}
use Rattle.sel_words.specs.Words.{Job, PrintGrammar, Make, OverForest, Regs, Check}
use Rattle.sel_words.specs.declared.words.Mode.TheVariants as mode
use Rattle.sel_answers.specs.declared.named.NamedAnswer.{NamedAnswer}
use Rattle.sel_answers.specs.declared.named.NamedAnswer.TheVariants as named

-- the answer of the tree that the nodes spell
abbrev pub IsTreesAnswer : Grammar → Goal → Tree → Answer → Type 0
IsTreesAnswer g goal tree answer = (t : PlainTree) × IsPostorderOf tree t × IsTreeAnswer g goal t answer

-- an answer for each tree, in their order
abbrev pub AreAnswers : Grammar → Goal → List Tree → List Answer → Type 0
AreAnswers g goal [] [] = Unit {0}
AreAnswers g goal (tree ∷ trees) (answer ∷ answers) = IsTreesAnswer g goal tree answer × AreAnswers g goal trees answers
AreAnswers g goal _ _ = ⊥

-- whether some rule has a second cost
abbrev pub has_second_costs : Grammar → Bool
has_second_costs g = list_any (λ (rule : Rule). not (rule.cost.second == 0)) g.rules

-- the first number, and the second behind a comma where some rule has one
abbrev pub cost_text : Bool → Cost → List ℕ
cost_text second c = if second then decimal c.first ++ (codes "," ++ signed_decimal c.second) else decimal c.first

-- each number behind a space
abbrev pub behind_spaces : List ℕ → List ℕ
behind_spaces [] = []
behind_spaces (n ∷ ns) = codes " " ++ (decimal n ++ behind_spaces ns)

-- numbers with single spaces between them
abbrev pub spaced : List ℕ → List ℕ
spaced [] = []
spaced (n ∷ ns) = decimal n ++ behind_spaces ns

-- the line end behind a text whose last byte this is, where it isn't one itself; none behind an empty text
abbrev pub line_end_after : Option ℕ → List ℕ
line_end_after None = []
line_end_after (Some b) = if b == 10 then [] else codes "\n"

-- the line end behind a text that isn't empty and doesn't end with one
abbrev pub line_end_behind : List ℕ → List ℕ
line_end_behind text = line_end_after (slice_get text (length text - 1))

-- the cost, up to the end of its line
abbrev pub cost_line : Bool → Cost → List ℕ
cost_line second c = codes " cost " ++ (cost_text second c ++ codes "\n")

-- what is written of an answer behind the tree's number
abbrev pub told_text : Bool → Answer → List ℕ
told_text second NoCover = codes " no cover\n"
told_text second (answers.Cover cover) = cost_line second cover.cost ++ (spaced cover.rules ++ codes "\n")
told_text second (Text c text) = cost_line second c ++ (text ++ line_end_behind text)
told_text second (TooLong c) = codes " too long\n"

-- what is written of the tree of this number
abbrev pub answer_text : Bool → ℕ → Answer → List ℕ
answer_text second number answer = codes "; tree " ++ (decimal number ++ told_text second answer)

-- the answer is a cover, or its text
abbrev pub is_covered : Answer → Bool
is_covered NoCover = false
is_covered (answers.Cover cover) = true
is_covered (Text c text) = true
is_covered (TooLong c) = false

-- of trees that are numbered from this number on
abbrev pub answers_text : Bool → ℕ → List Answer → List ℕ
answers_text second number [] = []
answers_text second number (answer ∷ answers) = answer_text second number answer ++ answers_text second (number + 1) answers

-- nothing derives the tree
abbrev pub is_uncovered : Answer → Bool
is_uncovered NoCover = true
is_uncovered (answers.Cover cover) = false
is_uncovered (Text c text) = false
is_uncovered (TooLong c) = false

-- what the answer adds to the sum of costs
abbrev pub cost_of : Answer → Cost
cost_of NoCover = no_cost
cost_of (answers.Cover cover) = cover.cost
cost_of (Text c text) = c
cost_of (TooLong c) = c

abbrev pub sum_of_costs : List Answer → Cost
sum_of_costs [] = no_cost
sum_of_costs (answer ∷ answers) = cost_of answer ⊕ sum_of_costs answers

-- a line: a word, and what is told of it
abbrev pub told_line : List ℕ → List ℕ → List ℕ
told_line word text = word ++ (text ++ codes "\n")

-- how many trees there are, how many of them have no cover, and what the covers cost together
abbrev pub summary_text : Bool → List Answer → List ℕ
summary_text second answers =
    told_line (codes "trees ") (decimal (length answers))
    ++ (told_line (codes "uncovered ") (decimal (count_by is_uncovered answers))
    ++ told_line (codes "cost ") (cost_text second (sum_of_costs answers)))

-- how many states and keys there are, a line each
abbrev pub counts_text : ℕ → ℕ → List ℕ
counts_text states keys = told_line (codes "states ") (decimal states) ++ told_line (codes "keys ") (decimal keys)

-- the marks that are set, a line each
abbrev pub marks_text : Bool → Bool → List ℕ
marks_text used_up row_full = (if used_up then codes "used up\n" else []) ++ (if row_full then codes "row full\n" else [])

-- the marks of the table over which trees were answered: its numbers of states were used up, its row of keys was full
pub record TableMarks : Type 0 where
  pub used_up : Bool
  pub row_full : Bool

-- what is told of a table with these marks over which the trees were answered: how many item sets and keys their tabled nodes have, or the marks
abbrev pub IsToldBy : Bool → Bool → Grammar → List Tree → List ℕ → Type 0
IsToldBy false false g trees bytes = (states : ℕ) × (keys : ℕ) × CountIs (IsTabledItems g trees) states × CountIs (IsTabledKey g trees) keys × (bytes ≡ counts_text states keys)
IsToldBy false true g trees bytes = bytes ≡ marks_text false true
IsToldBy true row_full g trees bytes = bytes ≡ marks_text true row_full

-- the bytes tell the answers of the trees, which are numbered behind so many others, and `covered` tells whether every answer is a cover or a text
pub record AreAnswered (g : Grammar) (goal : Goal) (before : ℕ) (trees : List Tree) (covered : Bool) (bytes : List ℕ) : Type 0 where
  pub answers : List Answer
  pub answer_trees : AreAnswers g goal trees answers
  pub written : bytes ≡ answers_text (has_second_costs g) (before + 1) answers
  pub all_covered : list_all is_covered answers ≡ covered

-- the bytes tell the sums of the trees' covers and, behind them, what is told of the table with these marks; `covered` tells whether every tree has a cover
pub record AreSummedUp (g : Grammar) (marks : TableMarks) (trees : List Tree) (covered : Bool) (bytes : List ℕ) : Type 0 where
  pub answers : List Answer
  pub answer_trees : AreAnswers g goals.Cover trees answers
  pub table : List ℕ
  pub tells : IsToldBy marks.used_up marks.row_full g trees table
  pub written : bytes ≡ summary_text (has_second_costs g) answers ++ table
  pub all_covered : list_all is_covered answers ≡ covered

-- ---- registers

-- that nothing derives the tree from the start symbol, or the cost of the best derivation, and what becomes of its text with the names of registers
abbrev pub IsNamedAnswer : Grammar → List (List ℕ) → PlainTree → NamedAnswer → Type 0
IsNamedAnswer g names t named.NoCover = HasNone g g.start t
IsNamedAnswer g names t (named.Named c text) = IsBestNamed g t names c text

-- so of the tree that the nodes spell
abbrev pub IsTreesNamed : Grammar → List (List ℕ) → Tree → NamedAnswer → Type 0
IsTreesNamed g names tree answer = (t : PlainTree) × IsPostorderOf tree t × IsNamedAnswer g names t answer

-- so of each tree, in their order
abbrev pub AreNamedAnswers : Grammar → List (List ℕ) → List Tree → List NamedAnswer → Type 0
AreNamedAnswers g names [] [] = Unit {0}
AreNamedAnswers g names (tree ∷ trees) (answer ∷ answers) = IsTreesNamed g names tree answer × AreNamedAnswers g names trees answers
AreNamedAnswers g names _ _ = ⊥

-- the cost and the text, or that it is too long, or how many registers it takes
abbrev pub named_text : Bool → Cost → NamedText → List ℕ
named_text second c (texts.Text text) = cost_line second c ++ (text ++ line_end_behind text)
named_text second c texts.TooLong = codes " too long\n"
named_text second c (texts.TooFew needs) = codes " needs " ++ (decimal needs ++ codes " registers\n")

-- what is written behind the tree's number
abbrev pub named_told_text : Bool → NamedAnswer → List ℕ
named_told_text second named.NoCover = codes " no cover\n"
named_told_text second (named.Named c text) = named_text second c text

-- what is written of the tree of this number
abbrev pub named_answer_text : Bool → ℕ → NamedAnswer → List ℕ
named_answer_text second number answer = codes "; tree " ++ (decimal number ++ named_told_text second answer)

-- of trees that are numbered from this number on
abbrev pub named_answers_text : Bool → ℕ → List NamedAnswer → List ℕ
named_answers_text second number [] = []
named_answers_text second number (answer ∷ answers) = named_answer_text second number answer ++ named_answers_text second (number + 1) answers

-- the text isn't too long, and there are enough registers
abbrev pub is_text : NamedText → Bool
is_text (texts.Text text) = true
is_text texts.TooLong = false
is_text (texts.TooFew needs) = false

-- there is a text with the names of registers
abbrev pub has_text : NamedAnswer → Bool
has_text named.NoCover = false
has_text (named.Named c text) = is_text text

-- the bytes tell the texts of the trees with the names of registers, the trees being numbered behind so many others, and `covered` tells whether each has one
pub record AreNamed (g : Grammar) (names : List (List ℕ)) (before : ℕ) (trees : List Tree) (covered : Bool) (bytes : List ℕ) : Type 0 where
  pub answers : List NamedAnswer
  pub answer_trees : AreNamedAnswers g names trees answers
  pub written : bytes ≡ named_answers_text (has_second_costs g) (before + 1) answers
  pub all_covered : list_all has_text answers ≡ covered

-- ---- certificates

-- the bytes are the certificates of the trees, which are numbered behind so many others, and `covered` tells whether each has a cover
pub record AreCertifiedBehind (g : Grammar) (before : ℕ) (trees : List Tree) (covered : Bool) (bytes : List ℕ) : Type 0 where
  pub are_trees : All IsTree trees
  pub certified : IsCertifiedText g (before + 1) trees bytes covered

-- the least cost of a tree's derivations from the start symbol, or that there is none
abbrev pub least_text : Bool → Option Cost → List ℕ
least_text second None = codes " no cover\n"
least_text second (Some c) = codes " least " ++ (cost_text second c ++ codes "\n")

-- of trees that are numbered from this number on
abbrev pub least_costs_text : Bool → ℕ → List (Option Cost) → List ℕ
least_costs_text second number [] = []
least_costs_text second number (cost ∷ costs) = (codes "; tree " ++ (decimal number ++ least_text second cost)) ++ least_costs_text second (number + 1) costs

-- the bytes tell the least costs of the trees, and `covered` tells whether each has one
pub record AreLeast (g : Grammar) (trees : List Tree) (covered : Bool) (bytes : List ℕ) : Type 0 where
  pub are_trees : All IsTree trees
  pub costs : List (Option Cost)
  pub least : AreLeastCosts g trees costs
  pub written : bytes ≡ least_costs_text (has_second_costs g) 1 costs
  pub all_covered : list_all (λ (cost : Option Cost). is_some cost) costs ≡ covered

-- ---- the whole

-- The defined output of a job over a grammar and, for most, a forest that was read, with the marks of the table over which its trees were answered, and whether every tree is covered, and its text, where one is written, neither too long nor short of registers. A text of certificates that is checked is no part of it: what it proves are the least costs.
abbrev pub IsOutput : Job → Grammar → Option Forest → TableMarks → Bool → List ℕ → Type 0
IsOutput PrintGrammar g None marks covered bytes = (bytes ≡ printed g) × (covered ≡ true)
IsOutput (Make seed trees size) g None marks covered bytes = (forest : Forest) × IsMadeForest g seed trees size forest × AreSummedUp g marks forest.trees covered bytes
IsOutput (OverForest mode.Cover name) g (Some forest) marks covered bytes = AreAnswered g goals.Cover 0 forest.trees covered bytes
IsOutput (OverForest mode.Select name) g (Some forest) marks covered bytes = AreAnswered g goals.Text 0 forest.trees covered bytes
IsOutput (OverForest mode.Summary name) g (Some forest) marks covered bytes = AreSummedUp g marks forest.trees covered bytes
IsOutput (OverForest mode.Print name) g (Some forest) marks covered bytes = IsPrinted g forest bytes × (covered ≡ true)
IsOutput (OverForest mode.Certify name) g (Some forest) marks covered bytes = AreCertifiedBehind g 0 forest.trees covered bytes
IsOutput (Regs names name) g (Some forest) marks covered bytes = AreNamed g names 0 forest.trees covered bytes
IsOutput (Check name certificate) g (Some forest) marks covered bytes = AreLeast g forest.trees covered bytes
IsOutput _ _ _ _ _ _ = ⊥
