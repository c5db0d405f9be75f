-- Trees answered one by one by a complete table.
use Rattle.std.proofs.Common.{◌≡◌, ℕ, zero, suc, ◌+◌, ◌<◌, ◌≤◌, List, [], ◌∷◌, ◌++◌, Some, refl, ap, sym, ◌∙◌, subst, slice_get, length, take, arith}
use Rattle.std.specs.Prelude.{Contains}
use Rattle.std.proofs.lemmas.List.Elements.{Contains-get_or}
use Rattle.std.proofs.lemmas.Option.{get_or_from_slice_get, slice_get_within}
use Rattle.sel_grammar.specs.declared.grammar.Grammar.{Grammar}
use Rattle.sel_forest.specs.declared.forest.Tree.{Tree}
use Rattle.sel_forest.specs.Valid.{IsValidTree}
use Rattle.sel_normal.specs.NormalForms.{NormalForm}
use Rattle.sel_items.specs.declared.items.Items.{Items}
use Rattle.sel_items.specs.Laws.{IsAcceptedForm}
use Rattle.sel_label.specs.Labelling.{AreAllReady}
use Rattle.sel_work.specs.declared.answer.Answer.{Answer}
use Rattle.sel_work.specs.declared.answer.Goal.{Goal}
use Rattle.sel_count.specs.Things.{AreValid}
use Rattle.sel_crew.specs.Answers.{IsAnswerOf, AreAnswersOf}
use Rattle.sel_full.specs.Automata.{FullTable, told_of}
use Rattle.sel_full.specs.Laws.{TreesAreReady}
use Rattle.sel_full.specs.Tables.{IsLawfulTable}
use Rattle.sel_full.proofs.KeyRows.{take_next}

-- the automaton stands for this table
pub record IsOver (normal : NormalForm) (states : List Items) (numbers : List ℕ) (t : FullTable) : Type 0 where
  pub normal_is : t.normal ≡ normal
  pub states_are : t.states ≡ states
  pub numbers_are : t.numbers ≡ numbers

all_ready : TreesAreReady → (g : Grammar) (normal : NormalForm) (states : List Items) (numbers : List ℕ) (t : FullTable) (tree : Tree) → IsOver normal states numbers t → IsAcceptedForm g normal → IsLawfulTable normal states numbers → IsValidTree g tree → AreAllReady g tree.nodes (told_of t)
all_ready law g normal states numbers t tree over form lawful valid =
    law g t tree (subst (IsAcceptedForm g) (sym over.normal_is) form)
    (subst (λ n. IsLawfulTable n t.states t.numbers) (sym over.normal_is) (subst (λ xs. IsLawfulTable normal xs t.numbers) (sym over.states_are) (subst (λ ns. IsLawfulTable normal states ns) (sym over.numbers_are) lawful))) valid

pub tree_ready : TreesAreReady → (g : Grammar) (normal : NormalForm) (states : List Items) (numbers : List ℕ) (t : FullTable) (trees : List Tree) (k : ℕ) (tree : Tree) → slice_get trees k ≡ Some tree → IsOver normal states numbers t → IsAcceptedForm g normal → IsLawfulTable normal states numbers → AreValid g trees
    → AreAllReady g tree.nodes (told_of t)
tree_ready law g normal states numbers t trees k tree at over form lawful valid = all_ready law g normal states numbers t tree over form lawful (valid tree there)
  where
    there : Contains trees tree
    there = subst (Contains trees) (get_or_from_slice_get trees k tree tree at) (Contains-get_or trees k tree (slice_get_within trees k tree at))

one_more : (g : Grammar) (goal : Goal) (trees : List Tree) (answers : List Answer) (tree : Tree) (answer : Answer) → AreAnswersOf g goal trees answers → IsAnswerOf g goal tree answer → AreAnswersOf g goal (trees ++ tree ∷ []) (answers ++ answer ∷ [])
one_more g goal [] [] tree answer h k = (k, tt)
one_more g goal [] (a ∷ answers) tree answer h k = absurd h
one_more g goal (t ∷ trees) [] tree answer h k = absurd h
one_more g goal (t ∷ trees) (a ∷ answers) tree answer h k = (h.0, one_more g goal trees answers tree answer h.1 k)

pub answers_more : (g : Grammar) (goal : Goal) (trees : List Tree) (k : ℕ) (answers answers' : List Answer) (tree : Tree) (answer : Answer) → slice_get trees k ≡ Some tree → AreAnswersOf g goal (take k trees) answers → IsAnswerOf g goal tree answer → answers' ≡ answers ++ answer ∷ [] → AreAnswersOf g goal (take (k + 1) trees) answers'
answers_more g goal trees k answers answers' tree answer at h one e =
    let q : k + 1 ≡ suc k = omega arith in
    subst (AreAnswersOf g goal (take (k + 1) trees)) (sym e)
    (subst (λ ts. AreAnswersOf g goal ts (answers ++ answer ∷ [])) (sym (ap (λ n. take n trees) q ∙ take_next trees k tree at)) (one_more g goal (take k trees) answers tree answer h one))
