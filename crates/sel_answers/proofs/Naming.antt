-- Texts with the names of registers, one behind the other.
use Rattle.std.proofs.Common.{◌≡◌, ℕ, ◌+◌, ◌<◌, Bool, List, [], ◌∷◌, ◌++◌, length, take, drop, refl, sym, ap, subst, ◌∙◌, append_assoc, arith, slice_index_or}
use Rattle.std.proofs.lemmas.List.{take_all}
use Rattle.sel_grammar.specs.declared.grammar.Grammar.{Grammar}
use Rattle.sel_grammar.specs.PlainTrees.{PlainTree}
use Rattle.sel_forest.specs.declared.forest.Cover.{Cover}
use Rattle.sel_forest.specs.declared.forest.Tree.{Tree}
use Rattle.sel_forest.specs.Covers.{IsBestCover}
use Rattle.sel_forest.specs.Postorder.{IsPostorderOf}
use Rattle.sel_forest.proofs.Roots.{plain_one}
use Rattle.sel_named.proofs.Cuts.{drop_read}
use Rattle.sel_check.proofs.Lists.{take_next}
use Rattle.sel_work.specs.declared.answer.Answer.{Answer}
use Rattle.sel_work.specs.declared.answer.Answer.TheVariants as answers
use Rattle.sel_work.specs.declared.answer.Goal.TheVariants as goals
use Rattle.sel_answers.specs.declared.named.NamedAnswer.{NamedAnswer}
use Rattle.sel_answers.specs.Output.{IsTreesAnswer, AreAnswers, IsTreesNamed, AreNamedAnswers, named_answer_text, named_answers_text}

pub named-append : (g : Grammar) (names : List (List ℕ)) (trees more : List Tree) (answers others : List NamedAnswer)
    → AreNamedAnswers g names trees answers → AreNamedAnswers g names more others → AreNamedAnswers g names (trees ++ more) (answers ++ others)
named-append g names [] more [] others h k = k
named-append g names [] more (a ∷ answers) others h k = absurd h
named-append g names (t ∷ trees) more [] others h k = absurd h
named-append g names (t ∷ trees) more (a ∷ answers) others h k = (h.0, named-append g names trees more answers others h.1 k)

pub named-length : (g : Grammar) (names : List (List ℕ)) (trees : List Tree) (answers : List NamedAnswer) → AreNamedAnswers g names trees answers → length answers ≡ length trees
named-length g names [] [] h = refl
named-length g names [] (a ∷ answers) h = absurd h
named-length g names (t ∷ trees) [] h = absurd h
named-length g names (t ∷ trees) (a ∷ answers) h = let e = named-length g names trees answers h.1 in omega arith

pub named_text-append : (second : Bool) (number : ℕ) (answers others : List NamedAnswer)
    → named_answers_text second number (answers ++ others) ≡ named_answers_text second number answers ++ named_answers_text second (number + length answers) others
named_text-append second number [] others = ap (λ n. named_answers_text second n others) (omega arith)
named_text-append second number (a ∷ answers) others =
    ap (λ l. named_answer_text second number a ++ l) (named_text-append second (number + 1) answers others)
    ∙ sym (append_assoc (named_answer_text second number a) (named_answers_text second (number + 1) answers) (named_answers_text second (number + 1 + length answers) others))
    ∙ ap (λ n. (named_answer_text second number a ++ named_answers_text second (number + 1) answers) ++ named_answers_text second n others) (omega arith)

-- the cover that is answered is the best one
pub answered_is_best : (g : Grammar) (tree : Tree) (answer : Answer) (cover : Cover) → answer ≡ answers.Cover cover → IsTreesAnswer g goals.Cover tree answer
    → (t : PlainTree) → IsPostorderOf tree t → IsBestCover g t cover
answered_is_best g tree answer cover is h t spelled =
    let k : IsTreesAnswer g goals.Cover tree (answers.Cover cover) = subst (IsTreesAnswer g goals.Cover tree) is h in
    subst (λ x. IsBestCover g x cover) (plain_one tree k.0 t k.1 spelled) k.2

-- ---- the walk over trees and their answers

-- there is an answer for the next tree
module _ (g : Grammar) (trees : List Tree) (i : ℕ) (tree : Tree) (inside : i < length trees) (is : tree ≡ slice_index_or trees i tree) where
  next_tree : drop i trees ≡ tree ∷ drop (i + 1) trees
  next_tree = drop_read trees i tree inside is

  pub next_answer : (answer : Answer) (behind : List Answer) → AreAnswers g goals.Cover (drop i trees) (answer ∷ behind)
      → IsTreesAnswer g goals.Cover tree answer × AreAnswers g goals.Cover (drop (i + 1) trees) behind
  next_answer answer behind h = subst (λ l. AreAnswers g goals.Cover l (answer ∷ behind)) next_tree h

  pub no_answer : {A : Type 0} → AreAnswers g goals.Cover (drop i trees) [] → A
  no_answer h = absurd (subst (λ l. AreAnswers g goals.Cover l []) next_tree h)

  pub one_more : (names : List (List ℕ)) (so_far : List NamedAnswer) (next : NamedAnswer) → AreNamedAnswers g names (take i trees) so_far → IsTreesNamed g names tree next
      → AreNamedAnswers g names (take (i + 1) trees) (so_far ++ next ∷ [])
  one_more names so_far next h k =
      subst (λ l. AreNamedAnswers g names l (so_far ++ next ∷ [])) (sym (take_next trees i tree inside is)) (named-append g names (take i trees) (tree ∷ []) so_far (next ∷ []) h (k, tt))

-- three pieces, put one behind the other
pub three_pieces : (before one two whole a b c : List ℕ) → one ≡ before ++ a → two ≡ one ++ b → whole ≡ two ++ c → whole ≡ before ++ (a ++ (b ++ c))
three_pieces before one two whole a b c p q r = r ∙ ap (λ l. l ++ c) (q ∙ ap (λ l. l ++ b) p) ∙ append_assoc (before ++ a) b c ∙ append_assoc before a (b ++ c)
