-- What is to be answered of a tree.
use Rattle.std.specs.Prelude.{◌≡◌, ℕ, ◌<◌, ◌≤◌, List, length}
use Rattle.sel_grammar.specs.declared.grammar.Grammar.{Grammar}
use Rattle.sel_grammar.specs.Costs.{Cost}
use Rattle.sel_grammar.specs.PlainTrees.{PlainTree}
use Rattle.sel_grammar.specs.Derivations.{Derivation, cost}
use Rattle.sel_grammar.specs.Best.{IsBest, HasNone}
use Rattle.sel_grammar.specs.Expansions.{expanded_bytes}
use Rattle.sel_forest.specs.Covers.{IsBestCover}
use Rattle.sel_expand.specs.Expanding.{longest_text}
use Rattle.sel_work.specs.declared.answer.Answer.{Answer}
use Rattle.sel_work.specs.declared.answer.Answer.TheVariants.{NoCover, Text, TooLong}
use Rattle.sel_work.specs.declared.answer.Answer.TheVariants as answers
use Rattle.sel_work.specs.declared.answer.Goal.{Goal}
use Rattle.sel_work.specs.declared.answer.Goal.TheVariants as goals

-- the cost of the tree's best derivation from the start symbol, and the text that it expands to, which isn't too long
pub record IsBestText (g : Grammar) (t : PlainTree) (c : Cost) (text : List ℕ) : Type 0 where
  pub best : Derivation
  pub is_best : IsBest g best g.start t
  pub cost_is : c ≡ cost g best
  pub text_is : text ≡ expanded_bytes g best t
  pub fits : length text ≤ longest_text

-- the cost of the tree's best derivation from the start symbol, which expands to more bytes than a text may have
pub record IsBestTooLong (g : Grammar) (t : PlainTree) (c : Cost) : Type 0 where
  pub best : Derivation
  pub is_best : IsBest g best g.start t
  pub cost_is : c ≡ cost g best
  pub too_long : longest_text < length (expanded_bytes g best t)

-- The answer of a tree for a goal: that nothing derives the tree from the start symbol, or what is asked of the best derivation.
abbrev pub IsTreeAnswer : Grammar → Goal → PlainTree → Answer → Type 0
IsTreeAnswer g goal t NoCover = HasNone g g.start t
IsTreeAnswer g goals.Cover t (answers.Cover cover) = IsBestCover g t cover
IsTreeAnswer g goals.Text t (Text c text) = IsBestText g t c text
IsTreeAnswer g goals.Text t (TooLong c) = IsBestTooLong g t c
IsTreeAnswer g _ t _ = ⊥
