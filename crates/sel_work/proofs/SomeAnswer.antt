-- A tree has an answer: its item set tells whether anything derives it, and the best derivation if so.
use Rattle.std.proofs.Common.{◌≡◌, ℕ, ◌<◌, ◌≤◌, ◌⊎◌, inl, inr, Option, Some, None, length, refl, arith}
use Rattle.sel_grammar.specs.declared.grammar.Grammar.{Grammar}
use Rattle.sel_grammar.specs.Lawful.{IsLawful}
use Rattle.sel_grammar.specs.PlainTrees.{PlainTree}
use Rattle.sel_grammar.specs.Derivations.{cost, list}
use Rattle.sel_grammar.specs.Expansions.{expanded_bytes}
use Rattle.sel_items.specs.declared.items.Item.{Item}
use Rattle.sel_items.specs.Entries.{item_at}
use Rattle.sel_items.specs.ItemsOf.{IsBestItem, SymbolMeans}
use Rattle.sel_items.specs.Laws.{ItemsExist}
use Rattle.sel_expand.specs.Expanding.{longest_text}
use Rattle.sel_work.specs.declared.answer.Answer.{Answer}
use Rattle.sel_work.specs.declared.answer.Answer.TheVariants.{NoCover, Text, TooLong}
use Rattle.sel_work.specs.declared.answer.Answer.TheVariants as answers
use Rattle.sel_work.specs.declared.answer.Goal.{Goal}
use Rattle.sel_work.specs.declared.answer.Goal.TheVariants as goals
use Rattle.sel_work.specs.Answers.{IsTreeAnswer}
use Rattle.sel_work.specs.Laws.{AnswerExists}

short_or_long : (n : ℕ) → (n ≤ longest_text) ⊎ (longest_text < n)
short_or_long n = grind arith

best_answer : (g : Grammar) (goal : Goal) (t : PlainTree) (item : Item) → IsBestItem g g.start t item → (a : Answer) × IsTreeAnswer g goal t a
best_answer g goals.Cover t item b = (answers.Cover (record { cost = cost g b.best; rules = list b.best }), record { best = b.best; is_best = b.is_best; cost_is = refl; rules_are = refl })
best_answer g goals.Text t item b = by (short_or_long (length (expanded_bytes g b.best t)))
  where
    by : (length (expanded_bytes g b.best t) ≤ longest_text) ⊎ (longest_text < length (expanded_bytes g b.best t)) → (a : Answer) × IsTreeAnswer g goals.Text t a
    by (inl fits) = (Text (cost g b.best) (expanded_bytes g b.best t), record { best = b.best; is_best = b.is_best; cost_is = refl; text_is = refl; fits = fits })
    by (inr long) = (TooLong (cost g b.best), record { best = b.best; is_best = b.is_best; cost_is = refl; too_long = long })

answer_by : (g : Grammar) (goal : Goal) (t : PlainTree) (entry : Option Item) → SymbolMeans g g.start t entry → (a : Answer) × IsTreeAnswer g goal t a
answer_by g goal t None none = (NoCover, none_answer goal)
  where
    none_answer : (x : Goal) → IsTreeAnswer g x t NoCover
    none_answer goals.Cover = none
    none_answer goals.Text = none
answer_by g goal t (Some item) best = best_answer g goal t item best

pub some_answer : ItemsExist → AnswerExists
some_answer exist g goal t lawful accepted =
    let (items, set) = exist g t lawful accepted in
    answer_by g goal t (item_at set.absolute g.start) (set.symbols g.start (lawful.within).start)
