-- A tree has one answer for a goal.
use Rattle.std.proofs.Common.{◌≡◌, ℕ, ◌≤◌, List, length, refl, sym, ap, subst, ◌∙◌, arith}
use Rattle.sel_grammar.specs.declared.grammar.Grammar.{Grammar}
use Rattle.sel_grammar.specs.Costs.{Cost}
use Rattle.sel_grammar.specs.PlainTrees.{PlainTree}
use Rattle.sel_grammar.specs.Derivations.{Derivation, cost, list}
use Rattle.sel_grammar.specs.Best.{IsBest, HasNone}
use Rattle.sel_grammar.specs.Expansions.{expanded_bytes}
use Rattle.sel_grammar.proofs.One.{best_one}
use Rattle.sel_forest.specs.declared.forest.Cover.{Cover}
use Rattle.sel_forest.specs.Covers.{IsBestCover}
use Rattle.sel_expand.specs.Expanding.{longest_text}
use Rattle.sel_work.specs.declared.answer.Answer.{Answer}
use Rattle.sel_work.specs.declared.answer.Answer.TheVariants.{NoCover, Text, TooLong}
use Rattle.sel_work.specs.declared.answer.Answer.TheVariants as answers
use Rattle.sel_work.specs.declared.answer.Goal.TheVariants as goals
use Rattle.sel_work.specs.Answers.{IsBestText, IsBestTooLong, IsTreeAnswer}
use Rattle.sel_work.specs.Laws.{AnswerIsOne}

-- a tree that has a best derivation has some
none_and_best : {A : Type 0} (g : Grammar) (t : PlainTree) (d : Derivation) → HasNone g g.start t → IsBest g d g.start t → A
none_and_best g t d none best = absurd (none d best.derives)

same_cost : (g : Grammar) (t : PlainTree) (d e : Derivation) (a b : Cost) → IsBest g d g.start t → IsBest g e g.start t → a ≡ cost g d → b ≡ cost g e → a ≡ b
same_cost g t d e a b p q c k = c ∙ ap (λ x. cost g x) (best_one g g.start t d e p q) ∙ sym k

same_cover : (g : Grammar) (t : PlainTree) (a b : Cover) → IsBestCover g t a → IsBestCover g t b → a ≡ b
same_cover g t a b p q =
    let costs : a.cost ≡ b.cost = same_cost g t p.best q.best a.cost b.cost p.is_best q.is_best p.cost_is q.cost_is in
    let rules : a.rules ≡ b.rules = p.rules_are ∙ ap (λ x. list x) (best_one g g.start t p.best q.best p.is_best q.is_best) ∙ sym q.rules_are in
    let made : Cost → List ℕ → Cover = λ c l. record { cost = c; rules = l } in
    ap (λ c. made c a.rules) costs ∙ ap (λ l. made b.cost l) rules

same_text : (g : Grammar) (t : PlainTree) (c k : Cost) (x y : List ℕ) → IsBestText g t c x → IsBestText g t k y → Text c x ≡ Text k y
same_text g t c k x y p q =
    let costs : c ≡ k = same_cost g t p.best q.best c k p.is_best q.is_best p.cost_is q.cost_is in
    let texts : x ≡ y = p.text_is ∙ ap (λ d. expanded_bytes g d t) (best_one g g.start t p.best q.best p.is_best q.is_best) ∙ sym q.text_is in
    ap (λ c. Text c x) costs ∙ ap (λ l. Text k l) texts

same_too_long : (g : Grammar) (t : PlainTree) (c k : Cost) → IsBestTooLong g t c → IsBestTooLong g t k → TooLong c ≡ TooLong k
same_too_long g t c k p q = ap (λ c. TooLong c) (same_cost g t p.best q.best c k p.is_best q.is_best p.cost_is q.cost_is)

-- no text is both short enough and too long
text_and_too_long : {A : Type 0} (g : Grammar) (t : PlainTree) (c k : Cost) (x : List ℕ) → IsBestText g t c x → IsBestTooLong g t k → A
text_and_too_long g t c k x p q =
    let texts : x ≡ expanded_bytes g q.best t = p.text_is ∙ ap (λ d. expanded_bytes g d t) (best_one g g.start t p.best q.best p.is_best q.is_best) in
    let fits : length (expanded_bytes g q.best t) ≤ longest_text = subst (λ l. length l ≤ longest_text) texts p.fits in
    let too_long = q.too_long in
    absurd (omega arith)

one_of_cover : (g : Grammar) (t : PlainTree) (a b : Answer) → IsTreeAnswer g goals.Cover t a → IsTreeAnswer g goals.Cover t b → a ≡ b
one_of_cover g t NoCover NoCover p q = refl
one_of_cover g t NoCover (answers.Cover cover) p q = none_and_best g t q.best p q.is_best
one_of_cover g t NoCover (Text c text) p q = absurd q
one_of_cover g t NoCover (TooLong c) p q = absurd q
one_of_cover g t (answers.Cover cover) NoCover p q = none_and_best g t p.best q p.is_best
one_of_cover g t (answers.Cover cover) (answers.Cover other) p q = ap (λ x. answers.Cover x) (same_cover g t cover other p q)
one_of_cover g t (answers.Cover cover) (Text c text) p q = absurd q
one_of_cover g t (answers.Cover cover) (TooLong c) p q = absurd q
one_of_cover g t (Text c text) b p q = absurd p
one_of_cover g t (TooLong c) b p q = absurd p

one_of_text : (g : Grammar) (t : PlainTree) (a b : Answer) → IsTreeAnswer g goals.Text t a → IsTreeAnswer g goals.Text t b → a ≡ b
one_of_text g t NoCover NoCover p q = refl
one_of_text g t NoCover (answers.Cover cover) p q = absurd q
one_of_text g t NoCover (Text c text) p q = none_and_best g t q.best p q.is_best
one_of_text g t NoCover (TooLong c) p q = none_and_best g t q.best p q.is_best
one_of_text g t (answers.Cover cover) b p q = absurd p
one_of_text g t (Text c text) NoCover p q = none_and_best g t p.best q p.is_best
one_of_text g t (Text c text) (answers.Cover cover) p q = absurd q
one_of_text g t (Text c text) (Text k other) p q = same_text g t c k text other p q
one_of_text g t (Text c text) (TooLong k) p q = text_and_too_long g t c k text p q
one_of_text g t (TooLong c) NoCover p q = none_and_best g t p.best q p.is_best
one_of_text g t (TooLong c) (answers.Cover cover) p q = absurd q
one_of_text g t (TooLong c) (Text k text) p q = text_and_too_long g t k c text q p
one_of_text g t (TooLong c) (TooLong k) p q = same_too_long g t c k p q

pub answer_one : AnswerIsOne
answer_one g goals.Cover t a b p q = one_of_cover g t a b p q
answer_one g goals.Text t a b p q = one_of_text g t a b p q
