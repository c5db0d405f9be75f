-- The sums of one more answer.
use Rattle.std.proofs.Common.{◌≡◌, ℕ, ◌+◌, List, [], ◌∷◌, ◌++◌, length, ap, sym, ◌∙◌, subst, arith, add-zero, ℤ, pos, ◌+ℤ◌}
use Rattle.std.specs.Prelude.{count_by}
use Rattle.std.proofs.lemmas.Int.{ints}
use Rattle.std.proofs.lemmas.List.{length_push}
use Rattle.std.proofs.lemmas.List.Sums.{sum_by-append}
use Rattle.sel_grammar.specs.Costs.{Cost}
use Rattle.sel_work.specs.declared.answer.Answer.{Answer}
use Rattle.sel_work.specs.declared.answer.Answer.TheVariants.{NoCover}
use Rattle.sel_answers.specs.Output.{is_uncovered, cost_of, sum_of_costs}
use Rattle.sel_answers.specs.Summing.{AreWithin, AreSums}
use Rattle.sel_answers.specs.declared.sums.Sums.{Sums}

first_more : (answers : List Answer) (answer : Answer) → (sum_of_costs (answers ++ answer ∷ [])).first ≡ (sum_of_costs answers).first + (cost_of answer).first
first_more [] answer = omega arith
first_more (a ∷ answers) answer = let h = first_more answers answer in omega arith

second_more : (answers : List Answer) (answer : Answer) → (sum_of_costs (answers ++ answer ∷ [])).second ≡ (sum_of_costs answers).second +ℤ (cost_of answer).second
second_more [] answer = omega (arith, ints)
second_more (a ∷ answers) answer = let h = second_more answers answer in omega (arith, ints)

-- how many answers of one are no cover
abbrev pub uncovered_of : Answer → ℕ
uncovered_of answer = count_by is_uncovered (answer ∷ [])

pub sums_more : (sums next : Sums) (answers : List Answer) (answer : Answer) → AreSums sums answers → AreWithin (length answers + 1) next
    → next.uncovered ≡ sums.uncovered + uncovered_of answer → next.first ≡ sums.first + (cost_of answer).first → next.second ≡ sums.second +ℤ (cost_of answer).second
    → AreSums next (answers ++ answer ∷ [])
sums_more sums next answers answer so_far within uncovered first second = record {
  uncovered = uncovered ∙ ap (λ n. n + uncovered_of answer) so_far.uncovered ∙ sym (sum_by-append _ answers (answer ∷ []));
  first = first ∙ ap (λ n. n + (cost_of answer).first) so_far.first ∙ sym (first_more answers answer);
  second = second ∙ ap (λ n. n +ℤ (cost_of answer).second) so_far.second ∙ sym (second_more answers answer);
  within = subst (λ n. AreWithin n next) (sym (length_push answers answer)) within;
}

pub uncovered_more : (sums next : Sums) (answers : List Answer) (answer : Answer) → answer ≡ NoCover → AreSums sums answers → AreWithin (length answers + 1) next
    → next ≡ record { uncovered = sums.uncovered + 1; first = sums.first; second = sums.second } → AreSums next (answers ++ answer ∷ [])
uncovered_more sums next answers answer is so_far within exact =
    subst (λ a. AreSums next (answers ++ a ∷ [])) (sym is) (sums_more sums next answers NoCover so_far within
    (ap (λ (s : Sums). s.uncovered) exact) (ap (λ (s : Sums). s.first) exact ∙ sym (add-zero sums.first)) (ap (λ (s : Sums). s.second) exact ∙ same sums.second))
  where
    same : (z : ℤ) → z ≡ z +ℤ pos 0
    same z = omega (arith, ints)

pub cost_more : (sums next : Sums) (answers : List Answer) (answer : Answer) (cost : Cost) → uncovered_of answer ≡ 0 → cost_of answer ≡ cost
    → AreSums sums answers → AreWithin (length answers + 1) next
    → next ≡ record { uncovered = sums.uncovered; first = sums.first + cost.first; second = sums.second +ℤ cost.second } → AreSums next (answers ++ answer ∷ [])
cost_more sums next answers answer cost none is so_far within exact =
    sums_more sums next answers answer so_far within
    (ap (λ (s : Sums). s.uncovered) exact ∙ sym (add-zero sums.uncovered) ∙ ap (λ n. sums.uncovered + n) (sym none))
    (ap (λ (s : Sums). s.first) exact ∙ ap (λ (c : Cost). sums.first + c.first) (sym is))
    (ap (λ (s : Sums). s.second) exact ∙ ap (λ (c : Cost). sums.second +ℤ c.second) (sym is))
