-- What is summed up so far of answers.
use Rattle.std.specs.Prelude.{◌≡◌, ℕ, ◌*◌, ◌<◌, ◌≤◌, List, length, count_by, pos, ◌-ℤ◌, ◌≤ℤ◌}
use Rattle.std.specs.List.{list_all}
use Rattle.sel_work.specs.declared.answer.Answer.{Answer}
use Rattle.sel_answers.specs.Output.{is_covered, is_uncovered, sum_of_costs}
use Rattle.sel_answers.specs.declared.sums.Sums.{Sums}
use Rattle.sel_answers.specs.declared.summing.Summing.{Summing}

-- these are no more than those of so many answers can be
pub record AreWithin (count : ℕ) (sums : Sums) : Type 0 where
  pub few : sums.uncovered ≤ count
  pub first_small : sums.first ≤ count * 18446744073709551615
  pub low : (pos 0 -ℤ pos (count * 9223372036854775808)) ≤ℤ sums.second
  pub high : sums.second ≤ℤ pos (count * 9223372036854775807)

-- those of one more answer are within so many
abbrev pub AreSmall : ℕ → Sums → Type 0
AreSmall most sums = (count : ℕ) × (count < most) × AreWithin count sums

-- the sums of these answers
pub record AreSums (sums : Sums) (answers : List Answer) : Type 0 where
  pub uncovered : sums.uncovered ≡ count_by is_uncovered answers
  pub first : sums.first ≡ (sum_of_costs answers).first
  pub second : sums.second ≡ (sum_of_costs answers).second
  pub within : AreWithin (length answers) sums

-- so many answers, whether each was a cover or a text, and their sums
pub record SumsUp (summing : Summing) (answers : List Answer) : Type 0 where
  pub count : summing.count ≡ length answers
  pub covered : list_all is_covered answers ≡ summing.covered
  pub sums : AreSums summing.sums answers
