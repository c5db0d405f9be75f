use Rattle.std.proofs.Common.{length, ap}
use Rattle.sel_answers.specs.Output.{cost_of}
use Rattle.sel_answers.proofs.MoreSums.{uncovered_of, uncovered_more, cost_more}
use Rattle.sel_answers.proofs.sums.Sums.with.Goals as goal

pub returns-in-NoCover : goal.returns-in-NoCover
returns-in-NoCover c = λ answers so_far.
    uncovered_more c.args.self _ answers _ c.in-NoCover.is so_far (c.with_uncovered.ensures.within (length answers) so_far.within) c.with_uncovered.ensures.exact

pub returns-in-Cover : goal.returns-in-Cover
returns-in-Cover c = λ answers so_far.
    cost_more c.args.self _ answers _ _ (ap uncovered_of c.in-Cover.is) (ap cost_of c.in-Cover.is) so_far (c.with_cost.ensures.within (length answers) so_far.within) c.with_cost.ensures.exact

pub returns-in-Text : goal.returns-in-Text
returns-in-Text c = λ answers so_far.
    cost_more c.args.self _ answers _ _ (ap uncovered_of c.in-Text.is) (ap cost_of c.in-Text.is) so_far (c.with_cost-in-Text.ensures.within (length answers) so_far.within) c.with_cost-in-Text.ensures.exact

pub returns-in-TooLong : goal.returns-in-TooLong
returns-in-TooLong c = λ answers so_far.
    cost_more c.args.self _ answers _ _ (ap uncovered_of c.in-TooLong.is) (ap cost_of c.in-TooLong.is) so_far (c.with_cost-in-TooLong.ensures.within (length answers) so_far.within) c.with_cost-in-TooLong.ensures.exact
