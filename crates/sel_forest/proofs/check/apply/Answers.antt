-- The rule fits, and its goals are put on the stack.
use Rattle.std.proofs.Common.{refl, sym, ◌∙◌}
use Rattle.sel_forest.proofs.check.apply.Goals as goal

pub returns-in_ok-push_goals : goal.returns-in_ok-push_goals
returns-in_ok-push_goals c = record {
  is = record {
    rule = c.in-Some.rule.now;
    numbered = sym c.in-Some.ensures;
    left = c.if-rule-goal.true;
    fits = sym c.fits_at.ensures ∙ c.if-fits_at.true;
  };
  pushes = c.in_ok-push_goals.ensures;
  cost_is = refl;
}
