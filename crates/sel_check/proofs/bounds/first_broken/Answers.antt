-- The nodes so far keep each rule.
use Rattle.std.proofs.Common.{arith, subst, below_more, false}
use Rattle.std.specs.Prelude.{IsTrue}
use Rattle.sel_check.proofs.bounds.first_broken.Goals as goal

pub loop-at-preserved : goal.loop-at-preserved
loop-at-preserved c =
    let yes : IsTrue c.keeps_rules.result = c.if-not-keeps_rules.false in
    below_more _ _ c.loop-at.invariant (c.keeps_rules.ensures.0 yes)

pub returns-then-not-keeps_rules : goal.returns-then-not-keeps_rules
returns-then-not-keeps_rules c = record {
  inside = omega arith;
  broken = λ w. let no : IsTrue false = subst IsTrue c.if-not-keeps_rules.true (c.keeps_rules.ensures.1 w) in absurd (cc);
  before = c.loop-at.invariant;
}
