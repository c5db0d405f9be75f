-- A rule adds the step that it is.
use Rattle.std.proofs.Common.{◌≡◌, ◌<◌, ℕ, refl, sym, ap, Some, length}
use Rattle.sel_normal.specs.Reach.{IsFreeChain, Leads}
use Rattle.sel_normal.proofs.Steps.{one_step, no_step}
use Rattle.sel_normal.proofs.reach.set_step.Goals as goal

pub set_bit-requires-clause-to : goal.set_bit-requires-clause-to
set_bit-requires-clause-to c = c.requires.target c.in-Some.to ((c.in-Some.ensures c.in-Some.to).0 refl).0

pub returns-in-Some : goal.returns-in-Some
returns-in-Some c = one_step (Leads c.args.rows.now) (Leads c.set_bit.new.rows) (IsFreeChain c.args.rule.now) c.args.rule.now.left c.in-Some.to c.in-Some.ensures c.set_bit.ensures

pub returns-in_default : goal.returns-in_default
returns-in_default c = no_step (Leads c.args.rows.now) (IsFreeChain c.args.rule.now) c.args.rule.now.left (λ m h. c.in_default.not-Some m ((c.free_target.ensures m).1 h))
