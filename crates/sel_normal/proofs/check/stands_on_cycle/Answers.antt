-- Where the rule leads, and whether that leads back.
use Rattle.std.proofs.Common.{◌≡◌, ◌<◌, ◌⊎◌, ℕ, refl, length}
use Rattle.sel_normal.specs.Reach.{IsFreeChain, Leads}
use Rattle.sel_normal.proofs.Faulty.{cycle_some, cycle_none}
use Rattle.sel_normal.proofs.check.stands_on_cycle.Goals as goal

pub leads_back-requires-clause-from : goal.leads_back-requires-clause-from
leads_back-requires-clause-from c = c.requires.target c.in-Some.to ((c.in-Some.ensures c.in-Some.to).0 refl)

pub returns-in-Some : goal.returns-in-Some
returns-in-Some c = cycle_some c.in-Some.to _ (IsFreeChain c.args.rule.now) (λ m. (m ≡ c.args.rule.now.left) ⊎ Leads c.args.leads.now m c.args.rule.now.left) c.in-Some.ensures c.leads_back.ensures

pub returns-in-None : goal.returns-in-None
returns-in-None c = cycle_none (IsFreeChain c.args.rule.now) (λ m. (m ≡ c.args.rule.now.left) ⊎ Leads c.args.leads.now m c.args.rule.now.left) c.in-None.ensures
