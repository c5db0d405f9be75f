-- Walks through more and more nonterminals.
use Rattle.std.proofs.Common.{◌≡◌, ◌<◌, ◌≤◌, ◌⊎◌, ℕ, refl, sym, ap, ◌∙◌, Some, length, slice_get, arith}
use Rattle.sel_normal.specs.Reach.{Leads}
use Rattle.sel_normal.proofs.Closing.{IsReach, reach_first, reach_more, reach_all}
use Rattle.sel_normal.proofs.Steps.{step_left}
use Rattle.sel_normal.proofs.reach.set_walks.Goals as goal

pub loop-through-init : goal.loop-through-init
loop-through-init c = reach_first c.args.grammar.now (Leads c.args.rows.now) (Leads c.set_steps.new.rows) c.requires.empty c.set_steps.ensures

pub loop-through-preserved : goal.loop-through-preserved
loop-through-preserved c = reach_more c.args.grammar.now c.loop-through.through (Leads c.loop-through.rows) (Leads c.lead_through.new.rows) c.loop-through.invariant c.lead_through.ensures

pub returns : goal.returns
returns c =
    let a = c.set_steps.auto.rows in
    let long = c.requires.long in
    let h = c.loop-through-test.false in
    reach_all c.args.grammar.now c.loop-through.through (Leads c.loop-through.rows) c.loop-through.invariant
    (λ r n m s. (let l = step_left c.args.grammar.now c.requires.lawful r n m s in omega arith))
