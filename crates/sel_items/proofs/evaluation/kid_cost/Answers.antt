use Rattle.std.proofs.Common.{ap, sym, ◌∙◌, subst}
use Rattle.sel_items.specs.Entries.{item_at}
use Rattle.sel_items.specs.Evaluating.{IsBelowIn}
use Rattle.sel_items.specs.Follows.{item_cost}
use Rattle.sel_items.proofs.Widths.{cost_below}
use Rattle.sel_items.proofs.evaluation.kid_cost.Goals as goal

pub returns-clause-low : goal.returns-clause-low
returns-clause-low c =
    subst (IsBelowIn 46) (ap (λ xs. item_cost (item_at xs c.args.nonterminal)) (sym c.as_slice.ensures) ∙ sym c.cost_at.ensures)
    (cost_below 46 c.args.items.now.entries c.args.nonterminal c.requires.small)
