use Rattle.std.proofs.Common.{sym, ap, ◌∙◌, ◌+◌, drop}
use Rattle.sel_full.specs.Tables.{or_else, kids_by}
use Rattle.sel_full.proofs.Counts.{kids_next}
use Rattle.sel_full.proofs.places.kids_by.Goals as goal

pub returns-in-Some-clause-is : goal.returns-in-Some-clause-is
returns-in-Some-clause-is c =
    sym (c.loop-k.invariant ∙ (kids_next c.args.normal.now c.loop-k.k c.args.operator c.rule.result c.rule.ensures.is
    ∙ ap (λ o. or_else o (kids_by (drop (c.loop-k.k + 1) (c.args.normal.now).rules) c.args.operator)) (sym c.in-Some.ensures.is)))

pub loop-k-preserved : goal.loop-k-preserved
loop-k-preserved c =
    c.loop-k.invariant ∙ (kids_next c.args.normal.now c.loop-k.k c.args.operator c.rule.result c.rule.ensures.is
    ∙ ap (λ o. or_else o (kids_by (drop (c.loop-k.k + 1) (c.args.normal.now).rules) c.args.operator)) (sym c.in-None.ensures.is))
