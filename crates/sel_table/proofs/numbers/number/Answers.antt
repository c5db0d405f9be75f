use Rattle.std.proofs.Common.{sym, ◌∙◌, true≢false}
use Rattle.sel_table.proofs.Decimals.{number_read, number_none}
use Rattle.sel_table.proofs.numbers.number.Goals as goal

pub returns-then-is_shortest : goal.returns-then-is_shortest
returns-then-is_shortest c =
    number_read c.args.bytes.now c.args.limit c.ranges.limit.fits (c.is_shortest.ensures.0 c.if-is_shortest.true) c.number.result c.number.ensures

pub returns-else-is_shortest : goal.returns-else-is_shortest
returns-else-is_shortest c = number_none c.args.bytes.now c.args.limit c.ranges.limit.fits (λ h. absurd (true≢false (sym (c.is_shortest.ensures.1 h) ∙ c.if-is_shortest.false)))
