use Rattle.std.proofs.Common.{arith, sym, ◌∙◌}
use Rattle.sel_table.proofs.Decimals.{shortest_of, of_shortest}
use Rattle.sel_table.proofs.numbers.is_shortest.Goals as goal

pub returns-then-first-ne48 : goal.returns-then-first-ne48
returns-then-first-ne48 c =
    (λ t. shortest_of c.args.bytes.now c.in-Some.first.now c.in-Some.ensures.value (sym c.digits_len.ensures.len ∙ c.if-digits_len-bytes.true) (λ e. absurd (c.if-first-ne48.true e)), λ h. grind arith)

pub returns-else-digits_len-bytes : goal.returns-else-digits_len-bytes
returns-else-digits_len-bytes c =
    (λ t. absurd (grind arith), λ h. absurd (c.if-digits_len-bytes.false (c.digits_len.ensures.len ∙ of_shortest c.args.bytes.now h)))
