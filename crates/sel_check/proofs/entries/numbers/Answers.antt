use Rattle.std.proofs.Common.{sym, subst, ◌≡◌}
use Rattle.sel_check.specs.LineReading.{AreNumbers, numbers_text}
use Rattle.sel_check.proofs.Items.{number_wrong, numbers_read, numbers_next}
use Rattle.sel_check.proofs.entries.numbers.Goals as goal

pub returns-in_default-clause-read : goal.returns-in_default-clause-read
returns-in_default-clause-read c = number_wrong c.args.bytes.now _ _ _ _ c.first_part-cut.ensures.lacks c.first_part-cut.ensures.whole c.parts.invariant c.in_default.ensures

pub returns-in_default-rest-clause-read : goal.returns-in_default-rest-clause-read
returns-in_default-rest-clause-read c =
    subst (λ r. AreNumbers r × (c.args.bytes.now ≡ numbers_text r)) (sym c.from_vec.ensures)
    (numbers_read c.args.bytes.now _ _ _ _ c.first_part-cut.ensures.lacks c.first_part-cut.ensures.whole c.parts.invariant c.in-Some.rule c.push.new.self.items c.in-Some.ensures.1 c.in-Some.ensures.0 c.in_ok-push.ensures.items c.in_default-rest.is)

pub parts-preserved : goal.parts-preserved
parts-preserved c =
    numbers_next c.args.bytes.now _ _ _ _ c.first_part-cut.ensures.lacks c.first_part-cut.ensures.whole c.parts.invariant c.in-Some.rule c.push.new.self.items c.in-Some.ensures.1 c.in-Some.ensures.0 c.in_ok-push.ensures.items
    c.in-Some-rest.behind c.in-Some-rest.is
