-- One or two digits are put byte by byte.
use Rattle.std.proofs.Common.{◌+◌, ◌/◌, ◌%◌, refl, arith}
use Rattle.sel_answers.proofs.Digits.{one_digit, two_digits}
use Rattle.sel_answers.proofs.answers.put_rule.Goals as goal

pub returns-in_ok-push : goal.returns-in_ok-push
returns-in_ok-push c = one_digit c.args.text.now.items c.push.new.self.items c.args.rule (48 + c.args.rule) (omega (arith, c.if-rule-lt10.true)) refl c.in_ok-push.ensures.items

pub returns-in_ok-push-3 : goal.returns-in_ok-push-3
returns-in_ok-push-3 c =
    two_digits c.args.text.now.items c.push-then-rule-lt100.new.self.items c.push-then-rule-lt100-2.new.self.items c.args.rule (48 + c.args.rule / 10) (48 + c.args.rule % 10)
    (omega (arith, c.if-rule-lt10.false)) (omega (arith, c.if-rule-lt100.true)) refl refl c.in_ok-push-2.ensures.items c.in_ok-push-3.ensures.items
