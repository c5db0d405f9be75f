use Rattle.std.proofs.Common.{◌∙◌, ◌++◌, ap, codes}
use Rattle.sel_forest.proofs.Reprinting.{reprinted_line}
use Rattle.sel_forest.proofs.reprint.ReprinterTaker.end.Goals as goal

pub returns : goal.returns
returns c = λ g trees ts tree printed tokens line.
    reprinted_line g c.args.self.now.text.items c.push.new.self.items c.args.self.now.in_print trees ts tree printed tokens
    (c.in_ok-push.ensures.items ∙ ap (λ x. x ++ codes "\n") (c.in_ok-put_line.ensures ts line printed.small printed.print_is))
