use Rattle.std.proofs.Common.{codes, decimal}
use Rattle.sel_answers.proofs.Naming.{three_pieces}
use Rattle.sel_answers.proofs.named.put_needs.Goals as goal

pub returns : goal.returns
returns c =
    three_pieces c.args.text.now.items c.put.new.text.items c.put_number.new.text.items c.put-2.new.text.items (codes " needs ") (decimal c.args.needs) (codes " registers\n")
    c.in_ok-put.ensures c.in_ok-put_number.ensures c.in_ok-put-2.ensures
