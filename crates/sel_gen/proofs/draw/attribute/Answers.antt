-- What a word gives is a lawful attribute.
use Rattle.std.proofs.Common.{arith, ◌/◌, ◌%◌}
use Rattle.sel_gen.proofs.Symbols.{symbol_lawful}
use Rattle.sel_gen.proofs.draw.attribute.Goals as goal

pub returns-in_ok-symbol-in-None-clause-lawful : goal.returns-in_ok-symbol-in-None-clause-lawful
returns-in_ok-symbol-in-None-clause-lawful c = symbol_lawful c.in_ok-symbol-in-None.symbol (c.args.word / 4 % 100) c.in_ok-symbol-in-None.ensures (omega arith)
