use Rattle.sel_grammar_print.proofs.RoundTrip.{read_again}
use Rattle.sel_grammar_print.proofs.print_laws.printed_is_read.Goals as goal

pub returns : goal.returns
returns c = read_again
