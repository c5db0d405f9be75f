use Rattle.std.proofs.Common.{None}
use Rattle.sel_words.specs.Words.{PrintGrammar}
use Rattle.sel_answers.specs.Output.{IsOutput}
use Rattle.sel_cli.proofs.Writing.{this_written}
use Rattle.sel_cli.proofs.jobs.print_grammar.print_grammar.Goals as goal

pub returns-in-Ok : goal.returns-in-Ok
returns-in-Ok g c = record {
  done = λ marks. this_written (IsOutput PrintGrammar c.args.grammar.now None marks) c.in-Ok.output.covered c.in-Ok.output.text.items (c.in-Ok.ensures marks) _ _ c.write_output.result c.write_output.ensures.done;
}
