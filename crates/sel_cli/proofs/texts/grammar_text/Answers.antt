use Rattle.std.proofs.Common.{Some, ap}
use Rattle.sel_words.specs.Names.{source_for, task_for}
use Rattle.sel_cli.proofs.Endings.{held_stops, held_reads}
use Rattle.sel_cli.proofs.texts.grammar_text.Goals as goal

pub returns-in-Held-clause-refused : goal.returns-in-Held-clause-refused
returns-in-Held-clause-refused g c = held_stops (task_for c.args.command) _ _ c.fetch.result (ap source_for c.in-Held.is) c.fetch.ensures.refused

pub returns-in-Held-clause-reads : goal.returns-in-Held-clause-reads
returns-in-Held-clause-reads g c = held_reads (task_for c.args.command) _ _ c.fetch.result (ap source_for c.in-Held.is) (c.fetch.ensures.reads (Some (task_for c.args.command)))
