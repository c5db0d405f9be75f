use Rattle.std.proofs.Common.{Some, refl, ap}
use Rattle.sel_words.specs.Names.{task_for, job_for}
use Rattle.sel_words.specs.Words.{grammar_name}
use Rattle.sel_cli.specs.Reporting.{nothing_reported}
use Rattle.sel_cli.proofs.Serving.{stop_serves, job_serves, then_serves, serves_as, grammar_printed}
use Rattle.sel_cli.proofs.jobs.serve.Goals as goal

pub returns-in-Err-clause-served : goal.returns-in-Err-clause-served
returns-in-Err-clause-served g c =
    let task = task_for c.args.command in
    serves_as (Some task) _ _ _ _ c.args.command.grammar.now _ c.in-Err.status _ nothing_reported _ c.without.ensures.name c.without.ensures.status c.without.ensures.report
    (stop_serves (Some task) (grammar_name task) c.args.command.grammar.now _ _ _ c.in-Err.status nothing_reported refl c.in-Err.ensures.refused c.in-Err.ensures.reads)

pub returns-in-PrintGrammar-clause-served : goal.returns-in-PrintGrammar-clause-served
returns-in-PrintGrammar-clause-served g c =
    let task = task_for c.args.command in
    let status = c.print_grammar.result in
    serves_as (Some task) _ _ _ _ c.args.command.grammar.now _ status _ nothing_reported _ c.without-in-PrintGrammar.ensures.name c.without-in-PrintGrammar.ensures.status c.without-in-PrintGrammar.ensures.report
    (job_serves c.in-Ok.accepted task _ c.in-Ok.accepted.grammar c.args.command.grammar.now _ _ _ _ status nothing_reported (ap (job_for c.args.command.settings) c.in-PrintGrammar.is) refl refl c.in-Ok.ensures.accepted c.in-Ok.ensures.reads
    (grammar_printed c.args.command.settings c.in-Ok.accepted.grammar _ _ status nothing_reported refl c.print_grammar.ensures.done))

pub returns-in-Make-clause-served : goal.returns-in-Make-clause-served
returns-in-Make-clause-served g c =
    let task = task_for c.args.command in
    serves_as (Some task) _ _ _ _ c.args.command.grammar.now _ c.make.result.status _ c.make.result.report _ c.of.ensures.name c.of.ensures.status c.of.ensures.report
    (job_serves c.in-Ok.accepted task _ c.in-Ok.accepted.grammar c.args.command.grammar.now _ _ _ _ c.make.result.status c.make.result.report (ap (job_for c.args.command.settings) c.in-Make.is) refl refl c.in-Ok.ensures.accepted c.in-Ok.ensures.reads c.make.ensures)

pub returns-in-OverForest-clause-served : goal.returns-in-OverForest-clause-served
returns-in-OverForest-clause-served g c =
    let task = task_for c.args.command in
    then_serves c.in-Ok.accepted (Some task) (grammar_name task) _ _ _ _ _ _ c.serve_forest.result.status c.serve_forest.result.report c.in-Ok.ensures.reads c.serve_forest.ensures.served

pub returns-in-Regs-clause-served : goal.returns-in-Regs-clause-served
returns-in-Regs-clause-served g c =
    let task = task_for c.args.command in
    then_serves c.in-Ok.accepted (Some task) (grammar_name task) _ _ _ _ _ _ c.serve_registers.result.status c.serve_registers.result.report c.in-Ok.ensures.reads c.serve_registers.ensures.served

pub returns-clause-served : goal.returns-clause-served
returns-clause-served g c =
    let task = task_for c.args.command in
    then_serves c.in-Ok.accepted (Some task) (grammar_name task) _ _ _ _ _ _ c.serve_check.result.status c.serve_check.result.report c.in-Ok.ensures.reads c.serve_check.ensures.served
