use Rattle.sel_cli.proofs.Summaries.{nothing_summed, summed_up}
use Rattle.sel_cli.proofs.jobs.summary.write_summary.Goals as goal

pub returns-in-Err : goal.returns-in-Err
returns-in-Err g c = λ settings trees valid sums answered. nothing_summed c.args.accepted.now.grammar settings trees _ c.without.result c.without.ensures

pub returns-in-Ok-into_output : goal.returns-in-Ok-into_output
returns-in-Ok-into_output g c = λ settings trees valid sums answered.
    summed_up c.tables_are_told.ensures c.args.accepted.now.grammar settings trees c.args.sums c.in-Ok.report c.has_second_costs-second.result c.in-Ok-into_output.output.covered c.in-Ok-into_output.output.text.items _ _ c.write_output.result
    valid sums (c.in-Ok.ensures c.args.accepted.now.grammar settings trees valid answered) c.has_second_costs-second.ensures c.in-Ok-into_output.ensures.text c.in-Ok-into_output.ensures.covered c.write_output.ensures.done

pub returns-in-Err-into_output : goal.returns-in-Err-into_output
returns-in-Err-into_output g c = λ settings trees valid sums answered.
    nothing_summed c.args.accepted.now.grammar settings trees _ c.without-in-Err-into_output.result c.without-in-Err-into_output.ensures
