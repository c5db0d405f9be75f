use Rattle.std.proofs.Common.{◌≡◌, length, ap, ◌∙◌, inr, sym, arith}
use Rattle.sel_answers.specs.Output.{AreLeast}
use Rattle.sel_cli.proofs.Checking.{least_count, least_told}
use Rattle.sel_cli.proofs.Writing.{this_written}
use Rattle.sel_cli.proofs.jobs.check.check_text.Goals as goal

pub least_output-requires : goal.least_output-requires
least_output-requires g c =
    let count : length c.as_slice.result.now ≡ length c.args.forest.now.trees =
    ap length c.as_slice.ensures ∙ least_count c.args.grammar.now c.args.forest.now.trees c.in-Ok.costs c.in-Ok.ensures.least in
    let few = c.requires.valid.few in
    record { few = omega (arith, count, few) }

pub returns-in-Ok-least_output : goal.returns-in-Ok-least_output
returns-in-Ok-least_output g c =
    inr (
      c.in-Ok.costs,
      c.in-Ok.ensures.ok,
      this_written (AreLeast c.args.grammar.now c.args.forest.now.trees) c.in-Ok-least_output.output.covered c.in-Ok-least_output.output.text.items
          (least_told c.args.grammar.now c.args.forest.now c.in-Ok.costs c.as_slice.result.now c.has_second_costs.result c.in-Ok-least_output.output.covered c.in-Ok-least_output.output.text.items
          c.requires.valid c.in-Ok.ensures.least c.as_slice.ensures c.has_second_costs.ensures c.in-Ok-least_output.ensures.text c.in-Ok-least_output.ensures.covered)
          _ _ c.write_output.result c.write_output.ensures.done,
    )
