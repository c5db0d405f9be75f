use Rattle.std.proofs.Common.{◌≡◌, ◌+◌, ◌++◌, drop}
use Rattle.sel_answers.specs.Output.{least_costs_text}
use Rattle.sel_answers.proofs.least.put_least_costs.Given as goal

abbrev pub invariant-costs : goal.invariant-costs
invariant-costs l = record {
  behind : l.number ≡ l.cost-index;
  rest : l.text.items ++ least_costs_text l.second (l.number + 1) (drop l.cost-index l.costs) ≡ l.initial.text.items ++ least_costs_text l.second 1 l.costs;
}
