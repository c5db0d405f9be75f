use Rattle.sel_grammar.proofs.LawfulCosts.{lawful_costs}
use Rattle.sel_grammar.proofs.laws.lawful_costs.Goals as goal

pub returns : goal.returns
returns c = lawful_costs
