use Rattle.sel_full.proofs.Placing.{labelled}
use Rattle.sel_full.proofs.automaton.FullAutomatonAutomaton.label.Goals as goal

pub returns-clause-labelled : goal.returns-clause-labelled
returns-clause-labelled g c = λ is kids. labelled c.args.self.now _ _ _ _ is _ c.requires.may kids (c.number_of.ensures is kids)
