use Rattle.sel_full.proofs.Placing.{leaf_takes, one_takes, two_takes, number_two}
use Rattle.sel_full.proofs.automaton.FullAutomaton.number_of.Goals as goal

pub leaf_number-requires-clause-takes : goal.leaf_number-requires-clause-takes
leaf_number-requires-clause-takes c = leaf_takes c.args.self.now c.args.operator c.args.class c.args.kids.0 c.args.kids.1 c.requires.may c.in-None.is

pub one_number-requires-clause-takes : goal.one_number-requires-clause-takes
one_number-requires-clause-takes c = one_takes c.args.self.now c.args.operator c.args.class c.args.kids.0 c.args.kids.1 c.in-Some.first c.requires.may c.in-Some.is c.in-None-1₀.is

pub two_number-requires-clause-takes : goal.two_number-requires-clause-takes
two_number-requires-clause-takes c = two_takes c.args.self.now c.args.operator c.args.class c.args.kids.0 c.args.kids.1 c.in-Some.first c.in-Some-1₀.second c.requires.may c.in-Some.is c.in-Some-1₀.is

pub returns-in-Some-1₀ : goal.returns-in-Some-1₀
returns-in-Some-1₀ c =
    number_two c.args.self.now c.args.operator c.args.class c.args.kids.0 c.args.kids.1 c.in-Some.first c.in-Some-1₀.second _ _ _ c.requires.may c.in-Some.is c.in-Some-1₀.is c.number_in-in-Some-1₀.ensures
    c.number_in-in-Some-1₀-2.ensures c.two_number.ensures
