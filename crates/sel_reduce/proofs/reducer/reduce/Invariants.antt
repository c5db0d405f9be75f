-- The rules so far and those for the goals of the stack make the best list. Each turn writes a rule, or takes a helper's for a smaller part.
use Rattle.std.proofs.Common.{◌≡◌, ◌+◌, ◌-◌, ◌*◌, ◌^◌, length, vec_len}
use Rattle.sel_items.specs.Automata.{IsRead}
use Rattle.sel_reduce.specs.Goals.{IsHalfReduced}
use Rattle.sel_reduce.proofs.Weights.{weights}
use Rattle.sel_reduce.proofs.reducer.reduce.Given as goal

abbrev pub invariant-loop-goal : goal.invariant-loop-goal
invariant-loop-goal g l = record {
  half : IsHalfReduced l.grammar l.nodes (record { at = length l.nodes - 1; nonterminal = (l.grammar).start }) l.walk.rules.items l.walk.cost l.walk.goals.items;
  fixed : g.A.Automaton.fixed l.automaton ≡ g.A.Automaton.fixed l.fn.automaton;
  read : IsRead (g.A.Automaton.told l.fn.automaton) (g.A.Automaton.told l.automaton);
}

abbrev pub decreases-loop-goal : goal.decreases-loop-goal
decreases-loop-goal g l = 64 * (2 ^ 64 - vec_len l.walk.rules) + weights l.grammar l.walk.goals.items
