use Rattle.std.proofs.Common.{subst}
use Rattle.sel_normal.specs.Standing.{IsStanding}
use Rattle.sel_full.specs.Automata.{FullTable}
use Rattle.sel_full.specs.Tables.{IsLawfulTable}
use Rattle.sel_full.proofs.automaton.FullAutomaton.is_lawful.Goals as goal

pub returns-clause-lawful : goal.returns-clause-lawful
returns-clause-lawful c = subst (λ (t : FullTable). IsLawfulTable t.normal t.states t.numbers) c.self.view_is c.self.invariant.lawful

pub returns-clause-standing : goal.returns-clause-standing
returns-clause-standing c = subst (λ (t : FullTable). IsStanding t.normal) c.self.view_is c.is_standing.ensures
