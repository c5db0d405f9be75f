use Rattle.std.proofs.Common.{◌≡◌, None, Option, ℕ, subst}
use Rattle.sel_full.specs.Automata.{FullTable}
use Rattle.sel_full.specs.Starts.{start_at}
use Rattle.sel_full.proofs.Placing.{start_found, start_missed}
use Rattle.sel_full.proofs.automaton.FullAutomaton.start_of.Goals as goal

pub returns-in-Some : goal.returns-in-Some
returns-in-Some c =
    subst (λ (t : FullTable). c.in-Some.start.now ≡ start_at t.normal t.states c.args.operator) c.self.view_is
    (start_found _ _ _ _ _ c.self.invariant.begin (c.in-Some.ensures.lookup.3).0 c.in-Some.ensures.lookup.1)

pub returns-in-None : goal.returns-in-None
returns-in-None c =
    subst (λ (t : FullTable). ◌≡◌ {A = Option ℕ} None (start_at t.normal t.states c.args.operator)) c.self.view_is
    (start_missed _ _ _ _ c.is_standing.ensures c.self.invariant.begin c.in-None.ensures.lookup.3)
