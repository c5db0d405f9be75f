use Rattle.sel_auto.proofs.private.PrivateAutomaton.keys.Goals as goal

pub returns-clause-follow : goal.returns-clause-follow
returns-clause-follow c = rw (← c.self.view_is) (c.self.invariant.transitions)
