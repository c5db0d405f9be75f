use Rattle.sel_auto.proofs.private.PrivateAutomaton.kept.Goals as goal

pub returns : goal.returns
returns c = rw (← c.self.view_is) c.get.ensures
