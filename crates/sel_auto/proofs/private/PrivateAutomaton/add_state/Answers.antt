use Rattle.std.proofs.Common.{subst, sym}
use Rattle.sel_auto.specs.Tables.{Tables, AreLawful, with_state}
use Rattle.sel_auto.proofs.Lawful.{lawful_state}
use Rattle.sel_auto.proofs.private.PrivateAutomaton.add_state.Goals as goal

pub invariant_of-self-2 : goal.invariant_of-self-2
invariant_of-self-2 c =
    let lawful : AreLawful c.args.self.now = subst AreLawful c.self.view_is c.self.invariant in
    rw c.in_ok-push.ensures.ok (subst (λ (t : Tables). AreLawful (with_state t c.args.items)) (sym c.self.view_is) (lawful_state c.args.self.now c.args.items lawful c.requires.fresh c.requires.room))
