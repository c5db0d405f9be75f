use Rattle.std.proofs.Common.{ℕ, ◌<◌, ◌∷◌, ◌++◌, [], length, subst, sym, arith}
use Rattle.sel_auto.specs.Tables.{Tables, IsKept, AreLawful}
use Rattle.sel_auto.proofs.Lawful.{lawful_key}
use Rattle.sel_auto.proofs.private.PrivateAutomaton.keep.Goals as goal

pub push-requires : goal.push-requires
push-requires c = record { new = subst (λ (t : Tables). (n : ℕ) → IsKept t c.args.key n → ⊥) (sym c.self.view_is) c.requires.fresh }

pub invariant_of-self : goal.invariant_of-self
invariant_of-self c =
    let lawful : AreLawful c.args.self.now = subst AreLawful c.self.view_is c.self.invariant in
    let here : length c.self.inside.transitions < c.self.inside.most_keys = omega (arith, c.len.ensures) in
    let room : length (c.args.self.now).keys < (c.args.self.now).most_keys = subst (λ (t : Tables). length t.keys < t.most_keys) c.self.view_is here in
    rw c.in_ok-push.ensures.ok (subst (λ (t : Tables). AreLawful (record t { keys = t.keys ++ (c.args.key, c.args.number) ∷ [] })) (sym c.self.view_is) (lawful_key c.args.self.now c.args.key c.args.number lawful room c.requires.fresh c.requires.follows))
