use Rattle.std.proofs.Common.{List, ◌∷◌, ◌++◌, [], if◌then◌else◌, ap, ◌∙◌}
use Rattle.sel_items.specs.declared.items.Items.{Items}
use Rattle.sel_items.specs.Equality.{items_eq}
use Rattle.sel_full.specs.Reach.{IsOneOf}
use Rattle.sel_full.proofs.Finding.{absent}
use Rattle.sel_full.proofs.states.States.push.Goals as goal

pub returns-clause-ok : goal.returns-clause-ok
returns-clause-ok c =
    let keys : List Items = (c.self.inside.sets).keys in
    let none : IsOneOf keys c.args.items → ⊥ = rw c.self.view_is c.requires.new in
    let fresh = absent items_eq (λ x y h. (c.equal_are_same.ensures x y).0 h) keys c.args.items none in
    c.in_ok-insert.ensures.keys ∙ ap (λ b. if b then keys else keys ++ c.args.items ∷ []) fresh ∙ ap (λ ks. ks ++ c.args.items ∷ []) c.self.view_is
