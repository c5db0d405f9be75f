use Rattle.std.proofs.Common.{◌≡◌, Some, List, refl, sym, ap, ◌∙◌}
use Rattle.sel_items.specs.declared.items.Items.{Items}
use Rattle.sel_items.specs.Equality.{items_eq}
use Rattle.sel_full.specs.Reach.{IsOneOf}
use Rattle.sel_full.proofs.Finding.{none_among, found_passes}
use Rattle.sel_full.proofs.states.States.find.Goals as goal

pub returns-in-Some : goal.returns-in-Some
returns-in-Some c =
    let keys : List Items = (c.self.inside.sets).keys in
    let same : c.args.items.now ≡ c.in-Some.field-0-1.now = (c.equal_are_same.ensures c.args.items.now c.in-Some.field-0-1.now).0 (found_passes (items_eq c.args.items.now) keys c.in-Some.field-0-1.now c.in-Some.ensures.key) in
    rw (← c.self.view_is) (c.in-Some.ensures.stored ∙ ap Some (sym same))

pub returns-in-None : goal.returns-in-None
returns-in-None c =
    let none : IsOneOf (c.self.inside.sets).keys c.args.items.now → ⊥ = none_among items_eq (λ x. (c.equal_are_same.ensures x x).1 refl) (c.self.inside.sets).keys c.args.items.now (sym c.in-None.ensures.found) in
    rw (← c.self.view_is) none
