-- Equal item sets are the same, so equality is an equivalence, and equal ones are hashed alike.
use Rattle.std.specs.Prelude.{◌≡◌, Bool, true, ◌&&◌, Option, Some, None}
use Rattle.std.proofs.Common.{refl, sym, ap, subst}
use Rattle.std.specs.Bool.{Decides, one_answer}
use Rattle.std.specs.Cmp.{IsEquivalence, first_so, second_so, signed_Decides, unsigned_Decides}
use Rattle.std.specs.Cmp.Lexicographic.{pointwise_decides}
use Rattle.std.specs.Option.{option_eq}
use Rattle.sel_items.specs.declared.items.Item.{Item}
use Rattle.sel_items.specs.declared.items.Items.{Items}
use Rattle.sel_items.specs.Equality.{item_eq, items_eq, items_input}

both_so : (a b : Bool) → a ≡ true → b ≡ true → (a && b) ≡ true
both_so a b h k = λ i. h i && k i

item_to : (x y : Item) → item_eq x y ≡ true → x ≡ y
item_to x y h =
    let costs = first_so _ _ h in
    let p = (unsigned_Decides (x.cost).first (y.cost).first).0 (first_so _ _ costs) in
    let q = (signed_Decides (x.cost).second (y.cost).second).0 (second_so _ _ costs) in
    let r = (unsigned_Decides x.rule y.rule).0 (second_so _ _ h) in
    λ i. record { cost = record { first = p i; second = q i }; rule = r i }

item_self : (x : Item) → item_eq x x ≡ true
item_self x = both_so _ _ (both_so _ _ ((unsigned_Decides (x.cost).first (x.cost).first).1 refl) ((signed_Decides (x.cost).second (x.cost).second).1 refl)) ((unsigned_Decides x.rule x.rule).1 refl)

entry_to : (o p : Option Item) → option_eq item_eq o p ≡ true → o ≡ p
entry_to None None h = refl
entry_to None (Some y) h = cc
entry_to (Some x) None h = cc
entry_to (Some x) (Some y) h = ap Some (item_to x y h)

entry_self : (o : Option Item) → option_eq item_eq o o ≡ true
entry_self None = refl
entry_self (Some x) = item_self x

entry_decides : (o p : Option Item) → Decides (option_eq item_eq o p) (o ≡ p)
entry_decides o p = (entry_to o p, λ h. subst (λ z. option_eq item_eq o z ≡ true) h (entry_self o))

pub items_decide : (x y : Items) → Decides (items_eq x y) (x ≡ y)
items_decide x y =
    let d = pointwise_decides entry_decides x.entries y.entries in
    (λ h. λ i. record { entries = d.0 h i }, λ h. d.1 (ap (λ (z : Items). z.entries) h))

pub items_equiv : IsEquivalence items_eq
items_equiv = record {
  refl = λ x. (items_decide x x).1 refl;
  symm = λ x y. one_answer (items_eq x y) (items_eq y x) (items_decide x y) (λ h. sym ((items_decide y x).0 h), λ h. (items_decide y x).1 (sym h));
  congr = λ x y z h. ap (λ (w : Items). items_eq w z) ((items_decide x y).0 h);
}

pub items_respected : (x y : Items) → items_eq x y ≡ true → items_input x ≡ items_input y
items_respected x y h = ap items_input ((items_decide x y).0 h)
