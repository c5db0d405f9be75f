-- What kids' labels mean, as the evaluation of an item set takes it.
use Rattle.std.proofs.Common.{◌≡◌, ℕ, Option, Some, None, List, [], ◌∷◌, refl, sym, subst, ◌∙◌}
use Rattle.sel_normal.specs.NormalForms.{NormalForm}
use Rattle.sel_items.specs.declared.items.Items.{Items}
use Rattle.sel_items.specs.declared.label.Label.{Label}
use Rattle.sel_items.specs.CostBounds.{IsKidSet}
use Rattle.sel_items.specs.KidSets.{kid_sets, IsKid, AreKidsInOrder}
use Rattle.sel_items.specs.Labels.{KidsAre, AreKidSets, IsClassOver}
use Rattle.sel_auto.specs.Tables.{Tables, Means, meaning, kid_meaning}
use Rattle.sel_auto.proofs.Growth.{some_same}

one_kid : (normal : NormalForm) (o : Option Items) (i : Items) → o ≡ Some i → IsKidSet normal i → IsKid normal o
one_kid normal o i e h j f = subst (IsKidSet normal) (some_same i j (sym e ∙ f)) h

no_kid : (normal : NormalForm) → IsKid normal None
no_kid normal j f = absurd (cc)

pub first_kid : (normal : NormalForm) (t : Tables) (a b : Option Label) (kids : List Items) → KidsAre (Means t) a b kids → AreKidSets normal kids → IsKid normal (kid_meaning t a)
first_kid normal t None b kids h k = no_kid normal
first_kid normal t (Some a) None [] h k = absurd h
first_kid normal t (Some a) None (i ∷ []) h k = one_kid normal (meaning t a) i h k.0
first_kid normal t (Some a) None (i ∷ j ∷ is) h k = absurd h
first_kid normal t (Some a) (Some b) [] h k = absurd h
first_kid normal t (Some a) (Some b) (i ∷ []) h k = absurd h
first_kid normal t (Some a) (Some b) (i ∷ j ∷ []) h k = one_kid normal (meaning t a) i h.0 k.0
first_kid normal t (Some a) (Some b) (i ∷ j ∷ l ∷ is) h k = absurd h

pub second_kid : (normal : NormalForm) (t : Tables) (a b : Option Label) (kids : List Items) → KidsAre (Means t) a b kids → AreKidSets normal kids → IsKid normal (kid_meaning t b)
second_kid normal t a None kids h k = no_kid normal
second_kid normal t None (Some b) kids h k = absurd h
second_kid normal t (Some a) (Some b) [] h k = absurd h
second_kid normal t (Some a) (Some b) (i ∷ []) h k = absurd h
second_kid normal t (Some a) (Some b) (i ∷ j ∷ []) h k = one_kid normal (meaning t b) j h.1 (k.1).0
second_kid normal t (Some a) (Some b) (i ∷ j ∷ l ∷ is) h k = absurd h

in_order : (o p : Option Items) (i j : Items) → o ≡ Some i → AreKidsInOrder o p
in_order None p i j e = absurd (cc)
in_order (Some x) None i j e = tt
in_order (Some x) (Some y) i j e = tt

pub kids_in_order : (t : Tables) (a b : Option Label) (kids : List Items) → KidsAre (Means t) a b kids → AreKidsInOrder (kid_meaning t a) (kid_meaning t b)
kids_in_order t None None kids h = tt
kids_in_order t None (Some b) kids h = absurd h
kids_in_order t (Some a) b [] h = absurd (not_empty b h)
  where
    not_empty : (p : Option Label) → KidsAre (Means t) (Some a) p [] → ⊥
    not_empty None k = k
    not_empty (Some q) k = k
kids_in_order t (Some a) None (i ∷ []) h = in_order (meaning t a) None i i h
kids_in_order t (Some a) None (i ∷ j ∷ is) h = absurd h
kids_in_order t (Some a) (Some b) (i ∷ []) h = absurd h
kids_in_order t (Some a) (Some b) (i ∷ j ∷ []) h = in_order (meaning t a) (meaning t b) i j h.0
kids_in_order t (Some a) (Some b) (i ∷ j ∷ l ∷ is) h = absurd h

pub meant_sets : (t : Tables) (a b : Option Label) (kids : List Items) → KidsAre (Means t) a b kids → kid_sets (kid_meaning t a) (kid_meaning t b) ≡ kids
meant_sets t None None [] h = refl
meant_sets t None None (i ∷ is) h = absurd h
meant_sets t None (Some b) kids h = absurd h
meant_sets t (Some a) None [] h = absurd h
meant_sets t (Some a) None (i ∷ []) h = λ k. kid_sets (h k) None
meant_sets t (Some a) None (i ∷ j ∷ is) h = absurd h
meant_sets t (Some a) (Some b) [] h = absurd h
meant_sets t (Some a) (Some b) (i ∷ []) h = absurd h
meant_sets t (Some a) (Some b) (i ∷ j ∷ []) h = λ k. kid_sets (h.0 k) (h.1 k)
meant_sets t (Some a) (Some b) (i ∷ j ∷ l ∷ is) h = absurd h

class_over : (normal : NormalForm) (class : ℕ) (a : Label) (o : Option Items) (i : Items) → o ≡ Some i → class ≡ 0 → IsClassOver normal class o
class_over normal class a None i e h = absurd (cc)
class_over normal class a (Some x) i e h = h

pub class_over_kids : (normal : NormalForm) (class : ℕ) (t : Tables) (a b : Option Label) (kids : List Items) → KidsAre (Means t) a b kids → IsClassOver normal class a → IsClassOver normal class (kid_meaning t a)
class_over_kids normal class t None b kids h k = k
class_over_kids normal class t (Some a) None [] h k = absurd h
class_over_kids normal class t (Some a) None (i ∷ []) h k = class_over normal class a (meaning t a) i h k
class_over_kids normal class t (Some a) None (i ∷ j ∷ is) h k = absurd h
class_over_kids normal class t (Some a) (Some b) [] h k = absurd h
class_over_kids normal class t (Some a) (Some b) (i ∷ []) h k = absurd h
class_over_kids normal class t (Some a) (Some b) (i ∷ j ∷ []) h k = class_over normal class a (meaning t a) i h.0 k
class_over_kids normal class t (Some a) (Some b) (i ∷ j ∷ l ∷ is) h k = absurd h
