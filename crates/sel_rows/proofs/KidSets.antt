-- What kids' labels mean, as the evaluation of an item set takes it.
use Rattle.std.proofs.Common.{◌≡◌, ℕ, ◌<◌, Option, Some, None, List, [], ◌∷◌, refl, sym, ap, subst, ◌∙◌}
use Rattle.sel_normal.specs.NormalForms.{NormalForm}
use Rattle.sel_items.specs.declared.items.Items.{Items}
use Rattle.sel_items.specs.declared.label.Label.{Label}
use Rattle.sel_items.specs.declared.label.Label.TheVariants.{Numbered, Plain}
use Rattle.sel_items.specs.CostBounds.{IsKidSet}
use Rattle.sel_items.specs.KidSets.{kid_sets, IsKid, AreKidsInOrder}
use Rattle.sel_items.specs.Labels.{KidsAre, AreKidSets, IsClassOver}
use Rattle.sel_law.specs.declared.Setting.{Setting}
use Rattle.sel_law.specs.declared.Ask.{Ask}
use Rattle.sel_law.specs.declared.View.{View}
use Rattle.sel_law.specs.Words.{items_of}
use Rattle.sel_rows.specs.Grown.{Grown}
use Rattle.sel_rows.specs.Meanings.{Means}
use Rattle.sel_rows.specs.Keys.{meaning, kid_meaning, kid_read, kid_chosen, IsReadable}
use Rattle.sel_rows.proofs.Growth.{number_grown}
use Rattle.sel_rows.proofs.Contents.{is_whole_grown, content_stays}

some_same : (i j : Items) → Some i ≡ Some j → i ≡ j
some_same i j e = cc

abbrev kid_by : (Label → Option Items) → Option Label → Option Items
kid_by m None = None
kid_by m (Some l) = m l

one_kid : (normal : NormalForm) (o : Option Items) (i : Items) → o ≡ Some i → IsKidSet normal i → IsKid normal o
one_kid normal o i e h j f = subst (IsKidSet normal) (some_same i j (sym e ∙ f)) h

no_kid : (normal : NormalForm) → IsKid normal None
no_kid normal j f = absurd (cc)

pub first_kid : (normal : NormalForm) (m : Label → Option Items) (a b : Option Label) (kids : List Items) → KidsAre (λ l i. m l ≡ Some i) a b kids → AreKidSets normal kids → IsKid normal (kid_by m a)
first_kid normal m None b kids h k = no_kid normal
first_kid normal m (Some a) None [] h k = absurd h
first_kid normal m (Some a) None (i ∷ []) h k = one_kid normal (m a) i h k.0
first_kid normal m (Some a) None (i ∷ j ∷ is) h k = absurd h
first_kid normal m (Some a) (Some b) [] h k = absurd h
first_kid normal m (Some a) (Some b) (i ∷ []) h k = absurd h
first_kid normal m (Some a) (Some b) (i ∷ j ∷ []) h k = one_kid normal (m a) i h.0 k.0
first_kid normal m (Some a) (Some b) (i ∷ j ∷ l ∷ is) h k = absurd h

pub second_kid : (normal : NormalForm) (m : Label → Option Items) (a b : Option Label) (kids : List Items) → KidsAre (λ l i. m l ≡ Some i) a b kids → AreKidSets normal kids → IsKid normal (kid_by m b)
second_kid normal m a None kids h k = no_kid normal
second_kid normal m None (Some b) kids h k = absurd h
second_kid normal m (Some a) (Some b) [] h k = absurd h
second_kid normal m (Some a) (Some b) (i ∷ []) h k = absurd h
second_kid normal m (Some a) (Some b) (i ∷ j ∷ []) h k = one_kid normal (m b) j h.1 (k.1).0
second_kid normal m (Some a) (Some b) (i ∷ j ∷ l ∷ is) h k = absurd h

in_order : (o p : Option Items) (i j : Items) → o ≡ Some i → AreKidsInOrder o p
in_order None p i j e = absurd (cc)
in_order (Some x) None i j e = tt
in_order (Some x) (Some y) i j e = tt

pub kids_in_order : (m : Label → Option Items) (a b : Option Label) (kids : List Items) → KidsAre (λ l i. m l ≡ Some i) a b kids → AreKidsInOrder (kid_by m a) (kid_by m b)
kids_in_order m None None kids h = tt
kids_in_order m None (Some b) kids h = absurd h
kids_in_order m (Some a) b [] h = absurd (not_empty b h)
  where
    not_empty : (p : Option Label) → KidsAre (λ l i. m l ≡ Some i) (Some a) p [] → ⊥
    not_empty None k = k
    not_empty (Some q) k = k
kids_in_order m (Some a) None (i ∷ []) h = in_order (m a) None i i h
kids_in_order m (Some a) None (i ∷ j ∷ is) h = absurd h
kids_in_order m (Some a) (Some b) (i ∷ []) h = absurd h
kids_in_order m (Some a) (Some b) (i ∷ j ∷ []) h = in_order (m a) (m b) i j h.0
kids_in_order m (Some a) (Some b) (i ∷ j ∷ l ∷ is) h = absurd h

pub meant_sets : (m : Label → Option Items) (a b : Option Label) (kids : List Items) → KidsAre (λ l i. m l ≡ Some i) a b kids → kid_sets (kid_by m a) (kid_by m b) ≡ kids
meant_sets m None None [] h = refl
meant_sets m None None (i ∷ is) h = absurd h
meant_sets m None (Some b) kids h = absurd h
meant_sets m (Some a) None [] h = absurd h
meant_sets m (Some a) None (i ∷ []) h = λ k. kid_sets (h k) None
meant_sets m (Some a) None (i ∷ j ∷ is) h = absurd h
meant_sets m (Some a) (Some b) [] h = absurd h
meant_sets m (Some a) (Some b) (i ∷ []) h = absurd h
meant_sets m (Some a) (Some b) (i ∷ j ∷ []) h = λ k. kid_sets (h.0 k) (h.1 k)
meant_sets m (Some a) (Some b) (i ∷ j ∷ l ∷ is) h = absurd h

class_over : (normal : NormalForm) (class : ℕ) (a : Label) (o : Option Items) (i : Items) → o ≡ Some i → class ≡ 0 → IsClassOver normal class o
class_over normal class a None i e h = absurd (cc)
class_over normal class a (Some x) i e h = h

pub class_over_kids : (normal : NormalForm) (class : ℕ) (m : Label → Option Items) (a b : Option Label) (kids : List Items) → KidsAre (λ l i. m l ≡ Some i) a b kids → IsClassOver normal class a → IsClassOver normal class (kid_by m a)
class_over_kids normal class m None b kids h k = k
class_over_kids normal class m (Some a) None [] h k = absurd h
class_over_kids normal class m (Some a) None (i ∷ []) h k = class_over normal class a (m a) i h k
class_over_kids normal class m (Some a) None (i ∷ j ∷ is) h k = absurd h
class_over_kids normal class m (Some a) (Some b) [] h k = absurd h
class_over_kids normal class m (Some a) (Some b) (i ∷ []) h k = absurd h
class_over_kids normal class m (Some a) (Some b) (i ∷ j ∷ []) h k = class_over normal class a (m a) i h.0 k
class_over_kids normal class m (Some a) (Some b) (i ∷ j ∷ l ∷ is) h k = absurd h

module _ (v : View) (plain : List Items) where
  means_is : (l : Label) (i : Items) → Means v plain l i → meaning v plain l ≡ Some i
  means_is (Numbered n) i h = ap Some (sym h.items)
  means_is (Plain p) i h = h

  kids_mean : (a b : Option Label) (is : List Items) → KidsAre (Means v plain) a b is → KidsAre (λ l i. meaning v plain l ≡ Some i) a b is
  kids_mean None None [] h = h
  kids_mean None None (i ∷ is) h = h
  kids_mean None (Some b) is h = absurd h
  kids_mean (Some a) None [] h = h
  kids_mean (Some a) None (i ∷ []) h = means_is a i h
  kids_mean (Some a) None (i ∷ j ∷ is) h = h
  kids_mean (Some a) (Some b) [] h = h
  kids_mean (Some a) (Some b) (i ∷ []) h = h
  kids_mean (Some a) (Some b) (i ∷ j ∷ []) h = (means_is a i h.0, means_is b j h.1)
  kids_mean (Some a) (Some b) (i ∷ j ∷ l ∷ is) h = h

  same_kid : (o : Option Label) → kid_by (meaning v plain) o ≡ kid_meaning v plain o
  same_kid None = refl
  same_kid (Some l) = refl

  module _ (a b : Option Label) (is : List Items) (h : KidsAre (Means v plain) a b is) where
    pub kid_first : (normal : NormalForm) → AreKidSets normal is → IsKid normal (kid_meaning v plain a)
    kid_first normal k = subst (IsKid normal) (same_kid a) (first_kid normal (meaning v plain) a b is (kids_mean a b is h) k)

    pub kid_second : (normal : NormalForm) → AreKidSets normal is → IsKid normal (kid_meaning v plain b)
    kid_second normal k = subst (IsKid normal) (same_kid b) (second_kid normal (meaning v plain) a b is (kids_mean a b is h) k)

    pub kid_order : AreKidsInOrder (kid_meaning v plain a) (kid_meaning v plain b)
    kid_order = subst (λ (t : Option Items × Option Items). AreKidsInOrder t.0 t.1) (λ k. (same_kid a k, same_kid b k)) (kids_in_order (meaning v plain) a b is (kids_mean a b is h))

    pub kid_class : (normal : NormalForm) (class : ℕ) → IsClassOver normal class a → IsClassOver normal class (kid_meaning v plain a)
    kid_class normal class k = subst (IsClassOver normal class) (same_kid a) (class_over_kids normal class (meaning v plain) a b is (kids_mean a b is h) k)

    pub kid_meant : kid_sets (kid_meaning v plain a) (kid_meaning v plain b) ≡ is
    kid_meant = (λ k. kid_sets (sym (same_kid a) k) (sym (same_kid b) k)) ∙ meant_sets (meaning v plain) a b is (kids_mean a b is h)

  readable : (l : Label) (i : Items) → Means v plain l i → IsReadable v (Some l)
  readable (Numbered n) i h = (h.below, h.number, h.whole)
  readable (Plain p) i h = tt

  pub first_readable : (a b : Option Label) (is : List Items) → KidsAre (Means v plain) a b is → IsReadable v a
  first_readable None b is h = tt
  first_readable (Some a) None [] h = absurd h
  first_readable (Some a) None (i ∷ []) h = readable a i h
  first_readable (Some a) None (i ∷ j ∷ is) h = absurd h
  first_readable (Some a) (Some b) [] h = absurd h
  first_readable (Some a) (Some b) (i ∷ []) h = absurd h
  first_readable (Some a) (Some b) (i ∷ j ∷ []) h = readable a i h.0
  first_readable (Some a) (Some b) (i ∷ j ∷ l ∷ is) h = absurd h

  pub second_readable : (a b : Option Label) (is : List Items) → KidsAre (Means v plain) a b is → IsReadable v b
  second_readable a None is h = tt
  second_readable None (Some b) is h = absurd h
  second_readable (Some a) (Some b) [] h = absurd h
  second_readable (Some a) (Some b) (i ∷ []) h = absurd h
  second_readable (Some a) (Some b) (i ∷ j ∷ []) h = readable b j h.1
  second_readable (Some a) (Some b) (i ∷ j ∷ l ∷ is) h = absurd h

  pub chosen_is : (o : Option Label) (read : Option Items) → read ≡ kid_read v o → kid_chosen o read plain ≡ kid_meaning v plain o
  chosen_is None read e = refl
  chosen_is (Some (Numbered n)) read e = e
  chosen_is (Some (Plain p)) read e = refl

module _ (asks : List Ask) (v w : View) (g : Grown asks v w) where
  pub readable_grown : (o : Option Label) → IsReadable v o → IsReadable w o
  readable_grown None h = h
  readable_grown (Some (Numbered n)) h = (subst (λ (y : Setting). n < y.states) (sym g.setting) h.0, number_grown asks v w g n h.1, is_whole_grown asks v w g n h.2)
  readable_grown (Some (Plain p)) h = h

  pub read_grown : (o : Option Label) → IsReadable v o → kid_read w o ≡ kid_read v o
  read_grown None h = refl
  read_grown (Some (Numbered n)) h = ap (λ c. Some (items_of c)) (content_stays asks v w g n h.2)
  read_grown (Some (Plain p)) h = refl
