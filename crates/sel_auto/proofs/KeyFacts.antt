-- What a key by numbers says of the kids' item sets.
use Rattle.std.proofs.Common.{◌≡◌, ℕ, ◌<◌, Option, Some, None, List, [], ◌∷◌, ◌++◌, length, slice_get, refl, sym, ap, subst, ◌∙◌}
use Rattle.std.proofs.lemmas.Option.{slice_get_within}
use Rattle.sel_items.specs.declared.items.Items.{Items}
use Rattle.sel_items.specs.declared.label.Label.{Label}
use Rattle.sel_items.specs.declared.label.Label.TheVariants.{Numbered, Plain}
use Rattle.sel_items.specs.Follows.{NodeKey, key_of, Follows}
use Rattle.sel_items.specs.KidSets.{kid_sets}
use Rattle.sel_items.specs.Labels.{KidsAre}
use Rattle.sel_auto.specs.declared.key.StateKey.{StateKey}
use Rattle.sel_auto.specs.Keys.{numbered_key}
use Rattle.sel_auto.specs.Tables.{Tables, Means, node_key, AreInOrder, IsStateNumber, IsTransition}
use Rattle.sel_auto.specs.TableChanges.{FollowsKids}
use Rattle.sel_auto.proofs.Growth.{some_same, get_last}
use Rattle.sel_auto.proofs.Lawful.{IsStateNumber-grown, node_key-grown}

pub record IsKeyOfKids (t : Tables) (operator class : ℕ) (kids : List Items) (key : StateKey) : Type 0 where
  pub first : IsStateNumber t.states key.first
  pub second : IsStateNumber t.states key.second
  pub order : AreInOrder key.first key.second
  pub node : node_key t.states key ≡ key_of operator class kids

no_state : (states : List Items) → IsStateNumber states None
no_state states n h = absurd (cc)

a_state : (states : List Items) (n : ℕ) (i : Items) → slice_get states n ≡ Some i → IsStateNumber states (Some n)
a_state states n i h m e = let same : n ≡ m = some_same n m e in subst (λ k. k < length states) same (slice_get_within states n i h)

pub key_facts : (t : Tables) (operator class : ℕ) (a b : Option Label) (kids : List Items) (key : StateKey) → numbered_key operator class a b ≡ Some key → KidsAre (Means t) a b kids → IsKeyOfKids t operator class kids key
key_facts t op class None None [] key e h = subst (IsKeyOfKids t op class []) (some_same (record { operator = op; class = class; first = None; second = None }) key e)
    (record { first = no_state t.states; second = no_state t.states; order = tt; node = refl })
key_facts t op class None None (i ∷ is) key e h = absurd h
key_facts t op class None (Some b) kids key e h = absurd h
key_facts t op class (Some (Plain p)) b kids key e h = absurd (cc)
key_facts t op class (Some (Numbered n)) None [] key e h = absurd h
key_facts t op class (Some (Numbered n)) None (i ∷ []) key e h = subst (IsKeyOfKids t op class (i ∷ [])) (some_same (record { operator = op; class = class; first = Some n; second = None }) key e)
    (record { first = a_state t.states n i h; second = no_state t.states; order = tt; node = λ k. key_of op class (kid_sets (h k) None) })
key_facts t op class (Some (Numbered n)) None (i ∷ j ∷ is) key e h = absurd h
key_facts t op class (Some (Numbered n)) (Some (Plain p)) kids key e h = absurd (cc)
key_facts t op class (Some (Numbered n)) (Some (Numbered m)) [] key e h = absurd h
key_facts t op class (Some (Numbered n)) (Some (Numbered m)) (i ∷ []) key e h = absurd h
key_facts t op class (Some (Numbered n)) (Some (Numbered m)) (i ∷ j ∷ []) key e h = subst (IsKeyOfKids t op class (i ∷ j ∷ [])) (some_same (record { operator = op; class = class; first = Some n; second = Some m }) key e)
    (record { first = a_state t.states n i h.0; second = a_state t.states m j h.1; order = tt; node = λ k. key_of op class (kid_sets (h.0 k) (h.1 k)) })
key_facts t op class (Some (Numbered n)) (Some (Numbered m)) (i ∷ j ∷ l ∷ is) key e h = absurd h

-- the number of the item set that follows from a key is the key's
pub transition : (t : Tables) (operator class : ℕ) (a b : Option Label) (kids : List Items) (key : StateKey) (n : ℕ) (i : Items) → numbered_key operator class a b ≡ Some key → KidsAre (Means t) a b kids
    → FollowsKids t operator class a b i → slice_get t.states n ≡ Some i → IsTransition t.normal t.states key n
transition t operator class a b kids key n i e h follows stands =
    let facts = key_facts t operator class a b kids key e h in
    record {
      order = facts.order;
      first = facts.first;
      second = facts.second;
      items = i;
      stands = stands;
      follows = subst (λ (k : NodeKey). Follows t.normal k i) (sym facts.node) (follows kids h);
    }

-- and so is the next number, where the item set becomes that of it
pub transition_added : (t : Tables) (operator class : ℕ) (a b : Option Label) (kids : List Items) (key : StateKey) (n : ℕ) (i : Items) → numbered_key operator class a b ≡ Some key → KidsAre (Means t) a b kids
    → FollowsKids t operator class a b i → n ≡ length t.states → IsTransition t.normal (t.states ++ i ∷ []) key n
transition_added t operator class a b kids key n i e h follows number =
    let facts = key_facts t operator class a b kids key e h in
    record {
      order = facts.order;
      first = IsStateNumber-grown t.states (i ∷ []) key.first facts.first;
      second = IsStateNumber-grown t.states (i ∷ []) key.second facts.second;
      items = i;
      stands = ap (slice_get (t.states ++ i ∷ [])) number ∙ get_last t.states i;
      follows = subst (λ (k : NodeKey). Follows t.normal k i) (sym (node_key-grown t.states (i ∷ []) key facts.first facts.second ∙ facts.node)) (follows kids h);
    }
