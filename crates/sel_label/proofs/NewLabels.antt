-- What one label more says, and the keys that it asks and learns.
use Rattle.std.proofs.Common.{◌≡◌, ℕ, ◌+◌, ◌⊎◌, inl, inr, true, false, List, [], ◌∷◌, ◌++◌, length, ap, sym, ◌∙◌, subst, arith}
use Rattle.sel_grammar.specs.declared.grammar.Grammar.{Grammar}
use Rattle.sel_grammar.specs.PlainTrees.{PlainTree, Node0, Node1, Node2}
use Rattle.sel_forest.specs.declared.forest.Node.{Node}
use Rattle.sel_forest.specs.Places.{IsRootAt}
use Rattle.sel_forest.specs.Valid.{IsOver}
use Rattle.sel_items.specs.declared.items.Items.{Items}
use Rattle.sel_items.specs.declared.label.Label.{Label}
use Rattle.sel_items.specs.declared.label.Label.TheVariants.{Numbered, Plain}
use Rattle.sel_items.specs.Automata.{Told, IsLabelled, IsOwnKey, Keeps, AddsOwn}
use Rattle.sel_items.specs.Follows.{NodeKey, key_of, Follows}
use Rattle.sel_items.specs.ItemsOf.{IsItemsOf, IsKeyOf}
use Rattle.sel_items.specs.Labels.{IsPlain, IsNumbered, KidsAre}
use Rattle.sel_items.specs.Laws.{IsAcceptedForm}
use Rattle.sel_items.specs.Tabled.{FitsItems, IsTabled}
use Rattle.sel_items.specs.Words.{FitsWords}
use Rattle.sel_items.proofs.ItemLaws.{items_follow, items_are_one}
use Rattle.sel_label.specs.Labelling.{IsOfNumber}
use Rattle.sel_label.specs.Fronts.{IsNodeLabelled, IsKeyBefore, AddsBefore}
use Rattle.sel_label.proofs.Fitting.{Asked, Fits, root_value}
use Rattle.sel_label.proofs.Growing.{held_below_more, numbered_below_more, mark_back, number_more}
use Rattle.sel_label.proofs.Keys.{one_key}

true_false : true ≡ false → ⊥
true_false h = cc

named : (means : Label → Items → Type 0) (l : Label) (i : Items) → IsNumbered l → means l i → (n : ℕ) × means (Numbered n) i
named means (Numbered n) i h m = (n, m)
named means (Plain p) i h m = absurd h

is_numbered : (l : Label) → (IsPlain l → ⊥) → IsNumbered l
is_numbered (Numbered n) f = tt
is_numbered (Plain p) f = absurd (f tt)

tabled_fits : (g : Grammar) (u : PlainTree) → IsTabled g u → FitsItems g u
tabled_fits g (Node0 op a) h = h
tabled_fits g (Node1 op a t) h = h.0
tabled_fits g (Node2 op a t u) h = h.0

-- the item set of a tabled node fits words
tabled_words : (g : Grammar) (u : PlainTree) (items : Items) → IsItemsOf g u items → IsTabled g u → FitsWords items
tabled_words g u items is h = let f = tabled_fits g u h in subst FitsWords (items_are_one g u f.0 items f.1 is) f.2

module _ (g : Grammar) (nodes : List Node) (told told' : Told) (labels : List Label) (accepted : IsAcceptedForm g told.normal) (keeps : Keeps told told')
    (u : PlainTree) (root : IsRootAt nodes (length labels) u) (over : IsOver g u) (a : Asked) (fits : Fits g nodes told labels (length labels) u a) where
  pub new_label : (l : Label) → IsLabelled told' a.operator a.class a.first a.second fits.kids l → IsNodeLabelled g nodes told' (labels ++ l ∷ []) (length labels) u l
  new_label l given = record {
    items = given.items;
    meant = given.meant;
    is = set;
    numbered = λ n.
        let x = given.numbered n in
        let b = fits.below x.0 in (
          (x.1, named told'.means l given.items n given.meant),
          held_below_more g (IsOfNumber told) (IsOfNumber told') u (number_more told told' keeps) b.0,
          numbered_below_more nodes labels (l ∷ []) (length labels) u root (omega arith) b.1,
        );
    tabled = λ e t. is_numbered l (λ p. plain t e (given.plain p (fits.tabled (mark_back told.used_up told'.used_up keeps.used_up e) t)));
    known_key = λ e f t k is.
        subst told'.known (one_key g u (key_of a.operator a.class fits.kids) k fits.key is)
        (given.tabled (fits.tabled (mark_back told.used_up told'.used_up keeps.used_up e) t) e f (tabled_words g u given.items set t)).1;
  }
    where
      set : IsItemsOf g u given.items
      set = items_follow g told'.normal u (key_of a.operator a.class fits.kids) given.items (subst (IsAcceptedForm g) (sym keeps.normal) accepted) (root_value g u over) fits.key given.follows

      plain : IsTabled g u → told'.used_up ≡ false → (told'.used_up ≡ true) ⊎ (FitsWords given.items → ⊥) → ⊥
      plain t e (inl h) = true_false (sym h ∙ e)
      plain t e (inr f) = f (tabled_words g u given.items set t)

  -- a key with the kids' item sets is the node's
  own_key : (k : NodeKey) (is : List Items) → KidsAre told.means a.first a.second is → k ≡ key_of a.operator a.class is → IsKeyOf g u k
  own_key k is are e = subst (IsKeyOf g u) (ap (key_of a.operator a.class) (sym (fits.only is are)) ∙ sym e) fits.key

  new_asked : (k : NodeKey) → told.asked k ⊎ IsOwnKey told a.operator a.class a.first a.second k → told.asked k ⊎ IsKeyBefore g (IsOfNumber told') nodes labels (length labels + 1) k
  new_asked k (inl h) = inl h
  new_asked k (inr (n, (kids, are, e))) =
      let b = fits.below n in
      inr (length labels, omega arith, (u, root, own_key k kids are e, held_below_more g (IsOfNumber told) (IsOfNumber told') u (number_more told told' keeps) b.0, b.1))

  new_known : (k : NodeKey) → told.known k ⊎ IsOwnKey told a.operator a.class a.first a.second k → told.known k ⊎ ((i : ℕ) × ((u : PlainTree) × IsRootAt nodes i u × IsKeyOf g u k))
  new_known k (inl h) = inl h
  new_known k (inr (n, (kids, are, e))) = inr (length labels, (u, root, own_key k kids are e))

  new_held : (i : Items) → told.held i ⊎ ((k : NodeKey) × (told.asked k ⊎ IsOwnKey told a.operator a.class a.first a.second k) × Follows told.normal k i)
      → told.held i ⊎ ((k : NodeKey) × (told.asked k ⊎ IsKeyBefore g (IsOfNumber told') nodes labels (length labels + 1) k) × Follows told'.normal k i)
  new_held i (inl h) = inl h
  new_held i (inr (k, from, follows)) = inr (k, new_asked k from, subst (λ n. Follows n k i) (sym keeps.normal) follows)

  -- what the call for the node adds
  pub new_adds : AddsOwn told told' a.operator a.class a.first a.second → AddsBefore g nodes labels (length labels + 1) told told'
  new_adds adds = record { asked = λ k h. new_asked k (adds.asked k h); known = λ k h. new_known k (adds.known k h); held = λ i h. new_held i (adds.held i h) }
