-- A node has one key, and labels of kids mean one list of item sets.
use Rattle.std.proofs.Common.{◌≡◌, Some, None, List, [], ◌∷◌, refl, ap, sym, ◌∙◌}
use Rattle.sel_grammar.specs.declared.grammar.Grammar.{Grammar}
use Rattle.sel_grammar.specs.PlainTrees.{PlainTree, Node0, Node1, Node2}
use Rattle.sel_items.specs.declared.items.Items.{Items}
use Rattle.sel_items.specs.declared.label.Label.{Label}
use Rattle.sel_items.specs.Follows.{NodeKey}
use Rattle.sel_items.specs.ItemsOf.{IsKeyOf}
use Rattle.sel_items.specs.Labels.{KidsAre}
use Rattle.sel_items.proofs.ItemLaws.{items_are_one}

same_key : (k m : NodeKey) → k.operator ≡ m.operator → k.class ≡ m.class → k.kids ≡ m.kids → k ≡ m
same_key k m h h' h'' = λ i. record { operator = h i; class = h' i; kids = h'' i }

-- a node has one key
pub one_key : (g : Grammar) (u : PlainTree) (k m : NodeKey) → IsKeyOf g u k → IsKeyOf g u m → k ≡ m
one_key g (Node0 op a) k m (o, c, s) (o', c', s') = same_key k m (o ∙ sym o') (c ∙ sym c') (s ∙ sym s')
one_key g (Node1 op a t) k m (o, c, (i, s, h)) (o', c', (i', s', h')) =
    same_key k m (o ∙ sym o') (c ∙ sym c') (s ∙ ap (λ x. x ∷ []) (items_are_one g t i i' h h') ∙ sym s')
one_key g (Node2 op a t u) k m (o, c, (i, j, s, h, l)) (o', c', (i', j', s', h', l')) =
    let e : i ≡ i' = items_are_one g t i i' h h' in
    let f : j ≡ j' = items_are_one g u j j' l l' in
    same_key k m (o ∙ sym o') (c ∙ sym c') (s ∙ (λ x. e x ∷ f x ∷ []) ∙ sym s')

module _ (means : Label → Items → Type 0) (one : (l : Label) (i j : Items) → means l i → means l j → i ≡ j) where
  pub only_none : (is : List Items) → KidsAre means None None is → is ≡ []
  only_none [] h = refl
  only_none (i ∷ is) h = absurd h

  pub only_one : (a : Label) (i : Items) → means a i → (is : List Items) → KidsAre means (Some a) None is → is ≡ i ∷ []
  only_one a i m [] h = absurd h
  only_one a i m (j ∷ []) h = ap (λ x. x ∷ []) (one a j i h m)
  only_one a i m (j ∷ k ∷ ks) h = absurd h

  pub only_two : (a b : Label) (i j : Items) → means a i → means b j → (is : List Items) → KidsAre means (Some a) (Some b) is → is ≡ i ∷ j ∷ []
  only_two a b i j m n [] h = absurd h
  only_two a b i j m n (x ∷ []) h = absurd h
  only_two a b i j m n (x ∷ y ∷ []) h = let e = one a x i h.0 m in let f = one b y j h.1 n in λ z. e z ∷ f z ∷ []
  only_two a b i j m n (x ∷ y ∷ k ∷ ks) h = absurd h
