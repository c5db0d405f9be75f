-- The laws of item sets, by their names.
use Rattle.std.proofs.Common.{◌≡◌, ℕ, zero, suc, Option, Some, None, List, [], ◌∷◌, sym, subst, refl, ap, ◌∙◌}
use Rattle.sel_base.specs.declared.range.Range.{Range}
use Rattle.sel_grammar.specs.declared.grammar.Grammar.{Grammar}
use Rattle.sel_grammar.specs.declared.grammar.Rule.{Rule}
use Rattle.sel_grammar.specs.declared.grammar.Pattern.{Leaf, Nullary}
use Rattle.sel_grammar.specs.Costs.{Cost, no_cost, ◌⊕◌}
use Rattle.sel_grammar.specs.Fits.{rule_at}
use Rattle.sel_grammar.specs.Lawful.{IsLawful}
use Rattle.sel_grammar.specs.PlainTrees.{PlainTree, Node0, Node1, Node2, attribute_of}
use Rattle.sel_range.specs.Classes.{class_of}
use Rattle.sel_range.specs.Limits.{IsAttributeValue}
use Rattle.sel_normal.specs.NormalForms.{NormalForm}
use Rattle.sel_normal.proofs.Kept.{form_cut}
use Rattle.sel_normal.proofs.Steps.{some_none, rule_left}
use Rattle.sel_items.specs.declared.items.Items.{Items}
use Rattle.sel_items.specs.Follows.{NodeKey}
use Rattle.sel_items.specs.ItemsOf.{IsItemsOf, IsKeyOf, attribute_number}
use Rattle.sel_items.specs.Laws.{IsAcceptedForm, ItemsFollow, ItemsOfFollow, FollowsIsOne, ItemsAreOne, ItemsExist}
use Rattle.sel_items.proofs.Meanings.{kid_trees, operator_of, KidsGoals, Decides, HasRangesPlaced, IsTreeKey}
use Rattle.sel_items.proofs.Deciders.{Decides-leaf, Decides-kids}
use Rattle.sel_items.proofs.FollowsBack.{follows_back}
use Rattle.sel_items.proofs.BestParts.{items_are_nodes}
use Rattle.sel_items.proofs.OneSet.{follows_one}
use Rattle.sel_items.proofs.SomeItems.{some_items}
use Rattle.sel_items.proofs.OneItems.{items_one}

ranges_placed : (g : Grammar) → IsLawful g → HasRangesPlaced g
ranges_placed g h zero rule x at is = absurd (some_none (sym at))
ranges_placed g h (suc i) rule x at is = (h.rules i rule at).range x is

-- a chain rule has no range
chains_open : (g : Grammar) → IsLawful g → (r : ℕ) (rule : Rule) (m : ℕ) → rule_at g r ≡ Some rule → rule.pattern ≡ Leaf m → rule.range ≡ None
chains_open g h r rule m at leaf = go rule.range refl
  where
    no_leaf : (op : ℕ) → Leaf m ≡ Nullary op → ⊥
    no_leaf op e = cc

    go : (o : Option Range) → rule.range ≡ o → o ≡ None
    go None e = refl
    go (Some x) e = let p = ranges_placed g h r rule x at e in absurd (no_leaf p.0 (sym leaf ∙ p.1))

-- the key of a tree is the tree's
module _ (g : Grammar) (normal : NormalForm) (key : NodeKey) (k : IsAcceptedForm g normal) where
  by_kids : (t : PlainTree) (shift : Cost) (is : List Items) → key.kids ≡ is → KidsGoals g (kid_trees t) shift is → key.operator ≡ operator_of t → Decides g normal key t → IsTreeKey g normal key t shift
  by_kids t shift is same kids op decides = record {
    cut = form_cut g normal k.lawful k.form;
    width = (k.form).nonterminals;
    lefts = λ r rule at. rule_left g r rule k.lawful at;
    kids = subst (KidsGoals g (kid_trees t) shift) (sym same) kids;
    operator = op;
    decides = decides;
    chains_open = chains_open g k.lawful;
  }

  tree_key : (t : PlainTree) → IsAttributeValue (attribute_number (attribute_of t)) → IsKeyOf g t key → (shift : Cost) × IsTreeKey g normal key t shift
  tree_key (Node0 op a) small (same, class, kids) =
      (no_cost, by_kids (Node0 op a) no_cost [] kids refl same (Decides-leaf g normal key op a small (class ∙ ap (λ ts. class_of ts (attribute_number a)) (sym (k.form).tests))))
  tree_key (Node1 op a t) small (same, class, (i, kids, h)) =
      let m = items_are_nodes g t i h in
      (m.shift, by_kids (Node1 op a t) m.shift (i ∷ []) kids m.means same (Decides-kids g normal key (Node1 op a t) (λ o. refl) (ranges_placed g k.lawful)))
  tree_key (Node2 op a t u) small (same, class, (i, j, kids, h, l)) =
      let m = items_are_nodes g t i h in
      let n = items_are_nodes g u j l in
      (m.shift ⊕ n.shift, by_kids (Node2 op a t u) (m.shift ⊕ n.shift) (i ∷ j ∷ []) kids (m.shift, n.shift, refl, m.means, n.means) same (Decides-kids g normal key (Node2 op a t u) (λ o. refl) (ranges_placed g k.lawful)))

pub items_of_follow : ItemsOfFollow
items_of_follow g normal t key items k small is h = let w = tree_key g normal key k t small is in follows_back g normal key t w.0 w.1 items h

pub follows_is_one : FollowsIsOne
follows_is_one = follows_one

pub items_are_one : ItemsAreOne
items_are_one = items_one

pub items_exist : ItemsExist
items_exist g t lawful accepted = some_items g lawful accepted.free t

-- what follows from the key is the item set that there is
pub items_follow : ItemsFollow
items_follow g normal t key items k small is follows =
    let s = items_exist g t k.lawful k.accepted in
    subst (IsItemsOf g t) (follows_is_one normal key s.0 items (items_of_follow g normal t key s.0 k small is s.1) follows) s.1
