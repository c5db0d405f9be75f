-- The walk's beginning at the root, and its end.
use Rattle.std.proofs.Common.{◌≡◌, ℕ, ◌-◌, ◌<◌, ◌≤◌, inl, Option, Some, None, List, [], ◌∷◌, ◌++◌, length, refl, ap, sym, ◌∙◌, subst, arith, append-nil, Bool, true, false, not, is_some}
use Rattle.std.proofs.lemmas.Int.{ints}
use Rattle.sel_grammar.specs.declared.grammar.Grammar.{Grammar}
use Rattle.sel_grammar.specs.declared.grammar.Pattern.{Leaf}
use Rattle.sel_grammar.specs.Costs.{Cost, no_cost, ◌⊕◌}
use Rattle.sel_grammar.specs.PlainTrees.{PlainTree, size}
use Rattle.sel_grammar.specs.Derivations.{Derivations, no_more, more, cost, list}
use Rattle.sel_grammar.specs.Best.{HasNone}
use Rattle.sel_grammar.specs.Firsts.{IsFirst}
use Rattle.sel_grammar.proofs.CostLaws.{sum_none, sum_before}
use Rattle.sel_grammar.proofs.Firsts.{IsBest-first}
use Rattle.sel_grammar.proofs.LawfulCosts.{lawful_costs}
use Rattle.sel_grammar.proofs.Short.{best_is_short, cost_small, small_within}
use Rattle.sel_forest.specs.declared.forest.Node.{Node}
use Rattle.sel_forest.specs.declared.walk.Goal.{Goal}
use Rattle.sel_forest.specs.Covers.{IsBestCover}
use Rattle.sel_forest.specs.Limits.{most_nodes}
use Rattle.sel_forest.specs.Places.{IsRootAt}
use Rattle.sel_forest.specs.Postorder.{postorder}
use Rattle.sel_forest.proofs.Roots.{same_tree, stands_root}
use Rattle.sel_normal.specs.NormalForms.{NormalForm}
use Rattle.sel_items.specs.declared.items.Item.{Item}
use Rattle.sel_items.specs.declared.items.Items.{Items}
use Rattle.sel_items.specs.declared.label.Label.{Label}
use Rattle.sel_items.specs.Entries.{item_at}
use Rattle.sel_items.specs.Laws.{IsAcceptedForm}
use Rattle.sel_items.proofs.BestParts.{items_are_nodes}
use Rattle.sel_items.proofs.Meanings.{EntryMeans}
use Rattle.sel_label.specs.Labelling.{LabelsMean}
use Rattle.sel_reduce.specs.Goals.{IsItemsAt, AreBestAt, all_lists, all_costs, IsHalfReduced}

module _ (g : Grammar) (normal : NormalForm) (nodes : List Node) (t : PlainTree) (ok : IsAcceptedForm g normal) (post : nodes ≡ postorder 0 t) where
  abbrev pub root : Goal
  root = record { at = length nodes - 1; nonterminal = g.start }

  stands : IsRootAt nodes (length nodes - 1) t
  stands = stands_root nodes t post

  pub start_low : g.start < normal.nonterminals
  start_low = let s = (ok.lawful).within.start in let e = (ok.form).nonterminals in omega arith

  module _ (means : Label → Items → Type 0) (labels : List Label) (mean : LabelsMean g means nodes labels) where
    record AtRoot : Type 0 where
      items : Items
      meant : IsItemsAt means labels (length nodes - 1) items
      shift : Cost
      entry : EntryMeans g g.start t shift (item_at items.entries g.start)

    at_root : AtRoot
    at_root =
        let m = mean (length nodes - 1) t stands in
        let i = m.2 in
        let s = items_are_nodes g t i.0 i.2 in
        record { items = i.0; meant = (m.0, m.1, i.1); shift = s.shift; entry = (s.means).symbols g.start (ok.lawful).within.start }

    pub root_items : (i : Items) × IsItemsAt means labels (length nodes - 1) i
    root_items = (at_root.items, at_root.meant)

    pub root_none : ((i : Items) → IsItemsAt means labels (length nodes - 1) i → None ≡ item_at i.entries g.start) → HasNone g g.start t
    root_none h = subst (λ o. EntryMeans g g.start t at_root.shift o) (sym (h at_root.items at_root.meant)) at_root.entry

    pub root_half : size t ≤ most_nodes → (item : Item) → ((i : Items) → IsItemsAt means labels (length nodes - 1) i → Some item ≡ item_at i.entries g.start) → IsHalfReduced g nodes root [] no_cost (root ∷ [])
    root_half few item h = go (subst (λ o. EntryMeans g g.start t at_root.shift o) (sym (h at_root.items at_root.meant)) at_root.entry)
      where
        go : EntryMeans g g.start t at_root.shift (Some item) → IsHalfReduced g nodes root [] no_cost (root ∷ [])
        go (d, f, priced, ruled) = record {
          tree = t;
          root = stands;
          best = d;
          first = f;
          small = small_within g (lawful_costs g ok.lawful) (length (list d)) most_nodes (cost g d) (cost_small g (lawful_costs g ok.lawful) d)
              (let s = best_is_short g g.start t d (ok.lawful).within (ok.accepted).free (IsBest-first g d g.start t f) in omega arith);
          kids = more d no_more ∷ [];
          for = (record { tree = t; root = stands; part = Leaf g.start; stands = inl ((ok.lawful).within.start, refl); under = t ∷ []; lies = refl; firsts = (f, tt) }, tt);
          whole = sym (append-nil (list d ++ []) ∙ append-nil (list d));
          sum = sum_none (cost g d) ∙ sum_none (cost g d ⊕ no_cost) ∙ sum_before ((cost g d ⊕ no_cost) ⊕ no_cost);
          low = omega (arith, ints);
        }

  none_left : (kids : List Derivations) → AreBestAt g nodes kids [] → kids ≡ []
  none_left [] h = refl
  none_left (x ∷ xs) h = absurd h

  pub root_cover : (rules : List ℕ) (sum : Cost) → IsHalfReduced g nodes root rules sum [] → IsBestCover g t (record { cost = sum; rules = rules })
  root_cover rules sum half =
      let tree : half.tree ≡ t = same_tree nodes (length nodes - 1) half.tree t half.root stands in
      let first : IsFirst g half.best g.start t = subst (λ x. IsFirst g half.best g.start x) tree half.first in
      let none = none_left half.kids half.for in
      record {
        best = half.best;
        is_best = IsBest-first g half.best g.start t first;
        cost_is = sum_none sum ∙ sym (half.sum ∙ ap (λ xs. sum ⊕ all_costs g xs) none);
        rules_are = sym (half.whole ∙ ap (λ xs. rules ++ all_lists xs) none ∙ append-nil rules);
      }

pub none_of : (o : Option Item) (b : Bool) → is_some o ≡ not b → b ≡ true → None ≡ o
none_of None b h k = refl
none_of (Some item) true h k = cc
none_of (Some item) false h k = cc

pub some_of : (o : Option Item) (b : Bool) → is_some o ≡ not b → b ≡ false → (item : Item) × (Some item ≡ o)
some_of None true h k = cc
some_of None false h k = cc
some_of (Some item) b h k = (item, refl)
