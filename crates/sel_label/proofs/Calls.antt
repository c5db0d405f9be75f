-- The call of `label` for the first node without a label, by what the code looked up.
use Rattle.std.proofs.Common.{◌≡◌, ℕ, ◌<◌, ◌≤◌, ◌==◌, if◌then◌else◌, Option, Some, None, List, ◌∷◌, [], ◌++◌, length, refl, ap, sym, ◌∙◌, subst, slice_get, get_or, arith}
use Rattle.std.proofs.lemmas.Option.{slice_get_read}
use Rattle.sel_base.specs.declared.range.Range.{Range}
use Rattle.sel_grammar.specs.declared.grammar.Grammar.{Grammar}
use Rattle.sel_grammar.specs.PlainTrees.{PlainTree, size}
use Rattle.sel_forest.specs.declared.forest.Node.{Node}
use Rattle.sel_forest.specs.declared.forest.Tree.{Tree}
use Rattle.sel_forest.specs.Limits.{most_nodes}
use Rattle.sel_forest.specs.Places.{IsRootAt}
use Rattle.sel_forest.specs.Valid.{IsOver, IsValidTree}
use Rattle.sel_forest.proofs.Roots.{same_tree}
use Rattle.sel_range.specs.Classes.{class_of}
use Rattle.sel_items.specs.declared.items.Items.{Items}
use Rattle.sel_items.specs.declared.label.Label.{Label}
use Rattle.sel_items.specs.Automata.{Told, IsLabelled, IsReady, KeepsMeanings, Keeps}
use Rattle.sel_items.specs.Follows.{key_of}
use Rattle.sel_items.specs.ItemsOf.{attribute_number}
use Rattle.sel_items.specs.Labels.{KidsAre}
use Rattle.sel_items.specs.Laws.{IsAcceptedForm}
use Rattle.sel_label.specs.Labelling.{AreAllNumbered, AreAllReady}
use Rattle.sel_label.specs.Fronts.{IsNodeLabelled, AreLabelledTo}
use Rattle.sel_label.proofs.Fitting.{Asked, Fits, asked_of, fits, same_asked}
use Rattle.sel_label.proofs.Growing.{labels_more}
use Rattle.sel_label.proofs.NewLabels.{new_label}
use Rattle.sel_label.proofs.NodeTrees.{valid_node}

-- the call is that of the first node without a label
pub record IsOwnCall (g : Grammar) (nodes : List Node) (told : Told) (labels : List Label) (asked : Asked) : Type 0 where
  pub tree : PlainTree
  pub root : IsRootAt nodes (length labels) tree
  pub over : IsOver g tree
  pub fits : Fits g nodes told labels (length labels) tree asked

module _ (g : Grammar) (tree : Tree) (told : Told) (labels : List Label)
    (accepted : IsAcceptedForm g told.normal) (one : (l : Label) (i j : Items) → told.means l i → told.means l j → i ≡ j) (valid : IsValidTree g tree) (labelled : AreLabelledTo g tree.nodes told labels)
    (more : length labels < length tree.nodes) where
  pub own_call : (nodes : List Node) (node : Node) (tests : List Range) (class : ℕ) (first second : Option Label) → nodes ≡ tree.nodes → node ≡ get_or nodes (length labels) node → tests ≡ told.normal.tests
      → class ≡ (if node.kids == 0 then class_of tests (attribute_number node.attribute) else 0) → first ≡ (if node.kids == 0 then None else slice_get labels node.left)
      → second ≡ (if node.kids == 2 then slice_get labels node.right else None)
      → IsOwnCall g tree.nodes told labels (record { operator = node.operator; class = class; first = first; second = second })
  own_call nodes node tests class first second same is tests_are class_is first_is second_is = record {
    tree = there.0;
    root = there.1;
    over = there.2;
    fits = subst (Fits g tree.nodes told labels (length labels) there.0) (sym asked_is)
        (fits g tree.nodes told labels accepted one labelled (length labels) there.0 node (omega arith) get there.1 there.2 there.3);
  }
    where
      there : (u : PlainTree) × IsRootAt tree.nodes (length labels) u × IsOver g u × (size u ≤ most_nodes)
      there = valid_node g tree (length labels) valid more

      get : slice_get tree.nodes (length labels) ≡ Some node
      get = ap (λ xs. slice_get xs (length labels)) (sym same) ∙ slice_get_read nodes (length nodes) (length labels) node refl (subst (λ xs. length labels < length xs) (sym same) more) is

      asked_is : (record { operator = node.operator; class = class; first = first; second = second }) ≡ asked_of g tree.nodes told labels node
      asked_is = same_asked (record { operator = node.operator; class = class; first = first; second = second }) (asked_of g tree.nodes told labels node)
          refl (class_is ∙ ap (λ ts. if node.kids == 0 then class_of ts (attribute_number node.attribute) else 0) tests_are) first_is second_is

module _ (g : Grammar) (nodes : List Node) (told told' : Told) (labels : List Label) (accepted : IsAcceptedForm g told.normal) (keeps : Keeps told told') (km : KeepsMeanings told.means told'.means)
    (a : Asked) (labelled : AreLabelledTo g nodes told labels) (own : IsOwnCall g nodes told labels a) where
  -- the label of that call is one more
  pub labelled_more : (l : Label) → ((is : List Items) → KidsAre told.means a.first a.second is → IsLabelled told' a.operator a.class a.first a.second is l) → AreLabelledTo g nodes told' (labels ++ l ∷ [])
  labelled_more l given =
      labels_more g nodes told told' keeps km labels l labelled
      (λ u root. subst (λ x. IsNodeLabelled g nodes told' (labels ++ l ∷ []) (length labels) x l) (same_tree nodes (length labels) own.tree u own.root root) new)
    where
      new : IsNodeLabelled g nodes told' (labels ++ l ∷ []) (length labels) own.tree l
      new = new_label g nodes told told' labels accepted keeps own.tree own.root own.over a own.fits l (given (own.fits).kids (own.fits).are)

-- where all labels so far are numbered and each node's key is ready, the call's is
pub own_ready : (g : Grammar) (nodes : List Node) (told : Told) (labels : List Label) (a : Asked) → IsOwnCall g nodes told labels a → AreAllNumbered labels → AreAllReady g nodes told
    → IsReady told a.operator a.class a.first a.second
own_ready g nodes told labels a own numbered ready =
    let f = own.fits in
    (key_of a.operator a.class f.kids, (f.all numbered, (f.kids, f.are, refl)), ready (length labels) own.tree (key_of a.operator a.class f.kids) own.root f.key)
