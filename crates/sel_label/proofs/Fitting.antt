-- What a node is labelled by, where the nodes before it have labels: its key, and what `label` asks of its caller.
use Rattle.std.proofs.Common.{◌≡◌, ℕ, ◌⊎◌, inl, inr, ◌<◌, ◌≤◌, ◌<ℤ◌, ◌≤ℤ◌, ℤ, pos, ◌==◌, if◌then◌else◌, false, Option, Some, None, List, [], ◌∷◌, length, refl, ap, sym, ◌∙◌, subst, slice_get, arith}
use Rattle.std.specs.Prelude.{neg_ℤ, ◌^◌}
use Rattle.std.proofs.lemmas.Int.{ints}
use Rattle.sel_grammar.specs.declared.grammar.Attribute.{Attribute}
use Rattle.sel_grammar.specs.declared.grammar.Attribute.TheVariants.{Absent, Number, Symbol}
use Rattle.sel_grammar.specs.declared.grammar.Grammar.{Grammar}
use Rattle.sel_grammar.specs.PlainTrees.{PlainTree, Node0, Node1, Node2, attribute_of, size}
use Rattle.sel_forest.specs.declared.forest.Node.{Node}
use Rattle.sel_forest.specs.Limits.{most_nodes}
use Rattle.sel_forest.specs.Places.{IsRootAt}
use Rattle.sel_forest.specs.Valid.{IsOver, IsAttribute}
use Rattle.sel_forest.proofs.Matching.{some_same}
use Rattle.sel_range.specs.Classes.{class_of}
use Rattle.sel_range.specs.Limits.{IsAttributeValue, least_number, greatest_number}
use Rattle.sel_items.specs.declared.items.Items.{Items}
use Rattle.sel_items.specs.declared.label.Label.{Label}
use Rattle.sel_items.specs.Automata.{Told}
use Rattle.sel_items.specs.Follows.{key_of}
use Rattle.sel_items.specs.ItemsOf.{IsKeyOf, attribute_number}
use Rattle.sel_items.specs.Labels.{IsNumbered, AreNumbered, KidsAre, AreKidSets, IsClassOver, HasLawfulKids}
use Rattle.sel_items.specs.Laws.{IsAcceptedForm}
use Rattle.sel_items.specs.Tabled.{IsTabled}
use Rattle.sel_items.proofs.KidSetLaws.{items_are_kid_sets}
use Rattle.sel_label.specs.Labelling.{StandsBelow, LabelAt, IsOfNumber, AreHeldBelow, AreNumberedBelow, AreAllNumbered}
use Rattle.sel_label.specs.Fronts.{IsNodeLabelled, AreLabelledTo}
use Rattle.sel_label.proofs.Arities.{lawful_none, lawful_one, lawful_two}
use Rattle.sel_label.proofs.Keys.{only_none, only_one, only_two}

-- what a call of `label` is given
pub record Asked : Type 0 where
  pub operator : ℕ
  pub class : ℕ
  pub first : Option Label
  pub second : Option Label

pub same_asked : (a b : Asked) → a.operator ≡ b.operator → a.class ≡ b.class → a.first ≡ b.first → a.second ≡ b.second → a ≡ b
same_asked a b h h' h'' h''' = λ i. record { operator = h i; class = h' i; first = h'' i; second = h''' i }

-- a number that a text can spell is an attribute's
z_low : (z : ℤ) → neg_ℤ (pos (2 ^ 63)) ≤ℤ z → least_number ≤ℤ z
z_low z h = omega (arith, ints)

z_high : (z : ℤ) → z <ℤ pos (2 ^ 63) → z ≤ℤ greatest_number
z_high z h = omega (arith, ints)

pub attribute_value : (a : Attribute) → IsAttribute a → IsAttributeValue (attribute_number a)
attribute_value Absent h = tt
attribute_value (Number z) h = record { low = z_low z h.0; high = z_high z h.1 }
attribute_value (Symbol name) h = tt

pub root_value : (g : Grammar) (u : PlainTree) → IsOver g u → IsAttributeValue (attribute_number (attribute_of u))
root_value g (Node0 op a) h = attribute_value a h.1
root_value g (Node1 op a t) h = attribute_value a h.1
root_value g (Node2 op a t u) h = attribute_value a h.1

module _ (g : Grammar) (nodes : List Node) (told : Told) (labels : List Label) where
  -- the call is the node's at i, whose tree is u
  pub record Fits (i : ℕ) (u : PlainTree) (asked : Asked) : Type 0 where
    pub kids : List Items
    pub are : KidsAre told.means asked.first asked.second kids
    pub only : (is : List Items) → KidsAre told.means asked.first asked.second is → is ≡ kids
    pub key : IsKeyOf g u (key_of asked.operator asked.class kids)
    pub sets : AreKidSets told.normal kids
    pub over : IsClassOver told.normal asked.class asked.first
    pub lawful : HasLawfulKids told.normal asked.operator asked.first asked.second
    pub below : AreNumbered asked.first asked.second → AreHeldBelow g (IsOfNumber told) u × AreNumberedBelow nodes labels i u
    pub tabled : told.used_up ≡ false → IsTabled g u → AreNumbered asked.first asked.second
    pub all : AreAllNumbered labels → AreNumbered asked.first asked.second

  -- what is asked for a node
  abbrev pub asked_of : Node → Asked
  asked_of node = record {
    operator = node.operator;
    class = if node.kids == 0 then class_of told.normal.tests (attribute_number node.attribute) else 0;
    first = if node.kids == 0 then None else slice_get labels node.left;
    second = if node.kids == 2 then slice_get labels node.right else None;
  }

  module _ (accepted : IsAcceptedForm g told.normal) (one : (l : Label) (i j : Items) → told.means l i → told.means l j → i ≡ j) (labelled : AreLabelledTo g nodes told labels) where
    -- a node below a numbered kid's, or the kid itself
    branch : (at : ℕ) (t : PlainTree) (l : Label) → LabelAt labels at l → IsNumbered l → AreNumberedBelow nodes labels at t
        → (at' j : ℕ) (v : PlainTree) (m : Label) → at ≡ at' → ((at' ≡ j) × (t ≡ v)) ⊎ StandsBelow nodes at' t j v → LabelAt labels j m → IsNumbered m
    branch at t l is n below at' j v m e (inl s) here = subst IsNumbered (some_same (sym is ∙ ap (slice_get labels) (e ∙ s.0) ∙ here)) n
    branch at t l is n below at' j v m e (inr s) here = below j v m (subst (λ x. StandsBelow nodes x t j v) (sym e) s) here

    below_one : (i op : ℕ) (a : Attribute) (t : PlainTree) (l : Label) (node : Node) → slice_get nodes i ≡ Some node → LabelAt labels node.left l → IsNumbered l
        → AreNumberedBelow nodes labels node.left t → AreNumberedBelow nodes labels i (Node1 op a t)
    below_one i op a t l node get is n below j v m (node', get', s) here =
        let q : node.left ≡ node'.left = ap (λ (x : Node). x.left) (some_same (sym get ∙ get')) in
        branch node.left t l is n below node'.left j v m q s here

    below_two : (i op : ℕ) (a : Attribute) (t u : PlainTree) (l k : Label) (node : Node) → slice_get nodes i ≡ Some node → LabelAt labels node.left l → LabelAt labels node.right k
        → IsNumbered l → IsNumbered k → AreNumberedBelow nodes labels node.left t → AreNumberedBelow nodes labels node.right u → AreNumberedBelow nodes labels i (Node2 op a t u)
    below_two i op a t u l k node get is is' n n' below below' j v m (node', get', s) here =
        let q : node ≡ node' = some_same (sym get ∙ get') in
        go (ap (λ (x : Node). x.left) q) (ap (λ (x : Node). x.right) q) s
      where
        go : node.left ≡ node'.left → node.right ≡ node'.right
            → (((node'.left ≡ j) × (t ≡ v)) ⊎ StandsBelow nodes node'.left t j v) ⊎ (((node'.right ≡ j) × (u ≡ v)) ⊎ StandsBelow nodes node'.right u j v) → IsNumbered m
        go e f (inl s) = branch node.left t l is n below node'.left j v m e s here
        go e f (inr s) = branch node.right u k is' n' below' node'.right j v m f s here

    none_fits : (i op : ℕ) (a : Attribute) (node : Node) → IsOver g (Node0 op a) → node.operator ≡ op → node.kids ≡ 0 → node.attribute ≡ a → Fits i (Node0 op a) (asked_of node)
    none_fits i op a node over is kids at =
        subst (Fits i (Node0 op a))
        (same_asked made (asked_of node) (sym is)
        (ap (λ x. class_of told.normal.tests (attribute_number x)) (sym at) ∙ ap (λ (k : ℕ). if k == 0 then class_of told.normal.tests (attribute_number node.attribute) else 0) (sym kids))
        (ap (λ (k : ℕ). if k == 0 then None else slice_get labels node.left) (sym kids))
        (ap (λ (k : ℕ). if k == 2 then slice_get labels node.right else None) (sym kids)))
        (record {
          kids = [];
          are = tt;
          only = only_none told.means one;
          key = (refl, ap (λ ts. class_of ts (attribute_number a)) (accepted.form).tests, refl);
          sets = tt;
          over = (attribute_number a, attribute_value a over.1, refl);
          lawful = lawful_none g told.normal accepted.lawful accepted.form op over.0;
          below = λ n. (tt, (λ j v m s. absurd s));
          tabled = λ e t. (tt, tt);
          all = λ h. (tt, tt);
        })
      where
        made : Asked
        made = record { operator = op; class = class_of told.normal.tests (attribute_number a); first = None; second = None }

    one_fits : (i op : ℕ) (a : Attribute) (t : PlainTree) (node : Node) → i ≤ length labels → IsOver g (Node1 op a t) → size (Node1 op a t) ≤ most_nodes
        → slice_get nodes i ≡ Some node → node.operator ≡ op → node.kids ≡ 1 → node.left < i → IsRootAt nodes node.left t → Fits i (Node1 op a t) (asked_of node)
    one_fits i op a t node few over small get is kids lt root = go (labelled node.left t (omega arith) root)
      where
        go : (l : Label) × LabelAt labels node.left l × IsNodeLabelled g nodes told labels node.left t l → Fits i (Node1 op a t) (asked_of node)
        go (l, at, says) =
            subst (Fits i (Node1 op a t))
            (same_asked (record { operator = op; class = 0; first = Some l; second = None }) (asked_of node) (sym is)
            (ap (λ (k : ℕ). if k == 0 then class_of told.normal.tests (attribute_number node.attribute) else 0) (sym kids))
            (sym at ∙ ap (λ (k : ℕ). if k == 0 then None else slice_get labels node.left) (sym kids))
            (ap (λ (k : ℕ). if k == 2 then slice_get labels node.right else None) (sym kids)))
            (record {
              kids = says.items ∷ [];
              are = says.meant;
              only = only_one told.means one l says.items says.meant;
              key = (refl, refl, (says.items, refl, says.is));
              sets = (items_are_kid_sets g told.normal t says.items accepted (omega arith) says.is, tt);
              over = refl;
              lawful = lawful_one g told.normal accepted.lawful accepted.form op l over.0;
              below = λ n. let x = says.numbered n.0 in (((says.items, says.is, x.0), x.1), below_one i op a t l node get at n.0 x.2);
              tabled = λ e h. (says.tabled e h.1, tt);
              all = λ h. (h node.left l at, tt);
            })

    two_fit : (i op : ℕ) (a : Attribute) (t u : PlainTree) (node : Node) → i ≤ length labels → IsOver g (Node2 op a t u) → size (Node2 op a t u) ≤ most_nodes
        → slice_get nodes i ≡ Some node → node.operator ≡ op → node.kids ≡ 2 → node.left < i → node.right < i → IsRootAt nodes node.left t → IsRootAt nodes node.right u → Fits i (Node2 op a t u) (asked_of node)
    two_fit i op a t u node few over small get is kids lt lt' root root' = go (labelled node.left t (omega arith) root) (labelled node.right u (omega arith) root')
      where
        go : (l : Label) × LabelAt labels node.left l × IsNodeLabelled g nodes told labels node.left t l
            → (k : Label) × LabelAt labels node.right k × IsNodeLabelled g nodes told labels node.right u k → Fits i (Node2 op a t u) (asked_of node)
        go (l, at, says) (k, at', says') =
            subst (Fits i (Node2 op a t u))
            (same_asked (record { operator = op; class = 0; first = Some l; second = Some k }) (asked_of node) (sym is)
            (ap (λ (k : ℕ). if k == 0 then class_of told.normal.tests (attribute_number node.attribute) else 0) (sym kids))
            (sym at ∙ ap (λ (k : ℕ). if k == 0 then None else slice_get labels node.left) (sym kids))
            (sym at' ∙ ap (λ (k : ℕ). if k == 2 then slice_get labels node.right else None) (sym kids)))
            (record {
              kids = says.items ∷ says'.items ∷ [];
              are = (says.meant, says'.meant);
              only = only_two told.means one l k says.items says'.items says.meant says'.meant;
              key = (refl, refl, (says.items, says'.items, refl, says.is, says'.is));
              sets = (items_are_kid_sets g told.normal t says.items accepted (omega arith) says.is, (items_are_kid_sets g told.normal u says'.items accepted (omega arith) says'.is, tt));
              over = refl;
              lawful = lawful_two g told.normal accepted.lawful accepted.form op l k over.0;
              below = λ n.
                  let x = says.numbered n.0 in
                  let y = says'.numbered n.1 in (
                    ((says.items, says.is, x.0), (says'.items, says'.is, y.0), x.1, y.1),
                    below_two i op a t u l k node get at at' n.0 n.1 x.2 y.2,
                  );
              tabled = λ e h. (says.tabled e h.1, says'.tabled e h.2);
              all = λ h. (h node.left l at, h node.right k at');
            })

    pub fits : (i : ℕ) (u : PlainTree) (node : Node) → i ≤ length labels → slice_get nodes i ≡ Some node → IsRootAt nodes i u → IsOver g u → size u ≤ most_nodes → Fits i u (asked_of node)
    fits i (Node0 op a) node few get (node', get', is, kids, at) over small =
        let q : node ≡ node' = some_same (sym get ∙ get') in
        subst (λ n. Fits i (Node0 op a) (asked_of n)) (sym q) (none_fits i op a node' over is kids at)
    fits i (Node1 op a t) node few get (node', get', is, kids, at, w) over small =
        let q : node ≡ node' = some_same (sym get ∙ get') in
        subst (λ n. Fits i (Node1 op a t) (asked_of n)) (sym q) (one_fits i op a t node' few over small get' is kids w.0 w.1)
    fits i (Node2 op a t u) node few get (node', get', is, kids, at, w) over small =
        let q : node ≡ node' = some_same (sym get ∙ get') in
        subst (λ n. Fits i (Node2 op a t u) (asked_of n)) (sym q) (two_fit i op a t u node' few over small get' is kids w.0 w.1 w.2 w.3)
