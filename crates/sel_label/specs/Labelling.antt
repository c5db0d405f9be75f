-- What the labels of a tree's nodes say.
use Rattle.std.specs.Prelude.{◌≡◌, ◌≤◌, ℕ, ◌⊎◌, false, Some, List, length, slice_get}
use Rattle.sel_grammar.specs.declared.grammar.Grammar.{Grammar}
use Rattle.sel_grammar.specs.PlainTrees.{PlainTree, Node0, Node1, Node2}
use Rattle.sel_forest.specs.declared.forest.Node.{Node}
use Rattle.sel_forest.specs.Places.{IsRootAt}
use Rattle.sel_items.specs.declared.items.Items.{Items}
use Rattle.sel_items.specs.declared.label.Label.{Label}
use Rattle.sel_items.specs.declared.label.Label.TheVariants.{Numbered}
use Rattle.sel_items.specs.Automata.{Told}
use Rattle.sel_items.specs.Follows.{NodeKey, Follows}
use Rattle.sel_items.specs.ItemsOf.{IsItemsOf, IsKeyOf}
use Rattle.sel_items.specs.Labels.{IsNumbered}
use Rattle.sel_items.specs.Tabled.{IsTabled}

-- the node at i has the label
abbrev pub LabelAt : List Label → ℕ → Label → Type 0
LabelAt labels i l = (slice_get labels i ≡ Some l)

-- Each node has a label that means the item set of its subtree.
abbrev pub LabelsMean : Grammar → (Label → Items → Type 0) → List Node → List Label → Type 0
LabelsMean g means nodes labels = (i : ℕ) (u : PlainTree) → IsRootAt nodes i u → (l : Label) × LabelAt labels i l × ((items : Items) × means l items × IsItemsOf g u items)

-- the tree u, whose root is the node j, is below the tree whose root is the node i
abbrev pub StandsBelow : List Node → ℕ → PlainTree → ℕ → PlainTree → Type 0
StandsBelow nodes i (Node0 op a) j u = ⊥
StandsBelow nodes i (Node1 op a t) j u =
    (node : Node) × (slice_get nodes i ≡ Some node) × (((node.left ≡ j) × (t ≡ u)) ⊎ StandsBelow nodes node.left t j u)
StandsBelow nodes i (Node2 op a t v) j u =
    (node : Node) × (slice_get nodes i ≡ Some node)
    × ((((node.left ≡ j) × (t ≡ u)) ⊎ StandsBelow nodes node.left t j u) ⊎ (((node.right ≡ j) × (v ≡ u)) ⊎ StandsBelow nodes node.right v j u))

-- the item set of the tree is held
abbrev pub IsHeld : Grammar → (Items → Type 0) → PlainTree → Type 0
IsHeld g held t = (i : Items) × IsItemsOf g t i × held i

-- the item set is held, and a numbered label means it
abbrev pub IsOfNumber : Told → Items → Type 0
IsOfNumber told i = told.held i × ((n : ℕ) × told.means (Numbered n) i)

-- the item set of each node below the tree's root is
abbrev pub AreHeldBelow : Grammar → (Items → Type 0) → PlainTree → Type 0
AreHeldBelow g held (Node0 op a) = Unit {0}
AreHeldBelow g held (Node1 op a t) = IsHeld g held t × AreHeldBelow g held t
AreHeldBelow g held (Node2 op a t u) = IsHeld g held t × IsHeld g held u × AreHeldBelow g held t × AreHeldBelow g held u

-- all nodes below the node have numbered labels
abbrev pub AreNumberedBelow : List Node → List Label → ℕ → PlainTree → Type 0
AreNumberedBelow nodes labels i u = (j : ℕ) (v : PlainTree) (m : Label) → StandsBelow nodes i u j v → LabelAt labels j m → IsNumbered m

-- where a node's label is numbered, its item set is held, and all nodes below it have numbered labels
abbrev pub NumberedAreHeld : Grammar → (Items → Type 0) → List Node → List Label → Type 0
NumberedAreHeld g held nodes labels = (i : ℕ) (u : PlainTree) (l : Label) → IsRootAt nodes i u → LabelAt labels i l → IsNumbered l → IsHeld g held u × AreNumberedBelow nodes labels i u

-- each tabled node has a numbered label
abbrev pub TabledAreNumbered : Grammar → List Node → List Label → Type 0
TabledAreNumbered g nodes labels = (i : ℕ) (u : PlainTree) (l : Label) → IsRootAt nodes i u → IsTabled g u → LabelAt labels i l → IsNumbered l

-- each tabled node's key is known
abbrev pub TabledAreKnown : Grammar → List Node → (NodeKey → Type 0) → Type 0
TabledAreKnown g nodes known = (i : ℕ) (u : PlainTree) (k : NodeKey) → IsRootAt nodes i u → IsTabled g u → IsKeyOf g u k → known k

-- What labels say of the nodes of a tree, where `told` is told behind the labelling.
pub record AreLabelled (g : Grammar) (nodes : List Node) (told : Told) (labels : List Label) : Type 0 where
  pub long : length labels ≡ length nodes
  pub mean : LabelsMean g told.means nodes labels
  pub numbered : NumberedAreHeld g told.held nodes labels
  pub tabled : told.used_up ≡ false → TabledAreNumbered g nodes labels
  pub known_keys : told.used_up ≡ false → told.row_full ≡ false → TabledAreKnown g nodes told.known

-- the key is one of a node of the tree, below which all item sets are held
abbrev pub IsAskedKey : Grammar → (Items → Type 0) → List Node → NodeKey → Type 0
IsAskedKey g held nodes k = (i : ℕ) × ((u : PlainTree) × IsRootAt nodes i u × IsKeyOf g u k × AreHeldBelow g held u)

-- each key that was added is one of a node of the tree, below which all item sets are held
abbrev pub AddsHeldKeys : Grammar → (Items → Type 0) → List Node → (NodeKey → Type 0) → (NodeKey → Type 0) → Type 0
AddsHeldKeys g held nodes old new = (k : NodeKey) → new k → old k ⊎ IsAskedKey g held nodes k

-- each key that was added is one of a node of the tree below which all labels are numbered
abbrev pub AddsNumberedKeys : Grammar → List Node → List Label → (NodeKey → Type 0) → (NodeKey → Type 0) → Type 0
AddsNumberedKeys g nodes labels old new = (k : NodeKey) → new k → old k ⊎ ((i : ℕ) × ((u : PlainTree) × IsRootAt nodes i u × IsKeyOf g u k × AreNumberedBelow nodes labels i u))

-- each key that was added is one of a node of the tree
abbrev pub AddsKeysOf : Grammar → List Node → (NodeKey → Type 0) → (NodeKey → Type 0) → Type 0
AddsKeysOf g nodes old new = (k : NodeKey) → new k → old k ⊎ ((i : ℕ) × ((u : PlainTree) × IsRootAt nodes i u × IsKeyOf g u k))

-- What labelling the tree adds to what is told: keys of its nodes alone are asked and known, those that are asked are of nodes below which all item sets are held and of numbers, nothing is held but what follows from an asked key, and there are no more plain labels than nodes.
pub record AddsOfTree (g : Grammar) (nodes : List Node) (old new : Told) : Type 0 where
  pub asked : AddsHeldKeys g (IsOfNumber new) nodes old.asked new.asked
  pub known : AddsKeysOf g nodes old.known new.known
  pub held : (i : Items) → new.held i → old.held i ⊎ ((k : NodeKey) × (old.asked k ⊎ IsAskedKey g (IsOfNumber new) nodes k) × Follows new.normal k i)
  pub plain_labels : new.plain_labels ≤ length nodes

-- each label is numbered
abbrev pub AreAllNumbered : List Label → Type 0
AreAllNumbered labels = (i : ℕ) (l : Label) → LabelAt labels i l → IsNumbered l

-- the key of each node is ready
abbrev pub AreAllReady : Grammar → List Node → Told → Type 0
AreAllReady g nodes told = (i : ℕ) (u : PlainTree) (k : NodeKey) → IsRootAt nodes i u → IsKeyOf g u k → told.ready k
