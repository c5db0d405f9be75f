-- What the labels of a tree's first nodes say, while others are to come.
use Rattle.std.specs.Prelude.{◌≡◌, ℕ, ◌<◌, ◌⊎◌, false, List, length}
use Rattle.sel_grammar.specs.declared.grammar.Grammar.{Grammar}
use Rattle.sel_grammar.specs.PlainTrees.{PlainTree}
use Rattle.sel_forest.specs.declared.forest.Node.{Node}
use Rattle.sel_forest.specs.Places.{IsRootAt}
use Rattle.sel_items.specs.declared.items.Items.{Items}
use Rattle.sel_items.specs.declared.label.Label.{Label}
use Rattle.sel_items.specs.Automata.{Told}
use Rattle.sel_items.specs.Follows.{NodeKey, Follows}
use Rattle.sel_items.specs.ItemsOf.{IsItemsOf, IsKeyOf}
use Rattle.sel_items.specs.Labels.{IsNumbered}
use Rattle.sel_items.specs.Tabled.{IsTabled}
use Rattle.sel_label.specs.Labelling.{LabelAt, IsOfNumber, AreHeldBelow, AreNumberedBelow, AddsKeysOf}

-- What the label of one node says, the node at i, whose tree is u.
pub record IsNodeLabelled (g : Grammar) (nodes : List Node) (told : Told) (labels : List Label) (i : ℕ) (u : PlainTree) (l : Label) : Type 0 where
  -- it means the tree's item set
  pub items : Items
  pub meant : told.means l items
  pub is : IsItemsOf g u items
  -- where it is numbered, the item set is a state's, and so are those of all nodes below, which have numbered labels too
  pub numbered : IsNumbered l → IsOfNumber told items × AreHeldBelow g (IsOfNumber told) u × AreNumberedBelow nodes labels i u
  -- a tabled node's label is numbered, and its key known, but for marks
  pub tabled : told.used_up ≡ false → IsTabled g u → IsNumbered l
  pub known_key : told.used_up ≡ false → told.row_full ≡ false → IsTabled g u → (k : NodeKey) → IsKeyOf g u k → told.known k

-- each of the first nodes, as many as there are labels, has the label at its place
abbrev pub AreLabelledTo : Grammar → List Node → Told → List Label → Type 0
AreLabelledTo g nodes told labels =
    (i : ℕ) (u : PlainTree) → i < length labels → IsRootAt nodes i u → (l : Label) × LabelAt labels i l × IsNodeLabelled g nodes told labels i u l

-- the key is one of a node before n, below which all item sets are held, and all labels numbered
abbrev pub IsKeyBefore : Grammar → (Items → Type 0) → List Node → List Label → ℕ → NodeKey → Type 0
IsKeyBefore g held nodes labels n k = (i : ℕ) × (i < n) × ((u : PlainTree) × IsRootAt nodes i u × IsKeyOf g u k × AreHeldBelow g held u × AreNumberedBelow nodes labels i u)

-- each key that was added is such a key
abbrev pub AddsKeysBefore : Grammar → (Items → Type 0) → List Node → List Label → ℕ → (NodeKey → Type 0) → (NodeKey → Type 0) → Type 0
AddsKeysBefore g held nodes labels n old new = (k : NodeKey) → new k → old k ⊎ IsKeyBefore g held nodes labels n k

-- an item set that is held was so before, or follows from a key that was asked before or is such a key
abbrev pub AddsSetsBefore : Grammar → List Node → List Label → ℕ → Told → Told → Type 0
AddsSetsBefore g nodes labels n old new = (i : Items) → new.held i → old.held i ⊎ ((k : NodeKey) × (old.asked k ⊎ IsKeyBefore g (IsOfNumber new) nodes labels n k) × Follows new.normal k i)

-- What labelling the first nodes, before n, adds to what is told.
pub record AddsBefore (g : Grammar) (nodes : List Node) (labels : List Label) (n : ℕ) (old new : Told) : Type 0 where
  pub asked : AddsKeysBefore g (IsOfNumber new) nodes labels n old.asked new.asked
  pub known : AddsKeysOf g nodes old.known new.known
  pub held : AddsSetsBefore g nodes labels n old new
