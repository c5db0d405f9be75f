-- What a reducer is given of a labelled tree.
use Rattle.std.specs.Prelude.{◌≡◌, List, length}
use Rattle.sel_grammar.specs.declared.grammar.Grammar.{Grammar}
use Rattle.sel_forest.specs.declared.forest.Tree.{Tree}
use Rattle.sel_items.specs.declared.items.Items.{Items}
use Rattle.sel_items.specs.declared.label.Label.{Label}
use Rattle.sel_label.specs.Labelling.{LabelsMean}

-- Each node of the tree has a label, and it means the item set of the node's subtree.
pub record IsLabelling (g : Grammar) (means : Label → Items → Type 0) (tree : Tree) (labels : List Label) : Type 0 where
  pub long : length labels ≡ length tree.nodes
  pub mean : LabelsMean g means tree.nodes labels
