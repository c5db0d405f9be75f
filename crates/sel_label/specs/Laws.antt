-- Laws of labels.
use Rattle.std.specs.Prelude.{◌≡◌, ℕ, List, length, count_by}
use Rattle.sel_grammar.specs.declared.grammar.Grammar.{Grammar}
use Rattle.sel_grammar.specs.PlainTrees.{PlainTree}
use Rattle.sel_forest.specs.declared.forest.Node.{Node}
use Rattle.sel_forest.specs.Places.{IsRootAt}
use Rattle.sel_items.specs.declared.label.Label.{Label}
use Rattle.sel_items.specs.Labels.{is_plain, IsNumbered}
use Rattle.sel_items.specs.Tabled.{IsTabled}
use Rattle.sel_items.specs.Words.{FitsWords}
use Rattle.sel_label.specs.Labelling.{LabelAt, NumberedAreHeld, AreAllNumbered}

-- Where each numbered node's item set fits words, and all nodes below one are numbered, a numbered node is tabled.
abbrev pub NumberedAreTabled : Type 0
NumberedAreTabled = (g : Grammar) (nodes : List Node) (labels : List Label) (i : ℕ) (u : PlainTree) (l : Label) → length labels ≡ length nodes → NumberedAreHeld g FitsWords nodes labels
    → IsRootAt nodes i u → LabelAt labels i l → IsNumbered l → IsTabled g u

-- Where all labels are numbered, none is plain.
abbrev pub NumberedAreNotPlain : Type 0
NumberedAreNotPlain = (labels : List Label) → AreAllNumbered labels → count_by is_plain labels ≡ 0
