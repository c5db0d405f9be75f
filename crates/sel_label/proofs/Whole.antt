-- Labels of as many first nodes as there are say all that labels of a tree do.
use Rattle.std.proofs.Common.{◌≡◌, ℕ, ◌<◌, List, length, sym, ◌∙◌, subst}
use Rattle.std.proofs.lemmas.Option.{slice_get_within}
use Rattle.sel_grammar.specs.declared.grammar.Grammar.{Grammar}
use Rattle.sel_grammar.specs.PlainTrees.{PlainTree}
use Rattle.sel_forest.specs.declared.forest.Node.{Node}
use Rattle.sel_forest.specs.Places.{IsRootAt}
use Rattle.sel_forest.proofs.Matching.{some_same, within}
use Rattle.sel_items.specs.declared.label.Label.{Label}
use Rattle.sel_items.specs.Automata.{Told}
use Rattle.sel_label.specs.Labelling.{LabelAt, AreLabelled}
use Rattle.sel_label.specs.Fronts.{IsNodeLabelled, AreLabelledTo}

module _ (g : Grammar) (nodes : List Node) (told : Told) (labels : List Label)
    (long : length labels ≡ length nodes) (labelled : AreLabelledTo g nodes told labels) where
  says : (i : ℕ) (u : PlainTree) (l : Label) → IsRootAt nodes i u → LabelAt labels i l → IsNodeLabelled g nodes told labels i u l
  says i u l root at =
      let x = labelled i u (slice_get_within labels i l at) root in
      subst (λ m. IsNodeLabelled g nodes told labels i u m) (some_same (sym x.1 ∙ at)) x.2

  some_label : (i : ℕ) (u : PlainTree) → IsRootAt nodes i u → (l : Label) × LabelAt labels i l × IsNodeLabelled g nodes told labels i u l
  some_label i u root = labelled i u (subst (λ n. i < n) (sym long) (within nodes i u root)) root

  pub whole : AreLabelled g nodes told labels
  whole = record {
    long = long;
    mean = λ i u root. let x = some_label i u root in (x.0, x.1, ((x.2).items, (x.2).meant, (x.2).is));
    numbered = λ i u l root at n. let s = says i u l root at in let y = s.numbered n in ((s.items, s.is, (y.0).0), y.2);
    tabled = λ e i u l root t at. (says i u l root at).tabled e t;
    known_keys = λ e f i u k root t is. ((some_label i u root).2).known_key e f t k is;
  }
