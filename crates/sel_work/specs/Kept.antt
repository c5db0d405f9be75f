-- What is kept of a labelled tree.
use Rattle.std.specs.Prelude.{◌≡◌, ℕ, false, List, count_by}
use Rattle.sel_grammar.specs.declared.grammar.Grammar.{Grammar}
use Rattle.sel_grammar.specs.PlainTrees.{PlainTree}
use Rattle.sel_forest.specs.declared.forest.Node.{Node}
use Rattle.sel_forest.specs.Places.{IsRootAt}
use Rattle.sel_items.specs.declared.label.Label.{Label}
use Rattle.sel_items.specs.Automata.{Told}
use Rattle.sel_items.specs.Labels.{is_plain}
use Rattle.sel_items.specs.Tabled.{IsTabled}
use Rattle.sel_label.specs.Labelling.{IsHeld, TabledAreKnown, AreLabelled}

-- where the automaton isn't used up, each tabled node's item set is held, and without a mark its key is known
pub record AreTabledKept (g : Grammar) (nodes : List Node) (told : Told) : Type 0 where
  pub sets : told.used_up ≡ false → (i : ℕ) (u : PlainTree) → IsRootAt nodes i u → IsTabled g u → IsHeld g told.held u
  pub keys : told.used_up ≡ false → told.row_full ≡ false → TabledAreKnown g nodes told.known

-- The nodes have labels, of which so many are plain.
pub record IsPlainCount (g : Grammar) (nodes : List Node) (told : Told) (n : ℕ) : Type 0 where
  pub labels : List Label
  pub labelled : AreLabelled g nodes told labels
  pub count : n ≡ count_by is_plain labels
