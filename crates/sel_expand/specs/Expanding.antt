-- The expansion of a cover.
use Rattle.std.specs.Prelude.{◌≡◌, ℕ, ◌<◌, ◌≤◌, List, length}
use Rattle.sel_grammar.specs.declared.grammar.Grammar.{Grammar}
use Rattle.sel_grammar.specs.Costs.{Cost}
use Rattle.sel_grammar.specs.PlainTrees.{PlainTree}
use Rattle.sel_grammar.specs.Derivations.{Derivation, Derives, list}
use Rattle.sel_grammar.specs.Expansions.{Text, text_bytes, expanded, expanded_bytes}
use Rattle.sel_forest.specs.declared.forest.Tree.{Tree}
use Rattle.sel_forest.specs.Covers.{IsCover}
use Rattle.sel_forest.specs.Postorder.{IsPostorderOf}

-- how many bytes the text of one expansion may have
abbrev pub longest_text : ℕ
longest_text = 1048576

-- the rules are the list of a derivation of the tree from the start symbol
abbrev pub IsCovered : Grammar → Tree → List ℕ → Type 0
IsCovered g tree rules = (t : PlainTree) → IsPostorderOf tree t → (c : Cost) × IsCover g t rules c

-- a derivation of the tree from the start symbol, of which these rules are the list
pub record IsDerivationBy (g : Grammar) (tree : Tree) (rules : List ℕ) (t : PlainTree) (d : Derivation) : Type 0 where
  pub spelled : IsPostorderOf tree t
  pub derives : Derives g d g.start t
  pub listed : list d ≡ rules

-- the derivation expands to these bytes, and they aren't too many
abbrev pub IsText : Grammar → Tree → List ℕ → List ℕ → Type 0
IsText g tree rules bytes = (t : PlainTree) (d : Derivation) → IsDerivationBy g tree rules t d → (bytes ≡ expanded_bytes g d t) × (length bytes ≤ longest_text)

-- the derivation expands to more bytes than a text may have
abbrev pub IsTooLong : Grammar → Tree → List ℕ → Type 0
IsTooLong g tree rules = (t : PlainTree) (d : Derivation) → IsDerivationBy g tree rules t d → longest_text < length (expanded_bytes g d t)

-- the derivation expands to this text, and its bytes aren't too many
abbrev pub IsEmitted : Grammar → Tree → List ℕ → Text → Type 0
IsEmitted g tree rules text = (t : PlainTree) (d : Derivation) → IsDerivationBy g tree rules t d → (text ≡ expanded g d t) × (length (text_bytes text) ≤ longest_text)
