-- What is best at an inner operator place of a pattern: the part lies over the tree, and of all derivations of the subtrees below it these cost least, or have the first lists.
use Rattle.std.specs.Prelude.{◌≡◌, ℕ, ◌⊎◌, Some, List}
use Rattle.sel_grammar.specs.declared.grammar.Grammar.{Grammar}
use Rattle.sel_grammar.specs.declared.grammar.Pattern.{Pattern}
use Rattle.sel_grammar.specs.Costs.{IsCheaper}
use Rattle.sel_grammar.specs.PlainTrees.{PlainTree}
use Rattle.sel_grammar.specs.Fits.{leaves, subtrees}
use Rattle.sel_grammar.specs.Derivations.{Derivations, DeriveAll, costs, lists}
use Rattle.sel_grammar.specs.Best.{IsLexLess}

-- the pattern's part lies over the tree, and these derive the subtrees from its leaves
abbrev pub PartDerives : Grammar → Derivations → Pattern → PlainTree → Type 0
PartDerives g ds part t = (ts : List PlainTree) × (subtrees part t ≡ Some ts) × DeriveAll g ds (leaves part) ts

-- ds cost less than es, or the same and have the lesser lists
abbrev pub BeatAll : Grammar → Derivations → Derivations → Type 0
BeatAll g ds es = IsCheaper (costs g ds) (costs g es) ⊎ ((costs g ds ≡ costs g es) × IsLexLess (lists ds) (lists es))

-- the best at a part
pub record IsBestPart (g : Grammar) (ds : Derivations) (part : Pattern) (t : PlainTree) : Type 0 where
  pub derives : PartDerives g ds part t
  pub beats : (es : Derivations) → PartDerives g es part t → (es ≡ ds) ⊎ BeatAll g ds es

-- nothing derives the tree at the part
abbrev pub HasNoPart : Grammar → Pattern → PlainTree → Type 0
HasNoPart g part t = (es : Derivations) → PartDerives g es part t → ⊥
