-- How many nodes of trees aren't tabled.
use Rattle.std.specs.Prelude.{◌≡◌, ℕ, ◌-◌, ◌^◌, Some, List, [], ◌∷◌, slice_get, min}
use Rattle.sel_grammar.specs.declared.grammar.Grammar.{Grammar}
use Rattle.sel_grammar.specs.PlainTrees.{PlainTree}
use Rattle.sel_forest.specs.declared.forest.Tree.{Tree}
use Rattle.sel_forest.specs.Places.{IsRootAt}
use Rattle.sel_items.specs.Tabled.{IsTabled}
use Rattle.sel_count.specs.Counts.{CountIs}

-- the node at i isn't tabled
abbrev pub IsUntabledAt : Grammar → Tree → ℕ → Type 0
IsUntabledAt g tree i = (u : PlainTree) × IsRootAt tree.nodes i u × (IsTabled g u → ⊥)

-- so it is with the second number's node in the tree of the first number
abbrev pub IsUntabledPlace : Grammar → List Tree → ℕ × ℕ → Type 0
IsUntabledPlace g trees p = (tree : Tree) × (slice_get trees p.0 ≡ Some tree) × IsUntabledAt g tree p.1

-- the count is that of the nodes of the trees that aren't tabled, or the greatest number of 64 bits where that is less
abbrev pub CountsUntabled : Grammar → List Tree → ℕ → Type 0
CountsUntabled g trees count = (n : ℕ) × CountIs (IsUntabledPlace g trees) n × (count ≡ min n (2 ^ 64 - 1))

-- the trees of these numbers in the list, one for each, in their order
abbrev pub AreTreesAt : List Tree → List ℕ → List Tree → Type 0
AreTreesAt trees [] [] = Unit {0}
AreTreesAt trees (n ∷ ns) (t ∷ ts) = (slice_get trees n ≡ Some t) × AreTreesAt trees ns ts
AreTreesAt trees _ _ = ⊥
