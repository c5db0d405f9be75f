-- Rows that hold the best derivations.
use Rattle.std.specs.Prelude.{ℕ, ◌*◌, ◌<◌, Option, Some, None, List}
use Rattle.sel_grammar.specs.declared.grammar.Grammar.{Grammar}
use Rattle.sel_grammar.specs.PlainTrees.{PlainTree, size}
use Rattle.sel_grammar.specs.Derivations.{Derivations}
use Rattle.sel_grammar.specs.Best.{HasNone}
use Rattle.sel_grammar.specs.Firsts.{IsKept}
use Rattle.sel_forest.specs.declared.forest.Node.{Node}
use Rattle.sel_forest.specs.Places.{IsRootAt}
use Rattle.sel_plain.specs.declared.entry.Entry.{Entry}
use Rattle.sel_plain.specs.CostBounds.{IsUpTo, per_node}
use Rattle.sel_plain.specs.Rows.{Row, entry_at, row_at}

-- nothing derives the tree, or the entry has the best derivation's cost and first rule
abbrev pub IsBestEntry : Grammar → ℕ → PlainTree → Option Entry → Type 0
IsBestEntry g n t None = HasNone g n t
IsBestEntry g n t (Some e) = ((ds : Derivations) × IsKept g t n e.cost e.rule ds) × IsUpTo (per_node * size t) e.cost

-- and so for each nonterminal
abbrev pub IsBestRow : Grammar → PlainTree → Row → Type 0
IsBestRow g t row = (n : ℕ) → IsBestEntry g n t (entry_at row n)

-- the first m nodes have such rows
abbrev pub AreBestRows : Grammar → List Node → List Row → ℕ → Type 0
AreBestRows g nodes rows m = (i : ℕ) (t : PlainTree) → i < m → IsRootAt nodes i t → IsBestRow g t (row_at rows i)
