-- Valid trees and forests under a grammar.
use Rattle.std.specs.Prelude.{◌≡◌, ℕ, ◌+◌, ◌≤◌, ◌^◌, max, length, slice_get, Option, Some, None, pos, neg_ℤ, ◌≤ℤ◌, ◌<ℤ◌}
use Rattle.sel_grammar.specs.declared.grammar.Attribute.{Attribute}
use Rattle.sel_grammar.specs.declared.grammar.Attribute.TheVariants.{Absent, Number, Symbol}
use Rattle.sel_grammar.specs.declared.grammar.Grammar.{Grammar}
use Rattle.sel_grammar.specs.declared.grammar.Operator.{Operator}
use Rattle.sel_grammar.specs.PlainTrees.{PlainTree, Node0, Node1, Node2, size}
use Rattle.sel_forest.specs.declared.forest.Tree.{Tree}
use Rattle.sel_forest.specs.declared.forest.Forest.{Forest}
use Rattle.sel_forest.specs.Limits.{most_trees, most_nodes, greatest_depth}
use Rattle.sel_forest.specs.Postorder.{IsPostorderOf}
use Rattle.sel_forest.specs.Symbols.{IsSymbol}

-- how deep a tree is, the root being at depth 1
abbrev pub depth : PlainTree → ℕ
depth (Node0 op a) = 1
depth (Node1 op a t) = depth t + 1
depth (Node2 op a t u) = max (depth t) (depth u) + 1

-- an operator takes as many kids as its arity says, or none, one or two where no rule uses it
abbrev pub Takes : Option ℕ → ℕ → Type 0
Takes None kids = kids ≤ 2
Takes (Some arity) kids = kids ≡ arity

-- the operator is one of the grammar, and takes this many kids
abbrev pub IsOperatorOf : Grammar → ℕ → ℕ → Type 0
IsOperatorOf g op kids = (operator : Operator) × (slice_get g.operators op ≡ Some operator) × Takes operator.arity kids

-- a signed 64-bit number, or a symbol
abbrev pub IsAttribute : Attribute → Type 0
IsAttribute Absent = Unit {0}
IsAttribute (Number z) = (neg_ℤ (pos (2 ^ 63)) ≤ℤ z) × (z <ℤ pos (2 ^ 63))
IsAttribute (Symbol name) = IsSymbol name

-- each node of the tree has an operator of the grammar, with as many kids as that takes, and an attribute that a text can spell
abbrev pub IsOver : Grammar → PlainTree → Type 0
IsOver g (Node0 op a) = IsOperatorOf g op 0 × IsAttribute a
IsOver g (Node1 op a t) = IsOperatorOf g op 1 × IsAttribute a × IsOver g t
IsOver g (Node2 op a t u) = IsOperatorOf g op 2 × IsAttribute a × IsOver g t × IsOver g u

-- a tree over the grammar's operators, within the limits
pub record IsValidTree (g : Grammar) (tree : Tree) : Type 0 where
  pub plain : PlainTree
  pub postorder : IsPostorderOf tree plain
  pub over : IsOver g plain
  pub small : size plain ≤ most_nodes
  pub shallow : depth plain ≤ greatest_depth

pub record IsValidForest (g : Grammar) (forest : Forest) : Type 0 where
  pub trees : (k : ℕ) (tree : Tree) → slice_get forest.trees k ≡ Some tree → IsValidTree g tree
  pub few : length forest.trees ≤ most_trees
