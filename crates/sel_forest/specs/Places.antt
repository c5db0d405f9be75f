-- Trees at nodes, and what lies over them.
use Rattle.std.specs.Prelude.{◌≡◌, ℕ, ◌<◌, Bool, true, false, ◌&&◌, ◌==◌, if◌then◌else◌, Option, Some, None, List, [], ◌∷◌, ◌++◌, slice_get}
use Rattle.sel_grammar.specs.declared.grammar.Rule.{Rule}
use Rattle.sel_grammar.specs.declared.grammar.Pattern.{Pattern, Leaf, Nullary, Unary', Binary', end_of-Pattern, more_of-Pattern}
use Rattle.sel_grammar.specs.PlainTrees.{PlainTree, Node0, Node1, Node2, size}
use Rattle.sel_grammar.specs.Fits.{in_range}
use Rattle.sel_forest.specs.declared.forest.Node.{Node}
use Rattle.sel_forest.specs.declared.walk.Goal.{Goal}

-- the node at i is the root of the tree, and its kids stand before it
abbrev pub IsRootAt : List Node → ℕ → PlainTree → Type 0
IsRootAt nodes i (Node0 op a) = (node : Node) × (slice_get nodes i ≡ Some node) × (node.operator ≡ op) × (node.kids ≡ 0) × (node.attribute ≡ a)
IsRootAt nodes i (Node1 op a t) =
    (node : Node) × (slice_get nodes i ≡ Some node) × (node.operator ≡ op) × (node.kids ≡ 1) × (node.attribute ≡ a) × ((node.left < i) × IsRootAt nodes node.left t)
IsRootAt nodes i (Node2 op a t u) =
    (node : Node) × (slice_get nodes i ≡ Some node) × (node.operator ≡ op) × (node.kids ≡ 2) × (node.attribute ≡ a)
    × ((node.left < i) × (node.right < i) × IsRootAt nodes node.left t × IsRootAt nodes node.right u)

abbrev pub of_node : Option Node → (Node → List Goal) → List Goal
of_node None f = []
of_node (Some node) f = f node

-- the goals under a pattern at a node, from left to right
abbrev pub goals : Pattern → List Node → ℕ → List Goal
goals (Leaf n) nodes i = record { at = i; nonterminal = n } ∷ []
goals (Nullary op) nodes i = []
goals (Unary' op s (more_of-Pattern p end_of-Pattern)) nodes i = of_node (slice_get nodes i) (λ node. goals p nodes node.left)
goals (Binary' op s (more_of-Pattern p end_of-Pattern) s' (more_of-Pattern q end_of-Pattern)) nodes i =
    of_node (slice_get nodes i) (λ node. goals p nodes node.left ++ goals q nodes node.right)

-- the node, where it has this operator and this number of kids
abbrev pub met : Option Node → ℕ → ℕ → Option Node
met None op kids = None
met (Some node) op kids = if (op == node.operator) && (kids == node.kids) then Some node else None

-- whether there is a node of which a test holds
abbrev pub has : Option Node → (Node → Bool) → Bool
has None f = false
has (Some node) f = f node

-- whether a pattern lies over the tree of a node
abbrev pub lies : Pattern → List Node → ℕ → Bool
lies (Leaf n) nodes i = true
lies (Nullary op) nodes i = has (met (slice_get nodes i) op 0) (λ node. true)
lies (Unary' op s (more_of-Pattern p end_of-Pattern)) nodes i = has (met (slice_get nodes i) op 1) (λ node. lies p nodes node.left)
lies (Binary' op s (more_of-Pattern p end_of-Pattern) s' (more_of-Pattern q end_of-Pattern)) nodes i =
    has (met (slice_get nodes i) op 2) (λ node. lies p nodes node.left && lies q nodes node.right)

-- whether a rule fits the tree of a node
abbrev pub fits_at : Rule → List Node → ℕ → Bool
fits_at rule nodes i = has (slice_get nodes i) (λ node. in_range rule.range node.attribute && lies rule.pattern nodes i)

-- each tree that stands in the nodes has fewer than n nodes
abbrev pub SizesBelow : List Node → ℕ → Type 0
SizesBelow nodes n = (i : ℕ) (t : PlainTree) → IsRootAt nodes i t → size t < n
