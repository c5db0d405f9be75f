-- Goals of normal nonterminals at nodes, and what a stack of them stands for.
use Rattle.std.specs.Prelude.{◌≡◌, ℕ, ◌+◌, ◌<◌, ◌⊎◌, nat_le, if◌then◌else◌, Option, Some, None, List, [], ◌∷◌, ◌++◌, reverse, length, slice_get, pos, ◌≤ℤ◌}
use Rattle.sel_grammar.specs.declared.grammar.Grammar.{Grammar}
use Rattle.sel_grammar.specs.declared.grammar.Pattern.{Pattern, Leaf}
use Rattle.sel_grammar.specs.Costs.{Cost, no_cost, ◌⊕◌, paid}
use Rattle.sel_grammar.specs.PlainTrees.{PlainTree}
use Rattle.sel_grammar.specs.Fits.{leaves, subtrees}
use Rattle.sel_grammar.specs.Derivations.{Derivation, Derivations, cost, costs, list, lists}
use Rattle.sel_grammar.specs.Firsts.{IsFirst, AllFirst}
use Rattle.sel_grammar.specs.SmallCosts.{IsSmall}
use Rattle.sel_forest.specs.declared.forest.Node.{Node}
use Rattle.sel_forest.specs.declared.walk.Goal.{Goal}
use Rattle.sel_forest.specs.Places.{IsRootAt, of_node}
use Rattle.sel_normal.specs.declared.normal.Body.{Body}
use Rattle.sel_normal.specs.declared.normal.Body.TheVariants.{Chain, Operator}
use Rattle.sel_normal.specs.declared.normal.NormalRule.{NormalRule}
use Rattle.sel_normal.specs.NormalForms.{NormalForm, normal_at}
use Rattle.sel_normal.specs.Forms.{places}
use Rattle.sel_items.specs.declared.items.Items.{Items}
use Rattle.sel_items.specs.declared.label.Label.{Label}
use Rattle.sel_label.specs.Labelling.{LabelAt}
use Rattle.sel_reduce.specs.CostLimits.{most_cost}

-- the label of the node means the item set
abbrev pub IsItemsAt : (Label → Items → Type 0) → List Label → ℕ → Items → Type 0
IsItemsAt means labels at items = (l : Label) × LabelAt labels at l × means l items

-- the goal of a kid at a node, where there is such a kid
abbrev pub kid_goal : ℕ → Option ℕ → List Goal
kid_goal at None = []
kid_goal at (Some n) = record { at = at; nonterminal = n } ∷ []

-- the goals that a normal rule's right side leads to at a node, from left to right
abbrev pub kid_goals : Body → List Node → ℕ → List Goal
kid_goals (Chain n) nodes at = kid_goal at (Some n)
kid_goals (Operator op first second test) nodes at = of_node (slice_get nodes at) (λ node. kid_goal node.left first ++ kid_goal node.right second)

-- the normal nonterminal stands for the part of a pattern: a user's for itself, and a helper for its inner part
abbrev pub StandsFor : Grammar → ℕ → Pattern → Type 0
StandsFor g n part = ((n < length g.nonterminals) × (part ≡ Leaf n)) ⊎ ((j : ℕ) × (n ≡ length g.nonterminals + j) × (slice_get (places g.rules) j ≡ Some part))

-- The part that the goal's nonterminal stands for lies over the tree at the goal's node, and these are the best derivations of the subtrees under it.
pub record IsBestAt (g : Grammar) (nodes : List Node) (ds : Derivations) (goal : Goal) : Type 0 where
  pub tree : PlainTree
  pub root : IsRootAt nodes goal.at tree
  pub part : Pattern
  pub stands : StandsFor g goal.nonterminal part
  pub under : List PlainTree
  pub lies : subtrees part tree ≡ Some under
  pub firsts : AllFirst g ds (leaves part) under

-- such derivations for each goal
abbrev pub AreBestAt : Grammar → List Node → List Derivations → List Goal → Type 0
AreBestAt g nodes [] [] = Unit {0}
AreBestAt g nodes (ds ∷ more) (goal ∷ rest) = IsBestAt g nodes ds goal × AreBestAt g nodes more rest
AreBestAt g nodes _ _ = ⊥

-- the lists of the derivations for all goals, one after the other
abbrev pub all_lists : List Derivations → List ℕ
all_lists [] = []
all_lists (ds ∷ more) = lists ds ++ all_lists more

-- what they cost together
abbrev pub all_costs : Grammar → List Derivations → Cost
all_costs g [] = no_cost
all_costs g (ds ∷ more) = costs g ds ⊕ all_costs g more

-- A best derivation for the root's goal: its list is the rules so far and then the lists for the goals of the stack, the last goal first, and its cost is the cost so far and what these cost.
pub record IsHalfReduced (g : Grammar) (nodes : List Node) (goal : Goal) (rules : List ℕ) (so_far : Cost) (stack : List Goal) : Type 0 where
  pub tree : PlainTree
  pub root : IsRootAt nodes goal.at tree
  pub best : Derivation
  pub first : IsFirst g best goal.nonterminal tree
  pub small : IsSmall most_cost (cost g best)
  pub kids : List Derivations
  pub for : AreBestAt g nodes kids (reverse stack)
  pub whole : list best ≡ rules ++ all_lists kids
  pub sum : cost g best ≡ so_far ⊕ all_costs g kids
  pub low : pos 0 ≤ℤ so_far.second

-- the number, where there is one
abbrev pub some_number : Option ℕ → List ℕ
some_number None = []
some_number (Some number) = number ∷ []

-- the number of a user's rule, and nothing for a helper's
abbrev pub written : NormalForm → ℕ → List ℕ
written normal number = some_number (if nat_le number normal.user_rules then Some number else None)

-- The normal rule of this number is taken for the goal: a user's is written behind the others, its cost is added, and the goals that it leads to are put on the stack.
pub record TakesRule (normal : NormalForm) (nodes : List Node) (goal : Goal) (number : ℕ) (old_rules new_rules : List ℕ) (old_cost new_cost : Cost) (old_stack new_stack : List Goal) : Type 0 where
  pub rule : NormalRule
  pub numbered : normal_at normal number ≡ Some rule
  pub writes : new_rules ≡ old_rules ++ written normal number
  pub adds : new_cost ≡ old_cost ⊕ paid rule.cost
  pub pushes : new_stack ≡ old_stack ++ reverse (kid_goals rule.body nodes goal.at)
