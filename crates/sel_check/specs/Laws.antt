-- Laws of certificates.
use Rattle.std.specs.Prelude.{◌≡◌, ℕ, Option, Some, None, List}
use Rattle.sel_grammar.specs.declared.grammar.Grammar.{Grammar}
use Rattle.sel_grammar.specs.Costs.{Cost, IsCheaper}
use Rattle.sel_grammar.specs.PlainTrees.{PlainTree}
use Rattle.sel_grammar.specs.Derivations.{Derivation, Derives, cost, list}
use Rattle.sel_grammar.specs.Best.{IsBest, HasNone}
use Rattle.sel_forest.specs.declared.forest.Tree.{Tree}
use Rattle.sel_forest.specs.Postorder.{IsPostorderOf}
use Rattle.sel_plain.specs.NodeCosts.{NodeCosts, AreBestCosts}
use Rattle.sel_check.specs.Certificates.{claim, start_goal, Proves}

-- a derivation of the tree from the nonterminal has this cost, and none is cheaper
pub record IsLeastOf (g : Grammar) (n : ℕ) (t : PlainTree) (c : Cost) : Type 0 where
  pub derivation : Derivation
  pub derives : Derives g derivation n t
  pub cost_is : c ≡ cost g derivation
  pub least : (e : Derivation) → Derives g e n t → IsCheaper (cost g e) c → ⊥

-- the least cost of the tree's derivations from the nonterminal, or none where nothing derives it
abbrev pub IsLeastCost : Grammar → ℕ → PlainTree → Option Cost → Type 0
IsLeastCost g n t None = HasNone g n t
IsLeastCost g n t (Some c) = IsLeastOf g n t c

-- the list of the best derivation, or none where nothing derives the tree
abbrev pub IsBestList : Grammar → PlainTree → Option (List ℕ) → Type 0
IsBestList g t None = HasNone g g.start t
IsBestList g t (Some rules) = (d : Derivation) × IsBest g d g.start t × (rules ≡ list d)

-- what is proved is the least cost, or that there is none
abbrev pub ProofIsLeast : Type 0
ProofIsLeast = (g : Grammar) (tree : Tree) (t : PlainTree) (costs : NodeCosts) (rules : Option (List ℕ)) → IsPostorderOf tree t → Proves g tree t costs rules → IsLeastCost g g.start t (claim costs (start_goal g tree))

-- the least cost is that of the best derivation
abbrev pub LeastIsBest : Type 0
LeastIsBest = (g : Grammar) (n : ℕ) (t : PlainTree) (c : Option Cost) (d : Derivation) → IsLeastCost g n t c → IsBest g d n t → c ≡ Some (cost g d)

-- the costs of the best derivations, with the list of the best one from the start symbol, are a proof
abbrev pub BestIsProved : Type 0
BestIsProved = (g : Grammar) (tree : Tree) (t : PlainTree) (costs : NodeCosts) (rules : Option (List ℕ)) → IsPostorderOf tree t → AreBestCosts g tree costs → IsBestList g t rules → Proves g tree t costs rules
