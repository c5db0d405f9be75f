-- What a check of one tree's certificate answers.
use Rattle.std.specs.Prelude.{◌≡◌, ℕ, ◌<◌, Option, Some, None, List}
use Rattle.sel_grammar.specs.declared.grammar.Grammar.{Grammar}
use Rattle.sel_grammar.specs.Costs.{Cost}
use Rattle.sel_grammar.specs.PlainTrees.{PlainTree}
use Rattle.sel_forest.specs.declared.forest.Tree.{Tree}
use Rattle.sel_forest.specs.Postorder.{IsPostorderOf}
use Rattle.sel_forest.specs.Covers.{IsCover, IsChecked}
use Rattle.sel_check.specs.declared.certificate.TreeCertificate.{TreeCertificate}
use Rattle.sel_check.specs.declared.refusal.TreeFault.{TreeFault}
use Rattle.sel_check.specs.declared.refusal.TreeFault.TheVariants as fault
use Rattle.sel_check.specs.declared.refusal.TreeRefusal.{TreeRefusal}
use Rattle.sel_check.specs.declared.refusal.TreeRefusal.TheVariants as refusal
use Rattle.sel_check.specs.Certificates.{claim, BoundsAt, Bounds, start_goal, IsShown, Proves}

-- the certificate proves the cost of the tree, or that there is none
pub record ProvesCost (g : Grammar) (tree : Tree) (c : TreeCertificate) (cost : Option Cost) : Type 0 where
  pub plain : PlainTree
  pub postorder : IsPostorderOf tree plain
  pub proves : Proves g tree plain c.costs c.rules
  pub cost_is : cost ≡ claim c.costs (start_goal g tree)

-- some rule breaks its bound at the node, and none does at a node before it
pub record BreaksBound (g : Grammar) (tree : Tree) (c : TreeCertificate) (node : ℕ) : Type 0 where
  pub broken : BoundsAt g tree c.costs node → ⊥
  pub before : (j : ℕ) → j < node → BoundsAt g tree c.costs j

-- the claims bound each rule, and there are rules, of which no derivation from the start symbol has the list
pub record HasNoDerivation (g : Grammar) (tree : Tree) (c : TreeCertificate) : Type 0 where
  pub bounds : Bounds g tree c.costs
  pub plain : PlainTree
  pub postorder : IsPostorderOf tree plain
  pub rules : List ℕ
  pub there : c.rules ≡ Some rules
  pub none : IsChecked g plain rules None

-- the claims bound each rule, rules that are there are those of a derivation, and the claim of the root and the start symbol isn't shown
pub record IsNotShown (g : Grammar) (tree : Tree) (c : TreeCertificate) : Type 0 where
  pub bounds : Bounds g tree c.costs
  pub plain : PlainTree
  pub postorder : IsPostorderOf tree plain
  pub derived : (rules : List ℕ) → c.rules ≡ Some rules → (cost : Cost) × IsCover g plain rules cost
  pub not_shown : IsShown g plain (claim c.costs (start_goal g tree)) c.rules → ⊥

-- the first fault, in this order
abbrev pub IsTreeFault : Grammar → Tree → TreeCertificate → TreeFault → Type 0
IsTreeFault g tree c (fault.Bound node) = BreaksBound g tree c node
IsTreeFault g tree c fault.Cover = HasNoDerivation g tree c
IsTreeFault g tree c fault.Cost = IsNotShown g tree c

-- a refusal tells the first fault, or that there was no memory
abbrev pub IsTreeRefusal : Grammar → Tree → TreeCertificate → TreeRefusal → Type 0
IsTreeRefusal g tree c (refusal.Fault fault) = IsTreeFault g tree c fault
IsTreeRefusal g tree c refusal.NoMemory = Unit {0}

-- the rules' refusal alone: no derivation has the list, or there was no memory
abbrev pub IsShownRefusal : Grammar → PlainTree → Option (List ℕ) → TreeRefusal → Type 0
IsShownRefusal g t (Some rules) (refusal.Fault fault.Cover) = IsChecked g t rules None
IsShownRefusal g t rules refusal.NoMemory = Unit {0}
IsShownRefusal g t rules other = ⊥
