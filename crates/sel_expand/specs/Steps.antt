-- The rules of a derivation with their nodes, each behind its kids.
use Rattle.std.specs.Prelude.{◌≡◌, ℕ, Option, Some, None, List, [], ◌∷◌, ◌++◌, length}
use Rattle.sel_grammar.specs.declared.grammar.Grammar.{Grammar}
use Rattle.sel_grammar.specs.declared.grammar.Rule.{Rule}
use Rattle.sel_grammar.specs.Fits.{rule_at}
use Rattle.sel_grammar.specs.Derivations.{Derivation, Deriv, Derivations, no_more, more, list}
use Rattle.sel_forest.specs.declared.forest.Node.{Node}
use Rattle.sel_forest.specs.declared.walk.Goal.{Goal}
use Rattle.sel_forest.specs.Places.{goals}
use Rattle.sel_forest.specs.Goals.{DerivesAt}
use Rattle.sel_grammar.specs.declared.grammar.Pattern.{Pattern, Leaf}
use Rattle.sel_expand.specs.declared.places.Step.{Step}
use Rattle.sel_expand.specs.declared.places.Under.{Under}
use Rattle.sel_expand.specs.declared.places.Under.TheVariants.{Nothing, One, Two, Deeper}

-- the goals of a rule's kids at a node
abbrev pub goals_at : Option Rule → List Node → ℕ → List Goal
goals_at None nodes i = []
goals_at (Some rule) nodes i = goals rule.pattern nodes i

-- the nonterminal that a pattern is, where it is one
abbrev pub leaf_of : Pattern → Option ℕ
leaf_of (Leaf n) = Some n
leaf_of _ = None

-- these goals are told, or not looked for
abbrev pub IsUnder : Under → List Goal → Type 0
IsUnder Nothing gs = gs ≡ []
IsUnder (One goal) gs = gs ≡ goal ∷ []
IsUnder (Two first second) gs = gs ≡ first ∷ second ∷ []
IsUnder Deeper gs = Unit {0}

-- a rule at a node
abbrev pub step_at : Grammar → List Node → ℕ → ℕ → Step
step_at g nodes r i = record { rule = r; at = i; kids = length (goals_at (rule_at g r) nodes i) }

abbrev mutual
  pub steps_of : Grammar → List Node → Derivation → ℕ → List Step
  steps_of g nodes (Deriv r kids) i = steps_all g nodes kids (goals_at (rule_at g r) nodes i) ++ step_at g nodes r i ∷ []

  pub steps_all : Grammar → List Node → Derivations → List Goal → List Step
  steps_all g nodes no_more goals = []
  steps_all g nodes (more d ds) [] = []
  steps_all g nodes (more d ds) (goal ∷ goals) = steps_of g nodes d goal.at ++ steps_all g nodes ds goals

-- the list is a derivation's of the goal
abbrev pub HasCover : Grammar → List Node → Goal → List ℕ → Type 0
HasCover g nodes root rules = (d : Derivation) × (DerivesAt g nodes d root × (list d ≡ rules))

-- the steps are those of a derivation with this list
pub record IsPlaced (g : Grammar) (nodes : List Node) (root : Goal) (rules : List ℕ) (steps : List Step) : Type 0 where
  pub whole : Derivation
  pub derives : DerivesAt g nodes whole root
  pub listed : list whole ≡ rules
  pub placed : steps_of g nodes whole root.at ≡ steps
