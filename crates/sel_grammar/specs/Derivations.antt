-- Derivations, which are trees of rule numbers: what each derives, what it costs, and its list.
use Rattle.std.specs.Prelude.{◌≡◌, ℕ, Option, Some, None, List, [], ◌∷◌, ◌++◌}
use Rattle.sel_grammar.specs.declared.grammar.Grammar.{Grammar}
use Rattle.sel_grammar.specs.declared.grammar.Rule.{Rule}
use Rattle.sel_grammar.specs.Costs.{Cost, no_cost, ◌⊕◌, price}
use Rattle.sel_grammar.specs.PlainTrees.{PlainTree}
use Rattle.sel_grammar.specs.Fits.{leaves, fits, rule_at}

mutual
  pub data Derivation : Type 0 where
    Deriv : (rule : ℕ) (kids : Derivations) → Derivation

  pub data Derivations : Type 0 where
    no_more : Derivations
    more : (d : Derivation) (ds : Derivations) → Derivations

-- `Derives g d n t`: d derives t from the nonterminal n. The kids derive the subtrees from the pattern's nonterminals
abbrev mutual
  pub Derives : Grammar → Derivation → ℕ → PlainTree → Type 0
  Derives g (Deriv r kids) n t =
      (rule : Rule) × (rule_at g r ≡ Some rule) × (rule.left ≡ n) × ((ts : List PlainTree) × (fits rule t ≡ Some ts) × DeriveAll g kids (leaves rule.pattern) ts)

  pub DeriveAll : Grammar → Derivations → List ℕ → List PlainTree → Type 0
  DeriveAll g no_more [] [] = Unit {0}
  DeriveAll g (more d ds) (n ∷ ns) (t ∷ ts) = Derives g d n t × DeriveAll g ds ns ts
  DeriveAll g _ _ _ = ⊥

-- the cost of the rule with a number
abbrev pub rule_cost : Option Rule → Cost
rule_cost None = no_cost
rule_cost (Some rule) = price rule

-- the sum of the costs of the rules
abbrev mutual
  pub cost : Grammar → Derivation → Cost
  cost g (Deriv r kids) = rule_cost (rule_at g r) ⊕ costs g kids

  pub costs : Grammar → Derivations → Cost
  costs g no_more = no_cost
  costs g (more d ds) = cost g d ⊕ costs g ds

-- the rule numbers in preorder
abbrev mutual
  pub list : Derivation → List ℕ
  list (Deriv r kids) = r ∷ lists kids

  pub lists : Derivations → List ℕ
  lists no_more = []
  lists (more d ds) = list d ++ lists ds
