-- Laws of the definitions.
use Rattle.std.specs.Prelude.{◌≡◌, ℕ, ◌*◌, ◌≤◌, List, ◌++◌, length}
use Rattle.sel_grammar.specs.declared.grammar.Grammar.{Grammar}
use Rattle.sel_grammar.specs.Lawful.{IsLawful}
use Rattle.sel_grammar.specs.Limits.{IsWithinLimits, most_nonterminals, greatest_cost}
use Rattle.sel_grammar.specs.PlainTrees.{PlainTree, size}
use Rattle.sel_grammar.specs.Derivations.{Derivation, Derives, cost, list}
use Rattle.sel_grammar.specs.SmallCosts.{HasSmallCosts, IsSmall}
use Rattle.sel_grammar.specs.Chains.{HasNoFreeCycle}
use Rattle.sel_grammar.specs.Best.{IsBest}

-- two best derivations are one
abbrev pub BestIsOne : Type 0
BestIsOne = (g : Grammar) (n : ℕ) (t : PlainTree) (d e : Derivation) → IsBest g d n t → IsBest g e n t → d ≡ e

-- where anything derives the tree, some derivation is best
abbrev pub BestExists : Type 0
BestExists = (g : Grammar) (n : ℕ) (t : PlainTree) (e : Derivation) → HasNoFreeCycle g → Derives g e n t → (d : Derivation) × IsBest g d n t

-- whatever follows it, the list of a derivation of a tree from a nonterminal tells the derivation: none is a front of another's
abbrev pub ListsAreWords : Type 0
ListsAreWords = (g : Grammar) (n : ℕ) (t : PlainTree) (d e : Derivation) (xs ys : List ℕ) → Derives g d n t → Derives g e n t → list d ++ xs ≡ list e ++ ys → (d ≡ e) × (xs ≡ ys)

-- At each node of the tree stand at most as many rules of a best derivation as there may be nonterminals, since a chain of rules meets none twice.
abbrev pub BestIsShort : Type 0
BestIsShort = (g : Grammar) (n : ℕ) (t : PlainTree) (d : Derivation) → IsWithinLimits g → HasNoFreeCycle g → IsBest g d n t → length (list d) ≤ size t * most_nonterminals

-- so a best derivation costs at most as much as so many of the dearest rules
abbrev pub BestIsSmall : Type 0
BestIsSmall = (g : Grammar) (n : ℕ) (t : PlainTree) (d : Derivation) → IsWithinLimits g → HasSmallCosts g → HasNoFreeCycle g → IsBest g d n t → IsSmall (size t * most_nonterminals * greatest_cost) (cost g d)

-- the rules of a lawful grammar cost no more than the limit by either number
abbrev pub LawfulCosts : Type 0
LawfulCosts = (g : Grammar) → IsLawful g → HasSmallCosts g
