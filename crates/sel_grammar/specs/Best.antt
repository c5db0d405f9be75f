-- The best derivation: the least cost, and among those of that cost the lexicographically least list.
use Rattle.std.specs.Prelude.{◌≡◌, ℕ, ◌<◌, ◌⊎◌, List, [], ◌∷◌}
use Rattle.sel_grammar.specs.declared.grammar.Grammar.{Grammar}
use Rattle.sel_grammar.specs.Costs.{IsCheaper}
use Rattle.sel_grammar.specs.PlainTrees.{PlainTree}
use Rattle.sel_grammar.specs.Derivations.{Derivation, Derives, cost, list}

-- the first list stands before the second in the order of words
abbrev pub IsLexLess : List ℕ → List ℕ → Type 0
IsLexLess [] [] = ⊥
IsLexLess [] (y ∷ ys) = Unit {0}
IsLexLess (x ∷ xs) [] = ⊥
IsLexLess (x ∷ xs) (y ∷ ys) = (x < y) ⊎ ((x ≡ y) × IsLexLess xs ys)

-- d costs less than e, or the same and has the lesser list
abbrev pub Beats : Grammar → Derivation → Derivation → Type 0
Beats g d e = IsCheaper (cost g d) (cost g e) ⊎ ((cost g d ≡ cost g e) × IsLexLess (list d) (list e))

-- d derives the tree from the nonterminal, and beats every other derivation of it
pub record IsBest (g : Grammar) (d : Derivation) (n : ℕ) (t : PlainTree) : Type 0 where
  pub derives : Derives g d n t
  pub beats : (e : Derivation) → Derives g e n t → (e ≡ d) ⊎ Beats g d e

-- nothing derives the tree from the nonterminal
abbrev pub HasNone : Grammar → ℕ → PlainTree → Type 0
HasNone g n t = (e : Derivation) → Derives g e n t → ⊥
