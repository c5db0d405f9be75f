-- Best derivations by lists that differ at a place. Lists of one tree's derivations are equal or differ at a place, so what is first here is best (`IsBest-first` in proofs/Firsts.antt); this form goes through sums and tails.
use Rattle.std.specs.Prelude.{◌≡◌, ℕ, ◌<◌, ◌⊎◌, Some, List, [], ◌∷◌}
use Rattle.sel_grammar.specs.declared.grammar.Grammar.{Grammar}
use Rattle.sel_grammar.specs.declared.grammar.Rule.{Rule}
use Rattle.sel_grammar.specs.Costs.{Cost, IsCheaper}
use Rattle.sel_grammar.specs.PlainTrees.{PlainTree}
use Rattle.sel_grammar.specs.Fits.{leaves, fits, rule_at}
use Rattle.sel_grammar.specs.Derivations.{Derivation, Deriv, Derivations, no_more, more, Derives, cost, costs, list, lists}

-- the lists differ at some place, and the first list has the lesser number at the first such place
abbrev pub IsBefore : List ℕ → List ℕ → Type 0
IsBefore [] ys = ⊥
IsBefore (x ∷ xs) [] = ⊥
IsBefore (x ∷ xs) (y ∷ ys) = (x < y) ⊎ ((x ≡ y) × IsBefore xs ys)

-- of two costs and two lists: the first pair is lesser
abbrev pub IsLesser : Cost → List ℕ → Cost → List ℕ → Type 0
IsLesser a xs b ys = IsCheaper a b ⊎ ((a ≡ b) × IsBefore xs ys)

-- e is d, or d beats it
abbrev pub Leads : Grammar → Derivation → Derivation → Type 0
Leads g d e = (e ≡ d) ⊎ IsLesser (cost g d) (list d) (cost g e) (list e)

abbrev pub LeadAll : Grammar → Derivations → Derivations → Type 0
LeadAll g ds es = (es ≡ ds) ⊎ IsLesser (costs g ds) (lists ds) (costs g es) (lists es)

-- as `IsBest`, where lists differ at a place
pub record IsFirst (g : Grammar) (d : Derivation) (n : ℕ) (t : PlainTree) : Type 0 where
  pub derives : Derives g d n t
  pub leads : (e : Derivation) → Derives g e n t → Leads g d e

abbrev pub AllFirst : Grammar → Derivations → List ℕ → List PlainTree → Type 0
AllFirst g no_more [] [] = Unit {0}
AllFirst g (more d ds) (n ∷ ns) (t ∷ ts) = IsFirst g d n t × AllFirst g ds ns ts
AllFirst g _ _ _ = ⊥

-- what an entry stands for: the best derivation, by its rule and its best kids
pub record IsKept (g : Grammar) (t : PlainTree) (n : ℕ) (a : Cost) (r : ℕ) (ds : Derivations) : Type 0 where
  pub first : IsFirst g (Deriv r ds) n t
  pub priced : a ≡ cost g (Deriv r ds)
  pub rule : Rule
  pub numbered : rule_at g r ≡ Some rule
  pub subtrees : List PlainTree
  pub fitting : fits rule t ≡ Some subtrees
  pub firsts : AllFirst g ds (leaves rule.pattern) subtrees
