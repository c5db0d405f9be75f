-- Lists of valid trees, taken apart and put together.
use Rattle.std.proofs.Common.{suc, List, ◌∷◌, refl, arith}
use Rattle.std.specs.List.{Contains}
use Rattle.sel_grammar.specs.declared.grammar.Grammar.{Grammar}
use Rattle.sel_forest.specs.declared.forest.Tree.{Tree}
use Rattle.sel_forest.specs.Valid.{IsValidTree}
use Rattle.sel_count.specs.Things.{AreValid}

pub in_head : {A : Type 0} (x : A) (xs : List A) → Contains (x ∷ xs) x
in_head x xs = (0, omega arith, refl)

pub in_tail : {A : Type 0} (x y : A) (xs : List A) → Contains xs y → Contains (x ∷ xs) y
in_tail x y xs there = (suc there.0, (let h = there.1 in omega arith), there.2)

pub valid_head : (g : Grammar) (t : Tree) (trees : List Tree) → AreValid g (t ∷ trees) → IsValidTree g t
valid_head g t trees valid = valid t (in_head t trees)

pub valid_tail : (g : Grammar) (t : Tree) (trees : List Tree) → AreValid g (t ∷ trees) → AreValid g trees
valid_tail g t trees valid = λ tree there. valid tree (in_tail t tree trees there)
