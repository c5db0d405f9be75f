-- Best rows, and one more.
use Rattle.std.proofs.Common.{◌≡◌, ℕ, ◌+◌, ◌<◌, ◌⊎◌, inl, inr, List, [], ◌∷◌, ◌++◌, length, ap, sym, subst, arith, Some, slice_get, Option}
use Rattle.std.specs.Option.{unwrap_or}
use Rattle.sel_grammar.specs.declared.grammar.Grammar.{Grammar}
use Rattle.sel_grammar.specs.PlainTrees.{PlainTree}
use Rattle.sel_forest.specs.declared.forest.Node.{Node}
use Rattle.sel_plain.specs.Rows.{Row, row_at}
use Rattle.sel_forest.proofs.Roots.{slice_get-left, slice_get-right}
use Rattle.sel_plain.specs.BestRows.{IsBestRow, AreBestRows}
use Rattle.sel_forest.specs.Places.{IsRootAt}

pub AreBestRows-more : (g : Grammar) (nodes : List Node) (rows : List Row) (row : Row) (at : ℕ) → length rows ≡ at → AreBestRows g nodes rows at
    → ((t : PlainTree) → IsRootAt nodes at t → IsBestRow g t row) → AreBestRows g nodes (rows ++ row ∷ []) (at + 1)
AreBestRows-more g nodes rows row at long lower here i t lt root = go (split i at lt)
  where
    split : (i k : ℕ) → i < k + 1 → (i < k) ⊎ (i ≡ k)
    split i k h = grind arith

    go : (i < at) ⊎ (i ≡ at) → IsBestRow g t (row_at (rows ++ row ∷ []) i)
    go (inl h) = subst (λ x. IsBestRow g t x) (sym (ap (λ (x : Option Row). unwrap_or x []) (slice_get-left rows (row ∷ []) i (omega arith)))) (lower i t h root)
    go (inr q) =
        let last : slice_get (rows ++ row ∷ []) i ≡ Some row = slice_get-right rows (row ∷ []) 0 i (omega arith) in
        subst (λ x. IsBestRow g t x) (sym (ap (λ (x : Option Row). unwrap_or x []) last)) (here t (subst (λ x. IsRootAt nodes x t) q root))
