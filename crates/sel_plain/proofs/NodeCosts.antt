-- The costs of best rows.
use Rattle.std.proofs.Common.{◌≡◌, ℕ, zero, suc, ◌+◌, ◌*◌, ◌<◌, ◌≤◌, ◌⊎◌, inl, inr, Option, Some, None, List, [], ◌∷◌, ◌++◌, length, refl, ap, sym, ◌∙◌, subst, arith, slice_get, pos, ℤ, ◌≤ℤ◌}
use Rattle.std.proofs.lemmas.Int.{ints}
use Rattle.std.proofs.lemmas.List.{length_push}
use Rattle.std.proofs.lemmas.Option.{slice_get_past, slice_get_within, slice_get-get_or}
use Rattle.std.specs.Option.{option_flatten, unwrap_or}
use Rattle.sel_grammar.specs.declared.grammar.Grammar.{Grammar}
use Rattle.sel_grammar.specs.Costs.{Cost}
use Rattle.sel_grammar.specs.Limits.{IsWithinLimits, greatest_cost, most_nonterminals}
use Rattle.sel_grammar.specs.PlainTrees.{PlainTree, size}
use Rattle.sel_grammar.specs.Fits.{rule_at}
use Rattle.sel_grammar.specs.Derivations.{Deriv}
use Rattle.sel_grammar.specs.Best.{HasNone}
use Rattle.sel_grammar.specs.SmallCosts.{IsSmall}
use Rattle.sel_grammar.proofs.Firsts.{IsBest-first}
use Rattle.sel_forest.specs.Limits.{most_nodes}
use Rattle.sel_forest.specs.declared.forest.Tree.{Tree}
use Rattle.sel_forest.specs.Postorder.{postorder}
use Rattle.sel_forest.proofs.Matching.{some_same, some_none, within}
use Rattle.sel_forest.proofs.Roots.{slice_get-left, slice_get-right, tree_at}
use Rattle.sel_plain.specs.declared.entry.Entry.{Entry}
use Rattle.sel_plain.specs.CostBounds.{IsUpTo, per_node}
use Rattle.sel_plain.specs.Rows.{Row, entry_at, row_at, entry_cost}
use Rattle.sel_plain.specs.BestRows.{IsBestEntry, AreBestRows}
use Rattle.sel_plain.specs.NodeCosts.{NodeCosts, cost_at, IsBestCost, AreBestCosts, AreSmallCosts}

below_or : (i k : ℕ) → (i < k) ⊎ (k ≤ i)
below_or i k = grind arith

last_or : (i k : ℕ) → i < k + 1 → (i < k) ⊎ (i ≡ k)
last_or i k h = grind arith

-- the costs in the row of the node i, as far as the row goes
pub record RowIs (rows : List Row) (width i : ℕ) (row : List (Option Cost)) : Type 0 where
  pub long : length row ≡ width
  pub costs : (n : ℕ) → n < width → option_flatten (slice_get row n) ≡ entry_cost (entry_at (row_at rows i) n)

abbrev pub AreRows : List Row → ℕ → NodeCosts → Type 0
AreRows rows width costs = (i : ℕ) (row : List (Option Cost)) → slice_get costs i ≡ Some row → RowIs rows width i row

-- one more cost
pub costs_more : (row : List (Option Cost)) (k : ℕ) (o : Option Cost) (f : ℕ → Option Cost) → length row ≡ k → ((n : ℕ) → n < k → option_flatten (slice_get row n) ≡ f n) → o ≡ f k
    → (n : ℕ) → n < k + 1 → option_flatten (slice_get (row ++ o ∷ []) n) ≡ f n
costs_more row k o f long h e n lt = go (last_or n k lt)
  where
    go : (n < k) ⊎ (n ≡ k) → option_flatten (slice_get (row ++ o ∷ []) n) ≡ f n
    go (inl l) = ap option_flatten (slice_get-left row (o ∷ []) n (omega arith)) ∙ h n l
    go (inr q) = ap option_flatten (slice_get-right row (o ∷ []) 0 n (omega arith)) ∙ e ∙ ap f (sym q)

-- one more row
pub rows_more : (rows : List Row) (width : ℕ) (costs : NodeCosts) (row : List (Option Cost)) (at : ℕ) → length costs ≡ at → AreRows rows width costs → RowIs rows width at row
    → AreRows rows width (costs ++ row ∷ [])
rows_more rows width costs row at long h here i r is = go (last_or i at (let l = slice_get_within (costs ++ row ∷ []) i r is in let m = length_push costs row in omega arith))
  where
    go : (i < at) ⊎ (i ≡ at) → RowIs rows width i r
    go (inl l) = h i r (sym (slice_get-left costs (row ∷ []) i (omega arith)) ∙ is)
    go (inr q) =
        let same : row ≡ r = some_same (sym (slice_get-right costs (row ∷ []) 0 i (omega arith)) ∙ is) in
        subst (λ x. RowIs rows width i x) same (subst (λ x. RowIs rows width x row) (sym q) here)

module _ (rows : List Row) (width : ℕ) (costs : NodeCosts) (h : AreRows rows width costs) where
  in_row : (i n : ℕ) (o : Option (List (Option Cost))) → slice_get costs i ≡ o → (cost_at costs i n ≡ None) ⊎ ((i < length costs) × (n < width) × (cost_at costs i n ≡ entry_cost (entry_at (row_at rows i) n)))
  in_row i n None is = inl (ap (λ (x : Option (List (Option Cost))). option_flatten (slice_get (unwrap_or x []) n)) is)
  in_row i n (Some row) is = go (below_or n width)
    where
      at : cost_at costs i n ≡ option_flatten (slice_get row n)
      at = ap (λ (x : Option (List (Option Cost))). option_flatten (slice_get (unwrap_or x []) n)) is

      go : (n < width) ⊎ (width ≤ n) → (cost_at costs i n ≡ None) ⊎ ((i < length costs) × (n < width) × (cost_at costs i n ≡ entry_cost (entry_at (row_at rows i) n)))
      go (inl l) = inr (slice_get_within costs i row is, l, at ∙ (h i row is).costs n l)
      go (inr l) = let long = (h i row is).long in inl (at ∙ ap option_flatten (slice_get_past row n (omega arith)))

  some_row : (i : ℕ) → i < length costs → (row : List (Option Cost)) × (slice_get costs i ≡ Some row)
  some_row i lt = go (slice_get costs i) refl
    where
      go : (o : Option (List (Option Cost))) → slice_get costs i ≡ o → (row : List (Option Cost)) × (slice_get costs i ≡ Some row)
      go (Some row) is = (row, is)
      go None is = absurd (some_none (sym (slice_get-get_or costs i [] lt) ∙ is))

  module _ (g : Grammar) (tree : Tree) (t : PlainTree) (spelled : tree.nodes ≡ postorder 0 t) (limits : IsWithinLimits g) (wide : width ≡ length g.nonterminals)
      (long : length costs ≡ length tree.nodes) (best : AreBestRows g tree.nodes rows (length tree.nodes)) where
    from_entry : (n : ℕ) (s : PlainTree) (o : Option Entry) → IsBestEntry g n s o → IsBestCost g n s (entry_cost o)
    from_entry n s None b = b
    from_entry n s (Some e) ((ds, kept), small) = (Deriv e.rule ds, IsBest-first g (Deriv e.rule ds) n s kept.first, kept.priced)

    no_rule : (n : ℕ) (s : PlainTree) → width ≤ n → HasNone g n s
    no_rule n s far (Deriv r kids) (rule, at, left, rest) = go r at
      where
        go : (r : ℕ) → rule_at g r ≡ Some rule → ⊥
        go zero at = some_none (sym at)
        go (suc k) at = let l = limits.lefts k rule at in absurd (omega arith)

    pub best_costs : AreBestCosts g tree costs
    best_costs i n s root = go (below_or n width)
      where
        inside : i < length tree.nodes
        inside = within tree.nodes i s root

        go : (n < width) ⊎ (width ≤ n) → IsBestCost g n s (cost_at costs i n)
        go (inl l) =
            let (row, is) = some_row i (let m = inside in omega arith) in
            subst (λ o. IsBestCost g n s o)
            (sym (ap (λ (x : Option (List (Option Cost))). option_flatten (slice_get (unwrap_or x []) n)) is ∙ (h i row is).costs n l))
            (from_entry n s (entry_at (row_at rows i) n) (best i s inside root n))
        go (inr l) = subst (λ o. IsBestCost g n s o) (sym (none (in_row i n (slice_get costs i) refl))) (no_rule n s l)
          where
            none : (cost_at costs i n ≡ None) ⊎ ((i < length costs) × (n < width) × (cost_at costs i n ≡ entry_cost (entry_at (row_at rows i) n))) → cost_at costs i n ≡ None
            none (inl e) = e
            none (inr x) = let m = x.1 in absurd (omega arith)

    narrower : (k : ℕ) (c : Cost) → IsUpTo (per_node * k) c → k ≤ most_nodes → IsSmall (most_nodes * most_nonterminals * greatest_cost) c
    narrower k c up few = record { first = let f = up.first in omega arith; low = up.low; high = high c.second up.high }
      where
        high : (x : ℤ) → x ≤ℤ pos (per_node * k) → x ≤ℤ pos (most_nodes * most_nonterminals * greatest_cost)
        high x le = omega (arith, ints)

    pub small_costs : size t ≤ most_nodes → AreSmallCosts costs
    small_costs few i n c is = go (in_row i n (slice_get costs i) refl)
      where
        by_entry : (s : PlainTree) (o : Option Entry) → size s ≤ most_nodes → entry_cost o ≡ Some c → IsBestEntry g n s o → IsSmall (most_nodes * most_nonterminals * greatest_cost) c
        by_entry s None less e b = absurd (some_none (sym e))
        by_entry s (Some e) less q (kept, small) = subst (λ x. IsSmall (most_nodes * most_nonterminals * greatest_cost) x) (some_same q) (narrower (size s) e.cost small less)

        go : (cost_at costs i n ≡ None) ⊎ ((i < length costs) × (n < width) × (cost_at costs i n ≡ entry_cost (entry_at (row_at rows i) n))) → IsSmall (most_nodes * most_nonterminals * greatest_cost) c
        go (inl e) = absurd (some_none (sym is ∙ e))
        go (inr (l, m, e)) =
            let inside : i < length tree.nodes = omega arith in
            let (s, (root, less)) = tree_at tree.nodes t i spelled inside in
            by_entry s (entry_at (row_at rows i) n) (omega arith) (sym e ∙ is) (best i s inside root n)
