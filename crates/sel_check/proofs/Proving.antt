-- The costs of best derivations bound each rule.
use Rattle.std.proofs.Common.{◌≡◌, ℕ, ◌⊎◌, inl, inr, Option, Some, None, List, [], ◌∷◌, refl, ap, sym, ◌∙◌, subst}
use Rattle.sel_grammar.specs.declared.grammar.Grammar.{Grammar}
use Rattle.sel_grammar.specs.Costs.{Cost, ◌⊕◌, IsCheaper, price}
use Rattle.sel_grammar.specs.PlainTrees.{PlainTree}
use Rattle.sel_grammar.specs.Fits.{leaves, rule_at}
use Rattle.sel_grammar.specs.Derivations.{Derivation, Deriv, Derivations, no_more, more, Derives, DeriveAll, rule_cost, cost, costs}
use Rattle.sel_grammar.specs.Best.{Beats}
use Rattle.sel_forest.specs.declared.forest.Tree.{Tree}
use Rattle.sel_forest.specs.declared.walk.Goal.{Goal}
use Rattle.sel_forest.specs.Places.{goals}
use Rattle.sel_forest.proofs.Matching.{Match, goals_match, some_same, some_none}
use Rattle.sel_forest.proofs.Lying.{fits_subtrees}
use Rattle.sel_forest.proofs.Roots.{stands_root}
use Rattle.sel_grammar.proofs.CostLaws.{same_sums, cheaper_not_both}
use Rattle.sel_plain.specs.NodeCosts.{NodeCosts}
use Rattle.sel_check.specs.Certificates.{claim, both, claimed, IsAtMost, Bounds, start_goal, IsShown}
use Rattle.sel_plain.specs.NodeCosts.{IsBestCost, AreBestCosts}
use Rattle.sel_check.specs.Laws.{IsBestList, BestIsProved}

module _ (g : Grammar) (tree : Tree) (costs_of : NodeCosts) (best : AreBestCosts g tree costs_of) where
  -- kids with so much cost
  abbrev KidsOf : List ℕ → List PlainTree → Cost → Type 0
  KidsOf ns ts c = (ds : Derivations) × DeriveAll g ds ns ts × (c ≡ costs g ds)

  kids_of : (xs : List Goal) (ns : List ℕ) (ts : List PlainTree) (c : Cost) → Match tree.nodes xs ns ts → claimed costs_of xs ≡ Some c → KidsOf ns ts c
  kids_of [] [] [] c h e = (no_more, tt, sym (some_same e))
  kids_of [] [] (t ∷ ts) c h e = absurd h
  kids_of [] (n ∷ ns) ts c h e = absurd h
  kids_of (x ∷ xs) [] ts c h e = absurd h
  kids_of (x ∷ xs) (n ∷ ns) [] c h e = absurd h
  kids_of (x ∷ xs) (n ∷ ns) (t ∷ ts) c h e =
      go (claim costs_of x) (claimed costs_of xs) (best x.at x.nonterminal t h.1) (λ k is. kids_of xs ns ts k h.2 is) refl e
    where
      go : (o p : Option Cost) → IsBestCost g x.nonterminal t o → ((k : Cost) → claimed costs_of xs ≡ Some k → KidsOf ns ts k) → claimed costs_of xs ≡ p → both o p ≡ Some c → KidsOf (n ∷ ns) (t ∷ ts) c
      go None p b k q e = absurd (some_none (sym e))
      go (Some a) None b k q e = absurd (some_none (sym e))
      go (Some a) (Some y) (d, first, is) k q e =
          let (ds, all, sum) = k y q in
          (more d ds, (subst (λ m. Derives g d m t) h.0 first.derives, all), sym (some_same e) ∙ same_sums a (cost g d) y (costs g ds) is sum)

  at_most : (n : ℕ) (t : PlainTree) (e : Derivation) (c : Cost) (o : Option Cost) → IsBestCost g n t o → Derives g e n t → c ≡ cost g e → IsAtMost o c
  at_most n t e c None b derives is = b e derives
  at_most n t e c (Some a) (d, first, is') derives is = go (first.beats e derives)
    where
      go : (e ≡ d) ⊎ Beats g d e → (a ≡ c) ⊎ IsCheaper a c
      go (inl q) = inl (is' ∙ sym (ap (cost g) q) ∙ sym is)
      go (inr (inl q)) = inr (subst (λ x. IsCheaper x c) (sym is') (subst (λ x. IsCheaper (cost g d) x) (sym is) q))
      go (inr (inr q)) = inl (is' ∙ q.0 ∙ sym is)

  pub bounds : Bounds g tree costs_of
  bounds i r rule t ts c at stands fitting sum =
      let (ds, all, is) = kids_of (goals rule.pattern tree.nodes i) (leaves rule.pattern) ts c (goals_match tree.nodes rule.pattern i t ts stands (fits_subtrees rule t ts fitting)) sum in
      at_most rule.left t (Deriv r ds) (price rule ⊕ c) (claim costs_of (record { at = i; nonterminal = rule.left })) (best i rule.left t stands)
      (rule, at, refl, (ts, fitting, all)) (same_sums (price rule) (rule_cost (rule_at g r)) c (costs g ds) (sym (ap rule_cost at)) is)

pub best_is_proved : BestIsProved
best_is_proved g tree t costs_of rules spelled best first =
    record { bounds = bounds g tree costs_of best; shown = go (claim costs_of (start_goal g tree)) rules (best _ g.start t (stands_root tree.nodes t spelled)) first }
  where
    go : (o : Option Cost) (rules : Option (List ℕ)) → IsBestCost g g.start t o → IsBestList g t rules → IsShown g t o rules
    go None None b h = tt
    go None (Some rules) b (d, first, is) = absurd (b d first.derives)
    go (Some c) None (d, first, is) h = absurd (h d first.derives)
    go (Some c) (Some rules) (e, first', is') (d, first, is) = record { derivation = d; derives = first.derives; list_is = sym is; cost_is = is' ∙ same (first.beats e first'.derives) (first'.beats d first.derives) }
      where
        same : (e ≡ d) ⊎ Beats g d e → (d ≡ e) ⊎ Beats g e d → cost g e ≡ cost g d
        same (inl q) k = ap (cost g) q
        same (inr q) (inl k) = sym (ap (cost g) k)
        same (inr (inr q)) (inr k) = sym q.0
        same (inr (inl q)) (inr (inr k)) = k.0
        same (inr (inl q)) (inr (inl k)) = absurd (cheaper_not_both (cost g d) (cost g e) q k)
