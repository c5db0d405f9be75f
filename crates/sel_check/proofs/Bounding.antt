-- What is claimed of a goal is no more than any derivation of it costs.
use Rattle.std.proofs.Common.{◌≡◌, ℕ, ◌⊎◌, inl, inr, Option, Some, None, List, [], ◌∷◌, refl, ap, sym, ◌∙◌, subst}
use Rattle.sel_grammar.specs.declared.grammar.Grammar.{Grammar}
use Rattle.sel_grammar.specs.Costs.{Cost, no_cost, ◌⊕◌, IsCheaper, price}
use Rattle.sel_grammar.specs.PlainTrees.{PlainTree}
use Rattle.sel_grammar.specs.Fits.{leaves, rule_at}
use Rattle.sel_grammar.specs.Derivations.{Derivation, Deriv, Derivations, no_more, more, Derives, DeriveAll, rule_cost, cost, costs}
use Rattle.sel_grammar.specs.Best.{Beats}
use Rattle.sel_grammar.proofs.CostLaws.{both_cheaper, left_cheaper, right_cheaper, same_sums, cheaper_trans, cheaper_same, same_cheaper, cheaper_not_both, cheaper_not_same}
use Rattle.sel_forest.specs.declared.forest.Tree.{Tree}
use Rattle.sel_forest.specs.declared.walk.Goal.{Goal}
use Rattle.sel_forest.specs.Places.{IsRootAt, goals}
use Rattle.sel_forest.proofs.Matching.{Match, goals_match}
use Rattle.sel_forest.proofs.Lying.{fits_subtrees}
use Rattle.sel_forest.proofs.Roots.{stands_root}
use Rattle.sel_plain.specs.NodeCosts.{NodeCosts}
use Rattle.sel_check.specs.Certificates.{claim, both, claimed, IsAtMost, Bounds, start_goal, IsShown}
use Rattle.sel_check.specs.Laws.{IsLeastCost, ProofIsLeast, LeastIsBest}

abbrev pub IsNoMore : Cost → Cost → Type 0
IsNoMore a b = (a ≡ b) ⊎ IsCheaper a b

no_more_trans : (a b c : Cost) → IsNoMore a b → IsNoMore b c → IsNoMore a c
no_more_trans a b c (inl h) (inl k) = inl (h ∙ k)
no_more_trans a b c (inl h) (inr k) = inr (same_cheaper a b c h k)
no_more_trans a b c (inr h) (inl k) = inr (cheaper_same a b c h k)
no_more_trans a b c (inr h) (inr k) = inr (cheaper_trans a b c h k)

no_more_sums : (a b c d : Cost) → IsNoMore a b → IsNoMore c d → IsNoMore (a ⊕ c) (b ⊕ d)
no_more_sums a b c d (inl h) (inl k) = inl (same_sums a b c d h k)
no_more_sums a b c d (inl h) (inr k) = inr (right_cheaper a b c d h k)
no_more_sums a b c d (inr h) (inl k) = inr (left_cheaper a b c d h k)
no_more_sums a b c d (inr h) (inr k) = inr (both_cheaper a b c d h k)

at_most_trans : (o : Option Cost) (b c : Cost) → IsAtMost o b → IsNoMore b c → IsAtMost o c
at_most_trans None b c h k = h
at_most_trans (Some a) b c h k = no_more_trans a b c h k

-- a sum of claims that is no more than a cost
abbrev IsSumUpTo : Option Cost → Cost → Type 0
IsSumUpTo o b = (c : Cost) × (o ≡ Some c) × IsNoMore c b

both_up_to : (o p : Option Cost) (a b : Cost) → IsAtMost o a → IsSumUpTo p b → IsSumUpTo (both o p) (a ⊕ b)
both_up_to None p a b h k = absurd h
both_up_to (Some x) p a b h (y, is, most) = (x ⊕ y, ap (both (Some x)) is, no_more_sums x a y b h most)

module _ (g : Grammar) (tree : Tree) (costs_of : NodeCosts) (bounds : Bounds g tree costs_of) where
  mutual
    pub bound : (d : Derivation) (i n : ℕ) (t : PlainTree) → IsRootAt tree.nodes i t → Derives g d n t → IsAtMost (claim costs_of (record { at = i; nonterminal = n })) (cost g d)
    bound (Deriv r kids) i n t stands (rule, at, left, (ts, fitting, all)) =
        let (c, is, most) = bound_all kids (goals rule.pattern tree.nodes i) (leaves rule.pattern) ts all (goals_match tree.nodes rule.pattern i t ts stands (fits_subtrees rule t ts fitting)) in
        subst (λ m. IsAtMost (claim costs_of (record { at = i; nonterminal = m })) (cost g (Deriv r kids))) left
        (at_most_trans (claim costs_of (record { at = i; nonterminal = rule.left })) (price rule ⊕ c) (rule_cost (rule_at g r) ⊕ costs g kids)
        (bounds i r rule t ts c at stands fitting is) (no_more_sums (price rule) (rule_cost (rule_at g r)) c (costs g kids) (inl (sym (ap rule_cost at))) most))

    pub bound_all : (ds : Derivations) (xs : List Goal) (ns : List ℕ) (ts : List PlainTree) → DeriveAll g ds ns ts → Match tree.nodes xs ns ts → IsSumUpTo (claimed costs_of xs) (costs g ds)
    bound_all no_more [] [] [] f h = (no_cost, refl, inl refl)
    bound_all no_more (x ∷ xs) [] [] f h = absurd h
    bound_all no_more xs [] (t ∷ ts) f h = absurd f
    bound_all no_more xs (n ∷ ns) ts f h = absurd f
    bound_all (more d ds) xs [] ts f h = absurd f
    bound_all (more d ds) xs (n ∷ ns) [] f h = absurd f
    bound_all (more d ds) [] (n ∷ ns) (t ∷ ts) f h = absurd h
    bound_all (more d ds) (x ∷ xs) (n ∷ ns) (t ∷ ts) f h =
        both_up_to (claim costs_of x) (claimed costs_of xs) (cost g d) (costs g ds)
        (subst (λ m. IsAtMost (claim costs_of (record { at = x.at; nonterminal = m })) (cost g d)) (sym h.0) (bound d x.at n t h.1 f.0)) (bound_all ds xs ns ts f.1 h.2)

no_less : (a b : Cost) → IsNoMore a b → IsCheaper b a → ⊥
no_less a b (inl h) k = cheaper_not_same b a k h
no_less a b (inr h) k = cheaper_not_both a b h k

pub proof_is_least : ProofIsLeast
proof_is_least g tree t costs_of rules spelled proof = go (claim costs_of (start_goal g tree)) rules proof.shown (λ e derives. bound g tree costs_of proof.bounds e _ g.start t (stands_root tree.nodes t spelled) derives)
  where
    go : (o : Option Cost) (rules : Option (List ℕ)) → IsShown g t o rules → ((e : Derivation) → Derives g e g.start t → IsAtMost o (cost g e)) → IsLeastCost g g.start t o
    go None None h b = b
    go None (Some rules) h b = b
    go (Some c) None h b = absurd h
    go (Some c) (Some rules) h b = record { derivation = h.derivation; derives = h.derives; cost_is = h.cost_is; least = λ e derives cheaper. no_less c (cost g e) (b e derives) cheaper }

pub least_is_best : LeastIsBest
least_is_best g n t None d h best = absurd (h d best.derives)
least_is_best g n t (Some c) d h best = ap Some (h.cost_is ∙ go (best.beats h.derivation h.derives))
  where
    go : (h.derivation ≡ d) ⊎ Beats g d h.derivation → cost g h.derivation ≡ cost g d
    go (inl q) = ap (cost g) q
    go (inr (inl q)) = absurd (h.least d best.derives (cheaper_same (cost g d) (cost g h.derivation) c q (sym h.cost_is)))
    go (inr (inr q)) = sym q.0
