-- The bound at a node by what a loop over the rules asks: whether each fits the node, and the claims of the goals under it.
use Rattle.std.proofs.Common.{◌≡◌, ◌<◌, ◌+◌, ◌⊎◌, inl, inr, ℕ, zero, suc, List, Some, sym, ap, subst, ◌∙◌, length, arith, slice_get}
use Rattle.sel_grammar.specs.declared.grammar.Grammar.{Grammar}
use Rattle.sel_grammar.specs.declared.grammar.Rule.{Rule}
use Rattle.sel_grammar.specs.PlainTrees.{PlainTree}
use Rattle.sel_forest.specs.declared.forest.Node.{Node}
use Rattle.sel_forest.specs.declared.forest.Tree.{Tree}
use Rattle.sel_forest.specs.Places.{IsRootAt}
use Rattle.sel_forest.specs.Postorder.{IsPostorderOf}
use Rattle.sel_forest.proofs.Lying.{given, fits_is, fits_some}
use Rattle.sel_forest.proofs.Matching.{some_same, some_none, within}
use Rattle.sel_forest.proofs.Roots.{tree_at}
use Rattle.sel_plain.specs.NodeCosts.{NodeCosts}
use Rattle.sel_check.specs.declared.certificate.TreeCertificate.{TreeCertificate}
use Rattle.sel_check.specs.Certificates.{BoundsAt, Bounds}
use Rattle.sel_check.specs.Bounding.{KeepsRule, KeepsRules, IsFirstBroken}
use Rattle.sel_check.specs.TreeChecks.{BreaksBound}

pub bounds_by_rules : (g : Grammar) (tree : Tree) (costs : NodeCosts) (i : ℕ) → KeepsRules g tree.nodes costs i → BoundsAt g tree costs i
bounds_by_rules g tree costs i h zero rule t ts c at stands fit sum = absurd (some_none (sym at))
bounds_by_rules g tree costs i h (suc k) rule t ts c at stands fit sum = h k rule at c (fits_is tree.nodes rule i t stands ∙ ap given fit) sum

-- so a rule that breaks it shows that the node isn't bounded
pub rules_by_bounds : (g : Grammar) (tree : Tree) (costs : NodeCosts) (i : ℕ) (t : PlainTree) → IsRootAt tree.nodes i t → BoundsAt g tree costs i → KeepsRules g tree.nodes costs i
rules_by_bounds g tree costs i t stands h k rule at c fit sum = let (ts, (fits, lies)) = fits_some tree.nodes rule i t stands fit in h (suc k) rule t ts c at stands fits sum

pub bounds_all : (g : Grammar) (tree : Tree) (costs : NodeCosts) → ((i : ℕ) → i < length tree.nodes → KeepsRules g tree.nodes costs i) → Bounds g tree costs
bounds_all g tree costs h i r rule t ts c at stands fit sum = bounds_by_rules g tree costs i (h i (within tree.nodes i t stands)) r rule t ts c at stands fit sum

pub breaks_bound : (g : Grammar) (tree : Tree) (c : TreeCertificate) (plain : PlainTree) (i : ℕ) → IsPostorderOf tree plain → IsFirstBroken g tree.nodes c.costs i → BreaksBound g tree c i
breaks_bound g tree c plain i spelled h = record {
  broken = λ bounds. let (s, (stands, less)) = tree_at tree.nodes plain i spelled h.inside in h.broken (rules_by_bounds g tree c.costs i s stands bounds);
  before = λ j lt. bounds_by_rules g tree c.costs j (h.before j lt);
}

split : (k m : ℕ) → k < m + 1 → (k < m) ⊎ (k ≡ m)
split k m h = grind arith

-- one more rule is kept
pub kept_more : (g : Grammar) (nodes : List Node) (costs : NodeCosts) (i m : ℕ) (item : Rule) → slice_get g.rules m ≡ Some item
    → ((k : ℕ) (rule : Rule) → k < m → slice_get g.rules k ≡ Some rule → KeepsRule nodes costs i rule) → KeepsRule nodes costs i item
    → (k : ℕ) (rule : Rule) → k < m + 1 → slice_get g.rules k ≡ Some rule → KeepsRule nodes costs i rule
kept_more g nodes costs i m item is h here k rule lt at = go (split k m lt)
  where
    go : (k < m) ⊎ (k ≡ m) → KeepsRule nodes costs i rule
    go (inl l) = h k rule l at
    go (inr q) = subst (KeepsRule nodes costs i) (some_same (sym is ∙ ap (slice_get g.rules) (sym q) ∙ at)) here
