-- The bounds, the rules and their agreement decide.
use Rattle.std.proofs.Common.{sym, ◌∙◌, subst, ℕ, ◌<◌, ◌-◌, length, ◌≡◌}
use Rattle.sel_forest.proofs.Roots.{some_node}
use Rattle.sel_check.specs.Bounding.{KeepsRules, IsFirstBroken}
use Rattle.sel_check.specs.CertificateTexts.{HasSmallClaims}
use Rattle.sel_check.specs.Certificates.{claim, Bounds, start_goal}
use Rattle.sel_check.proofs.ByNodes.{bounds_all, breaks_bound}
use Rattle.sel_check.proofs.Shown.{agree_proves, agree_least, differ_refutes, refused}
use Rattle.sel_check.proofs.tree_check.check_tree.Goals as goal

pub first_broken-requires-clause-small : goal.first_broken-requires-clause-small
first_broken-requires-clause-small c = subst HasSmallClaims (sym c.as_slice-costs.ensures) c.requires.small

pub returns-in-Some-clause-fault : goal.returns-in-Some-clause-fault
returns-in-Some-clause-fault c =
    let (t, postorder, small) = c.requires.tree in
    breaks_bound c.args.grammar.now c.args.tree.now c.args.certificate.now t c.in-Some.node postorder
    (subst (λ nodes. IsFirstBroken c.args.grammar.now nodes c.args.certificate.now.costs c.in-Some.node) c.as_slice-nodes.ensures
    (subst (λ costs. IsFirstBroken c.args.grammar.now c.as_slice-nodes.result.now costs c.in-Some.node) c.as_slice-costs.ensures c.in-Some.ensures))

pub overflow_sub-goal : goal.overflow_sub-goal
overflow_sub-goal c = let (t, postorder, small) = c.requires.tree in some_node c.as_slice-nodes.result.now t (c.as_slice-nodes.ensures ∙ postorder)

pub returns-in-Err-clause-fault : goal.returns-in-Err-clause-fault
returns-in-Err-clause-fault c =
    let (t, postorder, small) = c.requires.tree in
    let bounds : Bounds c.args.grammar.now c.args.tree.now c.args.certificate.now.costs =
    bounds_all c.args.grammar.now c.args.tree.now c.args.certificate.now.costs
    (subst (λ nodes. (i : ℕ) → i < length nodes → KeepsRules c.args.grammar.now nodes c.args.certificate.now.costs i) c.as_slice-nodes.ensures
    (subst (λ costs. (i : ℕ) → i < length c.as_slice-nodes.result.now → KeepsRules c.args.grammar.now c.as_slice-nodes.result.now costs i) c.as_slice-costs.ensures c.in_default.ensures)) in
    refused c.args.grammar.now c.args.tree.now c.args.certificate.now t postorder bounds c.in-Err.refusal (c.in-Err.ensures.fault t postorder)

pub returns-then-are_same-clause-ok : goal.returns-then-are_same-clause-ok
returns-then-are_same-clause-ok c =
    let (t, postorder, small) = c.requires.tree in
    let bounds : Bounds c.args.grammar.now c.args.tree.now c.args.certificate.now.costs =
    bounds_all c.args.grammar.now c.args.tree.now c.args.certificate.now.costs
    (subst (λ nodes. (i : ℕ) → i < length nodes → KeepsRules c.args.grammar.now nodes c.args.certificate.now.costs i) c.as_slice-nodes.ensures
    (subst (λ costs. (i : ℕ) → i < length c.as_slice-nodes.result.now → KeepsRules c.args.grammar.now c.as_slice-nodes.result.now costs i) c.as_slice-costs.ensures c.in_default.ensures)) in
    let is : c.claim-claim.result ≡ claim c.args.certificate.now.costs (start_goal c.args.grammar.now c.args.tree.now) =
    c.claim-claim.ensures ∙ (λ i. claim (c.as_slice-costs.ensures i) (record { at = length (c.as_slice-nodes.ensures i) - 1; nonterminal = c.args.grammar.now.start })) in
    agree_proves c.args.grammar.now c.args.tree.now c.args.certificate.now t postorder bounds c.in-Ok.shown c.claim-claim.result (c.in-Ok.ensures.ok t postorder) is (c.are_same.ensures.same c.if-are_same.true)

pub returns-then-are_same-clause-least : goal.returns-then-are_same-clause-least
returns-then-are_same-clause-least c = λ t postorder.
    let bounds : Bounds c.args.grammar.now c.args.tree.now c.args.certificate.now.costs =
    bounds_all c.args.grammar.now c.args.tree.now c.args.certificate.now.costs
    (subst (λ nodes. (i : ℕ) → i < length nodes → KeepsRules c.args.grammar.now nodes c.args.certificate.now.costs i) c.as_slice-nodes.ensures
    (subst (λ costs. (i : ℕ) → i < length c.as_slice-nodes.result.now → KeepsRules c.args.grammar.now c.as_slice-nodes.result.now costs i) c.as_slice-costs.ensures c.in_default.ensures)) in
    let is : c.claim-claim.result ≡ claim c.args.certificate.now.costs (start_goal c.args.grammar.now c.args.tree.now) =
    c.claim-claim.ensures ∙ (λ i. claim (c.as_slice-costs.ensures i) (record { at = length (c.as_slice-nodes.ensures i) - 1; nonterminal = c.args.grammar.now.start })) in
    agree_least c.args.grammar.now c.args.tree.now c.args.certificate.now t postorder bounds c.in-Ok.shown c.claim-claim.result (c.in-Ok.ensures.ok t postorder) is (c.are_same.ensures.same c.if-are_same.true)

pub returns-else-are_same-clause-fault : goal.returns-else-are_same-clause-fault
returns-else-are_same-clause-fault c =
    let (t, postorder, small) = c.requires.tree in
    let bounds : Bounds c.args.grammar.now c.args.tree.now c.args.certificate.now.costs =
    bounds_all c.args.grammar.now c.args.tree.now c.args.certificate.now.costs
    (subst (λ nodes. (i : ℕ) → i < length nodes → KeepsRules c.args.grammar.now nodes c.args.certificate.now.costs i) c.as_slice-nodes.ensures
    (subst (λ costs. (i : ℕ) → i < length c.as_slice-nodes.result.now → KeepsRules c.args.grammar.now c.as_slice-nodes.result.now costs i) c.as_slice-costs.ensures c.in_default.ensures)) in
    let is : c.claim-claim.result ≡ claim c.args.certificate.now.costs (start_goal c.args.grammar.now c.args.tree.now) =
    c.claim-claim.ensures ∙ (λ i. claim (c.as_slice-costs.ensures i) (record { at = length (c.as_slice-nodes.ensures i) - 1; nonterminal = c.args.grammar.now.start })) in
    differ_refutes c.args.grammar.now c.args.tree.now c.args.certificate.now t postorder bounds c.in-Ok.shown c.claim-claim.result (c.in-Ok.ensures.ok t postorder) is (c.are_same.ensures.differ c.if-are_same.false)
