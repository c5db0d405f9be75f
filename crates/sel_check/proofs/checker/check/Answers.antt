use Rattle.std.proofs.Common.{refl, sym, ◌∙◌, subst, arith, length, ◌≤◌, ◌<◌, ◌≡◌, slice_index_or}
use Rattle.sel_check.proofs.Checking.{refused_tree, valid_tree, room_here, checked_more, more_text, all_proved, all_least, some_unproved, empty_of, not_empty}
use Rattle.sel_check.proofs.checker.check.Goals as goal

pub returns-in-Err-clause-fault : goal.returns-in-Err-clause-fault
returns-in-Err-clause-fault c =
    let e = c.as_slice-tree-items.ensures in
    let lt = subst (λ x. c.trees.tree-index < length x) e c.trees-test.true in
    let is = subst (λ x. c.tree-item.result ≡ slice_index_or x c.trees.tree-index c.tree-item.result) e c.tree-item.is in
    refused_tree c.args.grammar.now c.args.forest.now c.args.bytes.now c.trees.lines c.certificate.new.self c.trees.tree-index c.trees.number c.trees.verdict c.tree-item.result lt is c.trees.invariant c.in-Err.refusal c.in-Err.ensures.fault

pub judged-requires-clause-tree : goal.judged-requires-clause-tree
judged-requires-clause-tree c =
    let e = c.as_slice-tree-items.ensures in
    let lt = subst (λ x. c.trees.tree-index < length x) e c.trees-test.true in
    let is = subst (λ x. c.tree-item.result ≡ slice_index_or x c.trees.tree-index c.tree-item.result) e c.tree-item.is in
    valid_tree c.args.grammar.now c.args.forest.now c.trees.tree-index c.tree-item.result c.requires.forest lt is

pub judged-requires-clause-room : goal.judged-requires-clause-room
judged-requires-clause-room c =
    let e = c.as_slice-tree-items.ensures in
    let lt = subst (λ x. c.trees.tree-index < length x) e c.trees-test.true in
    let is = subst (λ x. c.tree-item.result ≡ slice_index_or x c.trees.tree-index c.tree-item.result) e c.tree-item.is in
    let short = c.requires.short in
    let room =
    room_here c.args.grammar.now c.args.forest.now c.args.bytes.now c.trees.lines c.certificate.new.self c.trees.tree-index c.trees.number c.trees.verdict c.tree-item.result lt is c.trees.invariant c.in-Ok.certificate c.in-Ok.ensures.form c.in-Ok.ensures.lines
    in
    omega (arith, short, room)

pub trees-preserved : goal.trees-preserved
trees-preserved c =
    let e = c.as_slice-tree-items.ensures in
    let lt = subst (λ x. c.trees.tree-index < length x) e c.trees-test.true in
    let is = subst (λ x. c.tree-item.result ≡ slice_index_or x c.trees.tree-index c.tree-item.result) e c.tree-item.is in
    checked_more c.args.grammar.now c.args.forest.now c.args.bytes.now c.trees.lines c.certificate.new.self c.trees.tree-index c.trees.number c.trees.verdict c.tree-item.result lt is c.trees.invariant c.in-Ok.certificate c.in_ok-verdict.verdict c.in-Ok.ensures.form c.in-Ok.ensures.lines
    (c.in_ok-verdict.ensures _ c.trees.invariant.cs c.trees.invariant.known_is c.trees.invariant.trees_taken)

pub returns-then-not-is_empty-clause-fault : goal.returns-then-not-is_empty-clause-fault
returns-then-not-is_empty-clause-fault c =
    let end = subst (λ x. length x ≤ c.trees.tree-index) c.as_slice-tree-items.ensures c.trees-test.false in
    more_text c.args.grammar.now c.args.forest.now c.args.bytes.now c.trees.lines c.trees.tree-index c.trees.number c.trees.verdict end c.trees.invariant _ (not_empty c.trees.lines.rest.now (sym c.is_empty.ensures ∙ c.if-not-is_empty.true)) refl refl

pub returns-in-Proved-clause-ok : goal.returns-in-Proved-clause-ok
returns-in-Proved-clause-ok c =
    let end = subst (λ x. length x ≤ c.trees.tree-index) c.as_slice-tree-items.ensures c.trees-test.false in
    all_proved c.args.grammar.now c.args.forest.now c.args.bytes.now c.trees.lines c.trees.tree-index c.trees.number c.trees.verdict end c.trees.invariant c.in-Proved.costs (empty_of c.trees.lines.rest.now (sym c.is_empty.ensures ∙ c.if-not-is_empty.false)) c.in-Proved.is

pub returns-in-Proved-clause-least : goal.returns-in-Proved-clause-least
returns-in-Proved-clause-least c =
    let end = subst (λ x. length x ≤ c.trees.tree-index) c.as_slice-tree-items.ensures c.trees-test.false in
    let proof =
    all_proved c.args.grammar.now c.args.forest.now c.args.bytes.now c.trees.lines c.trees.tree-index c.trees.number c.trees.verdict end c.trees.invariant c.in-Proved.costs (empty_of c.trees.lines.rest.now (sym c.is_empty.ensures ∙ c.if-not-is_empty.false)) c.in-Proved.is
    in
    all_least c.args.grammar.now c.args.forest.now.trees proof.certificates c.in-Proved.costs proof.proved

pub returns-in-Faulty-clause-fault : goal.returns-in-Faulty-clause-fault
returns-in-Faulty-clause-fault c =
    let end = subst (λ x. length x ≤ c.trees.tree-index) c.as_slice-tree-items.ensures c.trees-test.false in
    some_unproved c.args.grammar.now c.args.forest.now c.args.bytes.now c.trees.lines c.trees.tree-index c.trees.number c.trees.verdict end c.trees.invariant c.in-Faulty.fault (empty_of c.trees.lines.rest.now (sym c.is_empty.ensures ∙ c.if-not-is_empty.false)) c.in-Faulty.is
