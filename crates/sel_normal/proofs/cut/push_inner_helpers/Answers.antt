-- The helpers of the parts below the root.
use Rattle.std.proofs.Common.{◌≡◌, ◌+◌, ◌++◌, ◌≤◌, ℕ, arith, length, refl, sym, ap, ◌∙◌}
use Rattle.sel_normal.specs.Forms.{parts, inner_parts, helper_rules}
use Rattle.sel_normal.proofs.Cases.{is_over, are_over, two_inner, IsOver, AreOver, ok_map}
use Rattle.sel_normal.proofs.Helpers.{pushed_both}
use Rattle.sel_normal.proofs.cut.push_inner_helpers.Goals as goal

pub push_helpers-requires : goal.push_helpers-requires
push_helpers-requires c =
    let o = is_over _ _ _ _ c.in-Unary.is c.get.ensures in
    let n = o.names_is in
    let l = ap length o.inner_is in
    let q = c.requires.names in
    let r = c.requires.few in
    record { names = omega arith; few = omega arith }

pub push_helpers-requires-in-Binary : goal.push_helpers-requires-in-Binary
push_helpers-requires-in-Binary c =
    let o = are_over _ _ _ _ _ _ c.in-Binary.is c.get-in-Binary.ensures refl in
    let n = o.names_is in
    let l = two_inner _ _ _ _ o in
    let q = c.requires.names in
    let r = c.requires.few in
    record { names = omega arith; few = omega arith }

pub push_helpers-requires-in-Binary-2 : goal.push_helpers-requires-in-Binary-2
push_helpers-requires-in-Binary-2 c =
    let o = are_over _ _ _ _ _ _ c.in-Binary.is c.get-in-Binary.ensures c.get-in-Binary-2.ensures in
    let n = o.names_is in
    let l = two_inner _ _ _ _ o in
    let q = c.requires.names in
    let r = c.requires.few in
    let b = c.in_ok-behind-in-Binary.ensures.behind in
    record { names = omega arith; few = omega arith }

pub returns-in-Unary-clause-rules : goal.returns-in-Unary-clause-rules
returns-in-Unary-clause-rules c =
    let o = is_over _ _ _ _ c.in-Unary.is c.get.ensures in
    ok_map c.push_helpers.result (λ x h. h ∙ ap (λ l. c.args.rules.now.items ++ helper_rules c.args.number l) (sym o.inner_is)) c.push_helpers.ensures.rules

pub returns-in-Unary-clause-behind : goal.returns-in-Unary-clause-behind
returns-in-Unary-clause-behind c =
    let o = is_over _ _ _ _ c.in-Unary.is c.get.ensures in
    let l = ap length o.inner_is in
    ok_map c.push_helpers.result (λ x h. omega arith) c.push_helpers.ensures.behind

pub returns-in_ok-behind-in-Binary-clause-rules : goal.returns-in_ok-behind-in-Binary-clause-rules
returns-in_ok-behind-in-Binary-clause-rules c =
    let o = are_over _ _ _ _ _ _ c.in-Binary.is c.get-in-Binary.ensures c.get-in-Binary-2.ensures in
    ok_map c.push_helpers-in-Binary-2.result
    (λ x h. pushed_both c.args.number _ (parts c.get-in-Binary.result.now) (parts c.get-in-Binary-2.result.now) c.args.rules.now.items _ _ c.in_ok-behind-in-Binary.ensures.behind c.in_ok-behind-in-Binary.ensures.rules h
    ∙ ap (λ l. c.args.rules.now.items ++ helper_rules c.args.number l) (sym o.inner_is))
    c.push_helpers-in-Binary-2.ensures.rules

pub returns-in_ok-behind-in-Binary-clause-behind : goal.returns-in_ok-behind-in-Binary-clause-behind
returns-in_ok-behind-in-Binary-clause-behind c =
    let o = two_inner _ _ _ _ (are_over _ _ _ _ _ _ c.in-Binary.is c.get-in-Binary.ensures c.get-in-Binary-2.ensures) in
    let b = c.in_ok-behind-in-Binary.ensures.behind in
    ok_map c.push_helpers-in-Binary-2.result (λ x h. omega arith) c.push_helpers-in-Binary-2.ensures.behind
