-- The helper of a part's root, and then those of the parts below it.
use Rattle.std.proofs.Common.{◌≡◌, ◌+◌, ◌++◌, ◌≤◌, ℕ, [], ◌∷◌, arith, length, refl, sym, ap, ◌∙◌, subst}
use Rattle.sel_normal.specs.Forms.{parts, helper_rules}
use Rattle.sel_normal.proofs.Cases.{is_over, are_over, one_part, two_parts, IsOver, AreOver, ok_map}
use Rattle.sel_normal.proofs.Helpers.{pushed_both, pushed_root}
use Rattle.sel_normal.proofs.cut.+push_helpers.Goals as goal

pub helper_rule-requires-in-Unary-clause-number : goal.helper_rule-requires-in-Unary-clause-number
helper_rule-requires-in-Unary-clause-number t c =
    let o = one_part _ _ _ (is_over _ _ _ _ c.in-Unary.is refl) in
    let q = c.requires.few in
    omega arith

pub push_helpers-requires : goal.push_helpers-requires
push_helpers-requires t c =
    let o = is_over _ _ _ _ c.in-Unary.is c.get.ensures in
    let n = o.names_is in
    let l = one_part _ _ _ o in
    let q = c.requires.names in
    let r = c.requires.few in
    let d = c.decreases in
    (omega arith, (omega arith, omega arith))

pub helper_rule-requires-in-Binary-clause-number : goal.helper_rule-requires-in-Binary-clause-number
helper_rule-requires-in-Binary-clause-number t c =
    let o = two_parts _ _ _ _ (are_over _ _ _ _ _ _ c.in-Binary.is refl refl) in
    let q = c.requires.few in
    omega arith

pub push_helpers-requires-in-Binary : goal.push_helpers-requires-in-Binary
push_helpers-requires-in-Binary t c =
    let o = are_over _ _ _ _ _ _ c.in-Binary.is c.get-in-Binary.ensures refl in
    let n = o.names_is in
    let l = two_parts _ _ _ _ o in
    let q = c.requires.names in
    let r = c.requires.few in
    let d = c.decreases in
    (omega arith, (omega arith, omega arith))

pub push_helpers-requires-in-Binary-2 : goal.push_helpers-requires-in-Binary-2
push_helpers-requires-in-Binary-2 t c =
    let o = are_over _ _ _ _ _ _ c.in-Binary.is c.get-in-Binary.ensures c.get-in-Binary-2.ensures in
    let n = o.names_is in
    let l = two_parts _ _ _ _ o in
    let q = c.requires.names in
    let r = c.requires.few in
    let b = c.in_ok-behind-in-Binary.ensures.behind in
    let d = c.decreases in
    (omega arith, (omega arith, omega arith))

pub returns-in_ok-push-in-Unary-clause-rules : goal.returns-in_ok-push-in-Unary-clause-rules
returns-in_ok-push-in-Unary-clause-rules t c =
    let o = is_over _ _ _ _ c.in-Unary.is c.get.ensures in
    ok_map c.push_helpers.result (λ x h. pushed_root c.args.number c.args.part.now (parts c.get.result.now) c.args.rules.now.items _ _ o.parts_is
    (c.in_ok-push-in-Unary.ensures.items ∙ ap (λ x. c.args.rules.now.items ++ x ∷ []) c.helper_rule-in-Unary.ensures) h) c.push_helpers.ensures.rules

pub returns-in_ok-push-in-Unary-clause-behind : goal.returns-in_ok-push-in-Unary-clause-behind
returns-in_ok-push-in-Unary-clause-behind t c =
    let o = one_part _ _ _ (is_over _ _ _ _ c.in-Unary.is c.get.ensures) in
    ok_map c.push_helpers.result (λ x h. omega arith) c.push_helpers.ensures.behind

pub returns-in_ok-behind-in-Binary-clause-rules : goal.returns-in_ok-behind-in-Binary-clause-rules
returns-in_ok-behind-in-Binary-clause-rules t c =
    let o = are_over _ _ _ _ _ _ c.in-Binary.is c.get-in-Binary.ensures c.get-in-Binary-2.ensures in
    ok_map c.push_helpers-in-Binary-2.result
    (λ x h. pushed_root c.args.number c.args.part.now (parts c.get-in-Binary.result.now ++ parts c.get-in-Binary-2.result.now) c.args.rules.now.items _ _ o.parts_is
    (c.in_ok-push-in-Binary.ensures.items ∙ ap (λ x. c.args.rules.now.items ++ x ∷ []) c.helper_rule-in-Binary.ensures)
    (pushed_both (c.args.number + 1) _ (parts c.get-in-Binary.result.now) (parts c.get-in-Binary-2.result.now) _ _ _ c.in_ok-behind-in-Binary.ensures.behind c.in_ok-behind-in-Binary.ensures.rules h))
    c.push_helpers-in-Binary-2.ensures.rules

pub returns-in_ok-behind-in-Binary-clause-behind : goal.returns-in_ok-behind-in-Binary-clause-behind
returns-in_ok-behind-in-Binary-clause-behind t c =
    let o = two_parts _ _ _ _ (are_over _ _ _ _ _ _ c.in-Binary.is c.get-in-Binary.ensures c.get-in-Binary-2.ensures) in
    let b = c.in_ok-behind-in-Binary.ensures.behind in
    ok_map c.push_helpers-in-Binary-2.result (λ x h. omega arith) c.push_helpers-in-Binary-2.ensures.behind
