-- The numbers of the kids of an operator.
use Rattle.std.proofs.Common.{◌≡◌, ◌+◌, ◌≤◌, ℕ, arith, length, refl, sym, ap, ◌∙◌, Some, None}
use Rattle.sel_normal.specs.declared.normal.Body.TheVariants.{Operator}
use Rattle.sel_normal.specs.Forms.{parts, head}
use Rattle.sel_normal.proofs.Cases.{is_over, are_over, parts_few, IsOver, AreOver}
use Rattle.sel_normal.proofs.cut.body.Goals as goal

pub operator_count-requires : goal.operator_count-requires
operator_count-requires c =
    let o = are_over _ _ _ _ _ _ c.in-Binary.is c.get-in-Binary.ensures refl in
    let n = o.names_is in
    let q = c.requires.names in
    omega arith

pub overflow_add-behind : goal.overflow_add-behind
overflow_add-behind c =
    let o = are_over _ _ _ _ _ _ c.in-Binary.is c.get-in-Binary.ensures refl in
    let n = o.names_is in
    let f = parts_few c.get-in-Binary.result.now in
    let e = c.operator_count.ensures in
    let q = c.requires.names in
    let r = c.requires.number in
    omega arith

pub returns-in-Unary : goal.returns-in-Unary
returns-in-Unary c =
    let o = is_over _ _ _ _ c.in-Unary.is c.get.ensures in
    ap (λ (x : ℕ). Operator c.in-Unary.operator (Some x) None c.args.test) c.head.ensures ∙ sym (o.body_is c.args.number c.args.test)

pub returns-in-Binary : goal.returns-in-Binary
returns-in-Binary c =
    let o = are_over _ _ _ _ _ _ c.in-Binary.is c.get-in-Binary-2.ensures c.get-in-Binary-3.ensures in
    let long : c.operator_count.result ≡ length (parts c.get-in-Binary-2.result.now) =
    c.operator_count.ensures ∙ ap (λ p. length (parts p)) (c.get-in-Binary.ensures ∙ sym c.get-in-Binary-2.ensures) in
    ap (λ (x : ℕ). Operator c.in-Binary.operator (Some x) (Some c.head-in-Binary-2.result) c.args.test) c.head-in-Binary.ensures
    ∙ ap (λ (x : ℕ). Operator c.in-Binary.operator (Some (head c.args.number c.get-in-Binary-2.result.now)) (Some x) c.args.test)
    (c.head-in-Binary-2.ensures ∙ ap (λ (x : ℕ). head (c.args.number + x) c.get-in-Binary-3.result.now) long)
    ∙ sym (o.body_is c.args.number c.args.test)
