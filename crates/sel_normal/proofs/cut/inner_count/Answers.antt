-- The operators below the root are those of the kids.
use Rattle.std.proofs.Common.{◌≡◌, ◌+◌, ◌≤◌, arith, length, refl, ap, ◌∙◌, sym}
use Rattle.sel_normal.specs.Forms.{parts, inner_parts}
use Rattle.sel_normal.proofs.Cases.{is_over, are_over, parts_few, two_inner, IsOver, AreOver}
use Rattle.sel_normal.proofs.cut.inner_count.Goals as goal

pub operator_count-requires : goal.operator_count-requires
operator_count-requires c = let o = is_over _ _ _ _ c.in-Unary.is c.get.ensures in let n = o.names_is in let q = c.requires in omega arith

pub operator_count-requires-in-Binary : goal.operator_count-requires-in-Binary
operator_count-requires-in-Binary c = let o = are_over _ _ _ _ _ _ c.in-Binary.is c.get-in-Binary.ensures refl in let n = o.names_is in let q = c.requires in omega arith

pub operator_count-requires-in-Binary-2 : goal.operator_count-requires-in-Binary-2
operator_count-requires-in-Binary-2 c = let o = are_over _ _ _ _ _ _ c.in-Binary.is c.get-in-Binary.ensures c.get-in-Binary-2.ensures in let n = o.names_is in let q = c.requires in omega arith

pub overflow_add-result : goal.overflow_add-result
overflow_add-result c =
    let o = are_over _ _ _ _ _ _ c.in-Binary.is c.get-in-Binary.ensures c.get-in-Binary-2.ensures in
    let n = o.names_is in
    let f = parts_few c.get-in-Binary.result.now in
    let f' = parts_few c.get-in-Binary-2.result.now in
    let e = c.operator_count-in-Binary.ensures in
    let e' = c.operator_count-in-Binary-2.ensures in
    let q = c.requires in
    omega arith

pub returns-in-Unary-clause-is : goal.returns-in-Unary-clause-is
returns-in-Unary-clause-is c = let o = is_over _ _ _ _ c.in-Unary.is c.get.ensures in c.operator_count.ensures ∙ sym (ap length o.inner_is)

pub returns-in-Unary-clause-few : goal.returns-in-Unary-clause-few
returns-in-Unary-clause-few c =
    let o = is_over _ _ _ _ c.in-Unary.is c.get.ensures in
    let n = o.names_is in
    let f = parts_few c.get.result.now in
    let e = c.operator_count.ensures in
    let q = c.requires in
    omega arith

pub returns-in-Binary-clause-is : goal.returns-in-Binary-clause-is
returns-in-Binary-clause-is c =
    let o = two_inner _ _ _ _ (are_over _ _ _ _ _ _ c.in-Binary.is c.get-in-Binary.ensures c.get-in-Binary-2.ensures) in
    let e = c.operator_count-in-Binary.ensures in
    let e' = c.operator_count-in-Binary-2.ensures in
    omega arith

pub returns-in-Binary-clause-few : goal.returns-in-Binary-clause-few
returns-in-Binary-clause-few c =
    let o = are_over _ _ _ _ _ _ c.in-Binary.is c.get-in-Binary.ensures c.get-in-Binary-2.ensures in
    let n = o.names_is in
    let f = parts_few c.get-in-Binary.result.now in
    let f' = parts_few c.get-in-Binary-2.result.now in
    let e = c.operator_count-in-Binary.ensures in
    let e' = c.operator_count-in-Binary-2.ensures in
    let q = c.requires in
    omega arith
