-- A pattern has the operators of its kids and its own.
use Rattle.std.proofs.Common.{◌≡◌, ◌+◌, ◌≤◌, rules, arith, length, refl}
use Rattle.sel_normal.specs.Forms.{parts}
use Rattle.sel_normal.proofs.Cases.{is_over, are_over, parts_few, one_part, two_parts, IsOver, AreOver}
use Rattle.sel_normal.proofs.cut.+operator_count.Goals as goal

pub operator_count-requires : goal.operator_count-requires
operator_count-requires t c = let o = is_over _ _ _ _ c.in-Unary.is c.get.ensures in let n = o.names_is in let d = c.decreases in (omega arith, omega arith)

pub overflow_add-result : goal.overflow_add-result
overflow_add-result t c = let o = is_over _ _ _ _ c.in-Unary.is c.get.ensures in let n = o.names_is in let f = parts_few c.get.result.now in let e = c.operator_count.ensures in omega arith

pub operator_count-requires-in-Binary : goal.operator_count-requires-in-Binary
operator_count-requires-in-Binary t c = let o = are_over _ _ _ _ _ _ c.in-Binary.is c.get-in-Binary.ensures refl in let n = o.names_is in let d = c.decreases in (omega arith, omega arith)

pub returns-in-Unary : goal.returns-in-Unary
returns-in-Unary t c = let o = one_part _ _ _ (is_over _ _ _ _ c.in-Unary.is c.get.ensures) in let e = c.operator_count.ensures in omega arith

pub operator_count-requires-in-Binary-2 : goal.operator_count-requires-in-Binary-2
operator_count-requires-in-Binary-2 t c = let o = are_over _ _ _ _ _ _ c.in-Binary.is c.get-in-Binary.ensures c.get-in-Binary-2.ensures in let n = o.names_is in let d = c.decreases in (omega arith, omega arith)

pub overflow_add-result-in-Binary : goal.overflow_add-result-in-Binary
overflow_add-result-in-Binary t c =
    let o = are_over _ _ _ _ _ _ c.in-Binary.is c.get-in-Binary.ensures refl in let n = o.names_is in
    let f = parts_few c.get-in-Binary.result.now in
    let e = c.operator_count-in-Binary.ensures in
    omega arith

pub overflow_add-result-in-Binary-2 : goal.overflow_add-result-in-Binary-2
overflow_add-result-in-Binary-2 t c =
    let o = are_over _ _ _ _ _ _ c.in-Binary.is c.get-in-Binary.ensures c.get-in-Binary-2.ensures in let n = o.names_is in
    let f = parts_few c.get-in-Binary.result.now in
    let f' = parts_few c.get-in-Binary-2.result.now in
    let e = c.operator_count-in-Binary.ensures in
    let e' = c.operator_count-in-Binary-2.ensures in
    omega arith

pub returns-in-Binary : goal.returns-in-Binary
returns-in-Binary t c =
    let o = two_parts _ _ _ _ (are_over _ _ _ _ _ _ c.in-Binary.is c.get-in-Binary.ensures c.get-in-Binary-2.ensures) in
    let e = c.operator_count-in-Binary.ensures in
    let e' = c.operator_count-in-Binary-2.ensures in
    omega arith
