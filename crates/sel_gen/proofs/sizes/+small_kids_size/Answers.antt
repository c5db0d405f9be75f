-- The sum at an operator's kids.
use Rattle.sel_gen.proofs.Patterns.{unary_size, binary_size}
use Rattle.sel_gen.proofs.sizes.+small_kids_size.Goals as goal

pub returns-in-Unary : goal.returns-in-Unary
returns-in-Unary t c = unary_size _ _ _ _ _ _ c.in-Unary.is c.get.ensures c.small_kids_size.ensures

pub returns-in-Binary : goal.returns-in-Binary
returns-in-Binary t c = binary_size _ _ _ _ _ _ _ _ _ _ c.in-Binary.is c.get-in-Binary.ensures c.get-in-Binary-2.ensures c.small_kids_size-first.ensures c.small_kids_size-second.ensures c.small_sum.ensures
