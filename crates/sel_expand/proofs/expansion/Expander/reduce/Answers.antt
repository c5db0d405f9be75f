-- The steps of the cover's derivation are listed.
use Rattle.std.proofs.Common.{ap, ◌∙◌, slice_get}
use Rattle.sel_expand.proofs.Wholes.{placeable, one_is_left, reduced}
use Rattle.sel_expand.proofs.expansion.Expander.reduce.Goals as goal

pub list_all-requires : goal.list_all-requires
list_all-requires c = placeable c.args.grammar.now c.args.tree.now c.args.cover.now.rules c.as_slice-2.result.now c.as_slice.result.now c.len.result c.as_slice.ensures c.len.ensures c.as_slice-2.ensures c.requires.tree c.requires.covered

pub unreachable-requires : goal.unreachable-requires
unreachable-requires c =
    one_is_left c.args.grammar.now c.args.tree.now c.args.cover.now.rules c.as_slice-2.result.now c.as_slice.result.now c.len.result c.as_slice.ensures c.len.ensures c.as_slice-2.ensures
    c.list_all.new.reductions c.list_all.new.left.items c.in_ok-list_all.ensures c.requires.tree c.requires.covered
    (c.in-None.ensures ∙ c.first.ensures.value ∙ ap (λ x. slice_get x 0) c.deref.ensures.value)

pub returns : goal.returns
returns c =
    reduced c.args.grammar.now c.args.tree.now c.args.cover.now.rules c.as_slice-2.result.now c.as_slice.result.now c.len.result c.as_slice.ensures c.len.ensures c.as_slice-2.ensures
    c.list_all.new.reductions c.list_all.new.left.items c.in_ok-list_all.ensures c.in-Some.last
    (c.in-Some.ensures ∙ c.first.ensures.value ∙ ap (λ x. slice_get x 0) c.deref.ensures.value)
