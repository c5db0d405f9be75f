-- The loop over a text's lines.
use Rattle.std.proofs.Common.{◌∷◌, ◌++◌, ◌∙◌, [], ap, refl, subst, arith, ◌<◌, length, length-append, IfSome}
use Rattle.std.specs.Prelude.{option_to_list}
use Rattle.std.specs.Option.{OnSome}
use Rattle.sel_forest.specs.Limits.{most_trees}
use Rattle.sel_forest.specs.Pieces.{lines_behind}
use Rattle.sel_forest.proofs.ForestLoop.{read_start, read_next, read_end}
use Rattle.sel_forest.proofs.read.read_trees.Goals as goal

pub lines-init : goal.lines-init
lines-init g c = ([], read_start c.args.grammar.now c.args.bytes.now [] refl, c.requires.none, refl)

pub read_line-requires-clause-so_far : goal.read_line-requires-clause-so_far
read_line-requires-clause-so_far g c = let (taken, read, took, count) = c.lines.invariant in (taken, took)

pub returns-in_default-clause-ok : goal.returns-in_default-clause-ok
returns-in_default-clause-ok g c =
    let (taken, read, took, count) = c.lines.invariant in
    let (tree, line, few, more, takes) = c.in_ok-trees.ensures.line taken took in (
      taken ++ option_to_list tree,
      read_end c.args.grammar.now c.args.bytes.now c.lines.rest.now c.first_line-cut.result.line.now taken (taken ++ option_to_list tree) tree c.lines.number read
          (c.first_line-cut.ensures.lines ∙ ap (λ o. c.first_line-cut.result.line.now ∷ lines_behind o) c.in_default.is) line
          (subst (λ n. OnSome tree (n < most_trees)) count few) refl,
      takes,
    )

pub lines-preserved : goal.lines-preserved
lines-preserved g c =
    let (taken, read, took, count) = c.lines.invariant in
    let (tree, line, few, more, takes) = c.in_ok-trees.ensures.line taken took in (
      taken ++ option_to_list tree,
      read_next c.args.grammar.now c.args.bytes.now c.lines.rest.now c.in-Some.behind.now c.first_line-cut.result.line.now taken (taken ++ option_to_list tree) tree c.lines.number read
          (c.first_line-cut.ensures.lines ∙ ap (λ o. c.first_line-cut.result.line.now ∷ lines_behind o) c.in-Some.is)
          (subst (λ o. IfSome o (λ r. length r.now < length c.lines.rest.now)) c.in-Some.is c.first_line-cut.ensures.shorter) line
          (subst (λ n. OnSome tree (n < most_trees)) count few) refl,
      takes,
      (let longer = length-append taken (option_to_list tree) in omega (arith, count, more, longer)),
    )
