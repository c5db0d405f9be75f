-- The trees of the forest are those to come.
use Rattle.std.proofs.Common.{◌≡◌, ◌∙◌, ap, sym, subst}
use Rattle.sel_gen.specs.Sizes.{size_at, AreLeastSizes}
use Rattle.sel_gen.specs.Made.{AreMade, first_words}
use Rattle.sel_gen.specs.Maker.{count_for}
use Rattle.sel_gen.proofs.Forests.{to_come}
use Rattle.sel_gen.proofs.maker.TreeMaker.new.Goals as goal

pub returns-clause-comes : goal.returns-clause-comes
returns-clause-comes c = λ made h.
    let g = c.args.grammar.now in
    let sizes = c.in_ok-sizes.sizes.items in
    let left : c.count_for.result ≡ count_for (size_at c.in_ok-sizes.sizes.items c.args.grammar.now.start) c.args.trees =
    c.count_for.ensures ∙ ap (λ o. count_for o c.args.trees) (c.size_at-least.ensures ∙ ap (λ s. size_at s c.args.grammar.now.start) c.as_slice-2.ensures.value) in
    subst (λ n. AreMade g sizes c.args.size n c.seed_from_u64.result made) (sym left)
    (subst (λ w. AreMade g sizes c.args.size (count_for (size_at sizes g.start) c.args.trees) w made) (sym c.seed_from_u64.ensures)
    (to_come g sizes c.args.seed c.args.trees c.args.size made c.in_ok-sizes.ensures h))
