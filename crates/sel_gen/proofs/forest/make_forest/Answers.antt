-- Each turn takes one tree more.
use Rattle.std.proofs.Common.{◌≡◌, ◌+◌, ◌++◌, ◌∷◌, [], List, length, arith, ap, ◌∙◌, subst}
use Rattle.std.proofs.lemmas.List.{length_push}
use Rattle.sel_grammar.specs.declared.grammar.Grammar.{Grammar}
use Rattle.sel_forest.specs.declared.forest.Tree.{Tree}
use Rattle.sel_forest.specs.Valid.{IsValidTree}
use Rattle.sel_gen.specs.Maker.{Maker, AreToCome}
use Rattle.sel_gen.proofs.Forests.{made_more, valid_more}
use Rattle.sel_gen.proofs.forest.make_forest.Goals as goal

pub trees-preserved : goal.trees-preserved
trees-preserved c =
    let i = c.trees.invariant in
    let g : Grammar = c.args.grammar.now in
    let old : Maker = c.trees.maker in
    let new : Maker = c.next.new.self in
    let tree : Tree = c.in-Some.tree in
    let made : List Tree = c.trees.made in
    let pushed : List Tree = c.push.new.self in
    let push : pushed ≡ made ++ tree ∷ [] = c.in_ok-push.ensures.ok in
    let next : (rest : List Tree) → AreToCome new rest → AreToCome old (tree ∷ rest) = rw c.in-Some.is at c.in_ok-tree.ensures.next in
    let valid : IsValidTree old.grammar tree = rw c.in-Some.is at c.in_ok-tree.ensures.valid in
    let fewer : new.left + 1 ≡ old.left = rw c.in-Some.is at c.in_ok-tree.ensures.fewer in
    record {
      whole = made_more made pushed tree push g c.args.seed c.args.trees c.args.size old new next i.whole;
      valid = valid_more made pushed tree push g (subst (λ own. IsValidTree own tree) i.own valid) i.valid;
      many = omega (arith, ap length push, length_push made tree, i.many, fewer);
      own = c.in_ok-tree.ensures.grammar ∙ i.own;
    }
