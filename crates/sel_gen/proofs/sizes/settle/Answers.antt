-- When no rule lowers a size, the sizes are the least.
use Rattle.std.proofs.Common.{arith, ◌≡◌, length}
use Rattle.sel_gen.proofs.Settled.{settled}
use Rattle.sel_gen.proofs.sizes.settle.Goals as goal

pub returns-then-not-lower_all : goal.returns-then-not-lower_all
returns-then-not-lower_all c =
    let e = c.lower_all.ensures in
    let long : length c.lower_all.new.sizes ≡ length c.args.grammar.now.nonterminals = let x = c.passes.invariant.long in let y = c.lower_all.auto.sizes in omega arith in
    settled c.args.grammar.now c.args.limit c.lower_all.new.sizes (e.withstood c.if-not-lower_all.true) long e.within e.built
