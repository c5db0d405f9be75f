-- The sheet has the text, or is full.
use Rattle.std.proofs.Common.{subst, map}
use Rattle.sel_grammar.specs.declared.emission.Emitted.TheVariants.{Byte}
use Rattle.sel_expand.specs.Printing.{AreAllPrinted}
use Rattle.std.proofs.Common.{false}
use Rattle.sel_expand.proofs.Wholes.{is_text}
use Rattle.sel_expand.proofs.expansion.Expander.emit.Goals as goal

pub returns-clause-text : goal.returns-clause-text
returns-clause-text c =
    is_text c.args.grammar.now c.args.tree.now c.args.cover.now.rules c.reduce.new.self.reductions c.in_ok-last.last c.print_all.new.out.items c.in_ok-too_long.too_long c.if-too_long.false c.in_ok-last.ensures
    (subst (λ x. AreAllPrinted false c.args.grammar.now x c.reduce.new.self.reductions c.in_ok-last.last (map Byte c.print_all.new.out.items) c.in_ok-too_long.too_long) c.as_slice.ensures c.in_ok-too_long.ensures)
