-- Each turn writes the top goal's rule.
use Rattle.std.proofs.Common.{◌++◌, ◌∷◌, [], subst}
use Rattle.sel_plain.specs.Writing.{IsHalfWritten}
use Rattle.sel_plain.proofs.Writing.{top_rule, IsHalfWritten-step}
use Rattle.sel_plain.proofs.cover.written.Goals as goal

pub step-requires : goal.step-requires
step-requires c =
    let g = c.args.grammar.now in
    let nodes = c.args.nodes.now in
    let partly : IsHalfWritten g nodes c.args.goal c.loop-next.rules.items (c.pop.new.self.items ++ c.in-Some.next ∷ []) =
    subst (λ x. IsHalfWritten g nodes c.args.goal c.loop-next.rules.items x) c.in-Some.ensures.items c.loop-next.invariant in
    top_rule g nodes c.args.table.now.rows c.requires.rows c.in-Some.next c.args.goal c.loop-next.rules.items c.pop.new.self.items partly

pub loop-next-preserved : goal.loop-next-preserved
loop-next-preserved c =
    let g = c.args.grammar.now in
    let nodes = c.args.nodes.now in
    let partly : IsHalfWritten g nodes c.args.goal c.loop-next.rules.items (c.pop.new.self.items ++ c.in-Some.next ∷ []) =
    subst (λ x. IsHalfWritten g nodes c.args.goal c.loop-next.rules.items x) c.in-Some.ensures.items c.loop-next.invariant in
    IsHalfWritten-step g nodes c.args.table.now.rows c.requires.rows c.in-Some.next c.args.goal c.loop-next.rules.items c.pop.new.self.items partly
    c.step.new.rules.items c.step.new.stack.items c.in_ok-step.ensures
