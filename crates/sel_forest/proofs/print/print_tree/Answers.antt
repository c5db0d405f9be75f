-- Each turn performs the last task of the stack.
use Rattle.std.proofs.Common.{◌++◌, ◌∷◌, [], ◌-◌, refl, sym, ap, ◌∙◌, subst, length, reverse}
use Rattle.sel_forest.specs.declared.print.Task.TheVariants as task
use Rattle.sel_forest.specs.Printed.{tree_text}
use Rattle.sel_forest.proofs.Roots.{some_node}
use Rattle.sel_forest.proofs.Leading.{Leads, Leads-start, Leads-pop, weights-pop}
use Rattle.sel_forest.proofs.print.print_tree.Goals as goal

pub overflow_sub-nodes : goal.overflow_sub-nodes
overflow_sub-nodes c = let (t, postorder, small) = c.requires.tree in some_node c.as_slice-nodes.result.now t (c.as_slice-nodes.ensures ∙ postorder)

pub tasks-init : goal.tasks-init
tasks-init c = λ t postorder.
    let g = c.args.grammar.now in
    let nodes = c.as_slice-nodes.result.now in
    let text = c.args.text.now.items in
    subst (λ x. Leads g nodes (text ++ tree_text g t) text (reverse x)) (sym (c.in_ok-push.ensures.items ∙ ap (λ x. x ++ task.Tree (length nodes - 1) ∷ []) c.requires.empty))
    (Leads-start g nodes t text (length nodes - 1) (c.as_slice-nodes.ensures ∙ postorder) refl)

pub tasks-smaller : goal.tasks-smaller
tasks-smaller c =
    let (t, postorder, small) = c.requires.tree in
    let g = c.args.grammar.now in
    let nodes = c.as_slice-nodes.result.now in
    weights-pop g nodes (c.args.text.now.items ++ tree_text g t) c.tasks.text.items c.in-Some.task c.tasks.tasks.items c.pop.new.self.items c.perform.new.tasks.items
    c.in-Some.ensures.items (c.tasks.invariant t postorder) c.in_ok-perform.ensures.tasks

pub tasks-preserved : goal.tasks-preserved
tasks-preserved c = λ t postorder.
    let g = c.args.grammar.now in
    let nodes = c.as_slice-nodes.result.now in
    Leads-pop g nodes (c.args.text.now.items ++ tree_text g t) c.in-Some.task c.tasks.tasks.items c.pop.new.self.items c.perform.new.tasks.items c.tasks.text.items c.perform.new.text.items
    c.in-Some.ensures.items (c.tasks.invariant t postorder) c.in_ok-perform.ensures.text c.in_ok-perform.ensures.tasks
