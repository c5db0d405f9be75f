use Rattle.std.proofs.Common.{◌++◌, ap, ◌∙◌, append_assoc, codes}
use Rattle.sel_forest.specs.Printed.{tree_text}
use Rattle.sel_forest.proofs.Reprinting.{printed_next}
use Rattle.sel_forest.proofs.print.Printer.print.Goals as goal

pub returns : goal.returns
returns c = λ trees h.
    let (t, postorder, small) = c.requires.tree in
    let g = c.args.grammar.now in
    let before = c.args.self.now.text.items in
    record {
      printed = printed_next g trees c.args.tree.now t before c.put.new.text.items h.printed postorder
          (c.in_ok-put.ensures ∙ ap (λ x. x ++ codes "\n") (c.in_ok-print_tree.ensures.text t postorder)
          ∙ append_assoc before (tree_text g t) (codes "\n"));
      idle = c.in_ok-print_tree.ensures.emptied;
    }
