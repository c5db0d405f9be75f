-- The line is appended, where there is one.
use Rattle.std.proofs.Common.{◌++◌, sym, ◌∙◌, subst, slice_get}
use Rattle.sel_forest.proofs.PlaceLemmas.{if_ok_map}
use Rattle.sel_expand.specs.Sheets.{shown}
use Rattle.sel_expand.specs.Printing.{IsDone, line_at}
use Rattle.sel_expand.proofs.KidValues.{shows_none}
use Rattle.sel_expand.proofs.Lines.{line_rest, line_none}
use Rattle.sel_expand.proofs.printing.print_line.Goals as goal

pub returns-then-is_line : goal.returns-then-is_line
returns-then-is_line g c = if_ok_map c.print.result _ _ (λ full h texts are hold.
    subst (λ x. IsDone full g.S.Sheet.apart texts c.print.new.spans.items (g.S.Sheet.told c.print.new.out) (g.S.Sheet.told c.args.out.now ++ shown g.S.Sheet.apart x))
    (line_rest c.args.grammar.now c.args.nodes.now texts (slice_get c.args.reductions.now c.args.at) (sym c.is_line.ensures ∙ c.if-is_line.true)) (h texts are hold)) c.print.ensures

pub returns-else-is_line : goal.returns-else-is_line
returns-else-is_line g c = λ texts are hold. (
  shows_none g.S.Sheet.apart (g.S.Sheet.told c.args.out.now) (line_at c.args.grammar.now c.args.nodes.now texts (slice_get c.args.reductions.now c.args.at))
      (line_none c.args.grammar.now c.args.nodes.now texts (slice_get c.args.reductions.now c.args.at) (sym c.is_line.ensures ∙ c.if-is_line.false)),
  hold,
)
