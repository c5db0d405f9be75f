-- One line more, and then the value.
use Rattle.std.proofs.Common.{◌≡◌, ◌++◌, ◌∙◌, true, subst, slice_get, arith, length}
use Rattle.sel_expand.specs.Sheets.{shown, IsEnded}
use Rattle.sel_expand.specs.Values.{text_at, lines_of}
use Rattle.sel_expand.specs.Printing.{IsDone, line_at}
use Rattle.sel_expand.proofs.Lines.{line_done, line_cut, value_last, whole_by}
use Rattle.sel_expand.proofs.printing.print_all.Goals as goal

pub returns-then-branch : goal.returns-then-branch
returns-then-branch g c = λ texts are.
    let b = g.S.Sheet.apart in
    let i = c.reductions.invariant texts are in
    line_cut c.args.grammar.now c.args.nodes.now texts b c.args.reductions.now c.reductions.at (g.S.Sheet.told c.reductions.out) (g.S.Sheet.told c.print_line.new.out) i.0 (text_at texts c.args.last)
    (subst (λ f. IsDone f b texts c.print_line.new.spans.items (g.S.Sheet.told c.print_line.new.out) (g.S.Sheet.told c.reductions.out ++ shown b (line_at c.args.grammar.now c.args.nodes.now texts (slice_get c.args.reductions.now c.reductions.at))))
    c.if-branch.true (c.in_ok-print_line.ensures texts are i.1))

pub reductions-preserved : goal.reductions-preserved
reductions-preserved g c = λ texts are.
    let b = g.S.Sheet.apart in
    let i = c.reductions.invariant texts are in
    let done = subst (λ f. IsDone f b texts c.print_line.new.spans.items (g.S.Sheet.told c.print_line.new.out) (g.S.Sheet.told c.reductions.out ++ shown b (line_at c.args.grammar.now c.args.nodes.now texts (slice_get c.args.reductions.now c.reductions.at))))
    c.if-branch.false (c.in_ok-print_line.ensures texts are i.1) in
    (line_done c.args.grammar.now c.args.nodes.now texts b c.args.reductions.now c.reductions.at (g.S.Sheet.told c.reductions.out) (g.S.Sheet.told c.print_line.new.out) i.0 done.0, done.1)

pub returns-then-branch-2 : goal.returns-then-branch-2
returns-then-branch-2 g c = λ texts are.
    let b = g.S.Sheet.apart in
    let i = c.reductions.invariant texts are in
    let end : c.reductions.at ≡ length c.args.reductions.now = omega (arith, c.reductions-test.false, c.reductions.auto.at-end, c.len-at-end.ensures) in
    let out = g.S.Sheet.told c.print_value.new.out in
    subst (λ x. IsEnded true b out x) (value_last c.args.grammar.now c.args.nodes.now texts b c.args.reductions.now c.reductions.at (g.S.Sheet.told c.reductions.out) (text_at texts c.args.last) end i.0)
    (subst (λ f. IsEnded f b out (g.S.Sheet.told c.reductions.out ++ shown b (text_at texts c.args.last))) c.if-branch-2.true (c.in_ok-print_value.ensures texts are i.1))

pub returns : goal.returns
returns g c = λ texts are.
    let b = g.S.Sheet.apart in
    let i = c.reductions.invariant texts are in
    let end : c.reductions.at ≡ length c.args.reductions.now = omega (arith, c.reductions-test.false, c.reductions.auto.at-end, c.len-at-end.ensures) in
    let out = g.S.Sheet.told c.print_value.new.out in
    whole_by b c.is_full.result out (shown b (lines_of c.args.grammar.now c.args.nodes.now texts c.args.reductions.now ++ text_at texts c.args.last)) c.is_full.ensures.over c.is_full.ensures.within
    (subst (λ f. IsEnded f b out (g.S.Sheet.told c.reductions.out ++ shown b (text_at texts c.args.last))) c.if-branch-2.false (c.in_ok-print_value.ensures texts are i.1)
    ∙ value_last c.args.grammar.now c.args.nodes.now texts b c.args.reductions.now c.reductions.at (g.S.Sheet.told c.reductions.out) (text_at texts c.args.last) end i.0)
