-- Each turn takes a frame from the stack.
use Rattle.std.proofs.Common.{◌∷◌, ◌++◌, [], sym, ap, ◌∙◌, ◌<◌, subst, reverse, arith}
use Rattle.sel_expand.specs.declared.sheet.Span.{Span}
use Rattle.sel_expand.specs.Printing.{Fills, SpansHold, Leads, from, work}
use Rattle.sel_expand.specs.Sheets.{shown}
use Rattle.sel_expand.proofs.Leading.{fill_falls, fill_leads, fill_cuts, note_leads, noted_leads, last_leads, nil_of_none}
use Rattle.sel_expand.proofs.printing.print.Goals as goal

pub returns-then-branch : goal.returns-then-branch
returns-then-branch g c = λ texts are hold.
    let b = g.S.Sheet.apart in
    let m = c.args.grammar.now in
    let nodes = c.args.nodes.now in
    let rs = c.args.reductions.now in
    let spans = c.frames.spans.items in
    let out = g.S.Sheet.told c.frames.out in
    let out' = g.S.Sheet.told c.fill.new.out in
    let frames = c.pop.new.self.items in
    let frames' = c.fill.new.frames.items in
    let full = c.in_ok-fill-in-Fill.field-0 in
    let i = c.frames.invariant texts are hold in
    let fills : Fills b m nodes rs spans c.in-Fill.at c.in-Fill.place out out' frames frames' full =
    subst (λ x. Fills b m nodes rs x c.in-Fill.at c.in-Fill.place out out' frames frames' full) c.as_slice.ensures.value c.in_ok-fill-in-Fill.ensures in
    fill_cuts m nodes rs texts are b (g.S.Sheet.told c.args.out.now ++ shown b (from m nodes rs texts c.args.first 0)) spans out frames c.frames.frames.items i.0 i.1
    c.in-Fill.at c.in-Fill.place (c.in-Some.ensures.items ∙ ap (λ x. frames ++ x ∷ []) c.in-Fill.is) out' frames' full c.if-branch.true fills

pub frames-smaller-else-branch : goal.frames-smaller-else-branch
frames-smaller-else-branch g c =
    let b = g.S.Sheet.apart in
    let m = c.args.grammar.now in
    let nodes = c.args.nodes.now in
    let rs = c.args.reductions.now in
    let spans = c.frames.spans.items in
    let out = g.S.Sheet.told c.frames.out in
    let out' = g.S.Sheet.told c.fill.new.out in
    let frames = c.pop.new.self.items in
    let frames' = c.fill.new.frames.items in
    let full = c.in_ok-fill-in-Fill.field-0 in
    let (texts, are) = c.requires in
    let fills : Fills b m nodes rs spans c.in-Fill.at c.in-Fill.place out out' frames frames' full =
    subst (λ x. Fills b m nodes rs x c.in-Fill.at c.in-Fill.place out out' frames frames' full) c.as_slice.ensures.value c.in_ok-fill-in-Fill.ensures in
    subst (λ x. work m rs frames' < work m rs x) (sym (c.in-Some.ensures.items ∙ ap (λ x. frames ++ x ∷ []) c.in-Fill.is))
    (fill_falls m nodes rs texts are b spans c.in-Fill.at c.in-Fill.place out frames out' frames' full c.if-branch.false fills)

pub frames-preserved-else-branch : goal.frames-preserved-else-branch
frames-preserved-else-branch g c = λ texts are hold.
    let b = g.S.Sheet.apart in
    let m = c.args.grammar.now in
    let nodes = c.args.nodes.now in
    let rs = c.args.reductions.now in
    let spans = c.frames.spans.items in
    let out = g.S.Sheet.told c.frames.out in
    let out' = g.S.Sheet.told c.fill.new.out in
    let frames = c.pop.new.self.items in
    let frames' = c.fill.new.frames.items in
    let full = c.in_ok-fill-in-Fill.field-0 in
    let i = c.frames.invariant texts are hold in
    let fills : Fills b m nodes rs spans c.in-Fill.at c.in-Fill.place out out' frames frames' full =
    subst (λ x. Fills b m nodes rs x c.in-Fill.at c.in-Fill.place out out' frames frames' full) c.as_slice.ensures.value c.in_ok-fill-in-Fill.ensures in
    fill_leads m nodes rs texts are b (g.S.Sheet.told c.args.out.now ++ shown b (from m nodes rs texts c.args.first 0)) spans out frames c.frames.frames.items i.0 i.1
    c.in-Fill.at c.in-Fill.place (c.in-Some.ensures.items ∙ ap (λ x. frames ++ x ∷ []) c.in-Fill.is) out' frames' full c.if-branch.false fills

pub frames-preserved-then-at-len : goal.frames-preserved-then-at-len
frames-preserved-then-at-len g c = λ texts are hold.
    let b = g.S.Sheet.apart in
    let m = c.args.grammar.now in
    let nodes = c.args.nodes.now in
    let rs = c.args.reductions.now in
    let spans = c.frames.spans.items in
    let out = g.S.Sheet.told c.frames.out in
    let frames = c.pop.new.self.items in
    let i = c.frames.invariant texts are hold in
    let target = g.S.Sheet.told c.args.out.now ++ shown b (from m nodes rs texts c.args.first 0) in
    let span : Span = record { start = c.in-Note.start; end = c.len-end.result } in
    subst (λ x. SpansHold b texts x out × Leads b m nodes rs texts target out (reverse frames)) (sym c.note.ensures)
    (noted_leads m nodes rs texts are b target spans out frames c.frames.frames.items i.0 i.1 c.in-Note.at c.in-Note.start span
    (λ j. record { start = c.in-Note.start; end = c.len-end.ensures j }) (c.in-Some.ensures.items ∙ ap (λ x. frames ++ x ∷ []) c.in-Note.is))

pub frames-preserved : goal.frames-preserved
frames-preserved g c = λ texts are hold.
    let b = g.S.Sheet.apart in
    let m = c.args.grammar.now in
    let nodes = c.args.nodes.now in
    let rs = c.args.reductions.now in
    let frames = c.pop.new.self.items in
    let i = c.frames.invariant texts are hold in
    note_leads m nodes rs texts are b (g.S.Sheet.told c.args.out.now ++ shown b (from m nodes rs texts c.args.first 0)) c.frames.spans.items (g.S.Sheet.told c.frames.out) frames c.frames.frames.items i.0 i.1
    c.in-Note.at c.in-Note.start (c.in-Some.ensures.items ∙ ap (λ x. frames ++ x ∷ []) c.in-Note.is)

pub returns : goal.returns
returns g c = λ texts are hold.
    let b = g.S.Sheet.apart in
    let m = c.args.grammar.now in
    let nodes = c.args.nodes.now in
    let rs = c.args.reductions.now in
    last_leads b m nodes rs texts (g.S.Sheet.told c.args.out.now ++ shown b (from m nodes rs texts c.args.first 0)) c.frames.spans.items (g.S.Sheet.told c.frames.out) c.frames.frames.items
    (nil_of_none c.frames.frames.items (omega (arith, c.in_default.ensures))) (c.frames.invariant texts are hold)
