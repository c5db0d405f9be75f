-- One line more.
use Rattle.std.proofs.Common.{◌≡◌, ◌∙◌, ◌+◌, [], sym, subst, take, drop, length, get_or}
use Rattle.sel_regs.specs.Living.{IsNoted, AreLives}
use Rattle.sel_regs.proofs.Noting.{lives_more}
use Rattle.sel_regs.proofs.Sets.{item_at, whole_again}
use Rattle.sel_regs.proofs.lives.lives.Goals as goal

pub lines-preserved : goal.lines-preserved
lines-preserved c =
    let line : c.as_slice.result.now ≡ get_or c.args.lines.now c.lines.at [] = c.as_slice.ensures ∙ item_at c.args.lines.now c.lines.at c.index-lines-at.result [] c.lines-test.true c.index-lines-at.is in
    let noted : IsNoted (get_or c.args.lines.now c.lines.at []) c.lines.at c.lines.lives.items c.note_line.new.lives =
    subst (λ x. IsNoted x c.lines.at c.lines.lives.items c.note_line.new.lives) line (subst (λ x. IsNoted c.as_slice.result.now c.lines.at x c.note_line.new.lives) c.deref_mut.ensures.value c.note_line.ensures) in
    let more = lives_more c.args.lines.now c.lines.at c.args.temps c.lines.lives.items c.note_line.new.lives c.lines-test.true c.lines.invariant noted in
    subst (AreLives (take (c.lines.at + 1) c.args.lines.now) c.args.temps) (sym (whole_again c.lines.lives.len c.note_line.new.lives (drop (length c.note_line.new.lives) c.lines.lives.items) (c.note_line.ensures.long ∙ c.deref_mut.ensures.len))) more
