-- One temporary more.
use Rattle.std.proofs.Common.{sym, subst, take, get_or}
use Rattle.std.proofs.lemmas.List.{take_more}
use Rattle.sel_regs.specs.Living.{IsNoted}
use Rattle.sel_regs.proofs.Noting.{noted_more}
use Rattle.sel_regs.proofs.lives.note_line.Goals as goal

pub names-preserved : goal.names-preserved
names-preserved c =
    subst (λ line. IsNoted line c.args.at c.args.lives.now c.note.new.lives) (sym (take_more c.args.line.now c.names.temp-index 0 c.names-test.true))
    (noted_more (take c.names.temp-index c.args.line.now) (get_or c.args.line.now c.names.temp-index 0) c.args.at c.args.lives.now c.names.lives c.note.new.lives c.names.invariant c.note.ensures)
