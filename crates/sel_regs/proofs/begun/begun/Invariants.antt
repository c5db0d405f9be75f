use Rattle.sel_regs.specs.Beginning.{AreBegun}
use Rattle.sel_regs.proofs.begun.begun.Given as goal

abbrev pub invariant-lives : goal.invariant-lives
invariant-lives l = AreBegun l.lives l.index l.fn.lines l.begun.items
