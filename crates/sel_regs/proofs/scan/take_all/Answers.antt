-- The next one takes its register.
use Rattle.std.proofs.Common.{◌≡◌, ◌+◌, ◌<◌, ◌^◌, ◌∷◌, arith, sym, subst, drop, length, get_or}
use Rattle.sel_regs.specs.Freeing.{IsNextTaken}
use Rattle.sel_regs.specs.Scanning.{AreTaken}
use Rattle.sel_regs.proofs.Passing.{next_le}
use Rattle.sel_regs.proofs.Sweeping.{drop_step}
use Rattle.sel_regs.proofs.scan.take_all.Goals as goal

pub begun-preserved : goal.begun-preserved
begun-preserved c =
    let at : drop c.begun.index-index c.args.begun.now ≡ get_or c.args.begun.now c.begun.index-index 0 ∷ drop (c.begun.index-index + 1) c.args.begun.now = drop_step c.args.begun.now c.begun.index-index c.begun-test.true in
    let next : IsNextTaken c.begun.free c.take.new.self c.take.result = c.take.ensures in
    let least = next_le c.begun.free c.take.new.self c.take.result next in
    let fresh = next.fresh in
    let room : c.begun.free.fresh + length (get_or c.args.begun.now c.begun.index-index 0 ∷ drop (c.begun.index-index + 1) c.args.begun.now) < 2 ^ 32 = subst (λ xs. c.begun.free.fresh + length xs < 2 ^ 32) at c.begun.invariant.0 in (
      omega arith,
      λ registers free t. c.begun.invariant.1 registers free (subst (λ xs. AreTaken xs c.begun.registers c.begun.free registers free) (sym at) (c.take.result, c.take.new.self, (next, t))),
    )
