-- The scan of the lines is what is assigned.
use Rattle.std.proofs.Common.{◌≡◌, ◌∙◌, ℕ, List, ap, sym, subst, length}
use Rattle.sel_regs.specs.declared.assignment.Assignment.TheVariants.{Assigned}
use Rattle.sel_regs.specs.declared.lives.Life.{Life}
use Rattle.sel_regs.specs.Beginning.{BeginWithin}
use Rattle.sel_regs.specs.Scanning.{IsScanned}
use Rattle.sel_regs.specs.Assignments.{IsAssigned}
use Rattle.sel_regs.proofs.Sweeping.{begin_within, assigned}
use Rattle.sel_regs.proofs.assignment.assign.Goals as goal

same_list : (xs ys : List ℕ) → Assigned xs ≡ Assigned ys → xs ≡ ys
same_list xs ys h = cc

pub begun-requires-clause-within : goal.begun-requires-clause-within
begun-requires-clause-within c =
    subst (λ lives. BeginWithin lives (length c.args.lines.now)) (sym c.deref.ensures.value) (begin_within c.args.lines.now c.args.temps c.in_ok-lives.lives.items c.in_ok-lives.ensures)

pub returns-clause-assigned : goal.returns-clause-assigned
returns-clause-assigned c = λ of same.
    let scanned : IsScanned c.args.lines.now c.args.temps c.in_ok-scan.scan.registers.items c.in_ok-scan.scan.needs =
    subst (λ n. IsScanned c.args.lines.now n c.in_ok-scan.scan.registers.items c.in_ok-scan.scan.needs) (ap (λ (x : List Life). length x) c.deref-2.ensures.value ∙ c.in_ok-lives.ensures.long) c.in_ok-scan.ensures in
    subst (IsAssigned c.args.lines.now c.args.temps c.args.registers) (sym c.from_vec.ensures ∙ same_list c.from_vec.result of same)
    (assigned c.args.lines.now c.args.temps c.args.registers c.in_ok-scan.scan.needs c.in_ok-scan.scan.registers.items c.requires c.if-scan-registers.false scanned)
