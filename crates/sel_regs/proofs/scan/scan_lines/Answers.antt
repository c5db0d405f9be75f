-- From line to line.
use Rattle.std.proofs.Common.{◌≡◌, ◌<◌, ◌+◌, ◌∙◌, Some, List, ℕ, arith, ap, sym, subst, drop, length, slice_get}
use Rattle.std.proofs.lemmas.Option.{slice_get-get_or}
use Rattle.sel_regs.specs.Scanning.{AreTaken, AreReleased, EndTaken}
use Rattle.sel_regs.proofs.Passing.{Swept}
use Rattle.sel_regs.proofs.Sets.{whole_again}
use Rattle.sel_regs.proofs.Sweeping.{begun_within, ended_taken, swept_more, swept_all}
use Rattle.sel_regs.proofs.scan.scan_lines.Goals as goal

pub take_all-requires-clause-within : goal.take_all-requires-clause-within
take_all-requires-clause-within c = λ j i e.
    let here : List ℕ = c.index-begun-at.result in
    let long : length c.args.begun.now ≡ length c.args.lines.now = c.requires.begun.long in
    let inside : c.lines.at < length c.args.begun.now = let h = c.lines-test.true in omega arith in
    let at : slice_get c.args.begun.now c.lines.at ≡ Some here = slice_get-get_or c.args.begun.now c.lines.at here inside ∙ ap Some (sym c.index-begun-at.is) in
    let below = begun_within c.args.lives.now (length c.args.lines.now) c.lines.at j i c.args.begun.now here c.requires.begun at (ap (λ x. slice_get x j) (sym c.as_slice.ensures) ∙ e) in
    let same : length c.deref_mut.result.now ≡ length c.args.lives.now = ap (λ (x : List ℕ). length x) c.deref_mut.ensures.value ∙ c.lines.invariant.long in omega arith

pub release_all-requires-clause-taken : goal.release_all-requires-clause-taken
release_all-requires-clause-taken c =
    let here : List ℕ = c.index-begun-at.result in
    let line : List ℕ = c.index-lines-at.result in
    let inside : c.lines.at < length c.args.begun.now = let h = c.lines-test.true in let l = c.requires.begun.long in omega arith in
    let at : slice_get c.args.begun.now c.lines.at ≡ Some here = slice_get-get_or c.args.begun.now c.lines.at here inside ∙ ap Some (sym c.index-begun-at.is) in
    let is : slice_get c.args.lines.now c.lines.at ≡ Some line = slice_get-get_or c.args.lines.now c.lines.at line c.lines-test.true ∙ ap Some (sym c.index-lines-at.is) in
    let taken : AreTaken here c.lines.registers.items c.lines.free c.take_all.new.registers c.take_all.new.free =
    subst (λ x. AreTaken x c.lines.registers.items c.lines.free c.take_all.new.registers c.take_all.new.free) c.as_slice.ensures (subst (λ x. AreTaken c.as_slice.result.now x c.lines.free c.take_all.new.registers c.take_all.new.free) c.deref_mut.ensures.value c.take_all.ensures) in
    let ended = ended_taken c.args.lines.now c.args.lives.now c.args.begun.now c.lines.at c.lines-test.true c.requires.lives c.requires.begun here at c.lines.registers.items c.take_all.new.registers c.lines.free c.take_all.new.free c.lines.invariant taken line is in
    let whole = whole_again c.lines.registers.len c.take_all.new.registers (drop (length c.take_all.new.registers) c.lines.registers.items) (c.take_all.auto.registers ∙ c.deref_mut.ensures.len) in
    subst (λ x. EndTaken c.args.lives.now x (c.lines.at + 1) c.take_all.new.free) (sym (c.deref.ensures.value ∙ whole)) ended

pub lines-preserved : goal.lines-preserved
lines-preserved c =
    let here : List ℕ = c.index-begun-at.result in
    let line : List ℕ = c.index-lines-at.result in
    let inside : c.lines.at < length c.args.begun.now = let h = c.lines-test.true in let l = c.requires.begun.long in omega arith in
    let at : slice_get c.args.begun.now c.lines.at ≡ Some here = slice_get-get_or c.args.begun.now c.lines.at here inside ∙ ap Some (sym c.index-begun-at.is) in
    let is : slice_get c.args.lines.now c.lines.at ≡ Some line = slice_get-get_or c.args.lines.now c.lines.at line c.lines-test.true ∙ ap Some (sym c.index-lines-at.is) in
    let taken : AreTaken here c.lines.registers.items c.lines.free c.take_all.new.registers c.take_all.new.free =
    subst (λ x. AreTaken x c.lines.registers.items c.lines.free c.take_all.new.registers c.take_all.new.free) c.as_slice.ensures (subst (λ x. AreTaken c.as_slice.result.now x c.lines.free c.take_all.new.registers c.take_all.new.free) c.deref_mut.ensures.value c.take_all.ensures) in
    let whole = whole_again c.lines.registers.len c.take_all.new.registers (drop (length c.take_all.new.registers) c.lines.registers.items) (c.take_all.auto.registers ∙ c.deref_mut.ensures.len) in
    let released : AreReleased line c.args.lives.now c.take_all.new.registers (c.lines.at + 1) c.take_all.new.free c.release_all.new.free =
    subst (λ x. AreReleased x c.args.lives.now c.take_all.new.registers (c.lines.at + 1) c.take_all.new.free c.release_all.new.free) c.as_slice-in-lines.ensures
    (subst (λ x. AreReleased c.as_slice-in-lines.result.now c.args.lives.now x (c.lines.at + 1) c.take_all.new.free c.release_all.new.free) (c.deref.ensures.value ∙ whole) c.in_ok-release_all.ensures) in
    subst (λ x. Swept c.args.lines.now c.args.begun.now (length c.args.lives.now) (c.lines.at + 1) x c.release_all.new.free) (sym whole)
    (swept_more c.args.lines.now c.args.lives.now c.args.begun.now c.lines.at c.lines-test.true c.requires.lives c.requires.begun here at c.lines.registers.items c.take_all.new.registers c.lines.free c.take_all.new.free c.lines.invariant taken line is c.release_all.new.free released)

pub returns : goal.returns
returns c =
    let end : c.lines.at ≡ length c.args.lines.now = let h = c.lines-test.false in let l = c.lines.auto.at-end in omega arith in
    swept_all c.args.lines.now c.args.begun.now (length c.args.lives.now) c.lines.at c.taken-needs.result c.lines.registers.items c.lines.free end c.taken-needs.ensures c.lines.invariant
