use Rattle.std.proofs.Common.{◌≡◌, ℕ, length, sym, ap, ◌∙◌, subst, arith}
use Rattle.std.specs.Prelude.{slice_index}
use mathlib.Core.Logic.{dite}
use native.Mathlib.Decide.{ℕ_discrete}
use Rattle.sel_law.specs.Words.{In}
use Rattle.sel_rows.specs.Held.{held_entry}
use Rattle.sel_rows.proofs.Growth.{grown_then, grown_self, number_grown, content_grown}
use Rattle.sel_rows.proofs.Contents.{entry_is, from_is, entry_front}
use Rattle.sel_rows.proofs.Interns.{own_then}
use Rattle.sel_rows.proofs.hand.Hand.differs.Goals as goal

pub returns-then-found-items-clause-grown : goal.returns-then-found-items-clause-grown
returns-then-found-items-clause-grown g c =
    grown_then g.J.Doing.asks c.args.self.now.seat.me.0 c.loop-index.self.seat.me.0 c.entry-found.new.self.seat.me.0 c.loop-index.invariant.grown c.entry-found.ensures.grown

pub returns-then-found-items-clause-other : goal.returns-then-found-items-clause-other
returns-then-found-items-clause-other g c = λ _. (c.loop-index.index, c.entry-found.result, c.entry-found.ensures.there.0, c.if-found-items.true)

pub returns-clause-equal : goal.returns-clause-equal
returns-clause-equal g c = λ _.
    let i = c.loop-index.invariant in
    let w = c.loop-index.self.seat.me.0 in
    let items = c.args.items.now in
    let key = c.loop-index.self.setting ∙ ap (λ r. r.now.table.shared.key) i.same in
    let width : length items ≡ w.setting.width = c.requires.items ∙ (c.args.self.now.rows.now.width_is ∙ ap (λ s. s.width) (sym key)) in
    let past = c.loop-index-test.false in
    ((width, λ k lt. i.equal k (omega arith)), from_is w.contents c.args.number 0 items w.setting.width width (λ j lt. ap (held_entry w.contents c.args.number) (omega arith) ∙ i.first j (omega arith)))

pub returns-clause-numbers : goal.returns-clause-numbers
returns-clause-numbers g c = λ _.
    let past = c.loop-index-test.false in
    let long = c.requires.items in
    let some = c.args.self.now.rows.now.some_width in
    c.loop-index.invariant.numbers (omega arith)

pub loop-index-init : goal.loop-index-init
loop-index-init g c = record {
  same = λ _. c.args.self.now.rows;
  grown = grown_self g.J.Doing.asks c.args.self.now.seat.me.0;
  own = record { own = λ _. c.args.self.now.seat.me.0.own; draft = λ _. c.args.self.now.seat.me.0.draft; used_up = λ _. c.args.self.now.seat.me.0.used_up; row_full = λ _. c.args.self.now.seat.me.0.row_full };
  held = c.requires.held.1;
  equal = λ i lt. absurd (omega arith);
  first = λ i lt. absurd (omega arith);
  numbers = λ h. absurd (omega arith);
  count = (omega arith, omega arith);
}

pub loop-index-preserved : goal.loop-index-preserved
loop-index-preserved g c =
    let i = c.loop-index.invariant in
    let n = c.args.number in
    let at = c.loop-index.index in
    let found = c.entry-found.result in
    let v = c.loop-index.self.seat.me.0 in
    let w = c.entry-found.new.self.seat.me.0 in
    let grown = c.entry-found.ensures.grown in
    let there = c.entry-found.ensures.there in
    let same : found ≡ slice_index c.args.items.now at = c.if-found-items.false in
    record {
      same = c.entry-found.ensures.same ∙ i.same;
      grown = grown_then g.J.Doing.asks c.args.self.now.seat.me.0 v w i.grown grown;
      own = own_then c.args.self.now.seat.me.0 v w i.own c.entry-found.ensures.own;
      held = number_grown g.J.Doing.asks v w grown n i.held;
      equal = λ k lt. dite (ℕ_discrete k at)
          (λ e. subst (λ (t : ℕ × ℕ × ℕ). In t w.contents) (λ j. (n, sym e j, (same ∙ ap (slice_index c.args.items.now) (sym e)) j)) there.0)
          (λ ne. content_grown g.J.Doing.asks v w grown (n, k, slice_index c.args.items.now k) (i.equal k (omega arith)));
      first = λ k lt. dite (ℕ_discrete k at)
          (λ e. ap (held_entry w.contents n) e ∙ (entry_is w n there.1 at found there.0 ∙ (same ∙ ap (slice_index c.args.items.now) (sym e))))
          (λ ne. ap (λ es. held_entry es n k) grown.contents.1 ∙ (entry_front v.contents grown.contents.0 n k (slice_index c.args.items.now k) (i.equal k (omega arith)) ∙ i.first k (omega arith)));
      numbers = λ _. c.entry-found.ensures.numbers;
      count = (let one = c.entry-found.ensures.exact.steps in let n = i.count.0 in (omega arith, omega arith));
    }

pub returns-then-found-items-clause-few : goal.returns-then-found-items-clause-few
returns-then-found-items-clause-few g c =
    let one = c.entry-found.ensures.exact.steps in
    let count = c.loop-index.invariant.count.0 in
    let inside = c.loop-index-test.true in
    omega arith

pub returns-clause-few : goal.returns-clause-few
returns-clause-few g c =
    let n = c.loop-index.invariant.count.0 in
    let m = c.loop-index.invariant.count.1 in
    omega arith
