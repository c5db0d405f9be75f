use Rattle.std.proofs.Common.{◌≡◌, suc, ◌+◌, ◌<◌, [], ◌∷◌, ◌++◌, length, take, ap, ◌∙◌, arith}
use Rattle.std.specs.Prelude.{slice_index}
use Rattle.sel_law.specs.declared.View.{View}
use Rattle.sel_law.specs.Words.{content_at}
use Rattle.sel_rows.proofs.Growth.{grown_then, grown_self, grown_drafted}
use Rattle.sel_rows.proofs.Publishes.{take_item, take_twice, take_length, take_past}
use Rattle.sel_rows.proofs.hand.Hand.draft.Goals as goal

pub loop-index-init : goal.loop-index-init
loop-index-init g c = record {
  same = λ _. c.args.self.now.rows;
  grown = grown_self g.J.Doing.asks c.args.self.now.seat.me.0;
  used_up = λ _. c.args.self.now.seat.me.0.used_up;
  row_full = λ _. c.args.self.now.seat.me.0.row_full;
  own = c.requires.own.1;
  draft = λ _. [];
  exact = λ h. absurd (omega arith);
  short = omega arith;
  count = (omega arith, omega arith);
}

pub loop-index-preserved : goal.loop-index-preserved
loop-index-preserved g c =
    let i = c.loop-index.invariant in
    let at = c.loop-index.index in
    let items = c.args.items.now in
    let v = c.loop-index.self.seat.me.0 in
    let w = c.write.new.self.seat.me.0 in
    let is = c.write.ensures.view in
    let inside : at < length items = c.loop-index-test.true in
    let next : suc at ≡ at + 1 = omega arith in
    let exact : w.draft ≡ take (at + 1) items = ap (λ (y : View). y.draft) is ∙ (ap (λ l. l ++ slice_index items at ∷ []) i.draft ∙ (take_item items at inside ∙ ap (λ k. take k items) next)) in
    record {
      same = c.write.ensures.same ∙ i.same;
      grown = grown_then g.J.Doing.asks c.args.self.now.seat.me.0 v w i.grown (grown_drafted g.J.Doing.asks v w (content_at c.loop-index.self.rows.now.table.shared.key c.args.number at) at (slice_index items at) is);
      used_up = ap (λ (y : View). y.used_up) is ∙ i.used_up;
      row_full = ap (λ (y : View). y.row_full) is ∙ i.row_full;
      own = ap (λ (y : View). y.own) is ∙ i.own;
      draft = ap (take (at + 1)) exact ∙ take_twice items (at + 1);
      exact = λ _. exact;
      short = (let a = take_length items (at + 1) (omega arith) in let b = ap length exact in omega arith);
      count = (let one : w.steps ≡ v.steps + 1 = ap (λ (y : View). y.steps) is in let n = i.count.0 in (omega arith, omega arith));
    }

pub returns-clause-draft : goal.returns-clause-draft
returns-clause-draft g c =
    let i = c.loop-index.invariant in
    let items = c.args.items.now in
    let past = c.loop-index-test.false in
    let some_items = c.requires.items.1 in
    let x = i.exact (omega arith) in
    (i.own, x ∙ take_past items c.loop-index.index past)

pub returns-clause-few : goal.returns-clause-few
returns-clause-few g c =
    let n = c.loop-index.invariant.count.0 in
    let m = c.loop-index.invariant.count.1 in
    omega arith
