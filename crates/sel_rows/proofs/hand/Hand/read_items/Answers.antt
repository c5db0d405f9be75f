use Rattle.std.proofs.Common.{◌≡◌, ◌<◌, [], ◌∷◌, ◌++◌, length, map, sym, ap, ◌∙◌, subst, arith}
use Rattle.std.specs.Prelude.{slice_index}
use Rattle.sel_items.specs.Unpacking.{unpacked}
use Rattle.sel_rows.specs.Held.{held_content}
use Rattle.sel_rows.proofs.Growth.{grown_then, number_grown}
use Rattle.sel_rows.proofs.Contents.{entry_is, content_at_is, content_stays, from_length}
use Rattle.sel_rows.proofs.Interns.{own_then}
use Rattle.sel_rows.proofs.Sets.{map_next, map_all}
use Rattle.sel_rows.proofs.hand.Hand.read_items.Goals as goal

pub returns-in_err-push-clause-grown : goal.returns-in_err-push-clause-grown
returns-in_err-push-clause-grown g c =
    grown_then g.J.Doing.asks c.args.self.now.seat.me.0 c.loop-index.self.seat.me.0 c.entry-word.new.self.seat.me.0 c.loop-index.invariant.grown c.entry-word.ensures.grown

pub returns-in_err-push-clause-own : goal.returns-in_err-push-clause-own
returns-in_err-push-clause-own g c =
    own_then c.args.self.now.seat.me.0 c.loop-index.self.seat.me.0 c.entry-word.new.self.seat.me.0 c.loop-index.invariant.own c.entry-word.ensures.own

pub loop-index-preserved : goal.loop-index-preserved
loop-index-preserved g c =
    let i = c.loop-index.invariant in
    let n = c.args.number in
    let at = c.loop-index.index in
    let u = c.args.self.now.seat.me.0 in
    let v = c.loop-index.self.seat.me.0 in
    let w = c.entry-word.new.self.seat.me.0 in
    let word = c.entry-word.result in
    let asks = g.J.Doing.asks in
    let grown = grown_then asks u v w i.grown c.entry-word.ensures.grown in
    let there = c.entry-word.ensures.there in
    let rows = c.entry-word.ensures.same ∙ i.same in
    let key = c.entry-word.new.self.setting ∙ ap (λ r. r.now.table.shared.key) c.entry-word.ensures.same in
    let lt : at < w.setting.width = subst (λ k. at < k) (c.loop-index.self.rows.now.width_is ∙ ap (λ s. s.width) (sym key)) c.loop-index-test.true in
    let word_is : word ≡ slice_index (held_content u n) at =
    sym (content_at_is w n at lt ∙ entry_is w n there.1 at word there.0) ∙ ap (λ l. slice_index l at) (content_stays asks u w grown n c.requires.held.2) in
    let long : length (held_content u n) ≡ u.setting.width = from_length u.contents n 0 u.setting.width in
    let same_width : w.setting.width ≡ u.setting.width = ap (λ s. s.width) grown.setting in
    let r : c.entry-word.new.self.rows.now.width ≡ c.loop-index.self.rows.now.width = ap (λ r. r.now.width) c.entry-word.ensures.same in
    let t = c.loop-index-test.true in
    record {
      same = rows;
      grown = grown;
      own = own_then u v w i.own c.entry-word.ensures.own;
      held = number_grown asks v w c.entry-word.ensures.grown n i.held;
      within = omega arith;
      read = c.in_ok-push.ensures.items ∙ ((λ k. i.read k ++ (c.unpack.ensures.is ∙ ap unpacked word_is) k ∷ []) ∙ map_next unpacked (held_content u n) at (omega arith));
    }

pub returns-clause-items : goal.returns-clause-items
returns-clause-items g c =
    let i = c.loop-index.invariant in
    let n = c.args.number in
    let u = c.args.self.now.seat.me.0 in
    let past = c.loop-index-test.false in
    let long : length (held_content u n) ≡ u.setting.width = from_length u.contents n 0 u.setting.width in
    let key = c.args.self.now.setting in
    let width : c.loop-index.self.rows.now.width ≡ u.setting.width = ap (λ r. r.now.width) i.same ∙ (c.args.self.now.rows.now.width_is ∙ ap (λ s. s.width) (sym key)) in
    let all : c.from_vec.result ≡ map unpacked (held_content u n) = c.from_vec.ensures ∙ (i.read ∙ map_all unpacked (held_content u n) c.loop-index.index (omega arith)) in
    λ k. record { entries = all k }
