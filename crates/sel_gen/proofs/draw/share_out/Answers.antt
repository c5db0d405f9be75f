-- Each turn puts one share more.
use Rattle.std.proofs.Common.{arith, sym, ◌∙◌}
use Rattle.std.proofs.lemmas.List.Sums.{get_or-le-sum_by}
use Rattle.sel_gen.proofs.Sharing.{put_more, put_all}
use Rattle.sel_gen.proofs.draw.share_out.Goals as goal

pub overflow_add-size : goal.overflow_add-size
overflow_add-size c =
    let low = get_or-le-sum_by (λ x. x) c.args.sizes.now c.loop-at.at 0 c.loop-at-test.true in
    let more = c.taken-more.ensures.within in
    let less = c.loop-at.invariant.less in
    let room = c.requires in
    omega arith

pub loop-at-preserved : goal.loop-at-preserved
loop-at-preserved c = record {
  shares = c.loop-at.invariant.shares
      ∙ put_more c.args.sizes.now c.loop-at.at c.taken-more.result c.loop-at.left c.loop-at.words c.taken-more.new.words c.loop-at.shares.items c.push.new.self.items c.loop-at-test.true c.taken-more.ensures.taken c.in_ok-push.ensures.items;
  less = let less = c.loop-at.invariant.less in omega arith;
}

pub returns : goal.returns
returns c = sym (c.loop-at.invariant.shares ∙ put_all c.args.sizes.now c.loop-at.at c.loop-at.left c.loop-at.words c.loop-at.shares.items c.loop-at-test.false)
