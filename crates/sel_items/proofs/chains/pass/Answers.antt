-- Each turn keeps what the row is, and either leaves it or brings it nearer to the least row.
use Rattle.std.proofs.Common.{arith, ◌≡◌, ◌<◌, ◌+◌, length, slice_get, Some, add-one, ℕ, sym, ap, ◌∙◌, subst}
use Rattle.std.proofs.lemmas.Option.{slice_get_within}
use Rattle.sel_base.proofs.Shared.Bettering.{falls_more}
use Rattle.sel_normal.specs.declared.normal.NormalRule.{NormalRule}
use Rattle.sel_normal.specs.NormalForms.{NormalForm, normal_at}
use Rattle.sel_items.specs.ChainPasses.{ChainStands, KeepsRow, total_distance}
use Rattle.sel_items.proofs.Turns.{stands_more, stands_all, keeps_more, long_more, below_now}
use Rattle.sel_items.proofs.chains.pass.Goals as goal
use Rattle.sel_items.proofs.chains.pass.Goals.{then-turn, else-turn}

-- a rule's number is one more than its place
at_place : (normal : NormalForm) (k : ℕ) (rule : NormalRule) → normal_at normal (k + 1) ≡ Some rule → slice_get normal.rules k ≡ Some rule
at_place normal k rule h = subst (λ x. normal_at normal x ≡ Some rule) (add-one k) h

pub turn-requires-clause-left : goal.turn-requires-clause-left
turn-requires-clause-left g c = let w = (c.rule-rule.ensures.within).left in let l = c.loop-k.invariant.long in let n = c.requires.long in omega arith

pub turn-requires-clause-below : goal.turn-requires-clause-below
turn-requires-clause-below g c = below_now c.args.normal.now c.args.row.now c.loop-k.row c.requires.start c.loop-k.invariant.keeps

pub loop-k-preserved : goal.loop-k-preserved
loop-k-preserved g c =
    let normal = c.args.normal.now in
    let old = c.args.row.now in
    let row = c.loop-k.row in
    let new = c.turn.new.row in
    let k = c.loop-k.k in
    let rule = c.rule-rule.result in
    let at : slice_get normal.rules k ≡ Some rule = at_place normal k rule c.rule-rule.ensures.is in
    let i = c.loop-k.invariant in
    let inside : rule.left < length row = let w = (c.rule-rule.ensures.within).left in let l = i.long in let n = c.requires.long in omega arith in
    elim c.if-turn.branch [
      | then-turn w ↦
          let t = c.turn.ensures.turned w.if-turn.true in
          record {
            long = long_more normal old rule _ row new t i.long;
            stays = λ e. cc;
            stands = λ e. cc;
            falls = λ e. falls_more total_distance old row new c.loop-k.changed i.stays i.falls (c.turn.ensures.falls w.if-turn.true);
            steps = (let a = i.steps in let e = c.tick.ensures in omega arith);
            keeps = keeps_more normal old row new k rule at inside i.keeps t;
          }
      | else-turn w ↦
          let same : new ≡ row = c.turn.ensures.stays w.if-turn.false in
          record {
            long = ap length same ∙ i.long;
            stays = λ e. same ∙ i.stays (sym w.changed-is ∙ e);
            stands = λ e.
                let still : row ≡ old = i.stays (sym w.changed-is ∙ e) in
                stands_more normal old k rule at (i.stands (sym w.changed-is ∙ e)) (subst (λ x. ChainStands rule (k + 1) x) still (c.turn.ensures.stands w.if-turn.false));
            falls = λ e. subst (λ x. total_distance x < total_distance old) (sym same) (i.falls (sym w.changed-is ∙ e));
            steps = (let a = i.steps in let e = c.tick.ensures in omega arith);
            keeps = subst (λ x. KeepsRow normal old x) (sym same) i.keeps;
          }
    ]

pub returns-clause-stands : goal.returns-clause-stands
returns-clause-stands g c = λ e.
    stands_all c.args.normal.now c.args.row.now c.loop-k.k
    (λ j rule at.
    let within = slice_get_within c.args.normal.now.rules j rule at in
    let all = c.loop-k-test.false in
    let count = c.rules-k-end.ensures.is in
    omega arith)
    (c.loop-k.invariant.stands e)
