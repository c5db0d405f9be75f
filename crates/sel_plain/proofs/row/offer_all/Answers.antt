-- Each turn keeps the row backed, and either leaves it or brings it nearer to the least row.
use Rattle.std.proofs.Common.{arith, ◌≡◌, ◌<◌, ◌+◌, length, slice_get, Some, sym, ap, ◌∙◌, refl, subst}
use Rattle.std.proofs.lemmas.Option.{slice_get_read, slice_get_within}
use Rattle.sel_base.proofs.Shared.Bettering.{falls_more}
use Rattle.sel_plain.specs.declared.kind.RuleKind.TheVariants.{Operator}
use Rattle.sel_plain.specs.Bettering.{Keeps, total_distance, KeepsBacked}
use Rattle.sel_plain.proofs.Turns.{KindTo, KindTo-more, Operators-bettered, KeepsBacked-bettered, long_more}
use Rattle.sel_plain.proofs.Betters.{total_distance-bettered, Keeps-bettered, Keeps-trans}
use Rattle.sel_plain.proofs.row.offer_all.Goals as goal
use Rattle.sel_plain.proofs.row.offer_all.Goals.{then-offer_if, else-offer_if}

pub loop-k-preserved : goal.loop-k-preserved
loop-k-preserved c =
    let g = c.args.grammar.now in
    let nodes = c.args.nodes.now in
    let rows = c.args.table.now.rows in
    let old = c.args.row.now in
    let row = c.loop-k.row in
    let new = c.offer_if.new.row in
    let rule = c.rule-item.result in
    let k = c.loop-k.k in
    let items = c.as_slice-rule-items.ensures in
    let at : slice_get g.rules k ≡ Some rule = ap (λ xs. slice_get xs k) (sym items) ∙ slice_get_read c.as_slice-rule-items.result.now _ k rule refl c.loop-k-test.true c.rule-item.is in
    let within : k < length g.rules = slice_get_within g.rules k rule at in
    let i = c.loop-k.invariant in
    let inside : rule.left < length row = let h = c.requires.limits.lefts k rule at in let q = i.long in let z = c.requires.long in omega arith in
    elim c.if-offer_if.branch [
      | then-offer_if w ↦
          let b = c.offer_if.ensures.bettered w.if-offer_if.true in
          record {
            long = long_more g nodes rows c.args.at row new k rule at inside b old i.long;
            stays = λ e. cc;
            withstood = λ e. cc;
            operators = λ q. Operators-bettered g nodes rows c.args.at row new k rule at inside b (i.operators q);
            falls = λ e. falls_more total_distance old row new c.loop-k.changed i.stays i.falls (total_distance-bettered rule _ _ row new b inside (let few = c.requires.limits.rules in omega arith));
            keeps = Keeps-trans old row new i.keeps (Keeps-bettered rule _ _ row new inside b);
            backed = KeepsBacked-bettered g nodes rows c.args.at row new k rule at inside b old i.long i.backed;
          }
      | else-offer_if w ↦
          let same : new ≡ row = c.offer_if.ensures.stays w.if-offer_if.false in
          record {
            long = ap length same ∙ i.long;
            stays = λ e. same ∙ i.stays (sym w.changed-is ∙ e);
            withstood = λ e. subst (λ x. KindTo g nodes rows c.args.at c.args.kind (k + 1) x) (sym same)
                (KindTo-more g nodes rows c.args.at c.args.kind k row rule at (i.withstood (sym w.changed-is ∙ e)) (c.offer_if.ensures.withstands w.if-offer_if.false));
            operators = λ q. subst (λ x. KindTo g nodes rows c.args.at Operator (k + 1) x) (sym same)
                (KindTo-more g nodes rows c.args.at Operator k row rule at (i.operators q) (λ p. c.offer_if.ensures.withstands w.if-offer_if.false (p ∙ sym q)));
            falls = λ e. subst (λ x. total_distance x < total_distance old) (sym same) (i.falls (sym w.changed-is ∙ e));
            keeps = subst (λ x. Keeps old x) (sym same) i.keeps;
            backed = subst (λ x. KeepsBacked g nodes rows c.args.at old x) (sym same) i.backed;
          }
    ]

pub returns-clause-withstood : goal.returns-clause-withstood
returns-clause-withstood c = λ e k rule at.
    let within : k < length c.args.grammar.now.rules = slice_get_within c.args.grammar.now.rules k rule at in
    let long : length c.as_slice-rule-items.result.now ≡ length c.args.grammar.now.rules = ap length c.as_slice-rule-items.ensures in
    let h : k < c.loop-k.k = omega arith in
    c.loop-k.invariant.withstood e k rule h at

pub returns-clause-operators : goal.returns-clause-operators
returns-clause-operators c = λ e k rule at.
    let within : k < length c.args.grammar.now.rules = slice_get_within c.args.grammar.now.rules k rule at in
    let long : length c.as_slice-rule-items.result.now ≡ length c.args.grammar.now.rules = ap length c.as_slice-rule-items.ensures in
    let h : k < c.loop-k.k = omega arith in
    c.loop-k.invariant.operators e k rule h at
