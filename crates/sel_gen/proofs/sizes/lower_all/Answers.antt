-- Each turn keeps the sizes derivations', and either leaves them or lowers one.
use Rattle.std.proofs.Common.{arith, ◌≡◌, ◌<◌, ◌+◌, length, slice_get, Some, sym, ap, ◌∙◌, subst, ℕ, true, false, refl}
use Rattle.std.proofs.lemmas.Option.{slice_get_read, slice_get_within}
use Rattle.sel_base.proofs.Shared.Bettering.{falls_more}
use Rattle.sel_grammar.specs.declared.grammar.Rule.{Rule}
use Rattle.sel_gen.specs.Sizes.{Sizes}
use Rattle.sel_gen.specs.Lowering.{AreUpTo, AreBuilt, total_distance}
use Rattle.sel_gen.proofs.Settled.{WithstoodTo, WithstoodTo-more}
use Rattle.sel_gen.proofs.Lowered.{total-lowered, AreUpTo-lowered, AreBuilt-lowered}
use Rattle.sel_gen.proofs.sizes.lower_all.Goals as goal
use Rattle.sel_gen.proofs.sizes.lower_all.Goals.{then-lower, else-lower}

pub lower-requires-clause-left : goal.lower-requires-clause-left
lower-requires-clause-left c =
    let g = c.args.grammar.now in
    let at : slice_get g.rules c.loop-k.k ≡ Some c.rule-item.result = ap (λ xs. slice_get xs c.loop-k.k) (sym c.as_slice-rule-items.ensures) ∙ slice_get_read c.as_slice-rule-items.result.now _ c.loop-k.k c.rule-item.result refl c.loop-k-test.true c.rule-item.is in
    let h = c.requires.lawful.within.lefts c.loop-k.k c.rule-item.result at in
    let q = c.loop-k.invariant.long in
    let z = c.requires.long in
    omega arith

pub lower-requires-clause-sizes : goal.lower-requires-clause-sizes
lower-requires-clause-sizes c = λ n k e. let x = c.loop-k.invariant.within n k e in let y = c.requires.limit in omega arith

pub lower-requires-clause-names : goal.lower-requires-clause-names
lower-requires-clause-names c =
    let g = c.args.grammar.now in
    let at : slice_get g.rules c.loop-k.k ≡ Some c.rule-item.result = ap (λ xs. slice_get xs c.loop-k.k) (sym c.as_slice-rule-items.ensures) ∙ slice_get_read c.as_slice-rule-items.result.now _ c.loop-k.k c.rule-item.result refl c.loop-k-test.true c.rule-item.is in
    (c.requires.lawful.rules c.loop-k.k c.rule-item.result at).names

pub loop-k-preserved : goal.loop-k-preserved
loop-k-preserved c =
    let g = c.args.grammar.now in
    let limit = c.args.limit in
    let old : Sizes = c.args.sizes.now in
    let sizes : Sizes = c.loop-k.sizes in
    let new : Sizes = c.lower.new.sizes in
    let rule : Rule = c.rule-item.result in
    let k = c.loop-k.k in
    let at : slice_get g.rules k ≡ Some rule = ap (λ xs. slice_get xs k) (sym c.as_slice-rule-items.ensures) ∙ slice_get_read c.as_slice-rule-items.result.now _ k rule refl c.loop-k-test.true c.rule-item.is in
    let i = c.loop-k.invariant in
    let inside : rule.left < length sizes = let h = c.requires.lawful.within.lefts k rule at in let q = i.long in let z = c.requires.long in omega arith in
    let long : length new ≡ length old = let q = i.long in let z = c.lower.auto.sizes in omega arith in
    elim c.if-lower.branch [
      | then-lower w ↦
          let low = c.lower.ensures.lowered w.if-lower.true in
          record {
            long = long;
            withstood = λ e. cc;
            falls = λ e. falls_more (total_distance limit) old sizes new c.loop-k.changed i.same i.falls (total-lowered g limit k rule sizes new at inside low);
            same = λ e. cc;
            within = AreUpTo-lowered g limit k rule sizes new at inside low i.within;
            built = AreBuilt-lowered g limit k rule sizes new at inside low i.built;
          }
      | else-lower w ↦
          let same : new ≡ sizes = c.lower.ensures.stays w.if-lower.false in
          record {
            long = long;
            withstood = λ e. subst (λ x. WithstoodTo g limit x (k + 1)) (sym same) (WithstoodTo-more g limit sizes k rule at (i.withstood (sym w.changed-is ∙ e)) (c.lower.ensures.withstands w.if-lower.false));
            falls = λ e. subst (λ x. total_distance limit x < total_distance limit old) (sym same) (i.falls (sym w.changed-is ∙ e));
            same = λ e. same ∙ i.same (sym w.changed-is ∙ e);
            within = subst (AreUpTo limit) (sym same) i.within;
            built = subst (AreBuilt g) (sym same) i.built;
          }
    ]

pub returns-clause-withstood : goal.returns-clause-withstood
returns-clause-withstood c = λ e k rule at.
    let within : k < length c.args.grammar.now.rules = slice_get_within c.args.grammar.now.rules k rule at in
    let long : length c.as_slice-rule-items.result.now ≡ length c.args.grammar.now.rules = ap length c.as_slice-rule-items.ensures in
    let h : k < c.loop-k.k = omega arith in
    c.loop-k.invariant.withstood e k rule h at
