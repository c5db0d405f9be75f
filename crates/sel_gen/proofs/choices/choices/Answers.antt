-- Each rule is one of a lawful grammar.
use Rattle.std.proofs.Common.{◌≡◌, slice_get, Some, sym, ap, ◌∙◌, refl}
use Rattle.std.proofs.lemmas.Option.{slice_get_read}
use Rattle.sel_gen.proofs.choices.choices.Goals as goal

pub choice_of-requires-clause-names : goal.choice_of-requires-clause-names
choice_of-requires-clause-names c =
    let g = c.args.grammar.now in
    let k = c.loop-rule.rule-index in
    let at : slice_get g.rules k ≡ Some c.rule-item.result = ap (λ xs. slice_get xs k) (sym c.as_slice-rule-items.ensures) ∙ slice_get_read c.as_slice-rule-items.result.now _ k c.rule-item.result refl c.loop-rule-test.true c.rule-item.is in
    (c.requires.lawful.rules k c.rule-item.result at).names
