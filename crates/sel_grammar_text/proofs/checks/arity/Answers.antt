use Rattle.std.proofs.Common.{◌≡◌, ◌∙◌, ap, sym, rules, map}
use Rattle.sel_grammar_text.specs.Checks as checks
use Rattle.sel_grammar_text.specs.Names as spec
use Rattle.sel_grammar_text.specs.Words.{view_item, view_named}
use Rattle.sel_grammar_text.proofs.checks.arity.Goals as goal

pub returns-in-Rule : goal.returns-in-Rule
returns-in-Rule c = λ bytes before m.
    let p : c.as_slice-in-Rule.result.now ≡ c.in-Rule.rule.pattern.items = search rules in
    c.wrong_kids_at.ensures (spec.uses (spec.rules before)) before (c.as_slice.ensures.value ∙ m.operators_are)
    ∙ ap (λ x. checks.first_wrong_kids (spec.operators before) (spec.uses (spec.rules before)) (map view_named x)) p
    ∙ sym (ap (λ i. checks.arity before (view_item i)) c.in-Rule.is)
