use Rattle.std.proofs.Common.{◌≡◌, ◌∷◌, length, ap, ◌∙◌, refl, arith}
use Rattle.sel_grammar_text.specs.declared.pattern.PatternName.TheVariants.{Operator}
use Rattle.sel_grammar_text.proofs.Built.{binary_built}
use Rattle.sel_grammar_text.proofs.pattern.+built_of.Goals as goal

pub returns-in_ok-new-in-Operator-3-clause-built :
    goal.returns-in_ok-new-in-Operator-3-clause-built
returns-in_ok-new-in-Operator-3-clause-built t c =
    let rest = c.in-Some.rest.now in
    let names : c.args.names.now ≡ Operator c.in-Operator.op c.in-Operator.kids ∷ rest = c.in-Some.ensures.cases.0 ∙ ap (λ x. x ∷ rest) c.in-Operator.is in
    rw (c.in_ok-new-in-Operator-2.ensures, c.in_ok-new-in-Operator-3.ensures)
    (binary_built (length c.args.names.now) (length c.in_ok-left-in-Operator.rest.now) c.in-Operator.op c.in-Operator.kids c.args.names.now rest
    c.in_ok-left-in-Operator.rest.now c.in_ok-right-in-Operator.rest.now c.in_ok-left-in-Operator.left c.in_ok-right-in-Operator.right names
    (omega (arith, c.in-Some.ensures.cases.1)) refl c.if-kids-eq0.false c.if-kids-eq1.false c.in_ok-left-in-Operator.ensures.built c.in_ok-right-in-Operator.ensures.built)
