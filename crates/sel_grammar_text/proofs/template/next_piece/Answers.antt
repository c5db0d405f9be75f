use Rattle.std.proofs.Common.{◌≡◌, ◌+◌, ◌∷◌, [], List, ℕ, drop, ap, sym, subst, ◌∙◌, length, refl, arith}
use Rattle.sel_grammar_text.specs.TemplateText.{pieces}
use Rattle.sel_grammar_text.proofs.template.next_piece.Goals as goal

empty : (xs : List ℕ) → length xs ≡ 0 → xs ≡ []
empty [] h = refl
empty (x ∷ xs) h = absurd (omega arith)

pub returns-in-None-clause-cut : goal.returns-in-None-clause-cut
returns-in-None-clause-cut c = λ at.
    let e : c.args.bytes.now ≡ c.in_ok-first.first.now ∷ [] = c.in_ok-first.ensures.cases.0 ∙ ap (λ r. c.in_ok-first.first.now ∷ r) (empty c.in_ok-first.behind.now c.in-None.ensures.cases) in
    subst (λ bs. pieces at bs ≡ (at, c.alone.result) ∷ pieces (at + 1) (drop 1 bs)) (sym e) (c.alone.ensures at)

pub returns-in-Some-clause-cut : goal.returns-in-Some-clause-cut
returns-in-Some-clause-cut c = λ at.
    let e : c.args.bytes.now ≡ c.in_ok-first.first.now ∷ c.in-Some.second.now ∷ c.in-Some.field-0-1.now = c.in_ok-first.ensures.cases.0 ∙ ap (λ r. c.in_ok-first.first.now ∷ r) c.in-Some.ensures.cases.0 in
    subst (λ bs. pieces at bs ≡ (at, c.together.result.0) ∷ pieces (at + c.together.result.1) (drop c.together.result.1 bs)) (sym e) (c.together.ensures.cut at (c.in-Some.field-0-1.now))
