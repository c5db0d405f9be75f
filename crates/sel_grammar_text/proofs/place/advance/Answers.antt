use Rattle.std.proofs.Common.{◌≡◌, List, ℕ, [], ◌∷◌, ◌++◌, length, refl, sym, ◌∙◌, subst, arith}
use Rattle.sel_grammar_text.specs.Places.{IsPlaceBehind}
use Rattle.sel_grammar_text.specs.declared.place.Place.{Place}
use Rattle.sel_grammar_text.proofs.PlaceSteps.{behind_bytes, place_behind}
use Rattle.sel_grammar_text.proofs.place.advance.Goals as goal

behind_none : (p : Place) (xs : List ℕ) → length xs ≡ 0 → behind_bytes p xs ≡ p
behind_none p [] h = refl
behind_none p (x ∷ xs) h = absurd (omega arith)

pub returns : goal.returns
returns c = λ before h.
    let last : Place = record { line = c.bytes.line; column = c.bytes.column } in
    subst (IsPlaceBehind (before ++ c.args.bytes.now)) (sym c.bytes.invariant.same ∙ behind_none last c.bytes.rest.now c.in_default.ensures.cases) (place_behind before c.args.bytes.now c.args.place h)
