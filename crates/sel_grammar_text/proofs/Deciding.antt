-- The fault of form of a token, by what is tested.
use Rattle.std.proofs.Common.{◌≡◌, ℕ, List, [], Some, None, Bool, true, false, refl, ap, sym, ◌∙◌}
use Rattle.sel_grammar.specs.Limits as limits
use Rattle.sel_grammar_text.specs.Tokens.{Token, Quoted, Code}
use Rattle.sel_grammar_text.specs.Spots.{Spot}
use Rattle.sel_grammar_text.specs.Faults.{fault}
use Rattle.sel_grammar_text.specs.FormDecision.{accepted_fault, judged, stray_place, open_string_fault, is_unclosed, decided_fault}
use Rattle.sel_grammar_text.specs.Machine.{step}
use Rattle.sel_grammar_text.specs.declared.fault.Fault.{Fault}
use Rattle.sel_grammar_text.specs.declared.form.State.{State}

abbrev at_spot : Token → ℕ → Spot
at_spot t at = record { token = t; at = at }

pub decided_unclosed : (all : ℕ) (state : State) (names : ℕ) (cost : Bool) (t : Token) (at : ℕ) (more : List ℕ) (f : Fault) → true ≡ is_unclosed t → f ≡ open_string_fault (step state (Quoted [] [])) at
    → decided_fault all state names cost (at_spot t at) more ≡ Some f
unfolding decided_fault
decided_unclosed all state names cost t at more f h e = rw (sym h, e) refl

pub decided_stray : (all : ℕ) (state : State) (names : ℕ) (cost : Bool) (t : Token) (at : ℕ) (more : List ℕ) (p : ℕ) → false ≡ is_unclosed t → None ≡ step state t → p ≡ stray_place all (step state (Code 0)) (at_spot t at)
    → decided_fault all state names cost (at_spot t at) more ≡ Some (fault limits.token p)
unfolding decided_fault
decided_stray all state names cost t at more p h k e =
    rw (sym h) (ap (λ o. judged o (stray_place all (step state (Code 0)) (at_spot t at)) (accepted_fault names cost at more t)) (sym k) ∙ ap (λ q. Some (fault limits.token q)) (sym e))

pub decided_accepted : (all : ℕ) (state : State) (names : ℕ) (cost : Bool) (t : Token) (at : ℕ) (more : List ℕ) (u : State) → false ≡ is_unclosed t → Some u ≡ step state t
    → decided_fault all state names cost (at_spot t at) more ≡ accepted_fault names cost at more t
unfolding decided_fault
decided_accepted all state names cost t at more u h k =
    rw (sym h) (ap (λ o. judged o (stray_place all (step state (Code 0)) (at_spot t at)) (accepted_fault names cost at more t)) (sym k))
