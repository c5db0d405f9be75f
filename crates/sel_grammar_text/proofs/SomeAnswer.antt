-- A text spells a grammar or has a fault.
use Rattle.std.proofs.Common.{◌≡◌, ℕ, suc, zero, ◌<◌, ◌⊎◌, inl, inr, List, [], ◌∷◌, ◌++◌, Option, Some, None, Bool, true, false, refl, ap, sym, ◌∙◌, arith, length, cond}
use Rattle.sel_grammar.specs.declared.grammar.Grammar.{Grammar}
use Rattle.sel_grammar.specs.declared.refusal.GrammarFault.{GrammarFault}
use Rattle.sel_grammar_text.specs.Tokens.{Token, Quoted, Code}
use Rattle.sel_grammar_text.specs.Form.{GoesOn}
use Rattle.sel_grammar_text.specs.Spots.{Spot, after, behind, tokens, first_spots, here}
use Rattle.sel_grammar_text.specs.Cutting.{cutting, ends, item_of}
use Rattle.sel_grammar_text.specs.FormFaults.{HasFormFault, pattern_names, ends_integer}
use Rattle.sel_grammar_text.specs.FormDecision.{decided_fault, accepted_fault, judged, is_unclosed, stray_place, open_string_fault}
use Rattle.sel_grammar_text.specs.ItemFaults.{check_all}
use Rattle.sel_grammar_text.specs.GrammarText.{HasFault, HasFirstFault, SpellsGrammar, IsGrammarFault, end_fault, items_of}
use Rattle.sel_grammar_text.specs.Meaning.{grammar_of}
use Rattle.sel_grammar_text.specs.Places.{line_of, column_of}
use Rattle.sel_grammar_text.specs.Machine.{step, begin}
use Rattle.sel_grammar_text.specs.Laws.{SomeGrammarOrFault}
use Rattle.sel_grammar_text.specs.declared.fault.Fault.{Fault}
use Rattle.sel_grammar_text.specs.declared.form.State.{State}
use Rattle.sel_grammar_text.specs.declared.form.State.TheVariants.{Declaring, Starting, Entering, Equating, Ruling, LeftName, Wanted, Named, Closed, External, Numbered, Pricing, Priced, Pairing, Paired, Finishing, Ended}
use Rattle.sel_grammar_text.proofs.FormComplete.{goes_on, stops}
use Rattle.sel_grammar_text.proofs.Steps.{Reached, reached_start, reached_next, reached_fault, reached_end, reached_end_fault, after-snoc}
use Rattle.sel_grammar_text.proofs.Decided.{decided, undecided}
use Rattle.sel_grammar_text.proofs.Walking.{run_one}
use Rattle.sel_grammar_text.proofs.Depths.{step_end}
use Rattle.sel_grammar_text.proofs.Shorter.{behind_less}

abbrev Answer : List ℕ → Type 0
Answer bytes = ((g : Grammar) × SpellsGrammar bytes g) ⊎ ((f : GrammarFault) × IsGrammarFault bytes f)

told : (bytes : List ℕ) (f : Fault) → HasFirstFault bytes f → Answer bytes
told bytes f h = inr (record { kind = f.kind; line = line_of bytes f.at; column = column_of bytes f.at }, record { at = f.at; first_fault = h; line_is = refl; column_is = refl })

-- what passes the tests leads to a state
leads_on : (all : ℕ) (s : State) (names : ℕ) (b : Bool) (x : Spot) (more : List ℕ) → decided_fault all s names b x more ≡ None → (u : State) × (step s x.token ≡ Some u)
unfolding decided_fault
leads_on all s names b x more h = go (is_unclosed x.token) (step s x.token) refl h
  where
    go : (c : Bool) (o : Option State) → step s x.token ≡ o
        → cond c (Some (open_string_fault (step s (Quoted [] [])) x.at)) (judged o (stray_place all (step s (Code 0)) x) (accepted_fault names b x.at more x.token)) ≡ None → (u : State) × (step s x.token ≡ Some u)
    go true o e k = let z : ⊥ = cc in absurd z
    go false None e k = let z : ⊥ = cc in absurd z
    go false (Some u) e k = (u, e)

is_ended : (u : State) → (u ≡ Ended) ⊎ (u ≡ Ended → ⊥)
is_ended Ended = inl refl
is_ended (Declaring s t) = inr (λ e. cc)
is_ended Starting = inr (λ e. cc)
is_ended (Entering s) = inr (λ e. cc)
is_ended (Equating s) = inr (λ e. cc)
is_ended Ruling = inr (λ e. cc)
is_ended LeftName = inr (λ e. cc)
is_ended (Wanted d) = inr (λ e. cc)
is_ended (Named d) = inr (λ e. cc)
is_ended (Closed d) = inr (λ e. cc)
is_ended External = inr (λ e. cc)
is_ended Numbered = inr (λ e. cc)
is_ended Pricing = inr (λ e. cc)
is_ended Priced = inr (λ e. cc)
is_ended Pairing = inr (λ e. cc)
is_ended Paired = inr (λ e. cc)
is_ended Finishing = inr (λ e. cc)

module _ (bytes : List ℕ) (n : ℕ) (s : State) (r : Reached bytes n s) where
  goes : (x : Token) (u : State) → step s x ≡ Some u → GoesOn (tokens (first_spots n bytes) ++ x ∷ [])
  goes x u e = goes_on (tokens (first_spots n bytes) ++ x ∷ []) u (run_one (tokens (first_spots n bytes)) x s r.run_so ∙ e)

  stops_at : (x : Token) → step s x ≡ None → GoesOn (tokens (first_spots n bytes) ++ x ∷ []) → ⊥
  stops_at x e = stops (tokens (first_spots n bytes) ++ x ∷ []) (run_one (tokens (first_spots n bytes)) x s r.run_so ∙ e)

  abbrev tested : Option Fault
  tested = decided_fault (length bytes) s (pattern_names (cutting n bytes).left) (ends_integer (first_spots n bytes)) (here n bytes) (after (suc n) bytes)

  form_fault : (f : Fault) → tested ≡ Some f → HasFormFault bytes n f
  form_fault f h = decided (length bytes) s (first_spots n bytes) (cutting n bytes).left (after (suc n) bytes) goes stops_at (here n bytes) f h

  well_formed : tested ≡ None → (f : Fault) → HasFormFault bytes n f → ⊥
  well_formed h f x = undecided (length bytes) s (first_spots n bytes) (cutting n bytes).left (after (suc n) bytes) goes stops_at (here n bytes) f h x

  form_answer : (f : Fault) → tested ≡ Some f → Answer bytes
  unfolding HasFault
  form_answer f h = told bytes f (reached_fault bytes n s f r (inl (form_fault f h)))

  item_answer : (f : Fault) → tested ≡ None → ends (cutting n bytes).left (here n bytes).token ≡ true → check_all (cutting n bytes).items (item_of ((cutting n bytes).left ++ here n bytes ∷ [])) ≡ Some f → Answer bytes
  unfolding HasFault
  item_answer f h e k = told bytes f (reached_fault bytes n s f r (inr (well_formed h, e, k)))

  open_faultless : tested ≡ None → ends (cutting n bytes).left (here n bytes).token ≡ false → (f : Fault) → HasFault bytes n f → ⊥
  unfolding HasFault
  open_faultless h e f (inl x) = well_formed h f x
  open_faultless h e f (inr x) = let z : true ≡ false = sym x.1 ∙ e in absurd (let w : ⊥ = cc in w)

  pub checked_faultless : ((f : Fault) → HasFormFault bytes n f → ⊥) → check_all (cutting n bytes).items (item_of ((cutting n bytes).left ++ here n bytes ∷ [])) ≡ None → (f : Fault) → HasFault bytes n f → ⊥
  unfolding HasFault
  checked_faultless h e f (inl x) = h f x
  checked_faultless h e f (inr x) = let z : Some f ≡ None = sym x.2 ∙ e in absurd (let w : ⊥ = cc in w)

  end_answer : (u : State) → step s (here n bytes).token ≡ Some u → u ≡ Ended → ((f : Fault) → HasFault bytes n f → ⊥) → Answer bytes
  end_answer u e z none = by_end (end_fault (items_of n bytes) (here n bytes).at) refl
    where
      by_end : (o : Option Fault) → end_fault (items_of n bytes) (here n bytes).at ≡ o → Answer bytes
      by_end None k = inl (grammar_of bytes (items_of n bytes), reached_end bytes n s r (e ∙ ap Some z) none k)
      by_end (Some f) k = told bytes f (reached_end_fault bytes n s f r (e ∙ ap Some z) none k)

answer : (bytes : List ℕ) (fuel n : ℕ) (s : State) → length (after n bytes) < fuel → Reached bytes n s → Answer bytes
answer bytes zero n s lt r = absurd (omega arith)
answer bytes (suc fuel) n s lt r =
    by_form (tested bytes n s r) refl
    (λ u h open_still none. answer bytes fuel (suc n) u
    (let less : length (behind (after n bytes)) < length (after n bytes) = behind_less (after n bytes) (λ e. open_still (step_end s u (ap (step s) (sym e) ∙ h))) in
    omega (arith, less, ap length (after-snoc n bytes))) (reached_next bytes n s u r h open_still none))
  where
    by_state : (u : State) → step s (here n bytes).token ≡ Some u → (u ≡ Ended) ⊎ (u ≡ Ended → ⊥) → ((f : Fault) → HasFault bytes n f → ⊥)
        → ((u : State) → step s (here n bytes).token ≡ Some u → (u ≡ Ended → ⊥) → ((f : Fault) → HasFault bytes n f → ⊥) → Answer bytes) → Answer bytes
    by_state u h (inl e) none again = end_answer bytes n s r u h e none
    by_state u h (inr e) none again = again u h e none

    by_check : (b : Bool) → ends (cutting n bytes).left (here n bytes).token ≡ b → (o : Option Fault) → check_all (cutting n bytes).items (item_of ((cutting n bytes).left ++ here n bytes ∷ [])) ≡ o → tested bytes n s r ≡ None
        → ((u : State) × (step s (here n bytes).token ≡ Some u)) → ((u : State) → step s (here n bytes).token ≡ Some u → (u ≡ Ended → ⊥) → ((f : Fault) → HasFault bytes n f → ⊥) → Answer bytes) → Answer bytes
    by_check true e (Some f) k h x again = item_answer bytes n s r f h e k
    by_check true e None k h x again = by_state x.0 x.1 (is_ended x.0) (checked_faultless bytes n s r (well_formed bytes n s r h) k) again
    by_check false e o k h x again = by_state x.0 x.1 (is_ended x.0) (open_faultless bytes n s r h e) again

    by_form : (o : Option Fault) → tested bytes n s r ≡ o
        → ((u : State) → step s (here n bytes).token ≡ Some u → (u ≡ Ended → ⊥) → ((f : Fault) → HasFault bytes n f → ⊥) → Answer bytes) → Answer bytes
    by_form (Some f) h again = form_answer bytes n s r f h
    by_form None h again =
        by_check (ends (cutting n bytes).left (here n bytes).token) refl (check_all (cutting n bytes).items (item_of ((cutting n bytes).left ++ here n bytes ∷ []))) refl h
        (leads_on (length bytes) s (pattern_names (cutting n bytes).left) (ends_integer (first_spots n bytes)) (here n bytes) (after (suc n) bytes) h) again

pub some_answer : SomeGrammarOrFault
some_answer bytes = answer bytes (suc (length bytes)) 0 begin (omega arith) (reached_start bytes)
