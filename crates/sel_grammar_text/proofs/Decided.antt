-- The state behind the tokens so far, and plain tests, decide which fault of form a token has.
use Rattle.std.proofs.Common.{◌≡◌, ℕ, suc, zero, ◌+◌, List, [], ◌∷◌, ◌++◌, Option, Some, None, Bool, true, false, refl, ap, sym, ◌∙◌, subst, length, cond, eqb, ◌&&◌}
use Rattle.std.proofs.lemmas.Bool.{eqb-true, eq-eqb}
use Rattle.sel_grammar.specs.Limits as limits
use Rattle.sel_grammar.specs.Limits.{most_names}
use Rattle.sel_grammar_text.specs.Tokens.{Token, Name, Quoted, Unclosed, Code, OpenCode, Open}
use Rattle.sel_grammar_text.specs.Form.{GoesOn}
use Rattle.sel_grammar_text.specs.CostText.{wrong_cost}
use Rattle.sel_grammar_text.specs.Spots.{Spot, tokens}
use Rattle.sel_grammar_text.specs.Faults.{fault, fault_if, fault_at, or_fault}
use Rattle.sel_grammar_text.specs.FormFaults.{FormFault, unclosed_quote, open_code, stray, name_too_many, bad_string, cost_line, cost_list, bad_byte, pattern_names, is_cost_list, ends_integer}
use Rattle.sel_grammar_text.specs.FormDecision.{accepted_fault, judged, open_code_place, is_open_code, stray_place, open_string_fault, is_unclosed, decided_fault}
use Rattle.sel_grammar_text.specs.Machine.{after_pattern, step}
use Rattle.sel_grammar_text.specs.declared.fault.Fault.{Fault}
use Rattle.sel_grammar_text.specs.declared.form.State.{State}
use Rattle.sel_grammar_text.specs.declared.form.State.TheVariants.{Declaring, Starting, Entering, Equating, Ruling, LeftName, Wanted, Named, Closed, External, Numbered, Pricing, Priced, Pairing, Paired, Finishing, Ended}

open_code_is : (t : Token) → is_open_code t ≡ true → t ≡ OpenCode
open_code_is OpenCode h = refl
open_code_is _ h = cc

after_open_code : (d : ℕ) → after_pattern d OpenCode ≡ None
after_open_code zero = refl
after_open_code (suc d) = refl

no_open_code : (s : State) → step s OpenCode ≡ None
no_open_code (Declaring s t) = refl
no_open_code Starting = refl
no_open_code (Entering s) = refl
no_open_code (Equating s) = refl
no_open_code Ruling = refl
no_open_code LeftName = refl
no_open_code (Wanted d) = refl
no_open_code (Named d) = after_open_code d
no_open_code (Closed d) = after_open_code d
no_open_code External = refl
no_open_code Numbered = refl
no_open_code Pricing = refl
no_open_code Priced = refl
no_open_code Pairing = refl
no_open_code Paired = refl
no_open_code Finishing = refl
no_open_code Ended = refl

module _ (all : ℕ) (state : State) (before left : List Spot) (more : List ℕ)
    (goes : (t : Token) (u : State) → step state t ≡ Some u → GoesOn (tokens before ++ (t ∷ [])))
    (stops : (t : Token) → step state t ≡ None → GoesOn (tokens before ++ (t ∷ [])) → ⊥) where
  name_found : (s : Spot) (n : List ℕ) (f : Fault) (b : Bool) → s.token ≡ Name n → GoesOn (tokens before ++ (s.token ∷ [])) → eqb (pattern_names left) most_names ≡ b → fault_if b (fault limits.too_many s.at) ≡ Some f → FormFault all before left s more f
  name_found s n f true e g k h = let q : fault limits.too_many s.at ≡ f = cc in subst (FormFault all before left s more) q (name_too_many n e g (eqb-true (pattern_names left) most_names k))
  name_found s n f false e g k h = cc

  open_found : (s : Spot) (f : Fault) (b c : Bool) → s.token ≡ Open → GoesOn (tokens before ++ (s.token ∷ [])) → ends_integer before ≡ b → is_cost_list more ≡ c → fault_if (b && c) (fault limits.cost_form s.at) ≡ Some f → FormFault all before left s more f
  open_found s f true true e g k l h = let q : fault limits.cost_form s.at ≡ f = cc in subst (FormFault all before left s more) q (cost_list e g k l)
  open_found s f true false e g k l h = cc
  open_found s f false c e g k l h = cc

  quoted_found : (s : Spot) (inside behind : List ℕ) (f : Fault) (o p : Option ℕ) → s.token ≡ Quoted inside behind → GoesOn (tokens before ++ (s.token ∷ [])) → bad_byte (s.at + 1) inside ≡ o
      → wrong_cost (s.at + length inside + 2) behind ≡ p → or_fault (fault_at limits.template_form o) (fault_at limits.cost_form p) ≡ Some f → FormFault all before left s more f
  quoted_found s i b f (Some at) p e g k l h = let q : fault limits.template_form at ≡ f = cc in subst (FormFault all before left s more) q (bad_string i b at e g k)
  quoted_found s i b f None (Some at) e g k l h = let q : fault limits.cost_form at ≡ f = cc in subst (FormFault all before left s more) q (cost_line i b at e g k l)
  quoted_found s i b f None None e g k l h = cc

  accepted_found : (s : Spot) (t : Token) (f : Fault) → s.token ≡ t → GoesOn (tokens before ++ (s.token ∷ [])) → accepted_fault (pattern_names left) (ends_integer before) s.at more t ≡ Some f → FormFault all before left s more f
  accepted_found s (Name n) f e g h = name_found s n f (eqb (pattern_names left) most_names) e g refl h
  accepted_found s (Quoted i b) f e g h = quoted_found s i b f (bad_byte (s.at + 1) i) (wrong_cost (s.at + length i + 2) b) e g refl refl h
  accepted_found s Open f e g h = open_found s f (ends_integer before) (is_cost_list more) e g refl refl h
  accepted_found s _ f e g h = cc

  stray_found : (s : Spot) (b : Bool) (o : Option State) → is_open_code s.token ≡ b → step state (Code 0) ≡ o → (s.token ≡ Unclosed → GoesOn (tokens before ++ (Quoted [] [] ∷ [])) → ⊥)
      → (GoesOn (tokens before ++ (s.token ∷ [])) → ⊥) → FormFault all before left s more (fault limits.token (cond b (open_code_place o all s.at) s.at))
  stray_found s true None e g h k = stray h (λ x. stops (Code 0) g) k
  stray_found s true (Some u) e g h k = open_code (open_code_is s.token e) (goes (Code 0) u g)
  stray_found s false o e g h k = stray h (λ x. let w : true ≡ false = sym (ap is_open_code x) ∙ e in absurd (let z : ⊥ = cc in z)) k

  judged_found : (s : Spot) (o : Option State) (f : Fault) → is_unclosed s.token ≡ false → step state s.token ≡ o → judged o (stray_place all (step state (Code 0)) s) (accepted_fault (pattern_names left) (ends_integer before) s.at more s.token) ≡ Some f → FormFault all before left s more f
  judged_found s None f u e h =
      let q : fault limits.token (stray_place all (step state (Code 0)) s) ≡ f = cc in
      subst (FormFault all before left s more) q (stray_found s (is_open_code s.token) (step state (Code 0)) refl refl (λ x. let w : true ≡ false = sym (ap is_unclosed x) ∙ u in absurd (let z : ⊥ = cc in z)) (stops s.token e))
  judged_found s (Some v) f u e h = accepted_found s s.token f refl (goes s.token v e) h

  unclosed_found : (s : Spot) (o : Option State) (f : Fault) → s.token ≡ Unclosed → step state (Quoted [] []) ≡ o → Some (open_string_fault o s.at) ≡ Some f → step state Unclosed ≡ None → FormFault all before left s more f
  unclosed_found s None f u e h n =
      let r : fault limits.token s.at ≡ f = cc in
      subst (FormFault all before left s more) r (stray (λ x. stops (Quoted [] []) e) (λ x. let w : Unclosed ≡ OpenCode = sym u ∙ x in absurd (let z : ⊥ = cc in z)) (subst (λ t. GoesOn (tokens before ++ (t ∷ [])) → ⊥) (sym u) (stops Unclosed n)))
  unclosed_found s (Some v) f u e h n = let q : fault limits.template_form s.at ≡ f = cc in subst (FormFault all before left s more) q (unclosed_quote u (goes (Quoted [] []) v e))

  -- no test gives a fault, then none is there
  accepted_none : (s : Spot) (f : Fault) → accepted_fault (pattern_names left) (ends_integer before) s.at more s.token ≡ None → is_unclosed s.token ≡ false → GoesOn (tokens before ++ (s.token ∷ [])) → FormFault all before left s more f → ⊥
  accepted_none s _ h u g (unclosed_quote x k) = let w : true ≡ false = sym (ap is_unclosed x) ∙ u in absurd (let z : ⊥ = cc in z)
  accepted_none s _ h u g (stray x nc y) = y g
  accepted_none s _ h u g (open_code x k) =
      absurd (stops OpenCode (no_open_code state) (subst (λ t. GoesOn (tokens before ++ (t ∷ []))) x g))
  accepted_none s _ h u g (name_too_many n e k p) =
      let w : Some (fault limits.too_many s.at) ≡ None = sym (ap (λ b. fault_if b (fault limits.too_many s.at)) (eq-eqb (pattern_names left) most_names p)) ∙ sym (ap (accepted_fault (pattern_names left) (ends_integer before) s.at more) e) ∙ h in absurd (let z : ⊥ = cc in z)
  accepted_none s _ h u g (bad_string i b at e k p) =
      let w : Some (fault limits.template_form at) ≡ None = sym (ap (λ o. or_fault (fault_at limits.template_form o) (fault_at limits.cost_form (wrong_cost (s.at + length i + 2) b))) p) ∙ sym (ap (accepted_fault (pattern_names left) (ends_integer before) s.at more) e) ∙ h in absurd (let z : ⊥ = cc in z)
  accepted_none s _ h u g (cost_line i b at e k p q) =
      let w : Some (fault limits.cost_form at) ≡ None = sym (ap (λ o. or_fault (fault_at limits.template_form (bad_byte (s.at + 1) i)) (fault_at limits.cost_form o)) q ∙ ap (λ o. or_fault (fault_at limits.template_form o) (fault_at limits.cost_form (Some at))) p) ∙ sym (ap (accepted_fault (pattern_names left) (ends_integer before) s.at more) e) ∙ h in absurd (let z : ⊥ = cc in z)
  accepted_none s _ h u g (cost_list e k x y) =
      let w : Some (fault limits.cost_form s.at) ≡ None = sym (ap (λ b. fault_if (b && is_cost_list more) (fault limits.cost_form s.at)) x ∙ ap (λ c. fault_if (true && c) (fault limits.cost_form s.at)) y) ∙ sym (ap (accepted_fault (pattern_names left) (ends_integer before) s.at more) e) ∙ h in absurd (let z : ⊥ = cc in z)

after_unclosed : (d : ℕ) → after_pattern d Unclosed ≡ None
after_unclosed zero = refl
after_unclosed (suc d) = refl

pub no_unclosed : (s : State) → step s Unclosed ≡ None
no_unclosed (Declaring s t) = refl
no_unclosed Starting = refl
no_unclosed (Entering s) = refl
no_unclosed (Equating s) = refl
no_unclosed Ruling = refl
no_unclosed LeftName = refl
no_unclosed (Wanted d) = refl
no_unclosed (Named d) = after_unclosed d
no_unclosed (Closed d) = after_unclosed d
no_unclosed External = refl
no_unclosed Numbered = refl
no_unclosed Pricing = refl
no_unclosed Priced = refl
no_unclosed Pairing = refl
no_unclosed Paired = refl
no_unclosed Finishing = refl
no_unclosed Ended = refl

unclosed_is : (t : Token) → is_unclosed t ≡ true → t ≡ Unclosed
unclosed_is Unclosed h = refl
unclosed_is _ h = cc

module _ (all : ℕ) (state : State) (before left : List Spot) (more : List ℕ)
    (goes : (t : Token) (u : State) → step state t ≡ Some u → GoesOn (tokens before ++ (t ∷ [])))
    (stops : (t : Token) → step state t ≡ None → GoesOn (tokens before ++ (t ∷ [])) → ⊥) where
  by_test : (s : Spot) (f : Fault) (b : Bool) → is_unclosed s.token ≡ b
      → cond b (Some (open_string_fault (step state (Quoted [] [])) s.at)) (judged (step state s.token) (stray_place all (step state (Code 0)) s) (accepted_fault (pattern_names left) (ends_integer before) s.at more s.token)) ≡ Some f → FormFault all before left s more f
  by_test s f true e h = let u = unclosed_is s.token e in unclosed_found all state before left more goes stops s (step state (Quoted [] [])) f u refl h (no_unclosed state)
  by_test s f false e h = judged_found all state before left more goes stops s (step state s.token) f e refl h

  no_by_test : (s : Spot) (f : Fault) (b : Bool) (o p : Option State) → is_unclosed s.token ≡ b → step state s.token ≡ p
      → cond b (Some (open_string_fault o s.at)) (judged p (stray_place all (step state (Code 0)) s) (accepted_fault (pattern_names left) (ends_integer before) s.at more s.token)) ≡ None → FormFault all before left s more f → ⊥
  no_by_test s f true None p e k h x = let z : ⊥ = cc in z
  no_by_test s f true (Some v) p e k h x = let z : ⊥ = cc in z
  no_by_test s f false o None e k h x = let z : ⊥ = cc in z
  no_by_test s f false o (Some u) e k h x = accepted_none all state before left more goes stops s f h e (goes s.token u k) x

  -- The tests find a fault of form exactly where there is one.
  pub decided : (s : Spot) (f : Fault) → decided_fault all state (pattern_names left) (ends_integer before) s more ≡ Some f → FormFault all before left s more f
  unfolding decided_fault
  decided s f h = by_test s f (is_unclosed s.token) refl h

  pub undecided : (s : Spot) (f : Fault) → decided_fault all state (pattern_names left) (ends_integer before) s more ≡ None → FormFault all before left s more f → ⊥
  unfolding decided_fault
  undecided s f h x = no_by_test s f (is_unclosed s.token) (step state (Quoted [] [])) (step state s.token) refl refl h x
