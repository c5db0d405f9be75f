-- What a reader knows behind n tokens, and what each next token leads to.
use Rattle.std.proofs.Common.{◌≡◌, ℕ, suc, zero, ◌≤◌, ◌<◌, List, [], ◌∷◌, ◌++◌, Option, Some, None, refl, ap, sym, ◌∙◌, subst, arith, inl, inr, length}
use Rattle.std.proofs.lemmas.List.{map-append}
use Rattle.std.proofs.Math.Nat.{eq-or-lt_of_le}
use Rattle.sel_grammar_text.specs.Form.{IsText, GoesOn}
use Rattle.sel_grammar_text.specs.declared.fault.Fault.{Fault}
use Rattle.sel_grammar_text.specs.declared.form.State.{State}
use Rattle.sel_grammar_text.specs.declared.form.State.TheVariants.{Ended}
use Rattle.sel_grammar_text.specs.Machine.{step, run, go, begin}
use Rattle.sel_grammar_text.specs.Spots.{Spot, spot, first, after, behind, tokens, first_spots, here}
use Rattle.sel_grammar_text.specs.Cutting.{cutting, cut_all, cut_on, with_spot, Cutting}
use Rattle.sel_grammar_text.specs.GrammarText.{HasFault, IsWhole, HasFirstFault, at_token, behind_items, SpellsGrammar, end_fault, items_of}
use Rattle.sel_grammar_text.specs.Meaning.{grammar_of}
use Rattle.sel_grammar_text.proofs.FormSound.{run-append, is_text}
use Rattle.sel_grammar_text.proofs.FormComplete.{complete, goes_on, stops}

pub first-snoc : (all n : ℕ) (bytes : List ℕ) → first all (suc n) bytes ≡ first all n bytes ++ (spot all (after n bytes) ∷ [])
first-snoc all zero bytes = refl
first-snoc all (suc n) bytes = ap (λ ts. spot all bytes ∷ ts) (first-snoc all n (behind bytes))

pub after-snoc : (n : ℕ) (bytes : List ℕ) → after (suc n) bytes ≡ behind (after n bytes)
after-snoc zero bytes = refl
after-snoc (suc n) bytes = after-snoc n (behind bytes)

pub tokens-snoc : (n : ℕ) (bytes : List ℕ) → tokens (first_spots (suc n) bytes) ≡ tokens (first_spots n bytes) ++ ((here n bytes).token ∷ [])
tokens-snoc n bytes = ap tokens (first-snoc (length bytes) n bytes) ∙ map-append _ (first_spots n bytes) (here n bytes ∷ [])

cut_on-append : (c : Cutting) (xs ys : List Spot) → cut_on c (xs ++ ys) ≡ cut_on (cut_on c xs) ys
cut_on-append c [] ys = refl
cut_on-append c (x ∷ xs) ys = cut_on-append (with_spot c x) xs ys

-- the items behind one more token
pub cutting-snoc : (n : ℕ) (bytes : List ℕ) → cutting (suc n) bytes ≡ with_spot (cutting n bytes) (here n bytes)
unfolding cutting
cutting-snoc n bytes = ap cut_all (first-snoc (length bytes) n bytes) ∙ cut_on-append (record { items = []; left = [] }) (first_spots n bytes) (here n bytes ∷ [])

-- No token so far has a fault, and the machine goes on.
pub record Reached (bytes : List ℕ) (n : ℕ) (s : State) : Type 0 where
  pub run_so : run (tokens (first_spots n bytes)) begin ≡ Some s
  pub sound : (k : ℕ) (f : Fault) → k < n → HasFault bytes k f → ⊥
  pub no_text : (k : ℕ) → k ≤ n → IsText (tokens (first_spots k bytes)) → ⊥

run_more : (bytes : List ℕ) (n : ℕ) (s : State) (o : Option State) → run (tokens (first_spots n bytes)) begin ≡ Some s → step s (here n bytes).token ≡ o
    → run (tokens (first_spots (suc n) bytes)) begin ≡ o
run_more bytes n s o r h =
    ap (λ ts. run ts begin) (tokens-snoc n bytes) ∙ run-append (tokens (first_spots n bytes)) ((here n bytes).token ∷ []) begin
    ∙ ap (go (run ((here n bytes).token ∷ []))) r ∙ ap (go (run [])) h ∙ gone o
  where
    gone : (o : Option State) → go (run []) o ≡ o
    gone None = refl
    gone (Some u) = refl

pub reached_start : (bytes : List ℕ) → Reached bytes 0 begin
reached_start bytes = record {
  run_so = refl;
  sound = λ k f h x. absurd (omega arith);
  no_text = λ k h x. let z : k ≡ 0 = omega arith in let e : Some begin ≡ Some Ended = complete [] (subst (λ j. IsText (tokens (first_spots j bytes))) z x) in cc;
}

-- A token without a fault leads on.
pub reached_next : (bytes : List ℕ) (n : ℕ) (s u : State) → Reached bytes n s → step s (here n bytes).token ≡ Some u → (u ≡ Ended → ⊥)
    → ((f : Fault) → HasFault bytes n f → ⊥) → Reached bytes (suc n) u
reached_next bytes n s u r h open_still none = record {
  run_so = run_more bytes n s (Some u) r.run_so h;
  sound = λ k f l x. elim (eq-or-lt_of_le (let m : k ≤ n = omega arith in m)) [
    | inl e ↦ none f (subst (λ j. HasFault bytes j f) e x)
    | inr m ↦ r.sound k f m x
  ];
  no_text = λ k l x. elim (eq-or-lt_of_le l) [
    | inl e ↦ let d : Some u ≡ Some Ended = sym (run_more bytes n s (Some u) r.run_so h) ∙ complete _ (subst (λ j. IsText (tokens (first_spots j bytes))) e x) in open_still cc
    | inr m ↦ r.no_text k (omega arith) x
  ];
}

-- A token with a fault has the text's first.
pub reached_fault : (bytes : List ℕ) (n : ℕ) (s : State) (f : Fault) → Reached bytes n s → HasFault bytes n f → HasFirstFault bytes f
reached_fault bytes n s f r x = at_token n f (record { faultless = r.sound; open_still = r.no_text }) x

whole : (bytes : List ℕ) (n : ℕ) (s : State) → Reached bytes n s → step s (here n bytes).token ≡ Some Ended → ((f : Fault) → HasFault bytes n f → ⊥) → IsWhole bytes n
whole bytes n s r h none = record { before = record { faultless = r.sound; open_still = r.no_text }; last = none; whole = is_text _ (run_more bytes n s (Some Ended) r.run_so h) }

-- The last token: the grammar that the items say, or the fault behind them.
pub reached_end : (bytes : List ℕ) (n : ℕ) (s : State) → Reached bytes n s → step s (here n bytes).token ≡ Some Ended → ((f : Fault) → HasFault bytes n f → ⊥)
    → end_fault (items_of n bytes) (here n bytes).at ≡ None → SpellsGrammar bytes (grammar_of bytes (items_of n bytes))
reached_end bytes n s r h none e = record { n = n; whole = whole bytes n s r h none; no_fault = e; says = refl }

pub reached_end_fault : (bytes : List ℕ) (n : ℕ) (s : State) (f : Fault) → Reached bytes n s → step s (here n bytes).token ≡ Some Ended → ((f : Fault) → HasFault bytes n f → ⊥)
    → end_fault (items_of n bytes) (here n bytes).at ≡ Some f → HasFirstFault bytes f
reached_end_fault bytes n s f r h none e = behind_items n f (whole bytes n s r h none) e

-- What no text goes on with, by the machine.
pub stray_by_machine : (bytes : List ℕ) (n : ℕ) (s : State) → Reached bytes n s → step s (here n bytes).token ≡ None → GoesOn (tokens (first_spots n bytes) ++ ((here n bytes).token ∷ [])) → ⊥
stray_by_machine bytes n s r h g = stops (tokens (first_spots (suc n) bytes)) (run_more bytes n s None r.run_so h) (subst GoesOn (sym (tokens-snoc n bytes)) g)

pub goes_by_machine : (bytes : List ℕ) (n : ℕ) (s u : State) → Reached bytes n s → step s (here n bytes).token ≡ Some u → GoesOn (tokens (first_spots n bytes) ++ ((here n bytes).token ∷ []))
goes_by_machine bytes n s u r h = subst GoesOn (tokens-snoc n bytes) (goes_on (tokens (first_spots (suc n) bytes)) u (run_more bytes n s (Some u) r.run_so h))
