-- Tokens that are read to the end are a text of the form.
use Rattle.std.proofs.Common.{◌≡◌, ℕ, suc, zero, ◌+◌, ◌≤◌, List, [], ◌∷◌, ◌++◌, Some, None, Bool, true, false, refl, ap, ◌∙◌, arith, append_assoc, ◌⊎◌, inl, inr, cond}
use Rattle.std.specs.List.{flat_map, AllByRecursion}
use Rattle.sel_grammar_text.specs.Tokens.{Token, Name, Integer, Quoted, Start, Term, Percents, Code, Colon, Equals, Open, Close, Comma, Semi, End}
use Rattle.sel_grammar_text.specs.Form.{Patterns, no_patterns, pattern, below, beside, pattern_tokens, DeclarationForm, StartForm, TermForm, CodeForm, entry_tokens, declaration_tokens, AmountForm, OneNumber, TwoNumbers, TailForm, OneLineForm, BurgForm, tail_tokens, RuleForm, rule_tokens, is_small, IsSmall, IsDeclaration, IsTail, starts, IsText}
use Rattle.sel_grammar_text.specs.declared.form.State.{State}
use Rattle.sel_grammar_text.specs.declared.form.State.TheVariants.{Declaring, Starting, Entering, Equating, Ruling, LeftName, Wanted, Named, Closed, External, Numbered, Pricing, Priced, Pairing, Paired, Finishing, Ended}
use Rattle.sel_grammar_text.specs.Machine.{after_pattern, declare, step, go, run, begin}

pub run-append : (ts us : List Token) (s : State) → run (ts ++ us) s ≡ go (run us) (run ts s)
run-append [] us s = refl
run-append (t ∷ ts) us s =
    elim (step s t) as (λ o. go (run (ts ++ us)) o ≡ go (run us) (go (run ts) o)) [ None ↦ refl | Some u ↦ run-append ts us u ]

-- What the tokens are that lead from a state to the end.

abbrev pub Rules : List Token → Type 0
Rules ts = (rs : List RuleForm) × (last : Token) × ((last ≡ End) ⊎ (last ≡ Percents)) × AllByRecursion (λ r. IsTail r.tail) rs × (ts ≡ flat_map rule_tokens rs ++ (last ∷ []))

abbrev pub AfterPattern : ℕ → List Token → Type 0
AfterPattern zero ts = (t : TailForm) × (us : List Token) × IsTail t × (ts ≡ tail_tokens t ++ us) × Rules us
AfterPattern (suc d) ts = (more : Patterns) × (us : List Token) × (ts ≡ pattern_tokens beside more ++ (Close ∷ us)) × AfterPattern d us

abbrev pub Below : ℕ → List Token → Type 0
Below d ts = (kids : Patterns) × (us : List Token) × (ts ≡ pattern_tokens below kids ++ us) × AfterPattern d us

abbrev pub Names : ℕ → List Token → Type 0
Names d ts = (n : List ℕ) × (us : List Token) × (ts ≡ Name n ∷ us) × Below d us

-- a cost behind its parenthesis, up to the semicolon and what follows
abbrev pub priced : AmountForm → List Token → List Token
priced (OneNumber c) us = Integer c ∷ Close ∷ Semi ∷ us
priced (TwoNumbers c d) us = Integer c ∷ Comma ∷ Integer d ∷ Close ∷ Semi ∷ us

-- what stands behind the external number
abbrev pub AfterNumber : List Token → Type 0
AfterNumber ts = (us : List Token) × Rules us × ((ts ≡ Semi ∷ us) ⊎ ((c : AmountForm) × (ts ≡ Open ∷ priced c us)))

abbrev pub count : Bool → ℕ
count true = 1
count false = 0

abbrev pub Declares : Bool → List Token → Type 0
Declares s ts = (ds : List DeclarationForm) × (us : List Token) × AllByRecursion IsDeclaration ds × (count s + starts ds ≤ 1) × (ts ≡ flat_map declaration_tokens ds ++ (Percents ∷ us)) × Rules us

-- entries, where they may follow, and further declarations
abbrev pub Enters : Bool → Bool → List Token → Type 0
Enters s false ts = Declares s ts
Enters s true ts = (es : List (List ℕ × List ℕ)) × (us : List Token) × AllByRecursion (λ e. IsSmall e.1) es × (ts ≡ entry_tokens es ++ us) × Declares s us

abbrev pub Completes : State → List Token → Type 0
Completes (Declaring s t) ts = Enters s t ts
Completes Starting ts = (n : List ℕ) × (us : List Token) × (ts ≡ Name n ∷ us) × Declares true us
Completes (Entering s) ts = (d : List ℕ) × (us : List Token) × IsSmall d × (ts ≡ Equals ∷ Integer d ∷ us) × Enters s true us
Completes (Equating s) ts = (d : List ℕ) × (us : List Token) × IsSmall d × (ts ≡ Integer d ∷ us) × Enters s true us
Completes Ruling ts = Rules ts
Completes LeftName ts = (us : List Token) × (ts ≡ Colon ∷ us) × Names zero us
Completes (Wanted d) ts = Names d ts
Completes (Named d) ts = Below d ts
Completes (Closed d) ts = AfterPattern d ts
Completes External ts = (e : List ℕ) × (us : List Token) × IsSmall e × (ts ≡ Integer e ∷ us) × AfterNumber us
Completes Numbered ts = AfterNumber ts
Completes Pricing ts = (c : AmountForm) × (us : List Token) × (ts ≡ priced c us) × Rules us
Completes Priced ts = (us : List Token) × Rules us × ((ts ≡ Close ∷ Semi ∷ us) ⊎ ((d : List ℕ) × (ts ≡ Comma ∷ Integer d ∷ Close ∷ Semi ∷ us)))
Completes Pairing ts = (d : List ℕ) × (us : List Token) × (ts ≡ Integer d ∷ Close ∷ Semi ∷ us) × Rules us
Completes Paired ts = (us : List Token) × (ts ≡ Close ∷ Semi ∷ us) × Rules us
Completes Finishing ts = (us : List Token) × (ts ≡ Semi ∷ us) × Rules us
Completes Ended ts = ts ≡ []

abbrev pub Onward : List Token → Type 0
Onward ts = (s : State) → run ts s ≡ Some Ended → Completes s ts

glue_beside : (x y z : Token) (ts us rest rest' k m : List Token) → ts ≡ y ∷ us → us ≡ k ++ rest → rest ≡ m ++ (z ∷ rest') → x ∷ ts ≡ x ∷ y ∷ ((k ++ m) ++ (z ∷ rest'))
glue_beside x y z ts us rest rest' k m e f g = simp (e, f, g, append_assoc)

glue_below : (x y z : Token) (ts us rest rest' k m : List Token) → ts ≡ y ∷ us → us ≡ k ++ rest → rest ≡ m ++ (z ∷ rest') → x ∷ ts ≡ x ∷ y ∷ ((k ++ (m ++ (z ∷ []))) ++ rest')
glue_below x y z ts us rest rest' k m e f g = simp (e, f, g, append_assoc)

burg_glue : (e : List ℕ) (c : AmountForm) (us : List Token) → Equals ∷ Integer e ∷ Open ∷ priced c us ≡ tail_tokens (BurgForm e (Some c)) ++ us
burg_glue e (OneNumber c) us = refl
burg_glue e (TwoNumbers c d) us = refl

after_pattern_sound : (ts : List Token) → Onward ts → (d : ℕ) (t : Token) → go (run ts) (after_pattern d t) ≡ Some Ended → AfterPattern d (t ∷ ts)
after_pattern_sound ts ih (suc d) Comma h =
    let w : Names (suc d) ts = ih (Wanted (suc d)) h in
    let b : Below (suc d) w.1 = w.3 in
    (pattern w.0 b.0 b.3.0, b.3.1, glue_beside Comma (Name w.0) Close ts w.1 b.1 b.3.1 (pattern_tokens below b.0) (pattern_tokens beside b.3.0) w.2 b.2 b.3.2, b.3.3)
after_pattern_sound ts ih (suc d) Close h = (no_patterns, ts, refl, ih (Closed d) h)
after_pattern_sound ts ih zero (Quoted i c) h = (OneLineForm i c, ts, tt, refl, ih Ruling h)
after_pattern_sound ts ih zero Equals h =
    let w : Completes External ts = ih External h in
    let n : AfterNumber w.1 = w.4 in
    elim n.2 [
      | inl e ↦ (BurgForm w.0 None, n.0, w.2, ap (λ x. Equals ∷ x) (w.3 ∙ ap (λ x. Integer w.0 ∷ x) e), n.1)
      | inr f ↦ (BurgForm w.0 (Some f.0), n.0, w.2, ap (λ x. Equals ∷ x) (w.3 ∙ ap (λ x. Integer w.0 ∷ x) f.1) ∙ burg_glue w.0 f.0 n.0, n.1)
    ]
after_pattern_sound ts ih _ _ h = cc

open_sound : (ts : List Token) → Onward ts → (d : ℕ) → run ts (Wanted (suc d)) ≡ Some Ended → Below d (Open ∷ ts)
open_sound ts ih d h =
    let w : Names (suc d) ts = ih (Wanted (suc d)) h in
    let b : Below (suc d) w.1 = w.3 in
    (pattern w.0 b.0 b.3.0, b.3.1, glue_below Open (Name w.0) Close ts w.1 b.1 b.3.1 (pattern_tokens below b.0) (pattern_tokens beside b.3.0) w.2 b.2 b.3.2, b.3.3)

when : (ts : List Token) (b : Bool) (u : State) → go (run ts) (cond b (Some u) None) ≡ Some Ended → (b ≡ true) × (run ts u ≡ Some Ended)
when ts true u h = (refl, h)
when ts false u h = cc

unless : (ts : List Token) (b : Bool) (u : State) → go (run ts) (cond b None (Some u)) ≡ Some Ended → (b ≡ false) × (run ts u ≡ Some Ended)
unless ts false u h = (refl, h)
unless ts true u h = cc

enters : (s t : Bool) (ts : List Token) → Declares s ts → Enters s t ts
enters s false ts d = d
enters s true ts d = ([], ts, tt, refl, d)

start_sound : (s t : Bool) (ts : List Token) → s ≡ false → Completes Starting ts → Enters s t (Start ∷ ts)
start_sound false t ts e w =
    let d : Declares true w.1 = w.3 in
    enters false t _ (StartForm w.0 ∷ d.0, d.1, (tt, d.2), omega (arith, d.3), ap (λ x. Start ∷ x) (w.2 ∙ ap (λ x. Name w.0 ∷ x) d.4), d.5)
start_sound true t ts e w = cc

name_sound : (s t : Bool) (n : List ℕ) (ts : List Token) → t ≡ true → Completes (Entering s) ts → Enters s t (Name n ∷ ts)
name_sound s true n ts e w =
    let x : Enters s true w.1 = w.4 in
    ((n, w.0) ∷ x.0, x.1, (w.2, x.2), ap (λ y. Name n ∷ y) (w.3 ∙ ap (λ y. Equals ∷ Integer w.0 ∷ y) x.3), x.4)
name_sound s false n ts e w = cc

term_glue : (us vs es ds : List Token) (k : List Token) → us ≡ es ++ vs → vs ≡ ds ++ k → Term ∷ us ≡ Term ∷ ((es ++ ds) ++ k)
term_glue us vs es ds k e f = simp (e, f, append_assoc)

declare_sound : (ts : List Token) → Onward ts → (s t : Bool) (token : Token) → go (run ts) (declare s t token) ≡ Some Ended → Enters s t (token ∷ ts)
declare_sound ts ih s t Start h = let u = unless ts s Starting h in start_sound s t ts u.0 (ih Starting u.1)
declare_sound ts ih s t Term h =
    let w : Enters s true ts = ih (Declaring s true) h in
    let d : Declares s w.1 = w.4 in
    enters s t _ (TermForm w.0 ∷ d.0, d.1, (w.2, d.2), d.3, term_glue ts w.1 (entry_tokens w.0) (flat_map declaration_tokens d.0) (Percents ∷ d.1) w.3 d.4, d.5)
declare_sound ts ih s t (Name n) h = let u = when ts t (Entering s) h in name_sound s t n ts u.0 (ih (Entering s) u.1)
declare_sound ts ih s t (Code n) h =
    let d : Declares s ts = ih (Declaring s false) h in
    enters s t _ (CodeForm n ∷ d.0, d.1, (tt, d.2), d.3, ap (λ x. Code n ∷ x) d.4, d.5)
declare_sound ts ih s t Percents h = enters s t _ ([], ts, tt, few s, refl, ih Ruling h)
  where
    few : (s : Bool) → count s + 0 ≤ 1
    few true = omega arith
    few false = omega arith
declare_sound ts ih s t _ h = cc

rule_glue : (n m : List ℕ) (ts us vs ws xs b tl f : List Token) (last : Token) → ts ≡ Colon ∷ us → us ≡ Name m ∷ vs → vs ≡ b ++ ws → ws ≡ tl ++ xs → xs ≡ f ++ (last ∷ [])
    → Name n ∷ ts ≡ ((Name n ∷ Colon ∷ Name m ∷ (b ++ tl)) ++ f) ++ (last ∷ [])
rule_glue n m ts us vs ws xs b tl f last e1 e2 e3 e4 e5 = simp (e1, e2, e3, e4, e5, append_assoc)

rule_sound : (n : List ℕ) (ts : List Token) → Completes LeftName ts → Rules (Name n ∷ ts)
rule_sound n ts w =
    let names : Names zero w.0 = w.2 in
    let b : Below zero names.1 = names.3 in
    let a : AfterPattern zero b.1 = b.3 in
    let r : Rules a.1 = a.4 in (
      record { left = n; root = names.0; kids = b.0; tail = a.0 } ∷ r.0,
      r.1,
      r.2,
      (a.2, r.3),
      rule_glue n names.0 ts w.0 names.1 b.1 a.1 (pattern_tokens below b.0) (tail_tokens a.0) (flat_map rule_tokens r.0) r.1 w.1 names.2 b.2 a.3 r.4,
    )

number_sound : (c : List ℕ) (ts : List Token) → Completes Priced ts → Completes Pricing (Integer c ∷ ts)
number_sound c ts w = elim w.2 [
  | inl e ↦ (OneNumber c, w.0, ap (λ x. Integer c ∷ x) e, w.1)
  | inr f ↦ (TwoNumbers c f.0, w.0, ap (λ x. Integer c ∷ x) f.1, w.1)
]

step_sound : (ts : List Token) → Onward ts → (s : State) (t : Token) → go (run ts) (step s t) ≡ Some Ended → Completes s (t ∷ ts)
step_sound ts ih (Declaring s t) token h = declare_sound ts ih s t token h
step_sound ts ih Starting (Name n) h = (n, ts, refl, ih (Declaring true false) h)
step_sound ts ih (Entering s) Equals h = let w : Completes (Equating s) ts = ih (Equating s) h in (w.0, w.1, w.2, ap (λ x. Equals ∷ x) w.3, w.4)
step_sound ts ih (Equating s) (Integer d) h = let u = when ts (is_small d) (Declaring s true) h in (d, ts, u.0, refl, ih (Declaring s true) u.1)
step_sound ts ih Ruling (Name n) h = rule_sound n ts (ih LeftName h)
step_sound ts ih Ruling Percents h = let e : ts ≡ [] = ih Ended h in ([], Percents, inr refl, tt, ap (λ x. Percents ∷ x) e)
step_sound ts ih Ruling End h = let e : ts ≡ [] = ih Ended h in ([], End, inl refl, tt, ap (λ x. End ∷ x) e)
step_sound ts ih LeftName Colon h = (ts, refl, ih (Wanted zero) h)
step_sound ts ih (Wanted d) (Name n) h = (n, ts, refl, ih (Named d) h)
step_sound ts ih (Named d) Open h = open_sound ts ih d h
step_sound ts ih (Named d) t h = (no_patterns, t ∷ ts, refl, after_pattern_sound ts ih d t h)
step_sound ts ih (Closed d) t h = after_pattern_sound ts ih d t h
step_sound ts ih External (Integer e) h = let u = when ts (is_small e) Numbered h in (e, ts, u.0, refl, ih Numbered u.1)
step_sound ts ih Numbered Open h = let w : Completes Pricing ts = ih Pricing h in (w.1, w.3, inr (w.0, ap (λ x. Open ∷ x) w.2))
step_sound ts ih Numbered Semi h = (ts, ih Ruling h, inl refl)
step_sound ts ih Pricing (Integer c) h = number_sound c ts (ih Priced h)
step_sound ts ih Priced Close h = let w : Completes Finishing ts = ih Finishing h in (w.0, w.2, inl (ap (λ x. Close ∷ x) w.1))
step_sound ts ih Priced Comma h = let w : Completes Pairing ts = ih Pairing h in (w.1, w.3, inr (w.0, ap (λ x. Comma ∷ x) w.2))
step_sound ts ih Pairing (Integer d) h = let w : Completes Paired ts = ih Paired h in (d, w.0, ap (λ x. Integer d ∷ x) w.1, w.2)
step_sound ts ih Paired Close h = let w : Completes Finishing ts = ih Finishing h in (w.0, ap (λ x. Close ∷ x) w.1, w.2)
step_sound ts ih Finishing Semi h = (ts, refl, ih Ruling h)
step_sound ts ih _ _ h = cc

pub sound : (ts : List Token) → Onward ts
sound [] Ended h = refl
sound [] _ h = cc
sound (t ∷ ts) s h = step_sound ts (sound ts) s t h

-- a text that is read to its end has the form
pub is_text : (ts : List Token) → run ts begin ≡ Some Ended → IsText ts
is_text ts h =
    let d : Declares false ts = sound ts begin h in
    let r : Rules d.1 = d.5 in
    record { declarations = d.0; rules = r.0; last = r.1; ends = r.2; cut = d.4 ∙ ap (λ x. flat_map declaration_tokens d.0 ++ (Percents ∷ x)) r.4; lawful = d.2; small = r.3; one_start = omega (arith, d.3) }
