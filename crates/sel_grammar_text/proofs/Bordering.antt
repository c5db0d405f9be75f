-- Which spots belong to no item yet, by the state behind them.
use Rattle.std.proofs.Common.{◌≡◌, ℕ, suc, zero, ◌+◌, ◌≤◌, ◌⊎◌, inl, inr, List, [], ◌∷◌, ◌++◌, Option, Some, None, Bool, true, false, refl, ap, sym, ◌∙◌, subst, arith, length, length-append, cond}
use Rattle.sel_grammar_text.specs.Tokens.{Token, Name, Integer, Quoted, Start, Term, Percents, Code, Colon, Equals, Open, Close, Comma, Semi, End}
use Rattle.sel_grammar_text.specs.Form.{is_small}
use Rattle.sel_grammar_text.specs.Spots.{Spot}
use Rattle.sel_grammar_text.specs.Cutting.{ends, is_start, is_equals, item_of}
use Rattle.sel_grammar_text.specs.Machine.{after_pattern, declare, step, is_border}
use Rattle.sel_grammar_text.specs.declared.form.State.{State}
use Rattle.sel_grammar_text.specs.declared.form.State.TheVariants.{Declaring, Starting, Entering, Equating, Ruling, LeftName, Wanted, Named, Closed, External, Numbered, Pricing, Priced, Pairing, Paired, Finishing, Ended}

-- one spot, which is `%start` or not
abbrev pub IsOne : Bool → List Spot → Type 0
IsOne b left = (x : Spot) × (left ≡ x ∷ []) × (is_start x.token ≡ b)

-- what has come of the item so far
abbrev pub Begun : State → List Spot → Type 0
Begun (Declaring s t) left = left ≡ []
Begun Starting left = IsOne true left
Begun (Entering s) left = IsOne false left
Begun (Equating s) left = (x : Spot) × (y : Spot) × (left ≡ x ∷ y ∷ []) × (is_equals y.token ≡ true)
Begun Ruling left = left ≡ []
Begun LeftName left = IsOne false left
Begun (Wanted d) left = 2 ≤ length left
Begun (Named d) left = 3 ≤ length left
Begun (Closed d) left = 3 ≤ length left
Begun External left = 3 ≤ length left
Begun Numbered left = 3 ≤ length left
Begun Pricing left = 3 ≤ length left
Begun Priced left = 3 ≤ length left
Begun Pairing left = 3 ≤ length left
Begun Paired left = 3 ≤ length left
Begun Finishing left = 3 ≤ length left
Begun Ended left = Unit {0}

abbrev at_spot : Token → ℕ → Spot
at_spot t at = record { token = t; at = at }

-- the item goes on with the token, or ends with it
abbrev pub GoesOrEnds : List Spot → Token → ℕ → State → Type 0
GoesOrEnds left t at u =
    ((is_border u ≡ false → Begun u (left ++ at_spot t at ∷ [])) × (is_border u ≡ false → ends left t ≡ false))
    × (is_border u ≡ true → (ends left t ≡ true) ⊎ ((item_of (left ++ at_spot t at ∷ []) ≡ []) × (u ≡ Ended)))

abbrev Next : List Spot → Token → ℕ → Option State → Type 0
Next left t at None = Unit {0}
Next left t at (Some u) = GoesOrEnds left t at u

goes : (left : List Spot) (t : Token) (at : ℕ) (u : State) → is_border u ≡ false → Begun u (left ++ at_spot t at ∷ []) → ends left t ≡ false → GoesOrEnds left t at u
goes left t at u b x y = ((λ _. x, λ _. y), λ e. let w : false ≡ true = sym b ∙ e in absurd (let z : ⊥ = cc in z))

ended : (left : List Spot) (t : Token) (at : ℕ) (u : State) → is_border u ≡ true → (ends left t ≡ true) ⊎ ((item_of (left ++ at_spot t at ∷ []) ≡ []) × (u ≡ Ended)) → GoesOrEnds left t at u
ended left t at u b x = ((λ e. let w : true ≡ false = sym b ∙ e in absurd (let z : ⊥ = cc in z), λ e. let w : true ≡ false = sym b ∙ e in absurd (let z : ⊥ = cc in z)), λ _. x)

by_cond : (left : List Spot) (t : Token) (at : ℕ) (b : Bool) (o p : Option State) → Next left t at o → Next left t at p → Next left t at (cond b o p)
by_cond left t at true o p x y = x
by_cond left t at false o p x y = y

longer : (n : ℕ) (left : List Spot) (x : Spot) → n ≤ length left → n ≤ length (left ++ x ∷ [])
longer n left x h = omega (arith, h, length-append left (x ∷ []))

one_more : (n m : ℕ) (left : List Spot) (x : Spot) → n ≤ length left → m ≤ n + 1 → m ≤ length (left ++ x ∷ [])
one_more n m left x h k = omega (arith, h, k, length-append left (x ∷ []))

-- a name, and an Integer, within an item
name_goes : (left : List Spot) (n : List ℕ) → 2 ≤ length left → ends left (Name n) ≡ false
name_goes [] n h = absurd (omega arith)
name_goes (x ∷ []) n h = absurd (omega arith)
name_goes (x ∷ y ∷ []) n h = refl
name_goes (x ∷ y ∷ z ∷ left) n h = refl

integer_goes : (left : List Spot) (d : List ℕ) → 3 ≤ length left → ends left (Integer d) ≡ false
integer_goes [] d h = absurd (omega arith)
integer_goes (x ∷ []) d h = absurd (omega arith)
integer_goes (x ∷ y ∷ []) d h = absurd (omega arith)
integer_goes (x ∷ y ∷ z ∷ left) d h = refl

-- tokens that never end an item
abbrev Passes : Token → Type 0
Passes t = (left : List Spot) → ends left t ≡ false

passes : (t : Token) → ends [] t ≡ false → ((x : Spot) → ends (x ∷ []) t ≡ false) → ((x y : Spot) → ends (x ∷ y ∷ []) t ≡ false) → ((x y z : Spot) (more : List Spot) → ends (x ∷ y ∷ z ∷ more) t ≡ false) → Passes t
passes t a b c d [] = a
passes t a b c d (x ∷ []) = b x
passes t a b c d (x ∷ y ∷ []) = c x y
passes t a b c d (x ∷ y ∷ z ∷ more) = d x y z more

colon_goes : Passes Colon
colon_goes = passes Colon refl (λ x. refl) (λ x y. refl) (λ x y z more. refl)

equals_goes : Passes Equals
equals_goes = passes Equals refl (λ x. refl) (λ x y. refl) (λ x y z more. refl)

open_goes : Passes Open
open_goes = passes Open refl (λ x. refl) (λ x y. refl) (λ x y z more. refl)

close_goes : Passes Close
close_goes = passes Close refl (λ x. refl) (λ x y. refl) (λ x y z more. refl)

comma_goes : Passes Comma
comma_goes = passes Comma refl (λ x. refl) (λ x y. refl) (λ x y z more. refl)

quoted_ends : (i c : List ℕ) (left : List Spot) → ends left (Quoted i c) ≡ true
quoted_ends i c [] = refl
quoted_ends i c (x ∷ []) = refl
quoted_ends i c (x ∷ y ∷ []) = refl
quoted_ends i c (x ∷ y ∷ z ∷ more) = refl

semi_ends : (left : List Spot) → ends left Semi ≡ true
semi_ends [] = refl
semi_ends (x ∷ []) = refl
semi_ends (x ∷ y ∷ []) = refl
semi_ends (x ∷ y ∷ z ∷ more) = refl

pattern_next : (left : List Spot) (at d : ℕ) (t : Token) → 3 ≤ length left → Next left t at (after_pattern d t)
pattern_next left at (suc d) Comma h = goes left Comma at (Wanted (suc d)) refl (one_more 3 2 left (at_spot Comma at) h (omega arith)) (comma_goes left)
pattern_next left at (suc d) Close h = goes left Close at (Closed d) refl (longer 3 left (at_spot Close at) h) (close_goes left)
pattern_next left at zero (Quoted i c) h = ended left (Quoted i c) at Ruling refl (inl (quoted_ends i c left))
pattern_next left at zero Equals h = goes left Equals at External refl (longer 3 left (at_spot Equals at) h) (equals_goes left)
pattern_next left at _ _ h = tt

declare_next : (at : ℕ) (s t : Bool) (token : Token) → Next [] token at (declare s t token)
declare_next at s t Start = by_cond [] Start at s None (Some Starting) tt (goes [] Start at Starting refl (at_spot Start at, refl, refl) refl)
declare_next at s t Term = ended [] Term at (Declaring s true) refl (inl refl)
declare_next at s t (Name n) = by_cond [] (Name n) at t (Some (Entering s)) None (goes [] (Name n) at (Entering s) refl (at_spot (Name n) at, refl, refl) refl) tt
declare_next at s t (Code n) = ended [] (Code n) at (Declaring s false) refl (inl refl)
declare_next at s t Percents = ended [] Percents at Ruling refl (inl refl)
declare_next at s t _ = tt

start_next : (n : List ℕ) (at : ℕ) (left : List Spot) → IsOne true left → GoesOrEnds left (Name n) at (Declaring true false)
start_next n at left h = ended left (Name n) at (Declaring true false) refl (inl (ap (λ l. ends l (Name n)) h.1 ∙ h.2))

equals_next : (s : Bool) (at : ℕ) (left : List Spot) → IsOne false left → GoesOrEnds left Equals at (Equating s)
equals_next s at left h = goes left Equals at (Equating s) refl (h.0, at_spot Equals at, ap (λ l. l ++ at_spot Equals at ∷ []) h.1, refl) (equals_goes left)

number_next : (s : Bool) (d : List ℕ) (at : ℕ) (left : List Spot) → Begun (Equating s) left → GoesOrEnds left (Integer d) at (Declaring s true)
number_next s d at left h = ended left (Integer d) at (Declaring s true) refl (inl (ap (λ l. ends l (Integer d)) h.2 ∙ h.3))

left_next : (n : List ℕ) (at : ℕ) (left : List Spot) → left ≡ [] → GoesOrEnds left (Name n) at LeftName
left_next n at left h = goes left (Name n) at LeftName refl (at_spot (Name n) at, ap (λ l. l ++ at_spot (Name n) at ∷ []) h, refl) (ap (λ l. ends l (Name n)) h)

colon_next : (at : ℕ) (left : List Spot) → IsOne false left → GoesOrEnds left Colon at (Wanted zero)
colon_next at left h = goes left Colon at (Wanted zero) refl (one_more 1 2 left (at_spot Colon at) (omega (arith, ap length h.1)) (omega arith)) (colon_goes left)

pub step_next : (s : State) (t : Token) (at : ℕ) (left : List Spot) → Begun s left → Next left t at (step s t)
step_next (Declaring s t) token at left h = subst (λ l. Next l token at (declare s t token)) (sym h) (declare_next at s t token)
step_next Starting (Name n) at left h = start_next n at left h
step_next (Entering s) Equals at left h = equals_next s at left h
step_next (Equating s) (Integer d) at left h = by_cond left (Integer d) at (is_small d) (Some (Declaring s true)) None (number_next s d at left h) tt
step_next Ruling (Name n) at left h = left_next n at left h
step_next Ruling Percents at left h = ended left Percents at Ended refl (inl (ap (λ l. ends l Percents) h))
step_next Ruling End at left h = ended left End at Ended refl (inr (ap (λ l. item_of (l ++ at_spot End at ∷ [])) h, refl))
step_next LeftName Colon at left h = colon_next at left h
step_next (Wanted d) (Name n) at left h = goes left (Name n) at (Named d) refl (one_more 2 3 left (at_spot (Name n) at) h (omega arith)) (name_goes left n h)
step_next (Named d) Open at left h = goes left Open at (Wanted (suc d)) refl (one_more 3 2 left (at_spot Open at) h (omega arith)) (open_goes left)
step_next (Named d) t at left h = pattern_next left at d t h
step_next (Closed d) t at left h = pattern_next left at d t h
step_next External (Integer e) at left h =
    by_cond left (Integer e) at (is_small e) (Some Numbered) None (goes left (Integer e) at Numbered refl (longer 3 left (at_spot (Integer e) at) h) (integer_goes left e h)) tt
step_next Numbered Open at left h = goes left Open at Pricing refl (longer 3 left (at_spot Open at) h) (open_goes left)
step_next Numbered Semi at left h = ended left Semi at Ruling refl (inl (semi_ends left))
step_next Pricing (Integer c) at left h = goes left (Integer c) at Priced refl (longer 3 left (at_spot (Integer c) at) h) (integer_goes left c h)
step_next Priced Close at left h = goes left Close at Finishing refl (longer 3 left (at_spot Close at) h) (close_goes left)
step_next Priced Comma at left h = goes left Comma at Pairing refl (longer 3 left (at_spot Comma at) h) (comma_goes left)
step_next Pairing (Integer c) at left h = goes left (Integer c) at Paired refl (longer 3 left (at_spot (Integer c) at) h) (integer_goes left c h)
step_next Paired Close at left h = goes left Close at Finishing refl (longer 3 left (at_spot Close at) h) (close_goes left)
step_next Finishing Semi at left h = ended left Semi at Ruling refl (inl (semi_ends left))
step_next _ _ at left h = tt

pub begun_next : (s u : State) (t : Token) (at : ℕ) (left : List Spot) → Begun s left → step s t ≡ Some u → GoesOrEnds left t at u
begun_next s u t at left b h = subst (Next left t at) h (step_next s t at left b)

-- nothing has come of an item at its border
pub border_begun : (s : State) → is_border s ≡ true → Begun s []
border_begun (Declaring s t) h = refl
border_begun Ruling h = refl
border_begun Ended h = tt
border_begun _ h = let z : ⊥ = cc in absurd z
