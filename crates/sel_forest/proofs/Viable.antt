-- The machine that reads a line's form, and what it decides: whether some line goes on with the tokens so far.
use Rattle.std.proofs.Common.{◌≡◌, ℕ, suc, zero, List, [], ◌∷◌, ◌++◌, Option, Some, None, refl, ap, sym, ◌∙◌, append_assoc, subst}
use Rattle.sel_forest.specs.Tokens.{Token, Name, Number, Symbol, Colon, Open, Comma, Close, Bad, End}
use Rattle.sel_forest.specs.Machine.{after_tree, step, go, run}
use Rattle.sel_forest.specs.declared.line.State.{State}
use Rattle.sel_forest.specs.declared.line.State.TheVariants.{Start, Wanted, Named, Colonned, Attributed, Closed, Ended}
use Rattle.sel_forest.specs.Form.{Trees, no_trees, tree, Standing, below, beside, attribute_tokens, IsAttributeToken, AreTrees, tokens_of, IsLine, blank, one_tree, GoesOn}

pub run-append : (ts us : List Token) (s : State) → run (ts ++ us) s ≡ go (run us) (run ts s)
run-append [] us s = refl
run-append (t ∷ ts) us s =
    elim (step s t) as (λ o. go (run (ts ++ us)) o ≡ go (run us) (go (run ts) o)) [ None ↦ refl | Some u ↦ run-append ts us u ]

-- What the tokens are that lead from a state to the line's end.

abbrev pub Rest : ℕ → List Token → Type 0
Rest zero ts = ts ≡ End ∷ []
Rest (suc d) ts = (more : Trees) × (rest : List Token) × AreTrees more × (ts ≡ tokens_of beside more ++ (Close ∷ rest)) × Rest d rest

abbrev pub Below : ℕ → List Token → Type 0
Below d ts = (kids : Trees) × (rest : List Token) × AreTrees kids × (ts ≡ tokens_of below kids ++ rest) × Rest d rest

abbrev pub Behind : ℕ → List Token → Type 0
Behind d ts = (a : Option Token) × (kids : Trees) × (rest : List Token) × IsAttributeToken a × AreTrees kids × (ts ≡ attribute_tokens a ++ (tokens_of below kids ++ rest)) × Rest d rest

abbrev pub Completes : State → List Token → Type 0
Completes Start ts = IsLine ts
Completes (Wanted d) ts = (n : List ℕ) × (us : List Token) × (ts ≡ Name n ∷ us) × Behind d us
Completes (Named d) ts = Behind d ts
Completes (Colonned d) ts = (t : Token) × (us : List Token) × IsAttributeToken (Some t) × (ts ≡ t ∷ us) × Below d us
Completes (Attributed d) ts = Below d ts
Completes (Closed d) ts = Rest d ts
Completes Ended ts = ts ≡ []

abbrev pub Onward : List Token → Type 0
Onward ts = (s : State) → run ts s ≡ Some Ended → Completes s ts

glue : (x y z : Token) (ts us rest rest' : List Token) (a k m : List Token) → ts ≡ y ∷ us → us ≡ a ++ (k ++ rest) → rest ≡ m ++ (z ∷ rest')
    → x ∷ ts ≡ x ∷ y ∷ ((a ++ (k ++ m)) ++ (z ∷ rest'))
glue x y z ts us rest rest' a k m e f g = simp (e, f, g, append_assoc)

glue_below : (x y z : Token) (ts us rest rest' : List Token) (a k m : List Token) → ts ≡ y ∷ us → us ≡ a ++ (k ++ rest) → rest ≡ m ++ (z ∷ rest')
    → x ∷ ts ≡ x ∷ y ∷ ((a ++ (k ++ (m ++ (z ∷ [])))) ++ rest')
glue_below x y z ts us rest rest' a k m e f g = simp (e, f, g, append_assoc)

after_tree_sound : (ts : List Token) → Onward ts → (d : ℕ) (t : Token) → go (run ts) (after_tree d t) ≡ Some Ended → Rest d (t ∷ ts)
after_tree_sound ts ih (suc d) Comma h =
    let w : Completes (Wanted (suc d)) ts = ih (Wanted (suc d)) h in
    let b : Behind (suc d) w.1 = w.3 in
    (tree w.0 b.0 b.1 b.6.0, b.6.1, (b.3, b.4, b.6.2), glue Comma (Name w.0) Close ts w.1 b.2 b.6.1 (attribute_tokens b.0) (tokens_of below b.1) (tokens_of beside b.6.0) w.2 b.5 b.6.3, b.6.4)
after_tree_sound ts ih (suc d) Close h = (no_trees, ts, tt, refl, ih (Closed d) h)
after_tree_sound ts ih zero End h = ap (λ us. End ∷ us) (ih Ended h)
after_tree_sound ts ih _ _ h = cc

open_sound : (ts : List Token) → Onward ts → (d : ℕ) → run ts (Wanted (suc d)) ≡ Some Ended → Below d (Open ∷ ts)
open_sound ts ih d h =
    let w : Completes (Wanted (suc d)) ts = ih (Wanted (suc d)) h in
    let b : Behind (suc d) w.1 = w.3 in
    (tree w.0 b.0 b.1 b.6.0, b.6.1, (b.3, b.4, b.6.2), glue_below Open (Name w.0) Close ts w.1 b.2 b.6.1 (attribute_tokens b.0) (tokens_of below b.1) (tokens_of beside b.6.0) w.2 b.5 b.6.3, b.6.4)

rest_below : (d : ℕ) (ts : List Token) → Rest d ts → Below d ts
rest_below d ts r = (no_trees, ts, tt, refl, r)

below_behind : (d : ℕ) (ts : List Token) → Below d ts → Behind d ts
below_behind d ts b = (None, b.0, b.1, tt, b.2, b.3, b.4)

step_sound : (ts : List Token) → Onward ts → (s : State) (t : Token) → go (run ts) (step s t) ≡ Some Ended → Completes s (t ∷ ts)
step_sound ts ih Start (Name n) h =
    let b : Behind 0 ts = ih (Named 0) h in
    let e : Name n ∷ ts ≡ Name n ∷ (attribute_tokens b.0 ++ (tokens_of below b.1 ++ (End ∷ []))) = ap (λ us. Name n ∷ us) (b.5 ∙ ap (λ us. attribute_tokens b.0 ++ (tokens_of below b.1 ++ us)) b.6) in
    subst IsLine (sym e) (one_tree n b.0 b.1 b.3 b.4)
step_sound ts ih Start End h = let e : ts ≡ [] = ih Ended h in subst (λ us. IsLine (End ∷ us)) (sym e) blank
step_sound ts ih (Wanted d) (Name n) h = (n, ts, refl, ih (Named d) h)
step_sound ts ih (Named d) Colon h =
    let w : Completes (Colonned d) ts = ih (Colonned d) h in
    (Some w.0, w.4.0, w.4.1, w.2, w.4.2, ap (λ us. Colon ∷ us) (w.3 ∙ ap (λ us. w.0 ∷ us) w.4.3), w.4.4)
step_sound ts ih (Named d) Open h = below_behind d _ (open_sound ts ih d h)
step_sound ts ih (Named d) t h = below_behind d _ (rest_below d _ (after_tree_sound ts ih d t h))
step_sound ts ih (Colonned d) (Number n) h = (Number n, ts, tt, refl, ih (Attributed d) h)
step_sound ts ih (Colonned d) (Symbol n) h = (Symbol n, ts, tt, refl, ih (Attributed d) h)
step_sound ts ih (Attributed d) Open h = open_sound ts ih d h
step_sound ts ih (Attributed d) t h = rest_below d _ (after_tree_sound ts ih d t h)
step_sound ts ih (Closed d) t h = after_tree_sound ts ih d t h
step_sound ts ih _ _ h = cc

pub sound : (ts : List Token) → Onward ts
sound [] Ended h = refl
sound [] _ h = cc
sound (t ∷ ts) s h = step_sound ts (sound ts) s t h

-- The other way: a line of the form is read to its end.

abbrev pub IsBehind : ℕ → State → Type 0
IsBehind d (Named e) = e ≡ d
IsBehind d (Attributed e) = e ≡ d
IsBehind d (Closed e) = e ≡ d
IsBehind d _ = ⊥

-- a tree may be opened, or go on beside
abbrev pub Takes : Standing → ℕ → State → Type 0
Takes below d (Named e) = e ≡ d
Takes below d (Attributed e) = e ≡ d
Takes below d _ = ⊥
Takes beside d s = (e : ℕ) × (d ≡ suc e) × IsBehind d s

abbrev pub Reads : Standing → Trees → Type 0
Reads p ts = (k : List Token) (d : ℕ) (s : State) → Takes p d s → (u : State) × IsBehind d u × (run (tokens_of p ts ++ k) s ≡ run k u)

behind_below : (d : ℕ) (s : State) → Takes below d s → IsBehind d s
behind_below d (Named e) h = h
behind_below d (Attributed e) h = h
behind_below d Start h = absurd h
behind_below d (Wanted e) h = absurd h
behind_below d (Colonned e) h = absurd h
behind_below d (Closed e) h = absurd h
behind_below d Ended h = absurd h

comma_step : (d : ℕ) (s : State) → IsBehind (suc d) s → step s Comma ≡ Some (Wanted (suc d))
comma_step d (Named e) h = rw h refl
comma_step d (Attributed e) h = rw h refl
comma_step d (Closed e) h = rw h refl
comma_step d Start h = absurd h
comma_step d (Wanted e) h = absurd h
comma_step d (Colonned e) h = absurd h
comma_step d Ended h = absurd h

close_step : (d : ℕ) (s : State) → IsBehind (suc d) s → step s Close ≡ Some (Closed d)
close_step d (Named e) h = rw h refl
close_step d (Attributed e) h = rw h refl
close_step d (Closed e) h = rw h refl
close_step d Start h = absurd h
close_step d (Wanted e) h = absurd h
close_step d (Colonned e) h = absurd h
close_step d Ended h = absurd h

end_step : (s : State) → IsBehind 0 s → step s End ≡ Some Ended
end_step (Named e) h = rw h refl
end_step (Attributed e) h = rw h refl
end_step (Closed e) h = rw h refl
end_step Start h = absurd h
end_step (Wanted e) h = absurd h
end_step (Colonned e) h = absurd h
end_step Ended h = absurd h

open_step : (d : ℕ) (s : State) → Takes below d s → step s Open ≡ Some (Wanted (suc d))
open_step d (Named e) h = rw h refl
open_step d (Attributed e) h = rw h refl
open_step d (Closed e) h = absurd h
open_step d Start h = absurd h
open_step d (Wanted e) h = absurd h
open_step d (Colonned e) h = absurd h
open_step d Ended h = absurd h

-- a name's attribute
attribute_read : (a : Option Token) → IsAttributeToken a → (k : List Token) (d : ℕ) → (u : State) × Takes below d u × (run (attribute_tokens a ++ k) (Named d) ≡ run k u)
attribute_read None h k d = (Named d, refl, refl)
attribute_read (Some (Number n)) h k d = (Attributed d, refl, refl)
attribute_read (Some (Symbol n)) h k d = (Attributed d, refl, refl)
attribute_read (Some (Name n)) h k d = absurd h
attribute_read (Some Colon) h k d = absurd h
attribute_read (Some Open) h k d = absurd h
attribute_read (Some Comma) h k d = absurd h
attribute_read (Some Close) h k d = absurd h
attribute_read (Some (Bad b)) h k d = absurd h
attribute_read (Some End) h k d = absurd h

comma_at : (d e : ℕ) (s : State) → d ≡ suc e → IsBehind d s → step s Comma ≡ Some (Wanted d)
comma_at d e s eq h = comma_step e s (subst (λ x. IsBehind x s) eq h) ∙ ap (λ x. Some (Wanted x)) (sym eq)

chain_below : (n : List ℕ) (a b m k : List Token) (d : ℕ) (s u v w : State) → step s Open ≡ Some (Wanted (suc d))
    → run (a ++ (b ++ (m ++ (Close ∷ k)))) (Named (suc d)) ≡ run (b ++ (m ++ (Close ∷ k))) u
    → run (b ++ (m ++ (Close ∷ k))) u ≡ run (m ++ (Close ∷ k)) v
    → run (m ++ (Close ∷ k)) v ≡ run (Close ∷ k) w
    → step w Close ≡ Some (Closed d)
    → run (Open ∷ Name n ∷ ((a ++ (b ++ (m ++ (Close ∷ [])))) ++ k)) s ≡ run k (Closed d)
chain_below n a b m k d s u v w e1 e2 e3 e4 e5 = rw e1 (simp append_assoc (e2 ∙ e3 ∙ e4 ∙ ap (go (run k)) e5))

chain_beside : (n : List ℕ) (a b m k : List Token) (d : ℕ) (s u v w : State) → step s Comma ≡ Some (Wanted d)
    → run (a ++ (b ++ (m ++ k))) (Named d) ≡ run (b ++ (m ++ k)) u
    → run (b ++ (m ++ k)) u ≡ run (m ++ k) v
    → run (m ++ k) v ≡ run k w
    → run (Comma ∷ Name n ∷ ((a ++ (b ++ m)) ++ k)) s ≡ run k w
chain_beside n a b m k d s u v w e1 e2 e3 e4 = rw e1 (simp append_assoc (e2 ∙ e3 ∙ e4))

reads : (p : Standing) (ts : Trees) → AreTrees ts → Reads p ts
reads below no_trees f k d s h = (s, behind_below d s h, refl)
reads beside no_trees f k d s h = (s, h.2, refl)
reads below (tree n a kids more) f k d s h =
    let x = attribute_read a f.0 (tokens_of below kids ++ (tokens_of beside more ++ (Close ∷ k))) (suc d) in
    let y = reads below kids f.1 (tokens_of beside more ++ (Close ∷ k)) (suc d) x.0 x.1 in
    let z = reads beside more f.2 (Close ∷ k) (suc d) y.0 (d, refl, y.1) in
    (Closed d, refl, chain_below n (attribute_tokens a) (tokens_of below kids) (tokens_of beside more) k d s x.0 y.0 z.0 (open_step d s h) x.2 y.2 z.2 (close_step d z.0 z.1))
reads beside (tree n a kids more) f k d s h =
    let x = attribute_read a f.0 (tokens_of below kids ++ (tokens_of beside more ++ k)) d in
    let y = reads below kids f.1 (tokens_of beside more ++ k) d x.0 x.1 in
    let z = reads beside more f.2 k d y.0 (h.0, h.1, y.1) in
    (z.0, z.1, chain_beside n (attribute_tokens a) (tokens_of below kids) (tokens_of beside more) k d s x.0 y.0 z.0 (comma_at d h.0 s h.1 h.2) x.2 y.2 z.2)

-- A line of the form leads from the start to the end.
pub complete : (ts : List Token) → IsLine ts → run ts Start ≡ Some Ended
complete _ blank = refl
complete _ (one_tree n a kids h f) =
    let x = attribute_read a h (tokens_of below kids ++ (End ∷ [])) 0 in
    let y = reads below kids f (End ∷ []) 0 x.0 x.1 in
    x.2 ∙ y.2 ∙ ap (go (run [])) (end_step y.0 y.1)

-- Each state has tokens that lead to the end.
abbrev pub closes : ℕ → List Token
closes zero = End ∷ []
closes (suc d) = Close ∷ closes d

abbrev pub finish : State → List Token
finish Start = End ∷ []
finish (Wanted d) = Name [] ∷ closes d
finish (Named d) = closes d
finish (Colonned d) = Number [] ∷ closes d
finish (Attributed d) = closes d
finish (Closed d) = closes d
finish Ended = []

closed_ends : (d : ℕ) → run (closes d) (Closed d) ≡ Some Ended
closed_ends zero = refl
closed_ends (suc d) = closed_ends d

named_ends : (d : ℕ) → run (closes d) (Named d) ≡ Some Ended
named_ends zero = refl
named_ends (suc d) = closed_ends d

attributed_ends : (d : ℕ) → run (closes d) (Attributed d) ≡ Some Ended
attributed_ends zero = refl
attributed_ends (suc d) = closed_ends d

finishes : (s : State) → run (finish s) s ≡ Some Ended
finishes Start = refl
finishes (Wanted d) = named_ends d
finishes (Named d) = named_ends d
finishes (Colonned d) = attributed_ends d
finishes (Attributed d) = attributed_ends d
finishes (Closed d) = closed_ends d
finishes Ended = refl

-- The machine has a state exactly where some line goes on with the tokens.
pub goes_on : (ts : List Token) (s : State) → run ts Start ≡ Some s → GoesOn ts
goes_on ts s h = (finish s, sound (ts ++ finish s) Start (run-append ts (finish s) Start ∙ ap (go (run (finish s))) h ∙ finishes s))

pub stops : (ts : List Token) → run ts Start ≡ None → GoesOn ts → ⊥
stops ts h g =
    let e : None ≡ Some Ended = sym (ap (go (run g.0)) h) ∙ sym (run-append ts g.0 Start) ∙ complete (ts ++ g.0) g.1 in cc
