-- The numbers that items give themselves, by the state behind their tokens.
use Rattle.std.proofs.Common.{◌≡◌, ℕ, suc, zero, List, [], ◌∷◌, ◌++◌, Option, Some, None, Bool, true, false, refl, ap, sym, ◌∙◌, subst, arith, append_assoc, cond}
use Rattle.std.specs.List.{AllByRecursion}
use Rattle.sel_grammar_text.specs.Tokens.{Token, Name, Integer, Quoted, Start, Term, Percents, Code, Colon, Equals, Open, Close, Comma, Semi, End}
use Rattle.sel_grammar_text.specs.Form.{is_small}
use Rattle.sel_grammar_text.specs.Items.{Word, word, TailText, RuleText, Item, StartItem, EntryItem, CodeItem, PercentsItem, RuleItem}
use Rattle.sel_grammar_text.specs.ItemNumbers.{HasExternal, HasExternalInTail, IsExternal}
use Rattle.sel_grammar_text.specs.Names.{rules}
use Rattle.sel_grammar_text.specs.Tables.{StandsRight}
use Rattle.sel_grammar_text.specs.Spots.{Spot}
use Rattle.sel_grammar_text.specs.Cutting.{is_start, is_equals, item_of, named_item, tail_in, numbers_in, burg_of, pattern_in}
use Rattle.sel_grammar_text.specs.Machine.{after_pattern, declare, step, is_border, is_declaring}
use Rattle.sel_grammar_text.specs.declared.form.State.{State}
use Rattle.sel_grammar_text.specs.declared.form.State.TheVariants.{Declaring, Starting, Entering, Equating, Ruling, LeftName, Wanted, Named, Closed, External, Numbered, Pricing, Priced, Pairing, Paired, Finishing, Ended}

-- A rule has begun, and its tail is f of what still comes.
pub record TailIs (left : List Spot) (f : List Spot → TailText) : Type 0 where
  pub x : Spot
  pub y : Spot
  pub more : List Spot
  pub left_is : left ≡ x ∷ y ∷ more
  pub no_entry : is_equals y.token ≡ false
  pub tail : (ys : List Spot) → tail_in (more ++ ys) ≡ f ys

-- what is known of the item's number
abbrev pub Tailed : State → List Spot → Type 0
Tailed (Declaring s t) left = left ≡ []
Tailed Starting left = (x : Spot) × (left ≡ x ∷ []) × (is_start x.token ≡ true)
Tailed (Entering s) left = (x : Spot) × (left ≡ x ∷ [])
Tailed (Equating s) left = (x : Spot) × (y : Spot) × (left ≡ x ∷ y ∷ []) × (is_equals y.token ≡ true)
Tailed Ruling left = left ≡ []
Tailed LeftName left = (x : Spot) × (left ≡ x ∷ [])
Tailed (Wanted d) left = TailIs left tail_in
Tailed (Named d) left = TailIs left tail_in
Tailed (Closed d) left = TailIs left tail_in
Tailed External left = TailIs left (λ ys. burg_of (numbers_in ys))
Tailed Numbered left = (w : Word) × IsExternal w × TailIs left (λ ys. burg_of (w ∷ numbers_in ys))
Tailed Pricing left = (w : Word) × IsExternal w × TailIs left (λ ys. burg_of (w ∷ numbers_in ys))
Tailed Priced left = (w : Word) × (c : Word) × IsExternal w × TailIs left (λ ys. burg_of (w ∷ c ∷ numbers_in ys))
Tailed Pairing left = (w : Word) × (c : Word) × IsExternal w × TailIs left (λ ys. burg_of (w ∷ c ∷ numbers_in ys))
Tailed Paired left = (w : Word) × (c : Word) × (d : Word) × IsExternal w × TailIs left (λ ys. burg_of (w ∷ c ∷ d ∷ numbers_in ys))
Tailed Finishing left = (w : Word) × (numbers : List Word) × IsExternal w × TailIs left (λ ys. burg_of (w ∷ (numbers ++ numbers_in ys)))
Tailed Ended left = Unit {0}

abbrev at_spot : Token → ℕ → Spot
at_spot t at = record { token = t; at = at }

-- What is known of a whole item, by the state behind it: its number isn't too large, rules begin only behind all
-- declarations, and entries stand before all rules.
pub record IsFine (u : State) (items : List Item) : Type 0 where
  pub number : AllByRecursion HasExternal items
  pub no_rule : is_declaring u ≡ true → rules items ≡ []
  pub order : (before : List Item) → (is_declaring u ≡ true → rules before ≡ []) → AllByRecursion (StandsRight before) items

-- the item goes on with the token, or ends with it
abbrev pub GoesOrIsFine : List Spot → Token → ℕ → State → Type 0
GoesOrIsFine left t at u = (is_border u ≡ false → Tailed u (left ++ at_spot t at ∷ [])) × (is_border u ≡ true → IsFine u (item_of (left ++ at_spot t at ∷ [])))

-- items that are neither entries nor rules, and have no number
nothing : (u : State) → IsFine u []
nothing u = record { number = tt; no_rule = λ _. refl; order = λ _ _. tt }

started_item : (u : State) (w : Word) → IsFine u (StartItem w ∷ [])
started_item u w = record { number = (tt, tt); no_rule = λ _. refl; order = λ _ _. (tt, tt) }

code_item : (u : State) → IsFine u (CodeItem ∷ [])
code_item u = record { number = (tt, tt); no_rule = λ _. refl; order = λ _ _. (tt, tt) }

percents_item : (u : State) (at : ℕ) → IsFine u (PercentsItem at ∷ [])
percents_item u at = record { number = (tt, tt); no_rule = λ _. refl; order = λ _ _. (tt, tt) }

rule_item : (r : RuleText) → HasExternalInTail r.tail → IsFine Ruling (RuleItem r ∷ [])
rule_item r h = record { number = (h, tt); no_rule = λ e. let z : ⊥ = cc in absurd z; order = λ _ _. (tt, tt) }

entry_item : (s t : Bool) (name number : Word) → IsExternal number → IsFine (Declaring s t) (EntryItem name number ∷ [])
entry_item s t name number h = record { number = (h, tt); no_rule = λ _. refl; order = λ before k. (k refl, tt) }

abbrev Next : List Spot → Token → ℕ → Option State → Type 0
Next left t at None = Unit {0}
Next left t at (Some u) = GoesOrIsFine left t at u

goes : (left : List Spot) (t : Token) (at : ℕ) (u : State) → is_border u ≡ false → Tailed u (left ++ at_spot t at ∷ []) → GoesOrIsFine left t at u
goes left t at u b x = (λ _. x, λ e. let w : false ≡ true = sym b ∙ e in absurd (let z : ⊥ = cc in z))

fine : (left : List Spot) (t : Token) (at : ℕ) (u : State) → is_border u ≡ true → IsFine u (item_of (left ++ at_spot t at ∷ [])) → GoesOrIsFine left t at u
fine left t at u b x = (λ e. let w : true ≡ false = sym b ∙ e in absurd (let z : ⊥ = cc in z), λ _. x)

by_cond : (left : List Spot) (t : Token) (at : ℕ) (b : Bool) (o p : Option State) → (b ≡ true → Next left t at o) → (b ≡ false → Next left t at p) → Next left t at (cond b o p)
by_cond left t at true o p x y = x refl
by_cond left t at false o p x y = y refl

-- one spot more
more_tail : (left : List Spot) (z : Spot) (f g : List Spot → TailText) → ((ys : List Spot) → f (z ∷ ys) ≡ g ys) → TailIs left f → TailIs (left ++ z ∷ []) g
more_tail left z f g e h = record {
  x = h.x;
  y = h.y;
  more = h.more ++ z ∷ [];
  left_is = ap (λ l. l ++ z ∷ []) h.left_is;
  no_entry = h.no_entry;
  tail = λ ys. ap tail_in (append_assoc h.more (z ∷ []) ys) ∙ h.tail (z ∷ ys) ∙ e ys;
}

small : (d : List ℕ) (at : ℕ) → is_small d ≡ true → IsExternal (word at d)
small d at h = grind (arith, h)

-- a rule that ends with a spot
named_fine : (name : Word) (y : Spot) (more : List Spot) → is_equals y.token ≡ false → HasExternalInTail (tail_in more) → IsFine Ruling (named_item name (y ∷ more))
named_fine name y more e h = rw e (rule_item (record { left = name; pattern = pattern_in more; tail = tail_in more }) h)

rule_fine : (x y : Spot) (more : List Spot) → is_equals y.token ≡ false → HasExternalInTail (tail_in more) → IsFine Ruling (item_of (x ∷ y ∷ more))
rule_fine x y more e h = by x.token
  where
    by : (t : Token) → IsFine Ruling (item_of (record { token = t; at = x.at } ∷ y ∷ more))
    by (Name n) = named_fine (word x.at n) y more e h
    by Start = started_item Ruling _
    by (Code n) = code_item Ruling
    by Percents = percents_item Ruling x.at
    by _ = nothing Ruling

ended_fine : (left : List Spot) (z : Spot) (f : List Spot → TailText) → TailIs left f → HasExternalInTail (f (z ∷ [])) → IsFine Ruling (item_of (left ++ z ∷ []))
ended_fine left z f h k =
    subst (λ l. IsFine Ruling (item_of l)) (sym (ap (λ l. l ++ z ∷ []) h.left_is)) (rule_fine h.x h.y (h.more ++ z ∷ []) h.no_entry (subst HasExternalInTail (sym (h.tail (z ∷ []))) k))

-- an entry that ends with its number
entry_fine : (s : Bool) (x y : Spot) (d : List ℕ) (at : ℕ) → is_equals y.token ≡ true → is_small d ≡ true → IsFine (Declaring s true) (item_of (x ∷ y ∷ at_spot (Integer d) at ∷ []))
entry_fine s x y d at e h = by x.token
  where
    named : (name : Word) → IsFine (Declaring s true) (named_item name (y ∷ at_spot (Integer d) at ∷ []))
    named name = rw e (entry_item s true name (word at d) (small d at h))

    by : (t : Token) → IsFine (Declaring s true) (item_of (record { token = t; at = x.at } ∷ y ∷ at_spot (Integer d) at ∷ []))
    by (Name n) = named (word x.at n)
    by Start = started_item (Declaring s true) _
    by (Code n) = code_item (Declaring s true)
    by Percents = percents_item (Declaring s true) x.at
    by _ = nothing (Declaring s true)

start_is : (t : Token) → is_start t ≡ true → t ≡ Start
start_is Start h = refl
start_is _ h = let z : ⊥ = cc in absurd z

name_fine : (x : Spot) (n : List ℕ) (at : ℕ) → is_start x.token ≡ true → IsFine (Declaring true false) (item_of (x ∷ at_spot (Name n) at ∷ []))
name_fine x n at h = subst (λ t. IsFine (Declaring true false) (item_of (record { token = t; at = x.at } ∷ at_spot (Name n) at ∷ []))) (sym (start_is x.token h)) (started_item (Declaring true false) (word at n))

pattern_next : (left : List Spot) (at d : ℕ) (t : Token) → TailIs left tail_in → Next left t at (after_pattern d t)
pattern_next left at (suc d) Comma h = goes left Comma at (Wanted (suc d)) refl (more_tail left (at_spot Comma at) tail_in tail_in (λ ys. refl) h)
pattern_next left at (suc d) Close h = goes left Close at (Closed d) refl (more_tail left (at_spot Close at) tail_in tail_in (λ ys. refl) h)
pattern_next left at zero (Quoted i c) h = fine left (Quoted i c) at Ruling refl (ended_fine left (at_spot (Quoted i c) at) tail_in h tt)
pattern_next left at zero Equals h = goes left Equals at External refl (more_tail left (at_spot Equals at) tail_in (λ ys. burg_of (numbers_in ys)) (λ ys. refl) h)
pattern_next left at _ _ h = tt

declare_next : (at : ℕ) (s t : Bool) (token : Token) → Next [] token at (declare s t token)
declare_next at s t Start = by_cond [] Start at s None (Some Starting) (λ _. tt) (λ _. goes [] Start at Starting refl (at_spot Start at, refl, refl))
declare_next at s t Term = fine [] Term at (Declaring s true) refl (nothing (Declaring s true))
declare_next at s t (Name n) = by_cond [] (Name n) at t (Some (Entering s)) None (λ _. goes [] (Name n) at (Entering s) refl (at_spot (Name n) at, refl)) (λ _. tt)
declare_next at s t (Code n) = fine [] (Code n) at (Declaring s false) refl (code_item (Declaring s false))
declare_next at s t Percents = fine [] Percents at Ruling refl (percents_item Ruling at)
declare_next at s t _ = tt

started : (n : List ℕ) (at : ℕ) (left : List Spot) → Tailed Starting left → GoesOrIsFine left (Name n) at (Declaring true false)
started n at left h = fine left (Name n) at (Declaring true false) refl (subst (λ l. IsFine (Declaring true false) (item_of (l ++ at_spot (Name n) at ∷ []))) (sym h.1) (name_fine h.0 n at h.2))

entered : (s : Bool) (d : List ℕ) (at : ℕ) (left : List Spot) → Tailed (Equating s) left → is_small d ≡ true → GoesOrIsFine left (Integer d) at (Declaring s true)
entered s d at left h k = fine left (Integer d) at (Declaring s true) refl (subst (λ l. IsFine (Declaring s true) (item_of (l ++ at_spot (Integer d) at ∷ []))) (sym h.2) (entry_fine s h.0 h.1 d at h.3 k))

ruled : (t : Token) (at : ℕ) (left : List Spot) (u : State) → is_border u ≡ true → IsFine u (item_of (at_spot t at ∷ [])) → left ≡ [] → GoesOrIsFine left t at u
ruled t at left u b x h = fine left t at u b (subst (λ l. IsFine u (item_of (l ++ at_spot t at ∷ []))) (sym h) x)

coloned : (at : ℕ) (left : List Spot) → Tailed LeftName left → GoesOrIsFine left Colon at (Wanted zero)
coloned at left h = goes left Colon at (Wanted zero) refl (record {
  x = h.0;
  y = at_spot Colon at;
  more = [];
  left_is = ap (λ l. l ++ at_spot Colon at ∷ []) h.1;
  no_entry = refl;
  tail = λ ys. refl;
})

numbered : (e : List ℕ) (at : ℕ) (left : List Spot) → Tailed External left → is_small e ≡ true → GoesOrIsFine left (Integer e) at Numbered
numbered e at left h k =
    goes left (Integer e) at Numbered refl (word at e, small e at k, more_tail left (at_spot (Integer e) at) (λ ys. burg_of (numbers_in ys)) (λ ys. burg_of (word at e ∷ numbers_in ys)) (λ ys. refl) h)

step_next : (s : State) (t : Token) (at : ℕ) (left : List Spot) → Tailed s left → Next left t at (step s t)
step_next (Declaring s t) token at left h = subst (λ l. Next l token at (declare s t token)) (sym h) (declare_next at s t token)
step_next Starting (Name n) at left h = started n at left h
step_next (Entering s) Equals at left h = goes left Equals at (Equating s) refl (h.0, at_spot Equals at, ap (λ l. l ++ at_spot Equals at ∷ []) h.1, refl)
step_next (Equating s) (Integer d) at left h = by_cond left (Integer d) at (is_small d) (Some (Declaring s true)) None (λ k. entered s d at left h k) (λ _. tt)
step_next Ruling (Name n) at left h = goes left (Name n) at LeftName refl (at_spot (Name n) at, ap (λ l. l ++ at_spot (Name n) at ∷ []) h)
step_next Ruling Percents at left h = ruled Percents at left Ended refl (percents_item Ended at) h
step_next Ruling End at left h = ruled End at left Ended refl (nothing Ended) h
step_next LeftName Colon at left h = coloned at left h
step_next (Wanted d) (Name n) at left h = goes left (Name n) at (Named d) refl (more_tail left (at_spot (Name n) at) tail_in tail_in (λ ys. refl) h)
step_next (Named d) Open at left h = goes left Open at (Wanted (suc d)) refl (more_tail left (at_spot Open at) tail_in tail_in (λ ys. refl) h)
step_next (Named d) t at left h = pattern_next left at d t h
step_next (Closed d) t at left h = pattern_next left at d t h
step_next External (Integer e) at left h = by_cond left (Integer e) at (is_small e) (Some Numbered) None (λ k. numbered e at left h k) (λ _. tt)
step_next Numbered Open at left h =
    goes left Open at Pricing refl (h.0, h.1, more_tail left (at_spot Open at) (λ ys. burg_of (h.0 ∷ numbers_in ys)) (λ ys. burg_of (h.0 ∷ numbers_in ys)) (λ ys. refl) h.2)
step_next Numbered Semi at left h = fine left Semi at Ruling refl (ended_fine left (at_spot Semi at) (λ ys. burg_of (h.0 ∷ numbers_in ys)) h.2 h.1)
step_next Pricing (Integer c) at left h =
    goes left (Integer c) at Priced refl (h.0, word at c, h.1, more_tail left (at_spot (Integer c) at) (λ ys. burg_of (h.0 ∷ numbers_in ys)) (λ ys. burg_of (h.0 ∷ word at c ∷ numbers_in ys)) (λ ys. refl) h.2)
step_next Priced Close at left h =
    goes left Close at Finishing refl (h.0, h.1 ∷ [], h.2, more_tail left (at_spot Close at) (λ ys. burg_of (h.0 ∷ h.1 ∷ numbers_in ys)) (λ ys. burg_of (h.0 ∷ ((h.1 ∷ []) ++ numbers_in ys))) (λ ys. refl) h.3)
step_next Priced Comma at left h =
    goes left Comma at Pairing refl (h.0, h.1, h.2, more_tail left (at_spot Comma at) (λ ys. burg_of (h.0 ∷ h.1 ∷ numbers_in ys)) (λ ys. burg_of (h.0 ∷ h.1 ∷ numbers_in ys)) (λ ys. refl) h.3)
step_next Pairing (Integer d) at left h =
    goes left (Integer d) at Paired refl (h.0, h.1, word at d, h.2, more_tail left (at_spot (Integer d) at) (λ ys. burg_of (h.0 ∷ h.1 ∷ numbers_in ys)) (λ ys. burg_of (h.0 ∷ h.1 ∷ word at d ∷ numbers_in ys)) (λ ys. refl) h.3)
step_next Paired Close at left h =
    goes left Close at Finishing refl (h.0, h.1 ∷ h.2 ∷ [], h.3, more_tail left (at_spot Close at) (λ ys. burg_of (h.0 ∷ h.1 ∷ h.2 ∷ numbers_in ys)) (λ ys. burg_of (h.0 ∷ ((h.1 ∷ h.2 ∷ []) ++ numbers_in ys))) (λ ys. refl) h.4)
step_next Finishing Semi at left h = fine left Semi at Ruling refl (ended_fine left (at_spot Semi at) (λ ys. burg_of (h.0 ∷ (h.1 ++ numbers_in ys))) h.3 h.2)
step_next _ _ at left h = tt

pub tailed_next : (s u : State) (t : Token) (at : ℕ) (left : List Spot) → Tailed s left → step s t ≡ Some u → GoesOrIsFine left t at u
tailed_next s u t at left b h = subst (Next left t at) h (step_next s t at left b)

-- nothing has come of an item at its border
pub border_tailed : (s : State) → is_border s ≡ true → Tailed s []
border_tailed (Declaring s t) h = refl
border_tailed Ruling h = refl
border_tailed Ended h = tt
border_tailed _ h = let z : ⊥ = cc in absurd z

abbrev DeclaredBefore : State → Option State → Type 0
DeclaredBefore s None = Unit {0}
DeclaredBefore s (Some u) = is_declaring u ≡ true → is_declaring s ≡ true

by_flag : (s : State) (b : Bool) (o p : Option State) → DeclaredBefore s o → DeclaredBefore s p → DeclaredBefore s (cond b o p)
by_flag s true o p x y = x
by_flag s false o p x y = y

pattern_back : (s : State) (d : ℕ) (t : Token) → DeclaredBefore s (after_pattern d t)
pattern_back s (suc d) Comma = λ e. let z : ⊥ = cc in absurd z
pattern_back s (suc d) Close = λ e. let z : ⊥ = cc in absurd z
pattern_back s zero (Quoted i c) = λ e. let z : ⊥ = cc in absurd z
pattern_back s zero Equals = λ e. let z : ⊥ = cc in absurd z
pattern_back s _ _ = tt

declare_back : (s t : Bool) (token : Token) → DeclaredBefore (Declaring s t) (declare s t token)
declare_back s t Start = by_flag (Declaring s t) s None (Some Starting) tt (λ _. refl)
declare_back s t Term = λ _. refl
declare_back s t (Name n) = by_flag (Declaring s t) t (Some (Entering s)) None (λ _. refl) tt
declare_back s t (Code n) = λ _. refl
declare_back s t Percents = λ _. refl
declare_back s t _ = tt

step_back : (s : State) (t : Token) → DeclaredBefore s (step s t)
step_back (Declaring s t) token = declare_back s t token
step_back Starting (Name n) = λ _. refl
step_back (Entering s) Equals = λ _. refl
step_back (Equating s) (Integer d) = by_flag (Equating s) (is_small d) (Some (Declaring s true)) None (λ _. refl) tt
step_back Ruling (Name n) = λ e. let z : ⊥ = cc in absurd z
step_back Ruling Percents = λ e. let z : ⊥ = cc in absurd z
step_back Ruling End = λ e. let z : ⊥ = cc in absurd z
step_back LeftName Colon = λ e. let z : ⊥ = cc in absurd z
step_back (Wanted d) (Name n) = λ e. let z : ⊥ = cc in absurd z
step_back (Named d) Open = λ e. let z : ⊥ = cc in absurd z
step_back (Named d) t = pattern_back (Named d) d t
step_back (Closed d) t = pattern_back (Closed d) d t
step_back External (Integer e) = by_flag External (is_small e) (Some Numbered) None (λ k. let z : ⊥ = cc in absurd z) tt
step_back Numbered Open = λ e. let z : ⊥ = cc in absurd z
step_back Numbered Semi = λ e. let z : ⊥ = cc in absurd z
step_back Pricing (Integer c) = λ e. let z : ⊥ = cc in absurd z
step_back Priced Close = λ e. let z : ⊥ = cc in absurd z
step_back Priced Comma = λ e. let z : ⊥ = cc in absurd z
step_back Pairing (Integer c) = λ e. let z : ⊥ = cc in absurd z
step_back Paired Close = λ e. let z : ⊥ = cc in absurd z
step_back Finishing Semi = λ e. let z : ⊥ = cc in absurd z
step_back _ _ = tt

-- declarations come only behind declarations
pub declared_before : (s u : State) (t : Token) → step s t ≡ Some u → is_declaring u ≡ true → is_declaring s ≡ true
declared_before s u t h = subst (DeclaredBefore s) h (step_back s t)
