-- How many names the pattern of a rule has, and how many kids these have together.
use Rattle.std.proofs.Common.{◌≡◌, ℕ, suc, zero, ◌+◌, ◌-◌, ◌≤◌, ◌<◌, inl, inr, List, [], ◌∷◌, ◌++◌, length, Option, Some, None, Bool, true, false, refl, ap, sym, ◌∙◌, subst, arith, append_assoc, append-nil, cond, eqb}
use Rattle.std.proofs.Math.Nat.{eq-or-lt_of_le}
use Rattle.std.specs.List.{AllByRecursion}
use Rattle.sel_grammar.specs.Limits as limits
use Rattle.sel_grammar.specs.Limits.{most_names}
use Rattle.sel_grammar_text.specs.Tokens.{Token, Name, Integer, Quoted, Start, Term, Percents, Code, Colon, Equals, Open, Close, Comma, Semi, End}
use Rattle.sel_grammar_text.specs.Form.{is_small, GoesOn}
use Rattle.sel_grammar_text.specs.Items.{Word, Item}
use Rattle.sel_grammar_text.specs.Names.{rules}
use Rattle.sel_grammar_text.specs.Spots.{Spot, tokens, first_spots, here}
use Rattle.sel_grammar_text.specs.Cutting.{Cutting, cutting, with_spot, ends, item_of, pattern_in, commas}
use Rattle.sel_grammar_text.specs.FormFaults.{HasFormFault, name_too_many, names_in, pattern_names}
use Rattle.sel_grammar_text.specs.GrammarText.{HasFault, IsWhole, IsSoundUpTo, items_of}
use Rattle.sel_grammar_text.specs.Extents.{HasExtent}
use Rattle.sel_grammar_text.specs.Machine.{after_pattern, declare, step, run, go, begin, is_border, is_name}
use Rattle.sel_grammar_text.specs.declared.fault.Fault.{Fault}
use Rattle.sel_grammar_text.specs.declared.scan.Extent.{Extent}
use Rattle.sel_grammar_text.specs.declared.form.State.{State}
use Rattle.sel_grammar_text.specs.declared.form.State.TheVariants.{Declaring, Starting, Entering, Equating, Ruling, LeftName, Wanted, Named, Closed, External, Numbered, Pricing, Priced, Pairing, Paired, Finishing, Ended}
use Rattle.sel_grammar_text.proofs.FormSound.{run-append}
use Rattle.sel_grammar_text.proofs.FormComplete.{complete, goes_on}
use Rattle.sel_grammar_text.proofs.Steps.{tokens-snoc, cutting-snoc}
use Rattle.sel_grammar_text.proofs.Walking.{run_one}
use Rattle.sel_grammar_text.proofs.Bordering.{Begun, GoesOrEnds, begun_next, border_begun}
use Rattle.sel_grammar_text.proofs.ItemLists.{rules-append}
use Rattle.sel_grammar_text.proofs.Templates.{unequal}
use Rattle.sel_grammar_text.proofs.Commas.{kids_sum, joints, HasPlainTail, kids_bounded}

-- a pattern has a name, and no more of them than a pattern may have; they have fewer kids than they are
pub record HasFewNames (names : List (Word × ℕ)) : Type 0 where
  pub some : 1 ≤ length names
  pub few : length names ≤ most_names
  pub kids : kids_sum names + 1 ≤ length names

-- each rule among the items has few names
abbrev pub HaveFewNames : List Item → Type 0
HaveFewNames items = AllByRecursion (λ r. HasFewNames r.pattern) (rules items)

abbrev at_spot : Token → ℕ → Spot
at_spot t at = record { token = t; at = at }

-- What has come of a pattern: so many names and joints, and nothing of a tail.
record HasPattern (more : List Spot) (names joined : ℕ) : Type 0 where
  all_names : (ys : List Spot) → length (names_in (more ++ ys)) ≡ names + length (names_in ys)
  names_are : (ys : List Spot) → length (pattern_in (more ++ ys)) ≡ names + length (pattern_in ys)
  joints_are : (ys : List Spot) → joints (more ++ ys) ≡ joined + joints ys
  plain : (ys : List Spot) → HasPlainTail ys → HasPlainTail (more ++ ys)

-- one level deeper within the parentheses of a cost
abbrev level : Bool → ℕ → ℕ
level true d = suc d
level false d = d

-- What has come is a whole pattern, with so many names and joints, and a part of its tail, which may end within the
-- parentheses of a cost.
record HasWhole (inside : Bool) (more : List Spot) (names joined : ℕ) : Type 0 where
  names_are : (ys : List Spot) → length (pattern_in (more ++ ys)) ≡ names
  joints_are : (ys : List Spot) → joints (more ++ ys) ≡ joined
  plain : (ys : List Spot) → ((d : ℕ) → commas (level inside d) ys ≡ 0) → HasPlainTail (more ++ ys)

-- a rule has begun, and more has come behind its colon
record InRule (left more : List Spot) : Type 0 where
  name : List ℕ
  at : ℕ
  colon : ℕ
  left_is : left ≡ at_spot (Name name) at ∷ at_spot Colon colon ∷ more

abbrev InPattern : List Spot → ℕ → ℕ → Type 0
InPattern left names joined = (more : List Spot) × InRule left more × HasPattern more names joined × (names ≤ most_names)

abbrev InTail : Bool → List Spot → Type 0
InTail inside left = (j : ℕ) × (more : List Spot) × InRule left more × HasWhole inside more (suc j) j × (suc j ≤ most_names)

-- what is known of the names of the item so far
abbrev Counted : State → List Spot → Type 0
Counted (Declaring s t) left = left ≡ []
Counted Starting left = (a : ℕ) × (left ≡ at_spot Start a ∷ [])
Counted (Entering s) left = (n : List ℕ) × (a : ℕ) × (left ≡ at_spot (Name n) a ∷ [])
Counted (Equating s) left = (n : List ℕ) × (a : ℕ) × (b : ℕ) × (left ≡ at_spot (Name n) a ∷ at_spot Equals b ∷ [])
Counted Ruling left = left ≡ []
Counted LeftName left = (n : List ℕ) × (a : ℕ) × (left ≡ at_spot (Name n) a ∷ [])
Counted (Wanted d) left = (j : ℕ) × InPattern left j j
Counted (Named d) left = (j : ℕ) × InPattern left (suc j) j
Counted (Closed d) left = (j : ℕ) × InPattern left (suc j) j
Counted External left = InTail false left
Counted Numbered left = InTail false left
Counted Pricing left = InTail true left
Counted Priced left = InTail true left
Counted Pairing left = InTail true left
Counted Paired left = InTail true left
Counted Finishing left = InTail false left
Counted Ended left = Unit {0}

-- the item goes on with the token, or ends with it
abbrev GoesOrIsFew : List Spot → Token → ℕ → State → Type 0
GoesOrIsFew left t at u = (is_border u ≡ false → Counted u (left ++ at_spot t at ∷ [])) × (is_border u ≡ true → HaveFewNames (item_of (left ++ at_spot t at ∷ [])))

abbrev Next : List Spot → Token → ℕ → Option State → Type 0
Next left t at None = Unit {0}
Next left t at (Some u) = GoesOrIsFew left t at u

goes : (left : List Spot) (t : Token) (at : ℕ) (u : State) → is_border u ≡ false → Counted u (left ++ at_spot t at ∷ []) → GoesOrIsFew left t at u
goes left t at u b x = (λ _. x, λ e. let w : false ≡ true = sym b ∙ e in absurd (let z : ⊥ = cc in z))

few : (left : List Spot) (t : Token) (at : ℕ) (u : State) → is_border u ≡ true → HaveFewNames (item_of (left ++ at_spot t at ∷ [])) → GoesOrIsFew left t at u
few left t at u b x = (λ e. let w : true ≡ false = sym b ∙ e in absurd (let z : ⊥ = cc in z), λ _. x)

by_cond : (left : List Spot) (t : Token) (at : ℕ) (b : Bool) (o p : Option State) → Next left t at o → Next left t at p → Next left t at (cond b o p)
by_cond left t at true o p x y = x
by_cond left t at false o p x y = y

-- one spot more behind the colon
more_rule : (left more : List Spot) (z : Spot) → InRule left more → InRule (left ++ z ∷ []) (more ++ z ∷ [])
more_rule left more z h = record { name = h.name; at = h.at; colon = h.colon; left_is = ap (λ l. l ++ z ∷ []) h.left_is }

-- a spot that adds so many names and joints
record Adds (z : Spot) (a b : ℕ) : Type 0 where
  all_names : (ys : List Spot) → length (names_in (z ∷ ys)) ≡ a + length (names_in ys)
  names_are : (ys : List Spot) → length (pattern_in (z ∷ ys)) ≡ a + length (pattern_in ys)
  joints_are : (ys : List Spot) → joints (z ∷ ys) ≡ b + joints ys
  plain : (ys : List Spot) → HasPlainTail ys → HasPlainTail (z ∷ ys)

summed : (x y w m n a : ℕ) → x ≡ n + y → y ≡ a + w → m ≡ n + a → x ≡ m + w
summed x y w m n a e f g = omega (arith, e, f, g)

more_pattern : (more : List Spot) (z : Spot) (n j m i a b : ℕ) → m ≡ n + a → i ≡ j + b → Adds z a b → HasPattern more n j → HasPattern (more ++ z ∷ []) m i
more_pattern more z n j m i a b e f k h = record {
  all_names = λ ys. ap (λ l. length (names_in l)) (append_assoc more (z ∷ []) ys) ∙ summed _ _ _ m n a (h.all_names (z ∷ ys)) (k.all_names ys) e;
  names_are = λ ys. ap (λ l. length (pattern_in l)) (append_assoc more (z ∷ []) ys) ∙ summed _ _ _ m n a (h.names_are (z ∷ ys)) (k.names_are ys) e;
  joints_are = λ ys. ap joints (append_assoc more (z ∷ []) ys) ∙ summed _ _ _ i j b (h.joints_are (z ∷ ys)) (k.joints_are ys) f;
  plain = λ ys p. subst HasPlainTail (sym (append_assoc more (z ∷ []) ys)) (h.plain (z ∷ ys) (k.plain ys p));
}

adds_name : (n : List ℕ) (at : ℕ) → Adds (at_spot (Name n) at) 1 0
adds_name n at = record { all_names = λ ys. omega arith; names_are = λ ys. omega arith; joints_are = λ ys. omega arith; plain = λ ys p. p }

adds_open : (at : ℕ) → Adds (at_spot Open at) 0 1
adds_open at = record { all_names = λ ys. omega arith; names_are = λ ys. omega arith; joints_are = λ ys. omega arith; plain = λ ys p. p }

adds_comma : (at : ℕ) → Adds (at_spot Comma at) 0 1
adds_comma at = record { all_names = λ ys. omega arith; names_are = λ ys. omega arith; joints_are = λ ys. omega arith; plain = λ ys p. p }

adds_close : (at : ℕ) → Adds (at_spot Close at) 0 0
adds_close at = record { all_names = λ ys. omega arith; names_are = λ ys. omega arith; joints_are = λ ys. omega arith; plain = λ ys p. p }

in_pattern : (left : List Spot) (z : Spot) (n j m i a b : ℕ) → m ≡ n + a → i ≡ j + b → m ≤ most_names → Adds z a b → InPattern left n j → InPattern (left ++ z ∷ []) m i
in_pattern left z n j m i a b e f l k h = (h.0 ++ z ∷ [], more_rule left h.0 z h.1, more_pattern h.0 z n j m i a b e f k h.2, l)

-- the equals sign ends the pattern
equals_whole : (more : List Spot) (at n j : ℕ) → HasPattern more n j → HasWhole false (more ++ at_spot Equals at ∷ []) n j
equals_whole more at n j h = record {
  names_are = λ ys. ap (λ l. length (pattern_in l)) (append_assoc more (at_spot Equals at ∷ []) ys) ∙ (let e = h.names_are (at_spot Equals at ∷ ys) in omega (arith, e));
  joints_are = λ ys. ap joints (append_assoc more (at_spot Equals at ∷ []) ys) ∙ (let e = h.joints_are (at_spot Equals at ∷ ys) in omega (arith, e));
  plain = λ ys p. subst HasPlainTail (sym (append_assoc more (at_spot Equals at ∷ []) ys)) (h.plain (at_spot Equals at ∷ ys) p);
}

in_tail : (left : List Spot) (at j : ℕ) → InPattern left (suc j) j → InTail false (left ++ at_spot Equals at ∷ [])
in_tail left at j h = (j, h.0 ++ at_spot Equals at ∷ [], more_rule left h.0 (at_spot Equals at) h.1, equals_whole h.0 at (suc j) j h.2, h.3)

-- a spot of the tail that adds no comma outside the parentheses of a cost, within which it stands or leads or not
abbrev IsPlain : Bool → Bool → Spot → Type 0
IsPlain before behind z = (ys : List Spot) → ((d : ℕ) → commas (level behind d) ys ≡ 0) → (d : ℕ) → commas (level before d) (z ∷ ys) ≡ 0

more_whole : (a b : Bool) (more : List Spot) (z : Spot) (n j : ℕ) → IsPlain a b z → HasWhole a more n j → HasWhole b (more ++ z ∷ []) n j
more_whole a b more z n j k h = record {
  names_are = λ ys. ap (λ l. length (pattern_in l)) (append_assoc more (z ∷ []) ys) ∙ h.names_are (z ∷ ys);
  joints_are = λ ys. ap joints (append_assoc more (z ∷ []) ys) ∙ h.joints_are (z ∷ ys);
  plain = λ ys p. subst HasPlainTail (sym (append_assoc more (z ∷ []) ys)) (h.plain (z ∷ ys) (k ys p));
}

more_tail : (a b : Bool) (left : List Spot) (z : Spot) → IsPlain a b z → InTail a left → InTail b (left ++ z ∷ [])
more_tail a b left z k h = (h.0, h.1 ++ z ∷ [], more_rule left h.1 z h.2, more_whole a b h.1 z (suc h.0) h.0 k h.3, h.4)

not_zero : (d : ℕ) → eqb (suc d) 0 ≡ false
not_zero d = unequal (suc d) 0 (λ e. omega arith)

plain_open : (at : ℕ) → IsPlain false true (at_spot Open at)
plain_open at ys p d = ap (λ e. commas e ys) (let e : d + 1 ≡ suc d = omega arith in e) ∙ p d

plain_close : (at : ℕ) → IsPlain true false (at_spot Close at)
plain_close at ys p d = ap (λ t. cond t 0 (commas (suc d - 1) ys)) (not_zero d) ∙ ap (λ e. commas e ys) (let e : suc d - 1 ≡ d = omega arith in e) ∙ p d

plain_comma : (at : ℕ) → IsPlain true true (at_spot Comma at)
plain_comma at ys p d = ap (λ t. cond t 1 0 + commas (suc d) ys) (not_zero d) ∙ (let e = p d in omega (arith, e))

plain_integer : (inside : Bool) (n : List ℕ) (at : ℕ) → IsPlain inside inside (at_spot (Integer n) at)
plain_integer inside n at ys p d = p d

plain_semi : (at : ℕ) → IsPlain false false (at_spot Semi at)
plain_semi at ys p d = p d

-- a rule's item
few_names_of : (spots : List Spot) (j : ℕ) → length (pattern_in spots) ≡ suc j → joints spots ≡ j → HasPlainTail spots → suc j ≤ most_names → HasFewNames (pattern_in spots)
few_names_of spots j e f p l = record { some = omega (arith, e); few = omega (arith, e, l); kids = (let k = kids_bounded spots p in omega (arith, e, f, k)) }

rule_few : (left more : List Spot) (z : Spot) (j : ℕ) → InRule left more → length (pattern_in (more ++ z ∷ [])) ≡ suc j → joints (more ++ z ∷ []) ≡ j → HasPlainTail (more ++ z ∷ []) → suc j ≤ most_names
    → HaveFewNames (item_of (left ++ z ∷ []))
rule_few left more z j h e f p l = subst (λ x. HaveFewNames (item_of (x ++ z ∷ []))) (sym h.left_is) (few_names_of (more ++ z ∷ []) j e f p l, tt)

quoted_few : (left : List Spot) (i c : List ℕ) (at j : ℕ) → InPattern left (suc j) j → HaveFewNames (item_of (left ++ at_spot (Quoted i c) at ∷ []))
quoted_few left i c at j h =
    let z = at_spot (Quoted i c) at in
    rule_few left h.0 z j h.1 (let e = h.2.names_are (z ∷ []) in omega (arith, e)) (let e = h.2.joints_are (z ∷ []) in omega (arith, e)) (h.2.plain (z ∷ []) (λ d. refl)) h.3

semi_few : (left : List Spot) (at : ℕ) → InTail false left → HaveFewNames (item_of (left ++ at_spot Semi at ∷ []))
semi_few left at h =
    let z = at_spot Semi at in
    rule_few left h.1 z h.0 h.2 (h.3.names_are (z ∷ [])) (h.3.joints_are (z ∷ [])) (h.3.plain (z ∷ []) (plain_semi at [] (λ d. refl))) h.4

pattern_next : (left : List Spot) (at d : ℕ) (t : Token) (j : ℕ) → InPattern left (suc j) j → Next left t at (after_pattern d t)
pattern_next left at (suc d) Comma j h = goes left Comma at (Wanted (suc d)) refl (suc j, in_pattern left (at_spot Comma at) (suc j) j (suc j) (suc j) 0 1 (omega arith) (omega arith) h.3 (adds_comma at) h)
pattern_next left at (suc d) Close j h = goes left Close at (Closed d) refl (j, in_pattern left (at_spot Close at) (suc j) j (suc j) j 0 0 (omega arith) (omega arith) h.3 (adds_close at) h)
pattern_next left at zero (Quoted i c) j h = few left (Quoted i c) at Ruling refl (quoted_few left i c at j h)
pattern_next left at zero Equals j h = goes left Equals at External refl (in_tail left at j h)
pattern_next left at _ _ j h = tt

declare_next : (at : ℕ) (s t : Bool) (token : Token) → Next [] token at (declare s t token)
declare_next at s t Start = by_cond [] Start at s None (Some Starting) tt (goes [] Start at Starting refl (at, refl))
declare_next at s t Term = few [] Term at (Declaring s true) refl tt
declare_next at s t (Name n) = by_cond [] (Name n) at t (Some (Entering s)) None (goes [] (Name n) at (Entering s) refl (n, at, refl)) tt
declare_next at s t (Code n) = few [] (Code n) at (Declaring s false) refl tt
declare_next at s t Percents = few [] Percents at Ruling refl tt
declare_next at s t _ = tt

-- an item that is no rule
other : (left lefts : List Spot) (t : Token) (at : ℕ) (u : State) → is_border u ≡ true → left ≡ lefts → HaveFewNames (item_of (lefts ++ at_spot t at ∷ [])) → GoesOrIsFew left t at u
other left lefts t at u b h x = few left t at u b (subst (λ l. HaveFewNames (item_of (l ++ at_spot t at ∷ []))) (sym h) x)

-- the token is no name too many
abbrev HasRoom : List Spot → Token → Type 0
HasRoom left t = is_name t ≡ true → pattern_names left ≡ most_names → ⊥

names_so_far : (left : List Spot) (n j : ℕ) → InPattern left n j → pattern_names left ≡ n
names_so_far left n j h =
    ap pattern_names h.1.left_is ∙ sym (ap (λ l. length (names_in l)) (append-nil h.0)) ∙ (let e = h.2.all_names [] in omega (arith, e))

room : (j : ℕ) → j ≤ most_names → (j ≡ most_names → ⊥) → suc j ≤ most_names
room j l h = elim (eq-or-lt_of_le l) [ inl e ↦ absurd (h e) | inr m ↦ omega (arith, m) ]

name_next : (left : List Spot) (n : List ℕ) (at j : ℕ) → HasRoom left (Name n) → InPattern left j j → InPattern (left ++ at_spot (Name n) at ∷ []) (suc j) j
name_next left n at j r h =
    in_pattern left (at_spot (Name n) at) j j (suc j) j 1 0 (omega arith) (omega arith) (room j h.3 (λ e. r refl (names_so_far left j j h ∙ e))) (adds_name n at) h

nothing_yet : HasPattern [] 0 0
nothing_yet = record { all_names = λ ys. omega arith; names_are = λ ys. omega arith; joints_are = λ ys. omega arith; plain = λ ys p. p }

coloned : (at : ℕ) (left : List Spot) → Counted LeftName left → GoesOrIsFew left Colon at (Wanted zero)
coloned at left h =
    goes left Colon at (Wanted zero) refl (0, ([], record { name = h.0; at = h.1; colon = at; left_is = ap (λ l. l ++ at_spot Colon at ∷ []) h.2 }, nothing_yet, omega arith))

step_next : (s : State) (t : Token) (at : ℕ) (left : List Spot) → HasRoom left t → Counted s left → Next left t at (step s t)
step_next (Declaring s t) token at left r h = subst (λ l. Next l token at (declare s t token)) (sym h) (declare_next at s t token)
step_next Starting (Name n) at left r h = other left (at_spot Start h.0 ∷ []) (Name n) at (Declaring true false) refl h.1 tt
step_next (Entering s) Equals at left r h = goes left Equals at (Equating s) refl (h.0, h.1, at, ap (λ l. l ++ at_spot Equals at ∷ []) h.2)
step_next (Equating s) (Integer d) at left r h =
    by_cond left (Integer d) at (is_small d) (Some (Declaring s true)) None (other left (at_spot (Name h.0) h.1 ∷ at_spot Equals h.2 ∷ []) (Integer d) at (Declaring s true) refl h.3 tt) tt
step_next Ruling (Name n) at left r h = goes left (Name n) at LeftName refl (n, at, ap (λ l. l ++ at_spot (Name n) at ∷ []) h)
step_next Ruling Percents at left r h = other left [] Percents at Ended refl h tt
step_next Ruling End at left r h = other left [] End at Ended refl h tt
step_next LeftName Colon at left r h = coloned at left h
step_next (Wanted d) (Name n) at left r h = goes left (Name n) at (Named d) refl (h.0, name_next left n at h.0 r h.1)
step_next (Named d) Open at left r h =
    goes left Open at (Wanted (suc d)) refl (suc h.0, in_pattern left (at_spot Open at) (suc h.0) h.0 (suc h.0) (suc h.0) 0 1 (omega arith) (omega arith) h.1.3 (adds_open at) h.1)
step_next (Named d) t at left r h = pattern_next left at d t h.0 h.1
step_next (Closed d) t at left r h = pattern_next left at d t h.0 h.1
step_next External (Integer e) at left r h = by_cond left (Integer e) at (is_small e) (Some Numbered) None (goes left (Integer e) at Numbered refl (more_tail false false left (at_spot (Integer e) at) (plain_integer false e at) h)) tt
step_next Numbered Open at left r h = goes left Open at Pricing refl (more_tail false true left (at_spot Open at) (plain_open at) h)
step_next Numbered Semi at left r h = few left Semi at Ruling refl (semi_few left at h)
step_next Pricing (Integer c) at left r h = goes left (Integer c) at Priced refl (more_tail true true left (at_spot (Integer c) at) (plain_integer true c at) h)
step_next Priced Close at left r h = goes left Close at Finishing refl (more_tail true false left (at_spot Close at) (plain_close at) h)
step_next Priced Comma at left r h = goes left Comma at Pairing refl (more_tail true true left (at_spot Comma at) (plain_comma at) h)
step_next Pairing (Integer c) at left r h = goes left (Integer c) at Paired refl (more_tail true true left (at_spot (Integer c) at) (plain_integer true c at) h)
step_next Paired Close at left r h = goes left Close at Finishing refl (more_tail true false left (at_spot Close at) (plain_close at) h)
step_next Finishing Semi at left r h = few left Semi at Ruling refl (semi_few left at h)
step_next _ _ at left r h = tt

counted_next : (s u : State) (t : Token) (at : ℕ) (left : List Spot) → HasRoom left t → Counted s left → step s t ≡ Some u → GoesOrIsFew left t at u
counted_next s u t at left r c h = subst (Next left t at) h (step_next s t at left r c)

border_counted : (s : State) → is_border s ≡ true → Counted s []
border_counted (Declaring s t) h = refl
border_counted Ruling h = refl
border_counted Ended h = tt
border_counted _ h = let z : ⊥ = cc in absurd z

-- What is known behind some tokens: of the items, and of what belongs to none yet.
record HasCounted (c : Cutting) (s : State) : Type 0 where
  items : HaveFewNames c.items
  begun : Begun s c.left
  counted : Counted s c.left

both : {X : Type 0} (P : X → Type 0) (xs ys : List X) → AllByRecursion P xs → AllByRecursion P ys → AllByRecursion P (xs ++ ys)
both P [] ys h k = k
both P (x ∷ xs) ys h k = (h.0, both P xs ys h.1 k)

few_more : (xs ys : List Item) → HaveFewNames xs → HaveFewNames ys → HaveFewNames (xs ++ ys)
few_more xs ys h k = subst (AllByRecursion (λ r. HasFewNames r.pattern)) (sym (rules-append xs ys)) (both (λ r. HasFewNames r.pattern) (rules xs) (rules ys) h k)

abbrev cut_by : Bool → Cutting → Spot → Cutting
cut_by b c z = cond b (record { items = c.items ++ item_of (c.left ++ z ∷ []); left = [] }) (record { items = c.items; left = c.left ++ z ∷ [] })

cut_next : (c : Cutting) (s u : State) (t : Token) (at : ℕ) → HasRoom c.left t → step s t ≡ Some u → HasCounted c s → HasCounted (with_spot c (at_spot t at)) u
cut_next c s u t at r e h = by (ends c.left t) refl (is_border u) refl
  where
    z : Spot
    z = at_spot t at

    begins : GoesOrEnds c.left t at u
    begins = begun_next s u t at c.left h.begun e

    counts : GoesOrIsFew c.left t at u
    counts = counted_next s u t at c.left r h.counted e

    by : (b : Bool) → ends c.left t ≡ b → (d : Bool) → is_border u ≡ d → HasCounted (cut_by b c z) u
    by true x true y = record { items = few_more c.items (item_of (c.left ++ z ∷ [])) h.items (counts.1 y); begun = border_begun u y; counted = border_counted u y }
    by true x false y = let w : true ≡ false = sym x ∙ begins.0.1 y in absurd (let v : ⊥ = cc in v)
    by false x false y = record { items = h.items; begun = begins.0.0 y; counted = counts.0 y }
    by false x true y = elim (begins.1 y) [
      | inl v ↦ let w : true ≡ false = sym v ∙ x in absurd (let k : ⊥ = cc in k)
      | inr v ↦ record { items = h.items; begun = subst (λ q. Begun q (c.left ++ z ∷ [])) (sym v.1) tt; counted = subst (λ q. Counted q (c.left ++ z ∷ [])) (sym v.1) tt }
    ]

is_some_name : (t : Token) → is_name t ≡ true → (n : List ℕ) × (t ≡ Name n)
is_some_name (Name n) h = (n, refl)
is_some_name _ h = let z : ⊥ = cc in absurd z

-- no token of the first k has a fault of form
abbrev pub IsWellFormedUpTo : List ℕ → ℕ → Type 0
IsWellFormedUpTo bytes k = (j : ℕ) (f : Fault) → j < k → HasFormFault bytes j f → ⊥

well_formed_before : (bytes : List ℕ) (k : ℕ) → IsWellFormedUpTo bytes (suc k) → IsWellFormedUpTo bytes k
well_formed_before bytes k h j f l x = h j f (omega (arith, l)) x

has_room : (bytes : List ℕ) (k : ℕ) (s : State) → run (tokens (first_spots (suc k) bytes)) begin ≡ Some s → IsWellFormedUpTo bytes (suc k) → HasRoom (cutting k bytes).left (here k bytes).token
has_room bytes k s h w x y =
    let n = is_some_name (here k bytes).token x in
    let g : GoesOn (tokens (first_spots k bytes) ++ (here k bytes).token ∷ []) = subst GoesOn (tokens-snoc k bytes) (goes_on (tokens (first_spots (suc k) bytes)) s h) in
    w k (record { kind = limits.too_many; at = (here k bytes).at }) (omega arith) (name_too_many n.0 n.1 g y)

counted_up_to : (bytes : List ℕ) (k : ℕ) (s : State) → run (tokens (first_spots k bytes)) begin ≡ Some s → IsWellFormedUpTo bytes k → HasCounted (cutting k bytes) s
unfolding cutting
counted_up_to bytes zero s h w = let e : begin ≡ s = cc in subst (λ u. HasCounted (record { items = []; left = [] }) u) e (record { items = tt; begun = refl; counted = refl })
counted_up_to bytes (suc k) s h w =
    from (λ u e. counted_up_to bytes k u e (well_formed_before bytes k w)) (run (tokens (first_spots k bytes)) begin) refl (sym (run-append (tokens (first_spots k bytes)) ((here k bytes).token ∷ []) begin) ∙ sym (ap (λ ts. run ts begin) (tokens-snoc k bytes)) ∙ h)
  where
    gone : (o : Option State) → go (run []) o ≡ o
    gone None = refl
    gone (Some u) = refl

    from : ((u : State) → run (tokens (first_spots k bytes)) begin ≡ Some u → HasCounted (cutting k bytes) u) → (o : Option State) → run (tokens (first_spots k bytes)) begin ≡ o → go (run ((here k bytes).token ∷ [])) o ≡ Some s
        → HasCounted (cutting (suc k) bytes) s
    from before None e g = let z : ⊥ = cc in absurd z
    from before (Some u) e g =
        subst (λ c. HasCounted c s) (sym (cutting-snoc k bytes))
        (cut_next (cutting k bytes) u s (here k bytes).token (here k bytes).at (has_room bytes k s h w) (sym (gone (step u (here k bytes).token)) ∙ g) (before u e))

-- Each rule that ends in the first tokens has few names, where a text goes on with these and none has a fault of form.
pub few_names_so_far : (bytes : List ℕ) (k : ℕ) (s : State) → run (tokens (first_spots k bytes)) begin ≡ Some s → IsWellFormedUpTo bytes k → AllByRecursion (λ r. HasFewNames r.pattern) (rules (cutting k bytes).items)
few_names_so_far bytes k s h w = (counted_up_to bytes k s h w).items

-- An item that ends with the next token is no rule, or has few names.
few_names_of_item : (bytes : List ℕ) (k : ℕ) (s u : State) → run (tokens (first_spots k bytes)) begin ≡ Some s → step s (here k bytes).token ≡ Some u → ends (cutting k bytes).left (here k bytes).token ≡ true
    → IsWellFormedUpTo bytes (suc k) → HaveFewNames (item_of ((cutting k bytes).left ++ (here k bytes ∷ [])))
few_names_of_item bytes k s u h e b w =
    let next : run (tokens (first_spots (suc k) bytes)) begin ≡ Some u = ap (λ ts. run ts begin) (tokens-snoc k bytes) ∙ run_one (tokens (first_spots k bytes)) (here k bytes).token s h ∙ e in
    let c = counted_up_to bytes k s h (well_formed_before bytes k w) in
    (counted_next s u (here k bytes).token (here k bytes).at (cutting k bytes).left (has_room bytes k u next w) c.counted e).1
    (by (is_border u) (λ x. sym b ∙ (begun_next s u (here k bytes).token (here k bytes).at (cutting k bytes).left c.begun e).0.1 x))
  where
    by : (d : Bool) → (d ≡ false → true ≡ false) → d ≡ true
    by true x = refl
    by false x = sym (x refl)

-- the token that ends sound ones has no fault of form either
pub well_formed_behind : (bytes : List ℕ) (n : ℕ) → IsSoundUpTo bytes n → ((f : Fault) → HasFormFault bytes n f → ⊥) → IsWellFormedUpTo bytes (suc n)
unfolding HasFault
well_formed_behind bytes n h w j f l x = elim (eq-or-lt_of_le (let m : j ≤ n = omega (arith, l) in m)) [
  | inl e ↦ w f (subst (λ i. HasFormFault bytes i f) e x)
  | inr m ↦ h.faultless j f m (inl x)
]

-- A rule of the item that ends there has few names.
pub few_names_of_extent : (bytes : List ℕ) (n : ℕ) (left : List ℕ) (e : Extent) (h : HasExtent bytes n left e) → AllByRecursion (λ r. HasFewNames r.pattern) (rules (item_of ((cutting h.last bytes).left ++ (here h.last bytes ∷ []))))
few_names_of_extent bytes n left e h = elim h.ends [
  | inl x ↦ few_names_of_item bytes h.last h.state e.state h.reached h.stepped x (well_formed_behind bytes h.last h.sound h.well_formed)
  | inr x ↦ subst HaveFewNames (sym x.0) tt
]

-- Each rule of a whole text has few names.
pub few_names : (bytes : List ℕ) (n : ℕ) → IsWhole bytes n → AllByRecursion (λ r. HasFewNames r.pattern) (rules (items_of n bytes))
unfolding HasFault
few_names bytes n h = few_names_so_far bytes (suc n) Ended (complete _ h.whole) (well_formed_behind bytes n h.before (λ f x. h.last f (inl x)))
