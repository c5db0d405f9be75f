-- The items that a text of the form is cut into.
use Rattle.std.proofs.Common.{◌≡◌, ℕ, ◌+◌, ◌-◌, ◌<◌, List, [], ◌∷◌, ◌++◌, Some, None, Bool, true, false, length, refl, ap, sym, ◌∙◌, arith, cond, eqb, append_assoc, append-nil, map}
use Rattle.sel_grammar_text.specs.Tokens.{Token, Name, Quoted, Equals, Open, Close, Comma}
use Rattle.sel_grammar_text.specs.Form.{Patterns, no_patterns, pattern, Side, below, beside, pattern_tokens, AmountForm, OneNumber, TwoNumbers, TailForm, OneLineForm, BurgForm, tail_tokens, RuleForm}
use Rattle.sel_grammar_text.specs.Items.{word, AmountText, TailText, OneLine, Burg}
use Rattle.sel_grammar_text.specs.CostText.{cost_in}
use Rattle.sel_grammar_text.proofs.Templates.{unequal}
use Rattle.sel_grammar_text.specs.Spots.{Spot, tokens}
pub use Rattle.sel_grammar_text.specs.SaidForms.{plain_names, kid_count, preorder}
use Rattle.sel_grammar_text.specs.Cutting.{commas, kids_behind, pattern_in, or_no_cost, tail_in, Cutting, with_spot, cut_on}

-- Spots by their places and tokens.
abbrev pub head_of : List ℕ → ℕ
head_of [] = 0
head_of (p ∷ ps) = p

abbrev pub tail_of : List ℕ → List ℕ
tail_of [] = []
tail_of (p ∷ ps) = ps

abbrev pub spots_of : List ℕ → List Token → List Spot
spots_of ps [] = []
spots_of ps (t ∷ ts) = record { token = t; at = head_of ps } ∷ spots_of (tail_of ps) ts

abbrev pub places : List Spot → List ℕ
places spots = map (λ s. s.at) spots

pub spots_so : (spots : List Spot) (ts : List Token) → tokens spots ≡ ts → spots ≡ spots_of (places spots) ts
spots_so spots ts h = by_tokens spots ∙ ap (spots_of (places spots)) h
  where
    by_tokens : (spots : List Spot) → spots ≡ spots_of (places spots) (tokens spots)
    by_tokens [] = refl
    by_tokens (s ∷ spots) = ap (λ x. s ∷ x) (by_tokens spots)

pub cut_on-append : (c : Cutting) (xs ys : List Spot) → cut_on c (xs ++ ys) ≡ cut_on (cut_on c xs) ys
cut_on-append c [] ys = refl
cut_on-append c (x ∷ xs) ys = cut_on-append (with_spot c x) xs ys

-- What a rule says, by its tokens alone.

regroup : (x y z : List Token) → (x ++ (y ++ (Close ∷ []))) ++ z ≡ x ++ (y ++ (Close ∷ z))
regroup x y z = simp append_assoc refl

nothing : (n : ℕ) → 0 + n ≡ n
nothing n = omega arith

abbrev IsDeep : Side → ℕ → Type 0
IsDeep below d = Unit {0}
IsDeep beside d = 0 < d

abbrev pub commas_by : ℕ → List Token → ℕ
commas_by d [] = 0
commas_by d (Open ∷ ts) = commas_by (d + 1) ts
commas_by d (Close ∷ ts) = cond (eqb d 0) 0 (commas_by (d - 1) ts)
commas_by d (Comma ∷ ts) = cond (eqb d 0) 1 0 + commas_by d ts
commas_by d (_ ∷ ts) = commas_by d ts

commas_so : (d : ℕ) (ps : List ℕ) (ts : List Token) → commas d (spots_of ps ts) ≡ commas_by d ts
commas_so d ps [] = refl
commas_so d ps (Open ∷ ts) = commas_so (d + 1) (tail_of ps) ts
commas_so d ps (Close ∷ ts) = ap (cond (eqb d 0) 0) (commas_so (d - 1) (tail_of ps) ts)
commas_so d ps (Comma ∷ ts) = ap (λ n. cond (eqb d 0) 1 0 + n) (commas_so d (tail_of ps) ts)
commas_so d ps (t ∷ ts) = commas_so d (tail_of ps) ts

abbrev pub kids_by : List Token → ℕ
kids_by (Open ∷ ts) = 1 + commas_by 0 ts
kids_by _ = 0

kids_so : (ps : List ℕ) (ts : List Token) → kids_behind (spots_of ps ts) ≡ kids_by ts
kids_so ps [] = refl
kids_so ps (Open ∷ ts) = ap (λ n. 1 + n) (commas_so 0 (tail_of ps) ts)
kids_so ps (t ∷ ts) = refl

abbrev pub pattern_by : List Token → List (List ℕ × ℕ)
pattern_by [] = []
pattern_by (Name n ∷ ts) = (n, kids_by ts) ∷ pattern_by ts
pattern_by (Quoted i b ∷ ts) = []
pattern_by (Equals ∷ ts) = []
pattern_by (_ ∷ ts) = pattern_by ts

pattern_so : (ps : List ℕ) (ts : List Token) → plain_names (pattern_in (spots_of ps ts)) ≡ pattern_by ts
pattern_so ps [] = refl
pattern_so ps (Name n ∷ ts) = ap (λ k. (n, k) ∷ plain_names (pattern_in (spots_of (tail_of ps) ts))) (kids_so (tail_of ps) ts) ∙ ap (λ x. (n, kids_by ts) ∷ x) (pattern_so (tail_of ps) ts)
pattern_so ps (Quoted i b ∷ ts) = refl
pattern_so ps (Equals ∷ ts) = refl
pattern_so ps (t ∷ ts) = pattern_so (tail_of ps) ts

-- Patterns in preorder.
positive : (d : ℕ) → 0 < d → eqb d 0 ≡ false
positive d h = unequal d 0 (λ e. omega arith)

closed_at : (d : ℕ) (ts : List Token) → commas_by (d + 1) (Close ∷ ts) ≡ commas_by d ts
closed_at d ts = ap (λ b. cond b 0 (commas_by (d + 1 - 1) ts)) (positive (d + 1) (omega arith)) ∙ ap (λ e. commas_by e ts) (let e : d + 1 - 1 ≡ d = omega arith in e)

commas_past : (side : Side) (ps : Patterns) (d : ℕ) (ts : List Token) → IsDeep side d → commas_by d (pattern_tokens side ps ++ ts) ≡ commas_by d ts
commas_past below no_patterns d ts h = refl
commas_past beside no_patterns d ts h = refl
commas_past below (pattern n kids more) d ts h =
    ap (commas_by (d + 1)) (regroup (pattern_tokens below kids) (pattern_tokens beside more) ts)
    ∙ commas_past below kids (d + 1) (pattern_tokens beside more ++ (Close ∷ ts)) tt ∙ commas_past beside more (d + 1) (Close ∷ ts) (omega arith) ∙ closed_at d ts
commas_past beside (pattern n kids more) d ts h =
    ap (λ b. cond b 1 0 + commas_by d ((pattern_tokens below kids ++ pattern_tokens beside more) ++ ts)) (positive d h)
    ∙ nothing (commas_by d ((pattern_tokens below kids ++ pattern_tokens beside more) ++ ts)) ∙ ap (commas_by d) (append_assoc (pattern_tokens below kids) (pattern_tokens beside more) ts)
    ∙ commas_past below kids d (pattern_tokens beside more ++ ts) tt ∙ commas_past beside more d ts h

commas_top : (ps : Patterns) (ts : List Token) → commas_by 0 (pattern_tokens beside ps ++ ts) ≡ kid_count ps + commas_by 0 ts
commas_top no_patterns ts = sym (nothing (commas_by 0 ts))
commas_top (pattern n kids more) ts =
    let e : commas_by 0 ((pattern_tokens below kids ++ pattern_tokens beside more) ++ ts) ≡ kid_count more + commas_by 0 ts =
    ap (commas_by 0) (append_assoc (pattern_tokens below kids) (pattern_tokens beside more) ts) ∙ commas_past below kids 0 (pattern_tokens beside more ++ ts) tt ∙ commas_top more ts in
    omega (arith, e)

kids_beside : (ps : Patterns) (ts : List Token) → kids_by ts ≡ 0 → kids_by (pattern_tokens beside ps ++ ts) ≡ 0
kids_beside no_patterns ts h = h
kids_beside (pattern n kids more) ts h = refl

kids_below : (ps : Patterns) (ts : List Token) → kids_by ts ≡ 0 → kids_by (pattern_tokens below ps ++ ts) ≡ kid_count ps
kids_below no_patterns ts h = h
kids_below (pattern n kids more) ts h =
    let e : commas_by 0 ((pattern_tokens below kids ++ (pattern_tokens beside more ++ (Close ∷ []))) ++ ts) ≡ kid_count more + 0 =
    ap (commas_by 0) (regroup (pattern_tokens below kids) (pattern_tokens beside more) ts) ∙ commas_past below kids 0 (pattern_tokens beside more ++ (Close ∷ ts)) tt ∙ commas_top more (Close ∷ ts) in
    omega (arith, e)

pattern_past : (side : Side) (ps : Patterns) (ts : List Token) → kids_by ts ≡ 0 → pattern_by (pattern_tokens side ps ++ ts) ≡ preorder ps ++ pattern_by ts
pattern_past below no_patterns ts h = refl
pattern_past beside no_patterns ts h = refl
pattern_past below (pattern n kids more) ts h =
    let rest = pattern_tokens beside more ++ (Close ∷ ts) in
    let z = kids_beside more (Close ∷ ts) refl in
    ap (λ x. (n, kids_by x) ∷ pattern_by x) (regroup (pattern_tokens below kids) (pattern_tokens beside more) ts)
    ∙ ap (λ k. (n, k) ∷ pattern_by (pattern_tokens below kids ++ rest)) (kids_below kids rest z)
    ∙ ap (λ x. (n, kid_count kids) ∷ x) (pattern_past below kids rest z ∙ ap (λ x. preorder kids ++ x) (pattern_past beside more (Close ∷ ts) refl) ∙ sym (append_assoc (preorder kids) (preorder more) (pattern_by ts)))
pattern_past beside (pattern n kids more) ts h =
    let rest = pattern_tokens beside more ++ ts in
    let z = kids_beside more ts h in
    ap (λ x. (n, kids_by x) ∷ pattern_by x) (append_assoc (pattern_tokens below kids) (pattern_tokens beside more) ts)
    ∙ ap (λ k. (n, k) ∷ pattern_by (pattern_tokens below kids ++ rest)) (kids_below kids rest z)
    ∙ ap (λ x. (n, kid_count kids) ∷ x) (pattern_past below kids rest z ∙ ap (λ x. preorder kids ++ x) (pattern_past beside more ts h) ∙ sym (append_assoc (preorder kids) (preorder more) (pattern_by ts)))

tail_plain : (t : TailForm) → (kids_by (tail_tokens t) ≡ 0) × (pattern_by (tail_tokens t) ≡ [])
tail_plain (OneLineForm i b) = (refl, refl)
tail_plain (BurgForm e None) = (refl, refl)
tail_plain (BurgForm e (Some (OneNumber c))) = (refl, refl)
tail_plain (BurgForm e (Some (TwoNumbers c d))) = (refl, refl)

-- the names of a rule's pattern
pub rule_pattern : (ps : List ℕ) (r : RuleForm) → plain_names (pattern_in (spots_of ps (Name r.root ∷ (pattern_tokens below r.kids ++ tail_tokens r.tail)))) ≡ (r.root, kid_count r.kids) ∷ preorder r.kids
rule_pattern ps r =
    let t = tail_plain r.tail in
    pattern_so ps (Name r.root ∷ (pattern_tokens below r.kids ++ tail_tokens r.tail))
    ∙ ap (λ k. (r.root, k) ∷ pattern_by (pattern_tokens below r.kids ++ tail_tokens r.tail)) (kids_below r.kids (tail_tokens r.tail) t.0)
    ∙ ap (λ x. (r.root, kid_count r.kids) ∷ x) (pattern_past below r.kids (tail_tokens r.tail) t.0 ∙ ap (λ x. preorder r.kids ++ x) t.1 ∙ append-nil (preorder r.kids))

-- Tails.
abbrev pub places_past : List ℕ → List Token → List ℕ
places_past ps [] = ps
places_past ps (t ∷ ts) = places_past (tail_of ps) ts

pub spots-append : (ps : List ℕ) (xs ys : List Token) → spots_of ps (xs ++ ys) ≡ spots_of ps xs ++ spots_of (places_past ps xs) ys
spots-append ps [] ys = refl
spots-append ps (x ∷ xs) ys = ap (λ l. record { token = x; at = head_of ps } ∷ l) (spots-append (tail_of ps) xs ys)

-- what stands in patterns
abbrev is_inner : Token → Bool
is_inner (Name n) = true
is_inner Open = true
is_inner Close = true
is_inner Comma = true
is_inner _ = false

abbrev pub Each : (Token → Bool) → List Token → Type 0
Each p [] = Unit {0}
Each p (t ∷ ts) = (p t ≡ true) × Each p ts

pub each-append : (p : Token → Bool) (xs ys : List Token) → Each p xs → Each p ys → Each p (xs ++ ys)
each-append p [] ys h k = k
each-append p (x ∷ xs) ys h k = (h.0, each-append p xs ys h.1 k)

pub inner_patterns : (p : Token → Bool) → ((n : List ℕ) → p (Name n) ≡ true) → p Open ≡ true → p Close ≡ true → p Comma ≡ true → (side : Side) (ps : Patterns) → Each p (pattern_tokens side ps)
inner_patterns p a b c d below no_patterns = tt
inner_patterns p a b c d beside no_patterns = tt
inner_patterns p a b c d below (pattern n kids more) = (
  b,
  (
    a n,
    each-append p (pattern_tokens below kids) (pattern_tokens beside more ++ (Close ∷ [])) (inner_patterns p a b c d below kids)
        (each-append p (pattern_tokens beside more) (Close ∷ []) (inner_patterns p a b c d beside more) (c, tt)),
  ),
)
inner_patterns p a b c d beside (pattern n kids more) =
    (d, (a n, each-append p (pattern_tokens below kids) (pattern_tokens beside more) (inner_patterns p a b c d below kids) (inner_patterns p a b c d beside more)))

tail_past : (ps : List ℕ) (xs ys : List Token) → Each is_inner xs → tail_in (spots_of ps (xs ++ ys)) ≡ tail_in (spots_of (places_past ps xs) ys)
tail_past ps [] ys h = refl
tail_past ps (Name n ∷ xs) ys h = tail_past (tail_of ps) xs ys h.1
tail_past ps (Open ∷ xs) ys h = tail_past (tail_of ps) xs ys h.1
tail_past ps (Close ∷ xs) ys h = tail_past (tail_of ps) xs ys h.1
tail_past ps (Comma ∷ xs) ys h = tail_past (tail_of ps) xs ys h.1
tail_past ps (x ∷ xs) ys h = let w = h.0 in let z : ⊥ = cc in absurd z

-- the amount of the form that begins at the places
abbrev pub amount_text : List ℕ → AmountForm → AmountText
amount_text ps (OneNumber c) = record { first = word (head_of ps) c; second = None }
amount_text ps (TwoNumbers c d) = record { first = word (head_of ps) c; second = Some (word (head_of (tail_of (tail_of ps))) d) }

-- the tail of the form that begins at the places
abbrev pub tail_text : List ℕ → TailForm → TailText
tail_text ps (OneLineForm inside behind) = OneLine (word (head_of ps + 1) inside) (or_no_cost (cost_in (head_of ps + length inside + 2) behind))
tail_text ps (BurgForm external None) = Burg (word (head_of (tail_of ps)) external) None
tail_text ps (BurgForm external (Some cost)) = Burg (word (head_of (tail_of ps)) external) (Some (amount_text (tail_of (tail_of (tail_of ps))) cost))

tail_so : (ps : List ℕ) (t : TailForm) → tail_in (spots_of ps (tail_tokens t)) ≡ tail_text ps t
tail_so ps (OneLineForm i b) = refl
tail_so ps (BurgForm e None) = refl
tail_so ps (BurgForm e (Some (OneNumber c))) = refl
tail_so ps (BurgForm e (Some (TwoNumbers c d))) = refl

-- where a rule's tail begins, behind its left name and the colon
abbrev pub tail_places : List ℕ → RuleForm → List ℕ
tail_places ps r = places_past ps (Name r.root ∷ pattern_tokens below r.kids)

pub rule_tail : (ps : List ℕ) (r : RuleForm) → tail_in (spots_of ps (Name r.root ∷ (pattern_tokens below r.kids ++ tail_tokens r.tail))) ≡ tail_text (tail_places ps r) r.tail
rule_tail ps r =
    tail_past ps (Name r.root ∷ pattern_tokens below r.kids) (tail_tokens r.tail) (refl, inner_patterns is_inner (λ n. refl) refl refl refl below r.kids) ∙ tail_so (tail_places ps r) r.tail
