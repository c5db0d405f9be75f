-- How a text of the form is cut, and when no token of it has a fault.
use Rattle.std.proofs.Common.{◌≡◌, ℕ, ◌+◌, ◌≤◌, List, [], ◌∷◌, ◌++◌, Some, None, Bool, true, false, length, refl, ap, sym, ◌∙◌, subst, arith, cond, append_assoc, append-nil, inl, inr, map}
use Rattle.std.specs.List.{flat_map}
use Rattle.std.proofs.Math.Nat.{eq-or-lt_of_le}
use Rattle.sel_grammar.specs.Limits.{most_names}
use Rattle.sel_grammar_text.specs.Tokens.{Token, Name, Integer, Quoted, Start, Term, Percents, Code, Colon, Equals, Open, Close, Comma, Semi, End}
use Rattle.sel_grammar_text.specs.Form.{below, pattern_tokens, DeclarationForm, StartForm, TermForm, CodeForm, entry_tokens, declaration_tokens, OneNumber, TwoNumbers, TailForm, OneLineForm, BurgForm, tail_tokens, RuleForm, rule_tokens}
use Rattle.sel_grammar_text.specs.Items.{word, RuleText, Item, StartItem, EntryItem, CodeItem, PercentsItem, RuleItem}
use Rattle.sel_grammar_text.specs.CostText.{wrong_cost}
use Rattle.sel_grammar_text.specs.FormFaults.{bad_byte, names_in, pattern_names}
use Rattle.sel_grammar_text.specs.Spots.{Spot}
use Rattle.sel_grammar_text.specs.Cutting.{ends, pattern_in, tail_in, item_of, Cutting, with_spot, cut_on}
use Rattle.sel_grammar_text.proofs.FormItems.{head_of, tail_of, spots_of, places_past, spots-append, cut_on-append, Each, each-append, inner_patterns}

-- a token without a fault of form, by what is left before it
pub record FormFine (left : List Spot) (s : Spot) : Type 0 where
  pub names : (n : List ℕ) → s.token ≡ Name n → pattern_names left ≡ most_names → ⊥
  pub quoted : (inside behind : List ℕ) → s.token ≡ Quoted inside behind → (bad_byte (s.at + 1) inside ≡ None) × (wrong_cost (s.at + length inside + 2) behind ≡ None)

abbrev pub AllFine : Cutting → List Spot → Type 0
AllFine c [] = Unit {0}
AllFine c (s ∷ spots) = FormFine c.left s × AllFine (with_spot c s) spots

pub fine-append : (c : Cutting) (xs ys : List Spot) → AllFine c xs → AllFine (cut_on c xs) ys → AllFine c (xs ++ ys)
fine-append c [] ys h k = k
fine-append c (x ∷ xs) ys h k = (h.0, fine-append (with_spot c x) xs ys h.1 k)

pub fine-split : (c : Cutting) (xs ys : List Spot) → AllFine c (xs ++ ys) → AllFine c xs × AllFine (cut_on c xs) ys
fine-split c [] ys h = (tt, h)
fine-split c (x ∷ xs) ys h = let r = fine-split (with_spot c x) xs ys h.1 in ((h.0, r.0), r.1)

-- a token that is neither a name nor a String
abbrev is_mark : Token → Bool
is_mark (Name n) = false
is_mark (Quoted i b) = false
is_mark _ = true

mark_fine : (left : List Spot) (s : Spot) → is_mark s.token ≡ true → FormFine left s
mark_fine left s h = record {
  names = λ n e k. let w : false ≡ true = sym (ap is_mark e) ∙ h in let z : ⊥ = cc in z;
  quoted = λ i b e. let w : false ≡ true = sym (ap is_mark e) ∙ h in absurd (let z : ⊥ = cc in z);
}

abbrev is_name_token : Token → Bool
is_name_token (Name n) = true
is_name_token _ = false

name_fine : (left : List Spot) (at : ℕ) (n : List ℕ) → pattern_names left ≡ 0 → FormFine left (record { token = Name n; at = at })
name_fine left at n h = record {
  names = λ m e k. let w : 0 ≡ most_names = sym h ∙ k in absurd (omega (arith, w));
  quoted = λ i b e. let w : true ≡ false = ap is_name_token e in absurd (let z : ⊥ = cc in z);
}

abbrev colon : ℕ → Spot
colon at = record { token = Colon; at = at }

abbrev named : ℕ → List ℕ → Spot
named at n = record { token = Name n; at = at }

-- neither a String nor a semicolon
abbrev is_quiet : Token → Bool
is_quiet (Quoted i b) = false
is_quiet Semi = false
is_quiet _ = true

quiet_ends : (a : Spot) (at : ℕ) (left : List Spot) (t : Token) → is_quiet t ≡ true → ends (a ∷ colon at ∷ left) t ≡ false
quiet_ends a at [] (Quoted i b) h = cc
quiet_ends a at [] Semi h = cc
quiet_ends a at [] t h = refl
quiet_ends a at (l ∷ left) (Quoted i b) h = cc
quiet_ends a at (l ∷ left) Semi h = cc
quiet_ends a at (l ∷ left) t h = refl

last_ends : (a : Spot) (at : ℕ) (left : List Spot) (t : Token) → is_quiet t ≡ false → ends (a ∷ colon at ∷ left) t ≡ true
last_ends a at [] (Quoted i b) h = refl
last_ends a at [] Semi h = refl
last_ends a at [] t h = cc
last_ends a at (l ∷ left) (Quoted i b) h = refl
last_ends a at (l ∷ left) Semi h = refl
last_ends a at (l ∷ left) t h = cc

module _ (items : List Item) (a : Spot) (at : ℕ) where
  abbrev pub within : List Spot → Cutting
  within left = record { items = items; left = a ∷ colon at ∷ left }

  abbrev stepped : List Spot → Spot → Bool → Cutting
  stepped left s b = cond b (record { items = items ++ item_of ((a ∷ colon at ∷ left) ++ (s ∷ [])); left = [] }) (record { items = items; left = (a ∷ colon at ∷ left) ++ (s ∷ []) })

  pub grow : (left : List Spot) (ps : List ℕ) (ts : List Token) → Each is_quiet ts → cut_on (within left) (spots_of ps ts) ≡ within (left ++ spots_of ps ts)
  grow left ps [] h = ap within (sym (append-nil left))
  grow left ps (t ∷ ts) h =
      let s : Spot = record { token = t; at = head_of ps } in
      ap (λ b. cut_on (stepped left s b) (spots_of (tail_of ps) ts)) (quiet_ends a at left t h.0)
      ∙ grow (left ++ (s ∷ [])) (tail_of ps) ts h.1 ∙ ap within (append_assoc left (s ∷ []) (spots_of (tail_of ps) ts))

  pub finish : (left : List Spot) (s : Spot) → is_quiet s.token ≡ false → with_spot (within left) s ≡ record { items = items ++ item_of (a ∷ colon at ∷ (left ++ (s ∷ []))); left = [] }
  finish left s h = ap (stepped left s) (last_ends a at left s.token h)

-- How many names.
abbrev pub names_by : List Token → ℕ
names_by [] = 0
names_by (Name n ∷ ts) = 1 + names_by ts
names_by (_ ∷ ts) = names_by ts

names_by-cons : (t : Token) (ts : List Token) → names_by (t ∷ ts) ≡ names_by (t ∷ []) + names_by ts
names_by-cons (Name n) ts = omega arith
names_by-cons t ts = omega arith

pub names_by-append : (xs ys : List Token) → names_by (xs ++ ys) ≡ names_by xs + names_by ys
names_by-append [] ys = omega arith
names_by-append (x ∷ xs) ys = omega (arith, names_by-cons x (xs ++ ys), names_by-cons x xs, names_by-append xs ys)

by_token : (t : Token) (at : ℕ) (spots : List Spot) → length (names_in (record { token = t; at = at } ∷ spots)) ≡ names_by (t ∷ []) + length (names_in spots)
by_token (Name n) at spots = omega arith
by_token t at spots = omega arith

names_snoc : (left : List Spot) (s : Spot) → length (names_in (left ++ (s ∷ []))) ≡ length (names_in left) + names_by (s.token ∷ [])
names_snoc [] s = omega (arith, by_token s.token s.at [])
names_snoc (l ∷ left) s = omega (arith, by_token l.token l.at (left ++ (s ∷ [])), by_token l.token l.at left, names_snoc left s)

module _ (items : List Item) (to : ℕ) (n : List ℕ) (at : ℕ) where
  quiet_fine : (left : List Spot) (ps : List ℕ) (t : Token) (ts : List Token) → is_quiet t ≡ true → length (names_in left) + names_by (t ∷ ts) ≤ most_names
      → FormFine (named to n ∷ colon at ∷ left) (record { token = t; at = head_of ps })
  quiet_fine left ps t ts h k = record {
    names = λ m e j.
        let full : length (names_in left) ≡ most_names = j in
        let one : names_by (t ∷ ts) ≡ 1 + names_by ts = ap (λ x. names_by (x ∷ ts)) e in
        absurd (omega (arith, full, one, k));
    quoted = λ i b e. let w : false ≡ true = sym (ap is_quiet e) ∙ h in absurd (let z : ⊥ = cc in z);
  }

  pub fine_grow : (left : List Spot) (ps : List ℕ) (ts : List Token) → Each is_quiet ts → length (names_in left) + names_by ts ≤ most_names → AllFine (within items (named to n) at left) (spots_of ps ts)
  fine_grow left ps [] h k = tt
  fine_grow left ps (t ∷ ts) h k =
      let s : Spot = record { token = t; at = head_of ps } in (
        quiet_fine left ps t ts h.0 k,
        subst (λ b. AllFine (stepped items (named to n) at left s b) (spots_of (tail_of ps) ts)) (sym (quiet_ends (named to n) at left t h.0))
            (fine_grow (left ++ (s ∷ [])) (tail_of ps) ts h.1 (omega (arith, names_snoc left s, names_by-cons t ts, k))),
      )

  one_more_fits : (left : List Spot) (ps : List ℕ) (t : Token) → FormFine (named to n ∷ colon at ∷ left) (record { token = t; at = head_of ps }) → length (names_in left) ≤ most_names
      → length (names_in left) + names_by (t ∷ []) ≤ most_names
  one_more_fits left ps (Name m) f k = elim (eq-or-lt_of_le k) [ inl e ↦ absurd (f.names m refl e) | inr l ↦ omega (arith, l) ]
  one_more_fits left ps t f k = omega (arith, k)

  pub fine_bound : (left : List Spot) (ps : List ℕ) (ts : List Token) → AllFine (within items (named to n) at left) (spots_of ps ts) → Each is_quiet ts → length (names_in left) ≤ most_names
      → length (names_in left) + names_by ts ≤ most_names
  fine_bound left ps [] f h k = omega (arith, k)
  fine_bound left ps (t ∷ ts) f h k =
      let s : Spot = record { token = t; at = head_of ps } in
      let rest : AllFine (within items (named to n) at (left ++ (s ∷ []))) (spots_of (tail_of ps) ts) =
      subst (λ b. AllFine (stepped items (named to n) at left s b) (spots_of (tail_of ps) ts)) (quiet_ends (named to n) at left t h.0) f.1 in
      let one = one_more_fits left ps t f.0 k in
      let r = fine_bound (left ++ (s ∷ [])) (tail_of ps) ts rest h.1 (omega (arith, names_snoc left s, one)) in
      omega (arith, r, names_snoc left s, names_by-cons t ts)

-- Rules.

abbrev tail_front : TailForm → List Token
tail_front (OneLineForm i b) = []
tail_front (BurgForm e None) = Equals ∷ Integer e ∷ []
tail_front (BurgForm e (Some (OneNumber c))) = Equals ∷ Integer e ∷ Open ∷ Integer c ∷ Close ∷ []
tail_front (BurgForm e (Some (TwoNumbers c d))) = Equals ∷ Integer e ∷ Open ∷ Integer c ∷ Comma ∷ Integer d ∷ Close ∷ []

abbrev tail_last : TailForm → Token
tail_last (OneLineForm i b) = Quoted i b
tail_last (BurgForm e c) = Semi

tail_split : (t : TailForm) → tail_tokens t ≡ tail_front t ++ (tail_last t ∷ [])
tail_split (OneLineForm i b) = refl
tail_split (BurgForm e None) = refl
tail_split (BurgForm e (Some (OneNumber c))) = refl
tail_split (BurgForm e (Some (TwoNumbers c d))) = refl

quiet_front : (t : TailForm) → Each is_quiet (tail_front t)
quiet_front (OneLineForm i b) = tt
quiet_front (BurgForm e None) = (refl, (refl, tt))
quiet_front (BurgForm e (Some (OneNumber c))) = (refl, (refl, (refl, (refl, (refl, tt)))))
quiet_front (BurgForm e (Some (TwoNumbers c d))) = (refl, (refl, (refl, (refl, (refl, (refl, (refl, tt)))))))

loud_last : (t : TailForm) → is_quiet (tail_last t) ≡ false
loud_last (OneLineForm i b) = refl
loud_last (BurgForm e c) = refl

no_names : (t : TailForm) → names_by (tail_front t) ≡ 0
no_names (OneLineForm i b) = refl
no_names (BurgForm e None) = refl
no_names (BurgForm e (Some (OneNumber c))) = refl
no_names (BurgForm e (Some (TwoNumbers c d))) = refl

abbrev rule_body : RuleForm → List Token
rule_body r = Name r.root ∷ pattern_tokens below r.kids

abbrev rule_front : RuleForm → List Token
rule_front r = rule_body r ++ tail_front r.tail

rule_split : (r : RuleForm) → rule_tokens r ≡ Name r.left ∷ Colon ∷ (rule_front r ++ (tail_last r.tail ∷ []))
rule_split r =
    ap (λ x. Name r.left ∷ Colon ∷ (rule_body r ++ x)) (tail_split r.tail) ∙ ap (λ x. Name r.left ∷ Colon ∷ x) (sym (append_assoc (rule_body r) (tail_front r.tail) (tail_last r.tail ∷ [])))

quiet_rule : (r : RuleForm) → Each is_quiet (rule_front r)
quiet_rule r = each-append is_quiet (rule_body r) (tail_front r.tail) (refl, inner_patterns is_quiet (λ n. refl) refl refl refl below r.kids) (quiet_front r.tail)

-- the rule that stands at the places
abbrev pub rule_text : List ℕ → RuleForm → RuleText
rule_text ps r = record {
  left = word (head_of ps) r.left;
  pattern = pattern_in (spots_of (tail_of (tail_of ps)) (Name r.root ∷ (pattern_tokens below r.kids ++ tail_tokens r.tail)));
  tail = tail_in (spots_of (tail_of (tail_of ps)) (Name r.root ∷ (pattern_tokens below r.kids ++ tail_tokens r.tail)));
}

abbrev pub fresh : List Item → Cutting
fresh items = record { items = items; left = [] }

abbrev behind_colon : List ℕ → RuleForm → List Token
behind_colon ps r = rule_front r ++ (tail_last r.tail ∷ [])

rule_steps : (items : List Item) (ps : List ℕ) (r : RuleForm) → cut_on (within items (named (head_of ps) r.left) (head_of (tail_of ps)) []) (spots_of (tail_of (tail_of ps)) (behind_colon ps r))
    ≡ fresh (items ++ item_of (named (head_of ps) r.left ∷ colon (head_of (tail_of ps)) ∷ spots_of (tail_of (tail_of ps)) (behind_colon ps r)))
rule_steps items ps r =
    let a = named (head_of ps) r.left in let at = head_of (tail_of ps) in let qs = tail_of (tail_of ps) in
    let front = spots_of qs (rule_front r) in
    let last : Spot = record { token = tail_last r.tail; at = head_of (places_past qs (rule_front r)) } in
    let e : spots_of qs (behind_colon ps r) ≡ front ++ (last ∷ []) = spots-append qs (rule_front r) (tail_last r.tail ∷ []) in
    ap (cut_on (within items a at [])) e ∙ cut_on-append (within items a at []) front (last ∷ []) ∙ ap (λ c. with_spot c last) (grow items a at [] qs (rule_front r) (quiet_rule r))
    ∙ finish items a at front last (loud_last r.tail) ∙ ap (λ x. fresh (items ++ item_of (a ∷ colon at ∷ x))) (sym e)

pub rule_cut : (items : List Item) (ps : List ℕ) (r : RuleForm) → cut_on (fresh items) (spots_of ps (rule_tokens r)) ≡ fresh (items ++ (RuleItem (rule_text ps r) ∷ []))
rule_cut items ps r =
    ap (λ ts. cut_on (fresh items) (spots_of ps ts)) (rule_split r) ∙ rule_steps items ps r
    ∙ ap (λ ts. fresh (items ++ item_of (spots_of ps ts))) (sym (rule_split r))

-- what its last token must keep
abbrev pub LastFine : ℕ → TailForm → Type 0
LastFine p (OneLineForm i b) = (bad_byte (p + 1) i ≡ None) × (wrong_cost (p + length i + 2) b ≡ None)
LastFine p (BurgForm e c) = Unit {0}

abbrev pub NamesFit : RuleForm → Type 0
NamesFit r = names_by (rule_body r) ≤ most_names

abbrev is_semi : Token → Bool
is_semi Semi = true
is_semi _ = false

last_fine : (left : List Spot) (p : ℕ) (t : TailForm) → LastFine p t → FormFine left (record { token = tail_last t; at = p })
last_fine left p (OneLineForm i b) h = record {
  names = λ n e k. let w : false ≡ true = ap is_name_token e in let z : ⊥ = cc in z;
  quoted = λ j c e.
      let x : i ≡ j = cc in let y : b ≡ c = cc in
      (subst (λ l. bad_byte (p + 1) l ≡ None) x h.0, subst (λ l. wrong_cost (p + length l + 2) c ≡ None) x (subst (λ l. wrong_cost (p + length i + 2) l ≡ None) y h.1));
}
last_fine left p (BurgForm e c) h = mark_fine left (record { token = Semi; at = p }) refl

fine_last : (left : List Spot) (p : ℕ) (t : TailForm) → FormFine left (record { token = tail_last t; at = p }) → LastFine p t
fine_last left p (OneLineForm i b) f = f.quoted i b refl
fine_last left p (BurgForm e c) f = tt

front_names : (r : RuleForm) → names_by (rule_front r) ≡ names_by (rule_body r)
front_names r = let e = names_by-append (rule_body r) (tail_front r.tail) in let z = no_names r.tail in omega (arith, e, z)

pub rule_fine : (items : List Item) (ps : List ℕ) (r : RuleForm) → NamesFit r → ((p : ℕ) → LastFine p r.tail) → AllFine (fresh items) (spots_of ps (rule_tokens r))
rule_fine items ps r h k =
    let a = named (head_of ps) r.left in let at = head_of (tail_of ps) in let qs = tail_of (tail_of ps) in
    let front = spots_of qs (rule_front r) in
    let p = head_of (places_past qs (rule_front r)) in
    let last : Spot = record { token = tail_last r.tail; at = p } in
    let fits : 0 + names_by (rule_front r) ≤ most_names = omega (arith, front_names r, h) in
    let rest : AllFine (within items a at []) (front ++ (last ∷ [])) =
    fine-append (within items a at []) front (last ∷ []) (fine_grow items (head_of ps) r.left at [] qs (rule_front r) (quiet_rule r) fits)
    (last_fine (cut_on (within items a at []) front).left p r.tail (k p), tt) in
    subst (λ ts. AllFine (fresh items) (spots_of ps ts)) (sym (rule_split r)) (
      name_fine [] (head_of ps) r.left refl,
      (
        mark_fine (a ∷ []) (colon at) refl,
        subst (AllFine (within items a at [])) (sym (spots-append qs (rule_front r) (tail_last r.tail ∷ []))) rest,
      ),
    )

pub fine_rule : (items : List Item) (ps : List ℕ) (r : RuleForm) → AllFine (fresh items) (spots_of ps (rule_tokens r)) → NamesFit r × ((p : ℕ) × LastFine p r.tail)
fine_rule items ps r f =
    let a = named (head_of ps) r.left in let at = head_of (tail_of ps) in let qs = tail_of (tail_of ps) in
    let front = spots_of qs (rule_front r) in
    let p = head_of (places_past qs (rule_front r)) in
    let last : Spot = record { token = tail_last r.tail; at = p } in
    let g = subst (λ ts. AllFine (fresh items) (spots_of ps ts)) (rule_split r) f in
    let rest : AllFine (within items a at []) (front ++ (last ∷ [])) = subst (AllFine (within items a at [])) (spots-append qs (rule_front r) (tail_last r.tail ∷ [])) g.1.1 in
    let both = fine-split (within items a at []) front (last ∷ []) rest in
    let bound = fine_bound items (head_of ps) r.left at [] qs (rule_front r) both.0 (quiet_rule r) (omega arith) in
    (omega (arith, bound, front_names r), (p, fine_last (cut_on (within items a at []) front).left p r.tail both.1.0))

abbrev pub rule_texts : List ℕ → List RuleForm → List RuleText
rule_texts ps [] = []
rule_texts ps (r ∷ rs) = rule_text ps r ∷ rule_texts (places_past ps (rule_tokens r)) rs

abbrev pub rule_items : List RuleText → List Item
rule_items texts = map RuleItem texts

pub rules_cut : (items : List Item) (ps : List ℕ) (rs : List RuleForm) → cut_on (fresh items) (spots_of ps (flat_map rule_tokens rs)) ≡ fresh (items ++ rule_items (rule_texts ps rs))
rules_cut items ps [] = ap fresh (sym (append-nil items))
rules_cut items ps (r ∷ rs) =
    let qs = places_past ps (rule_tokens r) in
    ap (cut_on (fresh items)) (spots-append ps (rule_tokens r) (flat_map rule_tokens rs)) ∙ cut_on-append (fresh items) (spots_of ps (rule_tokens r)) (spots_of qs (flat_map rule_tokens rs))
    ∙ ap (λ c. cut_on c (spots_of qs (flat_map rule_tokens rs))) (rule_cut items ps r) ∙ rules_cut (items ++ (RuleItem (rule_text ps r) ∷ [])) qs rs
    ∙ ap fresh (append_assoc items (RuleItem (rule_text ps r) ∷ []) (rule_items (rule_texts qs rs)))

abbrev pub RulesFit : List RuleForm → Type 0
RulesFit [] = Unit {0}
RulesFit (r ∷ rs) = (NamesFit r × ((p : ℕ) → LastFine p r.tail)) × RulesFit rs

pub rules_fine : (items : List Item) (ps : List ℕ) (rs : List RuleForm) → RulesFit rs → AllFine (fresh items) (spots_of ps (flat_map rule_tokens rs))
rules_fine items ps [] h = tt
rules_fine items ps (r ∷ rs) h =
    let qs = places_past ps (rule_tokens r) in
    subst (AllFine (fresh items)) (sym (spots-append ps (rule_tokens r) (flat_map rule_tokens rs)))
    (fine-append (fresh items) (spots_of ps (rule_tokens r)) (spots_of qs (flat_map rule_tokens rs)) (rule_fine items ps r h.0.0 h.0.1)
    (subst (λ c. AllFine c (spots_of qs (flat_map rule_tokens rs))) (sym (rule_cut items ps r)) (rules_fine (items ++ (RuleItem (rule_text ps r) ∷ [])) qs rs h.1)))

abbrev pub RulesFitted : List RuleForm → Type 0
RulesFitted [] = Unit {0}
RulesFitted (r ∷ rs) = (NamesFit r × ((p : ℕ) × LastFine p r.tail)) × RulesFitted rs

pub fine_rules : (items : List Item) (ps : List ℕ) (rs : List RuleForm) → AllFine (fresh items) (spots_of ps (flat_map rule_tokens rs)) → RulesFitted rs
fine_rules items ps [] f = tt
fine_rules items ps (r ∷ rs) f =
    let qs = places_past ps (rule_tokens r) in
    let both = fine-split (fresh items) (spots_of ps (rule_tokens r)) (spots_of qs (flat_map rule_tokens rs)) (subst (AllFine (fresh items)) (spots-append ps (rule_tokens r) (flat_map rule_tokens rs)) f) in
    (fine_rule items ps r both.0, fine_rules (items ++ (RuleItem (rule_text ps r) ∷ [])) qs rs (subst (λ c. AllFine c (spots_of qs (flat_map rule_tokens rs))) (rule_cut items ps r) both.1))

-- Declarations.

abbrev pub entry_items : List ℕ → List (List ℕ × List ℕ) → List Item
entry_items ps [] = []
entry_items ps (e ∷ es) = EntryItem (word (head_of ps) e.0) (word (head_of (tail_of (tail_of ps))) e.1) ∷ entry_items (tail_of (tail_of (tail_of ps))) es

entries_cut : (items : List Item) (ps : List ℕ) (es : List (List ℕ × List ℕ)) → cut_on (fresh items) (spots_of ps (entry_tokens es)) ≡ fresh (items ++ entry_items ps es)
entries_cut items ps [] = ap fresh (sym (append-nil items))
entries_cut items ps (e ∷ es) =
    let item = EntryItem (word (head_of ps) e.0) (word (head_of (tail_of (tail_of ps))) e.1) in
    entries_cut (items ++ (item ∷ [])) (tail_of (tail_of (tail_of ps))) es ∙ ap fresh (append_assoc items (item ∷ []) (entry_items (tail_of (tail_of (tail_of ps))) es))

entries_fine : (items : List Item) (ps : List ℕ) (es : List (List ℕ × List ℕ)) → AllFine (fresh items) (spots_of ps (entry_tokens es))
entries_fine items ps [] = tt
entries_fine items ps (e ∷ es) = (
  name_fine [] (head_of ps) e.0 refl,
  (
    mark_fine _ (record { token = Equals; at = head_of (tail_of ps) }) refl,
    (
      mark_fine _ (record { token = Integer e.1; at = head_of (tail_of (tail_of ps)) }) refl,
      entries_fine (items ++ (EntryItem (word (head_of ps) e.0) (word (head_of (tail_of (tail_of ps))) e.1) ∷ [])) (tail_of (tail_of (tail_of ps))) es,
    ),
  ),
)

abbrev pub declaration_items : List ℕ → DeclarationForm → List Item
declaration_items ps (StartForm n) = StartItem (word (head_of (tail_of ps)) n) ∷ []
declaration_items ps (TermForm es) = entry_items (tail_of ps) es
declaration_items ps (CodeForm n) = CodeItem ∷ []

declaration_cut : (items : List Item) (ps : List ℕ) (d : DeclarationForm) → cut_on (fresh items) (spots_of ps (declaration_tokens d)) ≡ fresh (items ++ declaration_items ps d)
declaration_cut items ps (StartForm n) = refl
declaration_cut items ps (TermForm es) = ap (λ x. cut_on (fresh x) (spots_of (tail_of ps) (entry_tokens es))) (append-nil items) ∙ entries_cut items (tail_of ps) es
declaration_cut items ps (CodeForm n) = refl

declaration_fine : (items : List Item) (ps : List ℕ) (d : DeclarationForm) → AllFine (fresh items) (spots_of ps (declaration_tokens d))
declaration_fine items ps (StartForm n) = (mark_fine _ (record { token = Start; at = head_of ps }) refl, (name_fine (record { token = Start; at = head_of ps } ∷ []) (head_of (tail_of ps)) n refl, tt))
declaration_fine items ps (TermForm es) = (mark_fine _ (record { token = Term; at = head_of ps }) refl, entries_fine (items ++ []) (tail_of ps) es)
declaration_fine items ps (CodeForm n) = (mark_fine _ (record { token = Code n; at = head_of ps }) refl, tt)

abbrev pub declarations_items : List ℕ → List DeclarationForm → List Item
declarations_items ps [] = []
declarations_items ps (d ∷ ds) = declaration_items ps d ++ declarations_items (places_past ps (declaration_tokens d)) ds

pub declarations_cut : (items : List Item) (ps : List ℕ) (ds : List DeclarationForm) → cut_on (fresh items) (spots_of ps (flat_map declaration_tokens ds)) ≡ fresh (items ++ declarations_items ps ds)
declarations_cut items ps [] = ap fresh (sym (append-nil items))
declarations_cut items ps (d ∷ ds) =
    let qs = places_past ps (declaration_tokens d) in
    ap (cut_on (fresh items)) (spots-append ps (declaration_tokens d) (flat_map declaration_tokens ds)) ∙ cut_on-append (fresh items) (spots_of ps (declaration_tokens d)) (spots_of qs (flat_map declaration_tokens ds))
    ∙ ap (λ c. cut_on c (spots_of qs (flat_map declaration_tokens ds))) (declaration_cut items ps d) ∙ declarations_cut (items ++ declaration_items ps d) qs ds
    ∙ ap fresh (append_assoc items (declaration_items ps d) (declarations_items qs ds))

pub declarations_fine : (items : List Item) (ps : List ℕ) (ds : List DeclarationForm) → AllFine (fresh items) (spots_of ps (flat_map declaration_tokens ds))
declarations_fine items ps [] = tt
declarations_fine items ps (d ∷ ds) =
    let qs = places_past ps (declaration_tokens d) in
    subst (AllFine (fresh items)) (sym (spots-append ps (declaration_tokens d) (flat_map declaration_tokens ds)))
    (fine-append (fresh items) (spots_of ps (declaration_tokens d)) (spots_of qs (flat_map declaration_tokens ds)) (declaration_fine items ps d)
    (subst (λ c. AllFine c (spots_of qs (flat_map declaration_tokens ds))) (sym (declaration_cut items ps d)) (declarations_fine (items ++ declaration_items ps d) qs ds)))

-- A whole text.

abbrev pub text_tokens : List DeclarationForm → List RuleForm → Token → List Token
text_tokens ds rs last = flat_map declaration_tokens ds ++ (Percents ∷ (flat_map rule_tokens rs ++ (last ∷ [])))

-- where its rules begin
abbrev pub rule_places : List ℕ → List DeclarationForm → List ℕ
rule_places ps ds = tail_of (places_past ps (flat_map declaration_tokens ds))

-- what stands before its rules
abbrev pub head_items : List ℕ → List DeclarationForm → List Item
head_items ps ds = declarations_items ps ds ++ (PercentsItem (head_of (places_past ps (flat_map declaration_tokens ds))) ∷ [])

abbrev pub last_spot : List ℕ → List DeclarationForm → List RuleForm → Token → Spot
last_spot ps ds rs last = record { token = last; at = head_of (places_past (rule_places ps ds) (flat_map rule_tokens rs)) }

pub text_cut : (ps : List ℕ) (ds : List DeclarationForm) (rs : List RuleForm) (last : Token)
    → cut_on (fresh []) (spots_of ps (text_tokens ds rs last)) ≡ with_spot (fresh (head_items ps ds ++ rule_items (rule_texts (rule_places ps ds) rs))) (last_spot ps ds rs last)
text_cut ps ds rs last =
    let qs = places_past ps (flat_map declaration_tokens ds) in let rules = flat_map rule_tokens rs in
    ap (cut_on (fresh [])) (spots-append ps (flat_map declaration_tokens ds) (Percents ∷ (rules ++ (last ∷ []))))
    ∙ cut_on-append (fresh []) (spots_of ps (flat_map declaration_tokens ds)) (spots_of qs (Percents ∷ (rules ++ (last ∷ []))))
    ∙ ap (λ c. cut_on c (spots_of qs (Percents ∷ (rules ++ (last ∷ []))))) (declarations_cut [] ps ds)
    ∙ ap (cut_on (fresh (head_items ps ds))) (spots-append (tail_of qs) rules (last ∷ []))
    ∙ cut_on-append (fresh (head_items ps ds)) (spots_of (tail_of qs) rules) (last_spot ps ds rs last ∷ [])
    ∙ ap (λ c. with_spot c (last_spot ps ds rs last)) (rules_cut (head_items ps ds) (tail_of qs) rs)

pub text_fine : (ps : List ℕ) (ds : List DeclarationForm) (rs : List RuleForm) → RulesFit rs → AllFine (fresh []) (spots_of ps (text_tokens ds rs End))
text_fine ps ds rs h =
    let qs = places_past ps (flat_map declaration_tokens ds) in let rules = flat_map rule_tokens rs in
    subst (AllFine (fresh [])) (sym (spots-append ps (flat_map declaration_tokens ds) (Percents ∷ (rules ++ (End ∷ [])))))
    (fine-append (fresh []) (spots_of ps (flat_map declaration_tokens ds)) (spots_of qs (Percents ∷ (rules ++ (End ∷ [])))) (declarations_fine [] ps ds)
    (subst (λ c. AllFine c (spots_of qs (Percents ∷ (rules ++ (End ∷ []))))) (sym (declarations_cut [] ps ds)) (
      mark_fine [] (record { token = Percents; at = head_of qs }) refl,
      subst (AllFine (fresh (head_items ps ds))) (sym (spots-append (tail_of qs) rules (End ∷ [])))
          (fine-append (fresh (head_items ps ds)) (spots_of (tail_of qs) rules) (last_spot ps ds rs End ∷ []) (rules_fine (head_items ps ds) (tail_of qs) rs h)
          (mark_fine _ (last_spot ps ds rs End) refl, tt)),
    )))

pub fine_text : (ps : List ℕ) (ds : List DeclarationForm) (rs : List RuleForm) (last : Token) → AllFine (fresh []) (spots_of ps (text_tokens ds rs last)) → RulesFitted rs
fine_text ps ds rs last f =
    let qs = places_past ps (flat_map declaration_tokens ds) in let rules = flat_map rule_tokens rs in
    let one = fine-split (fresh []) (spots_of ps (flat_map declaration_tokens ds)) (spots_of qs (Percents ∷ (rules ++ (last ∷ []))))
    (subst (AllFine (fresh [])) (spots-append ps (flat_map declaration_tokens ds) (Percents ∷ (rules ++ (last ∷ [])))) f) in
    let two = subst (λ c. AllFine c (spots_of qs (Percents ∷ (rules ++ (last ∷ []))))) (declarations_cut [] ps ds) one.1 in
    fine_rules (head_items ps ds) (tail_of qs) rs
    (fine-split (fresh (head_items ps ds)) (spots_of (tail_of qs) rules) (last_spot ps ds rs last ∷ []) (subst (AllFine (fresh (head_items ps ds))) (spots-append (tail_of qs) rules (last ∷ [])) two.1)).0
