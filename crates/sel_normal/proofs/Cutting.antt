-- The normal form is the grammar's rules, cut.
use Rattle.std.proofs.Common.{◌≡◌, ℕ, zero, suc, ◌+◌, ◌<◌, ◌≤◌, ◌⊎◌, inl, inr, List, [], ◌∷◌, ◌++◌, length, refl, ap, subst, sym, ◌∙◌, Option, Some, None, slice_get, arith, add-one, append_assoc, append-nil, length-append}
use Rattle.sel_base.specs.declared.range.Range.{Range}
use Rattle.sel_grammar.specs.declared.grammar.Grammar.{Grammar}
use Rattle.sel_grammar.specs.declared.grammar.Rule.{Rule}
use Rattle.sel_grammar.specs.declared.grammar.Pattern.{Pattern, Leaf, Nullary, Unary', Binary', end_of-Pattern, more_of-Pattern}
use Rattle.sel_grammar.specs.Fits.{rule_at}
use Rattle.sel_grammar.specs.Lawful.{IsPatternOf}
use Rattle.sel_normal.specs.declared.normal.NormalRule.{NormalRule}
use Rattle.sel_normal.specs.NormalForms.{NormalForm, normal_at}
use Rattle.sel_normal.specs.Forms.{parts, inner_parts, places, body, helper_rule, helper_rules, some_range, tests, test_number, cut_rules, IsFormOf}
use Rattle.sel_normal.specs.Seen.{range_at}
use Rattle.sel_normal.specs.Cuts.{HeadAt, BodyAt, IsOperatorPart, CutUser, CutHelper, IsCut}
use Rattle.sel_normal.proofs.Steps.{some_same, some_none}

-- looking into two lists put together
get_front : {A : Type 0} (xs ys : List A) (i : ℕ) (x : A) → slice_get xs i ≡ Some x → slice_get (xs ++ ys) i ≡ Some x
get_front [] ys i x h = absurd (some_none (sym h))
get_front (y ∷ xs) ys zero x h = h
get_front (y ∷ xs) ys (suc i) x h = get_front xs ys i x h

get_behind : {A : Type 0} (xs ys : List A) (i j : ℕ) → i ≡ length xs + j → slice_get (xs ++ ys) i ≡ slice_get ys j
get_behind [] ys i j h = ap (slice_get ys) (let e : i ≡ j = omega arith in e)
get_behind (x ∷ xs) ys zero j h = absurd (omega arith)
get_behind (x ∷ xs) ys (suc i) j h = get_behind xs ys i j (omega arith)

get_split : {A : Type 0} (xs ys : List A) (i : ℕ) (x : A) → slice_get (xs ++ ys) i ≡ Some x → (slice_get xs i ≡ Some x) ⊎ ((j : ℕ) × (i ≡ length xs + j) × (slice_get ys j ≡ Some x))
get_split [] ys i x h = inr (i, omega arith, h)
get_split (y ∷ xs) ys zero x h = inl h
get_split (y ∷ xs) ys (suc i) x h = go (get_split xs ys i x h)
  where
    go : (slice_get xs i ≡ Some x) ⊎ ((j : ℕ) × (i ≡ length xs + j) × (slice_get ys j ≡ Some x)) → (slice_get xs i ≡ Some x) ⊎ ((j : ℕ) × (suc i ≡ suc (length xs) + j) × (slice_get ys j ≡ Some x))
    go (inl k) = inl k
    go (inr (j, e, k)) = inr (j, omega arith, k)

helpers_get : (k : ℕ) (ps : List Pattern) (j : ℕ) (p : Pattern) → slice_get ps j ≡ Some p → slice_get (helper_rules k ps) j ≡ Some (helper_rule (k + j) p)
helpers_get k [] j p h = absurd (some_none (sym h))
helpers_get k (q ∷ ps) zero p h = ap (λ x. Some (helper_rule k x)) (some_same h) ∙ ap (λ x. Some (helper_rule x p)) (let e : k ≡ k + 0 = omega arith in e)
helpers_get k (q ∷ ps) (suc j) p h = helpers_get (k + 1) ps j p h ∙ ap (λ x. Some (helper_rule x p)) (let e : k + 1 + j ≡ k + suc j = omega arith in e)

get_helpers : (k : ℕ) (ps : List Pattern) (j : ℕ) (nr : NormalRule) → slice_get (helper_rules k ps) j ≡ Some nr → (p : Pattern) × (slice_get ps j ≡ Some p)
get_helpers k [] j nr h = absurd (some_none (sym h))
get_helpers k (q ∷ ps) zero nr h = (q, refl)
get_helpers k (q ∷ ps) (suc j) nr h = get_helpers (k + 1) ps j nr h

module _ (g : Grammar) where
  abbrev users : ℕ
  users = length g.nonterminals

  spot : (before after : List Pattern) (p : Pattern) → places g.rules ≡ before ++ (p ∷ after) → slice_get (places g.rules) (length before) ≡ Some p
  spot before after p h = ap (λ l. slice_get l (length before)) h ∙ get_behind before (p ∷ after) (length before) 0 (omega arith)

  head_at : (k : ℕ) (p : Pattern) (before after : List Pattern) → IsPatternOf g p → places g.rules ≡ before ++ (parts p ++ after) → k ≡ users + length before → HeadAt g k p
  head_at k (Leaf n) before after low h e = low
  head_at k (Nullary op) before after low h e = (length before, e, spot before after (Nullary op) h)
  head_at k (Unary' op s (more_of-Pattern p end_of-Pattern)) before after low h e = (length before, e, spot before (parts p ++ after) (Unary' op s (more_of-Pattern p end_of-Pattern)) h)
  head_at k (Binary' op s (more_of-Pattern p end_of-Pattern) s' (more_of-Pattern q end_of-Pattern)) before after low h e =
      (length before, e, spot before ((parts p ++ parts q) ++ after) (Binary' op s (more_of-Pattern p end_of-Pattern) s' (more_of-Pattern q end_of-Pattern)) h)

  body_at : (k : ℕ) (p : Pattern) (before after : List Pattern) → IsPatternOf g p → places g.rules ≡ before ++ (inner_parts p ++ after) → k ≡ users + length before → BodyAt g k p
  body_at k (Leaf n) before after low h e = low
  body_at k (Nullary op) before after low h e = tt
  body_at k (Unary' op s (more_of-Pattern p end_of-Pattern)) before after low h e = head_at k p before after low.1 h e
  body_at k (Binary' op s (more_of-Pattern p end_of-Pattern) s' (more_of-Pattern q end_of-Pattern)) before after low h e = (
    head_at k p before (parts q ++ after) (low.1).0 (h ∙ ap (λ l. before ++ l) (append_assoc (parts p) (parts q) after)) e,
    head_at (k + length (parts p)) q (before ++ parts p) after (low.1).1
        (h ∙ ap (λ l. before ++ l) (append_assoc (parts p) (parts q) after) ∙ sym (append_assoc before (parts p) (parts q ++ after)))
        (omega (arith, length-append before (parts p))),
  )

  -- the user's rules
  user_at : (rules : List Rule) (before : List Pattern) (seen : List Range) (k j : ℕ) → ((i : ℕ) (rule : Rule) → slice_get rules i ≡ Some rule → IsPatternOf g rule.pattern)
      → places g.rules ≡ before ++ places rules → tests g.rules ≡ seen ++ tests rules → k ≡ users + length before → j ≡ length seen
      → (i : ℕ) (rule : Rule) → slice_get rules i ≡ Some rule
      → (nr : NormalRule) × (slice_get (cut_rules k j rules) i ≡ Some nr) × ((number : ℕ) × (test : ℕ) × (nr ≡ record { left = rule.left; cost = rule.cost; body = body number (test_number test rule.range) rule.pattern }) × BodyAt g number rule.pattern × (range_at (tests g.rules) (test_number test rule.range) ≡ rule.range))
  user_at [] before seen k j low h t e f i rule at = absurd (some_none (sym at))
  user_at (r ∷ rules) before seen k j low h t e f zero rule at =
      subst (λ (x : Rule). (nr : NormalRule) × (slice_get (cut_rules k j (r ∷ rules)) 0 ≡ Some nr) × ((number : ℕ) × (test : ℕ) × (nr ≡ record { left = x.left; cost = x.cost; body = body number (test_number test x.range) x.pattern }) × BodyAt g number x.pattern × (range_at (tests g.rules) (test_number test x.range) ≡ x.range))) (some_same at)
      (record { left = r.left; cost = r.cost; body = body k (test_number j r.range) r.pattern }, refl, (k, j, refl, body_at k r.pattern before (places rules) (low 0 r refl) h e, ranged r.range t))
    where
      ranged : (o : Option Range) → tests g.rules ≡ seen ++ (some_range o ++ tests rules) → range_at (tests g.rules) (test_number j o) ≡ o
      ranged None t = refl
      ranged (Some x) t = ap (λ l. slice_get l j) t ∙ get_behind seen (x ∷ tests rules) j 0 (omega arith)
  user_at (r ∷ rules) before seen k j low h t e f (suc i) rule at =
      user_at rules (before ++ inner_parts r.pattern) (seen ++ some_range r.range) (k + length (inner_parts r.pattern)) (j + length (some_range r.range)) (λ i rule at. low (suc i) rule at)
      (h ∙ sym (append_assoc before (inner_parts r.pattern) (places rules))) (t ∙ sym (append_assoc seen (some_range r.range) (tests rules)))
      (omega (arith, length-append before (inner_parts r.pattern))) (omega (arith, length-append seen (some_range r.range))) i rule at

  -- a part's inner parts stand behind it
  pub record Behind (whole : List Pattern) (j : ℕ) (part : Pattern) : Type 0 where
    pub before : List Pattern
    pub after : List Pattern
    pub is : whole ≡ before ++ (inner_parts part ++ after)
    pub long : length before ≡ j + 1
    pub low : IsPatternOf g part
    pub operator : IsOperatorPart part

  behind_cons : (x : Pattern) (xs : List Pattern) (j : ℕ) (part : Pattern) → Behind xs j part → Behind (x ∷ xs) (suc j) part
  behind_cons x xs j part b = record { before = x ∷ b.before; after = b.after; is = ap (λ l. x ∷ l) b.is; long = (let l = b.long in omega arith); low = b.low; operator = b.operator }

  behind_front : (xs ys : List Pattern) (j : ℕ) (part : Pattern) → Behind xs j part → Behind (xs ++ ys) j part
  behind_front xs ys j part b = record {
    before = b.before;
    after = b.after ++ ys;
    is = ap (λ l. l ++ ys) b.is ∙ append_assoc b.before (inner_parts part ++ b.after) ys ∙ ap (λ l. b.before ++ l) (append_assoc (inner_parts part) b.after ys);
    long = b.long;
    low = b.low;
    operator = b.operator;
  }

  behind_back : (xs ys : List Pattern) (i j : ℕ) (part : Pattern) → i ≡ length xs + j → Behind ys j part → Behind (xs ++ ys) i part
  behind_back xs ys i j part e b = record {
    before = xs ++ b.before;
    after = b.after;
    is = ap (λ l. xs ++ l) b.is ∙ sym (append_assoc xs b.before (inner_parts part ++ b.after));
    long = (let l = b.long in omega (arith, length-append xs b.before));
    low = b.low;
    operator = b.operator;
  }

  behind_both : (xs ys : List Pattern) (i : ℕ) (part : Pattern) → slice_get (xs ++ ys) i ≡ Some part → ((j : ℕ) → slice_get xs j ≡ Some part → Behind xs j part) → ((j : ℕ) → slice_get ys j ≡ Some part → Behind ys j part) → Behind (xs ++ ys) i part
  behind_both xs ys i part h f k = go (get_split xs ys i part h)
    where
      go : (slice_get xs i ≡ Some part) ⊎ ((j : ℕ) × (i ≡ length xs + j) × (slice_get ys j ≡ Some part)) → Behind (xs ++ ys) i part
      go (inl l) = behind_front xs ys i part (f i l)
      go (inr (j, e, l)) = behind_back xs ys i j part e (k j l)

  behind_root : (x p : Pattern) (rest : List Pattern) → x ≡ p → rest ≡ inner_parts x → IsPatternOf g x → IsOperatorPart x → Behind (x ∷ rest) 0 p
  behind_root x p rest same h low op =
      subst (λ y. Behind (x ∷ rest) 0 y) same
      (record { before = x ∷ []; after = []; is = ap (λ l. x ∷ l) (h ∙ sym (append-nil (inner_parts x))); long = omega arith; low = low; operator = op })

  behind_parts : (p : Pattern) (j : ℕ) (part : Pattern) → IsPatternOf g p → slice_get (parts p) j ≡ Some part → Behind (parts p) j part
  behind_parts (Leaf n) j part low h = absurd (some_none (sym h))
  behind_parts (Nullary op) zero part low h = behind_root (Nullary op) part [] (some_same h) refl low (λ m e. cc)
  behind_parts (Nullary op) (suc j) part low h = absurd (some_none (sym h))
  behind_parts (Unary' op s (more_of-Pattern p end_of-Pattern)) zero part low h = behind_root (Unary' op s (more_of-Pattern p end_of-Pattern)) part (parts p) (some_same h) refl low (λ m e. cc)
  behind_parts (Unary' op s (more_of-Pattern p end_of-Pattern)) (suc j) part low h = behind_cons (Unary' op s (more_of-Pattern p end_of-Pattern)) (parts p) j part (behind_parts p j part low.1 h)
  behind_parts (Binary' op s (more_of-Pattern p end_of-Pattern) s' (more_of-Pattern q end_of-Pattern)) zero part low h =
      behind_root (Binary' op s (more_of-Pattern p end_of-Pattern) s' (more_of-Pattern q end_of-Pattern)) part (parts p ++ parts q) (some_same h) refl low (λ m e. cc)
  behind_parts (Binary' op s (more_of-Pattern p end_of-Pattern) s' (more_of-Pattern q end_of-Pattern)) (suc j) part low h =
      behind_cons (Binary' op s (more_of-Pattern p end_of-Pattern) s' (more_of-Pattern q end_of-Pattern)) (parts p ++ parts q) j part
      (behind_both (parts p) (parts q) j part h (λ i k. behind_parts p i part (low.1).0 k) (λ i k. behind_parts q i part (low.1).1 k))

  behind_inner : (p : Pattern) (j : ℕ) (part : Pattern) → IsPatternOf g p → slice_get (inner_parts p) j ≡ Some part → Behind (inner_parts p) j part
  behind_inner (Leaf n) j part low h = absurd (some_none (sym h))
  behind_inner (Nullary op) j part low h = absurd (some_none (sym h))
  behind_inner (Unary' op s (more_of-Pattern p end_of-Pattern)) j part low h = behind_parts p j part low.1 h
  behind_inner (Binary' op s (more_of-Pattern p end_of-Pattern) s' (more_of-Pattern q end_of-Pattern)) j part low h =
      behind_both (parts p) (parts q) j part h (λ i k. behind_parts p i part (low.1).0 k) (λ i k. behind_parts q i part (low.1).1 k)

  behind_places : (rules : List Rule) → ((i : ℕ) (rule : Rule) → slice_get rules i ≡ Some rule → IsPatternOf g rule.pattern) → (j : ℕ) (part : Pattern) → slice_get (places rules) j ≡ Some part → Behind (places rules) j part
  behind_places [] low j part h = absurd (some_none (sym h))
  behind_places (rule ∷ rules) low j part h =
      behind_both (inner_parts rule.pattern) (places rules) j part h (λ i k. behind_inner rule.pattern i part (low 0 rule refl) k)
      (λ i k. behind_places rules (λ i r at. low (suc i) r at) i part k)

  pub cut_long : (k j : ℕ) (rules : List Rule) → length (cut_rules k j rules) ≡ length rules
  cut_long k j [] = refl
  cut_long k j (rule ∷ rules) = ap suc (cut_long (k + length (inner_parts rule.pattern)) (j + length (some_range rule.range)) rules)

  rule_of_cut : (k j : ℕ) (rules : List Rule) (i : ℕ) (nr : NormalRule) → slice_get (cut_rules k j rules) i ≡ Some nr → (rule : Rule) × (slice_get rules i ≡ Some rule)
  rule_of_cut k j [] i nr h = absurd (some_none (sym h))
  rule_of_cut k j (rule ∷ rules) zero nr h = (rule, refl)
  rule_of_cut k j (rule ∷ rules) (suc i) nr h = rule_of_cut (k + length (inner_parts rule.pattern)) (j + length (some_range rule.range)) rules i nr h

  module _ (normal : NormalForm) (form : IsFormOf g normal) (low : (i : ℕ) (rule : Rule) → slice_get g.rules i ≡ Some rule → IsPatternOf g rule.pattern) where
    abbrev front : List NormalRule
    front = cut_rules users 0 g.rules

    abbrev back_rules : List NormalRule
    back_rules = helper_rules users (places g.rules)

    user : (r : ℕ) (rule : Rule) → rule_at g r ≡ Some rule → (nr : NormalRule) × (normal_at normal r ≡ Some nr) × CutUser g normal rule nr
    user zero rule at = absurd (some_none (sym at))
    user (suc i) rule at =
        let u = user_at g.rules [] [] users 0 low refl refl (omega arith) refl i rule at in
        let w = u.2 in (
          u.0,
          ap (λ l. slice_get l i) form.rules ∙ get_front front back_rules i u.0 u.1,
          record { number = w.0; test = w.1; is = w.2; below = w.3; range = ap (λ l. range_at l (test_number w.1 rule.range)) form.tests ∙ w.4 },
        )

    helper : (j : ℕ) (part : Pattern) → slice_get (places g.rules) j ≡ Some part → (nr : NormalRule) × (normal_at normal (length g.rules + j + 1) ≡ Some nr) × CutHelper g j part nr
    helper j part there =
        let b = behind_places g.rules low j part there in (
          helper_rule (users + j) part,
          subst (λ x. normal_at normal x ≡ Some (helper_rule (users + j) part)) (sym (add-one (length g.rules + j)))
              (ap (λ l. slice_get l (length g.rules + j)) form.rules
              ∙ get_behind front back_rules (length g.rules + j) j (let l = cut_long users 0 g.rules in omega arith)
              ∙ helpers_get users (places g.rules) j part there),
          record {
            is = refl;
            below = body_at (users + j + 1) part b.before b.after b.low b.is (let l = b.long in omega arith);
            low = b.low;
            operator = b.operator;
          },
        )

    back : (r : ℕ) (nr : NormalRule) → normal_at normal r ≡ Some nr
        → ((rule : Rule) × (rule_at g r ≡ Some rule) × CutUser g normal rule nr)
        ⊎ ((j : ℕ) × (part : Pattern) × (slice_get (places g.rules) j ≡ Some part) × (r ≡ length g.rules + j + 1) × CutHelper g j part nr)
    back zero nr at = absurd (some_none (sym at))
    back (suc i) nr at = go (get_split front back_rules i nr (ap (λ l. slice_get l i) (sym form.rules) ∙ at))
      where
        same_user : (rule : Rule) → (u : (x : NormalRule) × (normal_at normal (suc i) ≡ Some x) × CutUser g normal rule x) → CutUser g normal rule nr
        same_user rule u = subst (λ x. CutUser g normal rule x) (some_same (sym u.1 ∙ at)) u.2

        same_helper : (j : ℕ) (part : Pattern) → suc i ≡ length g.rules + j + 1 → (u : (x : NormalRule) × (normal_at normal (length g.rules + j + 1) ≡ Some x) × CutHelper g j part x) → CutHelper g j part nr
        same_helper j part e u = subst (λ x. CutHelper g j part x) (some_same (sym u.1 ∙ ap (normal_at normal) (sym e) ∙ at)) u.2

        go : (slice_get front i ≡ Some nr) ⊎ ((j : ℕ) × (i ≡ length front + j) × (slice_get back_rules j ≡ Some nr))
            → ((rule : Rule) × (rule_at g (suc i) ≡ Some rule) × CutUser g normal rule nr)
            ⊎ ((j : ℕ) × (part : Pattern) × (slice_get (places g.rules) j ≡ Some part) × (suc i ≡ length g.rules + j + 1) × CutHelper g j part nr)
        go (inl h) = let r = rule_of_cut users 0 g.rules i nr h in inl (r.0, r.1, same_user r.0 (user (suc i) r.0 r.1))
        go (inr (j, e, h)) =
            let p = get_helpers users (places g.rules) j nr h in
            let l = cut_long users 0 g.rules in
            let at : suc i ≡ length g.rules + j + 1 = omega arith in
            inr (j, p.0, p.1, at, same_helper j p.0 at (helper j p.0 p.1))

    pub IsCut-form : IsCut g normal
    IsCut-form = record { user = user; helper = helper; back = back }
