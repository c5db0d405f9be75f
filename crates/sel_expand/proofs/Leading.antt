-- Frame by frame the sheet comes to show what is to be printed.
use Rattle.std.proofs.Common.{◌≡◌, ℕ, zero, suc, ◌+◌, ◌-◌, ◌*◌, ◌^◌, ◌<◌, ◌≤◌, ◌⊎◌, inl, inr, Bool, true, false, Option, Some, None, List, [], ◌∷◌, ◌++◌, refl, ap, sym, ◌∙◌, subst, append_assoc, length, drop, slice_get, slice_set, arith, length-append, map, reverse, add-one}
use Rattle.std.specs.List.{sum_by}
use Rattle.std.proofs.lemmas.List.{reverse-append}
use Rattle.std.proofs.lemmas.List.Sums.{sum_by_push, sum_by-cons}
use Rattle.std.proofs.Math.Nat.{mul-le-mul_left, pow-le-pow_right, one-le-pow, pow-suc}
use Rattle.sel_grammar.specs.declared.grammar.Grammar.{Grammar}
use Rattle.sel_grammar.specs.declared.grammar.Part.{Part}
use Rattle.sel_grammar.specs.Expansions.{Text, filled}
use Rattle.sel_forest.specs.declared.forest.Node.{Node}
use Rattle.sel_forest.proofs.Matching.{some_same, some_none}
use Rattle.sel_forest.proofs.PlaceLemmas.{append-none}
use Rattle.sel_expand.specs.declared.printing.Frame.{Frame}
use Rattle.sel_expand.specs.declared.printing.Frame.TheVariants.{Fill, Note}
use Rattle.sel_expand.specs.declared.sheet.Span.{Span}
use Rattle.sel_expand.specs.declared.templates.Kind.TheVariants.{Fragment}
use Rattle.sel_expand.specs.Reductions.{Reduced}
use Rattle.sel_expand.specs.Running.{attribute_at, parts_at}
use Rattle.sel_expand.specs.Sheets.{shown, IsCut, IsEnded}
use Rattle.sel_expand.specs.Values.{text_at, filled_at, value_by, AreTexts}
use Rattle.sel_expand.specs.Printing.{flat, IsSpan, SpansHold, rest_of, from, Leads, IsKidOf, Puts, printed, postponed, part_wanted, FillsTo, Fills, ended, left, filled_up, IsDone, base, parts_or_none, weight, work}
use Rattle.sel_expand.proofs.Sheets.{shown-append, shown-none}
use Rattle.sel_expand.proofs.Slotted.{range_grow, range_end}

pub spans_grow : (b : Bool) (texts : List Text) (spans : List (Option Span)) (out more : Text) → SpansHold b texts spans out → SpansHold b texts spans (out ++ more)
spans_grow b texts spans out more h i span e =
    let s = h i span e in
    record { order = s.order; inside = omega (arith, s.inside, length-append out more); holds = range_grow out more span.start span.end s.order s.inside ∙ s.holds }

get-set : {A : Type 0} (xs : List A) (k i : ℕ) (v w : A) → slice_get (slice_set xs k v) i ≡ Some w → ((i ≡ k) × (v ≡ w)) ⊎ (slice_get xs i ≡ Some w)
get-set [] k i v w h = inr h
get-set (x ∷ xs) zero zero v w h = inl (refl, some_same h)
get-set (x ∷ xs) zero (suc i) v w h = inr h
get-set (x ∷ xs) (suc k) zero v w h = inr h
get-set (x ∷ xs) (suc k) (suc i) v w h = go (get-set xs k i v w h)
  where
    go : ((i ≡ k) × (v ≡ w)) ⊎ (slice_get xs i ≡ Some w) → ((suc i ≡ suc k) × (v ≡ w)) ⊎ (slice_get xs i ≡ Some w)
    go (inl e) = inl (ap suc e.0, e.1)
    go (inr e) = inr e

flat_some : {A : Type 0} (o : Option (Option A)) (x : A) → flat o ≡ Some x → o ≡ Some (Some x)
flat_some None x h = absurd (some_none (sym h))
flat_some (Some o) x h = ap Some h

pub spans_noted : (b : Bool) (texts : List Text) (spans : List (Option Span)) (out : Text) (i start : ℕ) (span : Span) → span ≡ record { start = start; end = length out } → IsSpan b texts out i start (length out) → SpansHold b texts spans out
    → SpansHold b texts (slice_set spans i (Some span)) out
spans_noted b texts spans out i start span is here h j other e = go (get-set spans i j (Some span) (Some other) (flat_some (slice_get (slice_set spans i (Some span)) j) other e))
  where
    go : ((j ≡ i) × (Some span ≡ Some other)) ⊎ (slice_get spans j ≡ Some (Some other)) → IsSpan b texts out j other.start other.end
    go (inl (q, p)) =
        let same : record { start = start; end = length out } ≡ other = sym is ∙ some_same p in
        subst (λ (x : Span). IsSpan b texts out j x.start x.end) same (subst (λ x. IsSpan b texts out x start (length out)) (sym q) here)
    go (inr q) = h j other (ap flat q)

pub no_spans : (b : Bool) (texts : List Text) (spans : List (Option Span)) (out : Text) → ((i : ℕ) → flat (slice_get spans i) ≡ None) → SpansHold b texts spans out
no_spans b texts spans out h i span e = absurd (some_none (sym e ∙ h i))

not_both : (b : Bool) → b ≡ true → b ≡ false → ⊥
not_both true h k = cc
not_both false h k = cc

-- the parts of a list from a place on
drop_some : {A : Type 0} (xs : List A) (p : ℕ) (x : A) → slice_get xs p ≡ Some x → drop p xs ≡ x ∷ drop (suc p) xs
drop_some [] p x h = absurd (some_none (sym h))
drop_some (y ∷ xs) zero x h = ap (λ z. z ∷ xs) (some_same h)
drop_some (y ∷ xs) (suc p) x h = drop_some xs p x h

pub drop_none : {A : Type 0} (xs : List A) (p : ℕ) → slice_get xs p ≡ None → drop p xs ≡ []
drop_none [] zero h = refl
drop_none [] (suc p) h = refl
drop_none (y ∷ xs) zero h = cc
drop_none (y ∷ xs) (suc p) h = drop_none xs p h

pub get_within : {A : Type 0} (xs : List A) (p : ℕ) (x : A) → slice_get xs p ≡ Some x → p < length xs
get_within [] p x h = absurd (some_none (sym h))
get_within (y ∷ xs) zero x h = omega arith
get_within (y ∷ xs) (suc p) x h = let k = get_within xs p x h in omega arith

-- no template has more parts than all together
one_of_all : (g : Grammar) (rs : List Reduced) (j : ℕ) (r : Reduced) → slice_get rs j ≡ Some r → length (parts_at g r.own.rule) ≤ sum_by (λ (x : Reduced). length (parts_at g x.own.rule)) rs
one_of_all g [] j r h = absurd (some_none (sym h))
one_of_all g (x ∷ rs) zero r h = let q : length (parts_at g x.own.rule) ≡ length (parts_at g r.own.rule) = ap (λ (y : Reduced). length (parts_at g y.own.rule)) (some_same h) in
    omega (arith, sum_by-cons (λ (y : Reduced). length (parts_at g y.own.rule)) x rs)
one_of_all g (x ∷ rs) (suc j) r h = let q = one_of_all g rs j r h in omega (arith, sum_by-cons (λ (y : Reduced). length (parts_at g y.own.rule)) x rs)

-- a kid's template is lighter than a part of its parent's
lighter : (b n i j : ℕ) → n + 3 ≤ b → j < i → b ^ j * (1 + n) + 1 < b ^ i
lighter b n i j h lt =
    let some : 1 ≤ b ^ j = one-le-pow j b (omega arith) in
    let up : b ^ suc j ≤ b ^ i = pow-le-pow_right {n = b} (omega arith) {i = suc j} {j = i} (omega arith) in
    let one : b ^ suc j ≡ b ^ j * b = pow-suc b j in
    let wide : b ^ j * (n + 3) ≤ b ^ j * b = mul-le-mul_left (b ^ j) h in
    let c : ℕ = b ^ j in
    let split : b ^ j * (n + 3) ≡ b ^ j * (1 + n) + (b ^ j + b ^ j) = grind arith in
    omega arith

some_work : (b i r : ℕ) → 1 ≤ b → 1 ≤ b ^ i * (1 + r)
some_work b i r h =
    let some : 1 ≤ b ^ i = one-le-pow i b h in
    let up : b ^ i * 1 ≤ b ^ i * (1 + r) = mul-le-mul_left {m = 1} {n = 1 + r} (b ^ i) (omega arith) in
    let one : b ^ i * 1 ≡ b ^ i = grind arith in
    omega arith

step_down : (b i n p : ℕ) → p < n → b ^ i * (1 + (n - (p + 1))) + b ^ i ≡ b ^ i * (1 + (n - p))
step_down b i n p h =
    let r : ℕ = n - (p + 1) in
    let e : 1 + (n - p) ≡ (1 + (n - (p + 1))) + 1 = omega arith in
    ap (λ x. b ^ i * (1 + (n - (p + 1))) + x) (sym (times_one (b ^ i))) ∙ sym (both (b ^ i) (1 + (n - (p + 1))) 1) ∙ ap (λ x. b ^ i * x) (sym e)
  where
    times_one : (c : ℕ) → c * 1 ≡ c
    times_one c = grind arith

    both : (c x y : ℕ) → c * (x + y) ≡ c * x + c * y
    both c x y = grind arith

-- the further on in a template, the less is left of it
further : (b i n p q : ℕ) → p ≤ q → b ^ i * (1 + (n - q)) ≤ b ^ i * (1 + (n - p))
further b i n p q h = mul-le-mul_left {m = 1 + (n - q)} {n = 1 + (n - p)} (b ^ i) (omega arith)

pub no_template : (g : Grammar) (nodes : List Node) (rs : List Reduced) (i p : ℕ) → slice_get rs i ≡ None → (texts : List Text) → from g nodes rs texts i p ≡ []
no_template g nodes rs i p none texts = ap (λ o. rest_of g nodes texts o p) none

pub template_ended : (g : Grammar) (nodes : List Node) (rs : List Reduced) (i p : ℕ) (r : Reduced) → slice_get rs i ≡ Some r → slice_get (parts_at g r.own.rule) p ≡ None → (texts : List Text) → from g nodes rs texts i p ≡ []
template_ended g nodes rs i p r at none texts =
    ap (λ o. rest_of g nodes texts o p) at ∙ ap (filled (map (text_at texts) r.kids) (attribute_at nodes r.own.at) r.own.next) (drop_none (parts_at g r.own.rule) p none)

-- nothing is printed of the template yet
pub filled_first : (b : Bool) (g : Grammar) (nodes : List Node) (rs : List Reduced) (spans : List (Option Span)) (i p : ℕ) (out : Text) → FillsTo b g nodes rs spans i p p out out
filled_first b g nodes rs spans i p out = λ texts are hold. record { more = []; grown = append-none out; rest = refl }

-- the template of a reduction goes on by a part
from_part : (g : Grammar) (nodes : List Node) (rs : List Reduced) (texts : List Text) (i p : ℕ) (r : Reduced) (part : Part) → slice_get rs i ≡ Some r → slice_get (parts_at g r.own.rule) p ≡ Some part
    → from g nodes rs texts i p ≡ part_wanted nodes r part texts ++ from g nodes rs texts i (p + 1)
from_part g nodes rs texts i p r part at here =
    ap (λ o. rest_of g nodes texts o p) at
    ∙ ap (filled (map (text_at texts) r.kids) (attribute_at nodes r.own.at) r.own.next) (drop_some (parts_at g r.own.rule) p part here)
    ∙ ap (λ n. part_wanted nodes r part texts ++ rest_of g nodes texts (Some r) n) (sym (add-one p))
    ∙ ap (λ o. part_wanted nodes r part texts ++ rest_of g nodes texts o (p + 1)) (sym at)

-- one part more is printed
pub filled_next : (b : Bool) (g : Grammar) (nodes : List Node) (rs : List Reduced) (spans : List (Option Span)) (i p q : ℕ) (first out out' : Text) (later : Option ℕ) (r : Reduced) (part : Part) → later ≡ None → slice_get rs i ≡ Some r
    → slice_get (parts_at g r.own.rule) q ≡ Some part → FillsTo b g nodes rs spans i p q first out → Puts b g nodes rs spans out out' later (part_wanted nodes r part) (IsKidOf r) → FillsTo b g nodes rs spans i p (q + 1) first out'
filled_next b g nodes rs spans i p q first out out' later r part now at here filled (postponed kid x some is there fragment same value) = absurd (some_none (sym some ∙ now))
filled_next b g nodes rs spans i p q first out out' later r part now at here filled (printed none puts) = λ texts are hold.
    let f = filled texts are hold in
    let w = shown b (part_wanted nodes r part texts) in
    let rest = shown b (from g nodes rs texts i (q + 1)) in
    let grows : out' ≡ out ++ w = puts texts are (subst (λ x. SpansHold b texts spans x) (sym f.grown) (spans_grow b texts spans first f.more hold)) in
    record {
      more = f.more ++ w;
      grown = grows ∙ ap (λ x. x ++ w) f.grown ∙ append_assoc first f.more w;
      rest = append_assoc f.more w rest ∙ ap (λ x. f.more ++ x) (sym (shown-append b (part_wanted nodes r part texts) (from g nodes rs texts i (q + 1))) ∙ ap (shown b) (sym (from_part g nodes rs texts i q r part at here))) ∙ f.rest;
    }

-- the value of a kid is to be printed first
pub filled_left : (b : Bool) (g : Grammar) (nodes : List Node) (rs : List Reduced) (spans : List (Option Span)) (i p q kid : ℕ) (first out out' : Text) (frames frames' : List Frame) (later : Option ℕ) (r : Reduced) (part : Part) → later ≡ Some kid
    → p ≤ q → slice_get rs i ≡ Some r → slice_get (parts_at g r.own.rule) q ≡ Some part → FillsTo b g nodes rs spans i p q first out → Puts b g nodes rs spans out out' later (part_wanted nodes r part) (IsKidOf r)
    → frames' ≡ ((frames ++ Fill i (q + 1) ∷ []) ++ Note kid (length out') ∷ []) ++ Fill kid 0 ∷ [] → Fills b g nodes rs spans i p first out' frames frames' false
filled_left b g nodes rs spans i p q kid first out out' frames frames' later r part now order at here filled (printed none puts) new = absurd (some_none (sym now ∙ none))
filled_left b g nodes rs spans i p q kid first out out' frames frames' later r part now order at here filled (postponed kid' x some is there fragment same wants) new =
    let e : kid' ≡ kid = some_same (sym some ∙ now) in
    left q kid r x part refl order at here (subst (IsKidOf r) e is) (ap (slice_get rs) (sym e) ∙ there) fragment (λ texts. wants texts ∙ ap (text_at texts) e) new
    (subst (λ y. FillsTo b g nodes rs spans i p q first y) (sym same) filled)

module _ (g : Grammar) (nodes : List Node) (rs : List Reduced) (texts : List Text) (are : AreTexts g nodes rs texts) where
  -- the whole template of a fragment is its value
  pub from_first : (j : ℕ) (r : Reduced) → slice_get rs j ≡ Some r → r.own.kind ≡ Fragment → from g nodes rs texts j 0 ≡ text_at texts j
  from_first j r at fragment = ap (λ o. rest_of g nodes texts o 0) at ∙ sym (are.each j r at ∙ ap (λ k. value_by k r.own.next (filled_at g nodes texts r)) fragment)

  pub fill_falls : (b : Bool) (spans : List (Option Span)) (i p : ℕ) (out : Text) (frames : List Frame) (out' : Text) (frames' : List Frame) (full : Bool) → full ≡ false → Fills b g nodes rs spans i p out out' frames frames' full
      → work g rs frames' < work g rs (frames ++ Fill i p ∷ [])
  fill_falls b spans i p out frames out' frames' full not (ended q go same to none) =
      let e : work g rs frames' ≡ work g rs frames = ap (work g rs) same in
      omega (arith, e, sum_by_push (weight g rs) frames (Fill i p), some_work (base g rs) i (length (parts_or_none g (slice_get rs i)) - p) (omega arith))
  fill_falls b spans i p out frames out' frames' full not (filled_up q is over to) = absurd (not_both full is not)
  fill_falls b spans i p out frames out' frames' full not (left q kid r x part go order at here is there fragment wants new to) =
      let long : length (parts_or_none g (slice_get rs i)) ≡ length (parts_at g r.own.rule) = ap (λ o. length (parts_or_none g o)) at in
      let low : q < length (parts_at g r.own.rule) = get_within (parts_at g r.own.rule) q part here in
      let short : length (parts_or_none g (slice_get rs kid)) ≡ length (parts_at g x.own.rule) = ap (λ o. length (parts_or_none g o)) there in
      let all = one_of_all g rs kid x there in
      let under : kid < i = are.below i r is.0 kid at is.1 in
      let one = frames ++ Fill i (q + 1) ∷ [] in
      let e : work g rs frames' ≡ work g rs ((one ++ Note kid (length out') ∷ []) ++ Fill kid 0 ∷ []) = ap (work g rs) new in
      omega (
        arith,
        e,
        sum_by_push (weight g rs) frames (Fill i p),
        sum_by_push (weight g rs) frames (Fill i (q + 1)),
        sum_by_push (weight g rs) (one ++ Note kid (length out') ∷ []) (Fill kid 0),
        sum_by_push (weight g rs) one (Note kid (length out')),
        step_down (base g rs) i (length (parts_or_none g (slice_get rs i))) q (omega arith),
        further (base g rs) i (length (parts_or_none g (slice_get rs i))) p q order,
        lighter (base g rs) (length (parts_or_none g (slice_get rs kid)) - 0) i kid (omega arith) under,
      )

  module _ (b : Bool) (target : Text) where
    leads_front : (frames : List Frame) (out : Text) → Leads b g nodes rs texts target out frames → (more : Text) × (out ++ more ≡ target)
    leads_front [] out h = ([], sym (append-none out) ∙ h)
    leads_front (Fill i p ∷ frames) out h =
        let (more, e) = leads_front frames (out ++ shown b (from g nodes rs texts i p)) h in
        (shown b (from g nodes rs texts i p) ++ more, sym (append_assoc out (shown b (from g nodes rs texts i p)) more) ∙ e)
    leads_front (Note i start ∷ frames) out h = leads_front frames out h.1

    module _ (spans : List (Option Span)) (out : Text) (frames old : List Frame) (hold : SpansHold b texts spans out) (lead : Leads b g nodes rs texts target out (reverse old)) where
      first_of : (frame : Frame) → old ≡ frames ++ frame ∷ [] → Leads b g nodes rs texts target out (frame ∷ reverse frames)
      first_of frame e = subst (λ x. Leads b g nodes rs texts target out x) (ap reverse e ∙ reverse-append frames (frame ∷ [])) lead

      -- the frame of a template goes on
      pub fill_leads : (i p : ℕ) → old ≡ frames ++ Fill i p ∷ [] → (out' : Text) (frames' : List Frame) (full : Bool) → full ≡ false → Fills b g nodes rs spans i p out out' frames frames' full
          → SpansHold b texts spans out' × Leads b g nodes rs texts target out' (reverse frames')
      fill_leads i p e out' frames' full not (filled_up q is over to) = absurd (not_both full is not)
      fill_leads i p e out' frames' full not (ended q go same to none) =
          let f = to texts are hold in
          let all : f.more ≡ shown b (from g nodes rs texts i p) = append-none f.more ∙ ap (λ x. f.more ++ x) (sym (shown-none b) ∙ ap (shown b) (sym (none texts))) ∙ f.rest in
          let now : out' ≡ out ++ shown b (from g nodes rs texts i p) = f.grown ∙ ap (λ x. out ++ x) all in (
            subst (λ x. SpansHold b texts spans x) (sym now) (spans_grow b texts spans out (shown b (from g nodes rs texts i p)) hold),
            subst (λ x. Leads b g nodes rs texts target x (reverse frames')) (sym now) (subst (λ x. Leads b g nodes rs texts target (out ++ shown b (from g nodes rs texts i p)) (reverse x)) (sym same) (first_of (Fill i p) e)),
          )
      fill_leads i p e out' frames' full not (left q kid r x part go order at here is there fragment wants new to) =
          let f = to texts are hold in
          let value = shown b (from g nodes rs texts kid 0) in
          let rest = shown b (from g nodes rs texts i (q + 1)) in
          let whole : from g nodes rs texts kid 0 ≡ text_at texts kid = from_first kid x there fragment in
          let goes : value ++ rest ≡ shown b (from g nodes rs texts i q) =
          sym (shown-append b (from g nodes rs texts kid 0) (from g nodes rs texts i (q + 1)))
          ∙ ap (shown b) (ap (λ y. y ++ from g nodes rs texts i (q + 1)) (whole ∙ sym (wants texts)) ∙ sym (from_part g nodes rs texts i q r part at here)) in
          let on : (out' ++ value) ++ rest ≡ out ++ shown b (from g nodes rs texts i p) =
          append_assoc out' value rest ∙ (λ j. f.grown j ++ goes j) ∙ append_assoc out f.more (shown b (from g nodes rs texts i q)) ∙ ap (λ y. out ++ y) f.rest in
          let turned : reverse frames' ≡ Fill kid 0 ∷ (Note kid (length out') ∷ (Fill i (q + 1) ∷ reverse frames)) =
          ap reverse new ∙ reverse-append ((frames ++ Fill i (q + 1) ∷ []) ++ Note kid (length out') ∷ []) (Fill kid 0 ∷ [])
          ∙ ap (λ y. Fill kid 0 ∷ y) (reverse-append (frames ++ Fill i (q + 1) ∷ []) (Note kid (length out') ∷ []) ∙ ap (λ y. Note kid (length out') ∷ y) (reverse-append frames (Fill i (q + 1) ∷ []))) in
          let span : IsSpan b texts (out' ++ value) kid (length out') (length (out' ++ value)) =
          record { order = omega (arith, length-append out' value); inside = omega arith; holds = range_end out' value ∙ ap (shown b) whole } in (
            subst (λ y. SpansHold b texts spans y) (sym f.grown) (spans_grow b texts spans out f.more hold),
            subst (λ y. Leads b g nodes rs texts target out' y) (sym turned) (span, subst (λ y. Leads b g nodes rs texts target y (reverse frames)) (sym on) (first_of (Fill i p) e)),
          )

      -- the sheet is full
      pub fill_cuts : (i p : ℕ) → old ≡ frames ++ Fill i p ∷ [] → (out' : Text) (frames' : List Frame) (full : Bool) → full ≡ true → Fills b g nodes rs spans i p out out' frames frames' full → IsCut b out' target
      fill_cuts i p e out' frames' full is (ended q not same to none) = absurd (not_both full is not)
      fill_cuts i p e out' frames' full is (left q kid r x part not order at here of there fragment wants new to) = absurd (not_both full is not)
      fill_cuts i p e out' frames' full is (filled_up q all over to) =
          let f = to texts are hold in
          let rest = shown b (from g nodes rs texts i q) in
          let (more, front) = leads_front (reverse frames) (out ++ shown b (from g nodes rs texts i p)) (first_of (Fill i p) e) in
          record {
            more = rest ++ more;
            front = sym (append_assoc out' rest more) ∙ ap (λ y. y ++ more) (ap (λ y. y ++ rest) f.grown ∙ append_assoc out f.more rest ∙ ap (λ y. out ++ y) f.rest) ∙ front;
            over = over;
          }

      -- a note is left out, or taken
      pub note_leads : (i start : ℕ) → old ≡ frames ++ Note i start ∷ [] → SpansHold b texts spans out × Leads b g nodes rs texts target out (reverse frames)
      note_leads i start e = (hold, (first_of (Note i start) e).1)

      pub noted_leads : (i start : ℕ) (span : Span) → span ≡ record { start = start; end = length out } → old ≡ frames ++ Note i start ∷ []
          → SpansHold b texts (slice_set spans i (Some span)) out × Leads b g nodes rs texts target out (reverse frames)
      noted_leads i start span is e = let l = first_of (Note i start) e in (spans_noted b texts spans out i start span is l.0 hold, l.1)

pub first_leads : (b : Bool) (g : Grammar) (nodes : List Node) (rs : List Reduced) (texts : List Text) (spans : List (Option Span)) (out : Text) (first : ℕ) (frames : List Frame) → frames ≡ Fill first 0 ∷ []
    → SpansHold b texts spans out → SpansHold b texts spans out × Leads b g nodes rs texts (out ++ shown b (from g nodes rs texts first 0)) out (reverse frames)
first_leads b g nodes rs texts spans out first frames e h = (h, subst (λ x. Leads b g nodes rs texts (out ++ shown b (from g nodes rs texts first 0)) out (reverse x)) (sym e) refl)

pub last_leads : (b : Bool) (g : Grammar) (nodes : List Node) (rs : List Reduced) (texts : List Text) (target : Text) (spans : List (Option Span)) (out : Text) (frames : List Frame) → frames ≡ []
    → SpansHold b texts spans out × Leads b g nodes rs texts target out (reverse frames) → (out ≡ target) × SpansHold b texts spans out
last_leads b g nodes rs texts target spans out frames e h = (subst (λ x. Leads b g nodes rs texts target out (reverse x)) e h.1, h.0)

pub nil_of_none : {A : Type 0} (xs : List A) → length xs ≡ 0 → xs ≡ []
nil_of_none [] h = refl
nil_of_none (x ∷ xs) h = cc

-- the value of a fragment is appended
pub value_ended : (b : Bool) (g : Grammar) (nodes : List Node) (rs : List Reduced) (texts : List Text) → AreTexts g nodes rs texts → (i : ℕ) (r : Reduced) → slice_get rs i ≡ Some r → r.own.kind ≡ Fragment → (spans : List (Option Span)) (out out' : Text)
    (full : Bool) → IsDone full b texts spans out' (out ++ shown b (from g nodes rs texts i 0)) → IsEnded full b out' (out ++ shown b (text_at texts i))
value_ended b g nodes rs texts are i r at fragment spans out out' true h = subst (λ x. IsCut b out' (out ++ shown b x)) (from_first g nodes rs texts are i r at fragment) h
value_ended b g nodes rs texts are i r at fragment spans out out' false h = h.0 ∙ ap (λ x. out ++ shown b x) (from_first g nodes rs texts are i r at fragment)
