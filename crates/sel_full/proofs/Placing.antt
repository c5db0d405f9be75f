-- Numbers at the places of keys.
use Rattle.std.proofs.Common.{◌≡◌, ℕ, zero, suc, ◌+◌, ◌*◌, ◌<◌, ◌≤◌, ◌⊎◌, inl, inr, Option, Some, None, List, [], ◌∷◌, refl, ap, sym, ◌∙◌, subst, slice_get, slice_set, get_or, length, arith}
use Rattle.std.specs.Option.{option_map}
use Rattle.std.proofs.lemmas.Option.{slice_get_within, slice_get_read}
use Rattle.sel_base.specs.declared.range.Range.{Range}
use Rattle.sel_grammar.specs.Limits.{most_operators}
use Rattle.sel_range.specs.Classes.{Occurs}
use Rattle.sel_normal.specs.NormalForms.{NormalForm}
use Rattle.sel_normal.specs.Standing.{IsStanding}
use Rattle.sel_normal.proofs.Steps.{some_same, some_none}
use Rattle.sel_items.specs.declared.items.Items.{Items}
use Rattle.sel_items.specs.declared.label.Label.{Label}
use Rattle.sel_items.specs.declared.label.Label.TheVariants.{Numbered, Plain}
use Rattle.sel_items.specs.Automata.{MayLabel, IsLabelled}
use Rattle.sel_items.specs.Follows.{NodeKey, key_of}
use Rattle.sel_items.specs.Labels.{KidsAre, AreNumbered, IsKidNumbered}
use Rattle.sel_full.specs.Automata.{FullTable, Means, IsNumberOf, TakesAll, told_of}
use Rattle.sel_full.specs.Starts.{start_at, AreStarts, AreStartsTo}
use Rattle.sel_full.specs.Tables.{IsLawfulTable, occurring, kids_by, all_keys, key_start}
use Rattle.sel_full.proofs.Empties.{unused_are_empty}
use Rattle.sel_full.proofs.KeyPlaces.{keys_have_places}
use Rattle.sel_full.proofs.StateKeys.{takes_none, takes_one, takes_two, own_key}
use Rattle.sel_full.proofs.Uses.{takes_by, none_by, used_below}

-- the list of starts, found and not
pub start_found : (normal : NormalForm) (xs : List Items) (starts : List (Option ℕ)) (op : ℕ) (v : Option ℕ) → AreStarts normal xs starts → op < length starts → v ≡ get_or starts op v → v ≡ start_at normal xs op
start_found normal xs starts op v are l h = some_same (sym (slice_get_read starts (length starts) op v refl l h) ∙ are.each op (subst (λ n. op < n) are.long l))

no_start : (o : Option ℕ) (k : ℕ) → o ≡ None → None ≡ option_map (λ (j : ℕ). k) o
no_start None k e = refl
no_start (Some j) k e = absurd (some_none e)

pub start_missed : (normal : NormalForm) (xs : List Items) (starts : List (Option ℕ)) (op : ℕ) → IsStanding normal → AreStarts normal xs starts → length starts ≤ op → None ≡ start_at normal xs op
start_missed normal xs starts op standing are h = no_start (kids_by normal.rules op) (key_start normal xs op) (none (kids_by normal.rules op) refl (subst (λ n. n ≤ op) are.long h))
  where
    none : (o : Option ℕ) → kids_by normal.rules op ≡ o → most_operators ≤ op → o ≡ None
    none None e l = refl
    none (Some j) e l = let b = used_below normal op j standing e in absurd (omega arith)

some_start : (o : Option ℕ) (k s : ℕ) → Some s ≡ option_map (λ (j : ℕ). k) o → (j : ℕ) × (o ≡ Some j) × (s ≡ k)
some_start None k s h = absurd (some_none h)
some_start (Some j) k s h = (j, refl, some_same h)

none_start : (o : Option ℕ) (k : ℕ) → None ≡ option_map (λ (j : ℕ). k) o → o ≡ None
none_start None k h = refl
none_start (Some j) k h = absurd (some_none (sym h))

module _ (t : FullTable) (table : IsLawfulTable t.normal t.states t.numbers) where
  -- an operator that no rule uses leads to the empty state
  pub zero_follows : (op class : ℕ) (is : List Items) → None ≡ start_at t.normal t.states op → IsNumberOf t (key_of op class is) 0
  zero_follows op class is h =
      let (i, at, none) = table.empty in
      (i, at, unused_are_empty t.normal (key_of op class is) i (none_by t.normal op (length is) (none_start (kids_by (t.normal).rules op) (key_start t.normal t.states op) h)) none)

  -- each key's number is there
  pub within_numbers : (p : ℕ) (key : NodeKey) → slice_get (all_keys t.normal t.states) p ≡ Some key → p < length t.numbers
  within_numbers p key at = sum p (length t.numbers) (length (all_keys t.normal t.states)) table.as_many (slice_get_within (all_keys t.normal t.states) p key at)
    where
      sum : (p a b : ℕ) → a ≡ b → p < b → p < a
      sum p a b e l = omega arith

  pub found_follows : (p n : ℕ) → Some n ≡ slice_get t.numbers p → (key : NodeKey) → slice_get (all_keys t.normal t.states) p ≡ Some key → IsNumberOf t key n
  found_follows p n h key at = table.follow p n key at (sym h)

  pub missed_follows : (p n : ℕ) → None ≡ slice_get t.numbers p → (key : NodeKey) → slice_get (all_keys t.normal t.states) p ≡ Some key → IsNumberOf t key n
  missed_follows p n h key at = absurd (past t.numbers p (within_numbers p key at) h)
    where
      past : (xs : List ℕ) (p : ℕ) → p < length xs → None ≡ slice_get xs p → ⊥
      past [] p l h = omega arith
      past (x ∷ xs) zero l h = some_none (sym h)
      past (x ∷ xs) (suc p) l h = past xs p (omega arith) h

  module _ (standing : IsStanding t.normal) (op s : ℕ) (start : Some s ≡ start_at t.normal t.states op) where
    moved : (k q : ℕ) (key : NodeKey) → s ≡ k → slice_get (all_keys t.normal t.states) (k + q) ≡ Some key → slice_get (all_keys t.normal t.states) (s + q) ≡ Some key
    moved k q key e h = subst (λ x. slice_get (all_keys t.normal t.states) (x + q) ≡ Some key) (sym e) h

    pub leaf_at : (q class : ℕ) (tests : List Range) → tests ≡ (t.normal).tests → TakesAll t.normal op 0 → slice_get (occurring tests) q ≡ Some class → slice_get (all_keys t.normal t.states) (s + q) ≡ Some (key_of op class [])
    leaf_at q class tests same takes at =
        let (j, by, e) = some_start (kids_by (t.normal).rules op) (key_start t.normal t.states op) s start in
        let k = takes_by t.normal op 0 j takes by in
        moved (key_start t.normal t.states op) q (key_of op class []) e
        ((keys_have_places t.normal t.states op (used_below t.normal op j standing by)).none q class (by ∙ ap Some k) (subst (λ ts. slice_get (occurring ts) q ≡ Some class) same at))

    pub one_at : (m : ℕ) (i : Items) → TakesAll t.normal op 1 → slice_get t.states m ≡ Some i → slice_get (all_keys t.normal t.states) (s + m) ≡ Some (key_of op 0 (i ∷ []))
    one_at m i takes at =
        let (j, by, e) = some_start (kids_by (t.normal).rules op) (key_start t.normal t.states op) s start in
        let k = takes_by t.normal op 1 j takes by in
        moved (key_start t.normal t.states op) m (key_of op 0 (i ∷ [])) e ((keys_have_places t.normal t.states op (used_below t.normal op j standing by)).one m i (by ∙ ap Some k) at)

    pub two_at : (m n w : ℕ) (i l : Items) → w ≡ length t.states → TakesAll t.normal op 2 → slice_get t.states m ≡ Some i → slice_get t.states n ≡ Some l → slice_get (all_keys t.normal t.states) (s + (m * w + n)) ≡ Some (key_of op 0 (i ∷ l ∷ []))
    two_at m n w i l same takes at at' =
        let (j, by, e) = some_start (kids_by (t.normal).rules op) (key_start t.normal t.states op) s start in
        let k = takes_by t.normal op 2 j takes by in
        moved (key_start t.normal t.states op) (m * w + n) (key_of op 0 (i ∷ l ∷ [])) e
        (subst (λ w. slice_get (all_keys t.normal t.states) (key_start t.normal t.states op + (m * w + n)) ≡ Some (key_of op 0 (i ∷ l ∷ []))) (sym same)
        ((keys_have_places t.normal t.states op (used_below t.normal op j standing by)).two m n i l (by ∙ ap Some k) at at'))

-- what a call may be asked with
module _ (t : FullTable) (op class : ℕ) where
  pub leaf_class : (a b : Option Label) → MayLabel (told_of t) op class a b → a ≡ None → Occurs (t.normal).tests class
  leaf_class None b may e = may.over
  leaf_class (Some x) b may e = absurd (some_none e)

  no_second : (b : Option Label) (is : List Items) → KidsAre (Means t) None b is → b ≡ None
  no_second None is h = refl
  no_second (Some y) is h = absurd h

  pub leaf_takes : (a b : Option Label) → MayLabel (told_of t) op class a b → a ≡ None → TakesAll t.normal op 0
  leaf_takes None None may e = takes_none t.normal op may.lawful
  leaf_takes None (Some y) may e = let (is, kids, sets) = may.kids in absurd (some_none (no_second (Some y) is kids))
  leaf_takes (Some x) b may e = absurd (some_none e)

  pub one_takes : (a b : Option Label) (x : Label) → MayLabel (told_of t) op class a b → a ≡ Some x → b ≡ None → TakesAll t.normal op 1
  one_takes None b x may e f = absurd (some_none (sym e))
  one_takes (Some x) None y may e f = takes_one t.normal op x may.lawful
  one_takes (Some x) (Some z) y may e f = absurd (some_none f)

  pub two_takes : (a b : Option Label) (x y : Label) → MayLabel (told_of t) op class a b → a ≡ Some x → b ≡ Some y → TakesAll t.normal op 2
  two_takes None b x y may e f = absurd (some_none (sym e))
  two_takes (Some x) None u v may e f = absurd (some_none (sym f))
  two_takes (Some x) (Some y) u v may e f = takes_two t.normal op x y may.lawful

  one_kid : (x : Label) (is : List Items) → KidsAre (Means t) (Some x) None is → (i : Items) × (is ≡ i ∷ []) × Means t x i
  one_kid x [] h = absurd h
  one_kid x (i ∷ []) h = (i, refl, h)
  one_kid x (i ∷ j ∷ is) h = absurd h

  two_kids : (x y : Label) (is : List Items) → KidsAre (Means t) (Some x) (Some y) is → (i j : Items) × (is ≡ i ∷ j ∷ []) × Means t x i × Means t y j
  two_kids x y [] h = absurd h
  two_kids x y (i ∷ []) h = absurd h
  two_kids x y (i ∷ j ∷ []) h = (i, j, refl, h.0, h.1)
  two_kids x y (i ∷ j ∷ k ∷ is) h = absurd h

  -- the first kid's item set, and the second's
  pub first_of_one : (a b : Option Label) (x : Label) → MayLabel (told_of t) op class a b → a ≡ Some x → b ≡ None → (i : Items) × Means t x i
  first_of_one None b x may e f = absurd (some_none (sym e))
  first_of_one (Some x) None y may e f = let (is, kids, sets) = may.kids in let (i, q, m) = one_kid x is kids in (i, subst (λ l. Means t l i) (some_same e) m)
  first_of_one (Some x) (Some z) y may e f = absurd (some_none f)

  pub first_of_two : (a b : Option Label) (x y : Label) → MayLabel (told_of t) op class a b → a ≡ Some x → b ≡ Some y → (i : Items) × Means t x i
  first_of_two None b x y may e f = absurd (some_none (sym e))
  first_of_two (Some x) None u v may e f = absurd (some_none (sym f))
  first_of_two (Some x) (Some y) u v may e f = let (is, kids, sets) = may.kids in let (i, j, q, m, n) = two_kids x y is kids in (i, subst (λ l. Means t l i) (some_same e) m)

  pub second_of_two : (a b : Option Label) (x y : Label) → MayLabel (told_of t) op class a b → a ≡ Some x → b ≡ Some y → (i : Items) × Means t y i
  second_of_two None b x y may e f = absurd (some_none (sym e))
  second_of_two (Some x) None u v may e f = absurd (some_none (sym f))
  second_of_two (Some x) (Some y) u v may e f = let (is, kids, sets) = may.kids in let (i, j, q, m, n) = two_kids x y is kids in (j, subst (λ l. Means t l j) (some_same f) n)

  -- the number for the kids' numbers is that for the kids
  pub number_leaf : (a b : Option Label) (n : ℕ) → a ≡ None → IsNumberOf t (key_of op class []) n → (is : List Items) → KidsAre (Means t) a b is → IsNumberOf t (key_of op class is) n
  number_leaf None None n e h [] kids = h
  number_leaf None None n e h (i ∷ is) kids = absurd kids
  number_leaf None (Some y) n e h is kids = absurd (some_none (no_second (Some y) is kids))
  number_leaf (Some x) b n e h is kids = absurd (some_none e)

  pub number_one : (a b : Option Label) (x : Label) (m n : ℕ) → MayLabel (told_of t) op class a b → a ≡ Some x → b ≡ None → ((t : FullTable) (i : Items) → Means t x i → slice_get t.states m ≡ Some i)
      → ((i : Items) → slice_get t.states m ≡ Some i → IsNumberOf t (key_of op 0 (i ∷ [])) n) → (is : List Items) → KidsAre (Means t) a b is → IsNumberOf t (key_of op class is) n
  number_one None b x m n may e f at h is kids = absurd (some_none (sym e))
  number_one (Some x) (Some z) y m n may e f at h is kids = absurd (some_none f)
  number_one (Some x) None y m n may e f at h is kids =
      let (i, q, w) = one_kid x is kids in
      subst (λ is. IsNumberOf t (key_of op class is) n) (sym q)
      (subst (λ c. IsNumberOf t (key_of op c (i ∷ [])) n) (sym may.over) (h i (at t i (subst (λ l. Means t l i) (some_same e) w))))

  pub number_two : (a b : Option Label) (x y : Label) (m o n : ℕ) → MayLabel (told_of t) op class a b → a ≡ Some x → b ≡ Some y → ((t : FullTable) (i : Items) → Means t x i → slice_get t.states m ≡ Some i)
      → ((t : FullTable) (i : Items) → Means t y i → slice_get t.states o ≡ Some i) → ((i j : Items) → slice_get t.states m ≡ Some i → slice_get t.states o ≡ Some j → IsNumberOf t (key_of op 0 (i ∷ j ∷ [])) n)
      → (is : List Items) → KidsAre (Means t) a b is → IsNumberOf t (key_of op class is) n
  number_two None b x y m o n may e f at at' h is kids = absurd (some_none (sym e))
  number_two (Some x) None u v m o n may e f at at' h is kids = absurd (some_none (sym f))
  number_two (Some x) (Some y) u v m o n may e f at at' h is kids =
      let (i, j, q, w, z) = two_kids x y is kids in
      subst (λ is. IsNumberOf t (key_of op class is) n) (sym q)
      (subst (λ c. IsNumberOf t (key_of op c (i ∷ j ∷ [])) n) (sym may.over) (h i j (at t i (subst (λ l. Means t l i) (some_same e) w)) (at' t j (subst (λ l. Means t l j) (some_same f) z))))

  means_numbered : (l : Label) (i : Items) → Means t l i → IsKidNumbered (Some l)
  means_numbered (Numbered n) i h = tt
  means_numbered (Plain p) i h = absurd h

  kids_numbered : (a b : Option Label) (is : List Items) → KidsAre (Means t) a b is → AreNumbered a b
  kids_numbered None None is h = (tt, tt)
  kids_numbered None (Some y) is h = absurd (some_none (no_second (Some y) is h))
  kids_numbered (Some x) None is h = let (i, q, w) = one_kid x is h in (means_numbered x i w, tt)
  kids_numbered (Some x) (Some y) is h = let (i, j, q, w, z) = two_kids x y is h in (means_numbered x i w, means_numbered y j z)

  pub labelled : (a b : Option Label) (is : List Items) (n : ℕ) → MayLabel (told_of t) op class a b → KidsAre (Means t) a b is → IsNumberOf t (key_of op class is) n → IsLabelled (told_of t) op class a b is (Numbered n)
  labelled a b is n may kids (i, at, f) = record {
    items = i;
    meant = at;
    follows = f;
    numbered = λ h. (kids_numbered a b is kids, (n, at));
    plain = λ h. absurd h;
    tabled = λ nums used full fits. (tt, own_key t op class a b is kids may.over may.lawful);
  }

-- a start more
set_same : {A : Type 0} (xs : List A) (n : ℕ) (x : A) → n < length xs → slice_get (slice_set xs n x) n ≡ Some x
set_same [] n x h = absurd (omega arith)
set_same (y ∷ xs) zero x h = refl
set_same (y ∷ xs) (suc n) x h = set_same xs n x (omega arith)

set_other : {A : Type 0} (xs : List A) (n m : ℕ) (x : A) → (n ≡ m → ⊥) → slice_get (slice_set xs n x) m ≡ slice_get xs m
set_other [] n m x h = refl
set_other (y ∷ xs) zero zero x h = absurd (h refl)
set_other (y ∷ xs) zero (suc m) x h = refl
set_other (y ∷ xs) (suc n) zero x h = refl
set_other (y ∷ xs) (suc n) (suc m) x h = set_other xs n m x (λ e. h (ap suc e))

set_long : {A : Type 0} (xs : List A) (n : ℕ) (x : A) → length (slice_set xs n x) ≡ length xs
set_long [] n x = refl
set_long (y ∷ xs) zero x = refl
set_long (y ∷ xs) (suc n) x = ap suc (set_long xs n x)

pub start_more : (normal : NormalForm) (xs : List Items) (op at next : ℕ) (starts : List (Option ℕ)) (kids start : Option ℕ) → AreStartsTo normal xs op starts at → op < most_operators → kids ≡ kids_by normal.rules op
    → start ≡ option_map (λ (k : ℕ). at) kids → next ≡ key_start normal xs (op + 1) → AreStartsTo normal xs (op + 1) (slice_set starts op start) next
start_more normal xs op at next starts kids start are below by is e = record { long = set_long starts op start ∙ are.long; place = e; each = λ j l. go j (last j l) }
  where
    last : (j : ℕ) → j < op + 1 → (j < op) ⊎ (op ≡ j)
    last j l = grind arith

    differ : (j : ℕ) → j < op → op ≡ j → ⊥
    differ j l q = omega arith

    inside : (n : ℕ) → n ≡ most_operators → op < n
    inside n q = omega arith

    own : start ≡ start_at normal xs op
    own = is ∙ ap (λ n. option_map (λ (k : ℕ). n) kids) are.place ∙ ap (option_map (λ (k : ℕ). key_start normal xs op)) by

    go : (j : ℕ) → (j < op) ⊎ (op ≡ j) → slice_get (slice_set starts op start) j ≡ Some (start_at normal xs j)
    go j (inl l) = set_other starts op j start (differ j l) ∙ are.each j l
    go j (inr q) = subst (λ j. slice_get (slice_set starts op start) j ≡ Some (start_at normal xs j)) q (set_same starts op start (inside (length starts) are.long) ∙ ap Some own)
