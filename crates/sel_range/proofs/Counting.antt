-- Counting the numbers of a list that are at most a number, those that are equal counted once.
use Rattle.std.proofs.Common.{◌≡◌, ℕ, ◌+◌, ◌≤◌, ◌⊎◌, inl, inr, Bool, true, false, cond, ◌&&◌, List, [], ◌∷◌, length, refl, ap, sym, ◌∙◌, subst, arith, ℤ, ◌<ℤ◌, ◌≤ℤ◌}
use Rattle.std.specs.Prelude.{int_le}
use Rattle.std.specs.List.{count_by, filter}
use Rattle.std.specs.Ordering.{int_eq}
use Rattle.std.specs.Set.{distinct_count, is_member, unique_keys}
use Rattle.std.proofs.lemmas.Bool.{or_cases, or_left, or_right}
use Rattle.std.proofs.lemmas.Bool.Decides.{Decides-int_eq}
use Rattle.std.proofs.lemmas.Cmp.{int_eq_equiv}
use Rattle.std.proofs.lemmas.Int.{ints, by_lt_z}
use Rattle.std.proofs.lemmas.List.Sums.{length-filter, sum_by-cons, sum_by-le-sum_by}
use Rattle.std.proofs.lemmas.Map.Made.{is_member-filter, alike_from_same}

pub le_true : (x y : ℤ) → x ≤ℤ y → int_le x y ≡ true
le_true x y h = grind (arith, ints)

pub le_false : (x y : ℤ) → y <ℤ x → int_le x y ≡ false
le_false x y h = grind (arith, ints)

pub true_le : (x y : ℤ) → int_le x y ≡ true → x ≤ℤ y
true_le x y h = grind (arith, ints)

pub false_lt : (x y : ℤ) → int_le x y ≡ false → y <ℤ x
false_lt x y h = grind (arith, ints)

pub lt_le : (x y : ℤ) → x <ℤ y → x ≤ℤ y
lt_le x y h = omega (arith, ints)

and-true : (a b : Bool) → b ≡ true → (a && b) ≡ a
and-true true b h = h
and-true false b h = refl

-- how often a number counts
abbrev pub bit : Bool → ℕ
bit b = cond b 1 0

abbrev pub count_to : ℤ → List ℤ → ℕ
count_to v cs = count_by (λ c. int_le c v) cs

filter-unique_keys : (p : ℤ → Bool) (xs : List ℤ) → unique_keys int_eq (filter p xs) ≡ filter p (unique_keys int_eq xs)
filter-unique_keys p [] = refl
filter-unique_keys p (x ∷ xs) = by (p x) (is_member int_eq xs x) refl refl (filter-unique_keys p xs)
  where
    held : p x ≡ true → is_member int_eq (filter p xs) x ≡ is_member int_eq xs x
    held h = is_member-filter int_eq_equiv p x (λ y e. alike_from_same Decides-int_eq p x y e) xs ∙ and-true (is_member int_eq xs x) (p x) h

    by : (b m : Bool) → p x ≡ b → is_member int_eq xs x ≡ m → unique_keys int_eq (filter p xs) ≡ filter p (unique_keys int_eq xs)
        → unique_keys int_eq (cond b (x ∷ filter p xs) (filter p xs)) ≡ filter p (cond m (unique_keys int_eq xs) (x ∷ unique_keys int_eq xs))
    by true true h k r = ap (λ b. cond b (unique_keys int_eq (filter p xs)) (x ∷ unique_keys int_eq (filter p xs))) (held h ∙ k) ∙ r
    by true false h k r =
        ap (λ b. cond b (unique_keys int_eq (filter p xs)) (x ∷ unique_keys int_eq (filter p xs))) (held h ∙ k)
        ∙ ap (λ us. x ∷ us) r
        ∙ sym (ap (λ b. cond b (x ∷ filter p (unique_keys int_eq xs)) (filter p (unique_keys int_eq xs))) h)
    by false true h k r = r
    by false false h k r = r ∙ sym (ap (λ b. cond b (x ∷ filter p (unique_keys int_eq xs)) (filter p (unique_keys int_eq xs))) h)

-- the distinct numbers at most v are those of the distinct ones that are at most v
pub distinct_to : (v : ℤ) (xs : List ℤ) → distinct_count int_eq (filter (λ c. int_le c v) xs) ≡ count_to v (unique_keys int_eq xs)
distinct_to v xs = ap length (filter-unique_keys (λ c. int_le c v) xs) ∙ length-filter (λ c. int_le c v) (unique_keys int_eq xs)

pub member_unique : (c : ℤ) (xs : List ℤ) → is_member int_eq xs c ≡ true → is_member int_eq (unique_keys int_eq xs) c ≡ true
member_unique c [] h = h
member_unique c (x ∷ xs) h = by (is_member int_eq xs x) refl (or_cases (int_eq c x) (is_member int_eq xs c) h) (member_unique c xs)
  where
    by : (m : Bool) → is_member int_eq xs x ≡ m → (int_eq c x ≡ true) ⊎ (is_member int_eq xs c ≡ true) → (is_member int_eq xs c ≡ true → is_member int_eq (unique_keys int_eq xs) c ≡ true) → is_member int_eq (cond m (unique_keys int_eq xs) (x ∷ unique_keys int_eq xs)) c ≡ true
    by true k (inl e) rest = rest (subst (λ y. is_member int_eq xs y ≡ true) (sym ((Decides-int_eq c x).0 e)) k)
    by true k (inr r) rest = rest r
    by false k (inl e) rest = or_left (int_eq c x) _ e
    by false k (inr r) rest = or_right (int_eq c x) _ (rest r)

one_le : (c a v : ℤ) → a ≤ℤ v → bit (int_le c a) ≤ bit (int_le c v)
one_le c a v h = by_lt_z a c above below
  where
    above : a <ℤ c → bit (int_le c a) ≤ bit (int_le c v)
    above l = let f : bit (int_le c a) ≡ 0 = ap bit (le_false c a l) in omega arith

    below : c ≤ℤ a → bit (int_le c a) ≤ bit (int_le c v)
    below l =
        let k : c ≤ℤ v = omega (arith, ints) in
        let f : bit (int_le c a) ≡ 1 = ap bit (le_true c a l) in
        let e : bit (int_le c v) ≡ 1 = ap bit (le_true c v k) in
        omega arith

pub count_mono : (cs : List ℤ) (a v : ℤ) → a ≤ℤ v → count_to a cs ≤ count_to v cs
count_mono cs a v h = sum_by-le-sum_by (λ c. bit (int_le c a)) (λ c. bit (int_le c v)) cs (λ c. one_le c a v h)

-- a number of the list itself counts, and is not at most a lesser one
pub count_strict : (cs : List ℤ) (c v : ℤ) → is_member int_eq cs c ≡ true → v <ℤ c → count_to v cs + 1 ≤ count_to c cs
count_strict [] c v h l = cc
count_strict (d ∷ cs) c v h l = by (or_cases (int_eq c d) (is_member int_eq cs c) h) (λ m. count_strict cs c v m l)
  where
    mine : count_to v (d ∷ cs) ≡ bit (int_le d v) + count_to v cs
    mine = sum_by-cons (λ x. bit (int_le x v)) d cs

    its : count_to c (d ∷ cs) ≡ bit (int_le d c) + count_to c cs
    its = sum_by-cons (λ x. bit (int_le x c)) d cs

    by : (int_eq c d ≡ true) ⊎ (is_member int_eq cs c ≡ true) → (is_member int_eq cs c ≡ true → count_to v cs + 1 ≤ count_to c cs) → count_to v (d ∷ cs) + 1 ≤ count_to c (d ∷ cs)
    by (inl e) more =
        let same : c ≡ d = (Decides-int_eq c d).0 e in
        let self : c ≤ℤ c = omega (arith, ints) in
        let one : bit (int_le d c) ≡ 1 = ap bit (subst (λ y. int_le y c ≡ true) same (le_true c c self)) in
        let none : bit (int_le d v) ≡ 0 = ap bit (subst (λ y. int_le y v ≡ false) same (le_false c v l)) in
        let rest = count_mono cs v c (lt_le v c l) in
        let m = mine in
        let i = its in
        omega arith
    by (inr r) more =
        let rest = more r in
        let o = one_le d v c (lt_le v c l) in
        let m = mine in
        let i = its in
        omega arith
