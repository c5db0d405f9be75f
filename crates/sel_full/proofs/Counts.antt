-- How many keys there are.
use Rattle.std.proofs.Common.{◌≡◌, ℕ, zero, suc, ◌+◌, ◌-◌, ◌*◌, ◌<◌, ◌≤◌, ◌^◌, inl, inr, Option, Some, None, List, [], ◌∷◌, refl, ap, sym, ◌∙◌, subst, slice_get, length, length-append, map, drop, arith}
use Rattle.std.specs.List.{flat_map, range_with_len}
use Rattle.std.proofs.Math.Nat.{suc-mul}
use Rattle.std.proofs.lemmas.List.FromFn.{length-range_with_len}
use Rattle.sel_base.specs.declared.range.Range.{Range}
use Rattle.sel_grammar.specs.Limits.{most_operators}
use Rattle.sel_range.specs.Classes.{class_of, last_class, Occurs}
use Rattle.sel_range.specs.Limits.{least_number}
use Rattle.sel_range.proofs.Occurring.{class_last, occurs_between, IsBetween}
use Rattle.sel_normal.specs.declared.normal.NormalRule.{NormalRule}
use Rattle.sel_normal.specs.NormalForms.{NormalForm, normal_at}
use Rattle.sel_normal.proofs.Steps.{some_same, some_none}
use Rattle.sel_items.specs.declared.items.Items.{Items}
use Rattle.sel_items.specs.Follows.{key_of}
use Rattle.sel_full.specs.Tables.{occurring, kids_in, or_else, kids_by, keys_with, keys_of, keys_below, key_start, all_keys}
use Rattle.sel_full.proofs.KeyPlaces.{length-map}
use Rattle.sel_full.proofs.KeyRows.{keys_below_next}

-- a list of rules begins with one
kids_drop : (rules : List NormalRule) (k op : ℕ) (rule : NormalRule) → slice_get rules k ≡ Some rule → kids_by (drop k rules) op ≡ or_else (kids_in rule.body op) (kids_by (drop (suc k) rules) op)
kids_drop [] k op rule h = absurd (some_none (sym h))
kids_drop (r ∷ rules) zero op rule h = ap (λ (r : NormalRule). or_else (kids_in r.body op) (kids_by rules op)) (some_same h)
kids_drop (r ∷ rules) (suc k) op rule h = kids_drop rules k op rule h

pub kids_next : (normal : NormalForm) (k op : ℕ) (rule : NormalRule) → normal_at normal (k + 1) ≡ Some rule → kids_by (drop k normal.rules) op ≡ or_else (kids_in rule.body op) (kids_by (drop (k + 1) normal.rules) op)
kids_next normal k op rule h =
    let e : k + 1 ≡ suc k = omega arith in
    let at : normal_at normal (suc k) ≡ Some rule = subst (λ n. normal_at normal n ≡ Some rule) e h in
    kids_drop normal.rules k op rule at ∙ ap (λ n. or_else (kids_in rule.body op) (kids_by (drop n normal.rules) op)) (sym e)

pub get_range : (n a k : ℕ) → k < n → slice_get (range_with_len a n) k ≡ Some (a + k)
get_range zero a k h = absurd (omega arith)
get_range (suc n) a zero h = let e : a ≡ a + 0 = omega arith in ap Some e
get_range (suc n) a (suc k) h = let e : a + 1 + k ≡ a + suc k = omega arith in get_range n (a + 1) k (omega arith) ∙ ap Some e

-- how many classes there are
pub class_count : (tests : List Range) → length (occurring tests) + class_of tests (Some least_number) ≡ last_class tests + 2
class_count tests =
    sum (class_of tests (Some least_number)) (last_class tests) (length (range_with_len (class_of tests (Some least_number)) (last_class tests + 1 - class_of tests (Some least_number))))
    (length-range_with_len (class_of tests (Some least_number)) (last_class tests + 1 - class_of tests (Some least_number))) (class_last tests (Some least_number))
  where
    sum : (f l r : ℕ) → r ≡ l + 1 - f → f ≤ l → suc r + f ≡ l + 2
    sum f l r e h = omega arith

-- the first class and the last one by other names
module _ (tests : List Range) (a b : ℕ) (e : a ≡ class_of tests (Some least_number)) (f : b ≡ last_class tests) where
  pub count_fits : a ≤ b + 2
  count_fits = go (class_of tests (Some least_number)) (last_class tests) e f (class_last tests (Some least_number))
    where
      go : (x y : ℕ) → a ≡ x → b ≡ y → x ≤ y → a ≤ b + 2
      go x y p q h = omega arith

  pub count_is : b + 2 - a ≡ length (occurring tests)
  count_is = go (class_of tests (Some least_number)) (last_class tests) (length (occurring tests)) e f (class_count tests)
    where
      go : (x y n : ℕ) → a ≡ x → b ≡ y → n + x ≡ y + 2 → b + 2 - a ≡ n
      go x y n p q h = omega arith

  pub place_within : (p : ℕ) → p < length (occurring tests) → (p ≡ 0 → ⊥) → a + p ≤ b + 1
  place_within p = go (class_of tests (Some least_number)) (last_class tests) (length (occurring tests)) e f (class_count tests)
    where
      go : (x y n : ℕ) → a ≡ x → b ≡ y → n + x ≡ y + 2 → p < n → (p ≡ 0 → ⊥) → a + p ≤ b + 1
      go x y n s q h l other = omega arith

  -- the class at a place behind the first
  pub class_behind : (p c : ℕ) → p < length (occurring tests) → (p ≡ 0 → ⊥) → c + 1 ≡ a + p → slice_get (occurring tests) p ≡ Some c
  class_behind zero c l other h = absurd (other refl)
  class_behind (suc k) c l other h =
      get_range (last_class tests + 1 - class_of tests (Some least_number)) (class_of tests (Some least_number)) k
      (inside (length-range_with_len (class_of tests (Some least_number)) (last_class tests + 1 - class_of tests (Some least_number))) l) ∙ ap Some (same (class_of tests (Some least_number)) e)
    where
      inside : {r n : ℕ} → r ≡ n → suc k < suc r → k < n
      inside q l = omega arith

      same : (x : ℕ) → a ≡ x → x + k ≡ c
      same x q = omega arith

-- the place of a class behind the first
pub place_fits : (tests : List Range) (a class : ℕ) → a ≡ class_of tests (Some least_number) → Occurs tests class → (class ≡ 0 → ⊥) → a ≤ class + 1
place_fits tests a class e o other = go (occurs_between tests class o)
  where
    fits : (x : ℕ) → a ≡ x → x ≤ class → a ≤ class + 1
    fits x q l = omega arith

    go : IsBetween tests class → a ≤ class + 1
    go (inl z) = absurd (other z)
    go (inr b) = fits (class_of tests (Some least_number)) e b.0

pub place_is : (tests : List Range) (a class : ℕ) → a ≡ class_of tests (Some least_number) → Occurs tests class → (class ≡ 0 → ⊥) → slice_get (occurring tests) (class + 1 - a) ≡ Some class
place_is tests a class e o other = go (occurs_between tests class o)
  where
    within : (x y n : ℕ) → a ≡ x → n + x ≡ y + 2 → x ≤ class → class ≤ y → class + 1 - a < n
    within x y n p h l m = omega arith

    some : (x : ℕ) → a ≡ x → x ≤ class → class + 1 - a ≡ 0 → ⊥
    some x p l z = omega arith

    sum : (x : ℕ) → a ≡ x → x ≤ class → class + 1 ≡ a + (class + 1 - a)
    sum x p l = omega arith

    go : IsBetween tests class → slice_get (occurring tests) (class + 1 - a) ≡ Some class
    go (inl z) = absurd (other z)
    go (inr b) =
        class_behind tests a (last_class tests) e refl (class + 1 - a) class
        (within (class_of tests (Some least_number)) (last_class tests) (length (occurring tests)) e (class_count tests) b.0 b.1)
        (some (class_of tests (Some least_number)) e b.0) (sum (class_of tests (Some least_number)) e b.0)

length-grid : {A B : Type 0} (f : A → List B) (w : ℕ) → ((x : A) → length (f x) ≡ w) → (xs : List A) → length (flat_map f xs) ≡ length xs * w
length-grid f w l [] = let e : 0 * w ≡ 0 = omega arith in sym e
length-grid f w l (x ∷ xs) = let a = length-append (f x) (flat_map f xs) in let b = l x in let c = length-grid f w l xs in let s = suc-mul (length xs) w in omega arith

pub leaf_keys : (normal : NormalForm) (xs : List Items) (op : ℕ) → length (keys_with normal xs op (Some 0)) ≡ length (occurring normal.tests)
leaf_keys normal xs op = length-map (λ class. key_of op class []) (occurring normal.tests)

pub one_keys : (normal : NormalForm) (xs : List Items) (op : ℕ) → length (keys_with normal xs op (Some 1)) ≡ length xs
one_keys normal xs op = length-map (λ i. key_of op 0 (i ∷ [])) xs

pub two_keys : (normal : NormalForm) (xs : List Items) (op k : ℕ) → 2 ≤ k → length (keys_with normal xs op (Some k)) ≡ length xs * length xs
two_keys normal xs op zero h = absurd (omega arith)
two_keys normal xs op (suc zero) h = absurd (omega arith)
two_keys normal xs op (suc (suc k)) h = length-grid (λ i. map (λ j. key_of op 0 (i ∷ j ∷ [])) xs) (length xs) (λ i. length-map (λ j. key_of op 0 (i ∷ j ∷ [])) xs) xs

start_suc : (normal : NormalForm) (xs : List Items) (op : ℕ) → key_start normal xs (suc op) ≡ key_start normal xs op + length (keys_of normal xs op)
start_suc normal xs op = ap length (keys_below_next normal xs op) ∙ length-append (keys_below normal xs op) (keys_of normal xs op)

pub start_next : (normal : NormalForm) (xs : List Items) (op : ℕ) → key_start normal xs (op + 1) ≡ key_start normal xs op + length (keys_of normal xs op)
start_next normal xs op = let e : op + 1 ≡ suc op = omega arith in ap (key_start normal xs) e ∙ start_suc normal xs op

start_more : (normal : NormalForm) (xs : List Items) (d op n : ℕ) → n ≡ op + d → key_start normal xs op ≤ key_start normal xs n
start_more normal xs zero op n q = let e : op ≡ n = omega arith in subst (λ o. key_start normal xs op ≤ key_start normal xs o) e (omega arith)
start_more normal xs (suc d) op n q =
    let e : suc (op + d) ≡ n = omega arith in
    subst (λ o. key_start normal xs op ≤ key_start normal xs o) e
    (sum (key_start normal xs op) (key_start normal xs (op + d)) (key_start normal xs (suc (op + d))) (length (keys_of normal xs (op + d))) (start_more normal xs d op (op + d) refl) (start_suc normal xs (op + d)))
  where
    sum : (a b c k : ℕ) → a ≤ b → c ≡ b + k → a ≤ c
    sum a b c k h e = omega arith

-- the keys of an operator are no more than all, over as many keys as there are numbers
pub start_within : (normal : NormalForm) (xs : List Items) (op n : ℕ) → n ≡ length (all_keys normal xs) → op < most_operators → key_start normal xs op + length (keys_of normal xs op) ≤ n
start_within normal xs op n e h =
    let q : most_operators ≡ suc op + (most_operators - suc op) = omega arith in
    sum (key_start normal xs op) (length (keys_of normal xs op)) (key_start normal xs (suc op)) (key_start normal xs most_operators) e (start_suc normal xs op)
    (start_more normal xs (most_operators - suc op) (suc op) most_operators q)
  where
    sum : (a k b c : ℕ) → n ≡ c → b ≡ a + k → b ≤ c → a + k ≤ n
    sum a k b c e f g = omega arith

-- two states for each place fit where all keys do
pub pairs_fit : (normal : NormalForm) (xs : List Items) (op n k : ℕ) (kids : Option ℕ) → n ≡ length xs → op < most_operators → kids ≡ kids_by normal.rules op → kids ≡ Some k → 2 ≤ k → length (all_keys normal xs) < 2 ^ 64 → n * n < 2 ^ 64
pairs_fit normal xs op n k kids e below by is two fits =
    sum (key_start normal xs op) (n * n) (length (all_keys normal xs)) (subst (λ m. key_start normal xs op + m ≤ length (all_keys normal xs)) same (start_within normal xs op (length (all_keys normal xs)) refl below)) fits
  where
    sum : (a b c : ℕ) → a + b ≤ c → c < 2 ^ 64 → b < 2 ^ 64
    sum a b c h l = omega arith

    same : length (keys_of normal xs op) ≡ n * n
    same = ap (λ o. length (keys_with normal xs op o)) (sym by ∙ is) ∙ two_keys normal xs op k two ∙ ap (λ m. m * m) (sym e)

pub two_or_more : (k : ℕ) → (k ≡ 0 → ⊥) → (k ≡ 1 → ⊥) → 2 ≤ k
two_or_more zero a b = absurd (a refl)
two_or_more (suc zero) a b = absurd (b refl)
two_or_more (suc (suc k)) a b = omega arith

-- how many keys there are rests on how many states there are alone
with_same : (normal : NormalForm) (xs ys : List Items) (op : ℕ) (o : Option ℕ) → length xs ≡ length ys → length (keys_with normal xs op o) ≡ length (keys_with normal ys op o)
with_same normal xs ys op None h = refl
with_same normal xs ys op (Some zero) h = refl
with_same normal xs ys op (Some (suc zero)) h = one_keys normal xs op ∙ h ∙ sym (one_keys normal ys op)
with_same normal xs ys op (Some (suc (suc k))) h = two_keys normal xs op (suc (suc k)) (omega arith) ∙ ap (λ n. n * n) h ∙ sym (two_keys normal ys op (suc (suc k)) (omega arith))

below_same : (normal : NormalForm) (xs ys : List Items) (op : ℕ) → length xs ≡ length ys → key_start normal xs op ≡ key_start normal ys op
below_same normal xs ys zero h = refl
below_same normal xs ys (suc op) h =
    start_suc normal xs op ∙ ap (λ n. n + length (keys_of normal xs op)) (below_same normal xs ys op h) ∙ ap (λ n. key_start normal ys op + n) (with_same normal xs ys op (kids_by normal.rules op) h) ∙ sym (start_suc normal ys op)

pub all_same : (normal : NormalForm) (xs ys : List Items) → length xs ≡ length ys → length (all_keys normal xs) ≡ length (all_keys normal ys)
all_same normal xs ys h = below_same normal xs ys most_operators h

-- all operators
pub whole_start : (normal : NormalForm) (xs : List Items) (op n : ℕ) → most_operators ≤ op → op ≤ most_operators → key_start normal xs op ≡ n → length (all_keys normal xs) ≡ n
whole_start normal xs op n h k e = let q : op ≡ most_operators = omega arith in subst (λ o. key_start normal xs o ≡ n) q e
