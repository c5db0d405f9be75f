-- No table is complete where its grammar is too large.
use Rattle.std.proofs.Common.{◌≡◌, ℕ, zero, suc, ◌+◌, ◌≤◌, Option, Some, None, List, [], ◌∷◌, refl, ap, sym, ◌∙◌, slice_get, length, length-append, map, arith}
use Rattle.std.specs.List.{flat_map, range_with_len}
use Rattle.std.proofs.lemmas.Option.{slice_get_within}
use Rattle.sel_items.specs.ChainPasses.{NotIn}
use Rattle.sel_items.proofs.Pigeons.{Distinct, AllBelow, pigeons}
use Rattle.sel_grammar.specs.Limits.{most_operators}
use Rattle.sel_normal.specs.NormalForms.{NormalForm}
use Rattle.sel_items.specs.declared.items.Items.{Items}
use Rattle.sel_items.specs.Follows.{key_of}
use Rattle.sel_full.specs.Builds.{CompleteIsNotTooLarge, States, Rows, Dear}
use Rattle.sel_full.specs.Reach.{IsOneOf}
use Rattle.sel_full.specs.Tables.{kids_by, keys_with, all_keys}
use Rattle.sel_full.proofs.KeyPlaces.{length-map}

-- different items that are all in another list are at most as many
record Places (xs ys : List Items) : Type 0 where
  numbers : List ℕ
  long : length numbers ≡ length xs
  distinct : Distinct numbers
  below : AllBelow (length ys) numbers
  free : (n : ℕ) → ((k : ℕ) (i : Items) → slice_get xs k ≡ Some i → slice_get ys n ≡ Some i → ⊥) → NotIn n numbers

places_in : (xs ys : List Items) → ((i : Items) → IsOneOf xs i → IsOneOf ys i) → ((j k : ℕ) (i : Items) → slice_get xs j ≡ Some i → slice_get xs k ≡ Some i → j ≡ k) → Places xs ys
places_in [] ys sub d = record { numbers = []; long = refl; distinct = tt; below = tt; free = λ n h. tt }
places_in (x ∷ xs) ys sub d =
    let (n, at) = sub x (0, refl) in
    let rest = places_in xs ys (λ i h. let (k, e) = h in sub i (suc k, e)) (λ j k i e f. suc_same (d (suc j) (suc k) i e f)) in record {
      numbers = n ∷ rest.numbers;
      long = ap suc rest.long;
      distinct = (rest.free n (λ k i e q. zero_suc (d 0 (suc k) i (sym at ∙ q) e)), rest.distinct);
      below = (slice_get_within ys n x at, rest.below);
      free = λ m h. ((λ e. h 0 x refl (ap (slice_get ys) e ∙ at)), rest.free m (λ k i e q. h (suc k) i e q));
    }
  where
    suc_same : {a b : ℕ} → suc a ≡ suc b → a ≡ b
    suc_same e = cc

    zero_suc : {k : ℕ} → 0 ≡ suc k → ⊥
    zero_suc e = absurd (omega arith)

at_most : (xs ys : List Items) → ((i : Items) → IsOneOf xs i → IsOneOf ys i) → ((j k : ℕ) (i : Items) → slice_get xs j ≡ Some i → slice_get xs k ≡ Some i → j ≡ k) → length xs ≤ length ys
at_most xs ys sub d = let p = places_in xs ys sub d in let h = pigeons (length ys) p.numbers p.distinct p.below in let l = p.long in omega arith

-- more states have more keys
flat_more : {A B : Type 0} (f f' : A → List B) (w w' : ℕ) → w ≤ w' → ((x : A) → length (f x) ≡ w) → ((x : A) → length (f' x) ≡ w') → (xs ys : List A) → length xs ≤ length ys → length (flat_map f xs) ≤ length (flat_map f' ys)
flat_more f f' w w' l long long' [] ys h = omega arith
flat_more f f' w w' l long long' (x ∷ xs) [] h = absurd (omega arith)
flat_more f f' w w' l long long' (x ∷ xs) (y ∷ ys) h =
    let a = length-append (f x) (flat_map f xs) in let b = length-append (f' y) (flat_map f' ys) in
    let c = long x in let d = long' y in
    let r = flat_more f f' w w' l long long' xs ys (omega arith) in omega arith

keys_more : (normal : NormalForm) (xs ys : List Items) (op : ℕ) (o : Option ℕ) → length xs ≤ length ys → length (keys_with normal xs op o) ≤ length (keys_with normal ys op o)
keys_more normal xs ys op None h = omega arith
keys_more normal xs ys op (Some zero) h = omega arith
keys_more normal xs ys op (Some (suc zero)) h = let a = length-map (λ i. key_of op 0 (i ∷ [])) xs in let b = length-map (λ i. key_of op 0 (i ∷ [])) ys in omega arith
keys_more normal xs ys op (Some (suc (suc n))) h =
    flat_more (λ i. map (λ j. key_of op 0 (i ∷ j ∷ [])) xs) (λ i. map (λ j. key_of op 0 (i ∷ j ∷ [])) ys) (length xs) (length ys) h
    (λ i. length-map (λ j. key_of op 0 (i ∷ j ∷ [])) xs) (λ i. length-map (λ j. key_of op 0 (i ∷ j ∷ [])) ys) xs ys h

range_more : {A : Type 0} (f f' : ℕ → List A) → ((x : ℕ) → length (f x) ≤ length (f' x)) → (n a : ℕ) → length (flat_map f (range_with_len a n)) ≤ length (flat_map f' (range_with_len a n))
range_more f f' h zero a = omega arith
range_more f f' h (suc n) a =
    let b = length-append (f a) (flat_map f (range_with_len (a + 1) n)) in let c = length-append (f' a) (flat_map f' (range_with_len (a + 1) n)) in
    let d = h a in let r = range_more f f' h n (a + 1) in omega arith

all_more : (normal : NormalForm) (xs ys : List Items) → length xs ≤ length ys → length (all_keys normal xs) ≤ length (all_keys normal ys)
all_more normal xs ys h = range_more (λ op. keys_with normal xs op (kids_by normal.rules op)) (λ op. keys_with normal ys op (kids_by normal.rules op)) (λ op. keys_more normal xs ys op (kids_by normal.rules op) h) most_operators 0

pub complete_is_not_too_large : CompleteIsNotTooLarge
complete_is_not_too_large g normal states rows t form complete (States xs are more) =
    let exact = complete.reach g form in
    let h = at_most xs t.states (λ i m. exact.all i (are.reached i m)) are.differ in
    let f = (complete.within).few_states in absurd (omega arith)
complete_is_not_too_large g normal states rows t form complete (Rows xs are more) =
    let exact = complete.reach g form in
    let h = all_more normal xs t.states (at_most xs t.states (λ i m. exact.all i (are.reached i m)) are.differ) in
    let f = (complete.within).few_keys in absurd (omega arith)
complete_is_not_too_large g normal states rows t form complete (Dear i reached dear) = (complete.within).cheap i ((complete.reach g form).all i reached) dear
