-- The number of a name in a list of names, and lists to which names are added.
use Rattle.std.proofs.Common.{◌≡◌, ℕ, suc, ◌+◌, ◌<◌, ◌≤◌, List, [], ◌∷◌, Bool, true, false, length, refl, ap, sym, ◌∙◌, arith, cond, ◌||◌, map}
use Rattle.std.specs.Prelude.{nat_lt, not, bytes_eq}
use Rattle.std.specs.List.{prefix_len, list_any, position_or_len}
use Rattle.std.proofs.lemmas.List.{length-map}
use Rattle.sel_grammar_text.specs.Names.{number_of, is_among}

prefix_len_map : {X Y : Type 0} (p : Y → Bool) (f : X → Y) (xs : List X) → prefix_len p (map f xs) ≡ prefix_len (λ x. p (f x)) xs
prefix_len_map p f [] = refl
prefix_len_map p f (x ∷ xs) = rw (prefix_len_map p f xs) refl

pub number_of_map : {X : Type 0} (f : X → List ℕ) (xs : List X) (name : List ℕ) → number_of (map f xs) name ≡ prefix_len (λ x. not (bytes_eq (f x) name)) xs
number_of_map f xs name = prefix_len_map (λ other. not (bytes_eq other name)) f xs

any_prefix : (p : List ℕ → Bool) (names : List (List ℕ)) → list_any p names ≡ nat_lt (prefix_len (λ x. not (p x)) names) (length names)
any_prefix p [] = refl
any_prefix p (n ∷ names) = go (p n) refl (any_prefix p names)
  where
    go : (v : Bool) → p n ≡ v → list_any p names ≡ nat_lt (prefix_len (λ x. not (p x)) names) (length names)
        → (v || list_any p names) ≡ nat_lt (cond (not v) (1 + prefix_len (λ x. not (p x)) names) 0) (suc (length names))
    go true e h = grind arith
    go false e h = grind (arith, h)

pub is_among_number : (names : List (List ℕ)) (name : List ℕ) → is_among names name ≡ nat_lt (number_of names name) (length names)
is_among_number names name = any_prefix (λ other. bytes_eq other name) names

-- a number below the length is that of a name in the list
pub is_among_map : {X : Type 0} (f : X → List ℕ) (xs : List X) (name : List ℕ) (n : ℕ) → n ≡ position_or_len (λ x. bytes_eq (f x) name) xs → nat_lt n (length xs) ≡ is_among (map f xs) name
is_among_map f xs name n e =
    ap (λ m. nat_lt m (length xs)) (e ∙ sym (number_of_map f xs name)) ∙ ap (nat_lt (number_of (map f xs) name)) (sym (length-map xs f)) ∙ sym (is_among_number (map f xs) name)

pub number_mapped : {X : Type 0} (f : X → List ℕ) (xs : List X) (name : List ℕ) (n : ℕ) → n ≡ position_or_len (λ x. bytes_eq (f x) name) xs → n ≡ number_of (map f xs) name
number_mapped f xs name n e = e ∙ sym (number_of_map f xs name)

pub among_below : {X : Type 0} (f : X → List ℕ) (xs : List X) (name : List ℕ) (n : ℕ) → n ≡ position_or_len (λ x. bytes_eq (f x) name) xs → n < length xs → is_among (map f xs) name ≡ true
among_below f xs name n e h = let t : nat_lt n (length xs) ≡ true = grind (arith, h) in sym (is_among_map f xs name n e) ∙ t

pub not_among_past : {X : Type 0} (f : X → List ℕ) (xs : List X) (name : List ℕ) (n : ℕ) → n ≡ position_or_len (λ x. bytes_eq (f x) name) xs → length xs ≤ n → is_among (map f xs) name ≡ false
not_among_past f xs name n e h = let t : nat_lt n (length xs) ≡ false = grind (arith, h) in sym (is_among_map f xs name n e) ∙ t
