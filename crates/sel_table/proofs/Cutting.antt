-- Texts cut at separators, and put together from parts that lack them.
use Rattle.std.proofs.Common.{◌≡◌, ℕ, suc, ◌+◌, ◌<◌, ◌==◌, Bool, true, false, List, [], ◌∷◌, ◌++◌, Option, Some, None, All, length, take, drop, map, flat_map, get_or, refl, ap, sym, ◌∙◌, subst, arith, append-nil, take-append-drop, drop-cons, get_or-take, length-take, length-append, true≢false}
use Rattle.std.specs.List.{join_with_byte}
use Rattle.std.proofs.lemmas.List.Elements.{All-from_get_or, All-head, All-tail}
use Rattle.std.proofs.lemmas.List.Splits.{slice_split_none, slice_split_at, join_with_byte-slice_split}
use Rattle.memchr.specs.Find.{IsFirstByte, is_byte}
use Rattle.sel_table.specs.LineReading.{parts_of, Lacks, with_rest}
use Rattle.std.specs.Borrow.{Bor}

not_true : (x : Bool) → (x ≡ true → ⊥) → x ≡ false
not_true true h = absurd (h refl)
not_true false h = refl

same : (c : ℕ) → (c == c) ≡ true
same c = grind arith

is_same : (b c : ℕ) → (b == c) ≡ true → b ≡ c
is_same b c h = grind arith

-- what memchr says
pub found_lacks : (c at : ℕ) (bytes : List ℕ) → IsFirstByte (is_byte c) bytes (Some at) → Lacks c (take at bytes)
found_lacks c at bytes (before, here) =
    let high = before.high in
    All-from_get_or (λ b. (b == c) ≡ false) (take at bytes) 0
    (λ i lt. let l : i < at = omega (arith, length-take at bytes, lt) in subst (λ b. (b == c) ≡ false) (sym (get_or-take at bytes i 0 l)) (not_true _ (before.before i (omega arith) l)))

pub found_whole : (c at : ℕ) (bytes : List ℕ) → IsFirstByte (is_byte c) bytes (Some at) → bytes ≡ take at bytes ++ (c ∷ drop (at + 1) bytes)
found_whole c at bytes (before, here) =
    let high = before.high in
    let one : at + 1 ≡ suc at = omega arith in
    sym (take-append-drop at bytes)
    ∙ ap (λ rest. take at bytes ++ rest) (drop-cons bytes at 0 high ∙ ap (λ b. b ∷ drop (suc at) bytes) (is_same (get_or bytes at 0) c here) ∙ ap (λ n. c ∷ drop n bytes) (sym one))

pub none_lacks : (c : ℕ) (bytes : List ℕ) → IsFirstByte (is_byte c) bytes None → Lacks c bytes
none_lacks c bytes h = All-from_get_or (λ b. (b == c) ≡ false) bytes 0 (λ i lt. not_true _ (h i (omega arith) lt))

-- a text's first part, where something that lacks the separator stands before one
pub first_part_is : (c : ℕ) (part rest bytes : List ℕ) → Lacks c part → bytes ≡ part ++ (c ∷ rest) → parts_of c bytes ≡ part ∷ parts_of c rest
first_part_is c part rest bytes lacks e = ap (parts_of c) e ∙ slice_split_at (λ b. b == c) part c rest lacks (same c)

-- a text with one part is that part
pub one_part : (c : ℕ) (bytes part : List ℕ) → parts_of c bytes ≡ part ∷ [] → bytes ≡ part
one_part c bytes part e = sym (join_with_byte-slice_split c bytes) ∙ ap (join_with_byte c) e

abbrev pub parts_behind : ℕ → Option (Bor (List ℕ)) → List (List ℕ)
parts_behind c None = []
parts_behind c (Some rest) = parts_of c rest.now

-- what a cut says of the parts
pub cut_parts : (c : ℕ) (bytes part : List ℕ) (rest : Option (Bor (List ℕ))) → Lacks c part → bytes ≡ part ++ with_rest c rest → parts_of c bytes ≡ part ∷ parts_behind c rest
cut_parts c bytes part None lacks e = ap (parts_of c) (e ∙ append-nil part) ∙ slice_split_none (λ b. b == c) part lacks
cut_parts c bytes part (Some rest) lacks e = first_part_is c part rest.now bytes lacks e

pub whole_lacks : (c : ℕ) (bytes part : List ℕ) (rest : Option (Bor (List ℕ))) → Lacks c part → bytes ≡ part ++ with_rest c rest → rest ≡ None → Lacks c bytes
whole_lacks c bytes part rest lacks e none = subst (Lacks c) (sym (e ∙ ap (λ r. part ++ with_rest c r) none ∙ append-nil part)) lacks

pub cut_shorter : (c : ℕ) (bytes part rest : List ℕ) → bytes ≡ part ++ (c ∷ rest) → length rest < length bytes
cut_shorter c bytes part rest e = omega (arith, ap length e, length-append part (c ∷ rest))

pub parts_some : (c : ℕ) (bytes : List ℕ) → parts_of c bytes ≡ [] → ⊥
parts_some c bytes e = go bytes (sym (join_with_byte-slice_split c bytes) ∙ ap (join_with_byte c) e) e
  where
    go : (xs : List ℕ) → xs ≡ [] → parts_of c xs ≡ [] → ⊥
    go [] q e = cc
    go (x ∷ xs) q e = cc

-- where a separator stands, the text doesn't lack it
pub separator_stands : (c : ℕ) (xs ys bytes : List ℕ) → Lacks c bytes → bytes ≡ xs ++ (c ∷ ys) → ⊥
separator_stands c xs ys bytes lacks e = go xs (subst (Lacks c) e lacks)
  where
    go : (xs : List ℕ) → Lacks c (xs ++ (c ∷ ys)) → ⊥
    go [] h = let differs = All-head (λ b. (b == c) ≡ false) c ys h in absurd (true≢false (sym (same c) ∙ differs))
    go (x ∷ xs) h = go xs (All-tail (λ b. (b == c) ≡ false) x (xs ++ (c ∷ ys)) h)

-- texts of items, with the separator between any two
module _ {A : Type 0} (text : A → List ℕ) (c : ℕ) where
  abbrev pub behind : List A → List ℕ
  behind xs = flat_map (λ e. c ∷ text e) xs

  pub split_items : (x : A) (xs : List A) → Lacks c (text x) → All (λ e. Lacks c (text e)) xs → parts_of c (text x ++ behind xs) ≡ map text (x ∷ xs)
  split_items x [] lacks all = ap (parts_of c) (append-nil (text x)) ∙ slice_split_none (λ b. b == c) (text x) lacks
  split_items x (y ∷ ys) lacks all =
      first_part_is c (text x) (text y ++ behind ys) (text x ++ behind (y ∷ ys)) lacks refl
      ∙ ap (λ parts. text x ∷ parts) (split_items y ys (All-head (λ e. Lacks c (text e)) y ys all) (All-tail (λ e. Lacks c (text e)) y ys all))

  join_items : (x : A) (xs : List A) → join_with_byte c (map text (x ∷ xs)) ≡ text x ++ behind xs
  join_items x [] = sym (append-nil (text x))
  join_items x (y ∷ ys) = ap (λ rest. text x ++ (c ∷ rest)) (join_items y ys)

  pub spelled_items : (bytes : List ℕ) (x : A) (xs : List A) → parts_of c bytes ≡ map text (x ∷ xs) → bytes ≡ text x ++ behind xs
  spelled_items bytes x xs e = sym (join_with_byte-slice_split c bytes) ∙ ap (join_with_byte c) e ∙ join_items x xs

  -- a part among texts of items is the text of one
  pub part_of_items : (IsSuch : A → Type 0) (items : List A) (xs ys : List (List ℕ)) (part : List ℕ) → All IsSuch items → map text items ≡ xs ++ (part ∷ ys) → (a : A) × IsSuch a × (part ≡ text a)
  part_of_items IsSuch [] [] ys part all e = cc
  part_of_items IsSuch [] (x ∷ xs) ys part all e = cc
  part_of_items IsSuch (a ∷ more) [] ys part all e = (a, All-head IsSuch a more all, cc)
  part_of_items IsSuch (a ∷ more) (x ∷ xs) ys part all e = part_of_items IsSuch more xs ys part (All-tail IsSuch a more all) cc

pub heads : {A : Type 0} {x y : A} {xs ys : List A} → x ∷ xs ≡ y ∷ ys → x ≡ y
heads e = cc

pub tails : {A : Type 0} {x y : A} {xs ys : List A} → x ∷ xs ≡ y ∷ ys → xs ≡ ys
tails e = cc

pub both : {A : Type 0} {x y : A} {xs ys : List A} → x ≡ y → xs ≡ ys → x ∷ xs ≡ y ∷ ys
both p q = λ i. p i ∷ q i

-- what stands before the first separator, and what stands behind it, are one of each
pub one_cut : (c : ℕ) (xs ys a b : List ℕ) → Lacks c xs → Lacks c ys → xs ++ (c ∷ a) ≡ ys ++ (c ∷ b) → (xs ≡ ys) × (a ≡ b)
one_cut c [] [] a b h k e = (refl, tails e)
one_cut c [] (y ∷ ys) a b h k e = let differs = All-head (λ b. (b == c) ≡ false) y ys k in absurd (true≢false (sym (same c) ∙ ap (λ z. z == c) (heads e) ∙ differs))
one_cut c (x ∷ xs) [] a b h k e = let differs = All-head (λ b. (b == c) ≡ false) x xs h in absurd (true≢false (sym (same c) ∙ ap (λ z. z == c) (sym (heads e)) ∙ differs))
one_cut c (x ∷ xs) (y ∷ ys) a b h k e =
    let (p, q) = one_cut c xs ys a b (All-tail (λ b. (b == c) ≡ false) x xs h) (All-tail (λ b. (b == c) ≡ false) y ys k) (tails e) in
    (both (heads e) p, q)

-- the rest is there, and is this
abbrev pub IsRest : Option (Bor (List ℕ)) → List ℕ → Type 0
IsRest None bytes = ⊥
IsRest (Some rest) bytes = rest.now ≡ bytes

-- what a cut says of a text that is put together from two
pub cut_text : (c : ℕ) (bytes part : List ℕ) (rest : Option (Bor (List ℕ))) (x y : List ℕ) → Lacks c part → bytes ≡ part ++ with_rest c rest → Lacks c x → bytes ≡ x ++ (c ∷ y) → (part ≡ x) × IsRest rest y
cut_text c bytes part None x y lacks whole k e = absurd (separator_stands c x y bytes (whole_lacks c bytes part None lacks whole refl) e)
cut_text c bytes part (Some rest) x y lacks whole k e = let (p, q) = one_cut c part x rest.now y lacks k (sym whole ∙ e) in (p, q)
