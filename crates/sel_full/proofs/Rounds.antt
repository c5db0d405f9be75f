-- Loops over keys, and the rounds of a build.
use Rattle.std.proofs.Common.{◌≡◌, ℕ, zero, suc, ◌+◌, ◌<◌, ◌≤◌, Option, Some, None, List, [], ◌∷◌, ◌++◌, refl, ap, sym, ◌∙◌, subst, slice_get, length, length-append, map, take, arith}
use Rattle.sel_base.specs.declared.range.Range.{Range}
use Rattle.sel_grammar.specs.Limits.{most_operators}
use Rattle.sel_range.specs.Classes.{Occurs}
use Rattle.sel_normal.specs.NormalForms.{NormalForm}
use Rattle.sel_items.specs.declared.items.Items.{Items}
use Rattle.sel_items.specs.Follows.{NodeKey, key_of}
use Rattle.sel_full.specs.Finding.{leaf_keys, kid_keys, leaf_keys_below, kid_keys_below, keys_up_to, build_keys}
use Rattle.sel_full.specs.Tables.{occurring, kids_by}
use Rattle.sel_full.specs.Taking.{key_at, MayTake, Took, TookTo}
use Rattle.sel_full.proofs.KeyRows.{take_next}
use Rattle.sel_full.proofs.KeySteps.{two_may, one_key, two_key}
use Rattle.sel_full.proofs.ListPlaces.{get_left, get_back, within_get, take_left, flat_next, take_whole}
use Rattle.sel_full.proofs.Taken.{took_none, took_both, took_next}

long_more : (normal : NormalForm) (a b : List Items) (ks : List NodeKey) → Took normal a b ks → length a ≤ length b
long_more normal a b ks t = let e = ap length t.grown ∙ length-append a t.added in omega arith

get_more : (normal : NormalForm) (a b : List Items) (ks : List NodeKey) (k : ℕ) (i : Items) → Took normal a b ks → slice_get a k ≡ Some i → slice_get b k ≡ Some i
get_more normal a b ks k i t h = subst (λ xs. slice_get xs k ≡ Some i) (sym t.grown) (get_left a t.added k i h)

get_same : (normal : NormalForm) (a b : List Items) (ks : List NodeKey) (k : ℕ) → Took normal a b ks → k < length a → slice_get b k ≡ slice_get a k
get_same normal a b ks k t h = ap (λ xs. slice_get xs k) t.grown ∙ get_back a t.added k h

take_same : (normal : NormalForm) (a b : List Items) (ks : List NodeKey) (k : ℕ) → Took normal a b ks → k ≤ length a → take k b ≡ take k a
take_same normal a b ks k t h = ap (take k) t.grown ∙ take_left a t.added k h

-- classes
pub class_next : (normal : NormalForm) (a b c : List Items) (op k class : ℕ) (tests : List Range) → tests ≡ normal.tests → slice_get (occurring tests) k ≡ Some class
    → Took normal a b (map (λ class. key_of op class []) (take k (occurring normal.tests))) → Took normal b c (key_at b op class None None ∷ []) → Took normal a c (map (λ class. key_of op class []) (take (k + 1) (occurring normal.tests)))
class_next normal a b c op k class tests e at h step = took_next normal a b c (λ class. key_of op class []) (occurring normal.tests) k class (subst (λ ts. slice_get (occurring ts) k ≡ Some class) e at) h step

pub class_may : (normal : NormalForm) (class : ℕ) (tests : List Range) → tests ≡ normal.tests → Occurs tests class → Occurs normal.tests class
class_may normal class tests e h = subst (λ ts. Occurs ts class) e h

pub class_end : (normal : NormalForm) (a b : List Items) (op k : ℕ) (tests : List Range) → tests ≡ normal.tests → length (occurring tests) ≤ k
    → Took normal a b (map (λ class. key_of op class []) (take k (occurring normal.tests))) → Took normal a b (map (λ class. key_of op class []) (occurring normal.tests))
class_end normal a b op k tests e l h = subst (λ ys. Took normal a b (map (λ class. key_of op class []) ys)) (take_whole (occurring normal.tests) k (subst (λ ts. length (occurring ts) ≤ k) e l)) h

-- operators
pub leaves_next : (normal : NormalForm) (a b c : List Items) (op : ℕ) → Took normal a b (leaf_keys_below normal op) → Took normal b c (leaf_keys normal op (kids_by normal.rules op)) → Took normal a c (leaf_keys_below normal (op + 1))
unfolding leaf_keys_below
leaves_next normal a b c op h step =
    subst (Took normal a c) (sym (flat_next (λ op. leaf_keys normal op (kids_by normal.rules op)) op)) (took_both normal a b c (leaf_keys_below normal op) (leaf_keys normal op (kids_by normal.rules op)) h step)

pub leaves_none : (normal : NormalForm) (a : List Items) → Took normal a a (leaf_keys_below normal 0)
unfolding leaf_keys_below
leaves_none normal a = took_none normal a

pub leaves_end : (normal : NormalForm) (a b : List Items) (op : ℕ) → most_operators ≤ op → op ≤ most_operators → Took normal a b (leaf_keys_below normal op) → Took normal a b (leaf_keys_below normal most_operators)
leaves_end normal a b op l m h = let e : op ≡ most_operators = omega arith in subst (λ o. Took normal a b (leaf_keys_below normal o)) e h

pub leaf_by : (normal : NormalForm) (a b : List Items) (op : ℕ) (kids : Option ℕ) → kids ≡ kids_by normal.rules op → Took normal a b (leaf_keys normal op kids) → Took normal a b (leaf_keys normal op (kids_by normal.rules op))
leaf_by normal a b op kids e h = subst (λ o. Took normal a b (leaf_keys normal op o)) e h

pub no_leaf : (normal : NormalForm) (a : List Items) (op k : ℕ) → (k ≡ 0 → ⊥) → Took normal a a (leaf_keys normal op (Some k))
no_leaf normal a op zero h = absurd (h refl)
no_leaf normal a op (suc k) h = took_none normal a

pub zero_leaf : (normal : NormalForm) (a b : List Items) (op k : ℕ) → k ≡ 0 → Took normal a b (map (λ class. key_of op class []) (occurring normal.tests)) → Took normal a b (leaf_keys normal op (Some k))
zero_leaf normal a b op k e h = subst (λ k. Took normal a b (leaf_keys normal op (Some k))) (sym e) h

-- pairs
abbrev pub Lefts : NormalForm → ℕ → ℕ → List Items → List Items → ℕ → Type 0
Lefts normal op last a b other = (i : Items) → slice_get a last ≡ Some i → Took normal a b (map (λ j. key_of op 0 (j ∷ i ∷ [])) (take other a))

abbrev pub Rights : NormalForm → ℕ → ℕ → List Items → List Items → ℕ → Type 0
Rights normal op last a b other = (i : Items) → slice_get a last ≡ Some i → Took normal a b (map (λ j. key_of op 0 (i ∷ j ∷ [])) (take other a))

pub left_may : (normal : NormalForm) (op last : ℕ) (a b : List Items) (other : ℕ) → kids_by normal.rules op ≡ Some 2 → last < length a → other < last → Lefts normal op last a b other → MayTake normal b op 0 (Some other) (Some last)
left_may normal op last a b other by l m h =
    let (i, at) = within_get a last l in
    let w = long_more normal a b (map (λ j. key_of op 0 (j ∷ i ∷ [])) (take other a)) (h i at) in
    two_may normal b op other last by (omega arith) (omega arith)

pub right_may : (normal : NormalForm) (op last : ℕ) (a b : List Items) (other : ℕ) → kids_by normal.rules op ≡ Some 2 → last < length a → other < last + 1 → Rights normal op last a b other → MayTake normal b op 0 (Some last) (Some other)
right_may normal op last a b other by l m h =
    let (i, at) = within_get a last l in
    let w = long_more normal a b (map (λ j. key_of op 0 (i ∷ j ∷ [])) (take other a)) (h i at) in
    two_may normal b op last other by (omega arith) (omega arith)

pub left_next : (normal : NormalForm) (op last : ℕ) (a b c : List Items) (other : ℕ) → last < length a → other < last → Lefts normal op last a b other → Took normal b c (key_at b op 0 (Some other) (Some last) ∷ []) → Lefts normal op last a c (other + 1)
left_next normal op last a b c other l m h step i at =
    let (x, there) = within_get a other (omega arith) in
    let t = h i at in
    let ks = map (λ j. key_of op 0 (j ∷ i ∷ [])) (take other a) in
    took_next normal a b c (λ j. key_of op 0 (j ∷ i ∷ [])) a other x there t
    (subst (λ k. Took normal b c (k ∷ [])) (two_key b op other last x i (get_more normal a b ks other x t there) (get_more normal a b ks last i t at)) step)

pub right_next : (normal : NormalForm) (op last : ℕ) (a b c : List Items) (other : ℕ) → last < length a → other < last + 1 → Rights normal op last a b other → Took normal b c (key_at b op 0 (Some last) (Some other) ∷ []) → Rights normal op last a c (other + 1)
right_next normal op last a b c other l m h step i at =
    let (x, there) = within_get a other (omega arith) in
    let t = h i at in
    let ks = map (λ j. key_of op 0 (i ∷ j ∷ [])) (take other a) in
    took_next normal a b c (λ j. key_of op 0 (i ∷ j ∷ [])) a other x there t
    (subst (λ k. Took normal b c (k ∷ [])) (two_key b op last other i x (get_more normal a b ks last i t at) (get_more normal a b ks other x t there)) step)

pub left_end : (normal : NormalForm) (op last : ℕ) (a b : List Items) (other : ℕ) → last ≤ other → other ≤ last → Lefts normal op last a b other → Lefts normal op last a b last
left_end normal op last a b other l m h = let e : other ≡ last = omega arith in subst (Lefts normal op last a b) e h

pub right_end : (normal : NormalForm) (op last : ℕ) (a b : List Items) (other : ℕ) → last + 1 ≤ other → other ≤ last + 1 → Rights normal op last a b other → Rights normal op last a b (last + 1)
right_end normal op last a b other l m h = let e : other ≡ last + 1 = omega arith in subst (Rights normal op last a b) e h

-- an operator's keys in a round
abbrev pub Operator : NormalForm → ℕ → ℕ → List Items → List Items → Option ℕ → Type 0
Operator normal op last a b kids = (i : Items) → slice_get a last ≡ Some i → Took normal a b (kid_keys (take last a) i op kids)

pub operator_by : (normal : NormalForm) (op last : ℕ) (a b : List Items) (kids : Option ℕ) → kids ≡ kids_by normal.rules op → Operator normal op last a b kids → Operator normal op last a b (kids_by normal.rules op)
operator_by normal op last a b kids e h = subst (Operator normal op last a b) e h

pub operator_none : (normal : NormalForm) (op last : ℕ) (a : List Items) → Operator normal op last a a None
operator_none normal op last a i at = took_none normal a

pub operator_zero : (normal : NormalForm) (op last : ℕ) (a : List Items) (k : ℕ) → k ≡ 0 → Operator normal op last a a (Some k)
operator_zero normal op last a k e = subst (λ k. Operator normal op last a a (Some k)) (sym e) (λ i at. took_none normal a)

pub operator_one : (normal : NormalForm) (op last : ℕ) (a b : List Items) (k : ℕ) → k ≡ 1 → Took normal a b (key_at a op 0 (Some last) None ∷ []) → Operator normal op last a b (Some k)
operator_one normal op last a b k e h = subst (λ k. Operator normal op last a b (Some k)) (sym e) (λ i at. subst (λ k. Took normal a b (k ∷ [])) (one_key a op last i at) h)

pub operator_two : (normal : NormalForm) (op last : ℕ) (a b c : List Items) (k : ℕ) → k ≡ 2 → last < length a → Lefts normal op last a b last → Rights normal op last b c (last + 1) → Operator normal op last a c (Some k)
operator_two normal op last a b c k e l h h' = subst (λ k. Operator normal op last a c (Some k)) (sym e) both
  where
    both : Operator normal op last a c (Some 2)
    both i at =
        let t = h i at in
        let ks = map (λ j. key_of op 0 (j ∷ i ∷ [])) (take last a) in
        let e : last + 1 ≡ suc last = omega arith in
        let q : take (last + 1) b ≡ take last a ++ i ∷ [] = take_same normal a b ks (last + 1) t (omega arith) ∙ (ap (λ n. take n a) e ∙ take_next a last i at) in
        took_both normal a b c ks (map (λ j. key_of op 0 (i ∷ j ∷ [])) (take last a ++ i ∷ [])) t
        (subst (λ ys. Took normal b c (map (λ j. key_of op 0 (i ∷ j ∷ [])) ys)) q (h' i (get_more normal a b ks last i t at)))

pub lefts_within : (normal : NormalForm) (op last : ℕ) (a b : List Items) → last < length a → Lefts normal op last a b last → last < length b
lefts_within normal op last a b l h =
    let (i, at) = within_get a last l in
    let w = long_more normal a b (map (λ j. key_of op 0 (j ∷ i ∷ [])) (take last a)) (h i at) in omega arith

pub two_kids : (k : ℕ) → (k ≡ 0 → ⊥) → (k ≡ 1 → ⊥) → k ≤ 2 → k ≡ 2
two_kids k a b h = grind arith

-- a round
abbrev pub Round : NormalForm → ℕ → List Items → List Items → ℕ → Type 0
Round normal last a b op = (i : Items) → slice_get a last ≡ Some i → Took normal a b (kid_keys_below normal (take last a) i op)

pub round_within : (normal : NormalForm) (last : ℕ) (a b : List Items) (op : ℕ) → last < length a → Round normal last a b op → last < length b
round_within normal last a b op l h =
    let (i, at) = within_get a last l in
    let w = long_more normal a b (kid_keys_below normal (take last a) i op) (h i at) in omega arith

pub round_next : (normal : NormalForm) (last : ℕ) (a b c : List Items) (op : ℕ) → last < length a → Round normal last a b op → Operator normal op last b c (kids_by normal.rules op) → Round normal last a c (op + 1)
unfolding kid_keys_below
round_next normal last a b c op l h step i at =
    let t = h i at in
    let ks = kid_keys_below normal (take last a) i op in
    subst (Took normal a c) (sym (flat_next (λ op. kid_keys (take last a) i op (kids_by normal.rules op)) op))
    (took_both normal a b c ks (kid_keys (take last a) i op (kids_by normal.rules op)) t
    (subst (λ ys. Took normal b c (kid_keys ys i op (kids_by normal.rules op))) (take_same normal a b ks last t (omega arith)) (step i (get_more normal a b ks last i t at))))

pub round_none : (normal : NormalForm) (last : ℕ) (a : List Items) → Round normal last a a 0
unfolding kid_keys_below
round_none normal last a i at = took_none normal a

pub round_end : (normal : NormalForm) (last : ℕ) (a b : List Items) (op : ℕ) → last < length a → most_operators ≤ op → op ≤ most_operators → Round normal last a b op → Took normal a b (keys_up_to normal (take last a) (slice_get a last))
round_end normal last a b op l m n h =
    let (i, at) = within_get a last l in
    let e : op ≡ most_operators = omega arith in
    subst (λ o. Took normal a b (keys_up_to normal (take last a) o)) (sym at) (subst (λ o. Took normal a b (kid_keys_below normal (take last a) i o)) e (h i at))

-- all rounds
pub keys_grown : (normal : NormalForm) (a b : List Items) (ks : List NodeKey) (k : ℕ) → Took normal a b ks → k ≤ length a → build_keys normal b k ≡ build_keys normal a k
keys_grown normal a b ks zero t h = refl
keys_grown normal a b ks (suc k) t h =
    let r : build_keys normal b k ≡ build_keys normal a k = keys_grown normal a b ks k t (omega arith) in
    ap (λ ys. ys ++ keys_up_to normal (take k b) (slice_get b k)) r
    ∙ (ap (λ ys. build_keys normal a k ++ keys_up_to normal ys (slice_get b k)) (take_same normal a b ks k t (omega arith))
    ∙ ap (λ o. build_keys normal a k ++ keys_up_to normal (take k a) o) (get_same normal a b ks k t (omega arith)))

pub rounds_begin : (normal : NormalForm) (a b : List Items) → length a ≡ 1 → Took normal a b (leaf_keys_below normal most_operators) → TookTo normal b 0
rounds_begin normal [] b e t = absurd (omega arith)
rounds_begin normal (x ∷ []) b e t = record { empty = x; took = t }
rounds_begin normal (x ∷ y ∷ xs) b e t = absurd (omega arith)

pub rounds_some : (normal : NormalForm) (a b : List Items) (ks : List NodeKey) → length a ≡ 1 → Took normal a b ks → 0 ≤ length b
rounds_some normal a b ks e t = omega arith

pub rounds_next : (normal : NormalForm) (a b : List Items) (k : ℕ) → k < length a → TookTo normal a k → Took normal a b (keys_up_to normal (take k a) (slice_get a k)) → TookTo normal b (k + 1)
rounds_next normal a b k l to step =
    let e : suc k ≡ k + 1 = omega arith in
    let ks = keys_up_to normal (take k a) (slice_get a k) in
    let q : build_keys normal a (suc k) ≡ build_keys normal b (suc k) = sym (keys_grown normal a b ks (suc k) step (omega arith)) in
    record { empty = to.empty; took = subst (λ n. Took normal (to.empty ∷ []) b (build_keys normal b n)) e (subst (Took normal (to.empty ∷ []) b) q (took_both normal (to.empty ∷ []) a b (build_keys normal a k) ks to.took step)) }

pub rounds_more : (normal : NormalForm) (a b : List Items) (ks : List NodeKey) (k : ℕ) → k < length a → Took normal a b ks → k + 1 ≤ length b
rounds_more normal a b ks k l t = let w = long_more normal a b ks t in omega arith

pub rounds_end : (normal : NormalForm) (a : List Items) (k : ℕ) → k ≡ length a → TookTo normal a k → TookTo normal a (length a)
rounds_end normal a k e h = subst (TookTo normal a) e h

pub not_end : (k n m : ℕ) → k ≤ n → m ≡ n → (k ≡ m → ⊥) → k < n
not_end k n m h e other = grind arith
