-- Numbers of keys, one behind the other.
use Rattle.std.proofs.Common.{◌≡◌, ℕ, suc, ◌+◌, ◌<◌, ◌≤◌, inl, inr, Option, Some, None, MatchOption, List, [], ◌∷◌, ◌++◌, refl, ap, sym, ◌∙◌, subst, slice_get, length, length-append, map, take, arith}
use Rattle.std.specs.List.{flat_map}
use Rattle.std.proofs.lemmas.List.Concat.{flat_map-append}
use Rattle.std.proofs.lemmas.Option.{slice_get_within}
use Rattle.sel_base.specs.declared.range.Range.{Range}
use Rattle.sel_grammar.specs.Limits.{most_operators}
use Rattle.sel_normal.specs.NormalForms.{NormalForm}
use Rattle.sel_normal.proofs.Steps.{some_none}
use Rattle.sel_items.specs.declared.items.Items.{Items}
use Rattle.sel_items.specs.Follows.{NodeKey, key_of, Follows}
use Rattle.sel_items.proofs.ItemLaws.{follows_is_one}
use Rattle.sel_full.specs.Numbering.{AreNumbers, NumbersMore, IsNumberFor, IsSettled}
use Rattle.sel_full.specs.Reach.{IsOneOf}
use Rattle.sel_full.specs.Tables.{occurring, kids_by, keys_with, keys_of, keys_below, all_keys}
use Rattle.sel_full.specs.Taking.{key_at, MayTake}
use Rattle.sel_full.proofs.KeyRows.{append_none, append_assoc, take_next, keys_below_next}
use Rattle.sel_full.proofs.KeySteps.{one_key, two_key}
use Rattle.sel_full.proofs.ListPlaces.{get_split, IsIn, one_get, map_taken, take_whole, within_get}

pub numbers_none : (normal : NormalForm) (xs : List Items) → AreNumbers normal xs [] []
numbers_none normal xs = record { as_many = refl; follow = λ p n key h k. absurd (some_none (sym h)) }

pub more_none : (normal : NormalForm) (xs : List Items) (ns : List (Option ℕ)) → NumbersMore normal xs ns ns []
more_none normal xs ns ks h = subst (AreNumbers normal xs ns) (sym (append_none ks)) h

pub more_both : (normal : NormalForm) (xs : List Items) (a b c : List (Option ℕ)) (ks ls : List NodeKey) → NumbersMore normal xs a b ks → NumbersMore normal xs b c ls → NumbersMore normal xs a c (ks ++ ls)
more_both normal xs a b c ks ls f g hs h = subst (AreNumbers normal xs c) (append_assoc hs ks ls) (g (hs ++ ks) (f hs h))

pub more_one : (normal : NormalForm) (xs : List Items) (a b : List (Option ℕ)) (key : NodeKey) (n : Option ℕ) → b ≡ a ++ n ∷ [] → IsNumberFor normal xs key n → NumbersMore normal xs a b (key ∷ [])
more_one normal xs a b key n e f ks h = subst (λ ns. AreNumbers normal xs ns (ks ++ key ∷ [])) (sym e) (record { as_many = long; follow = follow })
  where
    long : length (a ++ n ∷ []) ≡ length (ks ++ key ∷ [])
    long = let p = length-append a (n ∷ []) in let q = length-append ks (key ∷ []) in let m = h.as_many in omega arith

    follow : (p : ℕ) (number : Option ℕ) (k : NodeKey) → slice_get (ks ++ key ∷ []) p ≡ Some k → slice_get (a ++ n ∷ []) p ≡ Some number → IsNumberFor normal xs k number
    follow p number k there there' = go (get_split ks (key ∷ []) p k there) (get_split a (n ∷ []) p number there')
      where
        go : IsIn ks (key ∷ []) p k → IsIn a (n ∷ []) p number → IsNumberFor normal xs k number
        go (inl u) (inl v) = h.follow p number k u v
        go (inl u) (inr (q, w, v)) = let s = slice_get_within ks p k u in let m = h.as_many in absurd (omega arith)
        go (inr (q, w, u)) (inl v) = let s = slice_get_within a p number v in let m = h.as_many in absurd (omega arith)
        go (inr (q, w, u)) (inr (q', w', v)) = subst (λ m. IsNumberFor normal xs k m) (one_get n number q' v).1 (subst (λ k. IsNumberFor normal xs k n) (one_get key k q u).1 f)

-- where no state follows, the states aren't settled
pub not_settled : (normal : NormalForm) (xs : List Items) (op class : ℕ) (first second : Option ℕ) (i : Items) → MayTake normal xs op class first second → Follows normal (key_at xs op class first second) i → (IsOneOf xs i → ⊥) → IsSettled normal xs → ⊥
not_settled normal xs op class first second i may f none settled =
    let (j, there, f') = settled op class (key_at xs op class first second).kids may.by (may.over).class (may.over).kids in
    none (subst (IsOneOf xs) (follows_is_one normal (key_at xs op class first second) j i f' f) there)

-- what a search among the states says of the key
pub number_found : (normal : NormalForm) (xs : List Items) (op class : ℕ) (first second : Option ℕ) (i : Items) (found : Option ℕ) → MayTake normal xs op class first second → Follows normal (key_at xs op class first second) i
    → MatchOption found (IsOneOf xs i → ⊥) (λ n. slice_get xs n ≡ Some i) → IsNumberFor normal xs (key_at xs op class first second) found
number_found normal xs op class first second i None may f none = record {
  none = λ j g there. none (subst (IsOneOf xs) (follows_is_one normal (key_at xs op class first second) j i g f) there);
  unsettled = not_settled normal xs op class first second i may f none;
}
number_found normal xs op class first second i (Some n) may f at = (i, at, f)

pub more_next : {A : Type 0} (normal : NormalForm) (xs : List Items) (a b c : List (Option ℕ)) (f : A → NodeKey) (ys : List A) (k : ℕ) (x : A) → slice_get ys k ≡ Some x
    → NumbersMore normal xs a b (map f (take k ys)) → NumbersMore normal xs b c (f x ∷ []) → NumbersMore normal xs a c (map f (take (k + 1) ys))
more_next normal xs a b c f ys k x at h step = subst (NumbersMore normal xs a c) (sym (map_taken f ys k x at)) (more_both normal xs a b c (map f (take k ys)) (f x ∷ []) h step)

pub more_whole : {A : Type 0} (normal : NormalForm) (xs : List Items) (a b : List (Option ℕ)) (f : A → NodeKey) (ys : List A) (k : ℕ) → length ys ≤ k → NumbersMore normal xs a b (map f (take k ys)) → NumbersMore normal xs a b (map f ys)
more_whole normal xs a b f ys k l h = subst (λ zs. NumbersMore normal xs a b (map f zs)) (take_whole ys k l) h

pub class_more : (normal : NormalForm) (xs : List Items) (a b c : List (Option ℕ)) (op k class : ℕ) (tests : List Range) → tests ≡ normal.tests → slice_get (occurring tests) k ≡ Some class
    → NumbersMore normal xs a b (map (λ class. key_of op class []) (take k (occurring normal.tests))) → NumbersMore normal xs b c (key_at xs op class None None ∷ []) → NumbersMore normal xs a c (map (λ class. key_of op class []) (take (k + 1) (occurring normal.tests)))
class_more normal xs a b c op k class tests e at h step = more_next normal xs a b c (λ class. key_of op class []) (occurring normal.tests) k class (subst (λ ts. slice_get (occurring ts) k ≡ Some class) e at) h step

pub class_whole : (normal : NormalForm) (xs : List Items) (a b : List (Option ℕ)) (op k : ℕ) (tests : List Range) → tests ≡ normal.tests → length (occurring tests) ≤ k
    → NumbersMore normal xs a b (map (λ class. key_of op class []) (take k (occurring normal.tests))) → NumbersMore normal xs a b (map (λ class. key_of op class []) (occurring normal.tests))
class_whole normal xs a b op k tests e l h = more_whole normal xs a b (λ class. key_of op class []) (occurring normal.tests) k (subst (λ ts. length (occurring ts) ≤ k) e l) h

pub single_more : (normal : NormalForm) (xs : List Items) (a b c : List (Option ℕ)) (op k : ℕ) → k < length xs → NumbersMore normal xs a b (map (λ i. key_of op 0 (i ∷ [])) (take k xs)) → NumbersMore normal xs b c (key_at xs op 0 (Some k) None ∷ [])
    → NumbersMore normal xs a c (map (λ i. key_of op 0 (i ∷ [])) (take (k + 1) xs))
single_more normal xs a b c op k l h step =
    let (x, at) = within_get xs k l in
    more_next normal xs a b c (λ i. key_of op 0 (i ∷ [])) xs k x at h (subst (λ k. NumbersMore normal xs b c (k ∷ [])) (one_key xs op k x at) step)

abbrev pub RowMore : NormalForm → List Items → ℕ → ℕ → List (Option ℕ) → List (Option ℕ) → ℕ → Type 0
RowMore normal xs op left a b k = (i : Items) → slice_get xs left ≡ Some i → NumbersMore normal xs a b (map (λ j. key_of op 0 (i ∷ j ∷ [])) (take k xs))

pub row_more : (normal : NormalForm) (xs : List Items) (op left : ℕ) (a b c : List (Option ℕ)) (k : ℕ) → k < length xs → RowMore normal xs op left a b k → NumbersMore normal xs b c (key_at xs op 0 (Some left) (Some k) ∷ []) → RowMore normal xs op left a c (k + 1)
row_more normal xs op left a b c k l h step i at =
    let (x, there) = within_get xs k l in
    more_next normal xs a b c (λ j. key_of op 0 (i ∷ j ∷ [])) xs k x there (h i at) (subst (λ k. NumbersMore normal xs b c (k ∷ [])) (two_key xs op left k i x at there) step)

pub row_whole : (normal : NormalForm) (xs : List Items) (op left : ℕ) (a b : List (Option ℕ)) (k : ℕ) → length xs ≤ k → RowMore normal xs op left a b k → (i : Items) → slice_get xs left ≡ Some i → NumbersMore normal xs a b (map (λ j. key_of op 0 (i ∷ j ∷ [])) xs)
row_whole normal xs op left a b k l h i at = more_whole normal xs a b (λ j. key_of op 0 (i ∷ j ∷ [])) xs k l (h i at)

abbrev pub pair_keys : List Items → ℕ → List Items → List NodeKey
pair_keys xs op lefts = flat_map (λ i. map (λ j. key_of op 0 (i ∷ j ∷ [])) xs) lefts

pub pairs_more : (normal : NormalForm) (xs : List Items) (op : ℕ) (a b c : List (Option ℕ)) (k : ℕ) → k < length xs → NumbersMore normal xs a b (pair_keys xs op (take k xs))
    → ((i : Items) → slice_get xs k ≡ Some i → NumbersMore normal xs b c (map (λ j. key_of op 0 (i ∷ j ∷ [])) xs)) → NumbersMore normal xs a c (pair_keys xs op (take (k + 1) xs))
pairs_more normal xs op a b c k l h step =
    let (x, at) = within_get xs k l in
    let row = map (λ j. key_of op 0 (x ∷ j ∷ [])) xs in
    let e : k + 1 ≡ suc k = omega arith in
    let q : pair_keys xs op (take (k + 1) xs) ≡ pair_keys xs op (take k xs) ++ row =
    ap (λ n. pair_keys xs op (take n xs)) e ∙ (ap (pair_keys xs op) (take_next xs k x at) ∙ (flat_map-append (λ i. map (λ j. key_of op 0 (i ∷ j ∷ [])) xs) (take k xs) (x ∷ [])
    ∙ ap (λ ys. pair_keys xs op (take k xs) ++ ys) (append_none row))) in
    subst (NumbersMore normal xs a c) (sym q) (more_both normal xs a b c (pair_keys xs op (take k xs)) row h (step x at))

pub pairs_whole : (normal : NormalForm) (xs : List Items) (op : ℕ) (a b : List (Option ℕ)) (k : ℕ) → length xs ≤ k → NumbersMore normal xs a b (pair_keys xs op (take k xs)) → NumbersMore normal xs a b (pair_keys xs op xs)
pairs_whole normal xs op a b k l h = subst (λ ys. NumbersMore normal xs a b (pair_keys xs op ys)) (take_whole xs k l) h

-- an operator's keys
pub operator_more : (normal : NormalForm) (xs : List Items) (a b : List (Option ℕ)) (op : ℕ) (kids : Option ℕ) → kids ≡ kids_by normal.rules op → NumbersMore normal xs a b (keys_with normal xs op kids) → NumbersMore normal xs a b (keys_of normal xs op)
operator_more normal xs a b op kids e h = subst (λ o. NumbersMore normal xs a b (keys_with normal xs op o)) e h

pub kids_more : (normal : NormalForm) (xs : List Items) (a b : List (Option ℕ)) (op k n : ℕ) → k ≡ n → NumbersMore normal xs a b (keys_with normal xs op (Some n)) → NumbersMore normal xs a b (keys_with normal xs op (Some k))
kids_more normal xs a b op k n e h = subst (λ k. NumbersMore normal xs a b (keys_with normal xs op (Some k))) (sym e) h

pub below_more : (normal : NormalForm) (xs : List Items) (a b : List (Option ℕ)) (op : ℕ) → AreNumbers normal xs a (keys_below normal xs op) → NumbersMore normal xs a b (keys_of normal xs op) → AreNumbers normal xs b (keys_below normal xs (op + 1))
below_more normal xs a b op h step =
    let e : op + 1 ≡ suc op = omega arith in
    subst (AreNumbers normal xs b) (sym (ap (keys_below normal xs) e ∙ keys_below_next normal xs op)) (step (keys_below normal xs op) h)

pub below_whole : (normal : NormalForm) (xs : List Items) (a : List (Option ℕ)) (op : ℕ) → most_operators ≤ op → op ≤ most_operators → AreNumbers normal xs a (keys_below normal xs op) → AreNumbers normal xs a (all_keys normal xs)
below_whole normal xs a op l m h = let e : op ≡ most_operators = omega arith in subst (λ o. AreNumbers normal xs a (keys_below normal xs o)) e h

pub same_end : (a b k : ℕ) → a ≡ b → a ≤ k → b ≤ k
same_end a b k e h = omega arith
