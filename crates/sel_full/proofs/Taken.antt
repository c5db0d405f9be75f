-- Taking keys, one behind the other.
use Rattle.std.proofs.Common.{◌≡◌, ℕ, zero, suc, ◌+◌, ◌<◌, ◌≤◌, ◌⊎◌, inl, inr, Some, List, [], ◌∷◌, ◌++◌, refl, ap, sym, ◌∙◌, subst, slice_get, length, length-append, map, take, arith}
use Rattle.std.proofs.lemmas.Option.{slice_get_within}
use Rattle.sel_normal.specs.NormalForms.{NormalForm}
use Rattle.sel_normal.proofs.Steps.{some_same, some_none}
use Rattle.sel_items.specs.declared.items.Items.{Items}
use Rattle.sel_items.specs.Follows.{NodeKey, Follows}
use Rattle.sel_full.specs.Finding.{LeadsBelow, IsFirstFound}
use Rattle.sel_full.specs.Taking.{IsKept, Took}
use Rattle.sel_full.proofs.KeyRows.{append_none, append_assoc}
use Rattle.sel_full.proofs.ListPlaces.{get_left, get_back, get_right, get_split, IsIn, map_taken, take_whole}

below_or_not : (a b : ℕ) → (a < b) ⊎ (b ≤ a)
below_or_not a b = grind arith

pub leads_more : (normal : NormalForm) (old new added : List Items) (m n : ℕ) (key : NodeKey) → new ≡ old ++ added → m ≤ n → LeadsBelow normal old m key → LeadsBelow normal new n key
leads_more normal old new added m n key e l (k, i, below, at, f) = (k, i, omega arith, subst (λ xs. slice_get xs k ≡ Some i) (sym e) (get_left old added k i at), f)

-- no key
pub took_none : (normal : NormalForm) (xs : List Items) → Took normal xs xs []
took_none normal xs = record { added = []; grown = sym (append_none xs); led = λ p key h. absurd (some_none (sym h)); found = λ m l k. absurd (omega arith) }

-- one key
pub took_one : (normal : NormalForm) (old new : List Items) (key : NodeKey) (i : Items) → Follows normal key i → IsKept old i new → Took normal old new (key ∷ [])
took_one normal old new key i f kept = record { added = kept.added; grown = kept.grown; led = led; found = found }
  where
    led : (p : ℕ) (k : NodeKey) → slice_get (key ∷ []) p ≡ Some k → LeadsBelow normal new (length new) k
    led zero k h = (kept.number, i, kept.below, kept.there, subst (λ k. Follows normal k i) (some_same h) f)
    led (suc p) k h = absurd (some_none (sym h))

    found : (m : ℕ) → length old ≤ m → m < length new → IsFirstFound normal new (key ∷ []) m
    found m l k =
        let e = ap length kept.grown ∙ length-append old kept.added in
        let few = kept.few in
        let n : kept.number ≡ m = let q = kept.next (omega arith) in omega arith in
        record { place = 0; key = key; items = i; there = refl; state = subst (λ m. slice_get new m ≡ Some i) n kept.there; follows = f; before = λ p earlier h. absurd (omega arith) }

-- keys, and then others
pub took_both : (normal : NormalForm) (a b c : List Items) (ks ls : List NodeKey) → Took normal a b ks → Took normal b c ls → Took normal a c (ks ++ ls)
took_both normal a b c ks ls first second =
    record { added = first.added ++ second.added; grown = second.grown ∙ (ap (λ xs. xs ++ second.added) first.grown ∙ append_assoc a first.added second.added); led = led; found = found }
  where
    long : length c ≡ length b + length second.added
    long = ap length second.grown ∙ length-append b second.added

    led : (p : ℕ) (key : NodeKey) → slice_get (ks ++ ls) p ≡ Some key → LeadsBelow normal c (length c) key
    led p key h = go (get_split ks ls p key h)
      where
        go : IsIn ks ls p key → LeadsBelow normal c (length c) key
        go (inl at) = leads_more normal b c second.added (length b) (length c) key second.grown (let e = long in omega arith) (first.led p key at)
        go (inr (q, e, at)) = second.led q key at

    found : (m : ℕ) → length a ≤ m → m < length c → IsFirstFound normal c (ks ++ ls) m
    found m l k = go (below_or_not m (length b))
      where
        go : (m < length b) ⊎ (length b ≤ m) → IsFirstFound normal c (ks ++ ls) m
        go (inl h) =
            let f = first.found m l h in
            let w = slice_get_within ks f.place f.key f.there in
            record {
              place = f.place;
              key = f.key;
              items = f.items;
              there = get_left ks ls f.place f.key f.there;
              state = subst (λ xs. slice_get xs m ≡ Some f.items) (sym second.grown) (get_left b second.added m f.items f.state);
              follows = f.follows;
              before = λ p earlier less at. leads_more normal b c second.added m m earlier second.grown (omega arith) (f.before p earlier less (sym (get_back ks ls p (omega arith)) ∙ at));
            }
        go (inr h) =
            let f = second.found m h k in
            record {
              place = length ks + f.place;
              key = f.key;
              items = f.items;
              there = get_right ks ls f.place ∙ f.there;
              state = f.state;
              follows = f.follows;
              before = λ p earlier less at. before f p earlier less (get_split ks ls p earlier at);
            }
          where
            before : (f : IsFirstFound normal c ls m) (p : ℕ) (earlier : NodeKey) → p < length ks + f.place → IsIn ks ls p earlier → LeadsBelow normal c m earlier
            before f p earlier less (inl at) = leads_more normal b c second.added (length b) m earlier second.grown h (first.led p earlier at)
            before f p earlier less (inr (q, e, at)) = f.before q earlier (omega arith) at

-- keys by other names
pub took_same : (normal : NormalForm) (a b : List Items) (ks ls : List NodeKey) → ks ≡ ls → Took normal a b ks → Took normal a b ls
took_same normal a b ks ls e h = subst (Took normal a b) e h

-- one key more of a list
pub took_next : {A : Type 0} (normal : NormalForm) (a b c : List Items) (f : A → NodeKey) (xs : List A) (k : ℕ) (x : A) → slice_get xs k ≡ Some x
    → Took normal a b (map f (take k xs)) → Took normal b c (f x ∷ []) → Took normal a c (map f (take (k + 1) xs))
took_next normal a b c f xs k x at h step = subst (Took normal a c) (sym (map_taken f xs k x at)) (took_both normal a b c (map f (take k xs)) (f x ∷ []) h step)

pub took_whole : {A : Type 0} (normal : NormalForm) (a b : List Items) (f : A → NodeKey) (xs : List A) (k : ℕ) → length xs ≤ k → Took normal a b (map f (take k xs)) → Took normal a b (map f xs)
took_whole normal a b f xs k l h = subst (λ ys. Took normal a b (map f ys)) (take_whole xs k l) h
