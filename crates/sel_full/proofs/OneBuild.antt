-- A grammar has one complete table.
use Rattle.std.proofs.Common.{◌≡◌, ℕ, zero, suc, ◌<◌, ◌≤◌, ◌⊎◌, inl, inr, Some, List, [], ◌∷◌, ◌++◌, refl, ap, sym, ◌∙◌, subst, slice_get, length, take, arith}
use Rattle.std.proofs.lemmas.Option.{slice_get_within}
use Rattle.sel_grammar.specs.declared.grammar.Grammar.{Grammar}
use Rattle.sel_normal.specs.NormalForms.{NormalForm}
use Rattle.sel_normal.specs.Standing.{IsStanding}
use Rattle.sel_normal.proofs.Steps.{some_same}
use Rattle.sel_items.specs.declared.items.Items.{Items}
use Rattle.sel_items.specs.Follows.{NodeKey, key_of, Follows}
use Rattle.sel_items.specs.Laws.{IsAcceptedForm}
use Rattle.sel_items.proofs.ItemLaws.{follows_is_one}
use Rattle.sel_full.specs.declared.table.Table.{Table}
use Rattle.sel_full.specs.Builds.{IsCompleteTable, CompleteIsOne}
use Rattle.sel_full.specs.Finding.{keys_up_to, build_keys, LeadsBelow, IsFirstFound}
use Rattle.sel_full.specs.Numbering.{IsSettled}
use Rattle.sel_full.specs.Reach.{IsOneOf, IsClosed}
use Rattle.sel_full.specs.Tables.{IsLawfulTable, all_keys}
use Rattle.sel_full.proofs.Empties.{empties_same}
use Rattle.sel_full.proofs.Judged.{taken_get, taken_length}
use Rattle.sel_full.proofs.KeyLists.{by_rules}
use Rattle.sel_full.proofs.KeyRows.{append_none, append_assoc, take_next}
use Rattle.sel_full.proofs.ListPlaces.{get_back, get_left, get_taken, take_whole, within_get}
use Rattle.sel_full.proofs.Reaching.{reach_is_exact}
use Rattle.sel_full.proofs.Settled.{in_build}

take_take : {A : Type 0} (xs : List A) (j k : ℕ) → j ≤ k → take j (take k xs) ≡ take j xs
take_take xs zero k l = refl
take_take [] (suc j) zero l = absurd (omega arith)
take_take (x ∷ xs) (suc j) zero l = absurd (omega arith)
take_take [] (suc j) (suc k) l = refl
take_take (x ∷ xs) (suc j) (suc k) l = ap (λ ys. x ∷ ys) (take_take xs j k (omega arith))

take_get : {A : Type 0} (xs : List A) (j k : ℕ) → j < k → slice_get (take k xs) j ≡ slice_get xs j
take_get xs j zero l = absurd (omega arith)
take_get [] j (suc k) l = refl
take_get (x ∷ xs) zero (suc k) l = refl
take_get (x ∷ xs) (suc j) (suc k) l = take_get xs j k (omega arith)

-- states that begin alike
same_take : {A : Type 0} (xs ys : List A) (j k : ℕ) → j ≤ k → take k xs ≡ take k ys → take j xs ≡ take j ys
same_take xs ys j k l e = sym (take_take xs j k l) ∙ (ap (take j) e ∙ take_take ys j k l)

same_get : {A : Type 0} (xs ys : List A) (j k : ℕ) → j < k → take k xs ≡ take k ys → slice_get xs j ≡ slice_get ys j
same_get xs ys j k l e = sym (take_get xs j k l) ∙ (ap (λ zs. slice_get zs j) e ∙ take_get ys j k l)

-- the keys up to those whose greatest kid is before k follow from the states before k
front_keys : (normal : NormalForm) (xs ys : List Items) (k : ℕ) → take k xs ≡ take k ys → build_keys normal xs k ≡ build_keys normal ys k
front_keys normal xs ys zero e = refl
front_keys normal xs ys (suc k) e =
    ap (λ ks. ks ++ keys_up_to normal (take k xs) (slice_get xs k)) (front_keys normal xs ys k (same_take xs ys k (suc k) (omega arith) e))
    ∙ (ap (λ zs. build_keys normal ys k ++ keys_up_to normal zs (slice_get xs k)) (same_take xs ys k (suc k) (omega arith) e)
    ∙ ap (λ o. build_keys normal ys k ++ keys_up_to normal (take k ys) o) (same_get xs ys k (suc k) (omega arith) e))

keys_begin : (normal : NormalForm) (xs : List Items) (m n : ℕ) → m ≤ n → (more : List NodeKey) × (build_keys normal xs n ≡ build_keys normal xs m ++ more)
keys_begin normal xs m zero l = let e : m ≡ 0 = omega arith in ([], sym (append_none (build_keys normal xs m) ∙ ap (build_keys normal xs) e))
keys_begin normal xs m (suc n) l = go (λ k. keys_begin normal xs m n k) (order m n l)
  where
    order : (m n : ℕ) → m ≤ suc n → (m ≤ n) ⊎ (m ≡ suc n)
    order m n l = grind arith

    go : (m ≤ n → (more : List NodeKey) × (build_keys normal xs n ≡ build_keys normal xs m ++ more)) → (m ≤ n) ⊎ (m ≡ suc n) → (more : List NodeKey) × (build_keys normal xs (suc n) ≡ build_keys normal xs m ++ more)
    go before (inl l) =
        let (more, e) = before l in
        let ks = keys_up_to normal (take n xs) (slice_get xs n) in
        (more ++ ks, ap (λ ys. ys ++ ks) e ∙ append_assoc (build_keys normal xs m) more ks)
    go before (inr e) = ([], sym (append_none (build_keys normal xs m) ∙ ap (build_keys normal xs) e))

-- a key among those of the first rounds stands there among all
key_there : (normal : NormalForm) (xs : List Items) (m n p : ℕ) (key : NodeKey) → m ≤ n → slice_get (build_keys normal xs m) p ≡ Some key → slice_get (build_keys normal xs n) p ≡ Some key
key_there normal xs m n p key l at = let (more, e) = keys_begin normal xs m n l in ap (λ ks. slice_get ks p) e ∙ get_left (build_keys normal xs m) more p key at

key_here : (normal : NormalForm) (xs : List Items) (m n p : ℕ) (key : NodeKey) → m ≤ n → p < length (build_keys normal xs m) → slice_get (build_keys normal xs n) p ≡ Some key → slice_get (build_keys normal xs m) p ≡ Some key
key_here normal xs m n p key l below at = let (more, e) = keys_begin normal xs m n l in sym (get_back (build_keys normal xs m) more p below) ∙ (sym (ap (λ ks. slice_get ks p) e) ∙ at)

module _ (g : Grammar) (normal : NormalForm) (form : IsAcceptedForm g normal) (standing : IsStanding normal) where
  module _ (states rows : ℕ) (t : Table) (h : IsCompleteTable normal states rows t) where
    -- where the keys over the states before m lead below m
    front_settled : (m : ℕ) → m < length t.states → ((key : NodeKey) → IsOneOf (build_keys normal t.states m) key → LeadsBelow normal t.states m key) → IsSettled normal (take m t.states)
    front_settled m below leads op class is by c of =
        let (q, at) = in_build normal (take m t.states) standing op class is by c of in
        let long : length (take m t.states) ≡ m = taken_length t.states m (omega arith) in
        let same : build_keys normal (take m t.states) (length (take m t.states)) ≡ build_keys normal t.states m =
        ap (build_keys normal (take m t.states)) long ∙ front_keys normal (take m t.states) t.states m (take_take t.states m m (omega arith)) in
        let (n, i, l, at', f) = leads (key_of op class is) (q, ap (λ ks. slice_get ks q) (sym same) ∙ at) in
        (i, (n, get_taken t.states m n i l at'), f)

    -- they are all that is reached
    not_settled : (m : ℕ) → 0 < m → m < length t.states → ((key : NodeKey) → IsOneOf (build_keys normal t.states m) key → LeadsBelow normal t.states m key) → ⊥
    not_settled m some below leads =
        let (i, at) = within_get t.states m below in
        let (e, there, none) = (h.lawful).empty in
        let closed : IsClosed normal (take m t.states) = λ key over. front_settled m below leads key.operator key.class key.kids (by_rules g normal form key.operator (length key.kids) over.used) over.class over.kids in
        let all = (reach_is_exact g normal (take m t.states) e form none (0, get_taken t.states m 0 e some there) closed).0 in
        go i at (all i ((h.reach g form).reached i (m, at)))
      where
        go : (i : Items) → slice_get t.states m ≡ Some i → IsOneOf (take m t.states) i → ⊥
        go i at (j, at') =
            let (l, at'') = taken_get t.states m j i at' in
            let e = (h.lawful).differ j m i at'' at in
            omega (arith, l, e)

    -- so a state is found in a round of the states before it
    found_before : (m : ℕ) → 0 < m → m < length t.states → (f : IsFirstFound normal t.states (build_keys normal t.states (length t.states)) m) → f.place < length (build_keys normal t.states m)
    found_before m some below f = go (order f.place (length (build_keys normal t.states m)))
      where
        order : (a b : ℕ) → (a < b) ⊎ (b ≤ a)
        order a b = grind arith

        leads : length (build_keys normal t.states m) ≤ f.place → (key : NodeKey) → IsOneOf (build_keys normal t.states m) key → LeadsBelow normal t.states m key
        leads l key (q, at) =
            f.before q key (let w = slice_get_within (build_keys normal t.states m) q key at in omega arith) (key_there normal t.states m (length t.states) q key (omega arith) at)

        go : (f.place < length (build_keys normal t.states m)) ⊎ (length (build_keys normal t.states m) ≤ f.place) → f.place < length (build_keys normal t.states m)
        go (inl l) = l
        go (inr l) = absurd (not_settled m some below (leads l))

    -- where the state m is found among the keys over the states before it
    pub record IsFoundAt (m p : ℕ) (key : NodeKey) (i : Items) : Type 0 where
      pub there : slice_get (build_keys normal t.states m) p ≡ Some key
      pub state : slice_get t.states m ≡ Some i
      pub follows : Follows normal key i
      pub before : (q : ℕ) (earlier : NodeKey) → q < p → slice_get (build_keys normal t.states m) q ≡ Some earlier → LeadsBelow normal t.states m earlier

    found_at : (m : ℕ) → 0 < m → m < length t.states → (p : ℕ) × (key : NodeKey) × (i : Items) × IsFoundAt m p key i
    found_at m some below =
        let f = h.found m some below in
        let l = found_before m some below f in (
          f.place,
          f.key,
          f.items,
          record {
            there = key_here normal t.states m (length t.states) f.place f.key (omega arith) l f.there;
            state = f.state;
            follows = f.follows;
            before = λ q earlier less at. f.before q earlier less (key_there normal t.states m (length t.states) q earlier (omega arith) at);
          },
        )

    -- a key that leads below m doesn't lead to m
    not_below : (m : ℕ) (key : NodeKey) (i : Items) → slice_get t.states m ≡ Some i → Follows normal key i → LeadsBelow normal t.states m key → ⊥
    not_below m key i at f (n, j, l, at', f') =
        let e = (h.lawful).differ n m i (at' ∙ ap Some (follows_is_one normal key j i f' f)) at in
        omega (arith, l, e)

  module _ (states rows states' rows' : ℕ) (t u : Table) (h : IsCompleteTable normal states rows t) (k : IsCompleteTable normal states' rows' u) where
    -- what leads below m in one leads there in the other, where they begin alike
    leads_alike : (xs ys : List Items) (m : ℕ) (key : NodeKey) → take m xs ≡ take m ys → LeadsBelow normal xs m key → LeadsBelow normal ys m key
    leads_alike xs ys m key e (n, i, l, at, f) = (n, i, l, sym (same_get xs ys n m l e) ∙ at, f)

    next_same : (m : ℕ) → m < length t.states → m < length u.states → take m t.states ≡ take m u.states → (i j : Items) → slice_get t.states m ≡ Some i → slice_get u.states m ≡ Some j → i ≡ j
    next_same zero below below' e i j at at' =
        let (a, there, none) = (h.lawful).empty in
        let (b, there', none') = (k.lawful).empty in
        some_same (sym at ∙ there) ∙ (empties_same normal a b none none' ∙ some_same (sym there' ∙ at'))
    next_same (suc n) below below' e i j at at' =
        let (p, key, x, f) = found_at states rows t h (suc n) (omega arith) below in
        let (q, key', y, f') = found_at states' rows' u k (suc n) (omega arith) below' in
        go p q key key' x y f f' (order p q)
      where
        order : (a b : ℕ) → (a < b) ⊎ ((b < a) ⊎ (a ≡ b))
        order a b = grind arith

        keys : build_keys normal t.states (suc n) ≡ build_keys normal u.states (suc n)
        keys = front_keys normal t.states u.states (suc n) e

        go : (p q : ℕ) (key key' : NodeKey) (x y : Items) → IsFoundAt states rows t h (suc n) p key x → IsFoundAt states' rows' u k (suc n) q key' y → (p < q) ⊎ ((q < p) ⊎ (p ≡ q)) → i ≡ j
        go p q key key' x y f f' (inl l) =
            absurd (not_below states rows t h (suc n) key x f.state f.follows (leads_alike u.states t.states (suc n) key (sym e) (f'.before p key l (ap (λ ks. slice_get ks p) (sym keys) ∙ f.there))))
        go p q key key' x y f f' (inr (inl l)) =
            absurd (not_below states' rows' u k (suc n) key' y f'.state f'.follows (leads_alike t.states u.states (suc n) key' e (f.before q key' l (ap (λ ks. slice_get ks q) keys ∙ f'.there))))
        go p q key key' x y f f' (inr (inr same)) =
            let one : key ≡ key' = some_same (sym f.there ∙ (ap (λ ks. slice_get ks p) keys ∙ (ap (slice_get (build_keys normal u.states (suc n))) same ∙ f'.there))) in
            some_same (sym at ∙ f.state) ∙ (follows_is_one normal key' x y (subst (λ z. Follows normal z x) one f.follows) f'.follows ∙ some_same (sym f'.state ∙ at'))

    begin_alike : (m : ℕ) → m ≤ length t.states → m ≤ length u.states → take m t.states ≡ take m u.states
    begin_alike zero l l' = refl
    begin_alike (suc m) l l' =
        let e = begin_alike m (omega arith) (omega arith) in
        let (i, at) = within_get t.states m (omega arith) in
        let (j, at') = within_get u.states m (omega arith) in
        let same : i ≡ j = next_same m (omega arith) (omega arith) e i j at at' in
        take_next t.states m i at ∙ (ap (λ xs. xs ++ i ∷ []) e ∙ (ap (λ x. take m u.states ++ x ∷ []) same ∙ sym (take_next u.states m j at')))

    -- neither has a state more
    not_longer : length t.states < length u.states → ⊥
    not_longer l =
        let (i, at) = within_get u.states (length t.states) l in
        let (j, at') = (h.reach g form).all i ((k.reach g form).reached i (length t.states, at)) in
        let w = slice_get_within t.states j i at' in
        let e = (k.lawful).differ j (length t.states) i (sym (same_get t.states u.states j (length t.states) w (begin_alike (length t.states) (omega arith) (omega arith))) ∙ at') at in
        omega (arith, w, e)

list_same : {A : Type 0} (xs ys : List A) → length xs ≡ length ys → ((k : ℕ) (x y : A) → slice_get xs k ≡ Some x → slice_get ys k ≡ Some y → x ≡ y) → xs ≡ ys
list_same [] [] l same = refl
list_same [] (y ∷ ys) l same = absurd (omega (arith, l))
list_same (x ∷ xs) [] l same = absurd (omega (arith, l))
list_same (x ∷ xs) (y ∷ ys) l same =
    let p = same 0 x y refl refl in
    let q = list_same xs ys (omega (arith, l)) (λ k a b at at'. same (suc k) a b at at') in
    λ i. p i ∷ q i

numbers_same : (normal : NormalForm) (xs : List Items) (a b : List ℕ) → IsLawfulTable normal xs a → IsLawfulTable normal xs b → a ≡ b
numbers_same normal xs a b h k = list_same a b (h.as_many ∙ sym k.as_many) same
  where
    same : (p m n : ℕ) → slice_get a p ≡ Some m → slice_get b p ≡ Some n → m ≡ n
    same p m n at at' =
        let (key, there) = within_get (all_keys normal xs) p (let w = slice_get_within a p m at in let c = h.as_many in omega arith) in
        let (i, state, f) = h.follow p m key there at in
        let (j, state', f') = k.follow p n key there at' in
        h.differ m n i state (state' ∙ ap Some (follows_is_one normal key j i f' f))

module _ (g : Grammar) (normal : NormalForm) (form : IsAcceptedForm g normal) (standing : IsStanding normal) (states rows states' rows' : ℕ) (t u : Table) (h : IsCompleteTable normal states rows t) (k : IsCompleteTable normal states' rows' u) where
  as_many : length t.states ≡ length u.states
  as_many = go (order (length t.states) (length u.states))
    where
      order : (a b : ℕ) → (a < b) ⊎ ((b < a) ⊎ (a ≡ b))
      order a b = grind arith

      go : (length t.states < length u.states) ⊎ ((length u.states < length t.states) ⊎ (length t.states ≡ length u.states)) → length t.states ≡ length u.states
      go (inl l) = absurd (not_longer g normal form standing states rows states' rows' t u h k l)
      go (inr (inl l)) = absurd (not_longer g normal form standing states' rows' states rows u t k h l)
      go (inr (inr e)) = e

  states_same : t.states ≡ u.states
  states_same =
      sym (take_whole t.states (length t.states) (omega arith))
      ∙ (begin_alike g normal form standing states rows states' rows' t u h k (length t.states) (omega arith) (let e = as_many in omega arith) ∙ take_whole u.states (length t.states) (let e = as_many in omega arith))

  one : t ≡ u
  one =
      let p = states_same in
      let q : t.numbers ≡ u.numbers = numbers_same normal u.states t.numbers u.numbers (subst (λ xs. IsLawfulTable normal xs t.numbers) p h.lawful) k.lawful in
      λ i. record { states = p i; numbers = q i }

pub complete_is_one : CompleteIsOne
complete_is_one g normal states rows states' rows' t u form standing h k = one g normal form standing states rows states' rows' t u h k
