-- Where all keys were taken, the states are settled, and the table is complete.
use Rattle.std.proofs.Common.{◌≡◌, ℕ, zero, suc, ◌<◌, ◌≤◌, ◌⊎◌, inl, inr, Option, Some, None, List, [], ◌∷◌, ◌++◌, refl, ap, sym, ◌∙◌, subst, slice_get, length, map, take, arith}
use Rattle.std.specs.List.{range_with_len}
use Rattle.std.specs.Option.{option_map}
use Rattle.std.proofs.lemmas.List.{length-map}
use Rattle.std.proofs.lemmas.Option.{slice_get_within, slice_get-map}
use Rattle.sel_grammar.specs.Limits.{most_operators}
use Rattle.sel_normal.specs.NormalForms.{NormalForm}
use Rattle.sel_normal.specs.Standing.{IsStanding}
use Rattle.sel_items.specs.declared.items.Items.{Items}
use Rattle.sel_items.specs.Follows.{NodeKey, key_of}
use Rattle.sel_full.specs.declared.table.Table.{Table}
use Rattle.sel_full.specs.Builds.{IsCompleteTable}
use Rattle.sel_full.specs.Finding.{leaf_keys, kid_keys, leaf_keys_below, kid_keys_below, keys_up_to, build_keys}
use Rattle.sel_full.specs.Numbering.{AreNumbers, IsSettled}
use Rattle.sel_full.specs.Reach.{IsClassFor, IsOneOf, AreOf}
use Rattle.sel_full.specs.Tables.{IsLawfulTable, kids_by, occurring, all_keys}
use Rattle.sel_full.specs.Taking.{AreFound, TookTo}
use Rattle.sel_full.proofs.KeyLists.{among_left, among_right, among_map, among_flat, among_range, among_classes, tables_are_closed}
use Rattle.sel_full.proofs.ListPlaces.{get_taken, within_get}
use Rattle.sel_full.proofs.Reaching.{reach_is_exact}
use Rattle.sel_full.proofs.Uses.{few_by, used_below}

order : (m n : ℕ) → (m < n) ⊎ (n ≤ m)
order m n = grind arith

order_same : (m n : ℕ) → n ≤ m → (n < m) ⊎ (n ≡ m)
order_same m n h = grind arith

-- the keys of a round stay among all
in_rounds : (normal : NormalForm) (xs : List Items) (k n : ℕ) (key : NodeKey) → k < n → IsOneOf (keys_up_to normal (take k xs) (slice_get xs k)) key → IsOneOf (build_keys normal xs n) key
in_rounds normal xs k zero key l h = absurd (omega arith)
in_rounds normal xs k (suc n) key l h = go (λ m. in_rounds normal xs k n key m h) (order_same n k (omega arith))
  where
    go : (k < n → IsOneOf (build_keys normal xs n) key) → (k < n) ⊎ (k ≡ n) → IsOneOf (build_keys normal xs (suc n)) key
    go rest (inl m) = among_left (build_keys normal xs n) (keys_up_to normal (take n xs) (slice_get xs n)) key (rest m)
    go rest (inr e) = among_right (build_keys normal xs n) (keys_up_to normal (take n xs) (slice_get xs n)) key (subst (λ k. IsOneOf (keys_up_to normal (take k xs) (slice_get xs k)) key) e h)

in_leaves : (normal : NormalForm) (xs : List Items) (n : ℕ) (key : NodeKey) → IsOneOf (leaf_keys_below normal most_operators) key → IsOneOf (build_keys normal xs n) key
in_leaves normal xs zero key h = h
in_leaves normal xs (suc n) key h = among_left (build_keys normal xs n) (keys_up_to normal (take n xs) (slice_get xs n)) key (in_leaves normal xs n key h)

leaf_in : (normal : NormalForm) (op : ℕ) (key : NodeKey) → op < most_operators → IsOneOf (leaf_keys normal op (kids_by normal.rules op)) key → IsOneOf (leaf_keys_below normal most_operators) key
unfolding leaf_keys_below
leaf_in normal op key l h = among_flat (λ op. leaf_keys normal op (kids_by normal.rules op)) (range_with_len 0 most_operators) op key (among_range most_operators 0 op (omega arith) (omega arith)) h

kid_in : (normal : NormalForm) (before : List Items) (i : Items) (op : ℕ) (key : NodeKey) → op < most_operators → IsOneOf (kid_keys before i op (kids_by normal.rules op)) key → IsOneOf (kid_keys_below normal before i most_operators) key
unfolding kid_keys_below
kid_in normal before i op key l h = among_flat (λ op. kid_keys before i op (kids_by normal.rules op)) (range_with_len 0 most_operators) op key (among_range most_operators 0 op (omega arith) (omega arith)) h

-- the keys whose greatest kid is the state k
round_in : (normal : NormalForm) (xs : List Items) (k : ℕ) (i : Items) (op n : ℕ) (kids : Option ℕ) (key : NodeKey) → k < n → op < most_operators → slice_get xs k ≡ Some i → kids_by normal.rules op ≡ kids → IsOneOf (kid_keys (take k xs) i op kids) key
    → IsOneOf (build_keys normal xs n) key
round_in normal xs k i op n kids key l m at by h =
    in_rounds normal xs k n key l
    (subst (λ o. IsOneOf (keys_up_to normal (take k xs) o) key) (sym at) (kid_in normal (take k xs) i op key m (subst (λ o. IsOneOf (kid_keys (take k xs) i op o) key) (sym by) h)))

module _ (normal : NormalForm) (xs : List Items) (standing : IsStanding normal) where
  pub in_build : (op class : ℕ) (is : List Items) → kids_by normal.rules op ≡ Some (length is) → IsClassFor normal class is → AreOf (IsOneOf xs) is → IsOneOf (build_keys normal xs (length xs)) (key_of op class is)
  in_build op class [] by c of =
      in_leaves normal xs (length xs) (key_of op class [])
      (leaf_in normal op (key_of op class []) (used_below normal op 0 standing by)
      (subst (λ o. IsOneOf (leaf_keys normal op o) (key_of op class [])) (sym by) (among_map (λ class. key_of op class []) (occurring normal.tests) class (among_classes normal.tests class c))))
  in_build op class (i ∷ []) by c ((m, at), of) =
      round_in normal xs m i op (length xs) (Some 1) (key_of op class (i ∷ [])) (slice_get_within xs m i at) (used_below normal op 1 standing by) at by
      (subst (λ c. IsOneOf (kid_keys (take m xs) i op (Some 1)) (key_of op c (i ∷ []))) (sym c) (0, refl))
  in_build op class (i ∷ j ∷ []) by c ((m, at), ((n, at'), of)) = subst (λ c. IsOneOf (build_keys normal xs (length xs)) (key_of op c (i ∷ j ∷ []))) (sym c) (go (order m n))
    where
      go : (m < n) ⊎ (n ≤ m) → IsOneOf (build_keys normal xs (length xs)) (key_of op 0 (i ∷ j ∷ []))
      go (inl l) =
          round_in normal xs n j op (length xs) (Some 2) (key_of op 0 (i ∷ j ∷ [])) (slice_get_within xs n j at') (used_below normal op 2 standing by) at' by
          (among_left (map (λ x. key_of op 0 (x ∷ j ∷ [])) (take n xs)) (map (λ x. key_of op 0 (j ∷ x ∷ [])) (take n xs ++ j ∷ [])) (key_of op 0 (i ∷ j ∷ []))
          (among_map (λ x. key_of op 0 (x ∷ j ∷ [])) (take n xs) i (m, get_taken xs n m i l at)))
      go (inr l) =
          round_in normal xs m i op (length xs) (Some 2) (key_of op 0 (i ∷ j ∷ [])) (slice_get_within xs m i at) (used_below normal op 2 standing by) at by
          (among_right (map (λ x. key_of op 0 (x ∷ i ∷ [])) (take m xs)) (map (λ x. key_of op 0 (i ∷ x ∷ [])) (take m xs ++ i ∷ [])) (key_of op 0 (i ∷ j ∷ []))
          (among_map (λ x. key_of op 0 (i ∷ x ∷ [])) (take m xs ++ i ∷ []) j (right (order_same m n l))))
        where
          right : (n < m) ⊎ (n ≡ m) → IsOneOf (take m xs ++ i ∷ []) j
          right (inl k) = among_left (take m xs) (i ∷ []) j (n, get_taken xs m n j k at')
          right (inr e) = among_right (take m xs) (i ∷ []) j (0, sym at ∙ (ap (slice_get xs) (sym e) ∙ at'))
  in_build op class (i ∷ j ∷ k ∷ is) by c of = absurd (few_by normal.rules op (length is) by)

  pub settled : TookTo normal xs (length xs) → IsSettled normal xs
  settled to op class is by c of =
      let (p, there) = in_build op class is by c of in
      let (n, i, below, at, f) = (to.took).led p (key_of op class is) there in
      (i, (n, at), f)

pub complete : (normal : NormalForm) (most rows : ℕ) (t : Table) → AreFound normal most rows t.states → TookTo normal t.states (length t.states) → AreNumbers normal t.states (map Some t.numbers) (all_keys normal t.states) → IsCompleteTable normal most rows t
complete normal most rows t found to numbers = record {
  lawful = lawful;
  reach = λ g form. (reach_is_exact g normal t.states found.empty.0 form found.empty.2 (0, found.empty.1) (tables_are_closed g normal t.states t.numbers form lawful)).1 (λ i m. (found.are).reached i m g form);
  found = λ m some below. (to.took).found m (omega arith) below;
  within = record { few_states = (found.few).few_states; few_keys = (found.few).few_keys; cheap = (found.are).cheap };
}
  where
    lawful : IsLawfulTable normal t.states t.numbers
    lawful = record {
      long = λ k i at. ((found.are).sets i (k, at)).long;
      empty = found.empty;
      differ = (found.are).differ;
      as_many = sym (length-map t.numbers Some) ∙ numbers.as_many;
      follow = λ n number key at at'. numbers.follow n (Some number) key at (slice_get-map Some t.numbers n ∙ ap (option_map Some) at');
    }

-- no number is missing where the states are settled
pub none_missing : (normal : NormalForm) (xs : List Items) (numbers : List (Option ℕ)) → AreNumbers normal xs numbers (all_keys normal xs) → IsSettled normal xs → IsOneOf numbers None → ⊥
none_missing normal xs numbers are settled (p, at) =
    let (key, there) = within_get (all_keys normal xs) p (subst (λ n. p < n) are.as_many (slice_get_within numbers p None at)) in
    (are.follow p None key there at).unsettled settled
