-- Item sets kept as states.
use Rattle.std.proofs.Common.{◌≡◌, ℕ, ◌+◌, ◌<◌, ◌≤◌, ◌^◌, ◌⊎◌, inl, inr, Option, Some, None, List, [], ◌∷◌, ◌++◌, refl, ap, sym, ◌∙◌, subst, slice_get, length, length-append, arith, ℤ, pos, ◌<ℤ◌, ◌≤ℤ◌}
use Rattle.std.specs.Prelude.{neg_ℤ}
use Rattle.std.specs.Option.{option_flatten}
use Rattle.std.proofs.lemmas.Int.{ints}
use Rattle.std.proofs.lemmas.Option.{slice_get_within}
use Rattle.sel_grammar.specs.declared.grammar.Grammar.{Grammar}
use Rattle.sel_grammar.specs.Costs.{Cost}
use Rattle.sel_normal.specs.NormalForms.{NormalForm}
use Rattle.sel_normal.proofs.Steps.{some_none}
use Rattle.sel_items.specs.declared.items.Item.{Item}
use Rattle.sel_items.specs.declared.items.Items.{Items}
use Rattle.sel_items.specs.CostBounds.{IsBelow, IsKidSet}
use Rattle.sel_items.specs.Entries.{ItemRow, item_at}
use Rattle.sel_items.specs.Laws.{IsAcceptedForm}
use Rattle.sel_full.specs.Builds.{IsDear, IsDearEntry, HasDearEntry, AreReached, IsTooLarge, States, Rows, Dear}
use Rattle.sel_full.specs.Reach.{IsReached, IsOneOf}
use Rattle.sel_full.specs.Tables.{AllDiffer, all_keys}
use Rattle.sel_full.specs.Taking.{IsReachedBy, AreStates, AreFew, AreFound, IsKept}
use Rattle.sel_full.proofs.KeyRows.{append_none}
use Rattle.sel_full.proofs.ListPlaces.{get_left, get_right, get_split, IsIn, one_get}

-- an entry more without a dear cost
pub no_dear_more : (row : ItemRow) (k : ℕ) (entry : Option Item) → slice_get row k ≡ Some entry → (IsDearEntry entry → ⊥) → ((n : ℕ) → n < k → IsDearEntry (item_at row n) → ⊥) → (n : ℕ) → n < k + 1 → IsDearEntry (item_at row n) → ⊥
no_dear_more row k entry at none rest n h dear = go (last n k h)
  where
    last : (n k : ℕ) → n < k + 1 → (n < k) ⊎ (n ≡ k)
    last n k h = grind arith

    go : (n < k) ⊎ (n ≡ k) → ⊥
    go (inl l) = rest n l dear
    go (inr e) = none (subst IsDearEntry (ap (item_at row) e ∙ ap option_flatten at) dear)

-- behind the last entry there is none
pub no_dear_entry : (items : Items) (k : ℕ) → length items.entries ≤ k → ((n : ℕ) → n < k → IsDearEntry (item_at items.entries n) → ⊥) → HasDearEntry items → ⊥
no_dear_entry items k end none (n, dear) = go (slice_get items.entries n) refl
  where
    go : (o : Option (Option Item)) → slice_get items.entries n ≡ o → ⊥
    go None e = subst IsDearEntry (ap option_flatten e) dear
    go (Some x) e = let w = slice_get_within items.entries n x e in none n (omega arith) dear

pub dear_at : (items : Items) (k : ℕ) (entry : Option Item) → slice_get items.entries k ≡ Some entry → IsDearEntry entry → HasDearEntry items
dear_at items k entry at dear = (k, subst IsDearEntry (sym (ap option_flatten at)) dear)

-- costs that are not dear are small enough for kids
cheap_below : (c : Cost) → (IsDear c → ⊥) → IsBelow 46 c
cheap_below c cheap = record {
  first = small c.first (λ h. cheap (inl h));
  low = low c.second (λ h. cheap (inr (inr h)));
  high = high c.second (λ h. cheap (inr (inl h)));
}
  where
    small : (n : ℕ) → (999999999999 < n → ⊥) → n < 2 ^ 46
    small n h = grind arith

    low : (z : ℤ) → (z <ℤ neg_ℤ (pos 999999999999) → ⊥) → neg_ℤ (pos (2 ^ 46)) <ℤ z
    low z h = go (order_z z)
      where
        order_z : (z : ℤ) → (z <ℤ neg_ℤ (pos 999999999999)) ⊎ (neg_ℤ (pos 999999999999) ≤ℤ z)
        order_z z = grind (arith, ints)

        go : (z <ℤ neg_ℤ (pos 999999999999)) ⊎ (neg_ℤ (pos 999999999999) ≤ℤ z) → neg_ℤ (pos (2 ^ 46)) <ℤ z
        go (inl l) = absurd (h l)
        go (inr l) = omega (arith, ints)

    high : (z : ℤ) → (pos 999999999999 <ℤ z → ⊥) → z <ℤ pos (2 ^ 46)
    high z h = go (order_z z)
      where
        order_z : (z : ℤ) → (pos 999999999999 <ℤ z) ⊎ (z ≤ℤ pos 999999999999)
        order_z z = grind (arith, ints)

        go : (pos 999999999999 <ℤ z) ⊎ (z ≤ℤ pos 999999999999) → z <ℤ pos (2 ^ 46)
        go (inl l) = absurd (h l)
        go (inr l) = omega (arith, ints)

pub cheap_set : (normal : NormalForm) (items : Items) → length items.entries ≡ normal.nonterminals → (HasDearEntry items → ⊥) → IsKidSet normal items
cheap_set normal items long cheap = record { long = long; small = λ n item at. cheap_below item.cost (λ d. cheap (n, subst IsDearEntry (sym at) d)) }

module _ (normal : NormalForm) (xs : List Items) (items : Items) (are : AreStates normal xs) (fresh : IsOneOf xs items → ⊥) (reached : IsReachedBy normal items) where
  each : (P : Items → Type 0) → ((i : Items) → IsOneOf xs i → P i) → P items → (i : Items) → IsOneOf (xs ++ items ∷ []) i → P i
  each P old own i (k, at) = go (get_split xs (items ∷ []) k i at)
    where
      go : IsIn xs (items ∷ []) k i → P i
      go (inl h) = old i (k, h)
      go (inr (q, e, h)) = subst P (one_get items i q h).1 own

  pub still_differ : AllDiffer (xs ++ items ∷ [])
  still_differ j k i at at' = go (get_split xs (items ∷ []) j i at) (get_split xs (items ∷ []) k i at')
    where
      go : IsIn xs (items ∷ []) j i → IsIn xs (items ∷ []) k i → j ≡ k
      go (inl h) (inl h') = are.differ j k i h h'
      go (inl h) (inr (q, e, h')) = absurd (fresh (j, subst (λ i. slice_get xs j ≡ Some i) (sym (one_get items i q h').1) h))
      go (inr (q, e, h)) (inl h') = absurd (fresh (k, subst (λ i. slice_get xs k ≡ Some i) (sym (one_get items i q h).1) h'))
      go (inr (q, e, h)) (inr (q', e', h')) = let a = (one_get items i q h).0 in let b = (one_get items i q' h').0 in omega arith

  pub still_reached : (g : Grammar) → IsAcceptedForm g normal → AreReached g normal (xs ++ items ∷ [])
  still_reached g form = record { reached = each (λ i. IsReached g normal i) (λ i m. are.reached i m g form) (reached g form); differ = still_differ }

  pub still_states : length items.entries ≡ normal.nonterminals → (HasDearEntry items → ⊥) → AreStates normal (xs ++ items ∷ [])
  still_states long cheap = record {
    differ = still_differ;
    reached = each (IsReachedBy normal) are.reached reached;
    sets = each (IsKidSet normal) are.sets (cheap_set normal items long cheap);
    cheap = each (λ i. HasDearEntry i → ⊥) are.cheap cheap;
  }

  -- more than allowed
  pub too_many : (most rows : ℕ) → (AreFew normal most rows (xs ++ items ∷ []) → ⊥) → (g : Grammar) → IsAcceptedForm g normal → IsTooLarge g normal most rows
  too_many most rows many g form = go (over (length (xs ++ items ∷ [])) (length (all_keys normal (xs ++ items ∷ []))) (λ a b. many (record { few_states = a; few_keys = b })))
    where
      over : (a b : ℕ) → (a ≤ most → b ≤ rows → ⊥) → (most < a) ⊎ (rows < b)
      over a b h = grind arith

      go : (most < length (xs ++ items ∷ [])) ⊎ (rows < length (all_keys normal (xs ++ items ∷ []))) → IsTooLarge g normal most rows
      go (inl h) = States (xs ++ items ∷ []) (still_reached g form) h
      go (inr h) = Rows (xs ++ items ∷ []) (still_reached g form) h

pub too_dear : (normal : NormalForm) (items : Items) (most rows : ℕ) → IsReachedBy normal items → HasDearEntry items → (g : Grammar) → IsAcceptedForm g normal → IsTooLarge g normal most rows
too_dear normal items most rows reached dear g form = Dear items (reached g form) dear

pub one_more : (xs : List Items) (items : Items) → length (xs ++ items ∷ []) ≡ length xs + 1
one_more xs items = length-append xs (items ∷ [])

pub no_states : (normal : NormalForm) → AreStates normal []
no_states normal = record { differ = λ j k i h h'. absurd (some_none (sym h)); reached = λ i m. absurd (some_none (sym m.1)); sets = λ i m. absurd (some_none (sym m.1)); cheap = λ i m. absurd (some_none (sym m.1)) }

pub kept_same : (old new : List Items) (items : Items) (n : ℕ) → new ≡ old → slice_get new n ≡ Some items → IsKept old items new
kept_same old new items n e at = record {
  added = [];
  grown = e ∙ sym (append_none old);
  few = omega arith;
  number = n;
  below = slice_get_within new n items at;
  there = at;
  next = λ h. let q = ap length e in absurd (omega arith);
}

pub kept_more : (old new : List Items) (items : Items) → new ≡ old ++ items ∷ [] → IsKept old items new
kept_more old new items e =
    let q = ap length e ∙ one_more old items in
    let z : length old + 0 ≡ length old = omega arith in
    record {
      added = items ∷ [];
      grown = e;
      few = omega arith;
      number = length old;
      below = omega arith;
      there = subst (λ xs. slice_get xs (length old) ≡ Some items) (sym e) (subst (λ n. slice_get (old ++ items ∷ []) n ≡ Some items) z (get_right old (items ∷ []) 0));
      next = λ h. refl;
    }

pub found_more : (normal : NormalForm) (most rows : ℕ) (old new : List Items) (items : Items) → AreFound normal most rows old → new ≡ old ++ items ∷ [] → AreStates normal new × AreFew normal most rows new → AreFound normal most rows new
found_more normal most rows old new items found e both =
    let (i, at, none) = found.empty in
    record { are = both.0; few = both.1; empty = (i, subst (λ xs. slice_get xs 0 ≡ Some i) (sym e) (get_left old (items ∷ []) 0 i at), none) }
