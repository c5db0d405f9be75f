-- Texts of two parts with a separator between them.
use Rattle.std.proofs.Common.{◌≡◌, ℕ, suc, ◌≤◌, ◌<◌, ◌==◌, false, ◌⊎◌, inl, inr, List, ◌∷◌, ◌++◌, Option, Some, None, ap, ◌∙◌, subst, arith, decimal, ℤ, pos, negsuc, ◌<ℤ◌, ◌≤ℤ◌}
use Rattle.std.specs.Prelude.{neg_ℤ}
use Rattle.std.specs.Borrow.{Bor}
use Rattle.std.specs.Fmt.{signed_decimal}
use Rattle.std.proofs.lemmas.Int.{ints}
use Rattle.std.proofs.lemmas.List.Elements.{All-cons}
use Rattle.sel_grammar.specs.Costs.{Cost}
use Rattle.sel_items.specs.declared.items.Item.{Item}
use Rattle.sel_full.specs.Builds.{IsDear}
use Rattle.sel_full.specs.Forms.{IsFormItem}
use Rattle.sel_table.specs.declared.entries.Tail.{Tail}
use Rattle.sel_table.specs.LineReading.{Lacks, with_rest, IsAmount, IsRule, IsTail, tail_text, own_text}
use Rattle.sel_table.proofs.Cutting.{IsRest, cut_text}
use Rattle.sel_table.proofs.Decimals.{IsNoDigit, decimal_lacks}

-- a number with a sign has no byte but digits and the sign
pub signed_lacks : (c : ℕ) (z : ℤ) → IsNoDigit c → (45 == c) ≡ false → IsAmount z → Lacks c (signed_decimal z)
signed_lacks c (pos n) far other h = let high = h.high in decimal_lacks c n far (omega (arith, ints, high))
signed_lacks c (negsuc n) far other h = let low = h.low in All-cons (λ b. (b == c) ≡ false) 45 (decimal (suc n)) other (decimal_lacks c (suc n) far (omega (arith, ints, low)))

-- what isn't dear
pub small_first : (c : Cost) → (IsDear c → ⊥) → c.first ≤ 999999999999
small_first c cheap = few c.first (λ h. cheap (inl h))
  where
    few : (n : ℕ) → (999999999999 < n → ⊥) → n ≤ 999999999999
    few n h = grind arith

pub small_second : (c : Cost) → (IsDear c → ⊥) → IsAmount c.second
small_second c cheap = record { low = low c.second (λ h. cheap (inr (inr h))); high = high c.second (λ h. cheap (inr (inl h))) }
  where
    low : (z : ℤ) → (z <ℤ neg_ℤ (pos 999999999999) → ⊥) → neg_ℤ (pos 999999999999) ≤ℤ z
    low z h = go (order z)
      where
        order : (z : ℤ) → (z <ℤ neg_ℤ (pos 999999999999)) ⊎ (neg_ℤ (pos 999999999999) ≤ℤ z)
        order z = grind (arith, ints)

        go : (z <ℤ neg_ℤ (pos 999999999999)) ⊎ (neg_ℤ (pos 999999999999) ≤ℤ z) → neg_ℤ (pos 999999999999) ≤ℤ z
        go (inl l) = absurd (h l)
        go (inr l) = l

    high : (z : ℤ) → (pos 999999999999 <ℤ z → ⊥) → z ≤ℤ pos 999999999999
    high z h = go (order z)
      where
        order : (z : ℤ) → (pos 999999999999 <ℤ z) ⊎ (z ≤ℤ pos 999999999999)
        order z = grind (arith, ints)

        go : (pos 999999999999 <ℤ z) ⊎ (z ≤ℤ pos 999999999999) → z ≤ℤ pos 999999999999
        go (inl l) = absurd (h l)
        go (inr l) = l

pub not_dear : (first : ℕ) (second : ℤ) → first ≤ 999999999999 → IsAmount second → IsDear (record { first = first; second = second }) → ⊥
not_dear first second few h (inl l) = absurd (omega (arith, few, l))
not_dear first second few h (inr (inl l)) = let high = h.high in absurd (omega (arith, ints, high, l))
not_dear first second few h (inr (inr l)) = let low = h.low in absurd (omega (arith, ints, low, l))

-- what stands behind the comma
module _ (bytes part : List ℕ) (rest : Option (Bor (List ℕ))) (rules : ℕ) (lacks : Lacks 58 part) (whole : bytes ≡ part ++ with_rest 58 rest) where
  tail_parts : (t : Tail) → IsTail rules t → bytes ≡ tail_text t → (part ≡ signed_decimal t.second) × IsRest rest (decimal t.rule)
  tail_parts t h e = cut_text 58 bytes part rest (signed_decimal t.second) (decimal t.rule) lacks whole (signed_lacks 58 t.second (inr (omega arith)) (grind arith) h.amount) e

  pub tail_second : ((z : ℤ) → IsAmount z → part ≡ signed_decimal z → ⊥) → (t : Tail) → IsTail rules t → bytes ≡ tail_text t → ⊥
  tail_second never t h e = never t.second h.amount (tail_parts t h e).0

  pub tail_no_rest : rest ≡ None → (t : Tail) → IsTail rules t → bytes ≡ tail_text t → ⊥
  tail_no_rest none t h e = subst (λ r. IsRest r (decimal t.rule)) none (tail_parts t h e).1

  pub tail_rule : (r : Bor (List ℕ)) → rest ≡ Some r → ((n : ℕ) → IsRule rules n → r.now ≡ decimal n → ⊥) → (t : Tail) → IsTail rules t → bytes ≡ tail_text t → ⊥
  tail_rule r there never t h e = never t.rule h.rule (subst (λ o. IsRest o (decimal t.rule)) there (tail_parts t h e).1)

  pub tail_read : (r : Bor (List ℕ)) → rest ≡ Some r → (z : ℤ) (n : ℕ) → IsAmount z → part ≡ signed_decimal z → IsRule rules n → r.now ≡ decimal n
      → IsTail rules (record { second = z; rule = n }) × (bytes ≡ tail_text (record { second = z; rule = n }))
  tail_read r there z n amount e rule f = (record { amount = amount; rule = rule }, whole ∙ ap (λ o. part ++ with_rest 58 o) there ∙ (λ i. e i ++ (58 ∷ f i)))

-- an entry that is there
abbrev tail_of : Item → Tail
tail_of item = record { second = (item.cost).second; rule = item.rule }

module _ (bytes part : List ℕ) (rest : Option (Bor (List ℕ))) (rules : ℕ) (lacks : Lacks 44 part) (whole : bytes ≡ part ++ with_rest 44 rest) where
  item_parts : (i : Item) → IsFormItem rules i → bytes ≡ own_text i → (part ≡ decimal (i.cost).first) × IsRest rest (tail_text (tail_of i))
  item_parts i h e =
      let few = small_first i.cost h.cheap in
      cut_text 44 bytes part rest (decimal (i.cost).first) (tail_text (tail_of i)) lacks whole (decimal_lacks 44 (i.cost).first (inl (omega arith)) (omega (arith, few))) e

  pub item_first : ((n : ℕ) → n ≤ 999999999999 → part ≡ decimal n → ⊥) → (i : Item) → IsFormItem rules i → bytes ≡ own_text i → ⊥
  item_first never i h e = never (i.cost).first (small_first i.cost h.cheap) (item_parts i h e).0

  pub item_no_rest : rest ≡ None → (i : Item) → IsFormItem rules i → bytes ≡ own_text i → ⊥
  item_no_rest none i h e = subst (λ r. IsRest r (tail_text (tail_of i))) none (item_parts i h e).1

  pub item_tail : (r : Bor (List ℕ)) → rest ≡ Some r → ((t : Tail) → IsTail rules t → r.now ≡ tail_text t → ⊥) → (i : Item) → IsFormItem rules i → bytes ≡ own_text i → ⊥
  item_tail r there never i h e =
      never (tail_of i) (record { amount = small_second i.cost h.cheap; rule = (h.some, h.rule) }) (subst (λ o. IsRest o (tail_text (tail_of i))) there (item_parts i h e).1)

  pub item_read : (r : Bor (List ℕ)) → rest ≡ Some r → (n : ℕ) (t : Tail) → n ≤ 999999999999 → part ≡ decimal n → IsTail rules t → r.now ≡ tail_text t
      → IsFormItem rules (record { cost = record { first = n; second = t.second }; rule = t.rule }) × (bytes ≡ own_text (record { cost = record { first = n; second = t.second }; rule = t.rule }))
  item_read r there n t few e h f = (record { cheap = not_dear n t.second few h.amount; some = (h.rule).0; rule = (h.rule).1 }, whole ∙ ap (λ o. part ++ with_rest 44 o) there ∙ (λ i. e i ++ (44 ∷ f i)))
