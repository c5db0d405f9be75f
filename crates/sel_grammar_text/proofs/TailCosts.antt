-- A tail in which no number is too large gives a cost of small numbers.
use Rattle.std.proofs.Common.{◌≡◌, ℕ, ◌≤◌, Option, Some, None, Bool, true, false, refl, arith}
use Rattle.std.specs.Prelude.{nat_lt}
use Rattle.std.specs.Str.Parse.{digits_value}
use Rattle.sel_grammar.specs.declared.grammar.RuleCost.{RuleCost}
use Rattle.sel_grammar.specs.Limits.{greatest_cost}
use Rattle.sel_grammar_text.specs.Items.{Word, AmountText, NoCost, Amount, Ranged, TailText, OneLine, Burg}
use Rattle.sel_grammar_text.specs.Checks.{place_if, or_place, large_cost, large_bound, large_option, large_amount, large_amount_if_any, large_in_tail}
use Rattle.sel_grammar_text.specs.Meaning.{number_or_0, amount_cost, amount_or_none, cost_of}

abbrev IsSmallCost : RuleCost → Type 0
IsSmallCost c = (c.first ≤ greatest_cost) × (c.second ≤ greatest_cost)

first_none : (o p : Option ℕ) → or_place o p ≡ None → o ≡ None
first_none None p h = refl
first_none (Some at) p h = absurd (cc)

second_none : (o p : Option ℕ) → or_place o p ≡ None → p ≡ None
second_none None p h = h
second_none (Some at) p h = absurd (cc)

small_number : (w : Word) → large_cost w ≡ None → digits_value 10 w.bytes ≤ greatest_cost
small_number w h = go (nat_lt greatest_cost (digits_value 10 w.bytes)) refl h
  where
    go : (b : Bool) → nat_lt greatest_cost (digits_value 10 w.bytes) ≡ b → place_if b w.at ≡ None → digits_value 10 w.bytes ≤ greatest_cost
    go true e k = absurd (cc)
    go false e k = grind (arith, e)

small_second : (o : Option Word) → large_option o ≡ None → number_or_0 o ≤ greatest_cost
small_second None h = omega arith
small_second (Some w) h = small_number w h

small_amount : (a : AmountText) → large_amount a ≡ None → IsSmallCost (amount_cost a)
small_amount a h = (small_number a.first (first_none (large_cost a.first) (large_option a.second) h), small_second a.second (second_none (large_cost a.first) (large_option a.second) h))

small_if_any : (o : Option AmountText) → large_amount_if_any o ≡ None → IsSmallCost (amount_or_none o)
small_if_any None h = (omega arith, omega arith)
small_if_any (Some a) h = small_amount a h

pub small_tail : (tail : TailText) → large_in_tail tail ≡ None → ((cost_of tail).first ≤ greatest_cost) × ((cost_of tail).second ≤ greatest_cost)
small_tail (OneLine w NoCost) h = (omega arith, omega arith)
small_tail (OneLine w (Amount a)) h = small_amount a h
small_tail (OneLine w (Ranged at lo hi addend)) h =
    small_if_any addend (second_none (large_bound hi) (large_amount_if_any addend) (second_none (large_bound lo) (or_place (large_bound hi) (large_amount_if_any addend)) h))
small_tail (Burg external cost) h = small_if_any cost h
