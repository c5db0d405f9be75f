-- Item sets of trees that aren't too large have small numbers: the least cost is no more than each, and each is the cost of a short derivation.
use Rattle.std.proofs.Common.{◌≡◌, ℕ, ◌+◌, ◌*◌, ◌<◌, ◌≤◌, ◌^◌, ◌⊎◌, inl, inr, length, ap, subst, sym, ◌∙◌, Option, Some, None, arith, ℤ, pos, ◌+ℤ◌, ◌≤ℤ◌, ◌<ℤ◌, neg_ℤ}
use Rattle.std.proofs.lemmas.Int.{ints}
use Rattle.sel_grammar.specs.declared.grammar.Grammar.{Grammar}
use Rattle.sel_grammar.specs.declared.grammar.Pattern.{Pattern}
use Rattle.sel_grammar.specs.Costs.{Cost, no_cost, ◌⊕◌, IsCheaper}
use Rattle.sel_grammar.specs.PlainTrees.{PlainTree, size}
use Rattle.sel_grammar.specs.Fits.{leaves}
use Rattle.sel_grammar.specs.Derivations.{Derivations, costs, lists}
use Rattle.sel_grammar.specs.Chains.{HasNoFreeCycle}
use Rattle.sel_grammar.specs.Limits.{IsWithinLimits}
use Rattle.sel_grammar.specs.SmallCosts.{HasSmallCosts, IsSmall}
use Rattle.sel_grammar.proofs.CostLaws.{cheaper_not_both, cheaper_not_same, sum_none}
use Rattle.sel_grammar.proofs.LawfulCosts.{lawful_costs}
use Rattle.sel_grammar.proofs.Short.{best_is_small, AreCheapest, cheapest_kids_short, costs_small, small_within, subtrees_within}
use Rattle.sel_normal.specs.Forms.{places}
use Rattle.sel_normal.specs.Goals.{BeatAll, IsBestPart}
use Rattle.sel_normal.proofs.Steps.{some_none, some_same}
use Rattle.sel_items.specs.declared.items.Item.{Item}
use Rattle.sel_items.specs.declared.items.Items.{Items}
use Rattle.sel_items.specs.CostBounds.{IsBelow}
use Rattle.sel_items.specs.Entries.{item_at, raised}
use Rattle.sel_items.specs.ItemsOf.{SymbolMeans, PartMeans, IsItemsOf}
use Rattle.sel_items.specs.Laws.{ItemsAreKidSets}
use Rattle.sel_items.proofs.Rows.{no_entry, below_or_not}
use Rattle.sel_items.proofs.OneItems.{by_goals}

-- what is best at a part costs least
part_cheapest : (g : Grammar) (ds : Derivations) (part : Pattern) (t : PlainTree) → (b : IsBestPart g ds part t) → AreCheapest g ds (leaves part) (b.derives).0
part_cheapest g ds part t b = record { derive = (b.derives).2; least = λ es h c. go es (b.beats es ((b.derives).0, (b.derives).1, h)) c }
  where
    go : (es : Derivations) → (es ≡ ds) ⊎ BeatAll g ds es → IsCheaper (costs g es) (costs g ds) → ⊥
    go es (inl q) c = cheaper_not_same (costs g es) (costs g ds) c (ap (costs g) (sym q))
    go es (inr (inl k)) c = cheaper_not_both (costs g ds) (costs g es) k c
    go es (inr (inr k)) c = cheaper_not_same (costs g es) (costs g ds) c k.0

-- the bound of a tree's costs
abbrev most : PlainTree → ℕ
most t = size t * 64 * 65535

-- what makes a small cost of a small one is below any power beyond both
difference : (least c : Cost) (most : ℕ) → most < 2 ^ 46 → IsSmall most least → IsSmall most (least ⊕ c) → IsBelow 46 c
difference least c most few h k = record {
  first = let f = k.first in omega arith;
  low = low least.second c.second most few h.high k.low;
  high = high least.second c.second most few h.low k.high;
}
  where
    low : (x y : ℤ) (m : ℕ) → m < 2 ^ 46 → x ≤ℤ pos m → pos 0 ≤ℤ (x +ℤ y) → neg_ℤ (pos (2 ^ 46)) <ℤ y
    low x y m l p q = omega (arith, ints)

    high : (x y : ℤ) (m : ℕ) → m < 2 ^ 46 → pos 0 ≤ℤ x → (x +ℤ y) ≤ℤ pos m → y <ℤ pos (2 ^ 46)
    high x y m l p q = omega (arith, ints)

module _ (g : Grammar) (t : PlainTree) (within : IsWithinLimits g) (small : HasSmallCosts g) (none : HasNoFreeCycle g) where
  symbol_small : (n : ℕ) (o : Option Item) (item : Item) → SymbolMeans g n t o → o ≡ Some item → IsSmall (most t) item.cost
  symbol_small n None item h e = absurd (some_none (sym e))
  symbol_small n (Some i) item h e =
      subst (λ (o : Item). IsSmall (most t) o.cost) (some_same e) (subst (λ c. IsSmall (most t) c) (sym h.cost_is) (best_is_small g n t h.best within small none h.is_best))

  part_small : (part : Pattern) (helper : ℕ) (o : Option Item) (item : Item) → PartMeans g part helper t o → o ≡ Some item → IsSmall (most t) item.cost
  part_small part helper None item h e = absurd (some_none (sym e))
  part_small part helper (Some i) item h e =
      let d = (h.is_best).derives in
      let short = cheapest_kids_short g within none h.best (leaves part) d.0 (part_cheapest g h.best part t h.is_best) in
      let few = subtrees_within part t d.0 d.1 in
      subst (λ (o : Item). IsSmall (most t) o.cost) (some_same e)
      (subst (λ c. IsSmall (most t) c) (sym h.cost_is) (small_within g small (length (lists h.best)) (size t) (costs g h.best) (costs_small g small h.best) (omega arith)))

  -- each entry before the least cost is taken away
  absolute_small : (items : Items) (h : IsItemsOf g t items) (n : ℕ) (item : Item) → item_at h.absolute n ≡ Some item → IsSmall (most t) item.cost
  absolute_small items h n item e = go (below_or_not n (length g.nonterminals + length (places g.rules)))
    where
      inside : (n : ℕ) → n < length g.nonterminals + length (places g.rules) → (item : Item) → item_at h.absolute n ≡ Some item → IsSmall (most t) item.cost
      inside = by_goals g (λ n. (item : Item) → item_at h.absolute n ≡ Some item → IsSmall (most t) item.cost)
          (λ n b item e. symbol_small n (item_at h.absolute n) item (h.symbols n b) e)
          (λ j part at item e. part_small part (length g.rules + j + 1) (item_at h.absolute (length g.nonterminals + j)) item (h.parts j part at) e)

      go : (n < length g.nonterminals + length (places g.rules)) ⊎ (length g.nonterminals + length (places g.rules) ≤ n) → IsSmall (most t) item.cost
      go (inl c) = inside n c item e
      go (inr c) = absurd (some_none (sym e ∙ no_entry h.absolute n (subst (λ x. x ≤ n) (sym h.long) c)))

  least_small : (items : Items) (h : IsItemsOf g t items) (n : ℕ) (item : Item) → item_at items.entries n ≡ Some item → IsSmall (most t) h.least
  least_small items h n item e = go (h.reduced).reached
    where
      go : ((m : ℕ) × (i : Item) × (item_at items.entries m ≡ Some i) × (i.cost ≡ no_cost)) ⊎ (((m : ℕ) → item_at items.entries m ≡ None) × (h.least ≡ no_cost)) → IsSmall (most t) h.least
      go (inl (m, i, at, free)) =
          subst (λ c. IsSmall (most t) c) (ap (λ c. h.least ⊕ c) free ∙ sym (sum_none h.least))
          (absolute_small items h m (record { cost = h.least ⊕ i.cost; rule = i.rule }) ((h.reduced).raised_is m ∙ ap (raised h.least) at))
      go (inr empty) = absurd (some_none (sym e ∙ empty.0 n))

  entry_below : (items : Items) (h : IsItemsOf g t items) → size t < 2 ^ 16 → (n : ℕ) (item : Item) → item_at items.entries n ≡ Some item → IsBelow 46 item.cost
  entry_below items h few n item e =
      difference (h.least) item.cost (most t) (omega arith) (least_small items h n item e)
      (absolute_small items h n (record { cost = h.least ⊕ item.cost; rule = item.rule }) ((h.reduced).raised_is n ∙ ap (raised h.least) e))

pub items_are_kid_sets : ItemsAreKidSets
items_are_kid_sets g normal t i k few h = record {
  long = sym (h.reduced).long ∙ h.long ∙ sym (k.form).nonterminals;
  small = entry_below g t (k.lawful).within (lawful_costs g k.lawful) (k.accepted).free i h few;
}
