-- Each tree has an item set: by the kids' item sets each goal has a best derivation or none.
use Rattle.std.proofs.Common.{◌≡◌, ℕ, zero, suc, ◌+◌, ◌-◌, ◌<◌, ◌≤◌, ◌⊎◌, inl, inr, List, [], ◌∷◌, ◌++◌, length, map, refl, ap, subst, sym, ◌∙◌, Option, Some, None, slice_get, arith, ℤ, ◌+ℤ◌}
use Rattle.std.specs.Prelude.{◌-ℤ◌}
use Rattle.std.proofs.lemmas.Int.{ints}
use Rattle.std.proofs.lemmas.List.{length-map}
use Rattle.std.proofs.lemmas.Option.{slice_get_within}
use Rattle.sel_grammar.specs.declared.grammar.Grammar.{Grammar}
use Rattle.sel_grammar.specs.declared.grammar.Pattern.{Pattern}
use Rattle.sel_grammar.specs.Costs.{Cost, no_cost, ◌⊕◌, IsCheaper}
use Rattle.sel_grammar.specs.PlainTrees.{PlainTree, Node0, Node1, Node2}
use Rattle.sel_grammar.specs.Derivations.{Derivation, cost, costs}
use Rattle.sel_grammar.specs.Best.{HasNone}
use Rattle.sel_grammar.specs.Firsts.{IsFirst}
use Rattle.sel_grammar.specs.Chains.{HasNoFreeCycle}
use Rattle.sel_grammar.specs.Lawful.{IsLawful}
use Rattle.sel_grammar.proofs.CostLaws.{cheaper_or_not, cheaper_not_both, cheaper_not_same}
use Rattle.sel_grammar.proofs.Firsts.{IsBest-first}
use Rattle.sel_grammar.proofs.FreshChains.{first_or_none}
use Rattle.sel_normal.specs.NormalForms.{NormalForm}
use Rattle.sel_normal.specs.Forms.{places, tests, cut_rules, helper_rules, IsFormOf}
use Rattle.sel_normal.specs.Cuts.{IsCut}
use Rattle.sel_normal.proofs.Kept.{form_cut}
use Rattle.sel_normal.proofs.Steps.{some_same}
use Rattle.sel_items.specs.declared.items.Item.{Item}
use Rattle.sel_items.specs.declared.items.Items.{Items}
use Rattle.sel_items.specs.Entries.{ItemRow, item_at, raised, IsReduced}
use Rattle.sel_items.specs.LeastCosts.{WithEntry}
use Rattle.sel_items.specs.ItemsOf.{root_rule, SymbolMeans, PartMeans, IsItemsOf}
use Rattle.sel_items.proofs.Meanings.{kid_trees, PartCosts, KidsGoals}
use Rattle.sel_items.proofs.GoalKids.{pattern_known}
use Rattle.sel_items.proofs.KeyRules.{low_outcome}
use Rattle.sel_items.proofs.Rows.{item_at-map, below_or_not, LeastBelow, least_more, least_all, reduced_least, reduced_none}
use Rattle.sel_items.proofs.OneItems.{there}
use Rattle.sel_items.proofs.BestParts.{best_part, items_are_nodes, made}

-- The least cost is taken away from any row.
with_entry : (o : Option Cost) (e : Option Item) → (r : Option Cost) × WithEntry o e r
with_entry o None = (o, refl)
with_entry None (Some item) = (Some item.cost, refl)
with_entry (Some a) (Some item) = go (cheaper_or_not item.cost a)
  where
    go : IsCheaper item.cost a ⊎ ((item.cost ≡ a) ⊎ IsCheaper a item.cost) → (r : Option Cost) × WithEntry (Some a) (Some item) r
    go (inl c) = (Some item.cost, inl (refl, c))
    go (inr (inl q)) = (Some a, inr (refl, λ c. cheaper_not_same item.cost a c (sym q)))
    go (inr (inr d)) = (Some a, inr (refl, λ c. cheaper_not_both item.cost a c d))

least_below : (row : ItemRow) (n : ℕ) → (o : Option Cost) × LeastBelow row n o
least_below row zero = (None, λ k l. absurd (omega arith))
least_below row (suc n) =
    let p = least_below row n in
    let w = with_entry p.0 (item_at row n) in
    (w.0, subst (λ m. LeastBelow row m w.0) (let e : n + 1 ≡ suc n = omega arith in e) (least_more row n p.0 (item_at row n) w.0 refl p.1 w.1))

abbrev lowered : Cost → Option Item → Option Item
lowered c None = None
lowered c (Some item) = Some (record { cost = record { first = (item.cost).first - c.first; second = (item.cost).second -ℤ c.second }; rule = item.rule })

second_back : (x y : ℤ) → x +ℤ (y -ℤ x) ≡ y
second_back x y = omega (arith, ints)

raised_lowered : (c : Cost) (o : Option Item) → ((item : Item) → o ≡ Some item → IsCheaper item.cost c → ⊥) → o ≡ raised c (lowered c o)
raised_lowered c None h = refl
raised_lowered c (Some item) h = go (below_or_not (item.cost).first c.first)
  where
    go : ((item.cost).first < c.first) ⊎ (c.first ≤ (item.cost).first) → Some item ≡ raised c (lowered c (Some item))
    go (inl b) = absurd (h item refl (inl b))
    go (inr b) =
        let a : Cost = record { first = (item.cost).first - c.first; second = (item.cost).second -ℤ c.second } in
        ap (λ (x : Cost). Some (record { cost = x; rule = item.rule })) (made item.cost (c ⊕ a) (omega arith) (sym (second_back c.second (item.cost).second)))

some_reduced : (row : ItemRow) → (least : Cost) × (new : ItemRow) × IsReduced least row new
some_reduced row = go (least_below row (length row))
  where
    go : (o : Option Cost) × LeastBelow row (length row) o → (least : Cost) × (new : ItemRow) × IsReduced least row new
    go (None, h) = (no_cost, row, reduced_none row (least_all row None h))
    go (Some c, h) =
        let l = least_all row (Some c) h in (
          c,
          map (lowered c) row,
          reduced_least c row (map (lowered c) row) l (length-map row (lowered c)) (λ n. raised_lowered c (item_at row n) (l.1 n) ∙ ap (raised c) (sym (item_at-map (lowered c) row n refl))),
        )

-- A row with an entry for each place.
in_front : (P : ℕ → Option Item → Type 0) (n : ℕ) (o : Option Item) (row : ItemRow) → P 0 o → ((k : ℕ) → k < n → P (suc k) (item_at row k)) → (k : ℕ) → k < suc n → P k (item_at (o ∷ row) k)
in_front P n o row h r zero l = h
in_front P n o row h r (suc k) l = r k (omega arith)

row_of : (P : ℕ → Option Item → Type 0) (n : ℕ) → ((k : ℕ) → k < n → (o : Option Item) × P k o) → (row : ItemRow) × (length row ≡ n) × ((k : ℕ) → k < n → P k (item_at row k))
row_of P zero h = ([], refl, λ k l. absurd (omega arith))
row_of P (suc n) h =
    let f = h 0 (omega arith) in
    let r = row_of (λ k o. P (suc k) o) n (λ k l. h (suc k) (omega arith)) in
    (f.0 ∷ r.0, ap suc r.1, in_front P n f.0 r.0 f.1 r.2)

module _ (g : Grammar) (lawful : IsLawful g) (free : HasNoFreeCycle g) where
  abbrev users : ℕ
  users = length g.nonterminals

  abbrev normal : NormalForm
  normal = record {
    nonterminals = length g.nonterminals + length (places g.rules);
    user_rules = length g.rules;
    rules = cut_rules (length g.nonterminals) 0 g.rules ++ helper_rules (length g.nonterminals) (places g.rules);
    tests = tests g.rules;
  }

  form : IsFormOf g normal
  form = record { nonterminals = refl; user_rules = refl; rules = refl; tests = refl }

  cut : IsCut g normal
  cut = form_cut g normal lawful form

  module _ (t : PlainTree) (shift : Cost) (is : List Items) (kids : KidsGoals g (kid_trees t) shift is) where
    symbol : (n : ℕ) → (o : Option Item) × SymbolMeans g n t o
    symbol n = go (first_or_none g t free (low_outcome cut t shift is kids) n)
      where
        go : ((d : Derivation) × IsFirst g d n t) ⊎ HasNone g n t → (o : Option Item) × SymbolMeans g n t o
        go (inl (d, f)) = (Some (record { cost = cost g d; rule = root_rule d }), record { best = d; is_best = IsBest-first g d n t f; cost_is = refl; rule_is = refl })
        go (inr none) = (None, none)

    inner : (j : ℕ) (part : Pattern) → slice_get (places g.rules) j ≡ Some part → (o : Option Item) × PartMeans g part (length g.rules + j + 1) t o
    inner j part at = let n = cut.helper j part at in go _ (pattern_known g part (users + j + 1) t shift is (n.2).operator (n.2).below kids)
      where
        go : (x : Option Cost) → PartCosts g part t shift x → (o : Option Item) × PartMeans g part (length g.rules + j + 1) t o
        go None none = (None, λ es w. none w.0 w.1 es w.2)
        go (Some x) h = (
          Some (record { cost = costs g h.kids; rule = length g.rules + j + 1 }),
          record { best = h.kids; is_best = best_part g part t h.under h.kids h.lies h.firsts; cost_is = refl; rule_is = refl },
        )

    -- the entry at the place means its goal
    abbrev Means : ℕ → Option Item → Type 0
    Means n o = (n < users → SymbolMeans g n t o) × ((j : ℕ) (part : Pattern) → n ≡ users + j → slice_get (places g.rules) j ≡ Some part → PartMeans g part (length g.rules + j + 1) t o)

    inner_means : (n i : ℕ) (p : Pattern) (o : Option Item) → n ≡ users + i → slice_get (places g.rules) i ≡ Some p → PartMeans g p (length g.rules + i + 1) t o → Means n o
    inner_means n i p o is at h = (λ l. absurd (omega arith), λ j part e here. moved j part (let q : i ≡ j = omega arith in q) here)
      where
        moved : (j : ℕ) (part : Pattern) → i ≡ j → slice_get (places g.rules) j ≡ Some part → PartMeans g part (length g.rules + j + 1) t o
        moved j part q here =
            let same : p ≡ part = some_same (sym at ∙ ap (slice_get (places g.rules)) q ∙ here) in
            subst (λ k. PartMeans g part (length g.rules + k + 1) t o) q (subst (λ x. PartMeans g x (length g.rules + i + 1) t o) same h)

    entry : (n : ℕ) → n < users + length (places g.rules) → (o : Option Item) × Means n o
    entry n l = go (below_or_not n users)
      where
        go : (n < users) ⊎ (users ≤ n) → (o : Option Item) × Means n o
        go (inl b) = let s = symbol n in (s.0, (λ k. s.1, λ j part e here. absurd (omega arith)))
        go (inr b) =
            let w = there (places g.rules) (n - users) (omega arith) in
            let s = inner (n - users) w.0 w.1 in
            (s.0, inner_means n (n - users) w.0 s.0 (omega arith) w.1 s.1)

    inside : (j : ℕ) (part : Pattern) → slice_get (places g.rules) j ≡ Some part → users + j < users + length (places g.rules)
    inside j part at = let w = slice_get_within (places g.rules) j part at in omega arith

    by_kids : (i : Items) × IsItemsOf g t i
    by_kids =
        let r = row_of Means (users + length (places g.rules)) entry in
        let s = some_reduced r.0 in (
          record { entries = s.1 },
          record {
            absolute = r.0;
            least = s.0;
            long = r.1;
            symbols = λ n l. (r.2 n (omega arith)).0 l;
            parts = λ j part at. (r.2 (users + j) (inside j part at)).1 j part refl at;
            reduced = s.2;
          },
        )

  pub some_items : (t : PlainTree) → (i : Items) × IsItemsOf g t i
  some_items (Node0 op a) = by_kids (Node0 op a) no_cost [] refl
  some_items (Node1 op a t) =
      let (i, h) = some_items t in let m = items_are_nodes g t i h in by_kids (Node1 op a t) m.shift (i ∷ []) m.means
  some_items (Node2 op a t u) =
      let (i, h) = some_items t in
      let (j, k) = some_items u in
      let m = items_are_nodes g t i h in
      let n = items_are_nodes g u j k in
      by_kids (Node2 op a t u) (m.shift ⊕ n.shift) (i ∷ j ∷ []) (m.shift, n.shift, refl, m.means, n.means)
