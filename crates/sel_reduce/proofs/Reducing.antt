-- The walk goal by goal.
use Rattle.std.proofs.Common.{◌≡◌, ℕ, zero, suc, ◌+◌, ◌*◌, ◌<◌, ◌≤◌, inl, inr, Some, None, List, [], ◌∷◌, ◌++◌, length, refl, ap, sym, ◌∙◌, subst, arith, append_assoc, length-append, reverse, ℤ, pos, ◌+ℤ◌, ◌≤ℤ◌}
use Rattle.std.proofs.lemmas.Int.{ints}
use Rattle.std.proofs.lemmas.List.{reverse-append, reverse-reverse}
use Rattle.std.proofs.lemmas.Option.{slice_get_within}
use Rattle.sel_grammar.specs.declared.grammar.Grammar.{Grammar}
use Rattle.sel_grammar.specs.Costs.{Cost, ◌⊕◌, paid}
use Rattle.sel_grammar.specs.Derivations.{Derivations, cost, costs, lists}
use Rattle.sel_grammar.specs.SmallCosts.{HasSmallCosts, IsSmall}
use Rattle.sel_grammar.proofs.CostLaws.{sum_assoc, sum_before}
use Rattle.sel_grammar.proofs.LawfulCosts.{lawful_costs}
use Rattle.sel_grammar.proofs.Short.{costs_small}
use Rattle.sel_forest.specs.declared.forest.Node.{Node}
use Rattle.sel_forest.specs.declared.walk.Goal.{Goal}
use Rattle.sel_normal.specs.declared.normal.NormalRule.{NormalRule}
use Rattle.sel_normal.specs.NormalForms.{NormalForm, normal_at}
use Rattle.sel_normal.specs.Forms.{places}
use Rattle.sel_normal.proofs.Steps.{some_same, some_none}
use Rattle.sel_items.specs.declared.items.Item.{Item}
use Rattle.sel_items.specs.declared.items.Items.{Items}
use Rattle.sel_items.specs.declared.label.Label.{Label}
use Rattle.sel_items.specs.Automata.{KeepsMeanings}
use Rattle.sel_items.specs.Entries.{item_at}
use Rattle.sel_items.specs.Laws.{IsAcceptedForm}
use Rattle.sel_label.specs.Labelling.{LabelsMean}
use Rattle.sel_reduce.specs.CostLimits.{most_cost}
use Rattle.sel_reduce.specs.Goals.{IsItemsAt, kid_goals, StandsFor, IsBestAt, AreBestAt, all_lists, all_costs, IsHalfReduced, written, TakesRule}
use Rattle.sel_reduce.proofs.Tops.{IsNext, IsTop, top}
use Rattle.sel_reduce.proofs.Weights.{weights, weights-append, weights-reverse}

AreBestAt-append : (g : Grammar) (nodes : List Node) (xs ys : List Derivations) (gs hs : List Goal) → AreBestAt g nodes xs gs → AreBestAt g nodes ys hs → AreBestAt g nodes (xs ++ ys) (gs ++ hs)
AreBestAt-append g nodes [] ys [] hs h k = k
AreBestAt-append g nodes [] ys (goal ∷ gs) hs h k = absurd h
AreBestAt-append g nodes (x ∷ xs) ys [] hs h k = absurd h
AreBestAt-append g nodes (x ∷ xs) ys (goal ∷ gs) hs h k = (h.0, AreBestAt-append g nodes xs ys gs hs h.1 k)

lists-append : (xs ys : List Derivations) → all_lists (xs ++ ys) ≡ all_lists xs ++ all_lists ys
lists-append [] ys = refl
lists-append (x ∷ xs) ys = ap (λ l. lists x ++ l) (lists-append xs ys) ∙ sym (append_assoc (lists x) (all_lists xs) (all_lists ys))

costs-append : (g : Grammar) (xs ys : List Derivations) → all_costs g xs ⊕ all_costs g ys ≡ all_costs g (xs ++ ys)
costs-append g [] ys = sym (sum_before (all_costs g ys))
costs-append g (x ∷ xs) ys = sum_assoc (costs g x) (all_costs g xs) (all_costs g ys) ∙ ap (λ c. costs g x ⊕ c) (costs-append g xs ys)

no_less : (x y : ℤ) → pos 0 ≤ℤ x → pos 0 ≤ℤ y → pos 0 ≤ℤ (x +ℤ y)
no_less x y h k = omega (arith, ints)

costs_low : (g : Grammar) → HasSmallCosts g → (xs : List Derivations) → pos 0 ≤ℤ (all_costs g xs).second
costs_low g small [] = omega (arith, ints)
costs_low g small (x ∷ xs) = no_less (costs g x).second (all_costs g xs).second (costs_small g small x).low (costs_low g small xs)

paid_low : (n : ℕ) → pos 0 ≤ℤ pos n
paid_low n = omega (arith, ints)

-- the first part of a small sum is small
small_part : (most : ℕ) (whole a b : Cost) → IsSmall most whole → whole ≡ a ⊕ b → pos 0 ≤ℤ a.second → pos 0 ≤ℤ b.second → IsSmall most a
small_part most whole a b h is low rest = record {
  first = let f = h.first in let e = ap (λ (c : Cost). c.first) is in omega arith;
  low = low;
  high = under whole.second a.second b.second h.high (ap (λ (c : Cost). c.second) is) rest;
}
  where
    under : (w x y : ℤ) → w ≤ℤ pos most → w ≡ x +ℤ y → pos 0 ≤ℤ y → x ≤ℤ pos most
    under w x y h e l = omega (arith, ints)

module _ (g : Grammar) (normal : NormalForm) (nodes : List Node) (ok : IsAcceptedForm g normal) (root next : Goal) (rules : List ℕ) (so_far : Cost) (before stack : List Goal)
    (half : IsHalfReduced g nodes root rules so_far before) (popped : before ≡ stack ++ next ∷ []) where
  -- the derivations for the next goal, and those for the others
  pub record Parts : Type 0 where
    pub ds : Derivations
    pub others : List Derivations
    pub are : half.kids ≡ ds ∷ others
    pub best : IsBestAt g nodes ds next
    pub rest : AreBestAt g nodes others (reverse stack)

  pub parts : Parts
  parts = go half.kids refl (subst (λ gs. AreBestAt g nodes half.kids gs) (ap reverse popped ∙ reverse-append stack (next ∷ [])) half.for)
    where
      go : (kids : List Derivations) → half.kids ≡ kids → AreBestAt g nodes kids (next ∷ reverse stack) → Parts
      go [] e h = absurd h
      go (ds ∷ others) e h = record { ds = ds; others = others; are = e; best = h.0; rest = h.1 }

  low : StandsFor g next.nonterminal (parts.best).part → next.nonterminal < normal.nonterminals
  low (inl (l, is)) = let e = (ok.form).nonterminals in omega arith
  low (inr (j, is, at)) = let e = (ok.form).nonterminals in let w = slice_get_within (places g.rules) j (parts.best).part at in omega arith

  pub goal_low : next.nonterminal < normal.nonterminals
  goal_low = low (parts.best).stands

  module _ (number : ℕ) (nr : NormalRule) (n : IsNext g normal nodes next parts.ds number nr) where
    from_one : 1 ≤ number
    from_one = go number n.numbered
      where
        go : (k : ℕ) → normal_at normal k ≡ Some nr → 1 ≤ k
        go zero h = absurd (some_none (sym h))
        go (suc k) h = omega arith

    to_last : number ≤ length normal.rules
    to_last = go number n.numbered
      where
        go : (k : ℕ) → normal_at normal k ≡ Some nr → k ≤ length normal.rules
        go zero h = absurd (some_none (sym h))
        go (suc k) h = let w = slice_get_within normal.rules k nr h in omega arith

    kids : List Derivations
    kids = n.kids ++ parts.others

    summed : cost g half.best ≡ (so_far ⊕ paid nr.cost) ⊕ all_costs g kids
    unfolding kids
    summed =
        half.sum ∙ ap (λ xs. so_far ⊕ all_costs g xs) parts.are ∙ ap (λ c. so_far ⊕ (c ⊕ all_costs g parts.others)) n.costed
        ∙ ap (λ c. so_far ⊕ c) (sum_assoc (paid nr.cost) (all_costs g n.kids) (all_costs g parts.others))
        ∙ sym (sum_assoc so_far (paid nr.cost) (all_costs g n.kids ⊕ all_costs g parts.others))
        ∙ ap (λ c. (so_far ⊕ paid nr.cost) ⊕ c) (costs-append g n.kids parts.others)

    sum_small : IsSmall most_cost (so_far ⊕ paid nr.cost)
    sum_small =
        small_part most_cost (cost g half.best) (so_far ⊕ paid nr.cost) (all_costs g kids) half.small summed
        (no_less so_far.second (pos (nr.cost).second) half.low (paid_low (nr.cost).second)) (costs_low g (lawful_costs g ok.lawful) kids)

    rule_is : (rule : NormalRule) → normal_at normal number ≡ Some rule → nr ≡ rule
    rule_is rule h = some_same (sym n.numbered ∙ h)

    rule_small : (rule : NormalRule) → normal_at normal number ≡ Some rule → IsSmall most_cost (so_far ⊕ paid rule.cost)
    rule_small rule h = subst (λ (x : NormalRule). IsSmall most_cost (so_far ⊕ paid x.cost)) (rule_is rule h) sum_small

    module _ (new : List ℕ) (sum : Cost) (left : List Goal) (takes : TakesRule normal nodes next number rules new so_far sum stack left) where
      gs : List Goal
      gs = kid_goals nr.body nodes next.at

      pushed : left ≡ stack ++ reverse gs
      unfolding gs
      pushed = takes.pushes ∙ ap (λ (x : NormalRule). stack ++ reverse (kid_goals x.body nodes next.at)) (sym (rule_is takes.rule takes.numbered))

      added : sum ≡ so_far ⊕ paid nr.cost
      added = takes.adds ∙ ap (λ (x : NormalRule). so_far ⊕ paid x.cost) (sym (rule_is takes.rule takes.numbered))

      order : gs ++ reverse stack ≡ reverse left
      order = sym (ap reverse pushed ∙ reverse-append stack (reverse gs) ∙ ap (λ x. x ++ reverse stack) (reverse-reverse gs))

      half_more : IsHalfReduced g nodes root new sum left
      unfolding gs kids
      half_more = record {
        tree = half.tree;
        root = half.root;
        best = half.best;
        first = half.first;
        small = half.small;
        kids = n.kids ++ parts.others;
        for = subst (λ xs. AreBestAt g nodes (n.kids ++ parts.others) xs) order (AreBestAt-append g nodes n.kids parts.others (kid_goals nr.body nodes next.at) (reverse stack) n.for parts.rest);
        whole =
            half.whole ∙ ap (λ xs. rules ++ all_lists xs) parts.are ∙ ap (λ l. rules ++ (l ++ all_lists parts.others)) n.listed
            ∙ ap (λ l. rules ++ l) (append_assoc (written normal number) (all_lists n.kids) (all_lists parts.others) ∙ ap (λ l. written normal number ++ l) (sym (lists-append n.kids parts.others)))
            ∙ sym (append_assoc rules (written normal number) (all_lists (n.kids ++ parts.others))) ∙ ap (λ l. l ++ all_lists (n.kids ++ parts.others)) (sym takes.writes);
        sum = summed ∙ ap (λ c. c ⊕ all_costs g (n.kids ++ parts.others)) (sym added);
        low = subst (λ (c : Cost). pos 0 ≤ℤ c.second) (sym added) (no_less so_far.second (pos (nr.cost).second) half.low (paid_low (nr.cost).second));
      }

      lighter : weights g left + 64 * length rules < weights g before + 64 * length new
      unfolding gs
      lighter =
          let a : weights g left ≡ weights g (stack ++ reverse (kid_goals nr.body nodes next.at)) = ap (weights g) pushed in
          let b = weights-append g stack (reverse (kid_goals nr.body nodes next.at)) in
          let c = weights-reverse g (kid_goals nr.body nodes next.at) in
          let d : weights g before ≡ weights g stack + weights g (next ∷ []) = ap (weights g) popped ∙ weights-append g stack (next ∷ []) in
          let e : length new ≡ length (rules ++ written normal number) = ap length takes.writes in
          let f = length-append rules (written normal number) in
          let l = n.lighter in
          omega arith

  -- what the labels mean at the turn: no less than at first
  module _ (all : List Node) (same : nodes ≡ all) (old means : Label → Items → Type 0) (labels : List Label) (meant : LabelsMean g old all labels) (keeps : KeepsMeanings old means) where
    -- the label of the goal's node means an item set, whose entry for the goal has the next rule
    record Found : Type 0 where
      items : Items
      meant_is : IsItemsAt means labels next.at items
      is_top : IsTop g normal nodes next items parts.ds

    found : Found
    found =
        let m = subst (λ ns. LabelsMean g old ns labels) (sym same) meant next.at (parts.best).tree (parts.best).root in
        let i = m.2 in
        record { items = i.0; meant_is = (m.0, m.1, keeps m.0 i.0 i.1); is_top = top g normal nodes next ok parts.ds parts.best i.0 i.2 }

    pub turn_items : (i : Items) × IsItemsAt means labels next.at i
    turn_items = (found.items, found.meant_is)

    pub turn_some : ((i : Items) → IsItemsAt means labels next.at i → None ≡ item_at i.entries next.nonterminal) → ⊥
    turn_some h = some_none (sym (found.is_top).there ∙ sym (h found.items found.meant_is))

    module _ (item : Item) (entry : (i : Items) → IsItemsAt means labels next.at i → Some item ≡ item_at i.entries next.nonterminal) where
      rule_of : (rule : NormalRule) × IsNext g normal nodes next parts.ds item.rule rule
      rule_of =
          let t = found.is_top in
          let same : t.item ≡ item = some_same (sym t.there ∙ sym (entry found.items found.meant_is)) in
          (t.rule, subst (λ (x : Item). IsNext g normal nodes next parts.ds x.rule t.rule) same t.next)

      pub turn_from : 1 ≤ item.rule
      turn_from = from_one item.rule rule_of.0 rule_of.1

      pub turn_to : item.rule ≤ length normal.rules
      turn_to = to_last item.rule rule_of.0 rule_of.1

      pub turn_small : (rule : NormalRule) → normal_at normal item.rule ≡ Some rule → IsSmall most_cost (so_far ⊕ paid rule.cost)
      turn_small = rule_small item.rule rule_of.0 rule_of.1

      module _ (new : List ℕ) (sum : Cost) (left : List Goal) (takes : TakesRule normal nodes next item.rule rules new so_far sum stack left) where
        pub turn_half : IsHalfReduced g nodes root new sum left
        turn_half = half_more item.rule rule_of.0 rule_of.1 new sum left takes

        pub turn_lighter : weights g left + 64 * length rules < weights g before + 64 * length new
        turn_lighter = lighter item.rule rule_of.0 rule_of.1 new sum left takes
