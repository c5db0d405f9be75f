-- A row that no rule betters, and whose entries are backed, is the best.
use Rattle.std.proofs.Common.{◌≡◌, ℕ, zero, suc, ◌+◌, ◌-◌, ◌*◌, ◌<◌, ◌≤◌, ◌⊎◌, inl, inr, Bool, true, false, if◌then◌else◌, List, [], ◌∷◌, length, refl, ap, sym, ◌∙◌, subst, arith, Option, Some, None}
use Rattle.std.specs.Option.{option_and_then}
use Rattle.sel_forest.specs.Limits.{most_nodes}
use Rattle.sel_grammar.specs.declared.grammar.Grammar.{Grammar}
use Rattle.sel_grammar.specs.declared.grammar.Rule.{Rule}
use Rattle.sel_grammar.specs.declared.grammar.Pattern.{Pattern, Leaf, Nullary, Unary', Binary', end_of-Pattern, more_of-Pattern}
use Rattle.sel_grammar.specs.Costs.{Cost, ◌⊕◌, no_cost, IsCheaper, price}
use Rattle.sel_grammar.specs.Limits.{greatest_cost, most_nonterminals}
use Rattle.sel_grammar.proofs.CostLaws.{weight, weight-paid, free_or_not, cheaper_not_both}
use Rattle.sel_plain.specs.CostBounds.{IsUpTo, IsNoDearer, per_tree, per_node}
use Rattle.sel_plain.proofs.CostBoundLaws.{IsUpTo-wider, IsUpTo-same, capped_exact, Nat-up_to, NoDearer-not}
use Rattle.sel_plain.proofs.Counts.{count_to_le}
use Rattle.sel_grammar.specs.PlainTrees.{PlainTree, size, attribute_of}
use Rattle.sel_grammar.specs.Fits.{rule_at, in_range, fits, leaves, subtrees}
use Rattle.sel_grammar.specs.Derivations.{Derivations, costs}
use Rattle.sel_grammar.specs.Firsts.{AllFirst}
use Rattle.sel_grammar.proofs.Firsts.{LeadAll-first, DeriveAll-first, no_dearer}
use Rattle.sel_grammar.proofs.Closure.{IsOperator, Outcome, IsOperatorOffer, IsChain, Offer, NoLater, IsClosed, kept, HasNone-row, entry, chain_or_not}
use Rattle.sel_grammar.proofs.Ranks.{FreeRanks, free_ranks}
use Rattle.sel_grammar.specs.Chains.{HasNoFreeCycle}
use Rattle.sel_forest.specs.declared.forest.Node.{Node}
use Rattle.sel_plain.specs.declared.entry.Entry.{Entry}
use Rattle.sel_plain.specs.Rows.{Row, entry_at, entry_cost}
use Rattle.sel_plain.specs.Offers.{offered, offered_by, kids_cost}
use Rattle.sel_plain.specs.BestRows.{IsBestEntry, IsBestRow, AreBestRows}
use Rattle.sel_forest.specs.Places.{IsRootAt}
use Rattle.sel_plain.specs.Bettering.{IsNoLater, offer_entry, Withstands, KindWithstood, count_to, IsBacked, AllBacked, OperatorOffers}
use Rattle.sel_plain.specs.declared.kind.RuleKind.{RuleKind}
use Rattle.sel_plain.specs.Kinds.{rule_kind}
use Rattle.sel_plain.proofs.Patterns.{not_leaf}
use Rattle.sel_forest.proofs.Roots.{size_some}
use Rattle.sel_forest.proofs.Lying.{root_at}
use Rattle.sel_plain.proofs.KidsCosts.{IsKidsCost, room, kids_cost_means}
use Rattle.sel_forest.proofs.Matching.{some_same, some_none}

abbrev told_by : Option Entry → Option (Cost × ℕ)
told_by None = None
told_by (Some e) = entry e.cost e.rule

-- an offer at a node is by the tree's attribute
offered_is : (nodes : List Node) (rows : List Row) (row : Row) (i : ℕ) (t : PlainTree) (rule : Rule) → IsRootAt nodes i t
    → offered rule nodes rows row i ≡ (if in_range rule.range (attribute_of t) then offered_by rule.pattern nodes rows row i else None)
offered_is nodes rows row i t rule root =
    let r = root_at nodes i t root in
    ap (λ o. option_and_then (λ (node : Node). if in_range rule.range node.attribute then offered_by rule.pattern nodes rows row i else None) o) (r.1).0 ∙ ap (λ x. if in_range rule.range x then offered_by rule.pattern nodes rows row i else None) (r.1).1

by_operator : (p : Pattern) (nodes : List Node) (rows : List Row) (row : Row) (i : ℕ) → ((m : ℕ) → p ≡ Leaf m → ⊥) → offered_by p nodes rows row i ≡ kids_cost p nodes rows i
by_operator (Leaf m) nodes rows row i h = absurd (h m refl)
by_operator (Nullary o) nodes rows row i h = refl
by_operator (Unary' o s (more_of-Pattern p end_of-Pattern)) nodes rows row i h = refl
by_operator (Binary' o s (more_of-Pattern p end_of-Pattern) s' (more_of-Pattern q end_of-Pattern)) nodes rows row i h = refl

room_operator : (p : Pattern) (t : PlainTree) → ((m : ℕ) → p ≡ Leaf m → ⊥) → room p t ≡ size t - 1
room_operator (Leaf m) t h = absurd (h m refl)
room_operator (Nullary o) t h = refl
room_operator (Unary' o s p) t h = refl
room_operator (Binary' o s p s' q) t h = refl

same_costs : (g : Grammar) (ds es : Derivations) (ns : List ℕ) (ts : List PlainTree) → AllFirst g ds ns ts → AllFirst g es ns ts → costs g ds ≡ costs g es
same_costs g ds es ns ts f h =
    go (no_dearer g ds es (LeadAll-first g ds es ns ts f (DeriveAll-first g es ns ts h))) (no_dearer g es ds (LeadAll-first g es ds ns ts h (DeriveAll-first g ds ns ts f)))
  where
    go : (costs g ds ≡ costs g es) ⊎ IsCheaper (costs g ds) (costs g es) → (costs g es ≡ costs g ds) ⊎ IsCheaper (costs g es) (costs g ds) → costs g ds ≡ costs g es
    go (inl q) k = q
    go (inr q) (inl k) = sym k
    go (inr q) (inr k) = absurd (cheaper_not_both (costs g ds) (costs g es) q k)

module _ (g : Grammar) (nodes : List Node) (rows : List Row) (i : ℕ) (t : PlainTree) (low : AreBestRows g nodes rows i) (root : IsRootAt nodes i t) (small : size t < most_nodes + 1) where
  at_root : (p : Pattern) → ((m : ℕ) → p ≡ Leaf m → ⊥) → IsKidsCost g p t (size t - 1) (kids_cost p nodes rows i)
  at_root p op = subst (λ x. IsKidsCost g p t x (kids_cost p nodes rows i)) (room_operator p t op) (kids_cost_means g nodes rows i low p i t (omega arith) small root (λ n e. absurd (op n e)))

  -- the offer of a rule that is no chain rule
  pub operator_offer : (row : Row) (rule : Rule) (k : Cost) → IsOperator rule → offered rule nodes rows row i ≡ Some k → ((ds : Derivations) × IsOperatorOffer g t rule ds k) × IsUpTo (per_node * (size t - 1)) k
  operator_offer row rule k op h = go (in_range rule.range (attribute_of t)) refl (sym (offered_is nodes rows row i t rule root) ∙ h)
    where
      held : (o : Option Cost) → IsKidsCost g rule.pattern t (size t - 1) o → o ≡ Some k → in_range rule.range (attribute_of t) ≡ true → ((ds : Derivations) × IsOperatorOffer g t rule ds k) × IsUpTo (per_node * (size t - 1)) k
      held None w e b = cc
      held (Some c) w e b =
          let same : c ≡ k = some_same e in (
            (
              w.kids,
              record {
                operator = op;
                subtrees = w.under;
                fitting = ap (λ x. if x then subtrees rule.pattern t else None) b ∙ w.lies;
                firsts = w.firsts;
                is = sym same ∙ w.is;
              },
            ),
            IsUpTo-same _ c k same w.small,
          )

      go : (b : Bool) → in_range rule.range (attribute_of t) ≡ b → (if b then offered_by rule.pattern nodes rows row i else None) ≡ Some k → ((ds : Derivations) × IsOperatorOffer g t rule ds k) × IsUpTo (per_node * (size t - 1)) k
      go false b e = cc
      go true b e = held (kids_cost rule.pattern nodes rows i) (at_root rule.pattern op) (sym (by_operator rule.pattern nodes rows row i op) ∙ e) b

  pub operator_offers : OperatorOffers g nodes rows i (per_node * (size t - 1))
  operator_offers rule row k op h = (operator_offer row rule k (not_leaf rule.pattern op) h).1

  -- where a rule fits, its pattern's test is passed
  fitting_parts : (rule : Rule) (ts : List PlainTree) → fits rule t ≡ Some ts → (in_range rule.range (attribute_of t) ≡ true) × (subtrees rule.pattern t ≡ Some ts)
  fitting_parts rule ts h = go (in_range rule.range (attribute_of t)) refl h
    where
      go : (b : Bool) → in_range rule.range (attribute_of t) ≡ b → (if b then subtrees rule.pattern t else None) ≡ Some ts → (in_range rule.range (attribute_of t) ≡ true) × (subtrees rule.pattern t ≡ Some ts)
      go true b e = (b, e)
      go false b e = cc

  outcome : (rule : Rule) (ts : List PlainTree) → IsOperator rule → fits rule t ≡ Some ts → Outcome g (leaves rule.pattern) ts
  outcome rule ts op h = go (kids_cost rule.pattern nodes rows i) (at_root rule.pattern op)
    where
      go : (o : Option Cost) → IsKidsCost g rule.pattern t (size t - 1) o → Outcome g (leaves rule.pattern) ts
      go None w = inr (w ts (fitting_parts rule ts h).1)
      go (Some c) w = inl (w.kids, subst (λ x. AllFirst g w.kids (leaves rule.pattern) x) (some_same (sym w.lies ∙ (fitting_parts rule ts h).1)) w.firsts)

  -- what a rule with best kids offers
  offered_operator : (row : Row) (rule : Rule) (ds : Derivations) (c : Cost) → IsOperatorOffer g t rule ds c → offered rule nodes rows row i ≡ Some c
  offered_operator row rule ds c o =
      let f = fitting_parts rule o.subtrees o.fitting in
      offered_is nodes rows row i t rule root ∙ ap (λ b. if b then offered_by rule.pattern nodes rows row i else None) f.0 ∙ by_operator rule.pattern nodes rows row i o.operator
      ∙ go (kids_cost rule.pattern nodes rows i) (at_root rule.pattern o.operator) f.1
    where
      go : (p : Option Cost) → IsKidsCost g rule.pattern t (size t - 1) p → subtrees rule.pattern t ≡ Some (o.subtrees) → p ≡ Some c
      go None w e = absurd (w o.subtrees e ds (DeriveAll-first g ds (leaves rule.pattern) o.subtrees o.firsts))
      go (Some d) w e =
          let firsts : AllFirst g w.kids (leaves rule.pattern) o.subtrees = subst (λ x. AllFirst g w.kids (leaves rule.pattern) x) (some_same (sym w.lies ∙ e)) w.firsts in
          ap (λ (x : Cost). Some x) (w.is ∙ same_costs g w.kids ds (leaves rule.pattern) o.subtrees firsts o.firsts ∙ sym o.is)

  offered_chain : (row : Row) (rule : Rule) (m : ℕ) → IsChain t rule m → offered rule nodes rows row i ≡ entry_cost (entry_at row m)
  offered_chain row rule m c =
      offered_is nodes rows row i t rule root ∙ ap (λ b. if b then offered_by rule.pattern nodes rows row i else None) (fitting_parts rule (t ∷ []) c.fitting).0
      ∙ ap (λ p. offered_by p nodes rows row i) c.chain

mul_le : (a b c : ℕ) → a ≤ b → a * c ≤ b * c
mul_le a b c h = grind arith

-- how far an entry root above the least one
abbrev height : ℕ → ℕ → Option Entry → ℕ
height top z None = 0
height top z (Some e) = weight e.cost * top + z

lower : (top a b c z w : ℕ) → z ≤ top → b ≡ c + a → (z < w) ⊎ (1 ≤ c) → a * (top + 1) + z < b * (top + 1) + w
lower top a b c z w h e (inl l) = let m = mul_le a b (top + 1) (omega arith) in omega arith
lower top a b c z w h e (inr l) = let m = mul_le (a + 1) b (top + 1) (omega arith) in omega arith

module _ (g : Grammar) (nodes : List Node) (rows : List Row) (i : ℕ) (t : PlainTree) (row : Row) (low : AreBestRows g nodes rows i) (root : IsRootAt nodes i t) (small : size t < most_nodes + 1)
    (ranks : FreeRanks g) (still : (kind : RuleKind) → KindWithstood kind g nodes rows row i) (backed : AllBacked g nodes rows row i (per_node * (size t - 1))) (short : length row ≤ most_nonterminals) where
  abbrev told_row : ℕ → Option (Cost × ℕ)
  told_row n = told_by (entry_at row n)

  few : (c : Cost) → count_to c row ≤ most_nonterminals
  few c = let h = count_to_le c row in omega arith

  -- an entry by what the row tells
  entry_of : (o : Option Entry) (a : Cost) (r : ℕ) → told_by o ≡ Some (a, r) → (e : Entry) × (o ≡ Some e) × (e.cost ≡ a) × (e.rule ≡ r)
  entry_of None a r h = absurd (some_none (sym h))
  entry_of (Some e) a r h =
      let q = some_same h in
      (e, refl, ap (λ (p : Cost × ℕ). p.0) q, ap (λ (p : Cost × ℕ). p.1) q)

  -- what an offer costs is far from the greatest number
  kids_small : (rule : Rule) (k : Cost) → offered rule nodes rows row i ≡ Some k → IsUpTo (per_node * size t) k
  kids_small rule k h = go (chain_or_not rule.pattern)
    where
      held : (m : ℕ) (o : Option Entry) → entry_at row m ≡ o → entry_cost o ≡ Some k → IsUpTo (per_node * size t) k
      held m None e q = absurd (some_none (sym q))
      held m (Some e) at q =
          let f = few e.cost in
          let z = size_some t in
          IsUpTo-same _ e.cost k (some_same q) (IsUpTo-wider (per_node * (size t - 1) + greatest_cost * count_to e.cost row) _ e.cost (omega arith) (backed m e at).small)

      go : ((m : ℕ) × (rule.pattern ≡ Leaf m)) ⊎ ((m : ℕ) → rule.pattern ≡ Leaf m → ⊥) → IsUpTo (per_node * size t) k
      go (inl (m, p)) = held m (entry_at row m) refl (chain_cost m p)
        where
          tested : (b : Bool) → (if b then offered_by rule.pattern nodes rows row i else None) ≡ Some k → offered_by rule.pattern nodes rows row i ≡ Some k
          tested true e = e
          tested false e = absurd (some_none (sym e))

          chain_cost : (m : ℕ) → rule.pattern ≡ Leaf m → entry_cost (entry_at row m) ≡ Some k
          chain_cost m p = ap (λ q. offered_by q nodes rows row i) (sym p) ∙ tested (in_range rule.range (attribute_of t)) (sym (offered_is nodes rows row i t rule root) ∙ h)
      go (inr op) = IsUpTo-wider (per_node * (size t - 1)) _ k (omega arith) (operator_offer g nodes rows i t low root small row rule k op h).1

  -- the entry at a rule's left side root against its offer
  stable_at : (r : ℕ) (rule : Rule) (k : Cost) → rule_at g r ≡ Some rule → offered rule nodes rows row i ≡ Some k
      → (e : Entry) × (entry_at row rule.left ≡ Some e) × NoLater e.cost e.rule (price rule ⊕ k) r
  stable_at zero rule k at h = absurd (some_none (sym at))
  stable_at (suc j) rule k at h = go (entry_at row rule.left) refl (subst (λ x. Withstands (entry_at row rule.left) x rule (j + 1)) h (still (rule_kind rule.pattern) j rule at refl))
    where
      later : (e : Entry) → IsUpTo greatest_cost (price rule) → IsUpTo (per_node * size t) k → IsNoLater e (offer_entry rule (j + 1) k) → NoLater e.cost e.rule (price rule ⊕ k) (suc j)
      later e cheap low w = pick (subst (λ c. IsNoLater e (record { cost = c; rule = j + 1 })) (capped_exact greatest_cost (per_node * size t) (price rule) k cheap low (omega arith)) w)
        where
          pick : IsNoLater e (record { cost = price rule ⊕ k; rule = j + 1 }) → NoLater e.cost e.rule (price rule ⊕ k) (suc j)
          pick (inl l) = inl l
          pick (inr l) = inr (l.0, let x = l.1 in omega arith)

      go : (o : Option Entry) → entry_at row rule.left ≡ o → Withstands o (Some k) rule (j + 1) → (e : Entry) × (entry_at row rule.left ≡ Some e) × NoLater e.cost e.rule (price rule ⊕ k) (suc j)
      go None q s = absurd s.0
      go (Some e) q s = (e, q, later e s.1 (kids_small rule k h) s.0)

  offer_of : (rule : Rule) (c : Cost) → Offer g t told_row rule c → offered rule nodes rows row i ≡ Some c
  offer_of rule c (inl (ds, o)) = offered_operator g nodes rows i t low root small row rule ds c o
  offer_of rule c (inr (m, ch, (s, em))) =
      let e = entry_of (entry_at row m) c s em in
      offered_chain g nodes rows i t low root small row rule m ch ∙ ap entry_cost e.1 ∙ ap (λ (x : Cost). Some x) e.2

  stable : (r : ℕ) (rule : Rule) (c : Cost) → rule_at g r ≡ Some rule → Offer g t told_row rule c → (a : Cost) × (s : ℕ) × (told_row rule.left ≡ Some (a, s)) × NoLater a s (price rule ⊕ c) r
  stable r rule c at o =
      let s = stable_at r rule c at (offer_of rule c o) in
      ((s.0).cost, (s.0).rule, ap told_by s.1, s.2)

  abbrev rank : ℕ → ℕ
  rank n = height (ranks.top + 1) (ranks.rank n) (entry_at row n)

  -- a backed entry costs what its rule offers and costs
  exact : (n : ℕ) (e : Entry) → entry_at row n ≡ Some e → (k : IsBacked g nodes rows row i (per_node * (size t - 1)) n e) → e.cost ≡ price k.rule ⊕ k.kids
  exact n e at k =
      let s = stable_at e.rule k.rule k.kids k.numbered k.offered in
      let same : s.0 ≡ e = some_same (sym s.1 ∙ ap (entry_at row) k.left ∙ at) in
      go (subst (λ (x : Entry). NoLater x.cost x.rule (price k.rule ⊕ k.kids) e.rule) same s.2) k.no_more
    where
      go : NoLater e.cost e.rule (price k.rule ⊕ k.kids) e.rule → IsNoDearer (price k.rule ⊕ k.kids) e.cost → e.cost ≡ price k.rule ⊕ k.kids
      go (inl l) h = absurd (NoDearer-not (price k.rule ⊕ k.kids) e.cost h l)
      go (inr l) h = l.0

  offer_by : (rule : Rule) (k : Cost) → offered rule nodes rows row i ≡ Some k → Offer g t told_row rule k
  offer_by rule k h = go (chain_or_not rule.pattern)
    where
      chain : (m : ℕ) (o : Option Entry) → rule.pattern ≡ Leaf m → entry_at row m ≡ o → entry_cost o ≡ Some k → IsChain t rule m → Offer g t told_row rule k
      chain m None p at q c = absurd (some_none (sym q))
      chain m (Some e) p at q c = inr (m, c, (e.rule, ap told_by at ∙ ap (λ (x : Cost). entry x e.rule) (some_same q)))

      tested : (m : ℕ) (b : Bool) → in_range rule.range (attribute_of t) ≡ b → rule.pattern ≡ Leaf m → (if b then offered_by rule.pattern nodes rows row i else None) ≡ Some k → Offer g t told_row rule k
      tested m false b p e = absurd (some_none (sym e))
      tested m true b p e =
          chain m (entry_at row m) p refl (ap (λ q. offered_by q nodes rows row i) (sym p) ∙ e)
          (record { chain = p; fitting = ap (λ x. if x then subtrees rule.pattern t else None) b ∙ ap (λ q. subtrees q t) p })

      go : ((m : ℕ) × (rule.pattern ≡ Leaf m)) ⊎ ((m : ℕ) → rule.pattern ≡ Leaf m → ⊥) → Offer g t told_row rule k
      go (inl (m, p)) = tested m (in_range rule.range (attribute_of t)) refl p (sym (offered_is nodes rows row i t rule root) ∙ h)
      go (inr op) = inl ((operator_offer g nodes rows i t low root small row rule k op h).0)

  by_rule : (n : ℕ) (a : Cost) (r : ℕ) → told_row n ≡ Some (a, r) → (rule : Rule) × (c : Cost) × (rule_at g r ≡ Some rule) × (rule.left ≡ n) × Offer g t told_row rule c × (a ≡ price rule ⊕ c)
  by_rule n a r h =
      let e = entry_of (entry_at row n) a r h in
      let k = backed n e.0 e.1 in
      (k.rule, k.kids, subst (λ x. rule_at g x ≡ Some (k.rule)) e.3 k.numbered, k.left, offer_by k.rule k.kids k.offered, sym e.2 ∙ exact n e.0 e.1 k)

  falls : (n : ℕ) (a : Cost) (r : ℕ) (rule : Rule) (m : ℕ) → told_row n ≡ Some (a, r) → rule_at g r ≡ Some rule → IsChain t rule m → rank m < rank n
  falls n a r rule m h at ch =
      let e = entry_of (entry_at row n) a r h in
      let k = backed n e.0 e.1 in
      let same : k.rule ≡ rule = some_same (sym k.numbered ∙ ap (rule_at g) e.3 ∙ at) in
      let offers : offered rule nodes rows row i ≡ Some (k.kids) = ap (λ (x : Rule). offered x nodes rows row i) (sym same) ∙ k.offered in
      go e.0 k.kids (entry_at row m) refl e.1 (sym (offered_chain g nodes rows i t low root small row rule m ch) ∙ offers)
      (subst (λ (x : Rule). e.0.cost ≡ price x ⊕ k.kids) same (exact n e.0 e.1 k)) (subst (λ (x : Rule). x.left ≡ n) same k.left)
    where
      free : rule.left ≡ n → (price rule ≡ no_cost) ⊎ (1 ≤ (rule.cost).first + (rule.cost).second) → (ranks.rank m < ranks.rank n) ⊎ (1 ≤ (rule.cost).first + (rule.cost).second)
      free left (inl z) = inl (ranks.falls r n m (record { rule = rule; numbered = at; left = left; chain = ch.chain; free = z }))
      free left (inr z) = inr z

      go : (e : Entry) (k : Cost) (o : Option Entry) → entry_at row m ≡ o → entry_at row n ≡ Some e → entry_cost o ≡ Some k → e.cost ≡ price rule ⊕ k → rule.left ≡ n → rank m < rank n
      go e k None p q c x left = absurd (some_none (sym c))
      go e k (Some f) p q c x left =
          let y : f.cost ≡ k = some_same c in
          let low : height (ranks.top + 1) (ranks.rank m) (Some f) < height (ranks.top + 1) (ranks.rank n) (Some e) =
          lower ranks.top (weight f.cost) (weight e.cost) ((rule.cost).first + (rule.cost).second) (ranks.rank m) (ranks.rank n) (ranks.below m)
          (ap weight (x ∙ ap (λ v. price rule ⊕ v) (sym y)) ∙ weight-paid rule.cost f.cost (Nat-up_to _ f.cost (backed m f p).small)) (free left (free_or_not rule.cost)) in
          subst (λ v. height (ranks.top + 1) (ranks.rank m) v < rank n) (sym p) (subst (λ v. height (ranks.top + 1) (ranks.rank m) (Some f) < height (ranks.top + 1) (ranks.rank n) v) (sym q) low)

  closed : IsClosed g t told_row rank
  closed = record { low = λ r rule ts at op fit. outcome g nodes rows i t low root small rule ts op fit; stable = stable; backed = by_rule; falls = falls }

  -- the row is the best
  pub IsBestRow-closed : IsBestRow g t row
  IsBestRow-closed n = go (entry_at row n) refl
    where
      go : (o : Option Entry) → entry_at row n ≡ o → IsBestEntry g n t o
      go None h = HasNone-row g t told_row rank closed n (ap told_by h)
      go (Some e) h =
          let k = kept g t told_row rank closed n e.cost e.rule (ap told_by h) in
          let f = few e.cost in
          let z = size_some t in
          (k, IsUpTo-wider (per_node * (size t - 1) + greatest_cost * count_to e.cost row) _ e.cost (omega arith) (backed n e h).small)

pub IsBestRow-settled : (g : Grammar) (nodes : List Node) (rows : List Row) (row : Row) (i : ℕ) (t : PlainTree) → HasNoFreeCycle g → length g.nonterminals ≤ most_nonterminals
    → AreBestRows g nodes rows i → IsRootAt nodes i t → size t < most_nodes + 1 → length row ≡ length g.nonterminals → ((kind : RuleKind) → KindWithstood kind g nodes rows row i)
    → ((base : ℕ) → base ≤ per_tree → OperatorOffers g nodes rows i base → AllBacked g nodes rows row i base) → IsBestRow g t row
IsBestRow-settled g nodes rows row i t free names lower root small long still backed =
    let ops = operator_offers g nodes rows i t lower root small in
    IsBestRow-closed g nodes rows i t row lower root small (free_ranks g free) still (backed (per_node * (size t - 1)) (omega arith) ops) (omega arith)
