-- A row that takes a rule's offer comes nearer to the least row, and its entries stay backed.
use Rattle.std.proofs.Common.{◌≡◌, ℕ, ◌+◌, ◌*◌, ◌<◌, ◌≤◌, ◌^◌, ◌⊎◌, inl, inr, Bool, true, false, if◌then◌else◌, List, length, refl, ap, sym, ◌∙◌, subst, arith, Option, Some, None, slice_get, get_or}
use Rattle.std.specs.Prelude.{slice_set}
use Rattle.std.proofs.lemmas.List.Sums.{sum_by-set}
use Rattle.std.specs.Option.{option_and_then}
use Rattle.sel_grammar.specs.declared.grammar.Grammar.{Grammar}
use Rattle.sel_grammar.specs.declared.grammar.Rule.{Rule}
use Rattle.sel_grammar.specs.declared.grammar.Pattern.{Pattern, Leaf, Nullary, Unary', Binary', end_of-Pattern, more_of-Pattern}
use Rattle.sel_grammar.specs.Costs.{Cost, ◌⊕◌, IsCheaper, price}
use Rattle.sel_grammar.specs.Limits.{greatest_cost, most_nonterminals}
use Rattle.sel_grammar.specs.Fits.{rule_at, in_range}
use Rattle.sel_grammar.proofs.CostLaws.{cheaper_or_not, cheaper_same, same_cheaper, cheaper_trans, paid_more}
use Rattle.sel_forest.specs.declared.forest.Node.{Node}
use Rattle.sel_plain.specs.declared.entry.Entry.{Entry}
use Rattle.sel_plain.specs.CostBounds.{IsUpTo, IsNoDearer, cost_place, per_tree}
use Rattle.sel_plain.specs.Rows.{Row, entry_at, entry_cost}
use Rattle.sel_plain.specs.Offers.{offered, offered_by}
use Rattle.sel_plain.proofs.Patterns.{operator_kind}
use Rattle.sel_forest.proofs.Matching.{some_same}
use Rattle.sel_base.proofs.Shared.Bettering.{place_at-get_or, place_at-set_same, place_at-set_other, total_falls, first_decides, second_decides}
use Rattle.sel_base.proofs.Shared.Choices.{same_or_other, at_most_or_above}
use Rattle.sel_plain.specs.Bettering.{IsNoLater, KeepsOut, offer_entry, IsBettered, Keeps, distance, total_distance, counts_to, count_to, IsBacked, AllBacked, OperatorOffers}
use Rattle.sel_plain.proofs.CostBoundLaws.{IsIn64, IsIn64-capped, cost_place_below, cost_place_less, IsUpTo-wider, IsUpTo-same, IsUpTo-sum, capped_exact, NoDearer-trans, NoDearer-behind, cheaper_no_dearer}
use Rattle.sel_plain.proofs.Counts.{counted, uncounted, count_to_le, count_to_more, counts_sooner}

-- an offer that an entry doesn't withstand
later_than : (e f : Entry) → (IsNoLater e f → ⊥) → IsCheaper f.cost e.cost ⊎ ((f.cost ≡ e.cost) × (f.rule < e.rule))
later_than e f h = go (cheaper_or_not e.cost f.cost) (at_most_or_above e.rule f.rule)
  where
    go : IsCheaper e.cost f.cost ⊎ ((e.cost ≡ f.cost) ⊎ IsCheaper f.cost e.cost) → (e.rule ≤ f.rule) ⊎ (f.rule < e.rule) → IsCheaper f.cost e.cost ⊎ ((f.cost ≡ e.cost) × (f.rule < e.rule))
    go (inl l) d = absurd (h (inl l))
    go (inr (inl q)) (inl d) = absurd (h (inr (q, d)))
    go (inr (inl q)) (inr d) = inr (sym q, d)
    go (inr (inr l)) d = inl l

nearer : (o : Option Entry) (f : Entry) → IsIn64 f.cost → f.rule < 2 ^ 16 → ((e : Entry) → o ≡ Some e → IsNoLater e f → ⊥) → distance (Some f) < distance o
nearer None f c r h = let x = cost_place_below f.cost c in omega arith
nearer (Some e) f c r h = go (later_than e f (h e refl))
  where
    go : IsCheaper f.cost e.cost ⊎ ((f.cost ≡ e.cost) × (f.rule < e.rule)) → distance (Some f) < distance (Some e)
    go (inl l) = first_decides (cost_place f.cost) (cost_place e.cost) f.rule e.rule (cost_place_less f.cost e.cost c l) r
    go (inr l) = second_decides (cost_place f.cost) (cost_place e.cost) f.rule e.rule (ap cost_place l.0) l.1

pub total_distance-bettered : (rule : Rule) (r : ℕ) (offer : Option Cost) (old new : Row) → IsBettered rule r offer old new → rule.left < length old → r < 2 ^ 16 → total_distance new < total_distance old
total_distance-bettered rule r offer old new b h few =
    let f = offer_entry rule r b.kids in
    let here = place_at-get_or old rule.left h in
    let near : distance (Some f) < distance (get_or old rule.left None) = nearer (get_or old rule.left None) f (IsIn64-capped (price rule) b.kids) few (λ e q k. b.later (subst (λ o. KeepsOut o f) (sym (here ∙ q)) k)) in
    total_falls distance old new rule.left (Some f) b.set h near

pub no_later_trans : (a b c : Entry) → IsNoLater a b → IsNoLater b c → IsNoLater a c
no_later_trans a b c (inl h) (inl k) = inl (cheaper_trans a.cost b.cost c.cost h k)
no_later_trans a b c (inl h) (inr k) = inl (cheaper_same a.cost b.cost c.cost h k.0)
no_later_trans a b c (inr h) (inl k) = inl (same_cheaper a.cost b.cost c.cost h.0 k)
no_later_trans a b c (inr h) (inr k) = inr (h.0 ∙ k.0, let x = h.1 in let y = k.1 in omega arith)

pub no_later_self : (a : Entry) → IsNoLater a a
no_later_self a = inr (refl, omega arith)

no_dearer_of : (a b : Entry) → IsNoLater a b → IsNoDearer a.cost b.cost
no_dearer_of a b (inl h) = inr h
no_dearer_of a b (inr h) = inl h.0

pub Keeps-self : (row : Row) → Keeps row row
Keeps-self row n e h = (e, h, no_later_self e)

pub Keeps-trans : (old mid new : Row) → Keeps old mid → Keeps mid new → Keeps old new
Keeps-trans old mid new h k n e at = let s = h n e at in let z = k n s.0 s.1 in (z.0, z.1, no_later_trans z.0 s.0 e z.2 s.2)

-- a row that took an offer
module _ (rule : Rule) (r : ℕ) (offer : Option Cost) (old new : Row) (inside : rule.left < length old) (b : IsBettered rule r offer old new) where
  pub new_same : entry_at new rule.left ≡ Some (offer_entry rule r b.kids)
  new_same = ap (λ x. entry_at x rule.left) b.set ∙ place_at-set_same old rule.left (Some (offer_entry rule r b.kids)) inside

  new_other : (n : ℕ) → (rule.left ≡ n → ⊥) → entry_at new n ≡ entry_at old n
  new_other n h = ap (λ x. entry_at x n) b.set ∙ place_at-set_other old rule.left n (Some (offer_entry rule r b.kids)) h

  sooner : (e : Entry) → entry_at old rule.left ≡ Some e → IsNoLater (offer_entry rule r b.kids) e
  sooner e h = go (later_than e (offer_entry rule r b.kids) (λ k. b.later (subst (λ o. KeepsOut o (offer_entry rule r b.kids)) (sym h) k)))
    where
      go : IsCheaper (offer_entry rule r b.kids).cost e.cost ⊎ (((offer_entry rule r b.kids).cost ≡ e.cost) × ((offer_entry rule r b.kids).rule < e.rule)) → IsNoLater (offer_entry rule r b.kids) e
      go (inl l) = inl l
      go (inr l) = inr (l.0, let x = l.1 in omega arith)

  pub Keeps-bettered : Keeps old new
  Keeps-bettered n e h = go (same_or_other rule.left n)
    where
      go : (rule.left ≡ n) ⊎ (rule.left ≡ n → ⊥) → (f : Entry) × (entry_at new n ≡ Some f) × IsNoLater f e
      go (inl q) = (offer_entry rule r b.kids, ap (entry_at new) (sym q) ∙ new_same, sooner e (ap (entry_at old) q ∙ h))
      go (inr d) = (e, new_other n d ∙ h, no_later_self e)

-- an offer is a chain rule's, or the row has no part in it
abbrev OfferIs : Rule → List Node → List Row → Row → ℕ → Cost → Type 0
OfferIs rule nodes rows row i k =
    ((m : ℕ) × (e : Entry) × (rule.pattern ≡ Leaf m) × (entry_at row m ≡ Some e) × (k ≡ e.cost) × ((new : Row) (f : Entry) → entry_at new m ≡ Some f → offered rule nodes rows new i ≡ Some (f.cost)))
    ⊎ (((m : ℕ) → rule.pattern ≡ Leaf m → ⊥) × ((new : Row) → offered rule nodes rows new i ≡ Some k))

module _ (nodes : List Node) (rows : List Row) (row : Row) (i : ℕ) (k : Cost) where
  abbrev ByIs : Pattern → Type 0
  ByIs p = ((m : ℕ) × (e : Entry) × (p ≡ Leaf m) × (entry_at row m ≡ Some e) × (k ≡ e.cost) × ((new : Row) (f : Entry) → entry_at new m ≡ Some f → offered_by p nodes rows new i ≡ Some (f.cost)))
      ⊎ (((m : ℕ) → p ≡ Leaf m → ⊥) × ((new : Row) → offered_by p nodes rows new i ≡ Some k))

  cost_some : (o : Option Entry) → entry_cost o ≡ Some k → (e : Entry) × (o ≡ Some e) × (k ≡ e.cost)
  cost_some None h = cc
  cost_some (Some e) h = (e, refl, sym (some_same h))

  by_is : (p : Pattern) → offered_by p nodes rows row i ≡ Some k → ByIs p
  by_is (Leaf m) h = let s = cost_some (entry_at row m) h in inl (m, s.0, refl, s.1, s.2, λ new f e. ap entry_cost e)
  by_is (Nullary o) h = inr (λ m e. cc, λ new. h)
  by_is (Unary' o s (more_of-Pattern p end_of-Pattern)) h = inr (λ m e. cc, λ new. h)
  by_is (Binary' o s (more_of-Pattern p end_of-Pattern) s' (more_of-Pattern q end_of-Pattern)) h = inr (λ m e. cc, λ new. h)

  abbrev WithNode : Rule → Option Node → Type 0
  WithNode rule o = ((m : ℕ) × (e : Entry) × (rule.pattern ≡ Leaf m) × (entry_at row m ≡ Some e) × (k ≡ e.cost) × ((new : Row) (f : Entry) → entry_at new m ≡ Some f → option_and_then (λ (node : Node). if in_range rule.range node.attribute then offered_by rule.pattern nodes rows new i else None) o ≡ Some (f.cost)))
      ⊎ (((m : ℕ) → rule.pattern ≡ Leaf m → ⊥) × ((new : Row) → option_and_then (λ (node : Node). if in_range rule.range node.attribute then offered_by rule.pattern nodes rows new i else None) o ≡ Some k))

  with_node : (rule : Rule) (node : Node) → in_range rule.range node.attribute ≡ true → ByIs rule.pattern → WithNode rule (Some node)
  with_node rule node q (inl (m, e, p, at, is, new)) = inl (m, e, p, at, is, λ row' f w. ap (λ b. if b then offered_by rule.pattern nodes rows row' i else None) q ∙ new row' f w)
  with_node rule node q (inr (p, new)) = inr (p, λ row'. ap (λ b. if b then offered_by rule.pattern nodes rows row' i else None) q ∙ new row')

  pub offer_is : (rule : Rule) → offered rule nodes rows row i ≡ Some k → OfferIs rule nodes rows row i k
  offer_is rule h = go (slice_get nodes i) h
    where
      tested : (node : Node) (b : Bool) → in_range rule.range node.attribute ≡ b → (if b then offered_by rule.pattern nodes rows row i else None) ≡ Some k → WithNode rule (Some node)
      tested node false q h = cc
      tested node true q h = with_node rule node q (by_is rule.pattern h)

      go : (o : Option Node) → option_and_then (λ (node : Node). if in_range rule.range node.attribute then offered_by rule.pattern nodes rows row i else None) o ≡ Some k → WithNode rule o
      go None h = cc
      go (Some node) h = tested node (in_range rule.range node.attribute) refl h

pub offered-keeps : (rule : Rule) (nodes : List Node) (rows : List Row) (old new : Row) (i : ℕ) (k : Cost) → Keeps old new → offered rule nodes rows old i ≡ Some k
    → (j : Cost) × (offered rule nodes rows new i ≡ Some j) × IsNoDearer j k
offered-keeps rule nodes rows old new i k keeps h = go (offer_is nodes rows old i k rule h)
  where
    go : OfferIs rule nodes rows old i k → (j : Cost) × (offered rule nodes rows new i ≡ Some j) × IsNoDearer j k
    go (inl (m, e, p, at, is, w)) = let s = keeps m e at in ((s.0).cost, w new s.0 s.1, subst (λ x. IsNoDearer (s.0).cost x) (sym is) (no_dearer_of s.0 e s.2))
    go (inr (p, w)) = (k, w new, inl refl)

module _ (g : Grammar) (rule : Rule) (r : ℕ) (nodes : List Node) (rows : List Row) (old new : Row) (i base : ℕ)
    (at : rule_at g r ≡ Some rule) (inside : rule.left < length old) (short : length old ≤ most_nonterminals) (low : base ≤ per_tree)
    (ops : OperatorOffers g nodes rows i base) (backed : AllBacked g nodes rows old i base) (b : IsBettered rule r (offered rule nodes rows old i) old new) where
  abbrev f : Entry
  f = offer_entry rule r b.kids

  keeps : Keeps old new
  keeps = Keeps-bettered rule r (offered rule nodes rows old i) old new inside b

  -- the row without the entry
  abbrev hole : Row
  hole = slice_set old rule.left None

  before : Option Entry
  before = get_or old rule.left None

  before_is : entry_at old rule.left ≡ before
  unfolding before
  before_is = place_at-get_or old rule.left inside

  count_old : (c : Cost) → count_to c old ≡ count_to c hole + counts_to c before
  unfolding before
  count_old c = let s = sum_by-set (counts_to c) old rule.left None None inside in omega arith

  count_new : (c : Cost) → count_to c new ≡ count_to c hole + counts_to c (Some f)
  unfolding before
  count_new c = ap (count_to c) b.set ∙ put (count_old c) (sum_by-set (counts_to c) old rule.left (Some f) None inside)
    where
      put : count_to c old ≡ count_to c hole + counts_to c (get_or old rule.left None)
          → count_to c (slice_set old rule.left (Some f)) + counts_to c (get_or old rule.left None) ≡ count_to c old + counts_to c (Some f)
          → count_to c (slice_set old rule.left (Some f)) ≡ count_to c hole + counts_to c (Some f)
      put h s = omega arith

  -- as many entries count as before
  count_still : (c : Cost) → count_to c old ≤ count_to c new
  count_still c = go before before_is (count_old c) (count_new c)
    where
      go : (o : Option Entry) → entry_at old rule.left ≡ o → count_to c old ≡ count_to c hole + counts_to c o → count_to c new ≡ count_to c hole + counts_to c (Some f) → count_to c old ≤ count_to c new
      go None h q s = omega arith
      go (Some e) h q s = let x = counts_sooner c e f (no_dearer_of f e (sooner rule r _ old new inside b e h)) in omega arith

  -- a dearer entry counts one more
  count_dearer : IsCheaper b.kids f.cost → count_to b.kids old + 1 ≤ count_to f.cost new
  count_dearer l = go before before_is (count_old b.kids) (count_new f.cost) (count_to_more b.kids f.cost hole (inr l)) (counted f.cost f (inl refl))
    where
      go : (o : Option Entry) → entry_at old rule.left ≡ o → count_to b.kids old ≡ count_to b.kids hole + counts_to b.kids o → count_to f.cost new ≡ count_to f.cost hole + counts_to f.cost (Some f)
          → count_to b.kids hole ≤ count_to f.cost hole → counts_to f.cost (Some f) ≡ 1 → count_to b.kids old + 1 ≤ count_to f.cost new
      go None h q s m one = omega arith
      go (Some e) h q s m one = let x = uncounted b.kids e (cheaper_no_dearer b.kids f.cost e.cost l (no_dearer_of f e (sooner rule r _ old new inside b e h))) in omega arith

  kids_small : IsUpTo (base + greatest_cost * count_to b.kids old) b.kids
  kids_small = go (offer_is nodes rows old i b.kids rule b.offered)
    where
      go : OfferIs rule nodes rows old i b.kids → IsUpTo (base + greatest_cost * count_to b.kids old) b.kids
      go (inl (m, e, p, w, is, x)) = subst (λ c. IsUpTo (base + greatest_cost * count_to c old) c) (sym is) (backed m e w).small
      go (inr (p, w)) = IsUpTo-wider base _ b.kids (omega arith) (ops rule old b.kids (operator_kind rule.pattern p) (w old))

  exact : f.cost ≡ price rule ⊕ b.kids
  exact = let l = count_to_le b.kids old in capped_exact greatest_cost (base + greatest_cost * count_to b.kids old) (price rule) b.kids b.cheap kids_small (omega arith)

  small_new : IsUpTo (base + greatest_cost * count_to f.cost new) f.cost
  small_new = go (paid_more rule.cost b.kids)
    where
      go : (b.kids ≡ price rule ⊕ b.kids) ⊎ IsCheaper b.kids (price rule ⊕ b.kids) → IsUpTo (base + greatest_cost * count_to f.cost new) f.cost
      go (inl q) =
          let same : b.kids ≡ f.cost = q ∙ sym exact in
          let more = count_still f.cost in
          IsUpTo-wider (base + greatest_cost * count_to f.cost old) _ f.cost (omega arith) (subst (λ c. IsUpTo (base + greatest_cost * count_to c old) c) same kids_small)
      go (inr l) =
          let more = count_dearer (cheaper_same b.kids _ f.cost l (sym exact)) in
          IsUpTo-same _ (price rule ⊕ b.kids) f.cost (sym exact)
          (IsUpTo-wider (greatest_cost + (base + greatest_cost * count_to b.kids old)) _ (price rule ⊕ b.kids) (omega arith) (IsUpTo-sum _ _ (price rule) b.kids b.cheap kids_small))

  backed_new : IsBacked g nodes rows new i base rule.left f
  backed_new =
      let o = offered-keeps rule nodes rows old new i b.kids keeps b.offered in
      record {
        rule = rule;
        numbered = at;
        left = refl;
        kids = o.0;
        offered = o.1;
        no_more = NoDearer-trans (price rule ⊕ o.0) (price rule ⊕ b.kids) f.cost (NoDearer-behind (price rule) o.0 b.kids o.2) (inl (sym exact));
        small = small_new;
      }

  backed_old : (n : ℕ) (e : Entry) → entry_at old n ≡ Some e → IsBacked g nodes rows new i base n e
  backed_old n e h =
      let k = backed n e h in
      let o = offered-keeps k.rule nodes rows old new i k.kids keeps k.offered in
      let more = count_still e.cost in
      record {
        rule = k.rule;
        numbered = k.numbered;
        left = k.left;
        kids = o.0;
        offered = o.1;
        no_more = NoDearer-trans (price k.rule ⊕ o.0) (price k.rule ⊕ k.kids) e.cost (NoDearer-behind (price k.rule) o.0 k.kids o.2) k.no_more;
        small = IsUpTo-wider (base + greatest_cost * count_to e.cost old) _ e.cost (omega arith) k.small;
      }

  pub AllBacked-bettered : AllBacked g nodes rows new i base
  AllBacked-bettered n e h = go (same_or_other rule.left n)
    where
      go : (rule.left ≡ n) ⊎ (rule.left ≡ n → ⊥) → IsBacked g nodes rows new i base n e
      go (inl q) =
          let same : f ≡ e = some_same (sym (new_same rule r _ old new inside b) ∙ ap (entry_at new) q ∙ h) in
          subst (λ x. IsBacked g nodes rows new i base x e) q (subst (λ x. IsBacked g nodes rows new i base rule.left x) same backed_new)
      go (inr d) = backed_old n e (sym (new_other rule r _ old new inside b n d) ∙ h)
