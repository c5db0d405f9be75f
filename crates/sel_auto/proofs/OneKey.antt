-- Keys by numbers are one where their item sets are, and a known key's number is kept for each node that has it.
use Rattle.std.proofs.Common.{◌≡◌, ℕ, zero, suc, ◌<◌, Option, Some, None, List, [], ◌∷◌, length, slice_get, refl, sym, ap, subst, ◌∙◌, arith}
use Rattle.sel_items.specs.declared.items.Items.{Items}
use Rattle.sel_items.specs.declared.label.Label.{Label}
use Rattle.sel_items.specs.declared.label.Label.TheVariants.{Numbered, Plain}
use Rattle.sel_items.specs.Automata.{IsReady}
use Rattle.sel_items.specs.Follows.{NodeKey}
use Rattle.sel_items.specs.KidSets.{kid_sets}
use Rattle.sel_items.specs.Labels.{AreNumbered}
use Rattle.sel_auto.specs.declared.key.StateKey.{StateKey}
use Rattle.sel_auto.specs.Sets.{AreDifferent}
use Rattle.sel_auto.specs.Keys.{numbered_key}
use Rattle.sel_auto.specs.Tables.{Tables, IsKept, kid_state, node_key, AreInOrder, IsStateNumber, told_of}
use Rattle.sel_auto.specs.TableChanges.{IsKeptFor}
use Rattle.sel_auto.proofs.KeyFacts.{key_facts}
use Rattle.sel_auto.proofs.Ways.{Before}

some_at : (states : List Items) (n : ℕ) → n < length states → (i : Items) × (slice_get states n ≡ Some i)
some_at [] n h = absurd (omega arith)
some_at (i ∷ states) zero h = (i, refl)
some_at (i ∷ states) (suc n) h = some_at states n (omega arith)

first_item : List Items → Option Items
first_item [] = None
first_item (i ∷ is) = Some i

second_item : List Items → Option Items
second_item [] = None
second_item (i ∷ is) = first_item is

first_of : (x y : Option Items) → first_item (kid_sets x y) ≡ x
unfolding first_item
first_of None y = refl
first_of (Some i) None = refl
first_of (Some i) (Some j) = refl

abbrev InOrder : Option Items → Option Items → Type 0
InOrder None (Some j) = ⊥
InOrder _ _ = Unit {0}

second_of : (x y : Option Items) → InOrder x y → second_item (kid_sets x y) ≡ y
unfolding first_item second_item
second_of None None h = refl
second_of None (Some j) h = absurd h
second_of (Some i) None h = refl
second_of (Some i) (Some j) h = refl

module _ (states : List Items) (differ : AreDifferent states) where
  in_order : (m n : Option ℕ) → IsStateNumber states m → AreInOrder m n → InOrder (kid_state states m) (kid_state states n)
  in_order None None h o = tt
  in_order None (Some n) h o = absurd o
  in_order (Some m) n h o = by (slice_get states m) (some_at states m (h m refl)).1
    where
      by : (x : Option Items) → x ≡ Some (some_at states m (h m refl)).0 → InOrder x (kid_state states n)
      by None e = absurd (cc)
      by (Some i) e = any (kid_state states n)
        where
          any : (y : Option Items) → InOrder (Some i) y
          any None = tt
          any (Some j) = tt

  one_number : (m n : Option ℕ) → IsStateNumber states m → IsStateNumber states n → kid_state states m ≡ kid_state states n → m ≡ n
  one_number None None h k e = refl
  one_number None (Some n) h k e = absurd (let s = (some_at states n (k n refl)).1 in cc)
  one_number (Some m) None h k e = absurd (let s = (some_at states m (h m refl)).1 in cc)
  one_number (Some m) (Some n) h k e = let s = some_at states m (h m refl) in ap Some (differ m n s.0 s.1 (sym e ∙ s.1))

  pub one_key : (x y : StateKey) → AreInOrder x.first x.second → AreInOrder y.first y.second → IsStateNumber states x.first → IsStateNumber states x.second → IsStateNumber states y.first → IsStateNumber states y.second
      → node_key states x ≡ node_key states y → x ≡ y
  one_key x y o p f s f' s' e =
      let kids : kid_sets (kid_state states x.first) (kid_state states x.second) ≡ kid_sets (kid_state states y.first) (kid_state states y.second) = ap (λ (k : NodeKey). k.kids) e in
      let first : x.first ≡ y.first = one_number x.first y.first f f' (sym (first_of (kid_state states x.first) (kid_state states x.second)) ∙ ap first_item kids ∙ first_of (kid_state states y.first) (kid_state states y.second)) in
      let second : x.second ≡ y.second = one_number x.second y.second s s' (sym (second_of (kid_state states x.first) (kid_state states x.second) (in_order x.first x.second f o)) ∙ ap second_item kids ∙ second_of (kid_state states y.first) (kid_state states y.second) (in_order y.first y.second f' p)) in
      λ i. record { operator = (e i).operator; class = (e i).class; first = first i; second = second i }

-- a node over numbered kids has a key by numbers
has_key : (operator class : ℕ) (a b : Option Label) → AreNumbered a b → (key : StateKey) × (numbered_key operator class a b ≡ Some key)
has_key op class None None h = (record { operator = op; class = class; first = None; second = None }, refl)
has_key op class None (Some (Numbered m)) h = (record { operator = op; class = class; first = None; second = Some m }, refl)
has_key op class None (Some (Plain q)) h = absurd h.1
has_key op class (Some (Numbered n)) None h = (record { operator = op; class = class; first = Some n; second = None }, refl)
has_key op class (Some (Numbered n)) (Some (Numbered m)) h = (record { operator = op; class = class; first = Some n; second = Some m }, refl)
has_key op class (Some (Numbered n)) (Some (Plain q)) h = absurd h.1
has_key op class (Some (Plain p)) b h = absurd h.0

pub kept_for : (t : Tables) (operator class : ℕ) (a b : Option Label) → Before t → IsReady (told_of t) operator class a b → (n : ℕ) × IsKeptFor t operator class a b n
kept_for t operator class a b before_call (k, (numbered, (kids, are, e)), (other, n, kept, f)) =
    let (key, is) = has_key operator class a b numbered in
    let facts = key_facts t operator class a b kids key is are in
    let own = before_call.follow other n kept in
    let same : other ≡ key = one_key t.states before_call.sets other key own.order facts.order own.first own.second facts.first facts.second (sym f ∙ e ∙ sym facts.node) in
    (n, (key, is, subst (λ (x : StateKey). IsKept t x n) same kept))
