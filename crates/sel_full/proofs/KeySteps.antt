-- Keys that may be taken, and what follows from them.
use Rattle.std.proofs.Common.{◌≡◌, ℕ, suc, ◌<◌, Option, Some, None, List, [], ◌∷◌, refl, ap, sym, ◌∙◌, subst, slice_get, length}
use Rattle.sel_range.specs.Classes.{Occurs}
use Rattle.sel_normal.specs.NormalForms.{NormalForm}
use Rattle.sel_normal.proofs.Steps.{some_none}
use Rattle.sel_items.specs.declared.items.Items.{Items}
use Rattle.sel_items.specs.CostBounds.{IsKidSet}
use Rattle.sel_items.specs.Follows.{NodeKey, key_of, Follows}
use Rattle.sel_items.specs.KidSets.{kid_sets, AreKidsInOrder}
use Rattle.sel_full.specs.Reach.{IsUsed, IsKeyOver, IsOneOf, AreOf}
use Rattle.sel_full.specs.Tables.{kids_by}
use Rattle.sel_full.specs.Taking.{IsReachedBy, AreStates, AreKidStates, kid_at, key_at, MayTake}
use Rattle.sel_full.proofs.ListPlaces.{within_get}
use Rattle.sel_full.proofs.Reaching.{reached_follow}
use Rattle.sel_full.proofs.Uses.{by_first}

pub used_by : (normal : NormalForm) (op k : ℕ) → kids_by normal.rules op ≡ Some k → IsUsed normal op k
used_by normal op k h =
    let u = by_first normal.rules op k h in
    record { number = suc u.place; rule = u.rule; first = u.first; second = u.second; test = u.test; numbered = u.there; body = u.body; count = u.count }

pub kid_set : (normal : NormalForm) (xs : List Items) (o : Option ℕ) (i : Items) → AreKidStates normal xs → kid_at xs o ≡ Some i → IsKidSet normal i
kid_set normal xs None i sets h = absurd (some_none (sym h))
kid_set normal xs (Some n) i sets h = sets i (n, h)

pub leaf_may : (normal : NormalForm) (xs : List Items) (op class : ℕ) → kids_by normal.rules op ≡ Some 0 → Occurs normal.tests class → MayTake normal xs op class None None
leaf_may normal xs op class by occurs = record { by = by; over = record { used = used_by normal op 0 by; class = occurs; kids = tt }; order = tt }

pub one_may : (normal : NormalForm) (xs : List Items) (op n : ℕ) → kids_by normal.rules op ≡ Some 1 → n < length xs → MayTake normal xs op 0 (Some n) None
one_may normal xs op n by h =
    let (x, at) = within_get xs n h in
    record {
      by = subst (λ o. kids_by normal.rules op ≡ Some (length (kid_sets o None))) (sym at) by;
      over = subst (λ o. IsKeyOver normal (IsOneOf xs) (key_of op 0 (kid_sets o None))) (sym at) (record { used = used_by normal op 1 by; class = refl; kids = ((n, at), tt) });
      order = subst (λ o. AreKidsInOrder o None) (sym at) tt;
    }

pub two_may : (normal : NormalForm) (xs : List Items) (op m n : ℕ) → kids_by normal.rules op ≡ Some 2 → m < length xs → n < length xs → MayTake normal xs op 0 (Some m) (Some n)
two_may normal xs op m n by h k =
    let (x, at) = within_get xs m h in
    let (y, at') = within_get xs n k in
    record {
      by = subst (λ o. kids_by normal.rules op ≡ Some (length (kid_sets o (slice_get xs n)))) (sym at) (subst (λ o. kids_by normal.rules op ≡ Some (length (kid_sets (Some x) o))) (sym at') by);
      over = subst (λ o. IsKeyOver normal (IsOneOf xs) (key_of op 0 (kid_sets o (slice_get xs n)))) (sym at)
          (subst (λ o. IsKeyOver normal (IsOneOf xs) (key_of op 0 (kid_sets (Some x) o))) (sym at') (record { used = used_by normal op 2 by; class = refl; kids = ((m, at), ((n, at'), tt)) }));
      order = subst (λ o. AreKidsInOrder o (slice_get xs n)) (sym at) (subst (λ o. AreKidsInOrder (Some x) o) (sym at') tt);
    }

-- the key over numbers is that over their states
pub one_key : (xs : List Items) (op n : ℕ) (i : Items) → slice_get xs n ≡ Some i → key_at xs op 0 (Some n) None ≡ key_of op 0 (i ∷ [])
one_key xs op n i at = ap (λ o. key_of op 0 (kid_sets o None)) at

pub two_key : (xs : List Items) (op m n : ℕ) (i j : Items) → slice_get xs m ≡ Some i → slice_get xs n ≡ Some j → key_at xs op 0 (Some m) (Some n) ≡ key_of op 0 (i ∷ j ∷ [])
two_key xs op m n i j at at' = ap (λ o. key_of op 0 (kid_sets o (slice_get xs n))) at ∙ ap (λ o. key_of op 0 (kid_sets (Some i) o)) at'

all_of : {P Q : Items → Type 0} → ((i : Items) → P i → Q i) → (is : List Items) → AreOf P is → AreOf Q is
all_of f [] h = tt
all_of f (i ∷ is) h = (f i h.0, all_of f is h.1)

pub key_reached : (normal : NormalForm) (xs : List Items) (key : NodeKey) (i : Items) → AreStates normal xs → IsKeyOver normal (IsOneOf xs) key → Follows normal key i → IsReachedBy normal i
key_reached normal xs key i are over f g form =
    reached_follow g normal key i form (record { used = over.used; class = over.class; kids = all_of (λ i m. are.reached i m g form) key.kids over.kids }) f

pub follows_long : (normal : NormalForm) (key : NodeKey) (i : Items) → Follows normal key i → length i.entries ≡ normal.nonterminals
follows_long normal key i f = sym (f.reduced).long ∙ (f.is_absolute).long
