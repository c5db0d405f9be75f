-- Tables stay lawful.
use Rattle.std.proofs.Common.{◌≡◌, ℕ, ◌+◌, ◌<◌, ◌≤◌, ◌⊎◌, inl, inr, Option, Some, None, List, [], ◌∷◌, ◌++◌, length, refl, sym, subst, arith, length-append}
use Rattle.sel_normal.specs.NormalForms.{NormalForm}
use Rattle.sel_items.specs.declared.items.Items.{Items}
use Rattle.sel_items.specs.KidSets.{kid_sets}
use Rattle.sel_items.specs.Follows.{key_of, Follows}
use Rattle.sel_auto.specs.declared.key.StateKey.{StateKey}
use Rattle.sel_auto.specs.Sets.{IsAmong}
use Rattle.sel_auto.specs.Tables.{Tables, IsKept, kid_state, node_key, IsStateNumber, IsTransition, AreLawful, with_state}
use Rattle.sel_auto.proofs.Growth.{get_front, get_kept, IsAmong-push, AreDifferent-push, keys_differ}

-- more states change no kid's item set
pub kid_state-grown : (states more : List Items) (o : Option ℕ) → IsStateNumber states o → kid_state (states ++ more) o ≡ kid_state states o
kid_state-grown states more None h = refl
kid_state-grown states more (Some n) h = get_front states more n (h n refl)

pub node_key-grown : (states more : List Items) (key : StateKey) → IsStateNumber states key.first → IsStateNumber states key.second → node_key (states ++ more) key ≡ node_key states key
node_key-grown states more key h k = λ i. key_of key.operator key.class (kid_sets (kid_state-grown states more key.first h i) (kid_state-grown states more key.second k i))

pub IsStateNumber-grown : (states more : List Items) (o : Option ℕ) → IsStateNumber states o → IsStateNumber (states ++ more) o
IsStateNumber-grown states more o h n e = let l = h n e in let s : length (states ++ more) ≡ length states + length more = length-append states more in omega arith

pub IsTransition-grown : (normal : NormalForm) (states more : List Items) (key : StateKey) (n : ℕ) → IsTransition normal states key n → IsTransition normal (states ++ more) key n
IsTransition-grown normal states more key n t = record {
  order = t.order;
  first = IsStateNumber-grown states more key.first t.first;
  second = IsStateNumber-grown states more key.second t.second;
  items = t.items;
  stands = get_kept states more n t.items t.stands;
  follows = subst (λ k. Follows normal k t.items) (sym (node_key-grown states more key t.first t.second)) t.follows;
}

one_longer : {A : Type 0} (xs : List A) (x : A) (most : ℕ) → length xs < most → length (xs ++ x ∷ []) ≤ most
one_longer xs x most h = let s : length (xs ++ x ∷ []) ≡ length xs + length (x ∷ []) = length-append xs (x ∷ []) in omega arith

pub lawful_state : (t : Tables) (i : Items) → AreLawful t → (IsAmong t.states i → ⊥) → length t.states < t.most_states → AreLawful (with_state t i)
lawful_state t i lawful fresh room = record {
  few_states = lawful.few_states;
  few_keys = lawful.few_keys;
  keys_within = lawful.keys_within;
  keys_differ = lawful.keys_differ;
  states_within = one_longer t.states i t.most_states room;
  states_differ = AreDifferent-push t.states i lawful.states_differ fresh;
  transitions = λ key n kept. IsTransition-grown t.normal t.states (i ∷ []) key n (lawful.transitions key n kept);
}

pub lawful_key : (t : Tables) (key : StateKey) (n : ℕ) → AreLawful t → length t.keys < t.most_keys → ((m : ℕ) → IsKept t key m → ⊥) → IsTransition t.normal t.states key n
    → AreLawful (record t { keys = t.keys ++ (key, n) ∷ [] })
lawful_key t key n lawful room fresh own = record {
  few_states = lawful.few_states;
  few_keys = lawful.few_keys;
  states_within = lawful.states_within;
  states_differ = lawful.states_differ;
  keys_within = one_longer t.keys (key, n) t.most_keys room;
  keys_differ = keys_differ t.keys key n lawful.keys_differ fresh;
  transitions = λ k m kept. by k m (IsAmong-push t.keys (key, n) (k, m) kept);
}
  where
    by : (k : StateKey) (m : ℕ) → IsKept t k m ⊎ ◌≡◌ {A = StateKey × ℕ} (k, m) (key, n) → IsTransition t.normal t.states k m
    by k m (inl h) = lawful.transitions k m h
    by k m (inr e) = subst (λ (p : StateKey × ℕ). IsTransition t.normal t.states p.0 p.1) (sym e) own
