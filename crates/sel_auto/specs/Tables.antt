-- The tables of a private automaton, what they say, and what they keep.
use Rattle.std.specs.Prelude.{◌≡◌, ℕ, ◌+◌, ◌-◌, ◌<◌, ◌≤◌, ◌^◌, min, Bool, true, false, Option, Some, None, List, [], ◌∷◌, ◌++◌, length, slice_get, map, nat_lt, if◌then◌else◌}
use Rattle.sel_normal.specs.NormalForms.{NormalForm}
use Rattle.sel_items.specs.declared.items.Items.{Items}
use Rattle.sel_items.specs.declared.label.Label.{Label}
use Rattle.sel_items.specs.declared.label.Label.TheVariants.{Numbered, Plain}
use Rattle.sel_items.specs.Automata.{Told}
use Rattle.sel_items.specs.Follows.{NodeKey, key_of, Follows}
use Rattle.sel_items.specs.KidSets.{kid_sets}
use Rattle.sel_auto.specs.declared.key.StateKey.{StateKey}
use Rattle.sel_auto.specs.Sets.{IsAmong, AreDifferent}

-- The normal form; how many states and keys there may be; the item sets of the states, each at its number; the kept keys with their numbers, the oldest first; the item sets of plain labels, each at its place; two marks; and how many calls evaluated an item set.
pub record Tables : Type 0 where
  pub normal : NormalForm
  pub most_states : ℕ
  pub most_keys : ℕ
  pub states : List Items
  pub keys : List (StateKey × ℕ)
  pub plain : List Items
  pub used_up : Bool
  pub row_full : Bool
  pub evaluated : ℕ

-- tables in which nothing stands
abbrev pub empty_tables : NormalForm → ℕ → ℕ → Tables
empty_tables normal states rows = record {
  normal = normal;
  most_states = states;
  most_keys = rows;
  states = [];
  keys = [];
  plain = [];
  used_up = false;
  row_full = false;
  evaluated = 0;
}

-- the item set that a label means, where it means one
abbrev pub meaning : Tables → Label → Option Items
meaning t (Numbered n) = slice_get t.states n
meaning t (Plain p) = slice_get t.plain p

abbrev pub Means : Tables → Label → Items → Type 0
Means t l i = meaning t l ≡ Some i

-- the meaning of a kid's label, where there is a kid
abbrev pub kid_meaning : Tables → Option Label → Option Items
kid_meaning t None = None
kid_meaning t (Some l) = meaning t l

-- the number is kept for the key
abbrev pub IsKept : Tables → StateKey → ℕ → Type 0
IsKept t key n = IsAmong t.keys (key, n)

-- the item set of a kid's state, where there is a kid
abbrev pub kid_state : List Items → Option ℕ → Option Items
kid_state states None = None
kid_state states (Some n) = slice_get states n

-- a key by the item sets of its states
abbrev pub node_key : List Items → StateKey → NodeKey
node_key states key = key_of key.operator key.class (kid_sets (kid_state states key.first) (kid_state states key.second))

-- the key by item sets is one whose number is kept
abbrev pub IsKnown : Tables → NodeKey → Type 0
IsKnown t k = (key : StateKey) × (n : ℕ) × IsKept t key n × (k ≡ node_key t.states key)

-- the number, where there is one, is a state's
abbrev pub IsStateNumber : List Items → Option ℕ → Type 0
IsStateNumber states o = (n : ℕ) → o ≡ Some n → n < length states

-- a second kid stands beside a first
abbrev pub AreInOrder : Option ℕ → Option ℕ → Type 0
AreInOrder None (Some m) = ⊥
AreInOrder _ _ = Unit {0}

-- the key's kids are states, and what follows from it is the item set of the number
pub record IsTransition (normal : NormalForm) (states : List Items) (key : StateKey) (n : ℕ) : Type 0 where
  pub order : AreInOrder key.first key.second
  pub first : IsStateNumber states key.first
  pub second : IsStateNumber states key.second
  pub items : Items
  pub stands : slice_get states n ≡ Some items
  pub follows : Follows normal (node_key states key) items

abbrev pub most_numbers : ℕ
most_numbers = 32768

abbrev pub most_rows : ℕ
most_rows = 1048576

-- What the tables of each automaton keep: no more stands in them than may, the item sets of the states differ, so do the kept keys, and each kept number is the one that follows from its key.
pub record AreLawful (t : Tables) : Type 0 where
  pub few_states : t.most_states ≤ most_numbers
  pub few_keys : t.most_keys ≤ most_rows
  pub states_within : length t.states ≤ t.most_states
  pub keys_within : length t.keys ≤ t.most_keys
  pub states_differ : AreDifferent t.states
  pub keys_differ : AreDifferent (map (λ e. e.0) t.keys)
  pub transitions : (key : StateKey) (n : ℕ) → IsKept t key n → IsTransition t.normal t.states key n

-- What an automaton over these tables tells. It is asked for a key where it is to keep it, and a known key is ready.
abbrev pub told_of : Tables → Told
told_of t = record {
  normal = t.normal;
  means = Means t;
  plain_labels = length t.plain;
  asked = IsKnown t;
  known = IsKnown t;
  ready = IsKnown t;
  held = IsAmong t.states;
  used_up = t.used_up;
  row_full = t.row_full;
}

-- how many states and keys there may be
abbrev pub limits_of : Tables → ℕ × ℕ
limits_of t = (t.most_states, t.most_keys)

-- one more, up to the greatest number of 64 bits
abbrev pub one_more : ℕ → ℕ
one_more n = min (n + 1) (2 ^ 64 - 1)

-- the tables after one more evaluation
abbrev pub with_evaluation : Tables → Tables
with_evaluation t = record t { evaluated = one_more t.evaluated }

-- with the item set as that of the next plain label
abbrev pub with_plain : Tables → Items → Tables
with_plain t i = record t { plain = t.plain ++ i ∷ [] }

-- with the item set as that of the next number
abbrev pub with_state : Tables → Items → Tables
with_state t i = record t { states = t.states ++ i ∷ [] }

-- the kept keys, and the key with its number behind them where there is room
abbrev pub keys_with : Tables → StateKey → ℕ → List (StateKey × ℕ)
keys_with t key n = if nat_lt (length t.keys) t.most_keys then t.keys ++ (key, n) ∷ [] else t.keys

-- with the key's number where there is room for it, and else with the mark
abbrev pub with_key : Tables → StateKey → ℕ → Tables
with_key t key n = record t { keys = keys_with t key n; row_full = if nat_lt (length t.keys) t.most_keys then t.row_full else true }

abbrev pub with_used_up : Tables → Tables
with_used_up t = record t { used_up = true }
