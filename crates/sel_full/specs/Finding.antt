-- The order in which a build takes keys, and numbers the states that it finds.
use Rattle.std.specs.Prelude.{◌≡◌, ℕ, zero, suc, ◌<◌, Option, Some, None, List, [], ◌∷◌, ◌++◌, length, map, take, slice_get}
use Rattle.std.specs.List.{flat_map, range_with_len}
use Rattle.sel_grammar.specs.Limits.{most_operators}
use Rattle.sel_normal.specs.NormalForms.{NormalForm}
use Rattle.sel_items.specs.declared.items.Items.{Items}
use Rattle.sel_items.specs.Follows.{NodeKey, key_of, Follows}
use Rattle.sel_full.specs.Tables.{kids_by, keys_with}

-- the keys of an operator that has no kids, by their classes
abbrev pub leaf_keys : NormalForm → ℕ → Option ℕ → List NodeKey
leaf_keys normal op None = []
leaf_keys normal op (Some zero) = keys_with normal [] op (Some zero)
leaf_keys normal op (Some (suc n)) = []

-- the keys of an operator whose greatest kid is the state i, behind the states before it: alone, with a lesser one or itself on the right of it last
abbrev pub kid_keys : List Items → Items → ℕ → Option ℕ → List NodeKey
kid_keys before i op None = []
kid_keys before i op (Some zero) = []
kid_keys before i op (Some (suc zero)) = key_of op 0 (i ∷ []) ∷ []
kid_keys before i op (Some (suc (suc n))) = map (λ j. key_of op 0 (j ∷ i ∷ [])) before ++ map (λ j. key_of op 0 (i ∷ j ∷ [])) (before ++ i ∷ [])

-- the keys without kids of the operators below a number
unfoldable pub leaf_keys_below : NormalForm → ℕ → List NodeKey
leaf_keys_below normal operator = flat_map (λ op. leaf_keys normal op (kids_by normal.rules op)) (range_with_len 0 operator)

-- the keys of the operators below a number whose greatest kid is the state i
unfoldable pub kid_keys_below : NormalForm → List Items → Items → ℕ → List NodeKey
kid_keys_below normal before i operator = flat_map (λ op. kid_keys before i op (kids_by normal.rules op)) (range_with_len 0 operator)

-- the keys whose greatest kid is this state, where there is one
abbrev pub keys_up_to : NormalForm → List Items → Option Items → List NodeKey
keys_up_to normal before None = []
keys_up_to normal before (Some i) = kid_keys_below normal before i most_operators

-- the keys without kids, and then for each of the first k states from 0 upwards those whose greatest kid it is
abbrev pub build_keys : NormalForm → List Items → ℕ → List NodeKey
build_keys normal states zero = leaf_keys_below normal most_operators
build_keys normal states (suc k) = build_keys normal states k ++ keys_up_to normal (take k states) (slice_get states k)

-- from the key follows a state below the number m
abbrev pub LeadsBelow : NormalForm → List Items → ℕ → NodeKey → Type 0
LeadsBelow normal states m key = (n : ℕ) × (i : Items) × (n < m) × (slice_get states n ≡ Some i) × Follows normal key i

-- The state m follows from one of these keys, and from each key before that a state below m.
pub record IsFirstFound (normal : NormalForm) (states : List Items) (keys : List NodeKey) (m : ℕ) : Type 0 where
  pub place : ℕ
  pub key : NodeKey
  pub items : Items
  pub there : slice_get keys place ≡ Some key
  pub state : slice_get states m ≡ Some items
  pub follows : Follows normal key items
  pub before : (p : ℕ) (earlier : NodeKey) → p < place → slice_get keys p ≡ Some earlier → LeadsBelow normal states m earlier

-- Each state but the empty one is found first where a build takes the keys over all states in its order.
abbrev pub AreNumberedAsFound : NormalForm → List Items → Type 0
AreNumberedAsFound normal states = (m : ℕ) → 0 < m → m < length states → IsFirstFound normal states (build_keys normal states (length states)) m
