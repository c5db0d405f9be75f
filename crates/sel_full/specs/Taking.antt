-- How a build goes on: what it has found, and what taking keys does.
use Rattle.std.specs.Prelude.{◌≡◌, ℕ, ◌<◌, ◌≤◌, Option, Some, None, List, [], ◌∷◌, ◌++◌, length, slice_get}
use Rattle.sel_grammar.specs.declared.grammar.Grammar.{Grammar}
use Rattle.sel_normal.specs.NormalForms.{NormalForm}
use Rattle.sel_items.specs.declared.items.Items.{Items}
use Rattle.sel_items.specs.CostBounds.{IsKidSet}
use Rattle.sel_items.specs.Follows.{NodeKey, key_of}
use Rattle.sel_items.specs.KidSets.{kid_sets, AreKidsInOrder}
use Rattle.sel_items.specs.Laws.{IsAcceptedForm}
use Rattle.sel_full.specs.declared.stop.Stop.{Stop}
use Rattle.sel_full.specs.declared.stop.Stop.TheVariants.{TooLarge, NoMemory}
use Rattle.sel_full.specs.Builds.{HasDearEntry, IsTooLarge}
use Rattle.sel_full.specs.Finding.{LeadsBelow, IsFirstFound, build_keys}
use Rattle.sel_full.specs.Reach.{IsEmptySet, IsReached, IsOneOf, IsKeyOver}
use Rattle.sel_full.specs.Tables.{AllDiffer, kids_by, all_keys}

-- reached, by each grammar that has this normal form
abbrev pub IsReachedBy : NormalForm → Items → Type 0
IsReachedBy normal i = (g : Grammar) → IsAcceptedForm g normal → IsReached g normal i

-- each is one that a parent's may be evaluated from
abbrev pub AreKidStates : NormalForm → List Items → Type 0
AreKidStates normal states = (i : Items) → IsOneOf states i → IsKidSet normal i

-- Item sets that may be states: they differ, are reached, and are cheap enough to be kids.
pub record AreStates (normal : NormalForm) (states : List Items) : Type 0 where
  pub differ : AllDiffer states
  pub reached : (i : Items) → IsOneOf states i → IsReachedBy normal i
  pub sets : AreKidStates normal states
  pub cheap : (i : Items) → IsOneOf states i → HasDearEntry i → ⊥

-- as many states and keys as allowed
pub record AreFew (normal : NormalForm) (most rows : ℕ) (states : List Items) : Type 0 where
  pub few_states : length states ≤ most
  pub few_keys : length (all_keys normal states) ≤ rows

-- The states that are found so far, the empty one first.
pub record AreFound (normal : NormalForm) (most rows : ℕ) (states : List Items) : Type 0 where
  pub are : AreStates normal states
  pub few : AreFew normal most rows states
  pub empty : (i : Items) × (slice_get states 0 ≡ Some i) × IsEmptySet normal i

-- a kid's state by its number, where there is a kid
abbrev pub kid_at : List Items → Option ℕ → Option Items
kid_at states None = None
kid_at states (Some n) = slice_get states n

-- the key over the states of these numbers
abbrev pub key_at : List Items → ℕ → ℕ → Option ℕ → Option ℕ → NodeKey
key_at states operator class first second = key_of operator class (kid_sets (kid_at states first) (kid_at states second))

-- it may be taken
pub record MayTake (normal : NormalForm) (states : List Items) (operator class : ℕ) (first second : Option ℕ) : Type 0 where
  pub by : kids_by normal.rules operator ≡ Some (length (kid_sets (kid_at states first) (kid_at states second)))
  pub over : IsKeyOver normal (IsOneOf states) (key_at states operator class first second)
  pub order : AreKidsInOrder (kid_at states first) (kid_at states second)

-- The item set is a state, and no other was put behind them.
pub record IsKept (old : List Items) (items : Items) (new : List Items) : Type 0 where
  pub added : List Items
  pub grown : new ≡ old ++ added
  pub few : length added ≤ 1
  pub number : ℕ
  pub below : number < length new
  pub there : slice_get new number ≡ Some items
  pub next : length old < length new → number ≡ length old

-- Keys were taken: from each follows a state, and the states that were put behind the old ones are found first at these keys.
pub record Took (normal : NormalForm) (old new : List Items) (keys : List NodeKey) : Type 0 where
  pub added : List Items
  pub grown : new ≡ old ++ added
  pub led : (p : ℕ) (key : NodeKey) → slice_get keys p ≡ Some key → LeadsBelow normal new (length new) key
  pub found : (m : ℕ) → length old ≤ m → m < length new → IsFirstFound normal new keys m

-- the keys up to those whose greatest kid is the state before k were taken, and nothing else, from the empty set on
pub record TookTo (normal : NormalForm) (states : List Items) (k : ℕ) : Type 0 where
  pub empty : Items
  pub took : Took normal (empty ∷ []) states (build_keys normal states k)

-- why a build stops
abbrev pub IsStopFor : NormalForm → ℕ → ℕ → Stop → Type 0
IsStopFor normal most rows TooLarge = (g : Grammar) → IsAcceptedForm g normal → IsTooLarge g normal most rows
IsStopFor normal most rows NoMemory = Unit {0}
