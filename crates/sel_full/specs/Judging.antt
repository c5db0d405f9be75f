-- What may be wrong with a table that has the form.
use Rattle.std.specs.Prelude.{◌≡◌, ℕ, ◌<◌, ◌⊎◌, Option, Some, List, length, slice_get}
use Rattle.sel_normal.specs.NormalForms.{NormalForm}
use Rattle.sel_items.specs.declared.items.Item.{Item}
use Rattle.sel_items.specs.declared.items.Items.{Items}
use Rattle.sel_items.specs.Entries.{item_at}
use Rattle.sel_items.specs.Follows.{NodeKey, Follows}
use Rattle.sel_full.specs.declared.refusal.TableFault.{TableFault}
use Rattle.sel_full.specs.declared.refusal.TableFault.TheVariants.{State, Number}
use Rattle.sel_full.specs.declared.refusal.TableRefusal.{TableRefusal}
use Rattle.sel_full.specs.declared.refusal.TableRefusal.TheVariants as refusal
use Rattle.sel_full.specs.declared.table.Table.{Table}
use Rattle.sel_full.specs.Tables.{all_keys}

-- some entry is there
abbrev pub HasEntry : Items → Type 0
HasEntry i = (n : ℕ) × (item : Item) × (item_at i.entries n ≡ Some item)

-- the item set stands at an earlier place
abbrev pub IsEarlier : List Items → ℕ → Items → Type 0
IsEarlier states k i = (j : ℕ) × (j < k) × (slice_get states j ≡ Some i)

-- the state of this number is the first and not empty, or one that is there already
abbrev pub IsWrongState : List Items → ℕ → Type 0
IsWrongState states k = (i : Items) × (slice_get states k ≡ Some i) × (((k ≡ 0) × HasEntry i) ⊎ IsEarlier states k i)

-- The number at this place among the keys is no state's, or that of a state that doesn't follow from the key.
pub record IsWrongNumber (normal : NormalForm) (t : Table) (p : ℕ) : Type 0 where
  pub key : NodeKey
  pub number : ℕ
  pub there : slice_get (all_keys normal t.states) p ≡ Some key
  pub numbered : slice_get t.numbers p ≡ Some number
  pub wrong : (i : Items) → slice_get t.states number ≡ Some i → Follows normal key i → ⊥

-- it holds of the number, and of none before
pub record IsFirstOf (P : ℕ → Type 0) (k : ℕ) : Type 0 where
  pub here : P k
  pub before : (j : ℕ) → j < k → P j → ⊥

-- What is wrong first: states come before numbers.
abbrev pub IsTableFault : NormalForm → Table → TableFault → Type 0
IsTableFault normal t (State k) = IsFirstOf (IsWrongState t.states) k
IsTableFault normal t (Number p) = ((k : ℕ) → IsWrongState t.states k → ⊥) × IsFirstOf (IsWrongNumber normal t) p

-- a refusal tells what is wrong first, or that there was no memory
abbrev pub IsTableRefusal : NormalForm → Table → TableRefusal → Type 0
IsTableRefusal normal t (refusal.Fault fault) = IsTableFault normal t fault
IsTableRefusal normal t refusal.NoMemory = Unit {0}

-- why states were not gathered
abbrev pub IsStateRefusal : List Items → TableRefusal → Type 0
IsStateRefusal states (refusal.Fault (State k)) = IsFirstOf (IsWrongState states) k
IsStateRefusal states (refusal.Fault (Number p)) = ⊥
IsStateRefusal states refusal.NoMemory = Unit {0}

-- the item set can't be the next state: it would be the first and isn't empty, or is one already
abbrev pub IsWrongNext : List Items → Items → Type 0
IsWrongNext states i = ((length states ≡ 0) × HasEntry i) ⊎ ((j : ℕ) × (slice_get states j ≡ Some i))

-- two lists of numbers, of which one may lack some, differ at this place
abbrev pub AreApart : List (Option ℕ) → List ℕ → ℕ → Type 0
AreApart own numbers p = (n : ℕ) × (slice_get numbers p ≡ Some n) × (slice_get own p ≡ Some (Some n) → ⊥)
