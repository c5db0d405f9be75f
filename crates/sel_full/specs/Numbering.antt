-- Numbers for keys over states.
use Rattle.std.specs.Prelude.{◌≡◌, ℕ, Option, Some, None, List, ◌++◌, length, slice_get}
use Rattle.sel_normal.specs.NormalForms.{NormalForm}
use Rattle.sel_items.specs.declared.items.Items.{Items}
use Rattle.sel_items.specs.Follows.{NodeKey, key_of, Follows}
use Rattle.sel_full.specs.Reach.{IsClassFor, IsOneOf, AreOf}
use Rattle.sel_full.specs.Tables.{kids_by}

-- from each key over the states, by an operator with as many kids, follows one of them
abbrev pub IsSettled : NormalForm → List Items → Type 0
IsSettled normal states = (op class : ℕ) (is : List Items) → kids_by normal.rules op ≡ Some (length is) → IsClassFor normal class is → AreOf (IsOneOf states) is → (i : Items) × IsOneOf states i × Follows normal (key_of op class is) i

-- no state follows from the key: so the states aren't settled
pub record LeadsNowhere (normal : NormalForm) (states : List Items) (key : NodeKey) : Type 0 where
  pub none : (i : Items) → Follows normal key i → IsOneOf states i → ⊥
  pub unsettled : IsSettled normal states → ⊥

-- the number of the state that follows from the key, or nothing where no state does
abbrev pub IsNumberFor : NormalForm → List Items → NodeKey → Option ℕ → Type 0
IsNumberFor normal states key None = LeadsNowhere normal states key
IsNumberFor normal states key (Some n) = (i : Items) × (slice_get states n ≡ Some i) × Follows normal key i

-- there is one for each key
pub record AreNumbers (normal : NormalForm) (states : List Items) (numbers : List (Option ℕ)) (keys : List NodeKey) : Type 0 where
  pub as_many : length numbers ≡ length keys
  pub follow : (p : ℕ) (number : Option ℕ) (key : NodeKey) → slice_get keys p ≡ Some key → slice_get numbers p ≡ Some number → IsNumberFor normal states key number

-- numbers of further keys were put behind others
abbrev pub NumbersMore : NormalForm → List Items → List (Option ℕ) → List (Option ℕ) → List NodeKey → Type 0
NumbersMore normal states old new keys = (ks : List NodeKey) → AreNumbers normal states old ks → AreNumbers normal states new (ks ++ keys)
