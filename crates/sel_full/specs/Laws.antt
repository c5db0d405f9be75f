-- Laws of complete tables.
use Rattle.std.specs.Prelude.{◌≡◌, ℕ, ◌+◌, ◌*◌, ◌<◌, Some, List, [], ◌∷◌, length, slice_get}
use Rattle.sel_grammar.specs.declared.grammar.Grammar.{Grammar}
use Rattle.sel_grammar.specs.Limits.{most_operators}
use Rattle.sel_grammar.specs.PlainTrees.{PlainTree}
use Rattle.sel_forest.specs.Valid.{IsOver}
use Rattle.sel_forest.specs.declared.forest.Tree.{Tree}
use Rattle.sel_forest.specs.Valid.{IsValidTree}
use Rattle.sel_normal.specs.NormalForms.{NormalForm}
use Rattle.sel_normal.specs.Standing.{IsStanding}
use Rattle.sel_items.specs.declared.items.Items.{Items}
use Rattle.sel_items.specs.Follows.{NodeKey, key_of, Follows}
use Rattle.sel_items.specs.ItemsOf.{IsItemsOf}
use Rattle.sel_items.specs.Laws.{IsAcceptedForm}
use Rattle.sel_label.specs.Labelling.{AreAllReady}
use Rattle.sel_full.specs.Automata.{FullTable, told_of, IsStateKey}
use Rattle.sel_full.specs.Reach.{IsEmptySet, IsUsed, IsReached, IsKeyOver, IsOneOf, IsClosed}
use Rattle.sel_full.specs.Tables.{IsLawfulTable, occurring, kids_by, all_keys, key_start}

-- What follows from a key over reached item sets is reached.
abbrev pub ReachedFollow : Type 0
ReachedFollow = (g : Grammar) (normal : NormalForm) (key : NodeKey) (items : Items) → IsAcceptedForm g normal → IsKeyOver normal (IsReached g normal) key → Follows normal key items → IsReached g normal items

-- all states are reached, and what is reached is a state
pub record AreExactlyReach (g : Grammar) (normal : NormalForm) (states : List Items) : Type 0 where
  pub reached : (i : Items) → IsOneOf states i → IsReached g normal i
  pub all : (i : Items) → IsReached g normal i → IsOneOf states i

-- Closed states with the empty one among them hold the item set of each tree; so where each is reached, they are exactly what is reached.
abbrev pub ReachIsExact : Type 0
ReachIsExact = (g : Grammar) (normal : NormalForm) (states : List Items) (empty : Items) → IsAcceptedForm g normal → IsEmptySet normal empty → IsOneOf states empty → IsClosed normal states
    → ((i : Items) → IsReached g normal i → IsOneOf states i) × (((i : Items) → IsOneOf states i → IsReached g normal i) → AreExactlyReach g normal states)

-- From the keys over a lawful table's states follow its states alone.
abbrev pub TablesAreClosed : Type 0
TablesAreClosed = (g : Grammar) (normal : NormalForm) (states : List Items) (numbers : List ℕ) → IsAcceptedForm g normal → IsLawfulTable normal states numbers → IsClosed normal states

-- So a lawful table has the item set of each tree, of whatever size and depth.
abbrev pub TablesHoldTrees : Type 0
TablesHoldTrees = (g : Grammar) (normal : NormalForm) (states : List Items) (numbers : List ℕ) (t : PlainTree) (i : Items) → IsAcceptedForm g normal → IsLawfulTable normal states numbers → IsOver g t → IsItemsOf g t i → IsOneOf states i

-- Where the keys of an operator that has so many kids by the rules stand among all: by the place of the class, of the state, or of both states.
pub record HasPlaces (normal : NormalForm) (states : List Items) (operator : ℕ) : Type 0 where
  pub none : (c class : ℕ) → kids_by normal.rules operator ≡ Some 0 → slice_get (occurring normal.tests) c ≡ Some class → slice_get (all_keys normal states) (key_start normal states operator + c) ≡ Some (key_of operator class [])
  pub one : (m : ℕ) (i : Items) → kids_by normal.rules operator ≡ Some 1 → slice_get states m ≡ Some i → slice_get (all_keys normal states) (key_start normal states operator + m) ≡ Some (key_of operator 0 (i ∷ []))
  pub two : (m n : ℕ) (i j : Items) → kids_by normal.rules operator ≡ Some 2 → slice_get states m ≡ Some i → slice_get states n ≡ Some j
      → slice_get (all_keys normal states) (key_start normal states operator + (m * length states + n)) ≡ Some (key_of operator 0 (i ∷ j ∷ []))

abbrev pub KeysHavePlaces : Type 0
KeysHavePlaces = (normal : NormalForm) (states : List Items) (operator : ℕ) → operator < most_operators → HasPlaces normal states operator

-- From the key of an operator that no rule uses with so many kids follows the empty item set: so such a node has state 0.
abbrev pub UnusedAreEmpty : Type 0
UnusedAreEmpty = (normal : NormalForm) (key : NodeKey) (i : Items) → (IsUsed normal key.operator (length key.kids) → ⊥) → IsEmptySet normal i → Follows normal key i

-- From each key over the states of a lawful table follows one of them.
abbrev pub StateKeysFollow : Type 0
StateKeysFollow = (t : FullTable) (key : NodeKey) → IsStanding t.normal → IsLawfulTable t.normal t.states t.numbers → IsStateKey t key → (i : Items) × IsOneOf t.states i × Follows t.normal key i

-- The key of each node of a tree is ready over a lawful table.
abbrev pub TreesAreReady : Type 0
TreesAreReady = (g : Grammar) (t : FullTable) (tree : Tree) → IsAcceptedForm g t.normal → IsLawfulTable t.normal t.states t.numbers → IsValidTree g tree → AreAllReady g tree.nodes (told_of t)
