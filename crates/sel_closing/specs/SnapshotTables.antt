-- The table that a snapshot says, by its own lists.
use Rattle.std.specs.Prelude.{ℕ, Bool, List, [], ◌∷◌, map, cond, ◌==◌}
use Rattle.sel_items.specs.declared.items.Items.{Items}
use Rattle.sel_items.specs.Follows.{NodeKey, key_of}
use Rattle.sel_law.specs.Words.{class_by, by_kids}
use Rattle.sel_rows.specs.declared.snapshot.State.{State}
use Rattle.sel_rows.specs.declared.snapshot.Key.{Key}
use Rattle.sel_rows.specs.declared.snapshot.Transition.{Transition}
use Rattle.sel_rows.specs.declared.snapshot.Snapshot.{Snapshot}
use Rattle.sel_rows.specs.Snapshots.{states_of, transitions_of}
use Rattle.sel_count.specs.ClosedTables.{ClosedState, ClosedTransition, ClosedTable}

-- the item set of the state with the number, where there is one, and otherwise one without entries
abbrev pub items_by_number : List State → ℕ → Items
items_by_number [] n = record { entries = [] }
items_by_number (s ∷ ss) n = cond (s.number == n) s.items (items_by_number ss n)

-- a key by the item sets of its kids' numbers
abbrev pub key_by_items : List State → Key → NodeKey
key_by_items ss k = key_of k.operator (class_by k.kids k.left) (by_kids k.kids (items_by_number ss k.left) (items_by_number ss k.right))

abbrev pub closed_state : State → ClosedState
closed_state s = record { number = s.number; items = s.items }

abbrev pub closed_transition : List State → Transition → ClosedTransition
closed_transition ss x = record { key = key_by_items ss x.key; number = x.number }

-- How many states and keys a table has room for, and for how many workers it was made.
pub record Room : Type 0 where
  pub states : ℕ
  pub keys : ℕ
  pub workers : ℕ

-- The states and transitions of the snapshot, with the marks used up and row full.
abbrev pub table_of : Room → Snapshot → Bool → Bool → ClosedTable
table_of room s used_up row_full = record {
  states = map closed_state (states_of s);
  transitions = map (closed_transition (states_of s)) (transitions_of s);
  used_up = used_up;
  row_full = row_full;
  most_states = room.states;
  most_keys = room.keys;
  workers = room.workers;
}
