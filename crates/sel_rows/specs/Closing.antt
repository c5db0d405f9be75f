-- What closing a table tells.
use Rattle.std.specs.Prelude.{◌≡◌, ℕ, List, length}
use Rattle.sel_law.specs.declared.Setting.{Setting}
use Rattle.sel_law.specs.declared.Ask.{Ask}
use Rattle.sel_law.specs.declared.View.{View}
use Rattle.sel_law.specs.Words.{In, word_count}
use Rattle.sel_law.specs.Law.{Small, Transitions, States}
use Rattle.sel_rows.specs.declared.part.PassPart.{PassPart}
use Rattle.sel_rows.specs.declared.snapshot.Snapshot.{Snapshot}
use Rattle.sel_rows.specs.Closed.{IsClosedTable}
use Rattle.sel_rows.specs.Parts.{AllWithin}
use Rattle.sel_rows.specs.Snapshots.{IsSnapshotOf}

-- the words are lawful, and there are as many as these sizes ask for
pub record AreClosedWords (z : Setting) (ws : List ℕ) (states rows width : ℕ) : Type 0 where
  pub states_is : states ≡ z.states
  pub rows_is : rows ≡ z.rows
  pub width_is : width ≡ z.width
  pub small : Small z
  pub size : length ws ≡ word_count z
  pub transitions : Transitions z ws
  pub numbers : States z ws

-- nothing is asked in the view but what some part asked
abbrev pub IsAskedInParts : List PassPart → View → Type 0
IsAskedInParts parts w = (b : Ask) → In b w.asked → (p : PassPart) × In p parts × In b p.seat.me.0.asked

-- The words tell of a closed table whose parts saw all that is known of it, and the snapshot is what they say.
pub record IsClosedBy (z : Setting) (parts : List PassPart) (s : Snapshot) : Type 0 where
  pub words : List ℕ
  pub view : View
  pub snapshot : IsSnapshotOf z words s
  pub table : IsClosedTable z words view
  pub parts_within : AllWithin parts view
  pub asked : IsAskedInParts parts view
