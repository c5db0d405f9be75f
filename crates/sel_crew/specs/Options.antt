-- Which options a crew may be begun with.
use Rattle.std.specs.Prelude.{◌≤◌}
use Rattle.sel_closing.specs.SnapshotTables.{Room}
use Rattle.sel_crew.specs.declared.options.Options.{Options}

-- There is a worker, and no more than 64 are, and states and keys are no more than their numbers reach.
pub record AreLawful (options : Options) : Type 0 where
  pub workers : 1 ≤ options.workers
  pub few : options.workers ≤ 64
  pub states : options.states ≤ 32768
  pub rows : options.rows ≤ 1048576

-- the room of a table that is made by the options
abbrev pub room_by : Options → Room
room_by options = record { states = options.states; keys = options.rows; workers = options.workers }
