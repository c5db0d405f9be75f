-- What a pass tells as an automaton, and what no call changes.
use Rattle.std.specs.Prelude.{ℕ, Option, List}
use Rattle.atomic_table.specs.Seated.{TableId}
use Rattle.sel_items.specs.declared.items.Items.{Items}
use Rattle.sel_items.specs.Automata.{Told}
use Rattle.sel_law.specs.declared.Setting.{Setting}
use Rattle.sel_law.specs.declared.View.{View}
use Rattle.sel_rows.specs.declared.pass.Pass.{Pass}
use Rattle.sel_rows.specs.Meanings.{told_by}

-- what the pass knows of the table
abbrev pub pass_view : Pass → View
pass_view p = p.hand.seat.me.0

-- the number that it has drawn and not published
abbrev pub spare_of : Pass → Option ℕ
spare_of p = p.spare

-- how many of its calls of `label` took a step of the counter
abbrev pub evaluated_of : Pass → ℕ
evaluated_of p = p.evaluated

-- the item sets of its plain labels
abbrev pub plain_of : Pass → List Items
plain_of p = p.plain.items

abbrev pub told_of_pass : Pass → Told
told_of_pass p = told_by p.normal.now (pass_view p) p.plain.items p.used_up p.row_full

-- Where a pass stands: its table, what the table was made for, and the pass's seats.
pub record Standing : Type 0 where
  pub table : TableId
  pub setting : Setting
  pub seats : ℕ
  pub rest : ℕ

abbrev pub standing_of : Pass → Standing
standing_of p = record {
  table = p.hand.rows.now.table.shared.table_id;
  setting = p.hand.rows.now.table.shared.key;
  seats = (pass_view p).seats;
  rest = (pass_view p).rest;
}
