-- A table by its words, and the parts of one table.
use Rattle.std.specs.Prelude.{◌≡◌, ◌-◌, List, None}
use Rattle.std.specs.Prelude.{◌||◌}
use Rattle.atomic_table.specs.Seated.{TableId}
use Rattle.sel_law.specs.declared.Setting.{Setting}
use Rattle.sel_law.specs.declared.View.{View}
use Rattle.sel_law.specs.Kinds.{left_view, new_view, both_views}
use Rattle.sel_rows.specs.declared.rows.Rows.{Rows}
use Rattle.sel_rows.specs.declared.part.PassPart.{PassPart}
use Rattle.sel_rows.specs.declared.pass.Pass.{Pass}
use Rattle.sel_rows.specs.Parts.{PartOf, AllOf, IsNew}
use Rattle.sel_rows.specs.Counts.{counted}
use Rattle.sel_rows.specs.Told.{pass_view}

-- the table's name, and what it was made for
abbrev pub id_of : Rows → TableId
id_of r = r.words.table.shared.table_id

abbrev pub setting_of : Rows → Setting
setting_of r = r.words.table.shared.key

-- the part is of the table
abbrev pub IsPartOf : Rows → PassPart → Type 0
IsPartOf r p = PartOf (id_of r) (setting_of r) p

abbrev pub ArePartsOf : Rows → List PassPart → Type 0
ArePartsOf r parts = AllOf (id_of r) (setting_of r) parts

-- the part is new and has one seat, and the seats of all workers but one are left to split from it
pub record IsFirst (z : Setting) (p : PassPart) : Type 0 where
  pub new : IsNew p
  pub one_seat : p.seat.me.0.seats ≡ 1
  pub left : p.seat.me.0.rest ≡ z.workers - 1

-- what the part knows of the table
abbrev pub view_of : PassPart → View
view_of p = p.seat.me.0

-- The pass and the part know the same, and keep the same number, marks and count.
pub record IsPassOf (p : PassPart) (s : Pass) : Type 0 where
  pub view : pass_view s ≡ view_of p
  pub spare : s.spare ≡ p.spare
  pub used_up : s.used_up ≡ p.used_up
  pub row_full : s.row_full ≡ p.row_full
  pub evaluated : s.evaluated ≡ p.evaluated

-- One seat that could be split from `p` is `q`'s: it has seen the same, and begins with no number and the count 0.
pub record AreSplit (p old new : PassPart) : Type 0 where
  pub old_view : view_of old ≡ left_view (view_of p)
  pub new_view_is : view_of new ≡ new_view (view_of p)
  pub spare : (old.spare ≡ None) × (new.spare ≡ None)
  pub used_up : (old.used_up ≡ p.used_up) × (new.used_up ≡ p.used_up)
  pub row_full : (old.row_full ≡ p.row_full) × (new.row_full ≡ p.row_full)
  pub evaluated : (old.evaluated ≡ p.evaluated) × (new.evaluated ≡ 0)

-- What both have seen is kept, with the first one's number, the marks of either and the sum of the counts.
pub record IsJoined (p q both : PassPart) : Type 0 where
  pub view : view_of both ≡ both_views (view_of p) (view_of q)
  pub spare : both.spare ≡ p.spare
  pub used_up : both.used_up ≡ p.used_up || q.used_up
  pub row_full : both.row_full ≡ p.row_full || q.row_full
  pub evaluated : both.evaluated ≡ counted p.evaluated q.evaluated
