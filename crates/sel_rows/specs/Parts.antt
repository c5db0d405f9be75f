-- The parts of one table, and their seats together.
use Rattle.std.specs.Prelude.{◌≡◌, ℕ, ◌⊎◌, Bool, true, false, List, [], Option, None}
use Rattle.atomic_table.specs.Seated.{TableId}
use Rattle.sel_normal.specs.NormalForms.{NormalForm}
use Rattle.sel_law.specs.declared.View.{View}
use Rattle.sel_law.specs.declared.Setting.{Setting}
use Rattle.sel_law.specs.Law.{Closes}
use Rattle.sel_law.specs.declared.Ask.{Ask}
use Rattle.sel_law.specs.Words.{In, weigh}
use Rattle.sel_rows.specs.declared.part.PassPart.{PassPart}

-- what the part keeps from one pass to the next: its spare number, its marks and its count
abbrev pub part_spare : PassPart → Option ℕ
part_spare p = p.spare

abbrev pub part_used_up : PassPart → Bool
part_used_up p = p.used_up

abbrev pub part_row_full : PassPart → Bool
part_row_full p = p.row_full

abbrev pub part_evaluated : PassPart → ℕ
part_evaluated p = p.evaluated

-- the part's seat is one of the table, and its view has the table's setting
pub record PartOf (t : TableId) (z : Setting) (p : PassPart) : Type 0 where
  pub of : p.seat.table_id ≡ t
  pub setting : p.seat.me.0.setting ≡ z

abbrev pub seats_of : List PassPart → ℕ
seats_of parts = weigh (λ (p : PassPart). p.seat.me.0.seats) parts

-- what v knows, w knows
pub record Within (v w : View) : Type 0 where
  pub asked : (b : Ask) → In b v.asked → In b w.asked
  pub known : (e : Ask × ℕ) → In e v.known → In e w.known
  pub contents : (e : ℕ × ℕ × ℕ) → In e v.contents → In e w.contents
  pub places : (e : ℕ × ℕ) → In e v.places → In e w.places
  pub used_up : v.used_up ≡ true → w.used_up ≡ true
  pub row_full : v.row_full ≡ true → w.row_full ≡ true

-- the key was asked in the first view or in one of the parts
abbrev pub AskedIn : View → List PassPart → Ask → Type 0
AskedIn v parts b = In b v.asked ⊎ ((p : PassPart) × In p parts × In b p.seat.me.0.asked)

abbrev pub AllWithin : List PassPart → View → Type 0
AllWithin parts w = (p : PassPart) → In p parts → Within p.seat.me.0 w

abbrev pub AllOf : TableId → Setting → List PassPart → Type 0
AllOf t z parts = (p : PassPart) → In p parts → PartOf t z p

-- Nothing was seen, asked or drawn yet, and nothing marked.
pub record IsNew (p : PassPart) : Type 0 where
  pub asked : p.seat.me.0.asked ≡ []
  pub known : p.seat.me.0.known ≡ []
  pub places : p.seat.me.0.places ≡ []
  pub contents : p.seat.me.0.contents ≡ []
  pub spare : p.spare ≡ None
  pub used_up : p.used_up ≡ false
  pub row_full : p.row_full ≡ false
  pub evaluated : p.evaluated ≡ 0

-- The part is new and has one seat, and no seat is left to split from it.
pub record IsFresh (p : PassPart) : Type 0 where
  pub new : IsNew p
  pub one_seat : p.seat.me.0.seats ≡ 1
  pub none_left : p.seat.me.0.rest ≡ 0

abbrev pub AreFresh : List PassPart → Type 0
AreFresh parts = (p : PassPart) → In p parts → IsFresh p

-- what a table was made for
pub record IsSettingOf (z : Setting) (normal : NormalForm) (states rows workers : ℕ) : Type 0 where
  pub normal_is : z.normal.value ≡ normal
  pub states_is : z.states ≡ states
  pub rows_is : z.rows ≡ rows
  pub workers_is : z.workers ≡ workers

-- the words are closed under a view that knows what the parts know
abbrev pub ClosedBy : Setting → List ℕ → View → List PassPart → Type 0
ClosedBy z ws first parts = (w : View) × Closes z ws w × Within first w × AllWithin parts w × ((b : Ask) → In b w.asked → AskedIn first parts b)
