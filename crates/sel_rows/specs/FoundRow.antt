-- What a walk over the row of transitions found, and what became of a key's publication.
use Rattle.std.specs.Prelude.{◌≡◌, ℕ, ◌<◌, ◌≤◌, ◌⊎◌, true, false}
use Rattle.sel_law.specs.declared.Ask.{Ask}
use Rattle.sel_law.specs.declared.View.{View}
use Rattle.sel_law.specs.Words.{In, row_at, walk, key_home, IsMadeOf}
use Rattle.sel_law.specs.Kinds.{OtherKey, WalkedRow}
use Rattle.sel_rows.specs.Held.{held_content, IsWhole}
use Rattle.sel_rows.specs.declared.found.Seen.{Seen}
use Rattle.sel_rows.specs.declared.found.Seen.TheVariants.{Number, Absent, Full}
use Rattle.sel_rows.specs.declared.found.Placed.{Placed}
use Rattle.sel_rows.specs.declared.found.Placed.TheVariants.{Known, RowFull}

-- The key was asked and its number is known, and the content that follows from the key is held whole.
pub record HoldsKey (v : View) (a : Ask) (n : ℕ) : Type 0 where
  pub asked : In a v.asked
  pub known : In (a, n) v.known
  pub some_rows : 1 ≤ v.setting.rows
  pub below : n < v.setting.states
  pub whole : IsWhole v n
  pub made_of : IsMadeOf v.setting a (held_content v n)

-- the first `most` words of the key's walk are held with other keys
abbrev pub HoldsOthers : View → ℕ → ℕ → Type 0
HoldsOthers v x most = (j : ℕ) → j < most → OtherKey v x (walk v.setting.rows (key_home v.setting x) j)

-- What a walk over `most` words from the view u to the view v found: the key's number; or a place whose word was free at the last step, with all words before it held with other keys; or so many words held with other keys, and where these are all of the row the mark of a full row.
abbrev pub FoundRow : View → View → ℕ → Ask → ℕ → Seen → Type 0
FoundRow u v x a most (Number n) = HoldsKey v a n
FoundRow u v x a most (Absent q) = (q < v.setting.rows) × WalkedRow v x q × (u.steps < v.steps) × (v.last ≡ (v.steps, row_at v.setting q, 0)) × In a v.asked
FoundRow u v x a most Full = (most ≡ v.setting.rows → v.row_full ≡ true) × HoldsOthers v x most × In a v.asked

-- A key that is known with the number n is found with it, where the walk is over all words and the view isn't marked row full; no walk finds another number, or a free word.
abbrev pub FindsKnown : View → ℕ → ℕ → Seen → Type 0
FindsKnown v most n (Number m) = m ≡ n
FindsKnown v most n (Absent q) = ⊥
FindsKnown v most n Full = (most < v.setting.rows) ⊎ (v.row_full ≡ true)

-- the mark of a full row is set by a walk alone that finds the row full
abbrev pub MarksFull : View → View → Seen → Type 0
MarksFull v w (Number n) = w.row_full ≡ true → v.row_full ≡ true
MarksFull v w (Absent q) = w.row_full ≡ false
MarksFull v w Full = Unit {0}

abbrev pub MarksPlaced : View → View → Placed → Type 0
MarksPlaced v w (Known n) = w.row_full ≡ true → v.row_full ≡ true
MarksPlaced v w RowFull = Unit {0}

-- What became of a key's publication: its number is known, or every word is held with another key and the view is marked.
abbrev pub FoundPlace : View → ℕ → Ask → Placed → Type 0
FoundPlace v x a (Known n) = HoldsKey v a n
FoundPlace v x a RowFull = (v.row_full ≡ true) × HoldsOthers v x v.setting.rows
