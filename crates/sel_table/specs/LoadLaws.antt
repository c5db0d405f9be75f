-- Laws of loading.
use Rattle.std.specs.Prelude.{◌≡◌, ℕ, ◌≤◌, List}
use Rattle.sel_normal.specs.NormalForms.{NormalForm}
use Rattle.sel_normal.specs.Standing.{IsStanding}
use Rattle.sel_full.specs.declared.table.Table.{Table}
use Rattle.sel_full.specs.Builds.{IsCompleteTable, most_states, most_keys}
use Rattle.sel_full.specs.TableTexts.{table_text}
use Rattle.sel_table.specs.declared.refusal.LoadFault.{LoadFault}
use Rattle.sel_table.specs.Loading.{Spells, IsLoaded, IsLoadFault}

-- A text spells one table at most.
abbrev pub SpelledIsOne : Type 0
SpelledIsOne = (normal : NormalForm) (bytes : List ℕ) (t u : Table) → IsStanding normal → Spells normal bytes t → Spells normal bytes u → t ≡ u

-- It has one first fault at most.
abbrev pub LoadFaultIsOne : Type 0
LoadFaultIsOne = (normal : NormalForm) (bytes : List ℕ) (x y : LoadFault) → IsStanding normal → IsLoadFault normal bytes x → IsLoadFault normal bytes y → x ≡ y

-- And none where it spells a lawful table.
abbrev pub LoadedHasNoFault : Type 0
LoadedHasNoFault = (normal : NormalForm) (bytes : List ℕ) (t : Table) (x : LoadFault) → IsStanding normal → IsLoaded normal bytes t → IsLoadFault normal bytes x → ⊥

-- The text of a complete table is loaded as this table.
abbrev pub CompleteIsLoaded : Type 0
CompleteIsLoaded = (normal : NormalForm) (states rows : ℕ) (t : Table) → states ≤ most_states → rows ≤ most_keys → IsCompleteTable normal states rows t → IsLoaded normal (table_text t) t
