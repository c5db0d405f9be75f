-- What loading a text gives.
use Rattle.std.specs.Prelude.{◌≡◌, ℕ, ◌+◌, ◌≤◌, ◌<◌, ◌⊎◌, List, ◌++◌, length}
use Rattle.sel_normal.specs.NormalForms.{NormalForm}
use Rattle.sel_full.specs.declared.refusal.TableFault.{TableFault}
use Rattle.sel_full.specs.declared.refusal.TableFault.TheVariants.{State, Number}
use Rattle.sel_full.specs.declared.table.Table.{Table}
use Rattle.sel_full.specs.Forms.{HasForm}
use Rattle.sel_full.specs.Judging.{IsTableFault}
use Rattle.sel_full.specs.Tables.{IsLawfulTable}
use Rattle.sel_full.specs.TableTexts.{table_lines, lines_text, table_text}
use Rattle.sel_table.specs.declared.refusal.LoadFault.{LoadFault}
use Rattle.sel_table.specs.declared.refusal.LoadRefusal.{LoadRefusal}
use Rattle.sel_table.specs.declared.refusal.LoadRefusal.TheVariants as refusal

-- the table has the form, and this text
pub record Spells (normal : NormalForm) (bytes : List ℕ) (t : Table) : Type 0 where
  pub form : HasForm normal t
  pub text : bytes ≡ table_text t

-- The text begins with the first so many lines of the text of a table that has the form.
pub record GoesOn (normal : NormalForm) (bytes : List ℕ) (lines : ℕ) : Type 0 where
  pub table : Table
  pub form : HasForm normal table
  pub front : List (List ℕ)
  pub others : List (List ℕ)
  pub lines_are : table_lines table ≡ front ++ others
  pub so_many : length front ≡ lines
  pub rest : List ℕ
  pub begins : bytes ≡ lines_text front ++ rest

-- No table is spelled, and the line with this number, from 1, is the first with which no text of a table goes on.
pub record IsFormFault (normal : NormalForm) (bytes : List ℕ) (line : ℕ) : Type 0 where
  pub none : (t : Table) → Spells normal bytes t → ⊥
  pub from_one : 1 ≤ line
  pub before : (k : ℕ) → 1 ≤ k → k < line → GoesOn normal bytes k
  pub here : GoesOn normal bytes line → ⊥

-- the text spells the table, which is lawful
pub record IsLoaded (normal : NormalForm) (bytes : List ℕ) (t : Table) : Type 0 where
  pub spells : Spells normal bytes t
  pub lawful : IsLawfulTable normal t.states t.numbers

-- kinds of faults
abbrev pub form_fault : ℕ
form_fault = 1

abbrev pub states_fault : ℕ
states_fault = 2

abbrev pub number_fault : ℕ
number_fault = 3

-- what is wrong with a table of so many states, at its line: the first line is followed by those of the states, and these by those of the numbers
abbrev pub placed : ℕ → TableFault → LoadFault
placed states (State k) = record { kind = states_fault; line = k + 2 }
placed states (Number p) = record { kind = number_fault; line = states + p + 2 }

-- the text spells a table with which this is wrong first
pub record IsSpelledFault (normal : NormalForm) (bytes : List ℕ) (found : LoadFault) : Type 0 where
  pub table : Table
  pub spells : Spells normal bytes table
  pub fault : TableFault
  pub wrong : IsTableFault normal table fault
  pub found_is : found ≡ placed (length table.states) fault

-- The first fault: the text isn't of the form, or it spells a table that isn't lawful.
abbrev pub IsLoadFault : NormalForm → List ℕ → LoadFault → Type 0
IsLoadFault normal bytes found = ((found.kind ≡ form_fault) × IsFormFault normal bytes found.line) ⊎ IsSpelledFault normal bytes found

-- a refusal tells the first fault, or that there was no memory
abbrev pub IsLoadRefusal : NormalForm → List ℕ → LoadRefusal → Type 0
IsLoadRefusal normal bytes (refusal.Fault found) = IsLoadFault normal bytes found
IsLoadRefusal normal bytes refusal.NoMemory = Unit {0}

-- a refusal of a text that isn't of the form, or that there was no memory
abbrev pub IsFormRefusal : NormalForm → List ℕ → LoadRefusal → Type 0
IsFormRefusal normal bytes (refusal.Fault found) = (found.kind ≡ form_fault) × IsFormFault normal bytes found.line
IsFormRefusal normal bytes refusal.NoMemory = Unit {0}
