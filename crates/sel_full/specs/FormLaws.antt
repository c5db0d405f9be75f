-- Laws of tables that have the form, and of what is wrong with them.
use Rattle.std.specs.Prelude.{◌≡◌, ℕ, ◌≤◌}
use Rattle.sel_normal.specs.NormalForms.{NormalForm}
use Rattle.sel_full.specs.declared.refusal.TableFault.{TableFault}
use Rattle.sel_full.specs.declared.table.Table.{Table}
use Rattle.sel_full.specs.Builds.{IsCompleteTable, most_states, most_keys}
use Rattle.sel_full.specs.Forms.{HasForm}
use Rattle.sel_full.specs.Judging.{IsTableFault}
use Rattle.sel_full.specs.Tables.{IsLawfulTable}

-- A complete table within the greatest limits has the form.
abbrev pub CompleteHasForm : Type 0
CompleteHasForm = (normal : NormalForm) (states rows : ℕ) (t : Table) → states ≤ most_states → rows ≤ most_keys → IsCompleteTable normal states rows t → HasForm normal t

-- At most one thing is wrong first.
abbrev pub TableFaultIsOne : Type 0
TableFaultIsOne = (normal : NormalForm) (t : Table) (f g : TableFault) → IsTableFault normal t f → IsTableFault normal t g → f ≡ g

-- Nothing is wrong with a lawful table.
abbrev pub LawfulHasNoFault : Type 0
LawfulHasNoFault = (normal : NormalForm) (t : Table) (f : TableFault) → IsLawfulTable normal t.states t.numbers → IsTableFault normal t f → ⊥
