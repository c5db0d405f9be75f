-- Faults, each with its kind and its place from 0.
use Rattle.std.specs.Prelude.{ℕ, Bool, true, false, Option, Some, None}
use Rattle.sel_grammar_text.specs.declared.fault.Fault.{Fault}

abbrev pub fault : ℕ → ℕ → Fault
fault kind at = record { kind = kind; at = at }

abbrev pub fault_if : Bool → Fault → Option Fault
fault_if true f = Some f
fault_if false f = None

-- a fault at the place, where there is one
abbrev pub fault_at : ℕ → Option ℕ → Option Fault
fault_at kind None = None
fault_at kind (Some at) = Some (fault kind at)

-- the first of two faults
abbrev pub or_fault : Option Fault → Option Fault → Option Fault
or_fault (Some f) other = Some f
or_fault None other = other
