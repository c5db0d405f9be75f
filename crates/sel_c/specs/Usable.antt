-- What a table keeps between calls, and what no call but those that say so changes.
use Rattle.std.specs.Prelude.{◌≡◌, ℕ, ◌≤◌, Option, IfSome, option_map}
use Rattle.sel_grammar.specs.declared.grammar.Grammar.{Grammar}
use Rattle.sel_normal.specs.NormalForms.{NormalForm}
use Rattle.sel_items.specs.Laws.{IsAcceptedForm}
use Rattle.sel_auto.specs.declared.parked.ParkedAutomaton.{ParkedAutomaton}
use Rattle.sel_auto.specs.Tables.{most_numbers, most_rows}
use Rattle.sel_auto.specs.Parked.{IsParkedOver}
use Rattle.sel_c.specs.declared.accepted.Accepted.{Accepted}

-- an automaton that was parked over this normal form, and may keep so many states and transitions
pub record IsKeptOver (normal : NormalForm) (states rows : ℕ) (parked : ParkedAutomaton) : Type 0 where
  pub over : IsParkedOver normal parked
  pub states_are : parked.most_states ≡ states
  pub rows_are : parked.most_keys ≡ rows

-- The grammar is lawful and accepted, the normal form is its own, and the automaton, where there is one, is one over it, of the size that was asked for.
pub record IsUsable (a : Accepted) : Type 0 where
  pub form : IsAcceptedForm a.grammar a.normal
  pub few_states : a.states ≤ most_numbers
  pub few_rows : a.rows ≤ most_rows
  pub kept : IfSome a.parked (IsKeptOver a.normal a.states a.rows)

-- what only `sel_open`, `sel_close` and `sel_room` change
abbrev pub settled : Accepted → Grammar × (NormalForm × (ℕ × ℕ))
settled a = (a.grammar, (a.normal, (a.states, a.rows)))

-- Both hold the same selector, or none: what it has learned may differ, which changes no answer.
abbrev pub IsSameSelector : Option Accepted → Option Accepted → Type 0
IsSameSelector old new = option_map settled new ≡ option_map settled old
