-- Where the keys of operators begin.
use Rattle.std.specs.Prelude.{◌≡◌, ℕ, ◌<◌, Option, Some, List, length, slice_get}
use Rattle.std.specs.Option.{option_map}
use Rattle.sel_grammar.specs.Limits.{most_operators}
use Rattle.sel_normal.specs.NormalForms.{NormalForm}
use Rattle.sel_items.specs.declared.items.Items.{Items}
use Rattle.sel_full.specs.Tables.{kids_by, key_start}

-- how many keys come before those of an operator, where some rule uses it
abbrev pub start_at : NormalForm → List Items → ℕ → Option ℕ
start_at normal states op = option_map (λ k. key_start normal states op) (kids_by normal.rules op)

-- the list has that of each operator, and nothing else
pub record AreStarts (normal : NormalForm) (states : List Items) (starts : List (Option ℕ)) : Type 0 where
  pub long : length starts ≡ most_operators
  pub each : (op : ℕ) → op < most_operators → slice_get starts op ≡ Some (start_at normal states op)

-- it has that of each operator below a number, whose own keys begin at a place
pub record AreStartsTo (normal : NormalForm) (states : List Items) (operator : ℕ) (starts : List (Option ℕ)) (at : ℕ) : Type 0 where
  pub long : length starts ≡ most_operators
  pub place : at ≡ key_start normal states operator
  pub each : (op : ℕ) → op < operator → slice_get starts op ≡ Some (start_at normal states op)
