-- Tables that have the form: all that the text of a table under a normal form has room for.
use Rattle.std.specs.Prelude.{ℕ, ◌≡◌, ◌<◌, ◌≤◌, ◌^◌, Option, Some, None, All, length}
use Rattle.sel_normal.specs.NormalForms.{NormalForm}
use Rattle.sel_items.specs.declared.items.Item.{Item}
use Rattle.sel_items.specs.declared.items.Items.{Items}
use Rattle.sel_full.specs.declared.table.Table.{Table}
use Rattle.sel_full.specs.Builds.{IsDear, most_states, most_keys}
use Rattle.sel_full.specs.Tables.{all_keys}

-- a cost that isn't dear, with the number of one of so many rules, from 1
pub record IsFormItem (rules : ℕ) (item : Item) : Type 0 where
  pub cheap : IsDear item.cost → ⊥
  pub some : 1 ≤ item.rule
  pub rule : item.rule ≤ rules

-- nothing, or one
abbrev pub IsFormEntry : ℕ → Option Item → Type 0
IsFormEntry rules None = Unit {0}
IsFormEntry rules (Some item) = IsFormItem rules item

-- an entry for each normal nonterminal
pub record IsFormState (normal : NormalForm) (i : Items) : Type 0 where
  pub long : length i.entries ≡ normal.nonterminals
  pub entries : All (IsFormEntry (length normal.rules)) i.entries

-- Some states, and a number of 16 bits for each key over them, no more of both than any table may have.
pub record HasForm (normal : NormalForm) (t : Table) : Type 0 where
  pub some : 1 ≤ length t.states
  pub few : length t.states ≤ most_states
  pub states : All (IsFormState normal) t.states
  pub as_many : length t.numbers ≡ length (all_keys normal t.states)
  pub few_keys : length t.numbers ≤ most_keys
  pub numbers : All (λ n. n < 2 ^ 16) t.numbers
