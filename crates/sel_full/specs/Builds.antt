-- What a build answers.
use Rattle.std.specs.Prelude.{◌≡◌, ℕ, ◌<◌, ◌≤◌, ◌⊎◌, pos, neg_ℤ, ◌<ℤ◌, Option, Some, None, List, length}
use Rattle.sel_grammar.specs.declared.grammar.Grammar.{Grammar}
use Rattle.sel_grammar.specs.Costs.{Cost}
use Rattle.sel_normal.specs.NormalForms.{NormalForm}
use Rattle.sel_normal.specs.Standing.{IsStanding}
use Rattle.sel_items.specs.declared.items.Item.{Item}
use Rattle.sel_items.specs.declared.items.Items.{Items}
use Rattle.sel_items.specs.Entries.{item_at}
use Rattle.sel_items.specs.Laws.{IsAcceptedForm}
use Rattle.sel_full.specs.declared.table.Table.{Table}
use Rattle.sel_full.specs.declared.table.Build.{Build}
use Rattle.sel_full.specs.declared.table.Build.TheVariants.{Complete, TooLarge}
use Rattle.sel_full.specs.Finding.{AreNumberedAsFound}
use Rattle.sel_full.specs.Laws.{AreExactlyReach}
use Rattle.sel_full.specs.Reach.{IsReached, IsOneOf}
use Rattle.sel_full.specs.Tables.{IsLawfulTable, AllDiffer, all_keys}

abbrev pub most_states : ℕ
most_states = 32768

abbrev pub most_keys : ℕ
most_keys = 1048576

-- the greatest amount of a number of a cost in a table
abbrev pub most_cost : ℕ
most_cost = 999999999999

-- a number of the cost is beyond the greatest in amount
abbrev pub IsDear : Cost → Type 0
IsDear c = (most_cost < c.first) ⊎ ((pos most_cost <ℤ c.second) ⊎ (c.second <ℤ neg_ℤ (pos most_cost)))

abbrev pub IsDearEntry : Option Item → Type 0
IsDearEntry None = ⊥
IsDearEntry (Some item) = IsDear item.cost

abbrev pub HasDearEntry : Items → Type 0
HasDearEntry i = (n : ℕ) × IsDearEntry (item_at i.entries n)

-- item sets that are reached, no two the same
pub record AreReached (g : Grammar) (normal : NormalForm) (xs : List Items) : Type 0 where
  pub reached : (i : Items) → IsOneOf xs i → IsReached g normal i
  pub differ : AllDiffer xs

-- More item sets are reached than states are allowed, or the keys over some of them are more than allowed, or one that is reached has a dear entry.
pub data IsTooLarge (g : Grammar) (normal : NormalForm) (states rows : ℕ) : Type 0 where
  States : (xs : List Items) → AreReached g normal xs → states < length xs → IsTooLarge g normal states rows
  Rows : (xs : List Items) → AreReached g normal xs → rows < length (all_keys normal xs) → IsTooLarge g normal states rows
  Dear : (i : Items) → IsReached g normal i → HasDearEntry i → IsTooLarge g normal states rows

-- as many states and keys as allowed, and no dear entry
pub record IsAllowed (normal : NormalForm) (states rows : ℕ) (xs : List Items) : Type 0 where
  pub few_states : length xs ≤ states
  pub few_keys : length (all_keys normal xs) ≤ rows
  pub cheap : (i : Items) → IsOneOf xs i → HasDearEntry i → ⊥

-- The table is lawful, its states are exactly what is reached, numbered as they are found, and it is within what is allowed.
pub record IsCompleteTable (normal : NormalForm) (states rows : ℕ) (t : Table) : Type 0 where
  pub lawful : IsLawfulTable normal t.states t.numbers
  pub reach : (g : Grammar) → IsAcceptedForm g normal → AreExactlyReach g normal t.states
  pub found : AreNumberedAsFound normal t.states
  pub within : IsAllowed normal states rows t.states

-- what a build answers
abbrev pub IsBuild : NormalForm → ℕ → ℕ → Build → Type 0
IsBuild normal states rows (Complete t) = IsCompleteTable normal states rows t
IsBuild normal states rows TooLarge = (g : Grammar) → IsAcceptedForm g normal → IsTooLarge g normal states rows

-- No table is complete where its grammar is too large: so each of both answers comes exactly where it is said.
abbrev pub CompleteIsNotTooLarge : Type 0
CompleteIsNotTooLarge = (g : Grammar) (normal : NormalForm) (states rows : ℕ) (t : Table) → IsAcceptedForm g normal → IsCompleteTable normal states rows t → IsTooLarge g normal states rows → ⊥

-- A grammar has one complete table, whatever is allowed.
abbrev pub CompleteIsOne : Type 0
CompleteIsOne = (g : Grammar) (normal : NormalForm) (states rows states' rows' : ℕ) (t u : Table) → IsAcceptedForm g normal → IsStanding normal → IsCompleteTable normal states rows t → IsCompleteTable normal states' rows' u → t ≡ u
