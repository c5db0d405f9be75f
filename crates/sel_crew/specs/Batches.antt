-- What a batch does to what lasts at the places.
use Rattle.std.specs.Prelude.{◌≡◌, ◌+◌, ◌-◌, ◌^◌, true, ℕ, List, ◌++◌, length, min}
use Rattle.sel_grammar.specs.declared.grammar.Grammar.{Grammar}
use Rattle.sel_forest.specs.declared.forest.Tree.{Tree}
use Rattle.sel_law.specs.Words.{In}
use Rattle.sel_rows.specs.declared.part.PassPart.{PassPart}
use Rattle.sel_rows.specs.declared.rows.Rows.{Rows}
use Rattle.sel_rows.specs.Parts.{part_used_up, part_row_full}
use Rattle.sel_closing.specs.Asking.{PartsAskOnly, PartsKeep, PartsTellMore}
use Rattle.sel_closing.specs.Untabled.{CountsUntabled}
use Rattle.sel_crew.specs.Crews.{Lasting, AreManned, parts_in, plain_in}

-- one of the parts is used up
abbrev pub AnyUsedUp : List PassPart → Type 0
AnyUsedUp parts = (p : PassPart) × In p parts × (part_used_up p ≡ true)

-- for one of them a walk found no place
abbrev pub AnyRowFull : List PassPart → Type 0
AnyRowFull parts = (p : PassPart) × In p parts × (part_row_full p ≡ true)

-- Each place is manned still, nothing is lost, and only keys of the trees were asked besides.
pub record IsAfterBatch (rows : Rows) (g : Grammar) (trees : List Tree) (old new : List Lasting) : Type 0 where
  pub manned : AreManned rows new
  pub count : length new ≡ length old
  pub more : PartsTellMore (parts_in old) (parts_in new)
  pub asks : (given : List Tree) → PartsAskOnly g given (parts_in old) → PartsAskOnly g (given ++ trees) (parts_in new)

-- where the numbers aren't used up, the count rises by the nodes of the trees that aren't tabled
abbrev pub CountsBatch : Grammar → List Tree → List Lasting → List Lasting → Type 0
CountsBatch g trees old new = (AnyUsedUp (parts_in new) → ⊥) → (m : ℕ) × CountsUntabled g trees m × (plain_in new ≡ min (plain_in old + m) (2 ^ 64 - 1))

-- And each of the trees is kept and counted.
pub record IsWholeBatch (g : Grammar) (trees : List Tree) (old new : List Lasting) : Type 0 where
  pub kept : PartsKeep g trees (parts_in new)
  pub counted : CountsBatch g trees old new
