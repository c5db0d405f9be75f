-- How far the items of a text reach.
use Rattle.std.specs.Prelude.{◌≡◌, ℕ, suc, ◌⊎◌, true, List, [], ◌∷◌, ◌++◌, length, Some}
use Rattle.sel_grammar_text.specs.Spots.{first, after, tokens, first_spots, here}
use Rattle.sel_grammar_text.specs.Cutting.{ends, item_of, cutting}
use Rattle.std.specs.List.{AllByRecursion}
use Rattle.sel_grammar_text.specs.ItemNumbers.{HasExternal}
use Rattle.sel_grammar_text.specs.Items.{Item}
use Rattle.sel_grammar_text.specs.Names.{rules}
use Rattle.sel_grammar_text.specs.Tables.{StandsRight}
use Rattle.sel_grammar_text.specs.FormFaults.{HasFormFault}
use Rattle.sel_grammar_text.specs.GrammarText.{IsSoundUpTo}
use Rattle.sel_grammar_text.specs.Machine.{begin, run, step, is_declaring}
use Rattle.sel_grammar_text.specs.declared.fault.Fault.{Fault}
use Rattle.sel_grammar_text.specs.declared.form.State.{State}
use Rattle.sel_grammar_text.specs.declared.form.State.TheVariants.{Ended}
use Rattle.sel_grammar_text.specs.declared.scan.Extent.{Extent}

-- n tokens of the text are whole items without a fault, the state behind them is s, and this is left of the text
pub record StandsAtItem (bytes : List ℕ) (n : ℕ) (s : State) (left : List ℕ) : Type 0 where
  pub reached : run (tokens (first_spots n bytes)) begin ≡ Some s
  pub sound : IsSoundUpTo bytes n
  pub nothing_left : (cutting n bytes).left ≡ []
  pub left_is : left ≡ after n bytes

-- Behind n tokens, where this is left of the text, an item or the text ends with token `last`, which has no fault of form.
pub record HasExtent (bytes : List ℕ) (n : ℕ) (left : List ℕ) (e : Extent) : Type 0 where
  pub last : ℕ
  pub state : State
  pub reached : run (tokens (first_spots last bytes)) begin ≡ Some state
  pub stepped : step state (here last bytes).token ≡ Some e.state
  pub sound : IsSoundUpTo bytes last
  pub well_formed : (f : Fault) → HasFormFault bytes last f → ⊥
  pub items : (cutting last bytes).items ≡ (cutting n bytes).items
  pub spots : (cutting last bytes).left ++ (here last bytes ∷ []) ≡ first (length bytes) e.count left
  pub ends : (ends (cutting last bytes).left (here last bytes).token ≡ true) ⊎ ((item_of ((cutting last bytes).left ++ (here last bytes ∷ [])) ≡ []) × (e.state ≡ Ended))
  pub number : AllByRecursion HasExternal (item_of ((cutting last bytes).left ++ (here last bytes ∷ [])))
  pub no_rule : is_declaring e.state ≡ true → rules (item_of ((cutting last bytes).left ++ (here last bytes ∷ []))) ≡ []
  pub order : (before : List Item) → (is_declaring e.state ≡ true → rules before ≡ []) → AllByRecursion (StandsRight before) (item_of ((cutting last bytes).left ++ (here last bytes ∷ [])))
  pub declared : (s : State) → run (tokens (first_spots n bytes)) begin ≡ Some s → is_declaring e.state ≡ true → is_declaring s ≡ true
  pub place : e.last ≡ (here last bytes).at
  pub behind : e.behind.now ≡ after (suc last) bytes
