-- What a reader knows of a text.
use Rattle.std.specs.Prelude.{◌≡◌, ℕ, suc, ◌-◌, true, List, [], length, take, Some}
use Rattle.sel_grammar_text.specs.Spots.{after, tokens, first_spots, here}
use Rattle.sel_grammar_text.specs.Names.{rules}
use Rattle.sel_grammar_text.specs.Cutting.{cutting}
use Rattle.sel_grammar_text.specs.GrammarText.{HasFault, HasFirstFault, IsSoundUpTo, items_of}
use Rattle.sel_grammar_text.specs.Machine.{begin, run, step, is_border, is_declaring}
use Rattle.sel_grammar_text.specs.Extents.{StandsAtItem}
use Rattle.sel_grammar_text.specs.Places.{IsPlaceBehind}
use Rattle.sel_grammar_text.specs.Tables.{Means}
use Rattle.sel_grammar_text.specs.declared.fault.Fault.{Fault}
use Rattle.sel_grammar_text.specs.declared.form.State.{State}
use Rattle.sel_grammar_text.specs.declared.form.State.TheVariants.{Ended}
use Rattle.sel_grammar_text.specs.declared.read.Position.{Position}
use Rattle.sel_grammar_text.specs.declared.read.Stop.{Stop}
use Rattle.sel_grammar_text.specs.declared.read.Stop.TheVariants as stop
use Rattle.sel_grammar_text.specs.declared.scan.Extent.{Extent}
use Rattle.sel_grammar_text.specs.declared.tables.Tables.{Tables}

-- The position is behind whole items without a fault, which the tables hold, and its place is right.
pub record IsReading (bytes : List ℕ) (t : Tables) (p : Position) : Type 0 where
  pub n : ℕ
  pub stands : StandsAtItem bytes n p.state p.left.now
  pub border : is_border p.state ≡ true
  pub open_still : p.state ≡ Ended → ⊥
  pub means : Means bytes (cutting n bytes).items t
  pub no_rules : is_declaring p.state ≡ true → rules (cutting n bytes).items ≡ []
  pub place : IsPlaceBehind (take (length bytes - length p.left.now) bytes) p.place

-- The extent's tokens have no fault, and the tables hold its item too.
pub record IsTaken (bytes : List ℕ) (t : Tables) (e : Extent) : Type 0 where
  pub last : ℕ
  pub state : State
  pub reached : run (tokens (first_spots last bytes)) begin ≡ Some state
  pub stepped : step state (here last bytes).token ≡ Some e.state
  pub sound : IsSoundUpTo bytes last
  pub faultless : (f : Fault) → HasFault bytes last f → ⊥
  pub means : Means bytes (items_of last bytes) t
  pub nothing_left : (e.state ≡ Ended → ⊥) → (cutting (suc last) bytes).left ≡ []
  pub no_rules : is_declaring e.state ≡ true → rules (items_of last bytes) ≡ []
  pub place : e.last ≡ (here last bytes).at
  pub behind : e.behind.now ≡ after (suc last) bytes

-- a fault is the text's first one, and want of memory comes freely
abbrev pub StopsFor : List ℕ → Stop → Type 0
StopsFor bytes (stop.Fault f) = HasFirstFault bytes f
StopsFor bytes stop.NoMemory = Unit {0}
