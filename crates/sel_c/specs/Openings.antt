-- What a call tells that takes up a grammar.
use Rattle.std.specs.Prelude.{◌≡◌, ℕ, ◌<◌, ◌⊎◌, ◌==◌, if◌then◌else◌, List, [], ◌∷◌, length, Option, Some, None, unwrap_or}
use Rattle.sel_base.specs.Ascii.{at_sign}
use Rattle.sel_targets.specs.TargetText.{target_text}
use Rattle.sel_grammar.specs.declared.grammar.Grammar.{Grammar}
use Rattle.sel_grammar.specs.declared.refusal.GrammarFault.{GrammarFault}
use Rattle.sel_grammar.specs.declared.refusal.GrammarRefusal.{GrammarRefusal}
use Rattle.sel_grammar.specs.declared.refusal.GrammarRefusal.TheVariants as refusal
use Rattle.sel_grammar_text.specs.GrammarText.{SpellsGrammar, IsGrammarFault}
use Rattle.sel_normal.specs.NormalFaults.{IsNormalFault}
use Rattle.sel_c.specs.declared.told.Told.{Told}
use Rattle.sel_c.specs.declared.accepted.Accepted.{Accepted}
use Rattle.sel_c.specs.declared.opening.Unopened.{Unopened}
use Rattle.sel_c.specs.declared.opening.Unopened.TheVariants.{Fault, TooBig, NoMemory}
use Rattle.sel_c.specs.Codes as codes
use Rattle.sel_c.specs.Codes.{told_code, told_fault}

-- the shipped grammar's text whose name stands behind `@`, and none where the text doesn't begin so
abbrev pub shipped_text : List ℕ → Option (List ℕ)
shipped_text [] = None
shipped_text (first ∷ rest) = if first == at_sign then target_text rest else None

-- the text that is taken up: the one that is shipped under this name, and else the text itself
abbrev pub text_taken : List ℕ → List ℕ
text_taken text = unwrap_or (shipped_text text) text

-- the greatest length of a grammar's text, in bytes
abbrev pub grammar_limit : ℕ
grammar_limit = 16777216

-- the text has this first fault, or spells a grammar whose normal form has it
abbrev pub IsRefusedGrammar : List ℕ → GrammarFault → Type 0
IsRefusedGrammar text fault = IsGrammarFault text fault ⊎ ((grammar : Grammar) × SpellsGrammar text grammar × IsNormalFault grammar fault)

-- Why no grammar is taken up: the text's first fault, or that it is too long, or there is no memory.
abbrev pub IsUnopened : List ℕ → Unopened → Type 0
IsUnopened text (Fault fault) = IsRefusedGrammar text fault
IsUnopened text TooBig = grammar_limit < length text
IsUnopened text NoMemory = Unit {0}

-- the refusal of a grammar, as such a cause
abbrev pub unopened_by : GrammarRefusal → Unopened
unopened_by (refusal.Fault fault) = Fault fault
unopened_by refusal.NoMemory = NoMemory

-- how it is told
abbrev pub told_unopened : Unopened → Told
told_unopened (Fault fault) = told_fault codes.bad_grammar fault.kind fault.line fault.column
told_unopened TooBig = told_code codes.too_big
told_unopened NoMemory = told_code codes.no_memory

-- a selector for the grammar that the text spells, which has learned nothing yet
pub record IsNewSelector (text : List ℕ) (a : Accepted) : Type 0 where
  pub spelled : SpellsGrammar text a.grammar
  pub states_are : a.states ≡ 4096
  pub rows_are : a.rows ≡ 65536
  pub fresh : a.parked ≡ None

-- what is told of an opening where the handle holds none, and what it holds then
pub data OpensClosed (text : List ℕ) (new : Option Accepted) (told : Told) : Type 0 where
  opened : (a : Accepted) → new ≡ Some a → IsNewSelector text a → told ≡ told_code codes.done → OpensClosed text new told
  refused : (why : Unopened) → IsUnopened text why → new ≡ None → told ≡ told_unopened why → OpensClosed text new told

-- What is told of an opening by the text, or by a shipped grammar's name, where `old` and `new` are what the handle holds.
abbrev pub TellsOfOpening : List ℕ → Option Accepted → Option Accepted → Told → Type 0
TellsOfOpening text None new told = OpensClosed (text_taken text) new told
TellsOfOpening text (Some a) new told = (new ≡ Some a) × (told ≡ told_code codes.is_open)
