-- How the state behind the tokens so far, and plain tests, decide which fault of form the next token has.
use Rattle.std.specs.Prelude.{ℕ, ◌+◌, ◌==◌, ◌&&◌, Bool, true, false, List, [], length, Option, Some, None, if◌then◌else◌}
use Rattle.sel_grammar.specs.Limits as limits
use Rattle.sel_grammar.specs.Limits.{most_names}
use Rattle.sel_grammar_text.specs.Tokens.{Token, Name, Quoted, Unclosed, Code, OpenCode, Open}
use Rattle.sel_grammar_text.specs.CostText.{wrong_cost}
use Rattle.sel_grammar_text.specs.Spots.{Spot}
use Rattle.sel_grammar_text.specs.Faults.{fault, fault_if, fault_at, or_fault}
use Rattle.sel_grammar_text.specs.FormFaults.{bad_byte, is_cost_list}
use Rattle.sel_grammar_text.specs.Machine.{step}
use Rattle.sel_grammar_text.specs.declared.form.State.{State}
use Rattle.sel_grammar_text.specs.declared.fault.Fault.{Fault}

-- What is wrong with a token with which some text goes on: so many names stand in its pattern, an Integer stands before
-- it or none, and `more` is the text behind it.
abbrev pub accepted_fault : ℕ → Bool → ℕ → List ℕ → Token → Option Fault
accepted_fault names integer at more (Name n) = fault_if (names == most_names) (fault limits.too_many at)
accepted_fault names integer at more (Quoted inside behind) =
    or_fault (fault_at limits.template_form (bad_byte (at + 1) inside)) (fault_at limits.cost_form (wrong_cost (at + length inside + 2) behind))
accepted_fault names integer at more Open = fault_if (integer && is_cost_list more) (fault limits.cost_form at)
accepted_fault names integer at more _ = None

-- a stray token, or what else is wrong
abbrev pub judged : Option State → ℕ → Option Fault → Option Fault
judged None at other = Some (fault limits.token at)
judged (Some u) at other = other

-- where an open C text is told: at the text's end where C text may stand, else at itself
abbrev pub open_code_place : Option State → ℕ → ℕ → ℕ
open_code_place None all at = at
open_code_place (Some u) all at = all

abbrev pub is_open_code : Token → Bool
is_open_code OpenCode = true
is_open_code _ = false

-- where a stray token is told
abbrev pub stray_place : ℕ → Option State → Spot → ℕ
stray_place all code s = if is_open_code s.token then open_code_place code all s.at else s.at

-- an open String where one may stand, else a stray token
abbrev pub open_string_fault : Option State → ℕ → Fault
open_string_fault None at = fault limits.token at
open_string_fault (Some u) at = fault limits.template_form at

abbrev pub is_unclosed : Token → Bool
is_unclosed Unclosed = true
is_unclosed _ = false

-- the token's fault of form
unfoldable pub decided_fault : ℕ → State → ℕ → Bool → Spot → List ℕ → Option Fault
decided_fault all state names integer s more =
    if is_unclosed s.token then Some (open_string_fault (step state (Quoted [] [])) s.at)
    else judged (step state s.token) (stray_place all (step state (Code 0)) s) (accepted_fault names integer s.at more s.token)
