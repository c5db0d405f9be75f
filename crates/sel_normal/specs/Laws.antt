-- Laws of the definitions.
use Rattle.std.specs.Prelude.{◌≡◌, ℕ, ◌<◌, ◌⊎◌, length}
use Rattle.sel_grammar.specs.declared.grammar.Grammar.{Grammar}
use Rattle.sel_grammar.specs.declared.refusal.GrammarFault.{GrammarFault}
use Rattle.sel_grammar.specs.PlainTrees.{PlainTree}
use Rattle.sel_grammar.specs.Derivations.{Derivation, Derives}
use Rattle.sel_grammar.specs.Lawful.{IsLawful}
use Rattle.sel_normal.specs.NormalForms.{NormalForm}
use Rattle.sel_normal.specs.Forms.{IsFormOf}
use Rattle.sel_normal.specs.NormalFaults.{IsNormalFault, IsAccepted}
use Rattle.sel_normal.specs.Seen.{seen}
use Rattle.sel_normal.specs.Matches.{HasNormalMatch, HasUserMatch}
use Rattle.sel_normal.specs.Standing.{IsStanding}

-- A grammar's normal form has at most one fault.
abbrev pub NormalFaultIsOne : Type 0
NormalFaultIsOne = (g : Grammar) (e f : GrammarFault) → IsNormalFault g e → IsNormalFault g f → e ≡ f

-- No grammar's normal form is both accepted and at fault.
abbrev pub NotAcceptedAndFault : Type 0
NotAcceptedAndFault = (g : Grammar) (f : GrammarFault) → IsAccepted g → IsNormalFault g f → ⊥

-- Each lawful grammar's normal form is accepted or has some fault.
abbrev pub AcceptedOrFault : Type 0
AcceptedOrFault = (g : Grammar) → IsLawful g → IsAccepted g ⊎ ((f : GrammarFault) × IsNormalFault g f)

-- To each derivation of a tree from a nonterminal there is exactly one in the normal form.
abbrev pub EachHasNormalMatch : Type 0
EachHasNormalMatch = (g : Grammar) (normal : NormalForm) (n : ℕ) (t : PlainTree) (d : Derivation) → IsLawful g → IsFormOf g normal → Derives g d n t → HasNormalMatch g normal n t d

-- To each derivation in the normal form from a user nonterminal there is exactly one under the grammar.
abbrev pub EachHasUserMatch : Type 0
EachHasUserMatch = (g : Grammar) (normal : NormalForm) (n : ℕ) (t : PlainTree) (e : Derivation) → IsLawful g → IsFormOf g normal → n < length g.nonterminals → Derives (seen normal) e n t → HasUserMatch g normal n t e

-- The normal form of an accepted grammar stands.
abbrev pub LawfulFormsStand : Type 0
LawfulFormsStand = (g : Grammar) (normal : NormalForm) → IsLawful g → IsAccepted g → IsFormOf g normal → IsStanding normal
