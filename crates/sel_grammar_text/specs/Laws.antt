-- Laws of the definitions.
use Rattle.std.specs.Prelude.{◌≡◌, ℕ, List, ◌⊎◌, Some, None}
use Rattle.sel_grammar.specs.Lawful.{IsLawful}
use Rattle.sel_grammar.specs.Complete.{IsComplete}
use Rattle.sel_grammar.specs.declared.grammar.Grammar.{Grammar}
use Rattle.sel_grammar.specs.declared.refusal.GrammarFault.{GrammarFault}
use Rattle.sel_grammar_text.specs.Tokens.{Token}
use Rattle.sel_grammar_text.specs.Form.{RuleForm, rule_tokens, IsText, GoesOn}
use Rattle.sel_grammar_text.specs.Items.{Item}
use Rattle.sel_grammar_text.specs.Spots.{Spot, tokens}
use Rattle.sel_grammar_text.specs.Names.{rules}
use Rattle.sel_grammar_text.specs.SaidForms.{SayRules, AreRule}
use Rattle.sel_grammar_text.specs.Machine.{run, begin}
use Rattle.sel_grammar_text.specs.GrammarText.{IsWhole, items_of, SpellsGrammar, IsGrammarFault}
use Rattle.sel_grammar_text.specs.declared.form.State.{State}
use Rattle.sel_grammar_text.specs.declared.form.State.TheVariants.{Ended}

-- a text spells at most one grammar
abbrev pub GrammarIsOne : Type 0
GrammarIsOne = (bytes : List ℕ) (g h : Grammar) → SpellsGrammar bytes g → SpellsGrammar bytes h → g ≡ h

-- a text has at most one first fault
abbrev pub GrammarFaultIsOne : Type 0
GrammarFaultIsOne = (bytes : List ℕ) (e f : GrammarFault) → IsGrammarFault bytes e → IsGrammarFault bytes f → e ≡ f

-- no text both spells a grammar and has a fault
abbrev pub NotGrammarAndFault : Type 0
NotGrammarAndFault = (bytes : List ℕ) (g : Grammar) (f : GrammarFault) → SpellsGrammar bytes g → IsGrammarFault bytes f → ⊥

-- each text spells some grammar or has some fault
abbrev pub SomeGrammarOrFault : Type 0
SomeGrammarOrFault = (bytes : List ℕ) → ((g : Grammar) × SpellsGrammar bytes g) ⊎ ((f : GrammarFault) × IsGrammarFault bytes f)

-- each grammar that a text spells keeps its limits, and so do its rules
abbrev pub SpelledIsLawful : Type 0
SpelledIsLawful = (bytes : List ℕ) (g : Grammar) → SpellsGrammar bytes g → IsLawful g

-- each grammar that a text spells has rules for its nonterminals, and lawful templates
abbrev pub SpelledIsComplete : Type 0
SpelledIsComplete = (bytes : List ℕ) (g : Grammar) → SpellsGrammar bytes g → IsComplete g

-- the tokens of a rule's form are cut into a rule that says the form
abbrev pub RuleIsCut : Type 0
RuleIsCut = (items : List Item) (form : RuleForm) (spots : List Spot) → tokens spots ≡ rule_tokens form → AreRule items form spots

-- the rules of a whole text say the forms of its rules
abbrev pub RulesSayForms : Type 0
RulesSayForms = (bytes : List ℕ) (n : ℕ) (text : IsWhole bytes n) → SayRules text.whole.rules (rules (items_of n bytes))

-- where there is a state behind the tokens, some text goes on with them
abbrev pub StateGoesOn : Type 0
StateGoesOn = (ts : List Token) (s : State) → run ts begin ≡ Some s → GoesOn ts

-- where there is none, no text does
abbrev pub NoStateStops : Type 0
NoStateStops = (ts : List Token) → run ts begin ≡ None → GoesOn ts → ⊥

-- the state behind a whole text is its end, and nothing else is
abbrev pub EndIsText : Type 0
EndIsText = (ts : List Token) → run ts begin ≡ Some Ended → IsText ts

abbrev pub TextIsEnd : Type 0
TextIsEnd = (ts : List Token) → IsText ts → run ts begin ≡ Some Ended
