-- Laws of the names and the templates in a grammar that a text spells.
use Rattle.std.specs.Prelude.{◌≡◌, ℕ, List, Some, slice_get}
use Rattle.std.specs.List.{AllByRecursion}
use Rattle.sel_grammar.specs.declared.grammar.Grammar.{Grammar}
use Rattle.sel_grammar.specs.declared.grammar.Operator.{Operator}
use Rattle.sel_grammar.specs.declared.grammar.Rule.{Rule}
use Rattle.sel_grammar.specs.Lawful.{HasNames}
use Rattle.sel_grammar.specs.Names.{IsName}
use Rattle.sel_grammar_text.specs.GrammarText.{SpellsGrammar}
use Rattle.sel_grammar_text.specs.Printing.{AreParts}

-- each nonterminal has a name, no two have the same, and none has that of an operator
pub record HasNonterminalNames (g : Grammar) : Type 0 where
  pub named : (k : ℕ) (name : List ℕ) → slice_get g.nonterminals k ≡ Some name → IsName name
  pub differ : (j k : ℕ) (name : List ℕ) → slice_get g.nonterminals j ≡ Some name → slice_get g.nonterminals k ≡ Some name → j ≡ k
  pub apart : (j k : ℕ) (operator : Operator) → slice_get g.nonterminals j ≡ Some operator.name → slice_get g.operators k ≡ Some operator → ⊥

-- the operators of each grammar that a text spells have names, and no two have the same
abbrev pub SpelledHasNames : Type 0
SpelledHasNames = (bytes : List ℕ) (g : Grammar) → SpellsGrammar bytes g → HasNames g

-- the nonterminals of each grammar that a text spells have names, no two have the same, and none has that of an operator
abbrev pub SpelledHasNonterminalNames : Type 0
SpelledHasNonterminalNames = (bytes : List ℕ) (g : Grammar) → SpellsGrammar bytes g → HasNonterminalNames g

-- the templates of a grammar that a text spells have no empty text and no two texts side by side, and name kids by one digit
abbrev pub TemplatesAreParts : Type 0
TemplatesAreParts = (source : List ℕ) (g : Grammar) → SpellsGrammar source g → AllByRecursion (λ (rule : Rule). AreParts rule.template.parts) g.rules
