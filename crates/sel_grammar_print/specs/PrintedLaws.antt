-- A law of printed grammars.
use Rattle.std.specs.Prelude.{ℕ, List}
use Rattle.sel_grammar.specs.declared.grammar.Grammar.{Grammar}
use Rattle.sel_grammar_text.specs.GrammarText.{SpellsGrammar}
use Rattle.sel_grammar_print.specs.PrintedGrammar.{printed, SpellsAgain}

-- what is printed of a grammar that a text spells is a text of the same grammar, but for the places of rules
abbrev pub PrintedIsRead : Type 0
PrintedIsRead = (source : List ℕ) (g : Grammar) → SpellsGrammar source g → SpellsAgain (printed g) g
