-- The text of a pattern of named operators and nonterminals.
use Rattle.std.proofs.Common.{◌≡◌, ℕ, List, [], ◌∷◌, ◌++◌, true}
use Rattle.sel_grammar.specs.Names.{is_letter, is_name_byte}
use Rattle.sel_grammar_text.specs.Form.{Patterns, no_patterns, pattern, Side, below, beside}
use Rattle.sel_grammar_text.proofs.Printed.{Each}

abbrev pub IsName : List ℕ → Type 0
IsName [] = ⊥
IsName (b ∷ bytes) = (is_letter b ≡ true) × Each is_name_byte bytes

-- The text of patterns.
abbrev pub patterns_text : Side → Patterns → List ℕ
patterns_text below no_patterns = []
patterns_text below (pattern n kids more) = 40 ∷ (n ++ (patterns_text below kids ++ (patterns_text beside more ++ (41 ∷ []))))
patterns_text beside no_patterns = []
patterns_text beside (pattern n kids more) = 44 ∷ (n ++ (patterns_text below kids ++ patterns_text beside more))

-- each name of the patterns is a name
abbrev pub HaveNames : Patterns → Type 0
HaveNames no_patterns = Unit {0}
HaveNames (pattern n kids more) = IsName n × (HaveNames kids × HaveNames more)
