-- Patterns, from their names in preorder.
use Rattle.std.specs.Prelude.{ℕ, zero, suc, ◌==◌, List, [], ◌∷◌, length, map, if◌then◌else◌}
use Rattle.sel_grammar.specs.declared.grammar.Pattern.{Pattern, Leaf, Nullary, Unary, Binary}
use Rattle.sel_grammar_text.specs.declared.pattern.PatternName.{PatternName}
use Rattle.sel_grammar_text.specs.declared.pattern.PatternName.TheVariants.{Nonterminal, Operator}
use Rattle.sel_grammar_text.specs.Items.{Word}
use Rattle.sel_grammar_text.specs.Names.{is_among, number_of}

-- The pattern that begins with the first name, and the names behind it; n is at least how many names there are.
abbrev pub built_to : ℕ → List PatternName → Pattern × List PatternName
built_to zero names = (Leaf 0, names)
built_to (suc n) [] = (Leaf 0, [])
built_to (suc n) (Nonterminal k ∷ names) = (Leaf k, names)
built_to (suc n) (Operator op kids ∷ names) =
    if kids == 0 then (Nullary op, names)
    else (let one = built_to n names in
    if kids == 1 then (Unary op one.0, one.1)
    else (let two = built_to n one.1 in (Binary op one.0 two.0, two.1)))

-- the pattern that begins with the first name, and the names behind it
abbrev pub built : List PatternName → Pattern × List PatternName
built names = built_to (length names) names

-- the name by its number, an operator with how many kids it has
abbrev pub numbered : List (List ℕ) → List (List ℕ) → Word × ℕ → PatternName
numbered operators nonterminals w =
    if is_among operators w.0.bytes then Operator (number_of operators w.0.bytes) w.1 else Nonterminal (number_of nonterminals w.0.bytes)

-- the pattern that the names are
abbrev pub pattern_of : List (List ℕ) → List (List ℕ) → List (Word × ℕ) → Pattern
pattern_of operators nonterminals names = (built (map (numbered operators nonterminals) names)).0
