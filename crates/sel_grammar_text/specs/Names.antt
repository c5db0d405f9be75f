-- The names that items declare and use.
use Rattle.std.specs.Prelude.{ℕ, ◌==◌, ◌&&◌, Bool, not, List, [], ◌∷◌, ◌++◌, Option, Some, None, if◌then◌else◌, bytes_eq}
use Rattle.std.specs.List.{flat_map, list_any, position_or_len}
use Rattle.sel_grammar_text.specs.Items.{Word, RuleText, Item, EntryItem, RuleItem}

-- the name stands in the list
abbrev pub is_among : List (List ℕ) → List ℕ → Bool
is_among names name = list_any (λ other. bytes_eq other name) names

-- a name's number is its place in the list
abbrev pub number_of : List (List ℕ) → List ℕ → ℕ
number_of names name = position_or_len (λ other. bytes_eq other name) names

-- the operators that the items declare
abbrev pub operators : List Item → List (List ℕ)
operators [] = []
operators (EntryItem name number ∷ items) = name.bytes ∷ operators items
operators (_ ∷ items) = operators items

-- the rules among the items
abbrev pub rules : List Item → List RuleText
rules [] = []
rules (RuleItem r ∷ items) = r ∷ rules items
rules (_ ∷ items) = rules items

-- the names of a pattern that are nonterminals without kids
abbrev pub leaves : List (List ℕ) → List (Word × ℕ) → List Word
leaves ops [] = []
leaves ops (n ∷ names) = if (n.1 == 0) && not (is_among ops n.0.bytes) then n.0 ∷ leaves ops names else leaves ops names

-- what a rule names as nonterminals: its left name, and the leaves of its pattern
abbrev pub nonterminal_words : List (List ℕ) → RuleText → List Word
nonterminal_words ops r = r.left ∷ leaves ops r.pattern

-- the names, and behind them what is new among the words, in the order in which it comes first
abbrev pub with_words : List (List ℕ) → List Word → List (List ℕ)
with_words names [] = names
with_words names (w ∷ words) = with_words (if is_among names w.bytes then names else names ++ (w.bytes ∷ [])) words

-- the nonterminals in the order in which the rules first name them
abbrev pub nonterminals : List Item → List (List ℕ)
nonterminals items = with_words [] (flat_map (nonterminal_words (operators items)) (rules items))

-- the names of all patterns, in order
abbrev pub uses : List RuleText → List (Word × ℕ)
uses rs = flat_map (λ r. r.pattern) rs

-- how many kids a name has where it first stands
abbrev pub first_use : List (Word × ℕ) → List ℕ → Option ℕ
first_use [] name = None
first_use (u ∷ us) name = if bytes_eq u.0.bytes name then Some u.1 else first_use us name
