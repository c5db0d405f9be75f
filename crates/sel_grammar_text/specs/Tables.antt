-- What the tables of a reader stand for: the items so far.
use Rattle.std.specs.Prelude.{◌≡◌, ℕ, ◌≤◌, Option, Some, None, List, [], ◌∷◌, ◌++◌, if◌then◌else◌, map, option_map, length, bytes_eq, not, is_some, ◌&&◌}
use Rattle.std.specs.List.{AllByRecursion}
use Rattle.sel_grammar.specs.Limits.{most_operators, most_nonterminals, most_kids}
use Rattle.sel_grammar.specs.declared.grammar.Operator.{Operator}
use Rattle.sel_grammar.specs.declared.grammar.Rule.{Rule}
use Rattle.sel_grammar_text.specs.Items.{Word, RuleText, Item, StartItem, EntryItem, RuleItem}
use Rattle.sel_grammar_text.specs.Words as words
use Rattle.sel_grammar_text.specs.Names.{is_among, number_of, operators, rules, nonterminal_words, with_words, nonterminals, uses}
use Rattle.sel_grammar_text.specs.Checks.{large_in_tail}
use Rattle.sel_grammar_text.specs.ItemNumbers.{HasNumbers, HasExternal}
use Rattle.sel_grammar_text.specs.Meaning.{operators_of, rule_of, parts_of_tail, cost_of, range_of, external_of}
use Rattle.sel_grammar_text.specs.Patterns.{pattern_of}
use Rattle.sel_grammar_text.specs.GrammarText.{nonterminal_uses}
use Rattle.sel_grammar_text.specs.Places.{line_of, column_of}
use Rattle.sel_grammar_text.specs.declared.tables.Tables.{Tables}

-- the name behind the first `%start`
abbrev pub start_word : List Item → Option Word
start_word [] = None
start_word (StartItem w ∷ items) = Some w
start_word (_ ∷ items) = start_word items

-- the first of two
abbrev pub or_word : Option Word → Option Word → Option Word
or_word None other = other
or_word (Some w) other = Some w

-- the number of the start symbol, which is the first rule's left name where none is declared
abbrev pub start_number : List (List ℕ) → Option Word → ℕ
start_number names None = 0
start_number names (Some w) = number_of names w.bytes

abbrev pub operator_names : List Operator → List (List ℕ)
operator_names ops = map (λ o. o.name) ops

-- what a rule says whose left name stands at the line and the column
abbrev pub rule_at : ℕ → ℕ → List (List ℕ) → List (List ℕ) → RuleText → Rule
rule_at line column ops nts r = record {
  left = number_of nts r.left.bytes;
  pattern = pattern_of ops nts r.pattern;
  template = record { parts = parts_of_tail r.tail };
  cost = cost_of r.tail;
  range = range_of r.tail;
  external = external_of r.tail;
  line = line;
  column = column;
}

-- how many kids the operator with the name has, where there is one
abbrev pub arity_in : List Operator → List ℕ → Option (Option ℕ)
arity_in [] name = None
arity_in (o ∷ ops) name = if bytes_eq o.name name then Some o.arity else arity_in ops name

-- the first of two counts
abbrev pub or_count : Option ℕ → Option ℕ → Option ℕ
or_count None other = other
or_count (Some n) other = Some n

-- the operator has as many kids as at this use, where it is its first
abbrev pub with_use : Word × ℕ → Operator → Operator
with_use u o = if bytes_eq u.0.bytes o.name && not (is_some o.arity) then record o { arity = Some u.1 } else o

-- the operators behind these uses
abbrev pub noted : List (Word × ℕ) → List Operator → List Operator
noted [] ops = ops
noted (u ∷ us) ops = noted us (map (with_use u) ops)

-- the uses, and behind them those of the words whose names are new
abbrev pub with_uses : List Word → List Word → List Word
with_uses us [] = us
with_uses us (w ∷ words) = with_uses (if is_among (map (λ u. u.bytes) us) w.bytes then us else us ++ (w ∷ [])) words

-- The tables hold the items of the text so far. What the rules say holds whichever nonterminals come later.
pub record Means (bytes : List ℕ) (items : List Item) (t : Tables) : Type 0 where
  pub start_is : option_map words.view_word t.start ≡ start_word items
  pub operators_are : t.operators.items ≡ operators_of (uses (rules items)) items
  pub nonterminals_are : t.nonterminals.items ≡ nonterminals items
  pub lefts_are : map words.view_word t.lefts.items ≡ map (λ r. r.left) (rules items)
  pub rules_are : (later : List Word) → t.rules.items ≡ map (rule_of bytes (operators items) (with_words (nonterminals items) later)) (rules items)
  pub uses_are : map words.view_word t.uses.items ≡ with_uses [] (nonterminal_uses (operators items) items)
  pub few_operators : length t.operators.items ≤ most_operators
  pub few_nonterminals : length t.nonterminals.items ≤ most_nonterminals

-- the rule can be put into the tables: each of its numbers has room
pub record IsReadyRule (t : Tables) (r : RuleText) : Type 0 where
  pub operators_fit : length t.operators.items ≤ most_operators
  pub nonterminals_fit : length (with_words t.nonterminals.items (nonterminal_words (operator_names t.operators.items) r)) ≤ most_nonterminals
  pub kids : AllByRecursion (λ n. n.1 ≤ most_kids) r.pattern
  pub costs : large_in_tail r.tail ≡ None

abbrev pub IsReadyFor : Tables → Item → Type 0
IsReadyFor t (RuleItem r) = IsReadyRule t r
IsReadyFor t _ = Unit {0}

-- each number of the item has room in the tables
pub record IsReady (t : Tables) (item : Item) : Type 0 where
  pub numbers : HasNumbers item
  pub external : HasExternal item
  pub room : IsReadyFor t item

-- a rule's left name stands at the line and the column
abbrev pub IsPlaced : List ℕ → ℕ → ℕ → Item → Type 0
IsPlaced bytes line column (RuleItem r) = (line ≡ line_of bytes r.left.at) × (column ≡ column_of bytes r.left.at)
IsPlaced bytes line column _ = Unit {0}

-- an entry stands before all rules
abbrev pub StandsRight : List Item → Item → Type 0
StandsRight before (EntryItem name number) = rules before ≡ []
StandsRight before _ = Unit {0}
