-- Which grammar a text spells, and the first fault of a text that spells none.
use Rattle.std.specs.Prelude.{◌≡◌, ℕ, suc, ◌<◌, ◌≤◌, ◌==◌, ◌⊎◌, true, List, [], ◌∷◌, ◌++◌, length, Option, Some, None, if◌then◌else◌, map}
use Rattle.sel_grammar.specs.Limits as limits
use Rattle.sel_grammar.specs.declared.grammar.Grammar.{Grammar}
use Rattle.sel_grammar.specs.declared.refusal.GrammarFault.{GrammarFault}
use Rattle.sel_grammar.specs.declared.refusal.GrammarRefusal.{GrammarRefusal}
use Rattle.sel_grammar.specs.declared.refusal.GrammarRefusal.TheVariants as refusal
use Rattle.sel_grammar_text.specs.Form.{IsText}
use Rattle.sel_grammar_text.specs.Items.{Word, RuleText, Item, StartItem, RuleItem}
use Rattle.sel_grammar_text.specs.Spots.{tokens, first_spots, here}
use Rattle.sel_grammar_text.specs.Names.{is_among, operators, rules, leaves}
use Rattle.sel_grammar_text.specs.Cutting.{ends, item_of, cutting}
use Rattle.sel_grammar_text.specs.Faults.{fault, fault_at}
use Rattle.sel_grammar_text.specs.FormFaults.{HasFormFault}
use Rattle.sel_grammar_text.specs.ItemFaults.{check_all}
use Rattle.sel_grammar_text.specs.Meaning.{grammar_of}
use Rattle.sel_grammar_text.specs.Places.{line_of, column_of}
use Rattle.sel_grammar_text.specs.declared.fault.Fault.{Fault}

-- Token n, from 0, has the fault: one of form, or else the token ends an item, and a check of that item gives the fault.
unfoldable pub HasFault : List ℕ → ℕ → Fault → Type 0
HasFault bytes n f = HasFormFault bytes n f
    ⊎ (((g : Fault) → HasFormFault bytes n g → ⊥) × (ends (cutting n bytes).left (here n bytes).token ≡ true)
    × (check_all (cutting n bytes).items (item_of ((cutting n bytes).left ++ (here n bytes ∷ []))) ≡ Some f))

-- the first n tokens have no fault, and are no whole text
pub record IsSoundUpTo (bytes : List ℕ) (n : ℕ) : Type 0 where
  pub faultless : (k : ℕ) (f : Fault) → k < n → HasFault bytes k f → ⊥
  pub open_still : (k : ℕ) → k ≤ n → IsText (tokens (first_spots k bytes)) → ⊥

-- the text is whole with token n, and no token has a fault
pub record IsWhole (bytes : List ℕ) (n : ℕ) : Type 0 where
  pub before : IsSoundUpTo bytes n
  pub last : (f : Fault) → HasFault bytes n f → ⊥
  pub whole : IsText (tokens (first_spots (suc n) bytes))

-- the words that name nonterminals behind `%start` and in patterns, in order
abbrev pub nonterminal_uses : List (List ℕ) → List Item → List Word
nonterminal_uses ops [] = []
nonterminal_uses ops (StartItem w ∷ items) = w ∷ nonterminal_uses ops items
nonterminal_uses ops (RuleItem r ∷ items) = leaves ops r.pattern ++ nonterminal_uses ops items
nonterminal_uses ops (_ ∷ items) = nonterminal_uses ops items

abbrev pub left_names : List RuleText → List (List ℕ)
left_names rs = map (λ r. r.left.bytes) rs

-- the first of the words that is none of the names
abbrev pub first_absent : List (List ℕ) → List Word → Option ℕ
first_absent names [] = None
first_absent names (w ∷ words) = if is_among names w.bytes then first_absent names words else Some w.at

-- the fault behind the last item, where the text ends at a place: no rule, or a nonterminal without one
unfoldable pub end_fault : List Item → ℕ → Option Fault
end_fault items at =
    if length (rules items) == 0 then Some (fault limits.no_rules at)
    else fault_at limits.no_rule (first_absent (left_names (rules items)) (nonterminal_uses (operators items) items))

-- the items of a text that is whole with token n
abbrev pub items_of : ℕ → List ℕ → List Item
items_of n bytes = (cutting (suc n) bytes).items

-- the bytes spell the grammar: they are a whole text without a fault, whose items say it
pub record SpellsGrammar (bytes : List ℕ) (grammar : Grammar) : Type 0 where
  pub n : ℕ
  pub whole : IsWhole bytes n
  pub no_fault : end_fault (items_of n bytes) (here n bytes).at ≡ None
  pub says : grammar ≡ grammar_of bytes (items_of n bytes)

-- the first fault of the text, at a token or behind the last item
pub data HasFirstFault (bytes : List ℕ) : Fault → Type 0 where
  at_token : (n : ℕ) (f : Fault) → IsSoundUpTo bytes n → HasFault bytes n f → HasFirstFault bytes f
  behind_items : (n : ℕ) (f : Fault) → IsWhole bytes n → end_fault (items_of n bytes) (here n bytes).at ≡ Some f → HasFirstFault bytes f

-- the fault is the text's first one, with its line and column
pub record IsGrammarFault (bytes : List ℕ) (g : GrammarFault) : Type 0 where
  pub at : ℕ
  pub first_fault : HasFirstFault bytes (fault g.kind at)
  pub line_is : g.line ≡ line_of bytes at
  pub column_is : g.column ≡ column_of bytes at

-- a fault by the text, and want of memory freely
abbrev pub GrammarRefusedFor : List ℕ → GrammarRefusal → Type 0
GrammarRefusedFor bytes (refusal.Fault g) = IsGrammarFault bytes g
GrammarRefusedFor bytes refusal.NoMemory = Unit {0}
