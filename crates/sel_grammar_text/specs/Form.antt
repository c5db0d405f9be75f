-- The form of a grammar's text, over tokens alone.
use Rattle.std.specs.Prelude.{◌≡◌, ℕ, Bool, true, nat_le, ◌≤◌, ◌+◌, List, [], ◌∷◌, ◌++◌, Option, Some, None, ◌⊎◌}
use Rattle.std.specs.List.{flat_map, AllByRecursion}
use Rattle.std.specs.Str.Parse.{digits_value}
use Rattle.sel_grammar.specs.Limits.{greatest_external}
use Rattle.sel_grammar_text.specs.Tokens.{Token, Name, Integer, Quoted, Start, Term, Percents, Code, Colon, Equals, Open, Close, Comma, Semi, End}

-- Patterns side by side: a name, the patterns below it and the patterns beside it.
pub data Patterns : Type 0 where
  no_patterns : Patterns
  pattern : List ℕ → Patterns → Patterns → Patterns

-- where patterns stand: below a name, between parentheses, or beside a pattern, behind a comma
pub data Side : Type 0 where
  below : Side
  beside : Side

abbrev pub pattern_tokens : Side → Patterns → List Token
pattern_tokens below no_patterns = []
pattern_tokens below (pattern n kids more) = Open ∷ Name n ∷ (pattern_tokens below kids ++ (pattern_tokens beside more ++ (Close ∷ [])))
pattern_tokens beside no_patterns = []
pattern_tokens beside (pattern n kids more) = Comma ∷ Name n ∷ (pattern_tokens below kids ++ pattern_tokens beside more)

-- a declaration: the start symbol's name, operators with the digits of their numbers, or C text of a length
pub data DeclarationForm : Type 0 where
  StartForm : List ℕ → DeclarationForm
  TermForm : List (List ℕ × List ℕ) → DeclarationForm
  CodeForm : ℕ → DeclarationForm

abbrev pub entry_tokens : List (List ℕ × List ℕ) → List Token
entry_tokens entries = flat_map (λ e. Name e.0 ∷ Equals ∷ Integer e.1 ∷ []) entries

abbrev pub declaration_tokens : DeclarationForm → List Token
declaration_tokens (StartForm n) = Start ∷ Name n ∷ []
declaration_tokens (TermForm entries) = Term ∷ entry_tokens entries
declaration_tokens (CodeForm n) = Code n ∷ []

-- the digits of a cost: of one number, or of two
pub data AmountForm : Type 0 where
  OneNumber : List ℕ → AmountForm
  TwoNumbers : List ℕ → List ℕ → AmountForm

-- A rule's tail: a template's bytes with what stands behind it on the line, or the digits of the external number and of
-- the cost.
pub data TailForm : Type 0 where
  OneLineForm : List ℕ → List ℕ → TailForm
  BurgForm : List ℕ → Option AmountForm → TailForm

abbrev pub tail_tokens : TailForm → List Token
tail_tokens (OneLineForm inside behind) = Quoted inside behind ∷ []
tail_tokens (BurgForm external None) = Equals ∷ Integer external ∷ Semi ∷ []
tail_tokens (BurgForm external (Some (OneNumber c))) = Equals ∷ Integer external ∷ Open ∷ Integer c ∷ Close ∷ Semi ∷ []
tail_tokens (BurgForm external (Some (TwoNumbers c d))) = Equals ∷ Integer external ∷ Open ∷ Integer c ∷ Comma ∷ Integer d ∷ Close ∷ Semi ∷ []

pub record RuleForm : Type 0 where
  pub left : List ℕ
  pub root : List ℕ
  pub kids : Patterns
  pub tail : TailForm

abbrev pub rule_tokens : RuleForm → List Token
rule_tokens r = Name r.left ∷ Colon ∷ Name r.root ∷ (pattern_tokens below r.kids ++ tail_tokens r.tail)

-- the digits write no greater number than an operator or a rule may have
abbrev pub is_small : List ℕ → Bool
is_small digits = nat_le (digits_value 10 digits) greatest_external

abbrev pub IsSmall : List ℕ → Type 0
IsSmall digits = is_small digits ≡ true

abbrev pub IsDeclaration : DeclarationForm → Type 0
IsDeclaration (StartForm n) = Unit {0}
IsDeclaration (TermForm entries) = AllByRecursion (λ e. IsSmall e.1) entries
IsDeclaration (CodeForm n) = Unit {0}

abbrev pub IsTail : TailForm → Type 0
IsTail (OneLineForm inside behind) = Unit {0}
IsTail (BurgForm external cost) = IsSmall external

-- how often a start symbol is declared
abbrev pub starts : List DeclarationForm → ℕ
starts [] = 0
starts (StartForm n ∷ ds) = 1 + starts ds
starts (TermForm entries ∷ ds) = starts ds
starts (CodeForm n ∷ ds) = starts ds

-- The tokens of a text as far as they are read, to its end or to the second `%%`: declarations, `%%`, rules.
pub record IsText (ts : List Token) : Type 0 where
  pub declarations : List DeclarationForm
  pub rules : List RuleForm
  pub last : Token
  pub ends : (last ≡ End) ⊎ (last ≡ Percents)
  pub cut : ts ≡ flat_map declaration_tokens declarations ++ (Percents ∷ (flat_map rule_tokens rules ++ (last ∷ [])))
  pub lawful : AllByRecursion IsDeclaration declarations
  pub small : AllByRecursion (λ r. IsTail r.tail) rules
  pub one_start : starts declarations ≤ 1

-- some text of the form goes on with these tokens
abbrev pub GoesOn : List Token → Type 0
GoesOn ts = (rest : List Token) × IsText (ts ++ rest)
