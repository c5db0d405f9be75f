-- How tokens are cut into items.
use Rattle.std.specs.Prelude.{ℕ, ◌+◌, ◌-◌, ◌==◌, Bool, true, false, List, [], ◌∷◌, ◌++◌, length, Option, Some, None, if◌then◌else◌}
use Rattle.sel_grammar_text.specs.Tokens.{Token, Name, Integer, Quoted, Start, Term, Percents, Code, Equals, Open, Close, Comma, Semi}
use Rattle.sel_grammar_text.specs.Items.{Word, word, AmountText, CostText, NoCost, TailText, OneLine, Burg, Item, StartItem, EntryItem, CodeItem, PercentsItem, RuleItem}
use Rattle.sel_grammar_text.specs.CostText.{cost_in}
use Rattle.sel_grammar_text.specs.Spots.{Spot, first_spots}

abbrev pub is_start : Token → Bool
is_start Start = true
is_start _ = false

abbrev pub is_equals : Token → Bool
is_equals Equals = true
is_equals _ = false

abbrev pub name_in : Token → List ℕ
name_in (Name n) = n
name_in _ = []

abbrev pub digits_in : Token → List ℕ
digits_in (Integer d) = d
digits_in _ = []

-- Whether the token ends the item that the spots before it begin: C text, `%%`, the name behind `%start`, the number of
-- an entry, a String with what stands behind it on its line, and a semicolon do. So does `%term`, which is no item.
abbrev pub ends : List Spot → Token → Bool
ends [] (Code n) = true
ends [] Percents = true
ends [] Term = true
ends (s ∷ []) (Name n) = is_start s.token
ends (s ∷ t ∷ []) (Integer d) = is_equals t.token
ends left (Quoted inside behind) = true
ends left Semi = true
ends left _ = false

-- the commas on a level before the parenthesis that closes it; d is how far inside the spots begin
abbrev pub commas : ℕ → List Spot → ℕ
commas d [] = 0
commas d (s ∷ spots) = elim s.token as (λ _. ℕ) [
  | Open ↦ commas (d + 1) spots
  | Close ↦ if d == 0 then 0 else commas (d - 1) spots
  | Comma ↦ (if d == 0 then 1 else 0) + commas d spots
  | _ ↦ commas d spots
]

-- how many kids a name has, by the spots behind it
abbrev pub kids_behind : List Spot → ℕ
kids_behind [] = 0
kids_behind (s ∷ spots) = elim s.token as (λ _. ℕ) [ Open ↦ 1 + commas 0 spots | _ ↦ 0 ]

-- the names of a pattern, each with how many kids it has, up to the template or the equals sign
abbrev pub pattern_in : List Spot → List (Word × ℕ)
pattern_in [] = []
pattern_in (s ∷ spots) = elim s.token as (λ _. List (Word × ℕ)) [
  | Name n ↦ (word s.at n, kids_behind spots) ∷ pattern_in spots
  | Quoted inside behind ↦ []
  | Equals ↦ []
  | _ ↦ pattern_in spots
]

-- the numbers of a BURG tail, in their order
abbrev pub numbers_in : List Spot → List Word
numbers_in [] = []
numbers_in (s ∷ spots) = elim s.token as (λ _. List Word) [ Integer d ↦ word s.at d ∷ numbers_in spots | _ ↦ numbers_in spots ]

-- the cost that the numbers behind the external one are: none, one number, or two
abbrev pub amount_of : List Word → Option AmountText
amount_of [] = None
amount_of (c ∷ []) = Some (record { first = c; second = None })
amount_of (c ∷ d ∷ more) = Some (record { first = c; second = Some d })

abbrev pub burg_of : List Word → TailText
burg_of [] = Burg (word 0 []) None
burg_of (e ∷ numbers) = Burg e (amount_of numbers)

abbrev pub or_no_cost : Option CostText → CostText
or_no_cost None = NoCost
or_no_cost (Some c) = c

-- the tail behind a pattern
abbrev pub tail_in : List Spot → TailText
tail_in [] = Burg (word 0 []) None
tail_in (s ∷ spots) = elim s.token as (λ _. TailText) [
  | Quoted inside behind ↦ OneLine (word (s.at + 1) inside) (or_no_cost (cost_in (s.at + length inside + 2) behind))
  | Equals ↦ burg_of (numbers_in spots)
  | _ ↦ tail_in spots
]

-- an entry: its number stands behind the equals sign
abbrev pub entry_in : Word → List Spot → List Item
entry_in name [] = []
entry_in name (s ∷ spots) = EntryItem name (word s.at (digits_in s.token)) ∷ []

-- what begins with a name: an entry, or a rule
abbrev pub named_item : Word → List Spot → List Item
named_item name [] = []
named_item name (s ∷ spots) =
    if is_equals s.token then entry_in name spots else RuleItem (record { left = name; pattern = pattern_in spots; tail = tail_in spots }) ∷ []

-- what begins with `%start`
abbrev pub start_item : List Spot → List Item
start_item [] = []
start_item (s ∷ spots) = StartItem (word s.at (name_in s.token)) ∷ []

-- the item that the spots are, which is none for `%term`
abbrev pub item_of : List Spot → List Item
item_of [] = []
item_of (s ∷ more) = elim s.token as (λ _. List Item) [
  | Start ↦ start_item more
  | Code n ↦ CodeItem ∷ []
  | Percents ↦ PercentsItem s.at ∷ []
  | Name n ↦ named_item (word s.at n) more
  | _ ↦ []
]

-- the items that end in the spots, and the spots behind the last of them
pub record Cutting : Type 0 where
  pub items : List Item
  pub left : List Spot

abbrev pub with_spot : Cutting → Spot → Cutting
with_spot c s =
    if ends c.left s.token then record { items = c.items ++ item_of (c.left ++ (s ∷ [])); left = [] }
    else record { items = c.items; left = c.left ++ (s ∷ []) }

abbrev pub cut_on : Cutting → List Spot → Cutting
cut_on c [] = c
cut_on c (s ∷ spots) = cut_on (with_spot c s) spots

abbrev pub cut_all : List Spot → Cutting
cut_all spots = cut_on (record { items = []; left = [] }) spots

-- the items in the first n tokens of the text, and what is left
unfoldable pub cutting : ℕ → List ℕ → Cutting
cutting n bytes = cut_all (first_spots n bytes)
