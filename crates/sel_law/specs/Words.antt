-- What the shared words say: a counter, intern words, transition words and the content of each number.
use Rattle.std.specs.Prelude.{◌≡◌, ℕ, suc, zero, ◌+◌, ◌-◌, ◌*◌, ◌/◌, ◌%◌, ◌<◌, ◌≤◌, cond, ◌==◌, List, [], ◌∷◌, length, slice_index, ◌^◌, map, bit_xor}
use mathlib.Core.Option.{some}
use lib.ListN.{get_elem?}
use Rattle.sel_items.specs.declared.items.Items.{Items}
use Rattle.sel_items.specs.Follows.{NodeKey, Follows, key_of as key_of_node}
use Rattle.sel_items.specs.Unpacking.{unpacked}
use Rattle.sel_items.specs.Words.{IsWordOf, FitsWords}
use Rattle.sel_law.specs.declared.Setting.{Setting}
use Rattle.sel_law.specs.declared.Ask.{Ask}

-- the entries that the words say
abbrev pub items_of : List ℕ → Items
items_of ws = record { entries = map unpacked ws }

-- a key by the item sets that its words say
abbrev pub node_key : Ask → NodeKey
node_key a = key_of_node a.operator a.class (map items_of a.kids)

-- each word is the word of its entry
abbrev pub ArePacked : List ℕ → Type 0
ArePacked c = (i : ℕ) → i < length c → IsWordOf (unpacked (slice_index c i)) (slice_index c i)

-- Each word is the word of its entry, there is one for each nonterminal, and the item set fits words and follows from the key.
pub record IsMadeOf (z : Setting) (a : Ask) (c : List ℕ) : Type 0 where
  pub long : length c ≡ z.width
  pub words : ArePacked c
  pub fits : FitsWords (items_of c)
  pub follows : Follows z.normal.value (node_key a) (items_of c)

-- a product of 64 bits by the multiplier of all homes
abbrev pub scrambled : ℕ → ℕ
scrambled x = x * 11400714819323198485 % 2 ^ 64

-- where the walk of a key begins, before it is taken modulo the row's length
unfoldable pub key_home : Setting → ℕ → ℕ
key_home z x = scrambled x / 2 ^ 32

abbrev pub mixed : ℕ → List ℕ → ℕ
mixed h [] = h
mixed h (w ∷ ws) = mixed (scrambled (bit_xor h w)) ws

-- where the walk of a content begins
unfoldable pub content_home : Setting → List ℕ → ℕ
content_home z c = mixed 0 c / 2 ^ 32

-- f of each, added up
abbrev pub weigh : {A : Type 0} → (A → ℕ) → List A → ℕ
weigh f [] = 0
weigh f (x ∷ xs) = f x + weigh f xs

-- x stands in the list
abbrev pub In : {A : Type 0} → A → List A → Type 0
In x l = (k : ℕ) × (get_elem? l k ≡ some x)

-- the words of each kid's content are those of their entries
abbrev pub HasPackedKids : Ask → Type 0
HasPackedKids a = (c : List ℕ) → In c a.kids → ArePacked c

-- n words from the b-th on
abbrev pub read : List ℕ → ℕ → ℕ → List ℕ
read ws b zero = []
read ws b (suc n) = slice_index ws b ∷ read ws (b + 1) n

abbrev pub used : ℕ → ℕ
used w = cond (w == 0) 0 1

-- the d-th place of a walk over m places
abbrev pub walk : ℕ → ℕ → ℕ → ℕ
walk m home d = (home + d) % m

-- the places of intern words, transition words and content words
abbrev pub intern_at : ℕ → ℕ
intern_at p = 1 + p

abbrev pub row_at : Setting → ℕ → ℕ
row_at z q = 1 + 2 * z.states + q

abbrev pub content_at : Setting → ℕ → ℕ → ℕ
content_at z n i = 1 + 2 * z.states + z.rows + n * z.width + i

abbrev pub word_count : Setting → ℕ
word_count z = 1 + 2 * z.states + z.rows + z.states * z.width

abbrev pub content : Setting → List ℕ → ℕ → List ℕ
content z ws n = read ws (content_at z n 0) z.width

abbrev pub Published : Setting → List ℕ → ℕ → Type 0
Published z ws n = (p : ℕ) × (p < 2 * z.states) × (slice_index ws (intern_at p) ≡ n + 1)

-- how many numbers are published
abbrev pub published : Setting → List ℕ → ℕ
published z ws = weigh used (read ws 1 (2 * z.states))

-- the parts of a transition word and of its key
abbrev pub key_of : ℕ → ℕ
key_of w = w / 65536

abbrev pub number_of : ℕ → ℕ
number_of w = w % 65536

abbrev pub kids_of : ℕ → ℕ
kids_of x = (x / 4294967296 - 1) % 3

abbrev pub operator_of : ℕ → ℕ
operator_of x = (x / 4294967296 - 1) / 3

abbrev pub left_of : ℕ → ℕ
left_of x = (x / 65536) % 65536

abbrev pub right_of : ℕ → ℕ
right_of x = x % 65536

abbrev pub class_by : ℕ → ℕ → ℕ
class_by zero left = left
class_by (suc k) left = 0

-- a list by the number of kids, from what each kid has
abbrev pub by_kids : {A : Type 0} → ℕ → A → A → List A
by_kids zero a b = []
by_kids (suc zero) a b = a ∷ []
by_kids (suc (suc k)) a b = a ∷ b ∷ []

-- a fact of each kid
abbrev pub EachKid : (ℕ → Type 0) → ℕ → ℕ → ℕ → Type 0
EachKid P zero l r = Unit {0}
EachKid P (suc zero) l r = P l
EachKid P (suc (suc k)) l r = P l × P r

-- the key by item sets, where each number has the content that f gives
abbrev pub ask_by : (ℕ → List ℕ) → ℕ → Ask
ask_by f x = record { operator = operator_of x; class = class_by (kids_of x) (left_of x); kids = by_kids (kids_of x) (f (left_of x)) (f (right_of x)) }

abbrev pub ask_of : Setting → List ℕ → ℕ → Ask
ask_of z ws x = ask_by (content z ws) x

abbrev pub KidsPublished : Setting → List ℕ → ℕ → Type 0
KidsPublished z ws x = EachKid (Published z ws) (kids_of x) (left_of x) (right_of x)

-- a key's number has its parts, of which the operator has 8 bits, and 0 in place of a right kid that there is not
abbrev pub IsKey : ℕ → Type 0
IsKey x = (1 ≤ x / 4294967296) × (kids_of x ≤ 1 → right_of x ≡ 0) × (operator_of x < 256)

abbrev pub word_of : ℕ → ℕ → ℕ
word_of x n = x * 65536 + n
