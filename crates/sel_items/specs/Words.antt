-- Entries as words of 64 bits: which entries fit, and the word of each.
use Rattle.std.specs.Prelude.{◌≡◌, ℕ, pos, neg_ℤ, ◌+ℤ◌, ◌≤ℤ◌, ◌+◌, ◌*◌, ◌<◌, ◌^◌, Option, Some, None}
use Rattle.sel_grammar.specs.Costs.{Cost}
use Rattle.sel_items.specs.declared.items.Item.{Item}
use Rattle.sel_items.specs.declared.items.Items.{Items}
use Rattle.sel_items.specs.Entries.{item_at}

-- the cost fits a word: 28 bits for the first number, and 20 with a sign for the second
abbrev pub FitsWord : Cost → Type 0
FitsWord c = (c.first < 268435456) × (neg_ℤ (pos 524288) ≤ℤ c.second) × (c.second ≤ℤ pos 524287)

-- each entry's cost does
abbrev pub FitsWords : Items → Type 0
FitsWords i = (n : ℕ) (item : Item) → item_at i.entries n ≡ Some item → FitsWord item.cost

-- the entry has a word: its cost fits, and its rule's number is below 65,535
abbrev pub IsPackable : Option Item → Type 0
IsPackable None = Unit {0}
IsPackable (Some item) = FitsWord item.cost × (item.rule < 65535)

-- The word is the entry's: 0 for no entry, and else first · 2^36 + (second + 2^19) · 2^16 + rule + 1.
abbrev pub IsWordOf : Option Item → ℕ → Type 0
IsWordOf None word = word ≡ 0
IsWordOf (Some item) word =
    (shifted : ℕ) × (pos shifted ≡ (item.cost).second +ℤ pos 524288) × (word ≡ (item.cost).first * 2 ^ 36 + shifted * 2 ^ 16 + item.rule + 1)
