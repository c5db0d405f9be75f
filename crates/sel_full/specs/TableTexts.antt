-- The text of a table.
use Rattle.std.specs.Prelude.{ℕ, Option, Some, None, List, [], ◌∷◌, ◌++◌, length, map, flat_map, codes}
use Rattle.std.specs.Fmt.{decimal, signed_decimal}
use Rattle.sel_items.specs.declared.items.Item.{Item}
use Rattle.sel_items.specs.declared.items.Items.{Items}
use Rattle.sel_full.specs.declared.table.Table.{Table}

-- a hyphen, or both numbers of the cost with a comma between them and the rule's number behind a colon
abbrev pub item_text : Option Item → List ℕ
item_text None = codes "-"
item_text (Some item) = decimal (item.cost).first ++ (codes "," ++ (signed_decimal (item.cost).second ++ (codes ":" ++ decimal item.rule)))

-- entries with a space between any two
abbrev pub entries_text : List (Option Item) → List ℕ
entries_text [] = []
entries_text (item ∷ row) = item_text item ++ flat_map (λ x. codes " " ++ item_text x) row

abbrev pub state_text : Items → List ℕ
state_text i = entries_text i.entries

-- `seltable 1` and how many states there are
abbrev pub head_text : ℕ → List ℕ
head_text states = codes "seltable 1 " ++ decimal states

-- the head, a line for each state, and one for each number
abbrev pub table_lines : Table → List (List ℕ)
table_lines t = head_text (length t.states) ∷ (map state_text t.states ++ map decimal t.numbers)

-- lines, each with its line feed
abbrev pub lines_text : List (List ℕ) → List ℕ
lines_text lines = flat_map (λ line. line ++ codes "\n") lines

abbrev pub table_text : Table → List ℕ
table_text t = lines_text (table_lines t)
