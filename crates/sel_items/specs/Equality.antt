-- When item sets are equal, and what a hasher is fed of them.
use Rattle.std.specs.Prelude.{◌≡◌, ◌↔◌, ◌++◌, Bool, IsTrue, nat_eq}
use Rattle.std.specs.Cmp.Lexicographic.{pointwise}
use Rattle.std.specs.Hash.{HashWrites, u16, u64, i64, option, slice}
use Rattle.std.specs.Option.{option_eq}
use Rattle.std.specs.Ordering.{on, eq_of_both, int_eq}
use Rattle.sel_items.specs.declared.items.Item.{Item}
use Rattle.sel_items.specs.declared.items.Items.{Items}

-- whether two entries have the same cost and the same rule
abbrev pub item_eq : Item → Item → Bool
item_eq = eq_of_both (eq_of_both (on (λ x. (x.cost).first) nat_eq) (on (λ x. (x.cost).second) int_eq)) (on (λ x. x.rule) nat_eq)

-- whether two item sets have as many entries and the same in each place
abbrev pub items_eq : Items → Items → Bool
items_eq = on (λ x. x.entries) (pointwise (option_eq item_eq))

-- of an entry: the numbers of its cost, and the rule
abbrev pub item_input : Item → HashWrites
item_input x = u64 (x.cost).first ++ i64 (x.cost).second ++ u16 x.rule

-- of an item set: how many entries it has, and each
abbrev pub items_input : Items → HashWrites
items_input x = slice (option item_input) x.entries

-- item sets are equal exactly where they are the same
abbrev pub EqualAreSame : Type 0
EqualAreSame = (x y : Items) → IsTrue (items_eq x y) ↔ (x ≡ y)
