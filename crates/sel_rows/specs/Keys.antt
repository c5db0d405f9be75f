-- The numbers of keys.
use Rattle.std.specs.Prelude.{ℕ, ◌+◌, ◌*◌, ◌<◌, Option, Some, None, List, slice_get}
use Rattle.sel_items.specs.declared.items.Items.{Items}
use Rattle.sel_items.specs.declared.label.Label.{Label}
use Rattle.sel_items.specs.declared.label.Label.TheVariants.{Numbered, Plain}
use Rattle.sel_law.specs.declared.View.{View}
use Rattle.sel_law.specs.Words.{items_of}
use Rattle.sel_law.specs.Kinds.{HeldNumber}
use Rattle.sel_rows.specs.Held.{held_content, IsWhole}

-- The number of a key: 3·operator + kids + 1, then the class or the left kid's number, then the right kid's. There is none where a kid's label is plain.
abbrev pub key_number : ℕ → ℕ → Option Label → Option Label → Option ℕ
key_number operator class None None = Some ((3 * operator + 1) * 4294967296 + class * 65536)
key_number operator class (Some (Numbered l)) None = Some ((3 * operator + 2) * 4294967296 + l * 65536)
key_number operator class (Some (Numbered l)) (Some (Numbered r)) = Some ((3 * operator + 3) * 4294967296 + l * 65536 + r)
key_number operator class _ _ = None

-- the item set that a label means, where it means one
abbrev pub meaning : View → List Items → Label → Option Items
meaning v plain (Numbered n) = Some (items_of (held_content v n))
meaning v plain (Plain p) = slice_get plain p

abbrev pub kid_meaning : View → List Items → Option Label → Option Items
kid_meaning v plain None = None
kid_meaning v plain (Some l) = meaning v plain l

-- a numbered kid's content is held
abbrev pub IsReadable : View → Option Label → Type 0
IsReadable v (Some (Numbered n)) = (n < v.setting.states) × HeldNumber v n × IsWhole v n
IsReadable v _ = Unit {0}

-- what is read of a numbered kid
abbrev pub kid_read : View → Option Label → Option Items
kid_read v (Some (Numbered n)) = Some (items_of (held_content v n))
kid_read v _ = None

-- the item set of a kid by what was read and by those of plain labels
abbrev pub kid_chosen : Option Label → Option Items → List Items → Option Items
kid_chosen None read plain = None
kid_chosen (Some (Numbered n)) read plain = read
kid_chosen (Some (Plain p)) read plain = slice_get plain p
