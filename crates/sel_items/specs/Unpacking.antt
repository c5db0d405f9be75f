-- What a word of 64 bits says of an entry.
use Rattle.std.specs.Prelude.{ℕ, pos, ◌-ℤ◌, ◌-◌, ◌/◌, ◌%◌, ◌^◌, ◌==◌, if◌then◌else◌, Option, Some, None}
use Rattle.sel_items.specs.declared.items.Item.{Item}

-- The word is taken apart at its 16th and 36th bit. Where the lowest 16 bits are 0 there is no entry.
abbrev pub unpacked : ℕ → Option Item
unpacked word =
    if word % 2 ^ 16 == 0 then None else Some (record { cost = record { first = word / 2 ^ 36; second = pos (word / 2 ^ 16 % 2 ^ 20) -ℤ pos 524288 }; rule = word % 2 ^ 16 - 1 })
