-- Keys of nodes by the numbers of their kids' states.
use Rattle.std.specs.Prelude.{ℕ, Option, Some, None}
use Rattle.sel_items.specs.declared.label.Label.{Label}
use Rattle.sel_items.specs.declared.label.Label.TheVariants.{Numbered, Plain}
use Rattle.sel_auto.specs.declared.key.StateKey.{StateKey}

-- the number of a kid's state, where there is a kid. There is none where the kid's label is plain
abbrev pub kid_number : Option Label → Option (Option ℕ)
kid_number None = Some None
kid_number (Some (Numbered n)) = Some (Some n)
kid_number (Some (Plain p)) = None

abbrev pub key_with : ℕ → ℕ → Option (Option ℕ) → Option (Option ℕ) → Option StateKey
key_with operator class (Some a) (Some b) = Some (record { operator = operator; class = class; first = a; second = b })
key_with operator class _ _ = None

-- The key of a node with these labels of its kids. There is none where one of them is plain.
abbrev pub numbered_key : ℕ → ℕ → Option Label → Option Label → Option StateKey
numbered_key operator class a b = key_with operator class (kid_number a) (kid_number b)
