-- The words, taken apart into options with their values and plain words.
use Rattle.std.specs.Prelude.{ℕ, ◌==◌, Bool, false, ◌&&◌, List, [], ◌∷◌, drop, filter, map, Option, Some, None, option_map, bytes_eq, codes, if◌then◌else◌}
use Rattle.std.specs.List.{list_any, before_first, after_first}
use Rattle.sel_base.specs.Ascii.{hyphen, equals_sign}

-- an option's name, and the value that is given with it
pub record Given : Type 0 where
  pub name : List ℕ
  pub value : List ℕ

-- the options with their values, and the plain words, both in order
pub record Parts : Type 0 where
  pub given : List Given
  pub plain : List (List ℕ)

-- a word of at least two bytes that begins with `-`
abbrev pub is_hyphened : List ℕ → Bool
is_hyphened (first ∷ second ∷ rest) = first == hyphen
is_hyphened _ = false

-- a word that begins with `--` and is longer
abbrev pub is_option : List ℕ → Bool
is_option (first ∷ second ∷ third ∷ rest) = (first == hyphen) && (second == hyphen)
is_option _ = false

abbrev pub is_equals : ℕ → Bool
is_equals b = b == equals_sign

-- NAME of the word `--NAME` or `--NAME=VALUE`
abbrev pub name_in : List ℕ → List ℕ
name_in word = before_first is_equals (drop 2 word)

-- VALUE of the word `--NAME=VALUE`
abbrev pub value_in : List ℕ → Option (List ℕ)
value_in word = if list_any is_equals (drop 2 word) then Some (after_first is_equals (drop 2 word)) else None

-- the names of the options
abbrev pub names : List (List ℕ)
names = codes "workers" ∷ codes "states" ∷ codes "rows" ∷ codes "seed" ∷ codes "trees" ∷ codes "size" ∷ codes "registers" ∷ []

abbrev pub is_name : List ℕ → Bool
is_name name = list_any (λ known. bytes_eq known name) names

abbrev pub with_given : List ℕ → List ℕ → Parts → Parts
with_given name value parts = record { given = record { name = name; value = value } ∷ parts.given; plain = parts.plain }

abbrev pub with_plain : List ℕ → Parts → Parts
with_plain word parts = record { given = parts.given; plain = word ∷ parts.plain }

-- the option has its value in its own word, or the next word is its value
abbrev pub with_option : List ℕ → Option (List ℕ) → Option Parts → Option Parts → Option Parts
with_option name (Some value) behind valued = option_map (with_given name value) behind
with_option name None behind valued = valued

-- The words in parts; none where they are no command. Behind `--` every word is plain. Another word is an option of a known name, or has no hyphen
-- in front but that of `-` alone, and is plain. `Some name`: the next word, whatever it is, is the value of the option of this name.
abbrev pub parts_of : Option (List ℕ) → List (List ℕ) → Option Parts
parts_of None [] = Some (record { given = []; plain = [] })
parts_of (Some name) [] = None
parts_of (Some name) (value ∷ rest) = option_map (with_given name value) (parts_of None rest)
parts_of None (word ∷ rest) =
    if bytes_eq word (codes "--") then Some (record { given = []; plain = rest })
    else (if is_option word then (if is_name (name_in word) then with_option (name_in word) (value_in word) (parts_of None rest) (parts_of (Some (name_in word)) rest) else None)
    else (if is_hyphened word then None
    else option_map (with_plain word) (parts_of None rest)))

-- the values that are given for this name, in order
abbrev pub values_for : List ℕ → List Given → List (List ℕ)
values_for name given = map (λ g. g.value) (filter (λ g. bytes_eq g.name name) given)
