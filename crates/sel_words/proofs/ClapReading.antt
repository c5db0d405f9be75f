-- How clap reads the words, by its own shapes of a word.
use Rattle.std.specs.Prelude.{ℕ, Bool, true, false, not, ◌&&◌, List, [], ◌∷◌, Option, Some, None, is_some, bytes_eq, codes, if◌then◌else◌}
use Rattle.std.specs.Option.{option_map_or}
use Rattle.clap.specs.Lexer.{long_of, short_of}
use Rattle.sel_words.specs.Split.{is_name}

abbrev pub Text : Type 0
Text = List ℕ

abbrev pub dashes : Text
dashes = 45 ∷ 45 ∷ []

-- the word is no option and no `--`
abbrev pub is_plain : Text → Bool
is_plain word = not (bytes_eq word dashes) && (not (is_some (long_of word)) && not (is_some (short_of word)))

abbrev pub at_long : Option (Text × Option Text) → Option Text → Bool → (Text → Bool) → Bool
at_long (Some p) short next wait = is_name p.0 && (if is_some p.1 then next else wait p.0)
at_long None short next wait = not (is_some short) && next

-- `next` goes on behind the word, and `wait` behind the name of an option whose value is the next word
abbrev pub at_word : Text → Bool → (Text → Bool) → Bool
at_word word next wait = if bytes_eq word dashes then true else at_long (long_of word) (short_of word) next wait

-- the words can be read, where an option waits for its value or none does
abbrev pub reads : Option Text → List Text → Bool
reads None [] = true
reads (Some name) [] = false
reads None (word ∷ rest) = at_word word (reads None rest) (λ name. reads (Some name) rest)
reads (Some name) (word ∷ rest) = is_plain word && reads None rest

-- the plain words have this name
abbrev pub plain_name : Text
plain_name = codes "plain"

-- the value, where it is one of this name
abbrev pub value_at : Text → Text → Text → List Text → List Text
value_at id name value next = if bytes_eq name id then value ∷ next else next

abbrev pub values_at_long : Text → Text → Option (Text × Option Text) → List Text → (Text → List Text) → List Text
values_at_long id word (Some p) next wait = option_map_or (λ v. value_at id p.0 v next) p.1 (wait p.0)
values_at_long id word None next wait = value_at id plain_name word next

-- the values of a name in order, where an option waits for its value or none does
abbrev pub values : Text → Option Text → List Text → List Text
values id None [] = []
values id (Some name) [] = []
values id None (word ∷ rest) = if bytes_eq word dashes then (if bytes_eq plain_name id then rest else [])
    else values_at_long id word (long_of word) (values id None rest) (λ name. values id (Some name) rest)
values id (Some name) (word ∷ rest) = value_at id name word (values id None rest)
