-- What clap found of the words.
use Rattle.std.specs.Prelude.{◌≡◌, ℕ, true, List, [], unwrap_or, option_map, codes}
use Rattle.clap.specs.Words.{found_of, matched_of, raw_values}
use Rattle.clap.specs.declared.parser.matches.ArgMatches.{ArgMatches}
use Rattle.sel_words.specs.Split.{Parts, is_name, values_for}

-- the values under a name, of all its uses
abbrev pub values_in : ArgMatches → List ℕ → List (List ℕ)
values_in found name = unwrap_or (option_map raw_values (matched_of (found_of found) name)) []

-- clap found these parts
pub record IsFound (found : ArgMatches) (parts : Parts) : Type 0 where
  pub plain : values_in found (codes "plain") ≡ parts.plain
  pub given : (name : List ℕ) → is_name name ≡ true → values_in found name ≡ values_for name parts.given
