use Rattle.std.proofs.Common.{◌≡◌, true, Result, Ok, Err, map, string_bytes, IfOk, IfErr, subst, refl}
use Rattle.clap.specs.Words.{takes, kind_of, App, HasMatchesOf, found_of, rows_of, matches_of}
use Rattle.clap.specs.declared.error.kind.ErrorKind.TheVariants as kind
use Rattle.clap.specs.declared.parser.matches.ArgMatches.{ArgMatches}
use Rattle.sel_words.specs.CommandLine.{sel_app}
use Rattle.sel_words.proofs.ClapReading.{Text}
use Rattle.std.specs.Prelude.{List}
use Rattle.sel_words.proofs.command_line.parse.Goals as goal

-- the command is simple, so its matches are those of the words
matches_simple : {E : Type 0} (words : List Text) (r : Result ArgMatches E) → IfOk r (HasMatchesOf sel_app words) → IfOk r (λ m. rows_of (found_of m) ≡ matches_of sel_app words)
matches_simple words (Ok m) h = (h refl).0
matches_simple words (Err e) h = tt

pub returns-clause-matches : goal.returns-clause-matches
returns-clause-matches c =
    let words = map string_bytes c.args.words.now in
    let P : App → Type 0 = λ a. IfOk c.try_get_matches_from.result (HasMatchesOf a words) in
    matches_simple words c.try_get_matches_from.result (subst P c.in_ok-command_line.ensures c.try_get_matches_from.ensures.matches)

pub returns-clause-passes : goal.returns-clause-passes
returns-clause-passes c =
    let P : App → Type 0 = λ a. IfErr c.try_get_matches_from.result (λ e. takes a (map string_bytes c.args.words.now) ≡ true → kind_of e ≡ kind.OutOfMemory) in
    subst P c.in_ok-command_line.ensures c.try_get_matches_from.ensures.passes
