use Rattle.std.proofs.Common.{◌≡◌, Bool, true, false, map, string_bytes, None, ap, ◌∙◌, refl, []}
use Rattle.clap.proofs.WalkLemmas.{raw_values-rows}
use Rattle.clap.specs.Words.{found_of}
use Rattle.std.specs.Prelude.{unwrap_or}
use Rattle.sel_words.proofs.ClapReading.{reads}
use Rattle.sel_words.proofs.ClapTakes.{takes-is}
use Rattle.sel_words.proofs.ClapFaults.{no-fault}
use Rattle.sel_words.proofs.ClapWords.{all_readable}
use Rattle.sel_words.proofs.ClapValues.{vals, values-is}
use Rattle.sel_words.proofs.SameParts.{finds, no_command}
use Rattle.sel_words.proofs.command_line.take_apart.Goals as goal

pub returns-in-Ok-clause-some : goal.returns-in-Ok-clause-some
returns-in-Ok-clause-some c =
    let words = map string_bytes c.args.words.now in
    let good = no-fault words (all_readable c.args.words.now) c.in-Ok.ensures.fault in
    finds words c.in-Ok.found
    (λ name. ap (λ o. unwrap_or o []) (raw_values-rows (found_of c.in-Ok.found) name) ∙ ap (λ rows. vals name rows) c.in-Ok.ensures.matches ∙ values-is name words good)
    good

not_true : (b : Bool) → (b ≡ true → ⊥) → b ≡ false
not_true false n = refl
not_true true n = absurd (n refl)

pub returns : goal.returns
returns c = record {
  some = tt;
  none = λ given. no_command (map string_bytes c.args.words.now) (not_true (reads None (map string_bytes c.args.words.now)) (λ good.
      let taken = takes-is (map string_bytes c.args.words.now) (all_readable c.args.words.now) ∙ good in
      c.in_default.not-OutOfMemory (c.kind.ensures ∙ c.in-Err.ensures.passes taken)));
}
