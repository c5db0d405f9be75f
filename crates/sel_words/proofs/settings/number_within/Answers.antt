use Rattle.std.proofs.Common.{◌≡◌, ◌<◌, ◌^◌, true, rules, sym}
use Rattle.sel_words.proofs.Numbers.{not_read}
use Rattle.sel_words.specs.Settings.{is_number}
use Rattle.sel_words.proofs.settings.number_within.Goals as goal

pub returns-in-Err : goal.returns-in-Err
returns-in-Err c =
    let number : is_number c.args.text.now ≡ true = search rules in
    let low : c.args.bounds.greatest < 2 ^ 64 = search rules in
    sym (not_read c.args.bounds c.args.text.now c.in-Err.field-0 number low c.in-Err.ensures.value.0)
