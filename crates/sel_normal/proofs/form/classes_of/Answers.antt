use Rattle.std.proofs.Common.{◌≡◌, ◌≤◌, length, ap, ◌∙◌, arith}
use Rattle.sel_normal.specs.Forms.{tests}
use Rattle.sel_normal.proofs.Kept.{tests_few}
use Rattle.sel_normal.proofs.form.classes_of.Goals as goal

pub of-requires : goal.of-requires
of-requires c =
    let long : length c.deref.result.now ≡ length (tests c.args.grammar.now.rules) = ap length (c.deref.ensures.value ∙ c.in_ok-ranges.ensures) in
    let few = tests_few c.args.grammar.now.rules in
    let r = c.requires.lawful.within.rules in
    record { few = omega arith }
