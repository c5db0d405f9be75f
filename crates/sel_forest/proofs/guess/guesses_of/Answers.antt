use Rattle.std.proofs.Common.{refl}
use Rattle.sel_forest.proofs.Guessing.{first_guesses, one_guess_more}
use Rattle.sel_forest.proofs.guess.guesses_of.Goals as goal

pub operators-init : goal.operators-init
operators-init c = first_guesses c.args.grammar.now 255 4096 c.in_ok-guesses.guesses.items c.requires (c.in_ok-guesses.ensures.items_if_clones_equal (λ y e. e)) refl

pub operators-preserved : goal.operators-preserved
operators-preserved c =
    one_guess_more c.args.grammar.now c.operators.guesses.items c.free_place-at.result c.operator_number.result c.as_slice-name.result.now c.operators.invariant c.operator_number.ensures.number
