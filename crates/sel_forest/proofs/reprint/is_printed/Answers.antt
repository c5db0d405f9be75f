use Rattle.std.proofs.Common.{◌≡◌, sym, subst}
use Rattle.sel_forest.specs.Pieces.{view}
use Rattle.sel_forest.specs.Reprinting.{token_text, IsSmall}
use Rattle.sel_forest.specs.Tokens.{source}
use Rattle.sel_forest.proofs.reprint.is_printed.Goals as goal

pub returns-in-Number : goal.returns-in-Number
returns-in-Number c = λ now.
    subst (λ p. IsSmall (view p) → source (view p) ≡ token_text (view p)) (sym c.in-Number.is) (λ small. c.is_own_print.ensures now small)
