use Rattle.std.proofs.Common.{◌∷◌, []}
use Rattle.std.proofs.lemmas.Bool.Decides.{Decides-eqb}
use Rattle.std.proofs.lemmas.Option.{MatchOption-at_some}
use Rattle.std.proofs.lemmas.Slice.Eq.{strip_prefix_is}
use Rattle.sel_table.proofs.Signs.{signed_minus}
use Rattle.sel_table.proofs.numbers.signed.Goals as goal

pub returns-in-Some : goal.returns-in-Some
returns-in-Some c =
    signed_minus c.args.bytes.now c.in-Some.digits.now c.negative.result
    (MatchOption-at_some _ _ _ c.in-Some.is (strip_prefix_is Decides-eqb c.args.bytes.now (45 ∷ []) c.strip_prefix.result c.strip_prefix.ensures.cases)) c.negative.ensures
