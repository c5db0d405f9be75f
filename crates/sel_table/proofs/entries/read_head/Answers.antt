use Rattle.std.proofs.Common.{codes}
use Rattle.std.proofs.lemmas.Bool.Decides.{Decides-eqb}
use Rattle.std.proofs.lemmas.Option.{MatchOption-at_some}
use Rattle.std.proofs.lemmas.Slice.Eq.{strip_prefix_is}
use Rattle.sel_table.proofs.Heads.{head_read}
use Rattle.sel_table.proofs.entries.read_head.Goals as goal

pub returns : goal.returns
returns c =
    head_read c.args.normal.now c.args.line.now c.in-Some.digits.now c.in-Some-number.states c.head_over.result
    (MatchOption-at_some _ _ _ c.in-Some.is (strip_prefix_is Decides-eqb c.args.line.now (codes "seltable 1 ") c.strip_prefix.result c.strip_prefix.ensures.cases)) c.in-Some-number.ensures.0 c.in-Some-number.ensures.1 c.head_over.ensures
