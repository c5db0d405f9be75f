use Rattle.std.proofs.Common.{ap, ◌∙◌, ◌*◌, length}
use Rattle.std.proofs.lemmas.Nat.{mul-le}
use Rattle.sel_full.specs.Tables.{keys_with}
use Rattle.sel_full.proofs.Counts.{two_keys, two_or_more}
use Rattle.sel_full.proofs.places.key_count_of.Goals as goal

pub returns-else-kids-eq1-clause-is : goal.returns-else-kids-eq1-clause-is
returns-else-kids-eq1-clause-is c = λ xs op e.
    ap (λ o. length (keys_with c.args.normal.now xs op o)) c.in-Some.is ∙ (two_keys c.args.normal.now xs op c.in-Some.kids (two_or_more c.in-Some.kids c.if-kids-eq0.false c.if-kids-eq1.false) ∙ ap (λ n. n * n) e)

pub returns-else-kids-eq1-clause-few : goal.returns-else-kids-eq1-clause-few
returns-else-kids-eq1-clause-few c = λ h. mul-le c.args.states c.args.states 65536 65536 h h
