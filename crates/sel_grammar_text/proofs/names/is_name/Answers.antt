use Rattle.std.proofs.Common.{◌∙◌, ap, sym, length}
use Rattle.std.specs.Prelude.{nat_lt}
use Rattle.sel_grammar_text.proofs.NameNumbers.{is_among_number}
use Rattle.sel_grammar_text.proofs.names.is_name.Goals as goal

pub returns : goal.returns
returns c = ap (λ n. nat_lt n (length c.args.names.now)) c.name_number.ensures.number ∙ sym (is_among_number c.args.names.now c.args.name.now)
