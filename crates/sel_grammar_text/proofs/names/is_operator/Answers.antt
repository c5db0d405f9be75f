use Rattle.sel_grammar_text.proofs.NameNumbers.{is_among_map}
use Rattle.sel_grammar_text.proofs.names.is_operator.Goals as goal

pub returns : goal.returns
returns c = is_among_map (λ operator. operator.name) c.args.operators.now c.args.name.now c.operator_number.result c.operator_number.ensures.number
