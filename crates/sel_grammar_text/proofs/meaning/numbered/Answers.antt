use Rattle.std.proofs.Common.{◌≡◌, ap, true, false}
use Rattle.sel_grammar_text.specs.declared.pattern.PatternName.TheVariants.{Operator, Nonterminal}
use Rattle.sel_grammar_text.specs.Tables.{operator_names}
use Rattle.sel_grammar_text.specs.Names.{is_among}
use Rattle.sel_grammar_text.proofs.NameNumbers.{number_mapped, among_below, not_among_past}
use Rattle.sel_grammar_text.proofs.meaning.numbered.Goals as goal

pub returns-then-number-operators : goal.returns-then-number-operators
returns-then-number-operators c =
    let among : is_among (operator_names c.args.operators.now) c.args.named.now.word.bytes.now ≡ true
    = among_below (λ operator. operator.name) c.args.operators.now c.args.named.now.word.bytes.now c.operator_number-number.result c.operator_number-number.ensures.number c.if-number-operators.true in
    rw among (ap (λ n. Operator n c.args.named.now.kids) (number_mapped (λ operator. operator.name) c.args.operators.now c.args.named.now.word.bytes.now c.operator_number-number.result c.operator_number-number.ensures.number))

pub returns-else-number-operators : goal.returns-else-number-operators
returns-else-number-operators c =
    let among : is_among (operator_names c.args.operators.now) c.args.named.now.word.bytes.now ≡ false
    = not_among_past (λ operator. operator.name) c.args.operators.now c.args.named.now.word.bytes.now c.operator_number-number.result c.operator_number-number.ensures.number c.if-number-operators.false in
    rw among (ap Nonterminal c.name_number.ensures.number)
