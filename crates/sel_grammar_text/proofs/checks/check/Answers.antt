use Rattle.sel_grammar_text.specs.Words.{view_item}
use Rattle.sel_grammar_text.proofs.FromTables.{check_is_first}
use Rattle.std.proofs.Common.{◌∙◌}
use Rattle.sel_grammar_text.proofs.checks.check.Goals as goal

pub returns : goal.returns
returns c = λ bytes before m.
    c.first_fault.ensures
    ∙ check_is_first before (view_item c.args.item.now) c.duplicate_term.result c.too_many_items.result c.term_on_left.result c.too_many_nonterminals.result c.arity.result
    c.template_form.result c.kid_number.result c.result_in_fragment.result c.range_place.result c.cost_large.result
    (c.duplicate_term.ensures bytes before m) (c.too_many_items.ensures bytes before m) (c.term_on_left.ensures bytes before m) (c.too_many_nonterminals.ensures bytes before m) (c.arity.ensures bytes before m)
    (c.template_form.ensures before) (c.kid_number.ensures bytes before m) (c.result_in_fragment.ensures before) (c.range_place.ensures bytes before m) (c.cost_large.ensures before)
