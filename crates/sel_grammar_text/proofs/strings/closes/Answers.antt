use Rattle.std.proofs.Common.{sym, ◌∙◌}
use Rattle.sel_grammar_text.proofs.CostLists.{closes_one}
use Rattle.sel_grammar_text.proofs.Shorter.{further_shorter}
use Rattle.sel_grammar_text.proofs.strings.closes.Goals as goal

pub further-preserved : goal.further-preserved
further-preserved c = sym (closes_one further_shorter c.further.left.now c.in-Some.rest.now c.in-Some.ensures.rest) ∙ c.further.invariant
