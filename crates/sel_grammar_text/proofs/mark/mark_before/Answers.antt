use Rattle.sel_grammar_text.proofs.MarkSteps.{before_last}
use Rattle.sel_grammar_text.proofs.mark.mark_before.Goals as goal

pub returns-then-mark-at-clause-mark : goal.returns-then-mark-at-clause-mark
returns-then-mark-at-clause-mark c = λ bytes h. (before_last bytes c.marks.rest.now c.in-Some.front.now c.in-Some.mark.now c.in-Some.ensures.cases.0 (c.marks.invariant bytes h)).1

pub marks-preserved : goal.marks-preserved
marks-preserved c = λ bytes h. (before_last bytes c.marks.rest.now c.in-Some.front.now c.in-Some.mark.now c.in-Some.ensures.cases.0 (c.marks.invariant bytes h)).0
