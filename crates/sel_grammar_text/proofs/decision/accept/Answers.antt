use Rattle.std.proofs.Common.{ap, sym, ◌∙◌}
use Rattle.sel_grammar_text.specs.FormDecision.{accepted_fault}
use Rattle.sel_grammar_text.specs.Machine.{wants_cost}
use Rattle.sel_grammar_text.specs.Pieces.{view}
use Rattle.sel_grammar_text.proofs.Deciding.{decided_unclosed, decided_stray, decided_accepted}
use Rattle.sel_grammar_text.proofs.decision.accept.Goals as goal

pub returns-then-is_unclosed-clause-fault : goal.returns-then-is_unclosed-clause-fault
returns-then-is_unclosed-clause-fault c =
    decided_unclosed c.args.all c.args.state c.args.names (wants_cost c.args.state) (view c.args.found.now.piece) c.args.at c.args.found.now.behind.now c.open_string_fault.result
    c.if-is_unclosed.ensures c.open_string_fault.ensures

pub returns-in_default-clause-fault : goal.returns-in_default-clause-fault
returns-in_default-clause-fault c =
    decided_stray c.args.all c.args.state c.args.names (wants_cost c.args.state) (view c.args.found.now.piece) c.args.at c.args.found.now.behind.now c.stray_place.result
    c.if-is_unclosed.ensures c.in_default.ensures c.stray_place.ensures

pub returns-in-None-clause-accepted : goal.returns-in-None-clause-accepted
returns-in-None-clause-accepted c =
    decided_accepted c.args.all c.args.state c.args.names (wants_cost c.args.state) (view c.args.found.now.piece) c.args.at c.args.found.now.behind.now c.in-Some.next
    c.if-is_unclosed.ensures c.in-Some.ensures ∙ ap (λ b. accepted_fault c.args.names b c.args.at c.args.found.now.behind.now (view c.args.found.now.piece)) (sym c.wants_cost.ensures) ∙ sym c.in-None.ensures

pub returns-in-Some-accepted_fault-clause-fault : goal.returns-in-Some-accepted_fault-clause-fault
returns-in-Some-accepted_fault-clause-fault c =
    decided_accepted c.args.all c.args.state c.args.names (wants_cost c.args.state) (view c.args.found.now.piece) c.args.at c.args.found.now.behind.now c.in-Some.next
    c.if-is_unclosed.ensures c.in-Some.ensures ∙ ap (λ b. accepted_fault c.args.names b c.args.at c.args.found.now.behind.now (view c.args.found.now.piece)) (sym c.wants_cost.ensures) ∙ sym c.in-Some-accepted_fault.ensures
