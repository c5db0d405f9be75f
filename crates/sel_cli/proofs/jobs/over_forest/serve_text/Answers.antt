use Rattle.sel_words.specs.declared.words.Mode.TheVariants.{Cover, Select, Summary, Print, Certify}
use Rattle.sel_cli.proofs.Serving.{by_mode, covers_over, texts_over, printed_reported, certified_reported}
use Rattle.sel_cli.proofs.jobs.over_forest.serve_text.Goals as goal

pub returns-in-Cover : goal.returns-in-Cover
returns-in-Cover g c = λ name.
    by_mode c.args.settings c.args.accepted.now.grammar c.args.mode Cover c.args.text.items _ _ _ _ name c.in-Cover.is (covers_over c.args.settings c.args.accepted.now.grammar name c.args.text.items _ _ _ _ c.tell_in.ensures)

pub returns-in-Select : goal.returns-in-Select
returns-in-Select g c = λ name.
    by_mode c.args.settings c.args.accepted.now.grammar c.args.mode Select c.args.text.items _ _ _ _ name c.in-Select.is (texts_over c.args.settings c.args.accepted.now.grammar name c.args.text.items _ _ _ _ c.tell_in-in-Select.ensures)

pub returns-in-Summary : goal.returns-in-Summary
returns-in-Summary g c = λ name. by_mode c.args.settings c.args.accepted.now.grammar c.args.mode Summary c.args.text.items _ _ _ _ name c.in-Summary.is (c.sum_in.ensures name)

pub returns-in-Print : goal.returns-in-Print
returns-in-Print g c = λ name.
    by_mode c.args.settings c.args.accepted.now.grammar c.args.mode Print c.args.text.items _ _ _ _ name c.in-Print.is
    (printed_reported c.args.settings c.args.accepted.now.grammar name c.args.text.items _ _ c.print_forest.result c.without.result c.without.ensures c.print_forest.ensures.done)

pub returns-in-Certify : goal.returns-in-Certify
returns-in-Certify g c = λ name.
    by_mode c.args.settings c.args.accepted.now.grammar c.args.mode Certify c.args.text.items _ _ _ _ name c.in-Certify.is
    (certified_reported c.args.settings c.args.accepted.now.grammar name c.args.text.items _ _ c.certify_in.result c.without-in-Certify.result c.without-in-Certify.ensures c.certify_in.ensures)
