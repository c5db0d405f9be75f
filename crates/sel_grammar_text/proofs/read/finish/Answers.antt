use Rattle.sel_grammar_text.specs.GrammarText.{items_of}
use Rattle.sel_grammar_text.proofs.ReadSteps.{finished, fault_behind}
use Rattle.sel_grammar_text.proofs.read.finish.Goals as goal

pub returns-in-Some-clause-stop : goal.returns-in-Some-clause-stop
returns-in-Some-clause-stop c =
    let x = c.requires.taken in
    fault_behind c.args.bytes.now c.args.tables c.args.extent.now x c.requires.ended c.in-Some.fault (c.in-Some.ensures c.args.bytes.now (items_of x.last c.args.bytes.now) x.means)

pub returns-clause-grammar : goal.returns-clause-grammar
returns-clause-grammar c =
    let x = c.requires.taken in
    finished c.args.bytes.now c.args.tables c.args.extent.now x c.requires.ended (c.in_default.ensures c.args.bytes.now (items_of x.last c.args.bytes.now) x.means) c.grammar_of.result
    (c.grammar_of.ensures c.args.bytes.now (items_of x.last c.args.bytes.now) x.means)
