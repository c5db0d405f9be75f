use Rattle.std.proofs.Common.{rules, ◌≡◌, sym, subst}
use Rattle.sel_grammar_print.specs.PrintedGrammar.{printed, SpellsAgain}
use Rattle.sel_grammar_print.proofs.PrintedSteps.{all_put}
use Rattle.sel_grammar_print.proofs.RoundTrip.{read_again}
use Rattle.sel_grammar_print.proofs.print.print_grammar.Goals as goal

pub returns-clause-exact : goal.returns-clause-exact
returns-clause-exact c = search (rules, all_put)

pub returns-clause-again : goal.returns-clause-again
returns-clause-again c source spells =
    let exact : c.from_vec.result ≡ printed c.args.grammar.now = search (rules, all_put) in
    subst (λ text. SpellsAgain text c.args.grammar.now) (sym exact) (read_again source c.args.grammar.now spells)
