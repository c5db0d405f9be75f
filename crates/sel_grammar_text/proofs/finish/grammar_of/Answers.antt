use Rattle.std.proofs.Common.{◌≡◌, rules, option_map}
use Rattle.sel_grammar_text.specs.Tables.{start_number}
use Rattle.sel_grammar_text.specs.Words.{view_word}
use Rattle.sel_grammar_text.proofs.FromTables.{grammar_made}
use Rattle.sel_grammar_text.proofs.finish.grammar_of.Goals as goal

pub returns : goal.returns
returns c = λ bytes all m.
    let s : c.start_of-start.result ≡ start_number c.args.tables.nonterminals.items (option_map view_word c.args.tables.start) = search rules in
    (rw (c.from_vec.ensures, c.from_vec-2.ensures, c.from_vec-3.ensures) (grammar_made bytes all c.args.tables c.start_of-start.result m s))
