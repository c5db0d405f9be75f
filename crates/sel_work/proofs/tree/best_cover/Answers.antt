use Rattle.sel_work.proofs.Kept.{on_ok, adds_read, kept, plain_count}
use Rattle.sel_work.specs.Kept.{AreTabledKept}
use Rattle.sel_work.proofs.tree.best_cover.Goals as goal

pub returns-in_err-cover-clause-adds : goal.returns-in_err-cover-clause-adds
returns-in_err-cover-clause-adds g c =
    adds_read c.args.grammar.now c.args.tree.now.nodes (g.A.Automaton.told c.args.automaton.now) (g.A.Automaton.told c.label_tree.new.automaton) (g.A.Automaton.told c.reduce.new.automaton) c.reduce.ensures.read
    (c.label_tree.ensures.adds c.args.grammar.now c.requires.form c.requires.tree)

pub returns-clause-adds : goal.returns-clause-adds
returns-clause-adds g c =
    adds_read c.args.grammar.now c.args.tree.now.nodes (g.A.Automaton.told c.args.automaton.now) (g.A.Automaton.told c.label_tree.new.automaton) (g.A.Automaton.told c.reduce.new.automaton) c.reduce.ensures.read
    (c.label_tree.ensures.adds c.args.grammar.now c.requires.form c.requires.tree)

pub returns-clause-tabled : goal.returns-clause-tabled
returns-clause-tabled g c =
    kept c.args.grammar.now c.args.tree.now.nodes (g.A.Automaton.told c.args.automaton.now) (g.A.Automaton.told c.label_tree.new.automaton) (g.A.Automaton.told c.reduce.new.automaton) c.reduce.ensures.read
    c.in_ok-labels.labels.of (c.in_ok-labels.ensures.labelled c.args.grammar.now c.requires.form c.requires.tree)

pub returns-clause-plain_nodes : goal.returns-clause-plain_nodes
returns-clause-plain_nodes g c =
    plain_count c.args.grammar.now c.args.tree.now.nodes (g.A.Automaton.told c.args.automaton.now) (g.A.Automaton.told c.label_tree.new.automaton) (g.A.Automaton.told c.reduce.new.automaton) c.reduce.ensures.read
    c.in_ok-labels.labels.of (c.in_ok-labels.ensures.labelled c.args.grammar.now c.requires.form c.requires.tree) c.plain-plain_nodes.result c.plain-plain_nodes.ensures
