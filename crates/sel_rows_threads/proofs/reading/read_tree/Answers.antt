use Rattle.std.proofs.Common.{ap, sym, ◌∙◌}
use Rattle.std.specs.Prelude.{slice_get}
use Rattle.sel_rows_threads.proofs.Means.{each_means}
use Rattle.sel_rows_threads.proofs.reading.read_tree.Goals as goal

pub add_all-requires-clause-means : goal.add_all-requires-clause-means
add_all-requires-clause-means g c =
    let (h, accepted, valid) = c.requires.tree in
    λ k l at. each_means h (g.A.Automaton.told c.label_tree.new.automaton) c.args.tree.now c.in_ok-labels.labels.of valid
    (c.in_ok-labels.ensures.labelled h accepted valid) k l (ap (λ xs. slice_get xs k) (sym c.as_slice.ensures) ∙ at)
