use Rattle.std.specs.Prelude.{slice_index_or}
use Rattle.sel_items.specs.declared.label.Label.TheVariants.{Numbered}
use Rattle.sel_rows_threads.proofs.Means.{get_index}
use Rattle.sel_rows_threads.proofs.reading.add_all.Goals as goal

pub add_items-requires-clause-means : goal.add_items-requires-clause-means
add_items-requires-clause-means g c =
    let labels = c.args.labels.now in
    let k = c.labels.label-index in
    c.labels.invariant.mean k (slice_index_or labels k (Numbered 0)) (get_index labels k (Numbered 0) c.labels-test.true)
