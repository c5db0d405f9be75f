-- What is told of a table.
use Rattle.std.proofs.Common.{◌≡◌, ℕ, Bool, true, false, List, length, refl, ap, ◌∙◌}
use Rattle.sel_grammar.specs.declared.grammar.Grammar.{Grammar}
use Rattle.sel_forest.specs.declared.forest.Tree.{Tree}
use Rattle.sel_count.specs.Counts.{CountIs}
use Rattle.sel_count.specs.Things.{IsTabledItems, IsTabledKey}
use Rattle.sel_count.proofs.Existence.{counts_exist}
use Rattle.sel_answers.specs.Output.{IsToldBy, counts_text}
use Rattle.sel_answers.specs.Reported.{marked_text}
use Rattle.sel_answers.specs.Laws.{TablesAreTold}

told_by : (g : Grammar) (trees : List Tree) (used_up row_full : Bool) (states keys d k : ℕ) → CountIs (IsTabledItems g trees) d → CountIs (IsTabledKey g trees) k
    → (used_up ≡ false → states ≡ d) → (used_up ≡ false → row_full ≡ false → keys ≡ k) → IsToldBy used_up row_full g trees (marked_text used_up row_full states keys)
told_by g trees false false states keys d k ds ks is also =
    (d, k, ds, ks, ap (λ n. counts_text n keys) (is refl) ∙ ap (λ n. counts_text d n) (also refl refl))
told_by g trees false true states keys d k ds ks is also = refl
told_by g trees true row_full states keys d k ds ks is also = refl

pub told_of_table : TablesAreTold
told_of_table g normal trees t form valid whole =
    let counts = counts_exist g trees form.lawful form.accepted valid in
    let d = (counts.0).0 in
    let ds = (counts.0).1 in
    let k = (counts.1).0 in
    let ks = (counts.1).1 in
    told_by g trees t.used_up t.row_full (length t.states) (length t.transitions) d k ds ks (whole.state_count d ds) (whole.key_count k ks)
