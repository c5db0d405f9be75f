-- The row of one more node is the best.
use Rattle.std.proofs.Common.{arith, ◌≡◌, ◌+◌, ◌++◌, ◌∷◌, [], length, sym, ap, ◌∙◌, subst}
use Rattle.std.proofs.lemmas.List.{length_push}
use Rattle.sel_plain.specs.Rows.{Row, Rows}
use Rattle.sel_plain.specs.BestRows.{AreBestRows}
use Rattle.sel_plain.proofs.Tables.{AreBestRows-more}
use Rattle.sel_plain.proofs.fill.filled.Goals as goal

pub loop-at-preserved : goal.loop-at-preserved
loop-at-preserved c =
    let i = c.loop-at.invariant in
    let rows = c.loop-at.table.rows in
    let row : Row = c.close_row.new.row in
    let pushed : c.push.new.self.rows ≡ rows ++ row ∷ [] = ap (λ (x : Rows). x.rows) c.in_ok-push.ensures.ok in
    record {
      long = ap length pushed ∙ length_push rows row ∙ ap (λ n. n + 1) i.long;
      width = ap (λ (x : Rows). x.width) c.in_ok-push.ensures.ok ∙ i.width;
      scratch = let short = c.close_row.auto.row in let given = i.scratch in omega arith;
      best = subst (λ x. AreBestRows c.args.grammar.now c.args.nodes.now x (c.loop-at.at + 1)) (sym pushed)
          (AreBestRows-more c.args.grammar.now c.args.nodes.now rows row c.loop-at.at i.long i.best c.close_row.ensures);
    }
