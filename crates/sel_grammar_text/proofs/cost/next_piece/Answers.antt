use Rattle.sel_grammar_text.specs.CostPieces.{view}
use Rattle.sel_grammar_text.proofs.CostSteps.{found_token}
use Rattle.sel_grammar_text.proofs.cost.next_piece.Goals as goal

pub returns-clause-token : goal.returns-clause-token
returns-clause-token c =
    found_token c.args.rest.at c.args.rest.bytes.now c.skip-from.result.now c.in_ok-first.first.now c.in_ok-first.more.now (view c.piece_at-piece.result) c.width-width.result c.behind.result.now
    c.skip-from.ensures.skipped c.in_ok-first.ensures.cases.0 c.piece_at-piece.ensures.token c.width-width.ensures c.behind.ensures
