use Rattle.std.proofs.Common.{[], List, length}
use Rattle.sel_forest.specs.declared.forest.Tree.{Tree}
use Rattle.sel_forest.specs.Tokens.{first, start}
use Rattle.sel_forest.proofs.LineCopies.{IsCopy}
use Rattle.sel_forest.proofs.LineLoop.{Reached}
use Rattle.sel_forest.proofs.read.read_line.Given as goal

abbrev pub invariant-tokens : goal.invariant-tokens
invariant-tokens g l = record {
  reached : Reached l.grammar l.trees l.line l.state l.rest l.around;
  took : (taken : List Tree) → g.T.Taker.took l.fn.taker l.grammar taken [] → g.T.Taker.took l.taker l.grammar taken (first reached.n (start l.line));
  copied : IsCopy l.plain (first reached.n (start l.line)) l.rest l.line;
}

abbrev pub decreases-tokens : goal.decreases-tokens
decreases-tokens g l = length l.rest
