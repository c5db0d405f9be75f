use Rattle.std.proofs.Common.{sym, ◌∙◌, arith}
use Rattle.sel_grammar_text.proofs.Blanks.{skip_one}
use Rattle.sel_grammar_text.proofs.tokens.skip.Goals as goal

pub loop-rest-preserved : goal.loop-rest-preserved
loop-rest-preserved c = record {
  same = sym (skip_one c.loop-rest.left.now c.in-Some.rest.now c.in-Some.ensures.rest) ∙ c.loop-rest.invariant.same;
  shorter = omega (arith, c.in-Some.ensures.shorter, c.loop-rest.invariant.shorter);
}
