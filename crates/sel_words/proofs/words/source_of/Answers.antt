use Rattle.std.proofs.Common.{arith, None, sym}
use Rattle.std.proofs.lemmas.Str.Pattern.{strip_prefix_char}
use Rattle.sel_words.proofs.Sources.{held_source}
use Rattle.sel_words.proofs.words.source_of.Goals as goal

pub returns-in-None-clause-exact : goal.returns-in-None-clause-exact
returns-in-None-clause-exact c = sym (held_source c.args.word.now (strip_prefix_char 64 c.args.word.now None c.in-None.ensures.cases (omega arith)))
