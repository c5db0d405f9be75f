use Rattle.std.proofs.Common.{◌≡◌, ◌≤◌, map, length}
use Rattle.std.specs.List.{AllByRecursion}
use Rattle.sel_grammar.specs.Limits.{most_kids}
use Rattle.sel_grammar_text.specs.Tables.{noted}
use Rattle.sel_grammar_text.specs.Words.{view_named}
use Rattle.sel_grammar_text.proofs.arity.note_uses.Given as goal

abbrev pub invariant-names : goal.invariant-names
invariant-names l = record {
  noted_so : noted (map view_named l.rest) l.operators ≡ noted (map view_named l.pattern) l.fn.operators;
  kids : AllByRecursion (λ n. n.1 ≤ most_kids) (map view_named l.rest);
}

abbrev pub decreases-names : goal.decreases-names
decreases-names l = length l.rest
