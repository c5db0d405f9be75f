use Rattle.std.proofs.Common.{◌≡◌, ◌++◌, map, take, drop}
use Rattle.sel_grammar_text.specs.Tables.{with_use}
use Rattle.sel_grammar_text.specs.Words.{view_named}
use Rattle.sel_grammar_text.proofs.arity.note_use.Given as goal

abbrev pub invariant-operators : goal.invariant-operators
invariant-operators l = take l.operator-index l.operators ++ map (with_use (view_named l.named)) (drop l.operator-index l.operators) ≡ map (with_use (view_named l.named)) l.fn.operators
