use Rattle.std.proofs.Common.{◌≡◌, ◌++◌, ℕ, List, map, take, drop}
use Rattle.sel_grammar_text.specs.Checks as checks
use Rattle.sel_grammar_text.specs.Items as items
use Rattle.sel_grammar_text.specs.Meaning.{operators_of}
use Rattle.sel_grammar_text.specs.Names as spec
use Rattle.sel_grammar_text.specs.Words.{view_named}
use Rattle.sel_grammar_text.proofs.rule_checks.wrong_kids_at.Given as goal

abbrev pub invariant-names : goal.invariant-names
invariant-names l = (us : List (items.Word × ℕ)) (all : List items.Item) → l.operators ≡ operators_of us all
    → checks.first_wrong_kids (spec.operators all) (us ++ map view_named (take l.i l.pattern)) (map view_named (drop l.i l.pattern)) ≡ checks.first_wrong_kids (spec.operators all) us (map view_named l.pattern)
