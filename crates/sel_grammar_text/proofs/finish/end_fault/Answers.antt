use Rattle.std.proofs.Common.{◌≡◌, ◌∙◌, ap, sym, rules, length, map, eqb, false, None, Some}
use Rattle.sel_grammar_text.specs.GrammarText.{first_absent}
use Rattle.sel_grammar_text.specs.Words.{view_word}
use Rattle.sel_grammar_text.proofs.FromTables.{no_rules_fault, absent_fault, absent_told, rules_counted}
use Rattle.sel_grammar_text.proofs.finish.end_fault.Goals as goal

pub returns-then-is_empty : goal.returns-then-is_empty
returns-then-is_empty c = λ bytes all m.
    let none : length c.args.tables.now.rules.items ≡ 0 = search rules in
    no_rules_fault all c.args.at (sym (rules_counted bytes all c.args.tables.now m) ∙ none)

pub returns-in-None : goal.returns-in-None
returns-in-None c = λ bytes all m.
    let some : eqb (length c.args.tables.now.rules.items) 0 ≡ false = search rules in
    let told : first_absent (map (λ w. w.bytes) (map view_word c.args.tables.now.lefts.items)) (map view_word c.args.tables.now.uses.items) ≡ None = search rules in
    absent_fault all c.args.at None (ap (λ n. eqb n 0) (sym (rules_counted bytes all c.args.tables.now m)) ∙ some) (sym told ∙ absent_told bytes all c.args.tables.now m)

pub returns-in-Some : goal.returns-in-Some
returns-in-Some c = λ bytes all m.
    let some : eqb (length c.args.tables.now.rules.items) 0 ≡ false = search rules in
    let told : first_absent (map (λ w. w.bytes) (map view_word c.args.tables.now.lefts.items)) (map view_word c.args.tables.now.uses.items) ≡ Some c.in-Some.at = search rules in
    absent_fault all c.args.at (Some c.in-Some.at) (ap (λ n. eqb n 0) (sym (rules_counted bytes all c.args.tables.now m)) ∙ some) (sym told ∙ absent_told bytes all c.args.tables.now m)
