use Rattle.std.proofs.Common.{◌≡◌, ◌∙◌, ap, sym, rules, true, false, not, ◌||◌, map, ◌∷◌}
use Rattle.std.specs.Prelude.{bytes_eq}
use Rattle.sel_grammar_text.specs.Items as items
use Rattle.sel_grammar_text.specs.Names as spec
use Rattle.sel_grammar_text.specs.Tables.{operator_names}
use Rattle.sel_grammar_text.specs.Words.{view_named}
use Rattle.sel_grammar_text.proofs.RuleChecks.{among_words}
use Rattle.sel_grammar_text.proofs.rule_checks.is_new.Goals as goal

pub returns-then-is_name : goal.returns-then-is_name
returns-then-is_name c = λ at.
    let k : spec.is_among c.args.nonterminals.now c.args.name.now ≡ true = search rules in
    sym (ap not (among_words c.args.nonterminals.now (items.word at c.args.left.now ∷ spec.leaves (operator_names c.args.operators.now) (map view_named c.args.earlier.now)) c.args.name.now)
    ∙ ap (λ b. not (b || (bytes_eq c.args.left.now c.args.name.now || spec.is_among (map (λ w. w.bytes) (spec.leaves (operator_names c.args.operators.now) (map view_named c.args.earlier.now))) c.args.name.now))) k)

pub returns-then-eq : goal.returns-then-eq
returns-then-eq c = λ at.
    let k : spec.is_among c.args.nonterminals.now c.args.name.now ≡ false = search rules in
    let e : bytes_eq c.args.left.now c.args.name.now ≡ true = search rules in
    sym (ap not (among_words c.args.nonterminals.now (items.word at c.args.left.now ∷ spec.leaves (operator_names c.args.operators.now) (map view_named c.args.earlier.now)) c.args.name.now)
    ∙ ap (λ b. not (b || (bytes_eq c.args.left.now c.args.name.now || spec.is_among (map (λ w. w.bytes) (spec.leaves (operator_names c.args.operators.now) (map view_named c.args.earlier.now))) c.args.name.now))) k
    ∙ ap (λ b. not (b || spec.is_among (map (λ w. w.bytes) (spec.leaves (operator_names c.args.operators.now) (map view_named c.args.earlier.now))) c.args.name.now)) e)

pub returns : goal.returns
returns c = λ at.
    let k : spec.is_among c.args.nonterminals.now c.args.name.now ≡ false = search rules in
    let e : bytes_eq c.args.left.now c.args.name.now ≡ false = search rules in
    ap not c.is_leaf_name.ensures
    ∙ sym (ap not (among_words c.args.nonterminals.now (items.word at c.args.left.now ∷ spec.leaves (operator_names c.args.operators.now) (map view_named c.args.earlier.now)) c.args.name.now)
    ∙ ap (λ b. not (b || (bytes_eq c.args.left.now c.args.name.now || spec.is_among (map (λ w. w.bytes) (spec.leaves (operator_names c.args.operators.now) (map view_named c.args.earlier.now))) c.args.name.now))) k
    ∙ ap (λ b. not (b || spec.is_among (map (λ w. w.bytes) (spec.leaves (operator_names c.args.operators.now) (map view_named c.args.earlier.now))) c.args.name.now)) e)
