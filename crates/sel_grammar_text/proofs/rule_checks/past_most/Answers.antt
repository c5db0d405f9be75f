use Rattle.std.proofs.Common.{◌≡◌, ◌∙◌, sym, rules, true, false, not, ◌&&◌, eqb, [], get_or, arith}
use Rattle.sel_grammar_text.specs.Names.{is_among}
use Rattle.sel_grammar_text.specs.Tables.{operator_names}
use Rattle.sel_grammar_text.specs.Words.{view_named, view_word}
use Rattle.sel_grammar_text.specs.declared.words.Named.{Named}
use Rattle.sel_grammar_text.proofs.RuleChecks.{known_to, past_no_leaf, past_known, past_new, past_full, from_not_false, from_not_true}
use Rattle.sel_grammar_text.proofs.rule_checks.past_most.Goals as goal

abbrev none : Named
none = record { word = record { bytes = record { ref_ptr = (0, 0); now = [] }; at = 0 }; kids = 0 }

pub names-preserved-then-not-is_leaf : goal.names-preserved-then-not-is_leaf
names-preserved-then-not-is_leaf c =
    let leaf : (eqb (view_named (get_or c.as_slice-pattern.result.now c.names.i none)).1 0 && not (is_among (operator_names c.args.operators.now) (view_named (get_or c.as_slice-pattern.result.now c.names.i none)).0.bytes)) ≡ false = search rules in
    let s = past_no_leaf view_named (operator_names c.args.operators.now) c.args.nonterminals.now (view_word c.args.rule.now.left) c.as_slice-pattern.result.now c.names.i c.names.count none c.names-test.true leaf c.names.invariant.counted in
    record { same = s.same ∙ c.names.invariant.same; counted = s.counted; room = omega arith }

pub names-preserved-then-not-is_new : goal.names-preserved-then-not-is_new
names-preserved-then-not-is_new c =
    let leaf : (eqb (view_named (get_or c.as_slice-pattern.result.now c.names.i none)).1 0 && not (is_among (operator_names c.args.operators.now) (view_named (get_or c.as_slice-pattern.result.now c.names.i none)).0.bytes)) ≡ true = search rules in
    let known : is_among (known_to view_named (operator_names c.args.operators.now) c.args.nonterminals.now (view_word c.args.rule.now.left) c.as_slice-pattern.result.now c.names.i) (view_named (get_or c.as_slice-pattern.result.now c.names.i none)).0.bytes ≡ true = from_not_false _ (sym (c.is_new.ensures c.args.rule.now.left.at) ∙ c.if-not-is_new.true) in
    let s = past_known view_named (operator_names c.args.operators.now) c.args.nonterminals.now (view_word c.args.rule.now.left) c.as_slice-pattern.result.now c.names.i c.names.count none c.names-test.true leaf known c.names.invariant.counted in
    record { same = s.same ∙ c.names.invariant.same; counted = s.counted; room = omega arith }

pub returns-then-count-ge-MOST_NONTERMINALS-2 : goal.returns-then-count-ge-MOST_NONTERMINALS-2
returns-then-count-ge-MOST_NONTERMINALS-2 c =
    let leaf : (eqb (view_named (get_or c.as_slice-pattern.result.now c.names.i none)).1 0 && not (is_among (operator_names c.args.operators.now) (view_named (get_or c.as_slice-pattern.result.now c.names.i none)).0.bytes)) ≡ true = search rules in
    let known : is_among (known_to view_named (operator_names c.args.operators.now) c.args.nonterminals.now (view_word c.args.rule.now.left) c.as_slice-pattern.result.now c.names.i) (view_named (get_or c.as_slice-pattern.result.now c.names.i none)).0.bytes ≡ false = from_not_true _ (sym (c.is_new.ensures c.args.rule.now.left.at) ∙ c.if-not-is_new.false) in
    past_full view_named (operator_names c.args.operators.now) c.args.nonterminals.now (view_word c.args.rule.now.left) c.as_slice-pattern.result.now c.names.i c.names.count none _ c.names-test.true leaf known c.names.invariant.counted c.if-count-ge-MOST_NONTERMINALS-2.true c.names.invariant.same

pub names-preserved : goal.names-preserved
names-preserved c =
    let leaf : (eqb (view_named (get_or c.as_slice-pattern.result.now c.names.i none)).1 0 && not (is_among (operator_names c.args.operators.now) (view_named (get_or c.as_slice-pattern.result.now c.names.i none)).0.bytes)) ≡ true = search rules in
    let known : is_among (known_to view_named (operator_names c.args.operators.now) c.args.nonterminals.now (view_word c.args.rule.now.left) c.as_slice-pattern.result.now c.names.i) (view_named (get_or c.as_slice-pattern.result.now c.names.i none)).0.bytes ≡ false = from_not_true _ (sym (c.is_new.ensures c.args.rule.now.left.at) ∙ c.if-not-is_new.false) in
    let s = past_new view_named (operator_names c.args.operators.now) c.args.nonterminals.now (view_word c.args.rule.now.left) c.as_slice-pattern.result.now c.names.i c.names.count none c.names-test.true leaf known c.names.invariant.counted c.if-count-ge-MOST_NONTERMINALS-2.false in
    record { same = s.same ∙ c.names.invariant.same; counted = s.counted; room = omega arith }
