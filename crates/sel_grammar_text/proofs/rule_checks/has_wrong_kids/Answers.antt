use Rattle.std.proofs.Common.{◌≡◌, ◌∙◌, ap, sym, rules, true, false, None, Some, ◌||◌, map, arith}
use Rattle.std.specs.Prelude.{nat_lt}
use Rattle.sel_grammar.specs.Limits.{most_kids}
use Rattle.sel_grammar_text.specs.Checks as checks
use Rattle.sel_grammar_text.specs.Names as spec
use Rattle.sel_grammar_text.specs.Tables.{arity_in, or_count}
use Rattle.sel_grammar_text.specs.Words.{view_named}
use Rattle.sel_grammar_text.proofs.RuleChecks.{wrong_unknown, wrong_known}
use Rattle.sel_grammar_text.proofs.rule_checks.has_wrong_kids.Goals as goal

pub returns-in_default : goal.returns-in_default
returns-in_default c = λ us all h.
    let none : arity_in c.args.operators.now c.args.named.now.word.bytes.now ≡ None = search rules in
    wrong_unknown us (map view_named c.args.earlier.now) all (view_named c.args.named.now) (ap (λ o. arity_in o c.args.named.now.word.bytes.now) (sym h) ∙ none)

pub returns-then-named-gt-MOST_KIDS : goal.returns-then-named-gt-MOST_KIDS
returns-then-named-gt-MOST_KIDS c = λ us all h.
    let some : arity_in c.args.operators.now c.args.named.now.word.bytes.now ≡ Some c.in-Some.known = search rules in
    let many : nat_lt most_kids c.args.named.now.kids ≡ true = grind (arith, c.if-named-gt-MOST_KIDS.true) in
    ap (λ b. b || checks.differs (or_count c.in-Some.known (spec.first_use (map view_named c.args.earlier.now) c.args.named.now.word.bytes.now)) c.args.named.now.kids) (sym many)
    ∙ wrong_known us (map view_named c.args.earlier.now) all (view_named c.args.named.now) c.in-Some.known (ap (λ o. arity_in o c.args.named.now.word.bytes.now) (sym h) ∙ some)

pub returns : goal.returns
returns c = λ us all h.
    let some : arity_in c.args.operators.now c.args.named.now.word.bytes.now ≡ Some c.in-Some.known = search rules in
    let few : nat_lt most_kids c.args.named.now.kids ≡ false = grind (arith, c.if-named-gt-MOST_KIDS.false) in
    let d : c.differs.result ≡ checks.differs (or_count c.in-Some.known (spec.first_use (map view_named c.args.earlier.now) c.args.named.now.word.bytes.now)) c.args.named.now.kids = search rules in
    d ∙ ap (λ b. b || checks.differs (or_count c.in-Some.known (spec.first_use (map view_named c.args.earlier.now) c.args.named.now.word.bytes.now)) c.args.named.now.kids) (sym few)
    ∙ wrong_known us (map view_named c.args.earlier.now) all (view_named c.args.named.now) c.in-Some.known (ap (λ o. arity_in o c.args.named.now.word.bytes.now) (sym h) ∙ some)
