use Rattle.std.proofs.Common.{ap, ◌∷◌, [], ◌++◌, subst, sym}
use Rattle.sel_grammar_text.specs.Words.{view_item, view_word, view_rule}
use Rattle.sel_grammar_text.specs.Tables.{Means}
use Rattle.sel_grammar_text.proofs.TableSteps.{means_code, means_percents, start_added, entry_added, rule_added}
use Rattle.sel_grammar_text.proofs.tables.Tables.add.Goals as goal

pub returns-in-Start : goal.returns-in-Start
returns-in-Start c = start_added c.add_start.result c.args.line c.args.column (view_item c.args.item.now) (view_word c.in-Start.word) c.args.self.now _ (ap view_item c.in-Start.is)
    c.add_start.ensures.start c.add_start.ensures.uses c.add_start.ensures.rest

pub returns-in-Entry : goal.returns-in-Entry
returns-in-Entry c = entry_added c.add_operator.result c.args.line c.args.column (view_item c.args.item.now) (view_word c.in-Entry.name) (view_word c.in-Entry.number) c.args.self.now _ (ap view_item c.in-Entry.is)
    c.add_operator.ensures.operators c.add_operator.ensures.rest

pub returns-in-Rule : goal.returns-in-Rule
returns-in-Rule c = rule_added c.add_rule.result c.args.line c.args.column (view_item c.args.item.now) (view_rule c.in-Rule.rule) c.args.self.now _ (ap view_item c.in-Rule.is)
    c.add_rule.ensures.start c.add_rule.ensures.operators c.add_rule.ensures.nonterminals c.add_rule.ensures.rules c.add_rule.ensures.lefts c.add_rule.ensures.uses

pub returns-in-Code : goal.returns-in-Code
returns-in-Code c = λ bytes before m p q z. subst (λ i. Means bytes (before ++ (view_item i ∷ [])) c.args.self.now) (sym c.in-Code.is) (means_code bytes before c.args.self.now m)

pub returns-in-Percents : goal.returns-in-Percents
returns-in-Percents c = λ bytes before m p q z. subst (λ i. Means bytes (before ++ (view_item i ∷ [])) c.args.self.now) (sym c.in-Percents.is) (means_percents bytes before c.in-Percents.field-0 c.args.self.now m)
