use Rattle.std.proofs.Common.{◌++◌, ◌∷◌, [], ◌∙◌, ap, subst, length, All, map, arith}
use Rattle.sel_check.specs.CertificateTexts.{row_line, tree_line}
use Rattle.sel_check.specs.LineReading.{IsRefusedBehind}
use Rattle.sel_check.specs.WantedLines.{Rules, IsRow, wanted_rows}
use Rattle.sel_check.proofs.Reading.{rows_wanted, refused_rows, refused_rules, is_for, took_room}
use Rattle.sel_check.proofs.lines.Lines.certificate.Goals as goal

pub returns-in-Err-clause-fault : goal.returns-in-Err-clause-fault
returns-in-Err-clause-fault c = λ others. c.in-Err.ensures.fault ((wanted_rows c.args.grammar.now c.args.tree.now ++ (Rules ∷ [])) ++ others)

pub returns-in-Err-rows-clause-fault : goal.returns-in-Err-rows-clause-fault
returns-in-Err-rows-clause-fault c = λ others.
    refused_rows c.args.grammar.now c.args.tree.now c.args.number c.args.self.now c.title.new.self others c.in-Err-rows.refusal c.in-Ok.ensures.line
    (λ more. subst (λ nodes. IsRefusedBehind c.title.new.self (rows_wanted (length c.args.grammar.now.nonterminals) nodes ++ more) c.in-Err-rows.refusal) c.as_slice.ensures
    (subst (λ w. IsRefusedBehind c.title.new.self (rows_wanted w c.as_slice.result.now ++ more) c.in-Err-rows.refusal) c.len.ensures (c.in-Err-rows.ensures.fault more)))

pub rules-requires : goal.rules-requires
rules-requires c =
    let room = c.requires.room in record {
      room = omega (arith, room, took_room c.args.self.now c.title.new.self (tree_line c.args.number ∷ []) c.in-Ok.ensures.line, took_room c.title.new.self c.rows.new.self (map row_line c.in-Ok-rows.costs) c.in-Ok-rows.ensures.lines.1);
    }

pub returns-in-Err-rules-clause-fault : goal.returns-in-Err-rules-clause-fault
returns-in-Err-rules-clause-fault c = λ others.
    refused_rules c.args.grammar.now c.args.tree.now c.args.number c.args.self.now c.title.new.self c.rows.new.self c.in-Ok-rows.costs others c.in-Err-rules.refusal c.in-Ok.ensures.line
    (c.in-Ok-rows.ensures.count ∙ ap length c.as_slice.ensures) (subst (λ w. All (IsRow w) c.in-Ok-rows.costs) c.len.ensures c.in-Ok-rows.ensures.lines.0) c.in-Ok-rows.ensures.lines.1 c.in-Err-rules.ensures.fault

pub returns-clause-form : goal.returns-clause-form
returns-clause-form c =
    is_for c.args.grammar.now c.args.tree.now c.in-Ok-rows.costs c.in-Ok-rules.rules
    (c.in-Ok-rows.ensures.count ∙ ap length c.as_slice.ensures) (subst (λ w. All (IsRow w) c.in-Ok-rows.costs) c.len.ensures c.in-Ok-rows.ensures.lines.0) c.in-Ok-rules.ensures.line.0
