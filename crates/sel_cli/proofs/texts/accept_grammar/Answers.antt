use Rattle.std.proofs.Common.{◌≡◌, refl, subst, rules}
use Rattle.sel_words.specs.Names.{task_for}
use Rattle.sel_cli.specs.Texts.{IsRefusedGrammar}
use Rattle.sel_cli.specs.Parts.{JudgedFor}
use Rattle.sel_cli.proofs.texts.accept_grammar.Goals as goal

pub returns-in-Err-Fault-clause-refused : goal.returns-in-Err-Fault-clause-refused
returns-in-Err-Fault-clause-refused g c =
    let same : c.deref.result.now ≡ c.in-Ok.text.items = search rules in
    record {
      task = task_for c.args.command;
      text = c.in-Ok.text.items;
      has = c.in-Ok.ensures.text;
      is_named = refl;
      within = c.in-Ok.ensures.within;
      refused = subst (λ text. IsRefusedGrammar text c.in-Err-Fault.fault) same (subst (JudgedFor c.deref.result.now) c.in-Err-Fault.field-0-is c.in-Err-Fault.ensures.refused);
    }
