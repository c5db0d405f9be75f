-- What was made is the form of the grammar, which keeps what each normal form keeps.
use Rattle.std.proofs.Common.{◌≡◌, ◌++◌, ◌∙◌, refl, sym, ap, length}
use Rattle.sel_normal.specs.NormalForms.{NormalForm}
use Rattle.sel_normal.specs.Forms.{IsFormOf, helper_rules, places}
use Rattle.sel_normal.proofs.Kept.{IsStanding-form}
use Rattle.sel_normal.proofs.normal.Normal.of.Goals as goal

pub invariant_of-result : goal.invariant_of-result
invariant_of-result c =
    let g = c.args.grammar.now in
    let form : IsFormOf g (record { nonterminals = c.in_ok-nonterminals.nonterminals; user_rules = c.len.result; rules = c.push_helper_rules.new.rules.items; tests = c.in_ok-classes.classes }) = record {
      nonterminals = c.in_ok-nonterminals.ensures.count;
      user_rules = c.len.ensures;
      rules = c.in_ok-push_helper_rules.ensures ∙ ap (λ l. l ++ helper_rules (length g.nonterminals) (places g.rules)) c.in_ok-rules.ensures;
      tests = c.in_ok-classes.ensures;
    } in
    IsStanding-form g _ form c.requires.lawful c.in_ok-nonterminals.ensures.few
