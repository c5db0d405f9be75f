-- An item that passed its checks has room in the tables.
use Rattle.std.proofs.Common.{◌≡◌, ℕ, ◌≤◌, List, None, length, ap, sym, subst, ◌∙◌}
use Rattle.sel_grammar.specs.Limits.{most_nonterminals}
use Rattle.sel_grammar_text.specs.Items.{Item, StartItem, EntryItem, CodeItem, PercentsItem, RuleItem}
use Rattle.sel_grammar_text.specs.Names.{operators, rules, nonterminals, nonterminal_words, with_words, uses}
use Rattle.sel_grammar_text.specs.ItemFaults.{check}
use Rattle.sel_grammar_text.specs.ItemNumbers.{HasNumbers, HasExternal}
use Rattle.sel_grammar_text.specs.Tables.{Means, IsReady, IsReadyFor, operator_names}
use Rattle.sel_grammar_text.specs.declared.tables.Tables.{Tables}
use Rattle.sel_grammar_text.proofs.FromTables.{names_are}
use Rattle.sel_grammar_text.proofs.Passes.{passes, kids_pass, few_words}

room : (bytes : List ℕ) (before : List Item) (item : Item) (t : Tables) → Means bytes before t → check before item ≡ None → IsReadyFor t item
room bytes before (RuleItem r) t m passed =
    let p = passes before (RuleItem r) passed in
    let ws = nonterminal_words (operators before) r in
    let same : with_words t.nonterminals.items (nonterminal_words (operator_names t.operators.items) r) ≡ with_words (nonterminals before) ws =
    ap (λ x. with_words x (nonterminal_words (operator_names t.operators.items) r)) m.nonterminals_are ∙ ap (λ x. with_words (nonterminals before) (nonterminal_words x r)) (names_are bytes before t m) in
    record {
      operators_fit = m.few_operators;
      nonterminals_fit = subst (λ x. length x ≤ most_nonterminals) (sym same)
          (few_words (nonterminals before) ws p.too_many_nonterminals (subst (λ x. length x ≤ most_nonterminals) m.nonterminals_are m.few_nonterminals));
      kids = (kids_pass (operators before) (uses (rules before)) r.pattern p.arity).few;
      costs = p.cost_large;
    }
room bytes before (StartItem w) t m passed = tt
room bytes before (EntryItem name number) t m passed = tt
room bytes before CodeItem t m passed = tt
room bytes before (PercentsItem at) t m passed = tt

pub ready : (bytes : List ℕ) (before : List Item) (item : Item) (t : Tables) → Means bytes before t → check before item ≡ None → HasNumbers item → HasExternal item → IsReady t item
ready bytes before item t m passed numbers external = record { numbers = numbers; external = external; room = room bytes before item t m passed }
