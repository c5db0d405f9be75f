use Rattle.std.proofs.Common.{ℕ, ◌∷◌, ◌++◌, [], ◌∙◌, ap}
use Rattle.indexmap.proofs.CallerLemmas.{insert_entry-new}
use Rattle.sel_auto.specs.contracts.key.StateKeyPartialEq.TheImpl.{eq-value}
use Rattle.sel_auto.specs.Sets.{IsAmong}
use Rattle.sel_auto.proofs.Finding.{no_lookup}
use Rattle.sel_auto.proofs.KeyEquality.{same}
use Rattle.sel_auto.proofs.transitions.Transitions.push.Goals as goal

pub returns-clause-ok : goal.returns-clause-ok
returns-clause-ok c =
    let none : (n : ℕ) → IsAmong (c.self.inside.numbers).entries (c.args.key, n) → ⊥ = rw c.self.view_is c.requires.new in
    c.in_ok-insert.ensures.entries ∙ insert_entry-new eq-value.it c.self.inside.numbers c.args.key c.args.number (no_lookup eq-value.it same (c.self.inside.numbers).entries c.args.key none) ∙ ap (λ es. es ++ (c.args.key, c.args.number) ∷ []) c.self.view_is
