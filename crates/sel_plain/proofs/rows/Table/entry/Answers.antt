-- The entry's place in the one list.
use Rattle.std.proofs.Common.{◌+◌, ◌*◌, ◌∙◌, sym, ap}
use Rattle.sel_plain.specs.Rows.{Rows, entry_at, row_at}
use Rattle.sel_plain.proofs.RowLaws.{entry_rows, entry_rows_past, entry_rows_beside}
use Rattle.sel_plain.proofs.rows.Table.entry.Goals as goal
use Rattle.sel_plain.proofs.rows.Table.entry.Goals.{else-at-self-via-then-at-self+else-nonterminal-self, else-at-self-via-else-at-self}

pub returns-then-nonterminal-self : goal.returns-then-nonterminal-self
returns-then-nonterminal-self c =
    let t = c.self.inside in
    c.entry_of.ensures ∙ ap (λ xs. entry_at xs (c.args.at * t.width + c.args.nonterminal)) c.as_slice.ensures.value
    ∙ sym (entry_rows t.count t.width c.args.at c.args.nonterminal t.entries.items c.if-at-self.true c.if-nonterminal-self.true)
    ∙ ap (λ (x : Rows). entry_at (row_at x.rows c.args.at) c.args.nonterminal) c.self.view_is

pub returns-else-at-self : goal.returns-else-at-self
returns-else-at-self c =
    let t = c.self.inside in
    elim c.else-at-self.branch [
      | else-at-self-via-then-at-self+else-nonterminal-self w ↦
          sym (entry_rows_beside t.count t.width c.args.at c.args.nonterminal t.entries.items w.if-nonterminal-self.false)
          ∙ ap (λ (x : Rows). entry_at (row_at x.rows c.args.at) c.args.nonterminal) c.self.view_is
      | else-at-self-via-else-at-self w ↦
          sym (entry_rows_past t.count t.width c.args.at c.args.nonterminal t.entries.items w.if-at-self.false)
          ∙ ap (λ (x : Rows). entry_at (row_at x.rows c.args.at) c.args.nonterminal) c.self.view_is
    ]
