-- One more row behind the others.
use Rattle.std.proofs.Common.{◌≡◌, ℕ, suc, ◌+◌, ◌++◌, ◌∷◌, [], length, ◌∙◌, sym, ap, add-one, arith}
use Rattle.sel_plain.specs.Rows.{Row, Rows, rows_of}
use Rattle.sel_plain.proofs.RowLaws.{rows_of-push, length-rows_of}
use Rattle.sel_plain.proofs.rows.Table.push.Goals as goal

pub overflow_add-self : goal.overflow_add-self
overflow_add-self c =
    let t = c.self.inside in
    let long : length (rows_of t.count t.width t.entries.items) ≡ length c.args.self.now.rows = ap (λ (x : Rows). length x.rows) c.self.view_is in
    let count = length-rows_of t.count t.width t.entries.items in
    let few = c.requires.few in
    omega arith

pub returns-clause-ok : goal.returns-clause-ok
returns-clause-ok c =
    let t = c.self.inside in
    let row : Row = c.args.row.now in
    let width : t.width ≡ c.args.self.now.width = ap (λ (x : Rows). x.width) c.self.view_is in
    let rows : rows_of (t.count + 1) t.width c.extend_from_slice.new.self.items ≡ c.args.self.now.rows ++ row ∷ [] =
    ap (λ (n : ℕ). rows_of n t.width c.extend_from_slice.new.self.items) (add-one t.count) ∙ ap (rows_of (suc t.count) t.width) c.in_ok-extend_from_slice.ensures.items
    ∙ rows_of-push t.count t.width t.entries.items row c.self.invariant (c.requires.width ∙ sym width)
    ∙ ap (λ (x : Rows). x.rows ++ row ∷ []) c.self.view_is in
    λ i. record { width = width i; rows = rows i }
