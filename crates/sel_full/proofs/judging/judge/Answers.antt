use Rattle.std.proofs.Common.{◌∙◌, subst, ℕ, List, Option}
use Rattle.sel_items.specs.declared.items.Items.{Items}
use Rattle.sel_full.specs.Judging.{IsWrongState, IsFirstOf, AreApart}
use Rattle.sel_full.specs.Numbering.{AreNumbers}
use Rattle.sel_full.specs.Tables.{all_keys}
use Rattle.sel_full.proofs.Judged.{kid_states, lawful, first_wrong}
use Rattle.sel_full.proofs.judging.judge.Goals as goal

pub number_all-requires-clause-sets : goal.number_all-requires-clause-sets
number_all-requires-clause-sets c = kid_states c.args.normal.now c.args.table.now c.requires.form c.in_ok-states.states (c.in_ok-states.ensures.are ∙ c.as_slice.ensures)

pub returns-in-None-clause-lawful : goal.returns-in-None-clause-lawful
returns-in-None-clause-lawful c =
    let right = subst (λ (xs : List Items). (k : ℕ) → IsWrongState xs k → ⊥) c.as_slice.ensures c.in_ok-states.ensures.right in
    let numbers = subst (λ (xs : List Items). AreNumbers c.args.normal.now xs c.in_ok-own.own (all_keys c.args.normal.now xs)) (c.in_ok-states.ensures.are ∙ c.as_slice.ensures) c.in_ok-own.ensures in
    let never = subst (λ (ns : List ℕ). (p : ℕ) → AreApart c.in_ok-own.own ns p → ⊥) c.as_slice-3.ensures (subst (λ (ns : List (Option ℕ)). (p : ℕ) → AreApart ns c.as_slice-3.result.now p → ⊥) c.as_slice-2.ensures c.in-None.ensures) in
    lawful c.args.normal.now c.args.table.now c.requires.form right c.in_ok-own.own numbers never

pub returns-clause-fault : goal.returns-clause-fault
returns-clause-fault c =
    let right = subst (λ (xs : List Items). (k : ℕ) → IsWrongState xs k → ⊥) c.as_slice.ensures c.in_ok-states.ensures.right in
    let numbers = subst (λ (xs : List Items). AreNumbers c.args.normal.now xs c.in_ok-own.own (all_keys c.args.normal.now xs)) (c.in_ok-states.ensures.are ∙ c.as_slice.ensures) c.in_ok-own.ensures in
    let first = subst (λ (ns : List ℕ). IsFirstOf (AreApart c.in_ok-own.own ns) c.in-Some.place) c.as_slice-3.ensures (subst (λ (ns : List (Option ℕ)). IsFirstOf (AreApart ns c.as_slice-3.result.now) c.in-Some.place) c.as_slice-2.ensures c.in-Some.ensures) in
    (right, first_wrong c.args.normal.now c.args.table.now c.requires.form right c.in_ok-own.own numbers c.in-Some.place first)
