use Rattle.std.proofs.Common.{◌≡◌, List, Some, None, Option, MatchOption, ℕ, length, map, sym, ◌∙◌, subst}
use Rattle.sel_items.specs.declared.items.Items.{Items}
use Rattle.sel_full.specs.Numbering.{AreNumbers}
use Rattle.sel_full.specs.Reach.{IsOneOf}
use Rattle.sel_full.specs.Tables.{all_keys}
use Rattle.sel_full.specs.Taking.{AreFound, TookTo}
use Rattle.sel_full.proofs.Settled.{settled, complete, none_missing}
use Rattle.sel_full.proofs.building.complete.Goals as goal

pub number_all-requires-clause-sets : goal.number_all-requires-clause-sets
number_all-requires-clause-sets c = ((c.requires.found).are).sets

pub returns-in-Some : goal.returns-in-Some
returns-in-Some c =
    let e = sym c.in_ok-list.ensures in
    let there = subst (λ (o : Option (List ℕ)). MatchOption o (IsOneOf c.as_slice.result.now None) (λ ns. map Some ns ≡ c.as_slice.result.now)) c.in-Some.is c.in_ok-numbers.ensures in
    complete c.args.normal.now c.args.limits.states c.args.limits.rows (record { states = c.in_ok-list.list; numbers = c.in-Some.numbers })
    (subst (λ (xs : List Items). AreFound c.args.normal.now c.args.limits.states c.args.limits.rows xs) e c.requires.found)
    (subst (λ (xs : List Items). TookTo c.args.normal.now xs (length xs)) e c.requires.took)
    (subst (λ (xs : List Items). AreNumbers c.args.normal.now xs (map Some c.in-Some.numbers) (all_keys c.args.normal.now xs)) e
    (subst (λ (ns : List (Option ℕ)). AreNumbers c.args.normal.now c.args.states.now ns (all_keys c.args.normal.now c.args.states.now)) (sym (there ∙ c.as_slice.ensures)) c.in_ok-found.ensures))

pub returns-in-None : goal.returns-in-None
returns-in-None c =
    let missing = subst (λ (o : Option (List ℕ)). MatchOption o (IsOneOf c.as_slice.result.now None) (λ ns. map Some ns ≡ c.as_slice.result.now)) c.in-None.is c.in_ok-numbers.ensures in
    absurd (none_missing c.args.normal.now c.args.states.now c.in_ok-found.found c.in_ok-found.ensures (settled c.args.normal.now c.args.states.now c.is_standing.ensures c.requires.took)
    (subst (λ (ns : List (Option ℕ)). IsOneOf ns None) c.as_slice.ensures missing))
