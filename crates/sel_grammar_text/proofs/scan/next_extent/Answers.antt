-- The loop over an item's tokens.
use Rattle.std.proofs.Common.{◌≡◌, ◌+◌, ◌-◌, ◌<◌, length, refl, sym, subst, arith, Some, None, Bool, true, false, cond, ◌≤◌}
use Rattle.sel_grammar_text.specs.Pieces.{view}
use Rattle.sel_grammar_text.specs.Machine.{wants_cost, is_name}
use Rattle.sel_grammar_text.specs.FormDecision.{decided_fault}
use Rattle.sel_grammar_text.proofs.Walking.{Sees, walk_fault, walk_next, walk_end, not_end, not_ended}
use Rattle.sel_grammar_text.proofs.Shorter.{behind_less}
use Rattle.sel_grammar_text.proofs.Depths.{step_depth}
use Rattle.sel_grammar_text.proofs.scan.next_extent.Goals as goal

at_most_one : (b : Bool) → cond b 1 0 ≤ 1
at_most_one true = omega arith
at_most_one false = omega arith

pub returns-in-Err-clause-fault : goal.returns-in-Err-clause-fault
returns-in-Err-clause-fault c =
    let found = c.next_token-found.result in
    let last = c.args.all - length found.from.now in
    let e : Sees c.args.all c.tokens.rest.now found.from.now found.behind.now (view found.piece) last =
    record { from_is = c.next_token-found.ensures.from; token_is = c.next_token-found.ensures.token; more_is = c.next_token-found.ensures.behind; at_is = refl } in
    walk_fault c.args.all c.args.start c.args.text.now c.tokens.state c.tokens.names c.tokens.rest.now c.tokens.count c.tokens.invariant.walk found.from.now found.behind.now (view found.piece) last e c.in-Err.fault
    (subst (λ n. decided_fault c.args.all c.tokens.state n (wants_cost c.tokens.state) (record { token = view found.piece; at = last }) found.behind.now ≡ Some c.in-Err.fault) c.saturating_sub.ensures c.in-Err.ensures.fault)

pub returns-then-is_border-clause-extent : goal.returns-then-is_border-clause-extent
returns-then-is_border-clause-extent c =
    let found = c.next_token-found.result in
    let last = c.args.all - length found.from.now in
    let e : Sees c.args.all c.tokens.rest.now found.from.now found.behind.now (view found.piece) last =
    record { from_is = c.next_token-found.ensures.from; token_is = c.next_token-found.ensures.token; more_is = c.next_token-found.ensures.behind; at_is = refl } in
    let d : decided_fault c.args.all c.tokens.state (c.tokens.names - 1) (wants_cost c.tokens.state) (record { token = view found.piece; at = last }) found.behind.now ≡ None =
    subst (λ n. decided_fault c.args.all c.tokens.state n (wants_cost c.tokens.state) (record { token = view found.piece; at = last }) found.behind.now ≡ None) c.saturating_sub.ensures c.in-Ok.ensures.accepted in
    walk_end c.args.all c.args.start c.args.text.now c.tokens.state c.tokens.names c.tokens.rest.now c.tokens.count c.tokens.invariant.walk found.from.now found.behind.now (view found.piece) last e c.in-Ok.next (record { count = c.tokens.count + 1; state = c.in-Ok.next; last = last; behind = found.behind }) d c.in-Ok.ensures.stepped (sym c.if-is_border.ensures) (omega arith) refl refl refl

pub returns-then-is_border-clause-shorter : goal.returns-then-is_border-clause-shorter
returns-then-is_border-clause-shorter c = λ open_end.
    let found = c.next_token-found.result in
    let last = c.args.all - length found.from.now in
    let e : Sees c.args.all c.tokens.rest.now found.from.now found.behind.now (view found.piece) last =
    record { from_is = c.next_token-found.ensures.from; token_is = c.next_token-found.ensures.token; more_is = c.next_token-found.ensures.behind; at_is = refl } in
    let open_still = open_end in
    let less : length found.behind.now < length c.tokens.rest.now =
    subst (λ x. length x < length c.tokens.rest.now) (sym c.next_token-found.ensures.behind) (behind_less c.tokens.rest.now (not_end c.args.all c.args.start c.args.text.now c.tokens.state c.tokens.names c.tokens.rest.now c.tokens.count c.tokens.invariant.walk found.from.now found.behind.now (view found.piece) last e c.in-Ok.next c.in-Ok.ensures.stepped open_still)) in
    omega (arith, less, c.tokens.invariant.within)

pub tokens-smaller : goal.tokens-smaller
tokens-smaller c =
    let found = c.next_token-found.result in
    let last = c.args.all - length found.from.now in
    let e : Sees c.args.all c.tokens.rest.now found.from.now found.behind.now (view found.piece) last =
    record { from_is = c.next_token-found.ensures.from; token_is = c.next_token-found.ensures.token; more_is = c.next_token-found.ensures.behind; at_is = refl } in
    let open_still = not_ended c.args.all c.args.start c.args.text.now c.tokens.state c.tokens.names c.tokens.rest.now c.tokens.count c.tokens.invariant.walk found.from.now found.behind.now (view found.piece) last e c.in-Ok.next (sym c.if-is_border.ensures) in
    let less : length found.behind.now < length c.tokens.rest.now =
    subst (λ x. length x < length c.tokens.rest.now) (sym c.next_token-found.ensures.behind) (behind_less c.tokens.rest.now (not_end c.args.all c.args.start c.args.text.now c.tokens.state c.tokens.names c.tokens.rest.now c.tokens.count c.tokens.invariant.walk found.from.now found.behind.now (view found.piece) last e c.in-Ok.next c.in-Ok.ensures.stepped open_still)) in
    less

pub tokens-preserved : goal.tokens-preserved
tokens-preserved c =
    let found = c.next_token-found.result in
    let last = c.args.all - length found.from.now in
    let e : Sees c.args.all c.tokens.rest.now found.from.now found.behind.now (view found.piece) last =
    record { from_is = c.next_token-found.ensures.from; token_is = c.next_token-found.ensures.token; more_is = c.next_token-found.ensures.behind; at_is = refl } in
    let d : decided_fault c.args.all c.tokens.state (c.tokens.names - 1) (wants_cost c.tokens.state) (record { token = view found.piece; at = last }) found.behind.now ≡ None =
    subst (λ n. decided_fault c.args.all c.tokens.state n (wants_cost c.tokens.state) (record { token = view found.piece; at = last }) found.behind.now ≡ None) c.saturating_sub.ensures c.in-Ok.ensures.accepted in
    let open_still = not_ended c.args.all c.args.start c.args.text.now c.tokens.state c.tokens.names c.tokens.rest.now c.tokens.count c.tokens.invariant.walk found.from.now found.behind.now (view found.piece) last e c.in-Ok.next (sym c.if-is_border.ensures) in
    let less : length found.behind.now < length c.tokens.rest.now =
    subst (λ x. length x < length c.tokens.rest.now) (sym c.next_token-found.ensures.behind) (behind_less c.tokens.rest.now (not_end c.args.all c.args.start c.args.text.now c.tokens.state c.tokens.names c.tokens.rest.now c.tokens.count c.tokens.invariant.walk found.from.now found.behind.now (view found.piece) last e c.in-Ok.next c.in-Ok.ensures.stepped open_still)) in
    record {
      walk = walk_next c.args.all c.args.start c.args.text.now c.tokens.state c.tokens.names c.tokens.rest.now c.tokens.count c.tokens.invariant.walk found.from.now found.behind.now (view found.piece) last e c.in-Ok.next c.with_name-names.result (c.tokens.count + 1) d c.in-Ok.ensures.stepped (sym c.if-is_border.ensures) c.with_name-names.ensures (omega arith);
      within = omega (arith, less, c.tokens.invariant.within);
      depth = omega (arith, less, c.tokens.invariant.depth, step_depth c.tokens.state (view found.piece) c.in-Ok.next c.in-Ok.ensures.stepped);
      names = omega (arith, less, c.tokens.invariant.names, at_most_one (is_name (view found.piece)), c.with_name-names.ensures);
      count = omega (arith, less, c.tokens.invariant.count);
    }
