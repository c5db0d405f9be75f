-- The loop over a line's tokens.
use Rattle.std.proofs.Common.{◌-◌, ◌∙◌, [], length, refl, sym, subst, arith, None, Some}
use Rattle.sel_forest.specs.ForestText.{IsLineRefusal}
use Rattle.sel_forest.specs.Pieces.{view}
use Rattle.sel_forest.specs.Tokens.{first, start}
use Rattle.sel_forest.proofs.Reading.{most_two}
use Rattle.sel_forest.proofs.PlaceLemmas.{append-none}
use Rattle.sel_forest.proofs.LineCopies.{IsCopy, copy_next, copy_end}
use Rattle.sel_forest.proofs.LineLoop.{sees, reached_start, reached_names, reached_kids, names_total, sees_lawful, sees_stray, sees_wrong, sees_end, sees_continues, sees_next, sees_more, sees_nothing, sees_shorter, ends_blank, ends_tree}
use Rattle.sel_forest.proofs.read.read_line.Goals as goal

pub tokens-init : goal.tokens-init
tokens-init g c = record {
  reached = reached_start c.args.grammar.now c.args.trees c.args.line.now c.restart.new.self c.restart.ensures;
  took = λ taken took. took;
  copied = λ now. refl;
}

pub returns-in_default-clause-refusal : goal.returns-in_default-clause-refusal
returns-in_default-clause-refusal g c =
    let e = sees c.tokens.state c.tokens.rest.now c.wants_attribute.ensures c.next_token-found.ensures.from c.next_token-found.ensures.token c.next_token-found.ensures.behind c.step.ensures in
    subst (IsLineRefusal c.args.grammar.now c.args.trees c.args.line.now c.args.number) (sym c.fault.ensures)
    (record {
      at = length c.args.line.now - length c.next_token-found.result.from.now;
      first_fault = sees_stray c.args.grammar.now c.args.trees c.args.line.now _ _ _ c.tokens.invariant.reached _ _ _ _ _ e (most_two c.args.grammar.now c.requires.within) c.in_default.is;
      line_is = refl;
      column_is = refl;
    })

pub kind_of-requires-clause-lawful : goal.kind_of-requires-clause-lawful
kind_of-requires-clause-lawful g c =
    let e = sees c.tokens.state c.tokens.rest.now c.wants_attribute.ensures c.next_token-found.ensures.from c.next_token-found.ensures.token c.next_token-found.ensures.behind c.step.ensures in
    sees_lawful c.args.grammar.now c.args.trees c.args.line.now _ _ _ c.tokens.invariant.reached _ _ _ _ _ e

pub returns-in-Some-kind_of-clause-refusal : goal.returns-in-Some-kind_of-clause-refusal
returns-in-Some-kind_of-clause-refusal g c =
    let e = sees c.tokens.state c.tokens.rest.now c.wants_attribute.ensures c.next_token-found.ensures.from c.next_token-found.ensures.token c.next_token-found.ensures.behind c.step.ensures in
    subst (IsLineRefusal c.args.grammar.now c.args.trees c.args.line.now c.args.number) (sym c.fault-in-Some-kind_of.ensures)
    (record {
      at = length c.args.line.now - length c.next_token-found.result.from.now;
      first_fault = sees_wrong c.args.grammar.now c.args.trees c.args.line.now _ _ _ c.tokens.invariant.reached _ _ _ _ _ e _ c.kind_of.ensures (most_two c.args.grammar.now c.requires.within) c.in-Some.next c.in-Some-kind_of.kind c.in-Some.is c.in-Some-kind_of.is;
      line_is = refl;
      column_is = refl;
    })

pub returns-then-names-eq0-clause-line : goal.returns-then-names-eq0-clause-line
returns-then-names-eq0-clause-line g c = λ taken took.
    let e = sees c.tokens.state c.tokens.rest.now c.wants_attribute.ensures c.next_token-found.ensures.from c.next_token-found.ensures.token c.next_token-found.ensures.behind c.step.ensures in
    let ends = sees_end c.args.grammar.now c.args.trees c.args.line.now _ _ _ c.tokens.invariant.reached _ _ _ _ _ e _ c.kind_of.ensures (most_two c.args.grammar.now c.requires.within) c.in-Some.next c.in-Some.is c.in-Ended.is c.in_default-kind_of.is in
    let none = names_total c.args.grammar.now c.args.trees c.args.line.now _ _ _ c.tokens.invariant.reached in
    let (empty, blank) = ends_blank c.args.grammar.now c.args.trees c.args.line.now _ ends (sym none ∙ sym c.names.ensures ∙ c.if-names-eq0.true) in (
      None,
      blank,
      tt,
      omega arith,
      subst (λ taken. g.T.Taker.took c.tokens.taker c.args.grammar.now taken []) (append-none taken)
          (subst (g.T.Taker.took c.tokens.taker c.args.grammar.now taken) empty (c.tokens.invariant.took taken took)),
    )

pub returns-in-Ended-clause-line : goal.returns-in-Ended-clause-line
returns-in-Ended-clause-line g c = λ taken took.
    let e = sees c.tokens.state c.tokens.rest.now c.wants_attribute.ensures c.next_token-found.ensures.from c.next_token-found.ensures.token c.next_token-found.ensures.behind c.step.ensures in
    let ends = sees_end c.args.grammar.now c.args.trees c.args.line.now _ _ _ c.tokens.invariant.reached _ _ _ _ _ e _ c.kind_of.ensures (most_two c.args.grammar.now c.requires.within) c.in-Some.next c.in-Some.is c.in-Ended.is c.in_default-kind_of.is in
    let names = names_total c.args.grammar.now c.args.trees c.args.line.now _ _ _ c.tokens.invariant.reached in
    let (tree, tokens, spelled, few, cut) = ends_tree c.args.grammar.now c.args.trees c.args.line.now _ ends (λ none. c.if-names-eq0.false (c.names.ensures ∙ names ∙ none)) in
    let nothing = sees_nothing c.args.grammar.now c.args.trees c.args.line.now _ _ _ c.tokens.invariant.reached _ _ _ _ _ e c.in-Some.next c.in-Some.is c.in-Ended.is in (
      Some tree,
      spelled,
      few,
      refl,
      c.in_ok-end.ensures c.args.grammar.now taken _ tree (c.tokens.invariant.took taken took) tokens (record {
        cut = cut;
        plain_is = copy_end c.tokens.plain c.next_token-found.result.plain (first c.tokens.invariant.reached.n (start c.args.line.now)) c.tokens.rest.now c.next_token-found.result.from.now c.args.line.now
            c.tokens.invariant.copied c.next_token-found.ensures.from nothing c.next_token-found.ensures.plain;
      }),
    )

pub take-requires : goal.take-requires
take-requires g c =
    let e = sees c.tokens.state c.tokens.rest.now c.wants_attribute.ensures c.next_token-found.ensures.from c.next_token-found.ensures.token c.next_token-found.ensures.behind c.step.ensures in
    let (taken, took) = c.requires.so_far in (
      c.args.grammar.now,
      taken,
      _,
      c.tokens.invariant.took taken took,
      sees_continues c.args.grammar.now c.args.trees c.args.line.now _ _ _ c.tokens.invariant.reached _ _ _ _ _ e _ c.kind_of.ensures (most_two c.args.grammar.now c.requires.within) c.in-Some.next _ c.in-Some.is c.in_default-kind_of.is c.operator_named-operator.ensures.named,
    )

pub follow-requires : goal.follow-requires
follow-requires g c = record {
  names = reached_names c.args.grammar.now c.args.trees c.args.line.now _ _ _ c.tokens.invariant.reached;
  kids = reached_kids c.args.grammar.now c.args.trees c.args.line.now _ _ _ c.tokens.invariant.reached;
}

pub tokens-smaller : goal.tokens-smaller
tokens-smaller g c =
    let e = sees c.tokens.state c.tokens.rest.now c.wants_attribute.ensures c.next_token-found.ensures.from c.next_token-found.ensures.token c.next_token-found.ensures.behind c.step.ensures in
    sees_shorter c.args.grammar.now c.args.trees c.args.line.now _ _ _ c.tokens.invariant.reached _ _ _ _ _ e c.in-Some.next c.in-Some.is c.in_default-next.not-Ended

pub tokens-preserved : goal.tokens-preserved
tokens-preserved g c =
    let e = sees c.tokens.state c.tokens.rest.now c.wants_attribute.ensures c.next_token-found.ensures.from c.next_token-found.ensures.token c.next_token-found.ensures.behind c.step.ensures in
    let two = most_two c.args.grammar.now c.requires.within in
    record {
      reached = sees_next c.args.grammar.now c.args.trees c.args.line.now _ _ _ c.tokens.invariant.reached _ _ _ _ _ e _ c.kind_of.ensures two c.in-Some.next c.follow.new.self c.in-Some.is c.in_default-kind_of.is c.in_default-next.not-Ended
          (c.in_ok-follow.ensures c.args.grammar.now c.operator_named-operator.ensures.named);
      took = λ taken took.
          subst (g.T.Taker.took c.take.new.self c.args.grammar.now taken) (sees_more c.args.grammar.now c.args.trees c.args.line.now _ _ _ c.tokens.invariant.reached _ _ _ _ _ e two)
          (c.in_ok-take.ensures c.args.grammar.now taken _ (c.tokens.invariant.took taken took)
          (sees_continues c.args.grammar.now c.args.trees c.args.line.now _ _ _ c.tokens.invariant.reached _ _ _ _ _ e _ c.kind_of.ensures two c.in-Some.next _ c.in-Some.is c.in_default-kind_of.is c.operator_named-operator.ensures.named));
      copied = subst (λ ts. IsCopy c.next_token-found.result.plain ts c.next_token-found.result.behind.now c.args.line.now) (sees_more c.args.grammar.now c.args.trees c.args.line.now _ _ _ c.tokens.invariant.reached _ _ _ _ _ e two)
          (copy_next c.tokens.plain c.next_token-found.result.plain c.wants_attribute.result (first c.tokens.invariant.reached.n (start c.args.line.now)) (view c.next_token-found.result.piece) c.tokens.rest.now c.next_token-found.result.from.now c.next_token-found.result.behind.now c.args.line.now
          c.tokens.invariant.copied c.next_token-found.ensures.from c.next_token-found.ensures.token c.next_token-found.ensures.behind c.next_token-found.ensures.plain);
    }
