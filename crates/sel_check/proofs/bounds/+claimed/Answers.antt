-- The sum at an operator's kids is the sum at its node.
use Rattle.std.proofs.Common.{arith, ◌≡◌, ◌+◌, ◌*◌, ◌<◌, ◌^◌}
use Rattle.sel_grammar.specs.Lawful.{names_of}
use Rattle.sel_check.specs.CertificateTexts.{greatest_claim}
use Rattle.sel_check.proofs.Claiming.{unary_sum, binary_sum, unary_none_sum, binary_none_sum, names_unary, names_binary, names_first, some_more, few_both}
use Rattle.sel_check.proofs.bounds.+claimed.Goals as goal

pub claimed-requires : goal.claimed-requires
claimed-requires t c =
    let e : names_of c.args.pattern.now ≡ 1 + names_of c.get.result.now = names_unary _ _ _ _ c.in-Unary.is c.get.ensures in
    let n = c.requires.names in
    let d = c.decreases in
    (omega arith, (c.requires.small, omega arith))

pub claimed-first-requires : goal.claimed-first-requires
claimed-first-requires t c =
    let e : names_of c.get-in-Some-node_at.result.now < names_of c.args.pattern.now = names_first _ _ _ _ _ c.in-Binary.is c.get-in-Some-node_at.ensures in
    let n = c.requires.names in
    let d = c.decreases in
    (omega arith, (c.requires.small, omega arith))

pub claimed-second-requires : goal.claimed-second-requires
claimed-second-requires t c =
    let e : names_of c.args.pattern.now ≡ 1 + (names_of c.get-in-Some-node_at.result.now + names_of c.get-in-Some-node_at-2.result.now) =
    names_binary _ _ _ _ _ _ c.in-Binary.is c.get-in-Some-node_at.ensures c.get-in-Some-node_at-2.ensures in
    let n = c.requires.names in
    let d = c.decreases in
    (omega arith, (c.requires.small, omega arith))

pub both-requires-clause-first : goal.both-requires-clause-first
both-requires-clause-first t c =
    let e : names_of c.args.pattern.now ≡ 1 + (names_of c.get-in-Some-node_at.result.now + names_of c.get-in-Some-node_at-2.result.now) =
    names_binary _ _ _ _ _ _ c.in-Binary.is c.get-in-Some-node_at.ensures c.get-in-Some-node_at-2.ensures in
    let n = c.requires.names in
    some_more (greatest_claim * names_of c.get-in-Some-node_at.result.now) (2 ^ 61) _ c.claimed-first.ensures.few (omega arith)

pub both-requires-clause-second : goal.both-requires-clause-second
both-requires-clause-second t c =
    let e : names_of c.args.pattern.now ≡ 1 + (names_of c.get-in-Some-node_at.result.now + names_of c.get-in-Some-node_at-2.result.now) =
    names_binary _ _ _ _ _ _ c.in-Binary.is c.get-in-Some-node_at.ensures c.get-in-Some-node_at-2.ensures in
    let n = c.requires.names in
    some_more (greatest_claim * names_of c.get-in-Some-node_at-2.result.now) (2 ^ 61) _ c.claimed-second.ensures.few (omega arith)

pub returns-in-Some-clause-sum : goal.returns-in-Some-clause-sum
returns-in-Some-clause-sum t c = unary_sum _ _ _ _ _ _ _ _ _ c.in-Unary.is c.in-Some.ensures c.get.ensures c.claimed.ensures.sum

pub returns-in-Some-clause-few : goal.returns-in-Some-clause-few
returns-in-Some-clause-few t c =
    let e : names_of c.args.pattern.now ≡ 1 + names_of c.get.result.now = names_unary _ _ _ _ c.in-Unary.is c.get.ensures in
    some_more (greatest_claim * names_of c.get.result.now) (greatest_claim * names_of c.args.pattern.now) _ c.claimed.ensures.few (omega arith)

pub returns-in-None-clause-sum : goal.returns-in-None-clause-sum
returns-in-None-clause-sum t c = unary_none_sum _ _ _ _ c.args.nodes.now c.args.at _ c.in-Unary.is c.in-None.ensures c.no_cost-in-None.ensures

pub returns-in-Some-node_at-clause-sum : goal.returns-in-Some-node_at-clause-sum
returns-in-Some-node_at-clause-sum t c =
    binary_sum _ _ _ _ _ _ _ _ _ _ _ _ _ c.in-Binary.is c.in-Some-node_at.ensures c.get-in-Some-node_at.ensures c.get-in-Some-node_at-2.ensures
    c.claimed-first.ensures.sum c.claimed-second.ensures.sum c.both.ensures

pub returns-in-Some-node_at-clause-few : goal.returns-in-Some-node_at-clause-few
returns-in-Some-node_at-clause-few t c =
    let e : names_of c.args.pattern.now ≡ 1 + (names_of c.get-in-Some-node_at.result.now + names_of c.get-in-Some-node_at-2.result.now) =
    names_binary _ _ _ _ _ _ c.in-Binary.is c.get-in-Some-node_at.ensures c.get-in-Some-node_at-2.ensures in
    few_both (greatest_claim * names_of c.get-in-Some-node_at.result.now) (greatest_claim * names_of c.get-in-Some-node_at-2.result.now) (greatest_claim * names_of c.args.pattern.now) _ _ _
    c.claimed-first.ensures.few c.claimed-second.ensures.few c.both.ensures (omega arith)

pub returns-in-None-node_at-clause-sum : goal.returns-in-None-node_at-clause-sum
returns-in-None-node_at-clause-sum t c = binary_none_sum _ _ _ _ _ c.args.nodes.now c.args.at _ c.in-Binary.is c.in-None-node_at.ensures c.no_cost-in-None-node_at.ensures
