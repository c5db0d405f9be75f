-- The drawn candidate, its size, and its leaves' sizes.
use Rattle.std.proofs.Common.{◌≡◌, ◌-◌, length, sym, ap, ◌∙◌, subst, arith, Some}
use Rattle.std.specs.List.{count_by}
use Rattle.sel_grammar.specs.declared.grammar.Rule.{Rule}
use Rattle.sel_forest.proofs.Matching.{some_same, some_none}
use Rattle.sel_gen.specs.Sizes.{rule_size}
use Rattle.sel_gen.specs.Made.{word, candidates}
use Rattle.sel_gen.specs.Drawing.{is_open}
use Rattle.sel_gen.specs.Growing.{IsSpread}
use Rattle.sel_gen.proofs.Picks.{count_is}
use Rattle.sel_gen.proofs.Candidates.{placed, placed_size, leaf_sum_is}
use Rattle.sel_gen.proofs.grow.Growth.derive.Goals as goal

pub pick-place-requires : goal.pick-place-requires
pick-place-requires c =
    let count : count_by (is_open c.args.nonterminal c.args.budget) c.args.choices.now ≡ length (candidates c.args.grammar.now c.args.sizes.now c.args.nonterminal c.args.budget) =
    ap (count_by (is_open c.args.nonterminal c.args.budget)) c.requires.choices ∙ count_is c.args.sizes.now c.args.nonterminal c.args.budget c.args.grammar.now.rules in
    let some = c.requires.some in
    omega arith

pub overflow_sub-budget : goal.overflow_sub-budget
overflow_sub-budget c =
    let g = c.args.grammar.now in
    let p = placed g c.args.sizes.now c.args.nonterminal c.args.budget (word c.args.words.now) c.pick-place.result c.args.choices.now c.requires.choices c.requires.some c.pick-place.ensures.place in
    let size = c.size_of-size.ensures ∙ placed_size g c.args.sizes.now c.args.nonterminal c.args.budget (word c.args.words.now) c.pick-place.result c.args.choices.now c.requires.choices p in
    let within = (p.is).within in
    omega arith

pub spread-requires : goal.spread-requires
spread-requires c =
    let g = c.args.grammar.now in
    let sizes = c.args.sizes.now in
    let p = placed g sizes c.args.nonterminal c.args.budget (word c.args.words.now) c.pick-place.result c.args.choices.now c.requires.choices c.requires.some c.pick-place.ensures.place in
    let same : c.in-Some.rule.now ≡ p.rule = some_same (c.in-Some.ensures.value ∙ p.there) in
    let total = leaf_sum_is sizes c.in-Some.rule.now (p.is).size (ap (rule_size sizes) same ∙ (p.is).size_is) in
    let within = (p.is).within in
    let small = c.requires.small in
    omega arith

pub unreachable-requires : goal.unreachable-requires
unreachable-requires c =
    let g = c.args.grammar.now in
    let p = placed g c.args.sizes.now c.args.nonterminal c.args.budget (word c.args.words.now) c.pick-place.result c.args.choices.now c.requires.choices c.requires.some c.pick-place.ensures.place in
    some_none (sym (c.in-None.ensures.value ∙ p.there))

pub returns-clause-derived : goal.returns-clause-derived
returns-clause-derived c =
    let g = c.args.grammar.now in
    let sizes = c.args.sizes.now in
    let p = placed g sizes c.args.nonterminal c.args.budget (word c.args.words.now) c.pick-place.result c.args.choices.now c.requires.choices c.requires.some c.pick-place.ensures.place in
    let same : c.in-Some.rule.now ≡ p.rule = some_same (c.in-Some.ensures.value ∙ p.there) in
    let size = c.size_of-size.ensures ∙ placed_size g sizes c.args.nonterminal c.args.budget (word c.args.words.now) c.pick-place.result c.args.choices.now c.requires.choices p in
    record {
      number = c.pick-place.result;
      rule = c.in-Some.rule.now;
      there = sym c.in-Some.ensures.value;
      size = (p.is).size;
      drawn = p.drawn ∙ ap (λ (r : Rule). Some r) (sym same);
      size_is = ap (rule_size sizes) same ∙ (p.is).size_is;
      spread = subst (λ w. IsSpread sizes c.in-Some.rule.now (c.args.budget - (p.is).size) w c.spread.new.words c.args.self.now.tasks.items c.spread.new.self.tasks.items) c.pick-place.ensures.behind
          (subst (λ k. IsSpread sizes c.in-Some.rule.now (c.args.budget - k) c.pick-place.new.words c.spread.new.words c.args.self.now.tasks.items c.spread.new.self.tasks.items) size c.in_ok-spread-in-Some.ensures.spread);
    }
