-- Each task leads to the same tree.
use Rattle.std.proofs.Common.{◌<◌, [], ◌∷◌, ℕ, reverse, sym, subst, Vec, Global}
use Rattle.rand_pcg.specs.Lcg.{Lcg}
use Rattle.sel_forest.specs.declared.forest.Node.{Node}
use Rattle.sel_gen.specs.declared.tasks.Task.{Task}
use Rattle.sel_gen.specs.Growing.{IsGrowing, weights}
use Rattle.sel_gen.proofs.Candidates.{some_candidate}
use Rattle.sel_gen.proofs.Turns.{drawn, wrapped, joined, derived_by}
use Rattle.sel_gen.proofs.grow.Growth.perform.Goals as goal

pub derive-requires-clause-some : goal.derive-requires-clause-some
derive-requires-clause-some c =
    let g = c.args.grammar.now in
    let sizes = c.args.sizes.now in
    let (budget, before, small, h) = c.requires.growing in
    let now = subst (λ (t : Task). IsGrowing g sizes budget before (t ∷ reverse c.args.self.now.tasks.items) c.args.words.now c.args.self.now.nodes.items c.args.self.now.roots.items) c.in-Derive.is h in
    let (k, at, le) = (now.ready).0 in
    some_candidate g c.requires.least.limit sizes c.in-Derive.nonterminal c.in-Derive.budget k c.requires.lawful.within c.requires.least.least at le

pub returns-in_ok-derive-in-Derive-clause-grows : goal.returns-in_ok-derive-in-Derive-clause-grows
returns-in_ok-derive-in-Derive-clause-grows c = λ budget before h.
    let g = c.args.grammar.now in
    let sizes = c.args.sizes.now in
    let old = c.args.self.now in
    let new = c.derive.new.self in
    let now = subst (λ (t : Task). IsGrowing g sizes budget before (t ∷ reverse old.tasks.items) c.args.words.now old.nodes.items old.roots.items) c.in-Derive.is h in
    let made = (derived_by g sizes budget before c.args.words.now old.nodes.items old.roots.items [] c.in-Derive.nonterminal c.in-Derive.budget c.derive.new.words old.tasks.items new.tasks.items c.requires.lawful c.in_ok-derive-in-Derive.ensures.derived now).0 in
    subst (λ (n : Vec Node Global). IsGrowing g sizes budget before (reverse new.tasks.items) c.derive.new.words n.items new.roots.items) (sym c.derive.ensures.nodes)
    (subst (λ (r : Vec ℕ Global). IsGrowing g sizes budget before (reverse new.tasks.items) c.derive.new.words old.nodes.items r.items) (sym c.derive.ensures.roots) made)

pub returns-in_ok-derive-in-Derive-clause-lighter : goal.returns-in_ok-derive-in-Derive-clause-lighter
returns-in_ok-derive-in-Derive-clause-lighter c =
    let g = c.args.grammar.now in
    let sizes = c.args.sizes.now in
    let old = c.args.self.now in
    let new = c.derive.new.self in
    let (budget, before, small, h) = c.requires.growing in
    let now = subst (λ (t : Task). IsGrowing g sizes budget before (t ∷ reverse old.tasks.items) c.args.words.now old.nodes.items old.roots.items) c.in-Derive.is h in
    let less = (derived_by g sizes budget before c.args.words.now old.nodes.items old.roots.items [] c.in-Derive.nonterminal c.in-Derive.budget c.derive.new.words old.tasks.items new.tasks.items c.requires.lawful c.in_ok-derive-in-Derive.ensures.derived now).1 in
    subst (λ (t : Task). weights (reverse new.tasks.items) < weights (t ∷ reverse old.tasks.items)) (sym c.in-Derive.is) less

pub returns-in_ok-draw-in-Draw-clause-grows : goal.returns-in_ok-draw-in-Draw-clause-grows
returns-in_ok-draw-in-Draw-clause-grows c = λ budget before h.
    let g = c.args.grammar.now in
    let sizes = c.args.sizes.now in
    let old = c.args.self.now in
    let new = c.draw.new.self in
    let now = subst (λ (t : Task). IsGrowing g sizes budget before (t ∷ reverse old.tasks.items) c.args.words.now old.nodes.items old.roots.items) c.in-Draw.is h in
    let e = c.in_ok-draw-in-Draw.ensures in
    let made = drawn g sizes budget before c.args.words.now old.nodes.items old.roots.items (reverse old.tasks.items) c.in-Draw.operator c.in-Draw.range new.nodes.items new.roots.items now e.lawful e.nodes e.roots in
    subst (λ (t : Vec Task Global). IsGrowing g sizes budget before (reverse t.items) c.draw.new.words new.nodes.items new.roots.items) (sym c.draw.ensures.tasks)
    (subst (λ (w : Lcg). IsGrowing g sizes budget before (reverse old.tasks.items) w new.nodes.items new.roots.items) (sym c.draw.ensures.behind) made)

pub returns-in_ok-wrap-in-Wrap-clause-grows : goal.returns-in_ok-wrap-in-Wrap-clause-grows
returns-in_ok-wrap-in-Wrap-clause-grows c = λ budget before h.
    let g = c.args.grammar.now in
    let sizes = c.args.sizes.now in
    let old = c.args.self.now in
    let new = c.wrap.new.self in
    let now = subst (λ (t : Task). IsGrowing g sizes budget before (t ∷ reverse old.tasks.items) c.args.words.now old.nodes.items old.roots.items) c.in-Wrap.is h in
    let made = wrapped g sizes budget before c.args.words.now old.nodes.items old.roots.items (reverse old.tasks.items) c.in-Wrap.operator new.nodes.items new.roots.items now c.in_ok-wrap-in-Wrap.ensures.wrapped in
    subst (λ (t : Vec Task Global). IsGrowing g sizes budget before (reverse t.items) c.args.words.now new.nodes.items new.roots.items) (sym c.wrap.ensures.tasks) made

pub returns-in_ok-join-in-Join-clause-grows : goal.returns-in_ok-join-in-Join-clause-grows
returns-in_ok-join-in-Join-clause-grows c = λ budget before h.
    let g = c.args.grammar.now in
    let sizes = c.args.sizes.now in
    let old = c.args.self.now in
    let new = c.join.new.self in
    let now = subst (λ (t : Task). IsGrowing g sizes budget before (t ∷ reverse old.tasks.items) c.args.words.now old.nodes.items old.roots.items) c.in-Join.is h in
    let made = joined g sizes budget before c.args.words.now old.nodes.items old.roots.items (reverse old.tasks.items) c.in-Join.operator new.nodes.items new.roots.items now c.in_ok-join-in-Join.ensures.joined in
    subst (λ (t : Vec Task Global). IsGrowing g sizes budget before (reverse t.items) c.args.words.now new.nodes.items new.roots.items) (sym c.join.ensures.tasks) made
