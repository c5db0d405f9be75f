-- A tree that has grown is the next one.
use Rattle.std.proofs.Common.{◌≡◌, ◌+◌, ◌-◌, arith, rules}
use Rattle.sel_forest.specs.declared.forest.Tree.{Tree}
use Rattle.sel_gen.specs.Growing.{HasGrown}
use Rattle.sel_gen.proofs.Forests.{made_next, came_next, valid_next}
use Rattle.sel_gen.proofs.maker.TreeMaker.next.Goals as goal

grown : (c : goal.After-from_vec) → HasGrown c.self.inside.grammar.now c.self.inside.sizes.items c.self.inside.budget c.self.inside.words c.grow.new.words c.from_vec.result
grown c =
    let words : c.in_ok-words.words ≡ c.self.inside.words = search rules in
    rw (c.from_vec.ensures, ← words, ← c.as_slice.ensures.value) c.in_ok-nodes.ensures

pub returns-clause-next : goal.returns-clause-next
returns-clause-next c =
    let m = c.self.inside in
    let tree : Tree = record { nodes = c.from_vec.result } in
    let one : m.left - 1 + 1 ≡ m.left = omega arith in
    rw (← c.self.view_is) (made_next m.grammar.now m.sizes.items m.budget m.words c.grow.new.words tree c.self.invariant.small (grown c) (m.left - 1) m.left one)

pub returns-clause-first : goal.returns-clause-first
returns-clause-first c =
    let m = c.self.inside in
    let tree : Tree = record { nodes = c.from_vec.result } in
    let one : m.left - 1 + 1 ≡ m.left = omega arith in
    rw (← c.self.view_is) (came_next m.grammar.now m.sizes.items m.budget m.words c.grow.new.words tree c.self.invariant.small (grown c) (m.left - 1) m.left one)

pub returns-clause-valid : goal.returns-clause-valid
returns-clause-valid c =
    let m = c.self.inside in
    let tree : Tree = record { nodes = c.from_vec.result } in
    rw (← c.self.view_is) (valid_next m.grammar.now m.sizes.items m.budget m.words c.grow.new.words tree c.self.invariant.small (grown c))
