-- It begins with the start symbol alone, and ends when nothing is left.
use Rattle.std.proofs.Common.{◌≡◌, ◌∷◌, [], List, ℕ, length, reverse, refl, sym, subst, arith, Vec, Global}
use Rattle.sel_forest.specs.declared.forest.Node.{Node}
use Rattle.sel_gen.specs.declared.tasks.Task.{Task}
use Rattle.sel_gen.specs.declared.tasks.Task.TheVariants.{Derive}
use Rattle.sel_gen.specs.Growing.{IsGrowing, HasGrown}
use Rattle.sel_forest.proofs.Walking.{nil_of_none}
use Rattle.sel_gen.proofs.Turns.{begun, ended}
use Rattle.sel_gen.proofs.grow.Growth.grow.Goals as goal

pub tasks-init : goal.tasks-init
tasks-init c =
    let g = c.args.grammar.now in
    let sizes = c.args.sizes.now in
    let words = c.args.words.now in
    let (k, at, le) = c.requires.start in
    let e = c.in_ok-begin.ensures in
    let new = c.begin.new.self in
    subst (λ (t : List Task). IsGrowing g sizes c.args.budget words (reverse t) words new.nodes.items new.roots.items) (sym e.tasks)
    (subst (λ (n : List Node). IsGrowing g sizes c.args.budget words (Derive g.start c.args.budget ∷ []) words n new.roots.items) (sym e.nodes)
    (subst (λ (r : List ℕ). IsGrowing g sizes c.args.budget words (Derive g.start c.args.budget ∷ []) words [] r) (sym e.roots)
    (begun g sizes c.args.budget words k words refl at le)))

pub returns : goal.returns
returns c =
    let g = c.args.grammar.now in
    let sizes = c.args.sizes.now in
    let self = c.tasks.self in
    let none : length self.tasks.items ≡ 0 = omega (arith, c.in_default.ensures.cases) in
    let left = subst (λ (t : List Task). IsGrowing g sizes c.args.budget c.args.words.now (reverse t) c.tasks.words self.nodes.items self.roots.items) (nil_of_none self.tasks.items none) c.tasks.invariant in
    subst (λ (n : Vec Node Global). HasGrown g sizes c.args.budget c.args.words.now c.tasks.words n.items) (sym c.replace.ensures.value) (ended g sizes c.args.budget c.args.words.now c.tasks.words self.nodes.items self.roots.items left)
