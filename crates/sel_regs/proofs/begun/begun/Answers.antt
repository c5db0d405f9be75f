-- One temporary more.
use Rattle.std.proofs.Common.{◌≡◌, ◌<◌, ◌+◌, Some, arith, ap, sym, subst, ◌∙◌, get_or, set, slice_get, length, Vec, Global, List, ℕ}
use Rattle.std.proofs.lemmas.Option.{slice_get-get_or}
use Rattle.sel_regs.specs.declared.lives.Life.{Life}
use Rattle.sel_regs.specs.Beginning.{AreBegun}
use Rattle.sel_regs.proofs.Buckets.{begun_none, begun_less, begun_more, life_at}
use Rattle.sel_regs.proofs.begun.begun.Goals as goal
use Rattle.sel_regs.proofs.begun.begun.Goals.{then-life-gt0+in_ok-push, else-life-gt0}

pub lives-init : goal.lives-init
lives-init c = begun_none c.args.lives.now c.args.lines c.in_ok-begun.begun.items c.in_ok-begun.ensures

pub index_mut-requires : goal.index_mut-requires
index_mut-requires c =
    let none : Life = record { first = 0; end = 0 } in
    let life : Life = get_or c.args.lives.now c.lives.index none in
    let within : life.first < c.args.lines = c.requires.within c.lives.index life (life_at c.args.lives.now c.lives.index none c.lives-test.true) c.if-life-gt0.true in
    let long = c.lives.invariant.long in omega arith

pub lives-preserved : goal.lives-preserved
lives-preserved c =
    let none : Life = record { first = 0; end = 0 } in
    let life : Life = get_or c.args.lives.now c.lives.index none in
    let at : slice_get c.args.lives.now c.lives.index ≡ Some life = life_at c.args.lives.now c.lives.index none c.lives-test.true in
    elim c.if-life-gt0.branch [
      | then-life-gt0+in_ok-push w ↦
          let here : List ℕ = w.index_mut.result.now in
          let within : life.first < c.args.lines = c.requires.within c.lives.index life at w.if-life-gt0.true in
          let long = c.lives.invariant.long in
          let inside : life.first < length c.lives.begun.items = omega arith in
          begun_more c.args.lives.now c.lives.index life at c.args.lines c.lives.begun.items c.if-life-gt0.begun.items here w.if-life-gt0.true
          (slice_get-get_or c.lives.begun.items life.first here inside ∙ ap Some (sym w.index_mut.ensures.value))
          (ap (λ (v : Vec (List ℕ) Global). v.items) w.begun-is ∙ ap (set c.lives.begun.items life.first) w.in_ok-push.ensures.ok)
          c.lives.invariant
      | else-life-gt0 w ↦
          subst (λ (v : Vec (List ℕ) Global). AreBegun c.args.lives.now (c.lives.index + 1) c.args.lines v.items) (sym w.begun-is)
          (begun_less c.args.lives.now c.lives.index life at c.args.lines c.lives.begun.items w.if-life-gt0.false c.lives.invariant)
    ]
