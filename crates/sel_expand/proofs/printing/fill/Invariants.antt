use Rattle.std.proofs.Common.{◌≡◌, ◌≤◌, ◌-◌, length}
use Rattle.sel_expand.specs.Printing.{FillsTo}
use Rattle.sel_expand.proofs.printing.fill.Given as goal

abbrev pub invariant-parts : goal.invariant-parts
invariant-parts g l = record {
  from : l.first ≤ l.place;
  frames : l.frames.items ≡ l.initial.frames.items;
  filled : FillsTo g.S.Sheet.apart l.grammar l.nodes l.reductions l.spans l.at l.first l.place (g.S.Sheet.told l.initial.out) (g.S.Sheet.told l.out);
}

abbrev pub decreases-parts : goal.decreases-parts
decreases-parts g l = length l.parts - l.place
