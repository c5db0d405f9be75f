use Rattle.std.proofs.Common.{subst}
use Rattle.std.specs.Ordering.{int_eq}
use Rattle.std.proofs.lemmas.List.Filters.{dedup_is}
use Rattle.sel_range.specs.SortedCuts.{AreInOrder}
use Rattle.sel_range.proofs.Sorting.{in_order}
use Rattle.sel_range.proofs.cuts.sorted_cuts.Goals as goal

pub returns : goal.returns
returns c =
    let moved = c.sort_unstable.ensures in
    let sorted = c.dedup.new.self.items in
    let deduped = dedup_is int_eq c.sort_unstable.new.self.items sorted c.dedup.ensures.filtered in
    subst (λ all. AreInOrder all sorted) c.in_ok-sorted.ensures.all
    (in_order c.in_ok-sorted.sorted.items c.sort_unstable.new.self.items sorted moved.permutation moved.sorted deduped c.in_ok-sorted.ensures.numbers)
