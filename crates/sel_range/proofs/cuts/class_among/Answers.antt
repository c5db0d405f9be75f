use Rattle.std.proofs.Common.{◌+◌, ap, sym, rules}
use Rattle.std.specs.Prelude.{int_le}
use Rattle.std.proofs.lemmas.List.Sorted.{IsPartitionPoint-from_clause}
use Rattle.sel_range.proofs.Sorting.{count_at, parted}
use Rattle.sel_range.proofs.cuts.class_among.Goals as goal

pub returns : goal.returns
returns c =
    let v = c.args.number in
    let cuts = c.args.sorted.now in
    let point = IsPartitionPoint-from_clause (λ cut. int_le cut v) cuts c.partition_point.result c.partition_point.ensures.partitioned (parted v cuts c.requires.ascend) (λ a r q k. search rules) in
    ap (λ n. 1 + n) (sym (count_at v cuts c.partition_point.result c.partition_point.ensures.bound point))
