use Rattle.std.proofs.Common.{subst}
use Rattle.sel_full.specs.Judging.{IsTableRefusal}
use Rattle.sel_table.proofs.Reading.{fault_inside}
use Rattle.sel_table.proofs.loading.load.Goals as goal

pub placed-requires-clause-inside : goal.placed-requires-clause-inside
placed-requires-clause-inside c =
    fault_inside c.args.normal.now c.in-Ok.table c.in-Err-Fault.fault (c.in-Ok.ensures.ok).form (subst (IsTableRefusal c.args.normal.now c.in-Ok.table) c.in-Err-Fault.field-0-is c.in-Err-Fault.ensures.fault)
