-- What a `Held` owns: a boxed table, or nothing.
use Rattle.std.specs.Prelude.{Option, Some, None}
use Rattle.std.specs.Coded.{Coded, coded_option}
use base.Fml.{Fml, ftrue}
use denote.RawPtr.{Ptr}
use Rattle.std.specs.Box.Ownership.{box_owns}
use Rattle.std.specs.Global.{Global}
use Rattle.std_heap.specs.contracts.GlobalAllocator.TheImpl.{ghosts}
use Rattle.sel_c.specs.contracts.accepted.Accepted.{the_row}

abbrev pub MaybeTable : Type 0
MaybeTable = Option the_row.Denot

abbrev pub maybe_coded : Coded MaybeTable
maybe_coded = coded_option the_row.coded

-- where there is a table, what its box owns
abbrev pub held_owns : Global → Ptr → MaybeTable → Fml
held_owns alloc p None = ftrue
held_owns alloc p (Some t) = box_owns (ghosts.dealloc_token alloc) the_row p t
