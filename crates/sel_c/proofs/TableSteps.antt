-- A table in a `Held` is what a box of it at the global allocator would be.
use Rattle.std.proofs.Common.{◌≡◌, [], Option, Some, None, IsSome, refl}
use mir.Syntax.{impl, tnil, dnil}
use denote.Signature.{Slot, plain}
use Rattle.std_alloc.proofs.BoxSteps.Form.{Bx}
use Rattle.std_heap.specs.contracts.Global as Heap
use Rattle.std_heap.specs.contracts.GlobalAllocator.TheImpl.{ghosts, dict}
use Rattle.std_heap.proofs.Global.TheLaws as heap
use Rattle.sel_c.specs.contracts.accepted.Accepted as Accepted
use Rattle.sel_c.proofs.accepted.Accepted.TheLaws as accepted
use Rattle.sel_c.specs.contracts.bare.Bare as Bare
use Rattle.sel_c.specs.contracts.held.Held as Held

abbrev pub E : Bx
E = record { row = Accepted.the_row; laws = accepted.the_row_laws; al = record { row = Heap.the_row; laws = heap.the_row_laws; g = ghosts; d = dict; drops = impl [] tnil dnil } }

abbrev pub OfBare : Slot 0
OfBare = plain (λ _. Bare.the_row Accepted.the_row Heap.the_row ghosts)

abbrev pub OfHeld : Slot 0
OfHeld = plain (λ _. Held.the_row)

-- the table of a place that has one
pub table_of : {A : Type 0} (o : Option A) → IsSome o → (x : A) × (o ≡ Some x)
table_of (Some x) has = (x, refl)
table_of None has = absurd (cc)
