-- What a sink tells.
use Rattle.std.specs.Prelude.{◌≡◌, ℕ, List, Option, Result, Ok, Err, IsErrOf, take}
use Rattle.std.specs.Io.KnownBytes.{append_known}
use Rattle.sel_base.specs.declared.fault.SinkFault.{SinkFault}
use Rattle.sel_base.specs.declared.fault.SinkFault.TheVariants.{Failed}
use Rattle.sel_base.specs.declared.sink.WriteStop.{WriteStop}
use Rattle.sel_base.specs.Causes.{CountsFault}

-- all the bytes taken so far, where the sink tells them, and how often a put has failed
pub record SinkTold : Type 0 where
  pub taken : Option (List ℕ)
  pub faults : ℕ

-- how many of these bytes a put with this answer took
abbrev pub put_of : List ℕ → Result ℕ SinkFault → Option (List ℕ) → Option (List ℕ)
put_of bytes (Ok n) before = append_known before (take n bytes)
put_of bytes (Err fault) before = before

-- What a sink tells after a put of these bytes with this answer: so many bytes more, none after a fault, and a fault more where it failed.
pub record TellsPut (bytes : List ℕ) (result : Result ℕ SinkFault) (before now : SinkTold) : Type 0 where
  pub grown : now.taken ≡ put_of bytes result before.taken
  pub counted : CountsFault (IsErrOf result Failed) before.faults now.faults

-- the bytes that were taken where the writing of these ended so: all, or those before the stop
abbrev pub written_of : {T : Type 0} → List ℕ → Result T WriteStop → List ℕ
written_of bytes (Ok x) = bytes
written_of bytes (Err stop) = take stop.written bytes

-- the writing stopped at a put that failed
abbrev pub IsFaulted : {T : Type 0} → Result T WriteStop → Type 0
IsFaulted (Ok x) = ⊥
IsFaulted (Err stop) = stop.cause ≡ Failed

-- What a sink tells after these bytes were written to it with this answer.
pub record TellsWrite {T : Type 0} (bytes : List ℕ) (result : Result T WriteStop) (before now : SinkTold) : Type 0 where
  pub grown : now.taken ≡ append_known before.taken (written_of bytes result)
  pub counted : CountsFault (IsFaulted result) before.faults now.faults
