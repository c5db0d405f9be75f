-- How an output, and the status's line, was written.
use Rattle.std.proofs.Common.{◌≡◌, ℕ, Bool, true, false, List, [], take, drop, Option, Some, None, Result, Ok, Err, refl, sym, ap, subst, ◌∙◌, inl, inr, arith, append-nil, take-append-drop}
use Rattle.std.specs.Io.KnownBytes.{append_known}
use Rattle.sel_base.specs.declared.fault.SinkFault.TheVariants as fault
use Rattle.sel_base.specs.declared.fault.SinkFault.TheVariants.{Failed}
use Rattle.sel_base.specs.declared.sink.WriteStop.{WriteStop}
use Rattle.sel_base.specs.Puts.{SinkTold, TellsWrite}
use Rattle.sel_forest.specs.declared.forest.Forest.{Forest}
use Rattle.sel_forest.specs.ForestText.{SpellsForest}
use Rattle.sel_grammar.specs.declared.grammar.Grammar.{Grammar}
use Rattle.sel_cli.specs.Ends.{IsFrontOf, IsFrontOfSome, TellsLine, WritesSome, finished}
use Rattle.sel_cli.specs.Lines.{status_line}
use Rattle.sel_cli.specs.Runs.{KeepsOutput}
use Rattle.sel_cli.specs.Parts.{Writes, Stops, EndsBatch, IsThis, StopsOver, WritesOver}
use Rattle.sel_cli.specs.declared.status.Status.{Status}
use Rattle.sel_cli.specs.declared.status.Status.TheVariants.{Done, Usage, ReadFault, TooBig, BadGrammar, BadForest, WriteFault, NoMemory, Uncovered, BadCertificate}

pub take_front : (n : ℕ) (whole : List ℕ) → IsFrontOf (take n whole) whole
take_front n whole = (drop n whole, sym (take-append-drop n whole))

pub nothing_taken : (known : Option (List ℕ)) → known ≡ append_known known []
nothing_taken None = refl
nothing_taken (Some bytes) = ap (λ l. Some l) (sym (append-nil bytes))

-- a sink of which nothing was asked
pub output_kept : (sink : SinkTold) (status : Status) → KeepsOutput sink sink status
output_kept sink status = record { later = omega arith; quiet = λ no. refl }

-- nothing was written where there was no memory
pub none_written : (Is : Bool → List ℕ → Type 0) (sink : SinkTold) → Writes Is sink sink NoMemory
none_written Is sink = record { bytes = []; why = inl refl; written = nothing_taken sink.taken; keeps = output_kept sink NoMemory }

module _ (Is : Bool → List ℕ → Type 0) (covered : Bool) (whole : List ℕ) (is : Is covered whole) where
  moved : (to : Bool) (bytes : List ℕ) → IsThis covered whole to bytes → Is to bytes
  moved to bytes (c, w) = subst (λ b. Is to b) (sym w) (subst (λ b. Is b whole) (sym c) is)

  some_written : (before now : SinkTold) (bytes : List ℕ) (status : Status) → WritesSome (IsThis covered whole) before now bytes status → WritesSome Is before now bytes status
  some_written before now bytes WriteFault (rose, (c, w, this, front)) = (rose, (c, w, moved c w this, front))
  some_written before now bytes NoMemory (inl none) = inl none
  some_written before now bytes NoMemory (inr (c, w, this, front)) = inr (c, w, moved c w this, front)
  some_written before now bytes Done this = moved true bytes this
  some_written before now bytes Uncovered this = moved false bytes this
  some_written before now bytes Usage h = absurd h
  some_written before now bytes ReadFault h = absurd h
  some_written before now bytes TooBig h = absurd h
  some_written before now bytes (BadGrammar fault) h = absurd h
  some_written before now bytes (BadForest fault) h = absurd h
  some_written before now bytes (BadCertificate fault) h = absurd h

  -- what was written is an output that is so
  pub this_written : (before now : SinkTold) (status : Status) → Writes (IsThis covered whole) before now status → Writes Is before now status
  this_written before now status w = record { bytes = w.bytes; why = some_written before now w.bytes status w.why; written = w.written; keeps = w.keeps }

  -- so it is with the output of some trees
  pub this_batch : (before now : SinkTold) (result : Result Bool Status) → EndsBatch (IsThis covered whole) before now result → EndsBatch Is before now result
  this_batch before now (Ok all) w = this_written before now (finished all) w
  this_batch before now (Err status) s = record { writes = this_written before now status s.writes; not_done = s.not_done; not_uncovered = s.not_uncovered }

-- the text spells this forest, and the output over it was written
pub written_over : (Is : Forest → Bool → List ℕ → Type 0) (grammar : Grammar) (text : List ℕ) (forest : Forest) (before now : SinkTold) (status : Status)
    → SpellsForest grammar text forest → Writes (Is forest) before now status → WritesOver Is grammar text before now status
written_over Is grammar text forest before now status spelled w = inr (forest, spelled, w)

-- nothing was written, since the text spells no forest, or there was no memory
pub stopped_over : (Is : Forest → Bool → List ℕ → Type 0) (grammar : Grammar) (text : List ℕ) (sink : SinkTold) (status : Status)
    → StopsOver grammar text status → WritesOver Is grammar text sink sink status
stopped_over Is grammar text sink status stops = inl (stops, refl)

-- ---- an output that is made whole and then put

module _ (covered : Bool) (whole : List ℕ) (before now : SinkTold) where
  all_kept : {T : Type 0} (x : T) (status : Status) → TellsWrite whole (Ok x) before now → KeepsOutput before now status
  all_kept x status t = record { later = (t.counted).later; quiet = λ no. (t.counted).quiet (λ f. f) }

  pub all_put : {T : Type 0} (x : T) → TellsWrite whole (Ok x) before now → covered ≡ true → Writes (IsThis covered whole) before now Done
  all_put x t is = record { bytes = whole; why = (sym is, refl); written = t.grown; keeps = all_kept x Done t }

  pub all_put_uncovered : {T : Type 0} (x : T) → TellsWrite whole (Ok x) before now → covered ≡ false → Writes (IsThis covered whole) before now Uncovered
  all_put_uncovered x t is = record { bytes = whole; why = (sym is, refl); written = t.grown; keeps = all_kept x Uncovered t }

  -- the writing stopped
  front_put : (stop : WriteStop) → IsFrontOfSome (IsThis covered whole) (take stop.written whole)
  front_put stop = (covered, whole, (refl, refl), take_front stop.written whole)

  pub put_failed : {T : Type 0} (stop : WriteStop) → stop.cause ≡ Failed → TellsWrite {T = T} whole (Err stop) before now → Writes (IsThis covered whole) before now WriteFault
  put_failed stop is t = record {
    bytes = take stop.written whole;
    why = ((t.counted).cause is, front_put stop);
    written = t.grown;
    keeps = record { later = (t.counted).later; quiet = λ no. absurd (no refl) };
  }

  pub put_without_memory : {T : Type 0} (stop : WriteStop) → stop.cause ≡ fault.NoMemory → TellsWrite {T = T} whole (Err stop) before now → Writes (IsThis covered whole) before now NoMemory
  put_without_memory stop is t = record {
    bytes = take stop.written whole;
    why = inr (front_put stop);
    written = t.grown;
    keeps = record { later = (t.counted).later; quiet = λ no. (t.counted).quiet (λ f. other (sym is ∙ f)) };
  }
    where
      other : fault.NoMemory ≡ Failed → ⊥
      other e = cc

-- ---- a status's line

-- this is the line, and it was written so
pub line_told : {T : Type 0} (name : List ℕ) (status : Status) (whole : List ℕ) (before now : SinkTold) (result : Result T WriteStop)
    → whole ≡ status_line name status → TellsWrite whole result before now → TellsLine name status before now
line_told name status whole before now (Ok done) is t = record { line = whole; is_front = ([], sym (append-nil whole ∙ is)); told = t.grown }
line_told name status whole before now (Err stop) is t =
    record { line = take stop.written whole; is_front = subst (λ l. IsFrontOf (take stop.written whole) l) is (take_front stop.written whole); told = t.grown }

-- there was no memory for it
pub no_line_told : (name : List ℕ) (status : Status) (sink : SinkTold) → TellsLine name status sink sink
no_line_told name status sink = record { line = []; is_front = (status_line name status, refl); told = nothing_taken sink.taken }
