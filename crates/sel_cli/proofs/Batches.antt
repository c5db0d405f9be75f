-- What is told of batches, one behind the other.
use Rattle.std.proofs.Common.{◌≡◌, ◌≢◌, ℕ, ◌+◌, Bool, true, false, ◌&&◌, List, [], ◌∷◌, ◌++◌, length, take, drop, Option, Some, None, refl, sym, ap, subst, ◌∙◌, inl, inr, ◌⊎◌, arith, append_assoc}
use Rattle.std.specs.Io.KnownBytes.{append_known}
use Rattle.std.proofs.lemmas.List.{append-nil, take-append-drop, length-append}
use Rattle.std.proofs.lemmas.List.Elements.{Contains-append_left, Contains-append_right}
use Rattle.sel_base.specs.Causes.{Rose}
use Rattle.sel_base.specs.Puts.{SinkTold}
use Rattle.sel_grammar.specs.declared.grammar.Grammar.{Grammar}
use Rattle.sel_forest.specs.declared.forest.Tree.{Tree}
use Rattle.sel_work.specs.declared.answer.Answer.{Answer}
use Rattle.sel_work.specs.declared.answer.Goal.{Goal}
use Rattle.sel_count.specs.Things.{AreValid}
use Rattle.sel_crew.specs.Answers.{AreAnswersOf}
use Rattle.sel_crew.specs.declared.crew.Crew.{Crew}
use Rattle.sel_cli.specs.Crews.{AnswersMore, HasAnswered}
use Rattle.sel_cli.specs.Ends.{IsFrontOf, IsFrontOfSome, WritesSome, finished}
use Rattle.sel_cli.specs.Parts.{Writes, Stops}
use Rattle.sel_cli.specs.Runs.{KeepsOutput}
use Rattle.sel_cli.specs.declared.status.Status.{Status}
use Rattle.sel_cli.specs.declared.status.Status.TheVariants.{Done, Usage, ReadFault, TooBig, BadGrammar, BadForest, WriteFault, NoMemory, Uncovered, BadCertificate}
use Rattle.sel_cli.proofs.Writing.{nothing_taken, output_kept}

-- What is told of trees can be told part by part, and of all valid trees something is told.
pub record HasParts (g : Grammar) (Is : ℕ → List Tree → Bool → List ℕ → Type 0) : Type 0 where
  pub none : Is 0 [] true []
  pub joined : (before : ℕ) (xs ys : List Tree) (between : ℕ) (c d : Bool) (bytes more : List ℕ) → between ≡ before + length xs → Is before xs c bytes → Is between ys d more
      → Is before (xs ++ ys) (c && d) (bytes ++ more)
  pub some : (before : ℕ) (trees : List Tree) → AreValid g trees → (c : Bool) × (bytes : List ℕ) × Is before trees c bytes

-- What was written of trees, with the rest of them to come.
pub record WrittenSoFar (Is : ℕ → List Tree → Bool → List ℕ → Type 0) (trees rest : List Tree) (before : ℕ) (covered : Bool) (out now : SinkTold) : Type 0 where
  pub done : List Tree
  pub cut : trees ≡ done ++ rest
  pub count : before ≡ length done
  pub writes : Writes (Is 0 done) out now (finished covered)

-- and by what answers of a crew
pub record AnsweredSoFar (Is : ℕ → List Tree → Bool → List ℕ → Type 0) (trees rest : List Tree) (before : ℕ) (covered : Bool) (old new : Crew) (out now : SinkTold) : Type 0 where
  pub written : WrittenSoFar Is trees rest before covered out now
  pub answered : AnswersMore written.done old new

pub taken_both : (known : Option (List ℕ)) (xs ys : List ℕ) → append_known (append_known known xs) ys ≡ append_known known (xs ++ ys)
taken_both None xs ys = refl
taken_both (Some bytes) xs ys = ap (λ l. Some l) (append_assoc bytes xs ys)

not_fault : (covered : Bool) → finished covered ≢ WriteFault
not_fault true e = cc
not_fault false e = cc

whole_of : (Is : Bool → List ℕ → Type 0) (before now : SinkTold) (bytes : List ℕ) (covered : Bool) → WritesSome Is before now bytes (finished covered) → Is covered bytes
whole_of Is before now bytes true w = w
whole_of Is before now bytes false w = w

of_whole : (Is : Bool → List ℕ → Type 0) (before now : SinkTold) (bytes : List ℕ) (covered : Bool) → Is covered bytes → WritesSome Is before now bytes (finished covered)
of_whole Is before now bytes true w = w
of_whole Is before now bytes false w = w

-- one writing behind another
both_kept : (one two three : SinkTold) (covered : Bool) (status : Status) → KeepsOutput one two (finished covered) → KeepsOutput two three status → KeepsOutput one three status
both_kept one two three covered status k l = record {
  later = (let m = k.later in let n = l.later in omega arith);
  quiet = λ no. l.quiet no ∙ k.quiet (not_fault covered);
}

-- whatever trees were answered, none more are
pub none_more : (c : Crew) → AnswersMore [] c c
none_more c = λ g settings given h. subst (λ l. HasAnswered g settings l c) (sym (append-nil given)) h

-- these and then those
pub more_and_more : (xs ys : List Tree) (one two three : Crew) → AnswersMore xs one two → AnswersMore ys two three → AnswersMore (xs ++ ys) one three
more_and_more xs ys one two three h k = λ g settings given a. subst (λ l. HasAnswered g settings l three) (append_assoc given xs ys) (k g settings (given ++ xs) (h g settings given a))

module _ (g : Grammar) (Is : ℕ → List Tree → Bool → List ℕ → Type 0) (parts : HasParts g Is) where
  -- nothing is written of no trees
  pub nothing_written : (sink : SinkTold) → Writes (Is 0 []) sink sink (finished true)
  nothing_written sink = record { bytes = []; why = parts.none; written = nothing_taken sink.taken; keeps = output_kept sink (finished true) }

  abbrev pub none_so_far : (trees : List Tree) (sink : SinkTold) → WrittenSoFar Is trees trees 0 true sink sink
  none_so_far trees sink = record { done = []; cut = refl; count = refl; writes = nothing_written sink }

  -- a front of a batch's text is a front with more trees behind the batch
  longer : (before : ℕ) (xs ys : List Tree) (bytes : List ℕ) → AreValid g ys → IsFrontOfSome (Is before xs) bytes → IsFrontOfSome (Is before (xs ++ ys)) bytes
  longer before xs ys bytes valid (c, whole, is, (rest, cut)) =
      let more = parts.some (before + length xs) ys valid in
      (c && more.0, whole ++ more.1, parts.joined before xs ys (before + length xs) c more.0 whole more.1 refl is more.2, (rest ++ more.1, ap (λ l. l ++ more.1) cut ∙ append_assoc bytes rest more.1))

  -- nothing is a front
  no_front : (trees : List Tree) (before : ℕ) → AreValid g trees → IsFrontOfSome (Is before trees) []
  no_front trees before valid = let all = parts.some before trees valid in (all.0, all.1, all.2, (all.1, refl))

  -- behind the text of trees before
  behind : (xs ys : List Tree) (c : Bool) (bytes more : List ℕ) → Is 0 xs c bytes → IsFrontOfSome (Is (length xs) ys) more → IsFrontOfSome (Is 0 (xs ++ ys)) (bytes ++ more)
  behind xs ys c bytes more p (d, whole, is, (rest, cut)) =
      (c && d, bytes ++ whole, parts.joined 0 xs ys (length xs) c d bytes whole (omega arith) p is, (rest, ap (λ l. bytes ++ l) cut ∙ sym (append_assoc bytes more rest)))

  -- a batch more is written
  more_written : (xs ys : List Tree) (c d : Bool) (one two three : SinkTold) → Writes (Is 0 xs) one two (finished c) → Writes (Is (length xs) ys) two three (finished d)
      → Writes (Is 0 (xs ++ ys)) one three (finished (c && d))
  more_written xs ys c d one two three w v = record {
    bytes = w.bytes ++ v.bytes;
    why = of_whole (Is 0 (xs ++ ys)) one three (w.bytes ++ v.bytes) (c && d)
        (parts.joined 0 xs ys (length xs) c d w.bytes v.bytes (omega arith) (whole_of (Is 0 xs) one two w.bytes c w.why) (whole_of (Is (length xs) ys) two three v.bytes d v.why));
    written = v.written ∙ ap (λ k. append_known k v.bytes) w.written ∙ taken_both one.taken w.bytes v.bytes;
    keeps = both_kept one two three c (finished (c && d)) w.keeps (record { later = (v.keeps).later; quiet = λ no. (v.keeps).quiet (not_fault d) });
  }

  -- the writing stopped in a batch, with more trees behind it
  module _ (xs ys zs : List Tree) (valid : AreValid g (ys ++ zs)) (later : AreValid g zs) (c : Bool) (one two three : SinkTold) (w : Writes (Is 0 xs) one two (finished c)) where
    first : Is 0 xs c w.bytes
    first = whole_of (Is 0 xs) one two w.bytes c w.why

    stopped_some : (bytes : List ℕ) (status : Status) → status ≢ Done → status ≢ Uncovered → WritesSome (Is (length xs) ys) two three bytes status
        → WritesSome (Is 0 (xs ++ (ys ++ zs))) one three (w.bytes ++ bytes) status
    stopped_some bytes WriteFault nd nu (rose, front) =
        (subst (λ n. Rose n three.faults) ((w.keeps).quiet (not_fault c)) rose, behind xs (ys ++ zs) c w.bytes bytes first (longer (length xs) ys zs bytes later front))
    stopped_some bytes NoMemory nd nu (inl none) =
        inr (behind xs (ys ++ zs) c w.bytes bytes first (subst (λ l. IsFrontOfSome (Is (length xs) (ys ++ zs)) l) (sym none) (no_front (ys ++ zs) (length xs) valid)))
    stopped_some bytes NoMemory nd nu (inr front) = inr (behind xs (ys ++ zs) c w.bytes bytes first (longer (length xs) ys zs bytes later front))
    stopped_some bytes Done nd nu s = absurd (nd refl)
    stopped_some bytes Uncovered nd nu s = absurd (nu refl)
    stopped_some bytes Usage nd nu s = absurd s
    stopped_some bytes ReadFault nd nu s = absurd s
    stopped_some bytes TooBig nd nu s = absurd s
    stopped_some bytes (BadGrammar fault) nd nu s = absurd s
    stopped_some bytes (BadForest fault) nd nu s = absurd s
    stopped_some bytes (BadCertificate fault) nd nu s = absurd s

    stopped : (status : Status) → Stops (Is (length xs) ys) two three status → Stops (Is 0 (xs ++ (ys ++ zs))) one three status
    stopped status s = record {
      writes = record {
        bytes = w.bytes ++ (s.writes).bytes;
        why = stopped_some (s.writes).bytes status s.not_done s.not_uncovered (s.writes).why;
        written = (s.writes).written ∙ ap (λ k. append_known k (s.writes).bytes) w.written ∙ taken_both one.taken w.bytes (s.writes).bytes;
        keeps = both_kept one two three c status w.keeps (s.writes).keeps;
      };
      not_done = s.not_done;
      not_uncovered = s.not_uncovered;
    }

-- ---- the trees that a loop cuts batches off

pub cut_at : (n : ℕ) (rest batch more : List Tree) → batch ≡ take n rest → more ≡ drop n rest → rest ≡ batch ++ more
cut_at n rest batch more front back = sym (take-append-drop n rest) ∙ ap (λ l. l ++ drop n rest) (sym front) ∙ ap (λ l. batch ++ l) (sym back)

pub valid_behind : (g : Grammar) (xs ys : List Tree) → AreValid g (xs ++ ys) → AreValid g ys
valid_behind g xs ys valid = λ tree there. valid tree (Contains-append_right xs ys tree there)

pub valid_before : (g : Grammar) (xs ys : List Tree) → AreValid g (xs ++ ys) → AreValid g xs
valid_before g xs ys valid = λ tree there. valid tree (Contains-append_left xs ys tree there)

-- so the trees of a batch are valid
pub valid_batch : (g : Grammar) (trees done rest batch more : List Tree) → AreValid g trees → trees ≡ done ++ rest → rest ≡ batch ++ more → AreValid g batch
valid_batch g trees done rest batch more valid cut next =
    valid_before g batch more (subst (λ l. AreValid g l) next (valid_behind g done rest (subst (λ l. AreValid g l) cut valid)))

-- as many answers as trees
pub answers_count : (g : Grammar) (goal : Goal) (trees : List Tree) (answers : List Answer) → AreAnswersOf g goal trees answers → length answers ≡ length trees
answers_count g goal [] [] h = refl
answers_count g goal [] (a ∷ answers) h = absurd h
answers_count g goal (t ∷ trees) [] h = absurd h
answers_count g goal (t ∷ trees) (a ∷ answers) h = let e = answers_count g goal trees answers h.1 in omega arith

pub none_left : (trees : List Tree) → length trees ≡ 0 → trees ≡ []
none_left [] e = refl
none_left (t ∷ trees) e = absurd (omega (arith, e))

-- one batch more
module _ (g : Grammar) (Is : ℕ → List Tree → Bool → List ℕ → Type 0) (parts : HasParts g Is) (trees rest batch more : List Tree) (before : ℕ) (covered : Bool) (out mid last : SinkTold)
    (so_far : WrittenSoFar Is trees rest before covered out mid) (next : rest ≡ batch ++ more) where
  whole : trees ≡ so_far.done ++ (batch ++ more)
  whole = so_far.cut ∙ ap (λ l. so_far.done ++ l) next

  pub batch_written : (all : Bool) → Writes (Is before batch) mid last (finished all) → WrittenSoFar Is trees more (before + length batch) (covered && all) out last
  batch_written all w = record {
    done = so_far.done ++ batch;
    cut = whole ∙ sym (append_assoc so_far.done batch more);
    count = ap (λ n. n + length batch) so_far.count ∙ sym (length-append so_far.done batch);
    writes = more_written g Is parts so_far.done batch covered all out mid last so_far.writes (subst (λ n. Writes (Is n batch) mid last (finished all)) so_far.count w);
  }

  pub stop_written : (status : Status) → AreValid g trees → Stops (Is before batch) mid last status → Stops (Is 0 trees) out last status
  stop_written status valid s =
      let v : AreValid g (batch ++ more) = valid_behind g so_far.done (batch ++ more) (subst (λ l. AreValid g l) whole valid) in
      subst (λ l. Stops (Is 0 l) out last status) (sym whole)
      (stopped g Is parts so_far.done batch more v (valid_behind g batch more v) covered out mid last so_far.writes status (subst (λ n. Stops (Is n batch) mid last status) so_far.count s))

-- by answers of a crew
pub batch_answered : (g : Grammar) (Is : ℕ → List Tree → Bool → List ℕ → Type 0) (parts : HasParts g Is) (trees rest batch more : List Tree) (before : ℕ) (covered all : Bool) (old new newer : Crew) (out mid last : SinkTold)
    → AnsweredSoFar Is trees rest before covered old new out mid → rest ≡ batch ++ more → Writes (Is before batch) mid last (finished all) → AnswersMore batch new newer
    → AnsweredSoFar Is trees more (before + length batch) (covered && all) old newer out last
unfolding batch_written
batch_answered g Is parts trees rest batch more before covered all old new newer out mid last so_far next w answered = record {
  written = batch_written g Is parts trees rest batch more before covered out mid last so_far.written next all w;
  answered = more_and_more (so_far.written).done batch old new newer so_far.answered answered;
}

-- nothing is left
module _ (Is : ℕ → List Tree → Bool → List ℕ → Type 0) (trees rest : List Tree) (before : ℕ) (covered : Bool) (out mid : SinkTold) (so_far : WrittenSoFar Is trees rest before covered out mid) (none : rest ≡ []) where
  pub all_done : so_far.done ≡ trees
  all_done = sym (so_far.cut ∙ ap (λ l. so_far.done ++ l) none ∙ append-nil so_far.done)

  pub all_written : Writes (Is 0 trees) out mid (finished covered)
  all_written = subst (λ l. Writes (Is 0 l) out mid (finished covered)) all_done so_far.writes

pub all_answered : (Is : ℕ → List Tree → Bool → List ℕ → Type 0) (trees rest : List Tree) (before : ℕ) (covered : Bool) (old new : Crew) (out mid : SinkTold)
    → AnsweredSoFar Is trees rest before covered old new out mid → rest ≡ [] → AnswersMore trees old new
all_answered Is trees rest before covered old new out mid so_far none = subst (λ l. AnswersMore l old new) (all_done Is trees rest before covered out mid so_far.written none) so_far.answered

-- the end behind the last batch: the report may be refused memory
pub closed_writes : (Is : Bool → List ℕ → Type 0) (out now : SinkTold) (covered : Bool) (status : Status) (nothing : Type 0) → Writes Is out now (finished covered)
    → (status ≡ finished covered) ⊎ ((status ≡ NoMemory) × nothing) → Writes Is out now status
closed_writes Is out now covered status nothing w (inl is) = subst (λ s. Writes Is out now s) (sym is) w
closed_writes Is out now covered status nothing w (inr (is, _)) = subst (λ s. Writes Is out now s) (sym is) (record {
  bytes = w.bytes;
  why = inr (covered, w.bytes, whole_of Is out now w.bytes covered w.why, ([], sym (append-nil w.bytes)));
  written = w.written;
  keeps = record { later = (w.keeps).later; quiet = λ no. (w.keeps).quiet (not_fault covered) };
})
