-- The scan from line to line, and what it is at the end.
use Rattle.std.proofs.Common.{◌≡◌, ℕ, zero, suc, ◌+◌, ◌<◌, ◌≤◌, ◌⊎◌, inl, inr, Bool, true, false, Some, List, ◌∷◌, length, slice_get, get_or, drop, refl, ap, sym, ◌∙◌, subst, arith, add-one}
use Rattle.std.specs.Prelude.{cond}
use Rattle.std.specs.List.{filter, range_with_len}
use Rattle.std.proofs.Math.Seq.{drop-cons}
use Rattle.std.proofs.lemmas.List.Sums.{sum_by_more}
use Rattle.std.proofs.lemmas.Option.{slice_get_within, get_or_from_slice_get}
use Rattle.sel_regs.specs.declared.free.Free.{Free}
use Rattle.sel_regs.specs.declared.lives.Life.{Life}
use Rattle.sel_regs.specs.Lives.{Lines, IsNamed, first_line, lines_to_last, needs}
use Rattle.sel_regs.specs.Scans.{register_of, IsTaken, IsScan}
use Rattle.sel_regs.specs.Living.{AreLives}
use Rattle.sel_regs.specs.Beginning.{begins_on, BeginWithin, AreBegun}
use Rattle.sel_regs.specs.Scanning.{AreTaken, AreReleased, EndTaken, IsScanned}
use Rattle.sel_regs.specs.Assignments.{IsAssigned}
use Rattle.sel_regs.proofs.Counting.{some_same, some_none}
use Rattle.sel_regs.proofs.Sharing.{live_parts, last_within, live_named, named_live, none_share, scans_fit, needs_are_needed}
use Rattle.sel_regs.proofs.Passing.{IsDone, Part, part_line, end_taken, first_last, last_first, LineTaken, line_taken, Swept}

order : (a b : ℕ) → (a < b) ⊎ (b ≤ a)
order a b = grind arith

pub drop_step : (xs : List ℕ) (i : ℕ) → i < length xs → drop i xs ≡ get_or xs i 0 ∷ drop (i + 1) xs
drop_step xs i h = drop-cons xs i 0 h ∙ ap (λ n. get_or xs i 0 ∷ drop n xs) (sym (add-one i))

filter_below : (p : ℕ → Bool) (len a j i : ℕ) → slice_get (filter p (range_with_len a len)) j ≡ Some i → i < a + len
filter_below p zero a j i h = absurd (some_none (sym h))
filter_below p (suc len) a j i h = go (p a) j h (λ k e. filter_below p len (a + 1) k i e)
  where
    go : (b : Bool) (j : ℕ) → slice_get (cond b (a ∷ filter p (range_with_len (a + 1) len)) (filter p (range_with_len (a + 1) len))) j ≡ Some i
        → ((k : ℕ) → slice_get (filter p (range_with_len (a + 1) len)) k ≡ Some i → i < a + 1 + len) → i < a + suc len
    go true zero h r = let e : a ≡ i = some_same h in omega arith
    go true (suc j) h r = let l = r j h in omega arith
    go false j h r = let l = r j h in omega arith

pub begun_within : (lives : List Life) (lines n j i : ℕ) (begun : List (List ℕ)) (here : List ℕ) → AreBegun lives (length lives) lines begun → slice_get begun n ≡ Some here → slice_get here j ≡ Some i → i < length lives
begun_within lives lines n j i begun here are at h = let l = filter_below (begins_on lives n) (length lives) 0 j i (ap (λ x. slice_get x j) (sym (are.each n here at)) ∙ h) in omega arith

pub begin_within : (lines : Lines) (temps : ℕ) (lives : List Life) → AreLives lines temps lives → BeginWithin lives (length lines)
begin_within lines temps lives are i life at some =
    let is = are.each i life at in
    let ends = is.ends in
    let begins = is.begins some in
    let first = last_first lines (suc i) (omega arith) in
    let last = last_within lines (suc i) in omega arith

module _ (lines : Lines) (lives : List Life) (begun : List (List ℕ)) (n : ℕ) (within : n < length lines) (are : AreLives lines (length lives) lives) (have : AreBegun lives (length lives) (length lines) begun) (here : List ℕ) (at : slice_get begun n ≡ Some here) where
  module _ (registers registers' : List ℕ) (free free' : Free) (swept : Swept lines begun (length lives) n registers free) (taken : AreTaken here registers free registers' free') where
    begun_taken : LineTaken lines n registers registers' free free' (length here)
    begun_taken =
        subst (λ x. LineTaken lines n registers registers' free free' (length x)) (sym (have.each n here at))
        (line_taken lines n lives within (length lives) 0 registers registers' free free' (let l = swept.long in omega arith) (subst (λ x. AreLives lines x lives) (sym swept.long) are) swept.part
        (subst (λ x. AreTaken x registers free registers' free') (have.each n here at) taken))

    long : length registers' ≡ length lives
    long = begun_taken.long ∙ swept.long

    are_still : AreLives lines (length registers') lives
    are_still = subst (λ x. AreLives lines x lives) (sym long) are

    part : Part lines n (length registers') registers' free'
    part = subst (λ x. Part lines n x registers' free') (sym begun_taken.long) begun_taken.part

    module _ (line : List ℕ) (is : slice_get lines n ≡ Some line) where
      pub ended_taken : EndTaken lives registers' (n + 1) free'
      ended_taken = end_taken lines n line is registers' lives are_still free' part

      pub swept_more : (free'' : Free) → AreReleased line lives registers' (n + 1) free' free'' → Swept lines begun (length lives) (n + 1) registers' free''
      swept_more free'' released = record {
        part = part_line lines n line is registers' lives are_still free' part free'' released;
        long = long;
        room =
            let inside = slice_get_within begun n here at in
            let sum = sum_by_more (λ (x : List ℕ). length x) begun n here inside in
            let same : length (get_or begun n here) ≡ length here = ap (λ (x : List ℕ). length x) (get_or_from_slice_get begun n here here at) in
            let few = begun_taken.few in
            let room = swept.room in
            let fresh = released.fresh in omega arith;
      }

module _ (lines : Lines) (registers : List ℕ) (free : Free) (part : Part lines (length lines) 0 registers free) where
  not_done : (i : ℕ) → length lines ≤ first_line lines (suc i) → IsDone lines (length lines) 0 i → ⊥
  not_done i h (inl l) = absurd (omega arith)
  not_done i h (inr l) = let m = l.1 in absurd (omega arith)

  -- none is live behind the last line
  none_taken : (k r : ℕ) → length lines ≤ first_line lines k → IsTaken lines registers k r → ⊥
  none_taken k r h t =
      let p = (live_parts lines (first_line lines k) t.by t.live).1 in
      let q = last_within lines t.by in absurd (omega arith)

  scanned : IsScan lines registers
  scanned = record { free = free_of; lowest = lowest_of }
    where
      free_of : (k r : ℕ) → register_of registers k ≡ Some r → IsTaken lines registers k r → ⊥
      free_of zero r e t = some_none (sym e)
      free_of (suc i) r e t = go (order (first_line lines (suc i)) (length lines))
        where
          go : (first_line lines (suc i) < length lines) ⊎ (length lines ≤ first_line lines (suc i)) → ⊥
          go (inl h) = part.apart i r (inl h) e t
          go (inr h) = none_taken (suc i) r h t

      lowest_of : (k r q : ℕ) → register_of registers k ≡ Some r → q < r → IsTaken lines registers k q
      lowest_of zero r q e l = absurd (some_none (sym e))
      lowest_of (suc i) r q e l = go (order (first_line lines (suc i)) (length lines))
        where
          go : (first_line lines (suc i) < length lines) ⊎ (length lines ≤ first_line lines (suc i)) → IsTaken lines registers (suc i) q
          go (inl h) = part.lowest i r q (inl h) e l
          go (inr h) = let z = part.unset i r (not_done i h) e in absurd (omega arith)

  small : (k r : ℕ) → IsNamed lines k → register_of registers k ≡ Some r → r < free.fresh
  small zero r named e = absurd (some_none (sym e))
  small (suc i) r (j, line, at, on) e =
      let live = named_live lines (suc i) j line at on in
      let last = last_within lines (suc i) in
      part.below i r (inl (omega arith)) e

  most : free.fresh ≤ needs lines (length registers)
  most = go free.fresh refl
    where
      go : (n : ℕ) → free.fresh ≡ n → n ≤ needs lines (length registers)
      go zero e = omega arith
      go (suc r) e = let top = part.top r (sym e) in by top.index top.done top.has
        where
          by : (i : ℕ) → IsDone lines (length lines) 0 i → slice_get registers i ≡ Some r → suc r ≤ needs lines (length registers)
          by i (inr h) has = let l = h.1 in absurd (omega arith)
          by i (inl h) has =
              let live = first_last lines (suc i) h in
              let fits = scans_fit lines registers (suc i) r (live_named lines (suc i) (omega arith)) scanned has in omega arith

  exact : free.fresh ≡ needs lines (length registers)
  exact = let enough = needs_are_needed lines registers free.fresh (none_share lines registers scanned) small in let m = most in omega arith

pub swept_all : (lines : Lines) (begun : List (List ℕ)) (temps at needed : ℕ) (registers : List ℕ) (free : Free) → at ≡ length lines → needed ≡ free.fresh → Swept lines begun temps at registers free → IsScanned lines temps registers needed
swept_all lines begun temps at needed registers free end is swept =
    let part : Part lines (length lines) 0 registers free = subst (λ x. Part lines x 0 registers free) end swept.part in
    record {
      scan = scanned lines registers free part;
      long = swept.long;
      exact = is ∙ exact lines registers free part ∙ ap (needs lines) swept.long;
    }

-- where so many registers are enough, each is one of them
pub assigned : (lines : Lines) (temps registers needed : ℕ) (of : List ℕ) → 1 ≤ registers → needed ≤ registers → IsScanned lines temps of needed → IsAssigned lines temps registers of
assigned lines temps registers needed of some enough is = record {
  scan = is.scan;
  long = is.long;
  enough = let e = is.exact in omega arith;
  within = λ i r e. within i r e (order 0 (lines_to_last lines (suc i)));
}
  where
    within : (i r : ℕ) → slice_get of i ≡ Some r → (0 < lines_to_last lines (suc i)) ⊎ (lines_to_last lines (suc i) ≤ 0) → r < registers
    within i r e (inl h) =
        let fits = scans_fit lines of (suc i) r (live_named lines (suc i) h) is.scan e in
        let same : needs lines (length of) ≡ needed = ap (needs lines) is.long ∙ sym is.exact in omega arith
    within i r e (inr h) = go (order 0 r)
      where
        go : (0 < r) ⊎ (r ≤ 0) → r < registers
        go (inr l) = omega arith
        go (inl l) =
            let t = is.scan.lowest (suc i) r 0 e l in
            let p = (live_parts lines (first_line lines (suc i)) t.by t.live).1 in
            let q = last_within lines t.by in
            let f = first_last lines (suc i) (omega arith) in absurd (omega arith)
