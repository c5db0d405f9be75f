-- What the scan has done when it has come to a line, and within a line to a temporary.
use Rattle.std.proofs.Common.{◌≡◌, ℕ, zero, suc, ◌+◌, ◌<◌, ◌≤◌, ◌⊎◌, inl, inr, Bool, true, false, ◌&&◌, ◌||◌, ◌==◌, not, Option, Some, None, List, [], ◌∷◌, length, slice_get, take, refl, ap, sym, ◌∙◌, subst, set, arith}
use Rattle.std.specs.Prelude.{nat_le, nat_lt, cond}
use Rattle.std.specs.Ordering.{nat_cmp}
use Rattle.std.specs.BTreeSet.{contains}
use Rattle.std.specs.List.{filter, list_any, range_with_len, sum_by}
use Rattle.std.proofs.lemmas.Bool.{and_parts, and_from, le-leb, ltb-true, lt-ltb}
use Rattle.std.proofs.lemmas.List.{length-set}
use Rattle.std.proofs.lemmas.Option.{slice_get_within}
use Rattle.sel_regs.specs.declared.free.Free.{Free}
use Rattle.sel_regs.specs.declared.lives.Life.{Life}
use Rattle.sel_regs.specs.Lives.{Lines, is_on, first_line, with_line, lines_to_last, is_live}
use Rattle.sel_regs.specs.Scans.{register_of, IsBefore, IsTaken}
use Rattle.sel_regs.specs.Living.{IsLife, AreLives}
use Rattle.sel_regs.specs.Beginning.{is_first, begins_on}
use Rattle.sel_regs.specs.Freeing.{is_free, IsNextTaken}
use Rattle.sel_regs.specs.Scanning.{AreTaken, has_end, is_register, gives_back, AreReleased, EndTaken}
use Rattle.sel_regs.proofs.Counting.{some_same, some_none, not_both}
use Rattle.sel_regs.proofs.Sharing.{live_parts, live_from}
use Rattle.sel_regs.proofs.Sets.{set_here, set_other}

same_true : (a b : ℕ) → a ≡ b → (a == b) ≡ true
same_true a b h = grind arith

true_same : (a b : ℕ) → (a == b) ≡ true → a ≡ b
true_same a b h = grind arith

same_or_not : (a b : ℕ) → (a ≡ b) ⊎ (a ≡ b → ⊥)
same_or_not a b = grind arith

order : (a b : ℕ) → (a ≤ b) ⊎ (b < a)
order a b = grind arith

next_above : (n m : ℕ) → n < m → (m ≡ n + 1 → ⊥) → n + 1 < m
next_above n m h l = grind arith

below_or_last : (x n : ℕ) → x < n + 1 → (x < n) ⊎ (x ≡ n)
below_or_last x n h = grind arith

-- The temporaries that begin on an earlier line are done, and of those that begin on line n the ones with an index below b.
abbrev pub IsDone : Lines → ℕ → ℕ → ℕ → Type 0
IsDone lines n b i = (first_line lines (suc i) < n) ⊎ ((first_line lines (suc i) ≡ n) × (i < b))

-- a temporary that is done and ends later has the register
pub record Holder (lines : Lines) (n b : ℕ) (registers : List ℕ) (r : ℕ) : Type 0 where
  pub index : ℕ
  pub done : IsDone lines n b index
  pub live : n < lines_to_last lines (suc index)
  pub has : slice_get registers index ≡ Some r

-- a temporary that is done has the last of the registers that were taken
pub record Top (lines : Lines) (n b : ℕ) (registers : List ℕ) (r : ℕ) : Type 0 where
  pub index : ℕ
  pub done : IsDone lines n b index
  pub has : slice_get registers index ≡ Some r

-- Those that are done are scanned, and the registers that aren't free are those of the ones among them that end later, each of one.
pub record Part (lines : Lines) (n b : ℕ) (registers : List ℕ) (free : Free) : Type 0 where
  pub lowest : (i r q : ℕ) → IsDone lines n b i → slice_get registers i ≡ Some r → q < r → IsTaken lines registers (suc i) q
  pub apart : (i r : ℕ) → IsDone lines n b i → slice_get registers i ≡ Some r → IsTaken lines registers (suc i) r → ⊥
  pub held : (i r : ℕ) → IsDone lines n b i → n < lines_to_last lines (suc i) → slice_get registers i ≡ Some r → is_free free r ≡ false
  pub holder : (r : ℕ) → is_free free r ≡ false → Holder lines n b registers r
  pub one : (i j r : ℕ) → IsDone lines n b i → IsDone lines n b j → n < lines_to_last lines (suc i) → n < lines_to_last lines (suc j) → slice_get registers i ≡ Some r → slice_get registers j ≡ Some r → i ≡ j
  pub below : (i r : ℕ) → IsDone lines n b i → slice_get registers i ≡ Some r → r < free.fresh
  pub top : (r : ℕ) → suc r ≡ free.fresh → Top lines n b registers r
  pub unset : (i r : ℕ) → (IsDone lines n b i → ⊥) → slice_get registers i ≡ Some r → r ≡ 0

-- a temporary that begins on one of the lines ends behind that line
pub first_last : (lines : Lines) (k : ℕ) → first_line lines k < length lines → first_line lines k < lines_to_last lines k
first_last [] k h = absurd (omega arith)
first_last (x ∷ lines) k h = go (is_on k x) (lines_to_last lines k) h (λ l. first_last lines k l)
  where
    go : (b : Bool) (n : ℕ) → cond b 0 (suc (first_line lines k)) < suc (length lines) → (first_line lines k < length lines → first_line lines k < n) → cond b 0 (suc (first_line lines k)) < with_line b n
    go true zero h r = omega arith
    go true (suc n) h r = omega arith
    go false zero h r = let l = r (omega arith) in absurd (omega arith)
    go false (suc n) h r = let l = r (omega arith) in omega arith

pub last_first : (lines : Lines) (k : ℕ) → 0 < lines_to_last lines k → first_line lines k < lines_to_last lines k
last_first [] k h = absurd (omega arith)
last_first (x ∷ lines) k h = go (is_on k x) (lines_to_last lines k) h (last_first lines k)
  where
    go : (b : Bool) (n : ℕ) → 0 < with_line b n → (0 < n → first_line lines k < n) → cond b 0 (suc (first_line lines k)) < with_line b n
    go true zero h r = omega arith
    go true (suc n) h r = omega arith
    go false zero h r = absurd (omega arith)
    go false (suc n) h r = let l = r (omega arith) in omega arith

-- the line before the end names it
last_on : (lines : Lines) (k n : ℕ) (line : List ℕ) → lines_to_last lines k ≡ suc n → slice_get lines n ≡ Some line → is_on k line ≡ true
last_on [] k n line h at = absurd (some_none (sym at))
last_on (x ∷ lines) k zero line h at = go (is_on k x) refl (lines_to_last lines k) h
  where
    go : (b : Bool) → is_on k x ≡ b → (m : ℕ) → with_line b m ≡ suc zero → is_on k line ≡ true
    go true e m h = ap (is_on k) (sym (some_same at)) ∙ e
    go false e zero h = absurd (omega arith)
    go false e (suc m) h = absurd (omega arith)
last_on (x ∷ lines) k (suc j) line h at = go (is_on k x) (lines_to_last lines k) h (λ e. last_on lines k j line e at)
  where
    go : (b : Bool) (m : ℕ) → with_line b m ≡ suc (suc j) → (m ≡ suc j → is_on k line ≡ true) → is_on k line ≡ true
    go true zero h r = absurd (omega arith)
    go false zero h r = absurd (omega arith)
    go b (suc m) h r = r (omega arith)

and_left : (a b : Bool) → a ≡ false → (a && b) ≡ false
and_left true b h = absurd (not_both true refl h)
and_left false b h = refl

-- a register that was just taken isn't free
just_taken : (a : Bool) (q r : ℕ) → q ≡ r → (a && not (q == r)) ≡ false
just_taken a q r h = ap (λ c. a && not c) (same_true q r h) ∙ none a
  where
    none : (a : Bool) → (a && not true) ≡ false
    none true = refl
    none false = refl

free_or_taken : (a : Bool) (q r : ℕ) → (a && not (q == r)) ≡ false → (a ≡ false) ⊎ (q ≡ r)
free_or_taken false q r h = inl refl
free_or_taken true q r h = inr (true_same q r (go (q == r) h))
  where
    go : (c : Bool) → not c ≡ false → c ≡ true
    go true h = refl
    go false h = absurd (not_both true refl h)

or_none : (a b : Bool) → (a || b) ≡ false → (a ≡ false) × (b ≡ false)
or_none true b h = absurd (not_both true refl h)
or_none false b h = (refl, h)

or_both : (a b : Bool) → a ≡ false → b ≡ false → (a || b) ≡ false
or_both true b h l = h
or_both false b h l = l

fresh_free : (free : Free) (q : ℕ) → free.fresh ≤ q → is_free free q ≡ true
fresh_free free q h = go (nat_le free.fresh q) (le-leb free.fresh q h)
  where
    go : (a : Bool) → a ≡ true → (a || contains nat_cmp free.released q) ≡ true
    go true e = refl
    go false e = absurd (not_both false e refl)

-- the next register is at most the first that was never taken
pub next_le : (free free' : Free) (r : ℕ) → IsNextTaken free free' r → r ≤ free.fresh
next_le free free' r next = go (order r free.fresh)
  where
    go : (r ≤ free.fresh) ⊎ (free.fresh < r) → r ≤ free.fresh
    go (inl h) = h
    go (inr h) = absurd (not_both (is_free free free.fresh) (fresh_free free free.fresh (omega arith)) (next.lowest free.fresh h))

module _ (lines : Lines) (n b : ℕ) (registers : List ℕ) (free : Free) (part : Part lines n b registers free) where
  more : (i : ℕ) → IsDone lines n b i → IsDone lines n (b + 1) i
  more i (inl h) = inl h
  more i (inr h) = inr (h.0, let l = h.1 in omega arith)

  split : (i : ℕ) → IsDone lines n (b + 1) i → IsDone lines n b i ⊎ (i ≡ b)
  split i (inl h) = inl (inl h)
  split i (inr h) = go (below_or_last i b h.1)
    where
      go : (i < b) ⊎ (i ≡ b) → IsDone lines n b i ⊎ (i ≡ b)
      go (inl l) = inl (inr (h.0, l))
      go (inr e) = inr e

  -- one that begins elsewhere is passed over
  pub part_pass : (first_line lines (suc b) ≡ n → ⊥) → Part lines n (b + 1) registers free
  part_pass other = record {
    lowest = λ i r q d. part.lowest i r q (old i d);
    apart = λ i r d. part.apart i r (old i d);
    held = λ i r d. part.held i r (old i d);
    holder = λ r e. let h = part.holder r e in record { index = h.index; done = more h.index h.done; live = h.live; has = h.has };
    one = λ i j r d f. part.one i j r (old i d) (old j f);
    below = λ i r d. part.below i r (old i d);
    top = λ r e. let h = part.top r e in record { index = h.index; done = more h.index h.done; has = h.has };
    unset = λ i r d. part.unset i r (λ e. d (more i e));
  }
    where
      old : (i : ℕ) → IsDone lines n (b + 1) i → IsDone lines n b i
      old i (inl h) = inl h
      old i (inr h) = go (below_or_last i b h.1)
        where
          go : (i < b) ⊎ (i ≡ b) → IsDone lines n b i
          go (inl l) = inr (h.0, l)
          go (inr e) = absurd (other (ap (λ x. first_line lines (suc x)) (sym e) ∙ h.0))

  module _ (free' : Free) (r : ℕ) (next : IsNextTaken free free' r) (begins : first_line lines (suc b) ≡ n) (ends : n < lines_to_last lines (suc b)) (within : b < length registers) where
    not_b : (i : ℕ) → IsDone lines n b i → i ≡ b → ⊥
    not_b i (inl h) e = let f : first_line lines (suc i) ≡ first_line lines (suc b) = ap (λ x. first_line lines (suc x)) e in absurd (omega arith)
    not_b i (inr h) e = let l = h.1 in absurd (omega arith)

    kept : (i : ℕ) → IsDone lines n b i → slice_get (set registers b r) i ≡ slice_get registers i
    kept i d = set_other registers b i r (not_b i d)

    before_done : (i j : ℕ) → IsDone lines n b i → IsBefore lines (suc j) (suc i) → IsDone lines n b j
    before_done i j (inl h) (inl l) = inl (omega arith)
    before_done i j (inr h) (inl l) = inl (let e = h.0 in omega arith)
    before_done i j (inl h) (inr l) = inl (let e = l.0 in omega arith)
    before_done i j (inr h) (inr l) = inr (l.0 ∙ h.0, let p = h.1 in let q = l.1 in omega arith)

    before_b : (j : ℕ) → IsBefore lines (suc j) (suc b) → IsDone lines n b j
    before_b j (inl h) = inl (omega arith)
    before_b j (inr h) = inr (h.0 ∙ begins, let l = h.1 in omega arith)

    done_before : (j : ℕ) → IsDone lines n b j → IsBefore lines (suc j) (suc b)
    done_before j (inl h) = inl (omega arith)
    done_before j (inr h) = inr (h.0 ∙ sym begins, let l = h.1 in omega arith)

    taken_still : (i q : ℕ) → IsDone lines n b i → IsTaken lines registers (suc i) q → IsTaken lines (set registers b r) (suc i) q
    taken_still i q d t = go t.by t.before t.live t.has
      where
        go : (j : ℕ) → IsBefore lines j (suc i) → is_live lines (first_line lines (suc i)) j ≡ true → register_of registers j ≡ Some q → IsTaken lines (set registers b r) (suc i) q
        go zero p l h = absurd (some_none (sym h))
        go (suc j) p l h = record { by = suc j; before = p; live = l; has = kept j (before_done i j d p) ∙ h }

    taken_before : (i q : ℕ) → IsDone lines n b i → IsTaken lines (set registers b r) (suc i) q → IsTaken lines registers (suc i) q
    taken_before i q d t = go t.by t.before t.live t.has
      where
        go : (j : ℕ) → IsBefore lines j (suc i) → is_live lines (first_line lines (suc i)) j ≡ true → register_of (set registers b r) j ≡ Some q → IsTaken lines registers (suc i) q
        go zero p l h = absurd (some_none (sym h))
        go (suc j) p l h = record { by = suc j; before = p; live = l; has = sym (kept j (before_done i j d p)) ∙ h }

    own : (s : ℕ) → slice_get (set registers b r) b ≡ Some s → r ≡ s
    own s e = some_same (sym (set_here registers b r within) ∙ e)

    own_lowest : (q : ℕ) → q < r → IsTaken lines (set registers b r) (suc b) q
    own_lowest q l =
        let h = part.holder q (next.lowest q l) in
        record {
          by = suc h.index;
          before = done_before h.index h.done;
          live = live_from lines (first_line lines (suc b)) (suc h.index) (earlier h.index h.done) (let p = h.live in omega arith);
          has = kept h.index h.done ∙ h.has;
        }
      where
        earlier : (j : ℕ) → IsDone lines n b j → first_line lines (suc j) ≤ first_line lines (suc b)
        earlier j (inl h) = omega arith
        earlier j (inr h) = let e = h.0 in omega arith

    own_apart : IsTaken lines (set registers b r) (suc b) r → ⊥
    own_apart t = go t.by t.before t.live t.has
      where
        go : (j : ℕ) → IsBefore lines j (suc b) → is_live lines (first_line lines (suc b)) j ≡ true → register_of (set registers b r) j ≡ Some r → ⊥
        go zero p l h = some_none (sym h)
        go (suc j) p l h =
            let d = before_b j p in
            not_both (is_free free r) next.was_free (part.held j r d (let q = (live_parts lines (first_line lines (suc b)) (suc j) l).1 in omega arith) (sym (kept j d) ∙ h))

    own_held : is_free free' r ≡ false
    own_held = next.after r ∙ just_taken (is_free free r) r r refl

    own_done : IsDone lines n (b + 1) b
    own_done = inr (begins, omega arith)

    -- one that is done has no register that was free
    not_free : (i : ℕ) → IsDone lines n b i → n < lines_to_last lines (suc i) → slice_get registers i ≡ Some r → ⊥
    not_free i d l e = not_both (is_free free r) next.was_free (part.held i r d l e)

    -- the next one takes its register
    pub part_take : Part lines n (b + 1) (set registers b r) free'
    part_take = record {
      lowest = λ i s q d e l. lowest i s q (split i d) e l;
      apart = λ i s d e t. apart i s (split i d) e t;
      held = λ i s d l e. held i s (split i d) l e;
      holder = λ q e. holder q (free_or_taken (is_free free q) q r (sym (next.after q) ∙ e));
      one = λ i j s d f l m e g. one i j s (split i d) (split j f) l m e g;
      below = λ i s d e. below i s (split i d) e;
      top = λ s e. top s e (order (r + 1) free.fresh);
      unset = λ i s d e. part.unset i s (λ f. d (more i f)) (sym (set_other registers b i r (λ q. d (subst (IsDone lines n (b + 1)) (sym q) own_done))) ∙ e);
    }
      where
        lowest : (i s q : ℕ) → IsDone lines n b i ⊎ (i ≡ b) → slice_get (set registers b r) i ≡ Some s → q < s → IsTaken lines (set registers b r) (suc i) q
        lowest i s q (inl d) e l = taken_still i q d (part.lowest i s q d (sym (kept i d) ∙ e) l)
        lowest i s q (inr g) e l = subst (λ x. IsTaken lines (set registers b r) (suc x) q) (sym g) (own_lowest q (let f = own s (ap (slice_get (set registers b r)) (sym g) ∙ e) in omega arith))

        apart : (i s : ℕ) → IsDone lines n b i ⊎ (i ≡ b) → slice_get (set registers b r) i ≡ Some s → IsTaken lines (set registers b r) (suc i) s → ⊥
        apart i s (inl d) e t = part.apart i s d (sym (kept i d) ∙ e) (taken_before i s d t)
        apart i s (inr g) e t =
            let f = own s (ap (slice_get (set registers b r)) (sym g) ∙ e) in
            own_apart (subst (λ x. IsTaken lines (set registers b r) (suc b) x) (sym f) (subst (λ x. IsTaken lines (set registers b r) (suc x) s) g t))

        held : (i s : ℕ) → IsDone lines n b i ⊎ (i ≡ b) → n < lines_to_last lines (suc i) → slice_get (set registers b r) i ≡ Some s → is_free free' s ≡ false
        held i s (inl d) l e = next.after s ∙ and_left (is_free free s) (not (s == r)) (part.held i s d l (sym (kept i d) ∙ e))
        held i s (inr g) l e = ap (is_free free') (sym (own s (ap (slice_get (set registers b r)) (sym g) ∙ e))) ∙ own_held

        holder : (q : ℕ) → (is_free free q ≡ false) ⊎ (q ≡ r) → Holder lines n (b + 1) (set registers b r) q
        holder q (inl e) = let h = part.holder q e in record { index = h.index; done = more h.index h.done; live = h.live; has = kept h.index h.done ∙ h.has }
        holder q (inr e) = record { index = b; done = own_done; live = ends; has = set_here registers b r within ∙ ap Some (sym e) }

        one : (i j s : ℕ) → IsDone lines n b i ⊎ (i ≡ b) → IsDone lines n b j ⊎ (j ≡ b) → n < lines_to_last lines (suc i) → n < lines_to_last lines (suc j) → slice_get (set registers b r) i ≡ Some s → slice_get (set registers b r) j ≡ Some s → i ≡ j
        one i j s (inl d) (inl f) l m e g = part.one i j s d f l m (sym (kept i d) ∙ e) (sym (kept j f) ∙ g)
        one i j s (inl d) (inr q) l m e g = absurd (not_free i d l (sym (kept i d) ∙ e ∙ ap Some (sym (own s (ap (slice_get (set registers b r)) (sym q) ∙ g)))))
        one i j s (inr q) (inl f) l m e g = absurd (not_free j f m (sym (kept j f) ∙ g ∙ ap Some (sym (own s (ap (slice_get (set registers b r)) (sym q) ∙ e)))))
        one i j s (inr p) (inr q) l m e g = p ∙ sym q

        below : (i s : ℕ) → IsDone lines n b i ⊎ (i ≡ b) → slice_get (set registers b r) i ≡ Some s → s < free'.fresh
        below i s (inl d) e = let p = part.below i s d (sym (kept i d) ∙ e) in let q = next.fresh in omega arith
        below i s (inr g) e = let p = own s (ap (slice_get (set registers b r)) (sym g) ∙ e) in let q = next.fresh in omega arith

        top : (s : ℕ) → suc s ≡ free'.fresh → (r + 1 ≤ free.fresh) ⊎ (free.fresh < r + 1) → Top lines n (b + 1) (set registers b r) s
        top s e (inl l) = let q = next.fresh in let h = part.top s (omega arith) in record { index = h.index; done = more h.index h.done; has = kept h.index h.done ∙ h.has }
        top s e (inr l) = let q = next.fresh in let f : r ≡ s = omega arith in record { index = b; done = own_done; has = set_here registers b r within ∙ ap Some f }

any_item : (p : ℕ → Bool) (xs : List ℕ) → list_any p xs ≡ true → (t : ℕ) × (p t ≡ true)
any_item p [] h = absurd (not_both false h refl)
any_item p (x ∷ xs) h = go (p x) refl h (any_item p xs)
  where
    go : (a : Bool) → p x ≡ a → (a || list_any p xs) ≡ true → (list_any p xs ≡ true → (t : ℕ) × (p t ≡ true)) → (t : ℕ) × (p t ≡ true)
    go true e h r = (x, e)
    go false e h r = r h

any_implies : (p q : ℕ → Bool) → ((t : ℕ) → p t ≡ true → q t ≡ true) → (xs : List ℕ) → list_any p xs ≡ true → list_any q xs ≡ true
any_implies p q h [] e = e
any_implies p q h (x ∷ xs) e = go (p x) refl e (any_implies p q h xs)
  where
    first : (a b : Bool) → a ≡ true → (a || b) ≡ true
    first true b e = refl
    first false b e = absurd (not_both false e refl)

    second : (a b : Bool) → b ≡ true → (a || b) ≡ true
    second true b e = refl
    second false b e = e

    go : (a : Bool) → p x ≡ a → (a || list_any p xs) ≡ true → (list_any p xs ≡ true → list_any q xs ≡ true) → (q x || list_any q xs) ≡ true
    go true f e r = first (q x) (list_any q xs) (h x f)
    go false f e r = second (q x) (list_any q xs) (r e)

-- a temporary that gives back a register ends there and has it
record GivesBack (lives : List Life) (registers : List ℕ) (end q t : ℕ) : Type 0 where
  index : ℕ
  number : t ≡ suc index
  life : Life
  is : slice_get lives index ≡ Some life
  ends : life.end ≡ end
  has : slice_get registers index ≡ Some q

gives_back_is : (lives : List Life) (registers : List ℕ) (end q t : ℕ) → gives_back lives registers end q t ≡ true → GivesBack lives registers end q t
gives_back_is lives registers end q zero h = absurd (not_both false h refl)
gives_back_is lives registers end q (suc i) h =
    let p = and_parts (has_end end (slice_get lives i)) (is_register q (slice_get registers i)) h in
    go (slice_get lives i) refl (slice_get registers i) refl p.0 p.1
  where
    go : (o : Option Life) → slice_get lives i ≡ o → (u : Option ℕ) → slice_get registers i ≡ u → has_end end o ≡ true → is_register q u ≡ true → GivesBack lives registers end q (suc i)
    go None e u f h l = absurd (not_both false h refl)
    go (Some life) e None f h l = absurd (not_both false l refl)
    go (Some life) e (Some r) f h l = record { index = i; number = refl; life = life; is = e; ends = true_same life.end end h; has = f ∙ ap Some (true_same r q l) }

module _ (lines : Lines) (n : ℕ) (line : List ℕ) (at : slice_get lines n ≡ Some line) (registers : List ℕ) (lives : List Life) (are : AreLives lines (length registers) lives) (free : Free) (part : Part lines n (length registers) registers free) where
  done_new : (i : ℕ) → IsDone lines n (length registers) i → IsDone lines (n + 1) 0 i
  done_new i (inl h) = inl (omega arith)
  done_new i (inr h) = inl (let e = h.0 in omega arith)

  done_old : (i r : ℕ) → IsDone lines (n + 1) 0 i → slice_get registers i ≡ Some r → IsDone lines n (length registers) i
  done_old i r (inr h) e = let l = h.1 in absurd (omega arith)
  done_old i r (inl h) e = go (below_or_last (first_line lines (suc i)) n h)
    where
      go : (first_line lines (suc i) < n) ⊎ (first_line lines (suc i) ≡ n) → IsDone lines n (length registers) i
      go (inl l) = inl l
      go (inr q) = inr (q, slice_get_within registers i r e)

  -- one that ends behind this line is done
  ended_done : (i r : ℕ) → lines_to_last lines (suc i) ≡ n + 1 → slice_get registers i ≡ Some r → IsDone lines n (length registers) i
  ended_done i r e h = let l = last_first lines (suc i) (omega arith) in done_old i r (inl (omega arith)) h

  pub end_taken : EndTaken lives registers (n + 1) free
  end_taken i r life is ends has = let e = (are.each i life is).ends in part.below i r (ended_done i r (sym e ∙ ends) has) has

  module _ (free' : Free) (released : AreReleased line lives registers (n + 1) free free') where
    -- the register of one that ends later isn't given back
    not_given : (i r : ℕ) → IsDone lines (n + 1) 0 i → n + 1 < lines_to_last lines (suc i) → slice_get registers i ≡ Some r → list_any (gives_back lives registers (n + 1) r) line ≡ false
    not_given i r d l e = go (list_any (gives_back lives registers (n + 1) r) line) refl
      where
        go : (a : Bool) → list_any (gives_back lives registers (n + 1) r) line ≡ a → list_any (gives_back lives registers (n + 1) r) line ≡ false
        go false h = h
        go true h =
            let (t, is) = any_item (gives_back lives registers (n + 1) r) line h in
            let g = gives_back_is lives registers (n + 1) r t is in
            let last : lines_to_last lines (suc g.index) ≡ n + 1 = sym (are.each g.index g.life g.is).ends ∙ g.ends in
            let same : i ≡ g.index = part.one i g.index r (done_old i r d e) (ended_done g.index r last g.has) (omega arith) (omega arith) e g.has in
            let f : lines_to_last lines (suc i) ≡ lines_to_last lines (suc g.index) = ap (λ x. lines_to_last lines (suc x)) same in
            absurd (omega arith)

    later : (r : ℕ) → list_any (gives_back lives registers (n + 1) r) line ≡ false → Holder lines n (length registers) registers r → Holder lines (n + 1) 0 registers r
    later r none h = record { index = h.index; done = done_new h.index h.done; live = go (same_or_not (lines_to_last lines (suc h.index)) (n + 1)); has = h.has }
      where
        has_life : (xs : List Life) (i : ℕ) → i < length xs → (x : Life) × (slice_get xs i ≡ Some x)
        has_life [] i h = absurd (omega arith)
        has_life (x ∷ xs) zero h = (x, refl)
        has_life (x ∷ xs) (suc i) h = has_life xs i (omega arith)

        gives : lines_to_last lines (suc h.index) ≡ n + 1 → (t : ℕ) → (t == suc h.index) ≡ true → gives_back lives registers (n + 1) r t ≡ true
        gives last t e =
            let w = slice_get_within registers h.index r h.has in
            let long = are.long in
            let (life, is) = has_life lives h.index (omega arith) in
            let ends = (are.each h.index life is).ends in
            subst (λ x. gives_back lives registers (n + 1) r x ≡ true) (sym (true_same t (suc h.index) e))
            (and_from (has_end (n + 1) (slice_get lives h.index)) (is_register r (slice_get registers h.index))
            (ap (has_end (n + 1)) is ∙ same_true life.end (n + 1) (ends ∙ last))
            (ap (is_register r) h.has ∙ same_true r r refl))

        go : (lines_to_last lines (suc h.index) ≡ n + 1) ⊎ (lines_to_last lines (suc h.index) ≡ n + 1 → ⊥) → n + 1 < lines_to_last lines (suc h.index)
        go (inr e) = next_above n (lines_to_last lines (suc h.index)) h.live e
        go (inl e) = absurd (not_both (list_any (gives_back lives registers (n + 1) r) line)
            (any_implies (λ t. t == suc h.index) (gives_back lives registers (n + 1) r) (gives e) line (last_on lines (suc h.index) n line (omega arith) at)) none)

    -- the line is done
    pub part_line : Part lines (n + 1) 0 registers free'
    part_line = record {
      lowest = λ i r q d e. part.lowest i r q (done_old i r d e) e;
      apart = λ i r d e. part.apart i r (done_old i r d e) e;
      held = λ i r d l e. released.after r ∙ or_both (is_free free r) (list_any (gives_back lives registers (n + 1) r) line) (part.held i r (done_old i r d e) (omega arith) e) (not_given i r d l e);
      holder = λ r e. let p = or_none (is_free free r) (list_any (gives_back lives registers (n + 1) r) line) (sym (released.after r) ∙ e) in later r p.1 (part.holder r p.0);
      one = λ i j r d f l m e g. part.one i j r (done_old i r d e) (done_old j r f g) (omega arith) (omega arith) e g;
      below = λ i r d e. let p = part.below i r (done_old i r d e) e in let q = released.fresh in omega arith;
      top = λ r e. let h = part.top r (e ∙ released.fresh) in record { index = h.index; done = done_new h.index h.done; has = h.has };
      unset = λ i r d e. part.unset i r (λ f. d (done_new i f)) e;
    }

-- a temporary that begins on the line is told to
begins_is : (lines : Lines) (n i : ℕ) (o : Option Life) → ((life : Life) → o ≡ Some life → IsLife lines (suc i) life) → is_first n o ≡ true → (first_line lines (suc i) ≡ n) × (n < lines_to_last lines (suc i))
begins_is lines n i None lives h = absurd (not_both false h refl)
begins_is lines n i (Some life) lives h =
    let is = lives life refl in
    let p = and_parts (nat_lt 0 life.end) (life.first == n) h in
    let some = ltb-true 0 life.end p.0 in
    let first : first_line lines (suc i) ≡ n = sym (is.begins some) ∙ true_same life.first n p.1 in
    let ends = is.ends in
    let l = last_first lines (suc i) (omega arith) in
    (first, omega arith)

begins_not : (lines : Lines) (n i : ℕ) (o : Option Life) → n < length lines → (o ≡ None → ⊥) → ((life : Life) → o ≡ Some life → IsLife lines (suc i) life) → is_first n o ≡ false → first_line lines (suc i) ≡ n → ⊥
begins_not lines n i None within some lives h e = some refl
begins_not lines n i (Some life) within some lives h e =
    let is = lives life refl in
    let ends = is.ends in
    let l = first_last lines (suc i) (omega arith) in
    not_both (nat_lt 0 life.end && (life.first == n))
    (and_from (nat_lt 0 life.end) (life.first == n) (lt-ltb 0 life.end (omega arith)) (same_true life.first n (is.begins (omega arith) ∙ e))) h

some_life : (lives : List Life) (i : ℕ) → i < length lives → slice_get lives i ≡ None → ⊥
some_life [] i h e = absurd (omega arith)
some_life (x ∷ lives) zero h e = some_none e
some_life (x ∷ lives) (suc i) h e = some_life lives i (omega arith) e

-- what those that begin on the line leave
pub record LineTaken (lines : Lines) (n : ℕ) (registers registers' : List ℕ) (free free' : Free) (count : ℕ) : Type 0 where
  pub part : Part lines n (length registers) registers' free'
  pub long : length registers' ≡ length registers
  pub few : free'.fresh ≤ free.fresh + count

pub line_taken : (lines : Lines) (n : ℕ) (lives : List Life) → n < length lines → (len a : ℕ) (registers registers' : List ℕ) (free free' : Free) → a + len ≡ length registers → AreLives lines (length registers) lives
    → Part lines n a registers free → AreTaken (filter (begins_on lives n) (range_with_len a len)) registers free registers' free' → LineTaken lines n registers registers' free free' (length (filter (begins_on lives n) (range_with_len a len)))
line_taken lines n lives within zero a registers registers' free free' whole are part taken = record {
  part = subst (λ x. Part lines n x registers' free') (plain a (length registers) whole) (subst (λ x. Part lines n a x free') (sym taken.0) (subst (λ x. Part lines n a registers x) (sym taken.1) part));
  long = ap length taken.0;
  few = let e : free'.fresh ≡ free.fresh = ap (λ (x : Free). x.fresh) taken.1 in omega arith;
}
  where
    plain : (a b : ℕ) → a + 0 ≡ b → a ≡ b
    plain a b h = omega arith
line_taken lines n lives within (suc len) a registers registers' free free' whole are part taken =
    go (begins_on lives n a) refl taken (λ rs f w l p t. line_taken lines n lives within len (a + 1) rs registers' f free' w l p t)
  where
    go : (c : Bool) → begins_on lives n a ≡ c → AreTaken (cond c (a ∷ filter (begins_on lives n) (range_with_len (a + 1) len)) (filter (begins_on lives n) (range_with_len (a + 1) len))) registers free registers' free'
        → ((rs : List ℕ) (f : Free) → a + 1 + len ≡ length rs → AreLives lines (length rs) lives → Part lines n (a + 1) rs f → AreTaken (filter (begins_on lives n) (range_with_len (a + 1) len)) rs f registers' free' → LineTaken lines n rs registers' f free' (length (filter (begins_on lives n) (range_with_len (a + 1) len))))
        → LineTaken lines n registers registers' free free' (length (cond c (a ∷ filter (begins_on lives n) (range_with_len (a + 1) len)) (filter (begins_on lives n) (range_with_len (a + 1) len))))
    go false e t rest =
        rest registers free (omega arith) are
        (part_pass lines n a registers free part (begins_not lines n a (slice_get lives a) within (some_life lives a (let l = are.long in omega arith)) (λ life is. are.each a life is) e)) t
    go true e (r, between, (next, t)) rest =
        let p = begins_is lines n a (slice_get lives a) (λ life is. are.each a life is) e in
        let here : a < length registers = omega arith in
        let long = length-set registers a r in
        let made = part_take lines n a registers free part between r next p.0 p.1 here in
        let after = rest (set registers a r) between (omega arith) (subst (λ x. AreLives lines x lives) (sym long) are) made t in
        let least = next_le free between r next in
        let fresh = next.fresh in
        let few = after.few in
        record {
          part = subst (λ x. Part lines n x registers' free') long after.part;
          long = after.long ∙ long;
          few = omega arith;
        }

-- Nothing is done yet.
pub part_none : (lines : Lines) (registers : List ℕ) (free : Free) → free.fresh ≡ 0 → ((i r : ℕ) → slice_get registers i ≡ Some r → r ≡ 0) → Part lines 0 0 registers free
part_none lines registers free fresh zeros = record {
  lowest = λ i r q d e l. let z = zeros i r e in absurd (omega arith);
  apart = λ i r d. absurd (none i d);
  held = λ i r d. absurd (none i d);
  holder = λ r e. absurd (not_both (is_free free r) (fresh_free free r (omega arith)) e);
  one = λ i j r d. absurd (none i d);
  below = λ i r d. absurd (none i d);
  top = λ r e. absurd (omega arith);
  unset = λ i r d e. zeros i r e;
}
  where
    none : (i : ℕ) → IsDone lines 0 0 i → ⊥
    none i (inl h) = absurd (omega arith)
    none i (inr h) = let l = h.1 in absurd (omega arith)

-- the scan up to a line, which has taken no more registers than temporaries
pub record Swept (lines : Lines) (begun : List (List ℕ)) (temps at : ℕ) (registers : List ℕ) (free : Free) : Type 0 where
  pub part : Part lines at 0 registers free
  pub long : length registers ≡ temps
  pub room : free.fresh ≤ sum_by (λ here. length here) (take at begun)
