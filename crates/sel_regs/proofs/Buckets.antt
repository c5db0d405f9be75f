-- Those that begin on each line, one temporary after the other.
use Rattle.std.proofs.Common.{◌≡◌, ℕ, zero, suc, ◌+◌, ◌*◌, ◌<◌, ◌≤◌, ◌⊎◌, inl, inr, Bool, true, false, ◌&&◌, ◌==◌, Some, List, [], ◌∷◌, ◌++◌, length, slice_get, get_or, refl, ap, sym, ◌∙◌, set, arith, length-append, replicate}
use Rattle.std.specs.Prelude.{nat_lt, cond}
use Rattle.std.specs.List.{filter, range_with_len, sum_by}
use Rattle.std.proofs.lemmas.Bool.{lt-ltb}
use Rattle.std.proofs.lemmas.List.{length-set, length-replicate}
use Rattle.std.proofs.lemmas.List.Elements.{filter-append}
use Rattle.std.proofs.lemmas.List.Folds.{sum_by-replicate}
use Rattle.std.proofs.lemmas.List.Sums.{sum_by-set}
use Rattle.std.proofs.lemmas.Option.{slice_get_within, slice_get-get_or}
use Rattle.sel_regs.specs.declared.lives.Life.{Life}
use Rattle.sel_regs.specs.Beginning.{is_first, begins_on, AreBegun}
use Rattle.sel_regs.proofs.Sets.{set_here, set_other, range_more}

some_same : {A : Type 0} {x y : A} → Some x ≡ Some y → x ≡ y
some_same h = cc

same_or_not : (a b : ℕ) → (a ≡ b) ⊎ (a ≡ b → ⊥)
same_or_not a b = grind arith

same_true : (a b : ℕ) → a ≡ b → (a == b) ≡ true
same_true a b h = grind arith

other_false : (a b : ℕ) → (a ≡ b → ⊥) → (a == b) ≡ false
other_false a b h = grind arith

none_at : (n i : ℕ) (here : List ℕ) → slice_get (replicate n []) i ≡ Some here → here ≡ []
none_at zero i here h = absurd (cc)
none_at (suc n) zero here h = sym (some_same h)
none_at (suc n) (suc i) here h = none_at n i here h

pub begun_none : (lives : List Life) (lines : ℕ) (begun : List (List ℕ)) → begun ≡ replicate lines [] → AreBegun lives 0 lines begun
begun_none lives lines begun h = record {
  long = ap length h ∙ length-replicate lines [];
  each = λ line here e. none_at lines line here (ap (λ x. slice_get x line) (sym h) ∙ e);
  few = let e : sum_by (λ (here : List ℕ). length here) begun ≡ lines * 0 = ap (sum_by (λ (here : List ℕ). length here)) h ∙ sum_by-replicate (λ (here : List ℕ). length here) lines [] in omega arith;
}

module _ (lives : List Life) (n : ℕ) (life : Life) (at : slice_get lives n ≡ Some life) where
  -- the next is behind those of its line
  filter_more : (line : ℕ) (b : Bool) → is_first line (Some life) ≡ b → filter (begins_on lives line) (range_with_len 0 (n + 1)) ≡ filter (begins_on lives line) (range_with_len 0 n) ++ cond b (n ∷ []) []
  filter_more line b e =
      ap (filter (begins_on lives line)) (whole n)
      ∙ filter-append (begins_on lives line) (range_with_len 0 n) (n ∷ [])
      ∙ ap (λ c. filter (begins_on lives line) (range_with_len 0 n) ++ cond c (n ∷ []) []) (ap (is_first line) at ∙ e)
    where
      whole : (n : ℕ) → range_with_len 0 (n + 1) ≡ range_with_len 0 n ++ n ∷ []
      whole n = ap (range_with_len 0) (next n) ∙ range_more 0 n ∙ ap (λ x. range_with_len 0 n ++ x ∷ []) (plain n)
        where
          next : (n : ℕ) → n + 1 ≡ suc n
          next n = omega arith

          plain : (n : ℕ) → 0 + n ≡ n
          plain n = omega arith

  append_none : (xs : List ℕ) → xs ++ [] ≡ xs
  append_none [] = refl
  append_none (x ∷ xs) = ap (λ ys. x ∷ ys) (append_none xs)

  pub begun_less : (lines : ℕ) (begun : List (List ℕ)) → life.end ≤ 0 → AreBegun lives n lines begun → AreBegun lives (n + 1) lines begun
  begun_less lines begun small h = record {
    long = h.long;
    each = λ line here e. h.each line here e ∙ sym (filter_more line false (never life.end (life.first == line) small) ∙ append_none (filter (begins_on lives line) (range_with_len 0 n)));
    few = let f = h.few in omega arith;
  }
    where
      never : (k : ℕ) (b : Bool) → k ≤ 0 → (nat_lt 0 k && b) ≡ false
      never zero b h = refl
      never (suc k) b h = absurd (omega arith)

  pub begun_more : (lines : ℕ) (begun begun' : List (List ℕ)) (here : List ℕ) → 0 < life.end → slice_get begun life.first ≡ Some here → begun' ≡ set begun life.first (here ++ n ∷ []) → AreBegun lives n lines begun → AreBegun lives (n + 1) lines begun'
  begun_more lines begun begun' here some was is h = record {
    long = ap length is ∙ length-set begun life.first (here ++ n ∷ []) ∙ h.long;
    each = each;
    few = few;
  }
    where
      within : life.first < length begun
      within = slice_get_within begun life.first here was

      same_line : (line : ℕ) → line ≡ life.first → is_first line (Some life) ≡ true
      same_line line e = go (nat_lt 0 life.end) (lt-ltb 0 life.end some) (life.first == line) (same_true life.first line (sym e))
        where
          go : (a : Bool) → a ≡ true → (b : Bool) → b ≡ true → (a && b) ≡ true
          go true e true f = refl
          go true e false f = f
          go false e b f = e

      other_line : (line : ℕ) → (line ≡ life.first → ⊥) → is_first line (Some life) ≡ false
      other_line line e = go (nat_lt 0 life.end) (life.first == line) (other_false life.first line (λ f. e (sym f)))
        where
          go : (a b : Bool) → b ≡ false → (a && b) ≡ false
          go true b e = e
          go false b e = refl

      each : (line : ℕ) (list : List ℕ) → slice_get begun' line ≡ Some list → list ≡ filter (begins_on lives line) (range_with_len 0 (n + 1))
      each line list e = go (same_or_not line life.first)
        where
          go : (line ≡ life.first) ⊎ (line ≡ life.first → ⊥) → list ≡ filter (begins_on lives line) (range_with_len 0 (n + 1))
          go (inl q) =
              let new : slice_get begun' line ≡ Some (here ++ n ∷ []) = ap (λ x. slice_get begun' x) q ∙ ap (λ x. slice_get x life.first) is ∙ set_here begun life.first (here ++ n ∷ []) within in
              some_same (sym e ∙ new)
              ∙ ap (λ x. x ++ n ∷ []) (h.each line here (ap (slice_get begun) q ∙ was))
              ∙ sym (filter_more line true (same_line line q))
          go (inr q) =
              h.each line list (sym (set_other begun life.first line (here ++ n ∷ []) q) ∙ ap (λ x. slice_get x line) (sym is) ∙ e)
              ∙ sym (filter_more line false (other_line line q) ∙ append_none (filter (begins_on lives line) (range_with_len 0 n)))

      few : sum_by (λ (here : List ℕ). length here) begun' ≤ n + 1
      few =
          let old : get_or begun life.first [] ≡ here = some_same (sym (slice_get-get_or begun life.first [] within) ∙ was) in
          let sum = sum_by-set (λ (here : List ℕ). length here) begun life.first (here ++ n ∷ []) [] within in
          let new : sum_by (λ (here : List ℕ). length here) begun' ≡ sum_by (λ (here : List ℕ). length here) (set begun life.first (here ++ n ∷ [])) = ap (sum_by (λ (here : List ℕ). length here)) is in
          let same : length (get_or begun life.first []) ≡ length here = ap length old in
          let long = length-append here (n ∷ []) in
          let f = h.few in omega arith

pub life_at : (lives : List Life) (i : ℕ) (d : Life) → i < length lives → slice_get lives i ≡ Some (get_or lives i d)
life_at lives i d h = slice_get-get_or lives i d h
