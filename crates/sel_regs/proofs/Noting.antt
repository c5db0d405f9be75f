-- Lives that are noted line by line.
use Rattle.std.proofs.Common.{◌≡◌, ℕ, zero, suc, ◌+◌, ◌<◌, ◌⊎◌, inl, inr, Bool, true, false, ◌||◌, ◌==◌, if◌then◌else◌, Some, List, [], ◌∷◌, ◌++◌, length, take, slice_get, refl, ap, sym, ◌∙◌, subst, arith, get_or}
use Rattle.std.proofs.lemmas.List.{take_more}
use Rattle.std.proofs.lemmas.List.Folds.{list_any-append}
use Rattle.sel_regs.specs.declared.lives.Life.{Life}
use Rattle.sel_regs.specs.Lives.{Lines, is_on, first_line, with_line, lines_to_last}
use Rattle.sel_regs.specs.Living.{with_line_at, noted, IsNoted, IsLife, AreLives}

with_line_twice : (at : ℕ) (life : Life) → with_line_at at (with_line_at at life) ≡ with_line_at at life
with_line_twice at life = ap (λ b. record { first = if b then at else (if life.end == 0 then at else life.first); end = at + 1 }) (never at)
  where
    never : (n : ℕ) → ((n + 1) == 0) ≡ false
    never n = grind arith

noted_twice : (a b : Bool) (at : ℕ) (life : Life) → noted b at (noted a at life) ≡ noted (a || b) at life
noted_twice false b at life = refl
noted_twice true false at life = refl
noted_twice true true at life = with_line_twice at life

pub noted_more : (line : List ℕ) (t at : ℕ) (lives lives' lives'' : List Life) → IsNoted line at lives lives' → IsNoted (t ∷ []) at lives' lives'' → IsNoted (line ++ t ∷ []) at lives lives''
noted_more line t at lives lives' lives'' h l = record {
  long = l.long ∙ h.long;
  each = λ i life e.
      l.each i (noted (is_on (suc i) line) at life) (h.each i life e)
      ∙ ap Some (noted_twice (is_on (suc i) line) (is_on (suc i) (t ∷ [])) at life ∙ ap (λ b. noted b at life) (sym (list_any-append (λ x. x == suc i) line (t ∷ []))));
}

last_push : (lines : Lines) (line : List ℕ) (k : ℕ) (b : Bool) → is_on k line ≡ b → lines_to_last (lines ++ line ∷ []) k ≡ (if b then suc (length lines) else lines_to_last lines k)
last_push [] line k b h = ap (λ c. with_line c 0) h ∙ each b
  where
    each : (b : Bool) → with_line b 0 ≡ (if b then suc zero else 0)
    each true = refl
    each false = refl
last_push (x ∷ lines) line k true h = ap (with_line (is_on k x)) (last_push lines line k true h)
last_push (x ∷ lines) line k false h = ap (with_line (is_on k x)) (last_push lines line k false h)

first_push_old : (lines : Lines) (line : List ℕ) (k : ℕ) → 0 < lines_to_last lines k → first_line (lines ++ line ∷ []) k ≡ first_line lines k
first_push_old [] line k h = absurd (omega arith)
first_push_old (x ∷ lines) line k h = go (is_on k x) h (first_push_old lines line k)
  where
    go : (b : Bool) → 0 < with_line b (lines_to_last lines k) → (0 < lines_to_last lines k → first_line (lines ++ line ∷ []) k ≡ first_line lines k)
        → (if b then 0 else suc (first_line (lines ++ line ∷ []) k)) ≡ (if b then 0 else suc (first_line lines k))
    go true l r = refl
    go false l r = ap suc (r (some (lines_to_last lines k) l))
      where
        some : (n : ℕ) → 0 < with_line false n → 0 < n
        some zero h = h
        some (suc n) h = omega arith

first_push_new : (lines : Lines) (line : List ℕ) (k : ℕ) → lines_to_last lines k ≡ 0 → is_on k line ≡ true → first_line (lines ++ line ∷ []) k ≡ length lines
first_push_new [] line k h l = ap (λ b. if b then 0 else suc 0) l
first_push_new (x ∷ lines) line k h l = go (is_on k x) (lines_to_last lines k) h (λ e. first_push_new lines line k e l)
  where
    go : (b : Bool) (n : ℕ) → with_line b n ≡ 0 → (n ≡ 0 → first_line (lines ++ line ∷ []) k ≡ length lines) → (if b then 0 else suc (first_line (lines ++ line ∷ []) k)) ≡ suc (length lines)
    go true zero h r = absurd (omega arith)
    go false zero h r = ap suc (r refl)
    go b (suc n) h r = absurd (omega arith)

life_more : (lines : Lines) (line : List ℕ) (k : ℕ) (life : Life) (b : Bool) → is_on k line ≡ b → IsLife lines k life → IsLife (lines ++ line ∷ []) k (noted b (length lines) life)
life_more lines line k life true h l = record {
  ends = let e = last_push lines line k true h in omega arith;
  begins = λ _. go (life.end == 0) refl;
}
  where
    test : (n : ℕ) (b : Bool) → (n == 0) ≡ b → ((b ≡ true) × (n ≡ 0)) ⊎ ((b ≡ false) × (0 < n))
    test n true e = inl (refl, (let f : n ≡ 0 = grind arith in f))
    test n false e = inr (refl, (let f : 0 < n = grind arith in f))

    go : (b : Bool) → (life.end == 0) ≡ b → (if b then length lines else life.first) ≡ first_line (lines ++ line ∷ []) k
    go b e = by b (test life.end b e)
      where
        by : (b : Bool) → ((b ≡ true) × (life.end ≡ 0)) ⊎ ((b ≡ false) × (0 < life.end)) → (if b then length lines else life.first) ≡ first_line (lines ++ line ∷ []) k
        by b (inl q) = ap (λ b. if b then length lines else life.first) q.0 ∙ sym (first_push_new lines line k (sym l.ends ∙ q.1) h)
        by b (inr q) = ap (λ b. if b then length lines else life.first) q.0 ∙ l.begins q.1 ∙ sym (first_push_old lines line k (subst (λ n. 0 < n) l.ends q.1))
life_more lines line k life false h l = record {
  ends = l.ends ∙ sym (last_push lines line k false h);
  begins = λ p. l.begins p ∙ sym (first_push_old lines line k (subst (λ n. 0 < n) l.ends p));
}

lives_push : (lines : Lines) (line : List ℕ) (at temps : ℕ) (lives lives' : List Life) → length lines ≡ at → AreLives lines temps lives → IsNoted line at lives lives' → AreLives (lines ++ line ∷ []) temps lives'
lives_push lines line at temps lives lives' long h l = record {
  long = l.long ∙ h.long;
  each = λ i life' e.
      let (life, old) = within i life' e in
      let new = l.each i life old in
      subst (IsLife (lines ++ line ∷ []) (suc i)) (ap (λ n. noted (is_on (suc i) line) n life) long ∙ some (sym new ∙ e)) (life_more lines line (suc i) life (is_on (suc i) line) refl (h.each i life old));
}
  where
    some : {x y : Life} → Some x ≡ Some y → x ≡ y
    some h = cc

    has : (xs : List Life) (i : ℕ) → i < length xs → (x : Life) × (slice_get xs i ≡ Some x)
    has [] i h = absurd (omega arith)
    has (x ∷ xs) zero h = (x, refl)
    has (x ∷ xs) (suc i) h = has xs i (omega arith)

    inside : (xs : List Life) (i : ℕ) (x : Life) → slice_get xs i ≡ Some x → i < length xs
    inside [] i x e = cc
    inside (y ∷ xs) zero x e = omega arith
    inside (y ∷ xs) (suc i) x e = let h = inside xs i x e in omega arith

    within : (i : ℕ) (life' : Life) → slice_get lives' i ≡ Some life' → (life : Life) × (slice_get lives i ≡ Some life)
    within i life' e = let w = inside lives' i life' e in let s = l.long in has lives i (omega arith)

pub lives_more : (lines : Lines) (at temps : ℕ) (lives lives' : List Life) → at < length lines → AreLives (take at lines) temps lives → IsNoted (get_or lines at []) at lives lives' → AreLives (take (at + 1) lines) temps lives'
lives_more lines at temps lives lives' within h l =
    subst (λ xs. AreLives xs temps lives') (sym (take_more lines at [] within))
    (lives_push (take at lines) (get_or lines at []) at temps lives lives' (long lines at within) h l)
  where
    long : (xs : Lines) (n : ℕ) → n < length xs → length (take n xs) ≡ n
    long [] n h = absurd (omega arith)
    long (x ∷ xs) zero h = refl
    long (x ∷ xs) (suc n) h = ap suc (long xs n (omega arith))
