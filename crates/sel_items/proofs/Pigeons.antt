-- A list of different numbers below n has at most n of them.
use Rattle.std.proofs.Common.{◌≡◌, ℕ, zero, suc, ◌+◌, ◌<◌, ◌≤◌, ◌⊎◌, inl, inr, List, [], ◌∷◌, length, subst, sym, arith}
use Rattle.sel_base.proofs.Shared.Choices.{same_or_other}
use Rattle.sel_items.specs.ChainPasses.{NotIn}

abbrev pub Distinct : List ℕ → Type 0
Distinct [] = Unit {0}
Distinct (x ∷ xs) = NotIn x xs × Distinct xs

abbrev pub AllBelow : ℕ → List ℕ → Type 0
AllBelow n [] = Unit {0}
AllBelow n (x ∷ xs) = (x < n) × AllBelow n xs

-- the list without one n
pub record Without (n : ℕ) (xs : List ℕ) : Type 0 where
  pub rest : List ℕ
  pub long : length xs ≤ length rest + 1
  pub distinct : Distinct rest
  pub below : AllBelow n rest
  pub fewer : (x : ℕ) → NotIn x xs → NotIn x rest

lower : (n : ℕ) (xs : List ℕ) → NotIn n xs → AllBelow (suc n) xs → AllBelow n xs
lower n [] h k = tt
lower n (x ∷ xs) h k = (let e = h.0 in let l = k.0 in below x e l, lower n xs h.1 k.1)
  where
    below : (x : ℕ) → (n ≡ x → ⊥) → x < suc n → x < n
    below x e l = go (split x l)
      where
        split : (x : ℕ) → x < suc n → (x < n) ⊎ (n ≡ x)
        split x l = grind arith

        go : (x < n) ⊎ (n ≡ x) → x < n
        go (inl b) = b
        go (inr q) = absurd (e q)

without : (n : ℕ) (xs : List ℕ) → Distinct xs → AllBelow (suc n) xs → Without n xs
without n [] d b = record { rest = []; long = omega arith; distinct = tt; below = tt; fewer = λ x h. tt }
without n (x ∷ xs) d b = go (same_or_other n x) (without n xs d.1 b.1)
  where
    go : (n ≡ x) ⊎ (n ≡ x → ⊥) → Without n xs → Without n (x ∷ xs)
    go (inl q) w = record { rest = xs; long = omega arith; distinct = d.1; below = lower n xs (subst (λ y. NotIn y xs) (sym q) d.0) b.1; fewer = λ y h. h.1 }
    go (inr e) w = record {
      rest = x ∷ w.rest;
      long = let l = w.long in omega arith;
      distinct = (w.fewer x d.0, w.distinct);
      below = (let l = b.0 in step l, w.below);
      fewer = λ y h. (h.0, w.fewer y h.1);
    }
      where
        step : x < suc n → x < n
        step l = split (three l)
          where
            three : x < suc n → (x < n) ⊎ (n ≡ x)
            three l = grind arith

            split : (x < n) ⊎ (n ≡ x) → x < n
            split (inl b) = b
            split (inr q) = absurd (e q)

pub pigeons : (n : ℕ) (xs : List ℕ) → Distinct xs → AllBelow n xs → length xs ≤ n
pigeons zero [] d b = omega arith
pigeons zero (x ∷ xs) d b = let l = b.0 in absurd (omega arith)
pigeons (suc n) xs d b = let w = without n xs d b in let h = pigeons n w.rest w.distinct w.below in let l = w.long in omega arith
