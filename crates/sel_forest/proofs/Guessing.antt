-- A guess at an operator is the first operator with its name.
use Rattle.std.proofs.Common.{◌≡◌, ℕ, suc, ◌≤◌, Bool, true, false, not, Some, List, [], ◌∷◌, refl, ap, sym, ◌∙◌, subst, arith, slice_get, slice_set, length}
use Rattle.std.specs.Prelude.{bytes_eq, All, replicate}
use Rattle.std.specs.List.{prefix_len}
use Rattle.std.proofs.lemmas.List.{length-set, length-replicate}
use Rattle.std.proofs.lemmas.List.Elements.{All-replicate, All-set}
use Rattle.std.proofs.lemmas.Option.{slice_get_within}
use Rattle.std.proofs.lemmas.Slice.Eq.{bytes_eq-Decides}
use Rattle.sel_grammar.specs.declared.grammar.Grammar.{Grammar}
use Rattle.sel_grammar.specs.declared.grammar.Operator.{Operator}
use Rattle.sel_forest.specs.Guesses.{IsGuess, AreGuesses}
use Rattle.sel_forest.specs.TreeText.{operator_number}

pub stops_at : (name : List ℕ) (operators : List Operator) (operator : Operator) → slice_get operators (prefix_len (λ (o : Operator). not (bytes_eq o.name name)) operators) ≡ Some operator
    → bytes_eq operator.name name ≡ true
stops_at name [] operator h = cc
stops_at name (o ∷ operators) operator h = go (bytes_eq o.name name) refl (stops_at name operators operator)
  where
    go : (b : Bool) → bytes_eq o.name name ≡ b → (slice_get operators (prefix_len (λ (o : Operator). not (bytes_eq o.name name)) operators) ≡ Some operator → bytes_eq operator.name name ≡ true)
        → bytes_eq operator.name name ≡ true
    go true e ih =
        let none : prefix_len (λ (o : Operator). not (bytes_eq o.name name)) (o ∷ operators) ≡ 0 = rw e refl in
        let same : o ≡ operator = first (sym (ap (slice_get (o ∷ operators)) none) ∙ h) in
        sym (ap (λ (x : Operator). bytes_eq x.name name) same) ∙ e
      where
        first : Some o ≡ Some operator → o ≡ operator
        first h = cc
    go false e ih =
        let one : prefix_len (λ (o : Operator). not (bytes_eq o.name name)) (o ∷ operators) ≡ suc (prefix_len (λ (o : Operator). not (bytes_eq o.name name)) operators) = rw e (omega arith) in
        ih (sym (ap (slice_get (o ∷ operators)) one) ∙ h)

-- what the names lead to is a guess
pub number_is_guess : (g : Grammar) (name : List ℕ) → IsGuess g (operator_number g name)
number_is_guess g name operator h = ap (operator_number g) ((bytes_eq-Decides operator.name name).0 (stops_at name g.operators operator h))

pub guess_is : (g : Grammar) (k : ℕ) (operator : Operator) (name : List ℕ) → IsGuess g k → slice_get g.operators k ≡ Some operator → bytes_eq operator.name name ≡ true → k ≡ operator_number g name
guess_is g k operator name guess h e = sym (guess operator h) ∙ ap (operator_number g) ((bytes_eq-Decides operator.name name).0 e)

-- a number that no operator has
no_guess : (g : Grammar) (k : ℕ) → length g.operators ≤ k → IsGuess g k
no_guess g k h operator there = absurd (omega (arith, h, slice_get_within g.operators k operator there))

pub first_guesses : (g : Grammar) (k n : ℕ) (guesses : List ℕ) → length g.operators ≤ k → guesses ≡ replicate n k → n ≡ 4096 → AreGuesses g guesses
first_guesses g k n guesses few e long = record {
  count = ap length e ∙ length-replicate n k ∙ long;
  each = subst (All (IsGuess g)) (sym e) (All-replicate (IsGuess g) n k (no_guess g k few));
}

pub one_guess_more : (g : Grammar) (guesses : List ℕ) (at k : ℕ) (name : List ℕ) → AreGuesses g guesses → k ≡ operator_number g name → AreGuesses g (slice_set guesses at k)
one_guess_more g guesses at k name h e = record {
  count = length-set guesses at k ∙ h.count;
  each = All-set (IsGuess g) guesses at k (subst (IsGuess g) (sym e) (number_is_guess g name)) h.each;
}
