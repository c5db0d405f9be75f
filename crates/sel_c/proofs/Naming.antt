-- A search for a name goes on where it isn't found.
use Rattle.std.proofs.Common.{◌≡◌, ℕ, ◌+◌, ◌<◌, ◌≤◌, ◌⊎◌, inl, inr, Some, List, sym, ◌∙◌, subst, arith, slice_get, length}
use Rattle.std.proofs.lemmas.Option.{slice_get_within}
use Rattle.sel_grammar.specs.declared.grammar.Operator.{Operator}
use Rattle.sel_items.proofs.Rows.{below_or_at}
use Rattle.sel_c.specs.Operators.{HasNumber}

-- no operator before this number has the name
abbrev pub NoneBefore : List Operator → List ℕ → ℕ → Type 0
NoneBefore operators name n = (k : ℕ) → k < n → HasNumber operators name k → ⊥

some_one : {A : Type 0} {x y : A} → Some x ≡ Some y → x ≡ y
some_one e = cc

pub none_yet : (operators : List Operator) (name : List ℕ) (n : ℕ) (o : Operator) → slice_get operators n ≡ Some o → (o.name ≡ name → ⊥) → NoneBefore operators name n → NoneBefore operators name (n + 1)
none_yet operators name n o is differs before k low has = go (below_or_at k n low)
  where
    go : (k < n) ⊎ (n ≡ k) → ⊥
    go (inl l) = before k l has
    go (inr e) = differs (subst (λ (p : Operator). p.name ≡ name) (some_one (sym has.1 ∙ subst (λ (i : ℕ). slice_get operators i ≡ Some o) e is)) has.2)

pub none_at_all : (operators : List Operator) (name : List ℕ) (n : ℕ) → length operators ≤ n → NoneBefore operators name n → (k : ℕ) → HasNumber operators name k → ⊥
none_at_all operators name n long before k has = let low = slice_get_within operators k has.0 has.1 in before k (omega arith) has
