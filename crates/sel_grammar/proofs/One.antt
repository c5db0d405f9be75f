-- Two best derivations are one.
use Rattle.std.proofs.Common.{◌≡◌, ℕ, ◌<◌, ◌⊎◌, inl, inr, List, [], ◌∷◌, sym, arith}
use Rattle.sel_grammar.specs.declared.grammar.Grammar.{Grammar}
use Rattle.sel_grammar.specs.PlainTrees.{PlainTree}
use Rattle.sel_grammar.specs.Derivations.{Derivation, cost, list}
use Rattle.sel_grammar.specs.Best.{IsBest, Beats, IsLexLess}
use Rattle.sel_grammar.specs.Laws.{BestIsOne}
use Rattle.sel_grammar.proofs.CostLaws.{cheaper_not_both, cheaper_not_same}

-- of two lists of numbers not each is less than the other
pub less_not_both : (xs ys : List ℕ) → IsLexLess xs ys → IsLexLess ys xs → ⊥
less_not_both [] [] h k = h
less_not_both [] (y ∷ ys) h k = k
less_not_both (x ∷ xs) [] h k = h
less_not_both (x ∷ xs) (y ∷ ys) (inl h) (inl k) = absurd (omega arith)
less_not_both (x ∷ xs) (y ∷ ys) (inl h) (inr k) = let q = k.0 in absurd (omega arith)
less_not_both (x ∷ xs) (y ∷ ys) (inr h) (inl k) = let q = h.0 in absurd (omega arith)
less_not_both (x ∷ xs) (y ∷ ys) (inr h) (inr k) = less_not_both xs ys h.1 k.1

beats_not_both : (g : Grammar) (d e : Derivation) → Beats g d e → Beats g e d → ⊥
beats_not_both g d e (inl h) (inl k) = cheaper_not_both (cost g d) (cost g e) h k
beats_not_both g d e (inl h) (inr k) = cheaper_not_same (cost g d) (cost g e) h k.0
beats_not_both g d e (inr h) (inl k) = cheaper_not_same (cost g e) (cost g d) k h.0
beats_not_both g d e (inr h) (inr k) = less_not_both (list d) (list e) h.1 k.1

pub best_one : BestIsOne
best_one g n t d e f h = go (f.beats e h.derives) (h.beats d f.derives)
  where
    go : (e ≡ d) ⊎ Beats g d e → (d ≡ e) ⊎ Beats g e d → d ≡ e
    go (inl q) k = sym q
    go (inr q) (inl k) = k
    go (inr q) (inr k) = absurd (beats_not_both g d e q k)
