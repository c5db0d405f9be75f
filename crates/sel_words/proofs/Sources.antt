-- The source that a grammar's word names.
use Rattle.std.proofs.Common.{◌≡◌, ◌≢◌, ℕ, ◌==◌, Bool, true, false, List, [], ◌∷◌, Some, refl, ap}
use Rattle.std.proofs.lemmas.Bool.{eqb-true}
use Rattle.sel_words.specs.Words.{Held, source_of}

-- a word that doesn't begin with `@` is a name for the shelf
pub held_source : (word : List ℕ) → ((rest : List ℕ) → word ≢ 64 ∷ rest) → source_of word ≡ Some Held
held_source [] h = refl
held_source (b ∷ rest) h = go (b == 64) refl
  where
    go : (t : Bool) → (b == 64) ≡ t → source_of (b ∷ rest) ≡ Some Held
    go true e = absurd (h rest (ap (λ n. n ∷ rest) (eqb-true b 64 e)))
    go false e = rw e refl
