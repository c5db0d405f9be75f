-- Where a line ends, by a search for the first line feed.
use Rattle.std.proofs.Common.{◌≡◌, ℕ, ◌==◌, Bool, true, false, not, List, Some, None, refl, ap, arith, length}
use Rattle.std.specs.List.{prefix_len}
use Rattle.std.proofs.lemmas.List.Sums.{prefix_len_is}
use Rattle.memchr.specs.Find.{IsFirstByte, is_byte}

abbrev inside : ℕ → Bool
inside b = not (b == 10)

not_true : (x : Bool) → ¬ (x ≡ true) → not x ≡ true
not_true true h = absurd (h refl)
not_true false h = refl

pub feed_at : (bytes : List ℕ) (k : ℕ) → IsFirstByte (is_byte 10) bytes (Some k) → prefix_len inside bytes ≡ k
feed_at bytes k (before, here) =
    let high = before.high in
    prefix_len_is inside bytes k 0 (omega (arith, high)) (λ j lt. not_true _ (before.before j (omega arith) lt)) (λ _. ap not here)

pub no_feed : (bytes : List ℕ) → IsFirstByte (is_byte 10) bytes None → prefix_len inside bytes ≡ length bytes
no_feed bytes h = prefix_len_is inside bytes (length bytes) 0 (omega arith) (λ j lt. not_true _ (h j (omega arith) lt)) (λ lt. absurd (omega (arith, lt)))
