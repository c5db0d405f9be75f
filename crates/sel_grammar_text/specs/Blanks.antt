-- Blanks and comments. A text is the list of its bytes.
use Rattle.std.specs.Prelude.{ℕ, zero, suc, Bool, List, [], ◌∷◌, length, if◌then◌else◌, ◌==◌, ◌&&◌, ◌||◌, Option, Some, None}

-- space, tab, CR, form feed, LF
abbrev pub is_blank : ℕ → Bool
is_blank b = (b == 32) || (b == 9) || (b == 13) || (b == 12) || (b == 10)

-- what stands behind the first two such bytes side by side, where there are some
abbrev pub behind_pair : ℕ → ℕ → List ℕ → Option (List ℕ)
behind_pair x y [] = None
behind_pair x y (b ∷ []) = None
behind_pair x y (b ∷ c ∷ bytes) = if (b == x) && (c == y) then Some bytes else behind_pair x y (c ∷ bytes)

-- what stands behind a comment at the front, where one stands there and is closed
abbrev pub behind_comment : List ℕ → Option (List ℕ)
behind_comment [] = None
behind_comment (b ∷ []) = None
behind_comment (b ∷ c ∷ bytes) = if (b == 47) && (c == 42) then behind_pair 42 47 bytes else None

-- what stands behind one blank or comment at the front, where one stands there
abbrev pub behind_blank : List ℕ → Option (List ℕ)
behind_blank [] = None
behind_blank (b ∷ bytes) = if is_blank b then Some bytes else behind_comment (b ∷ bytes)

-- the bytes without the blanks and comments at their front, of which n at most are taken off
abbrev pub skip_at_most : ℕ → List ℕ → List ℕ
skip_at_most zero bytes = bytes
skip_at_most (suc n) bytes = elim (behind_blank bytes) [ None ↦ bytes | Some rest ↦ skip_at_most n rest ]

-- the bytes without the blanks and comments at their front
abbrev pub skip : List ℕ → List ℕ
skip bytes = skip_at_most (length bytes) bytes
