-- Item sets in lists.
use Rattle.std.specs.Prelude.{◌≡◌, ℕ, List, Some, slice_get}

-- the item stands at some place of the list
abbrev pub IsAmong : {A : Type 0} → List A → A → Type 0
IsAmong xs x = (n : ℕ) × (slice_get xs n ≡ Some x)

-- no item stands at two places
abbrev pub AreDifferent : {A : Type 0} → List A → Type 0
AreDifferent {A} xs = (m n : ℕ) (x : A) → slice_get xs m ≡ Some x → slice_get xs n ≡ Some x → m ≡ n
