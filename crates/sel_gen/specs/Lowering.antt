-- Sizes so far, as rules lower them.
use Rattle.std.specs.Prelude.{◌≡◌, ℕ, ◌+◌, ◌≤◌, nat_le, if◌then◌else◌, Option, Some, None, slice_get, slice_set}
use Rattle.std.specs.List.{sum_by}
use Rattle.sel_grammar.specs.declared.grammar.Grammar.{Grammar}
use Rattle.sel_grammar.specs.declared.grammar.Pattern.{Pattern, Leaf, Nullary, Unary', Binary', end_of-Pattern, more_of-Pattern}
use Rattle.sel_grammar.specs.declared.grammar.Rule.{Rule}
use Rattle.sel_gen.specs.Sizes.{is_usable, IsBuiltBy, Sizes, size_at, plus, rule_size}

-- the size, where it is within the limit
abbrev pub capped : ℕ → Option ℕ → Option ℕ
capped limit None = None
capped limit (Some k) = if nat_le k limit then Some k else None

-- the sum, where there are both and it is a 32-bit number
abbrev pub small_sum : Option ℕ → Option ℕ → Option ℕ
small_sum a b = capped 4294967295 (plus a b)

-- `kids_size` by such sums
abbrev pub small_kids_size : Sizes → Pattern → Option ℕ
small_kids_size sizes (Leaf n) = size_at sizes n
small_kids_size sizes (Nullary op) = Some 0
small_kids_size sizes (Unary' op s (more_of-Pattern p end_of-Pattern)) = small_kids_size sizes p
small_kids_size sizes (Binary' op s (more_of-Pattern p end_of-Pattern) s' (more_of-Pattern q end_of-Pattern)) = small_sum (small_kids_size sizes p) (small_kids_size sizes q)

-- none of the sizes is more than the limit
abbrev pub AreUpTo : ℕ → Sizes → Type 0
AreUpTo limit sizes = (n k : ℕ) → size_at sizes n ≡ Some k → k ≤ limit

-- each of the sizes is some derivation's
abbrev pub AreBuilt : Grammar → Sizes → Type 0
AreBuilt g sizes = (n k : ℕ) → size_at sizes n ≡ Some k → IsBuiltBy g n k

-- what a rule offers its left side
abbrev pub offered : ℕ → Sizes → Rule → Option ℕ
offered limit sizes rule = if is_usable rule.range then capped limit (rule_size sizes rule) else None

abbrev pub IsAtMost : Option ℕ → ℕ → Type 0
IsAtMost None k = ⊥
IsAtMost (Some j) k = j ≤ k

-- the left side's size is at most what the rule offers, if anything
abbrev pub Withstands : ℕ → Sizes → Rule → Type 0
Withstands limit sizes rule = (k : ℕ) → offered limit sizes rule ≡ Some k → IsAtMost (size_at sizes rule.left) k

-- the left side has what the rule offers, which is less than what it had
pub record IsLowered (limit : ℕ) (rule : Rule) (old new : Sizes) : Type 0 where
  pub size : ℕ
  pub offer : offered limit old rule ≡ Some size
  pub less : IsAtMost (size_at old rule.left) size → ⊥
  pub set : new ≡ slice_set old rule.left (Some size)

-- no rule lowers a size
abbrev pub AllWithstood : Grammar → ℕ → Sizes → Type 0
AllWithstood g limit sizes = (k : ℕ) (rule : Rule) → slice_get g.rules k ≡ Some rule → Withstands limit sizes rule

-- how far a size is from the least: no size is farthest
abbrev pub distance : ℕ → Option ℕ → ℕ
distance limit None = limit + 1
distance limit (Some k) = k

abbrev pub total_distance : ℕ → Sizes → ℕ
total_distance limit sizes = sum_by (distance limit) sizes
