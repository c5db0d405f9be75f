-- How few rules it takes to derive some tree from a nonterminal.
use Rattle.std.specs.Prelude.{◌≡◌, ℕ, ◌+◌, ◌<◌, ◌≤◌, Bool, true, int_le, Option, Some, None, List, [], ◌∷◌, length, slice_get}
use Rattle.std.specs.Option.{option_flatten, option_map}
use Rattle.sel_base.specs.declared.range.Range.{Range}
use Rattle.sel_grammar.specs.declared.grammar.Grammar.{Grammar}
use Rattle.sel_grammar.specs.declared.grammar.Pattern.{Pattern, Leaf, Nullary, Unary', Binary', end_of-Pattern, more_of-Pattern}
use Rattle.sel_grammar.specs.declared.grammar.Rule.{Rule}
use Rattle.sel_grammar.specs.Fits.{leaves, rule_at}
use Rattle.sel_grammar.specs.Derivations.{Derivation, Deriv, Derivations, no_more, more, list}

-- a rule is used unless no number is in its range
abbrev pub is_usable : Option Range → Bool
is_usable None = true
is_usable (Some range) = int_le range.lo range.hi

-- `Builds g d n`: d is a derivation of some tree from the nonterminal n, by usable rules
abbrev mutual
  pub Builds : Grammar → Derivation → ℕ → Type 0
  Builds g (Deriv r kids) n =
      (rule : Rule) × (rule_at g r ≡ Some rule) × (rule.left ≡ n) × ((is_usable rule.range ≡ true) × BuildAll g kids (leaves rule.pattern))

  pub BuildAll : Grammar → Derivations → List ℕ → Type 0
  BuildAll g no_more [] = Unit {0}
  BuildAll g (more d ds) (n ∷ ns) = Builds g d n × BuildAll g ds ns
  BuildAll g _ _ = ⊥

-- some derivation from n has k rules
abbrev pub IsBuiltBy : Grammar → ℕ → ℕ → Type 0
IsBuiltBy g n k = (d : Derivation) × Builds g d n × (length (list d) ≡ k)

-- the least number of rules of a derivation from n, where that is within a limit: some derivation has so many and none has fewer, or each has more than the limit
abbrev pub IsLeastSize : Grammar → ℕ → ℕ → Option ℕ → Type 0
IsLeastSize g limit n None = (d : Derivation) → Builds g d n → limit < length (list d)
IsLeastSize g limit n (Some k) = (k ≤ limit) × IsBuiltBy g n k × ((d : Derivation) → Builds g d n → k ≤ length (list d))

-- a size for each nonterminal, where it has one
abbrev pub Sizes : Type 0
Sizes = List (Option ℕ)

abbrev pub size_at : Sizes → ℕ → Option ℕ
size_at sizes n = option_flatten (slice_get sizes n)

-- the least sizes of all nonterminals, within a limit
pub record AreLeastSizes (g : Grammar) (limit : ℕ) (sizes : Sizes) : Type 0 where
  pub long : length sizes ≡ length g.nonterminals
  pub least : (n : ℕ) → n < length g.nonterminals → IsLeastSize g limit n (size_at sizes n)

-- the sum, where there are both
abbrev pub plus : Option ℕ → Option ℕ → Option ℕ
plus (Some a) (Some b) = Some (a + b)
plus _ _ = None

-- the sum of the sizes of a pattern's nonterminals, where all have one
abbrev pub kids_size : Sizes → Pattern → Option ℕ
kids_size sizes (Leaf n) = size_at sizes n
kids_size sizes (Nullary op) = Some 0
kids_size sizes (Unary' op s (more_of-Pattern p end_of-Pattern)) = kids_size sizes p
kids_size sizes (Binary' op s (more_of-Pattern p end_of-Pattern) s' (more_of-Pattern q end_of-Pattern)) = plus (kids_size sizes p) (kids_size sizes q)

-- the size of a rule: 1 more than that sum
abbrev pub rule_size : Sizes → Rule → Option ℕ
rule_size sizes rule = option_map (λ k. k + 1) (kids_size sizes rule.pattern)
