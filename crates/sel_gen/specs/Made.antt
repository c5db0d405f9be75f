-- The forest that a number makes: trees derived by rules that are drawn, with attributes that are drawn.
use Rattle.std.specs.Prelude.{◌≡◌, ℕ, zero, suc, ◌+◌, ◌-◌, ◌/◌, ◌%◌, Bool, false, ◌&&◌, ◌==◌, nat_le, if◌then◌else◌, pos, ◌+ℤ◌, ◌-ℤ◌, nat_abs, Option, Some, None, List, [], ◌∷◌, length, map, filter, drop, slice_get}
use Rattle.std.specs.Option.{unwrap_or}
use Rattle.std.specs.Fmt.{decimal}
use Rattle.sel_base.specs.Ascii.{letter_s}
use Rattle.rand_core.specs.Pcg32Seed.{pcg32_seed}
use Rattle.rand_pcg.specs.Lcg.{Lcg}
use Rattle.rand_pcg.specs.Pcg.{pcg64, pcg64_of_seed}
use Rattle.sel_base.specs.declared.range.Range.{Range}
use Rattle.sel_grammar.specs.declared.grammar.Attribute.{Attribute}
use Rattle.sel_grammar.specs.declared.grammar.Attribute.TheVariants.{Absent, Number, Symbol}
use Rattle.sel_grammar.specs.declared.grammar.Grammar.{Grammar}
use Rattle.sel_grammar.specs.declared.grammar.Pattern.{Pattern, Leaf, Nullary, Unary', Binary', end_of-Pattern, more_of-Pattern}
use Rattle.sel_grammar.specs.declared.grammar.Rule.{Rule}
use Rattle.sel_grammar.specs.PlainTrees.{PlainTree, Node0, Node1, Node2, size}
use Rattle.sel_grammar.specs.Fits.{leaves}
use Rattle.sel_forest.specs.declared.forest.Forest.{Forest}
use Rattle.sel_forest.specs.declared.forest.Tree.{Tree}
use Rattle.sel_forest.specs.Limits.{most_nodes, greatest_depth}
use Rattle.sel_forest.specs.Printed.{tree_of}
use Rattle.sel_forest.specs.Valid.{depth}
use Rattle.sel_gen.specs.Sizes.{is_usable, Sizes, size_at, AreLeastSizes, rule_size}

-- the greatest size of a made tree, in rules
abbrev pub most_size : ℕ
most_size = 1000

-- The words: `next_word` of the generator (O'Neill's PCG XSL RR 128/64), which begins as `seed_from_u64` says.
abbrev pub first_words : ℕ → Lcg
first_words seed = pcg64_of_seed (pcg32_seed 32 seed)

abbrev pub word : Lcg → ℕ
word words = (pcg64 words).0

abbrev pub behind : Lcg → Lcg
behind words = (pcg64 words).1

abbrev pub is_within : Option ℕ → ℕ → Bool
is_within None b = false
is_within (Some k) b = nat_le k b

-- a usable rule of the nonterminal n, whose size is at most b
abbrev pub is_candidate : Sizes → ℕ → ℕ → Rule → Bool
is_candidate sizes n b rule = (rule.left == n) && (is_usable rule.range && is_within (rule_size sizes rule) b)

-- the candidates, in the order of rules
abbrev pub candidates : Grammar → Sizes → ℕ → ℕ → List Rule
candidates g sizes n b = filter (is_candidate sizes n b) g.rules

-- the sizes of a pattern's nonterminals from left to right
abbrev pub leaf_sizes : Sizes → Pattern → List ℕ
leaf_sizes sizes p = map (λ n. unwrap_or (size_at sizes n) 0) (leaves p)

-- What a leaf takes of the spare, and the words behind it: the last leaf takes all that is left, and any other draws a word.
abbrev pub taken : List ℕ → ℕ → Lcg → ℕ × Lcg
taken [] spare words = (spare, words)
taken (next ∷ others) spare words = (word words % (spare + 1), behind words)

-- The shares of leaves with these sizes, left to right: to its size each leaf takes of the spare. Also the words behind them.
abbrev pub shared : List ℕ → ℕ → Lcg → List ℕ × Lcg
shared [] spare words = ([], words)
shared (size ∷ others) spare words =
    let more = taken others spare words in
    let rest = shared others (spare - more.0) more.1 in
    ((size + more.0) ∷ rest.0, rest.1)

-- The attribute that a word gives: a number of the range, where there is one; else one time in four a symbol `s0` to `s99`, and a number from -4,096 to 4,095.
abbrev pub attribute_by : Option Range → ℕ → Attribute
attribute_by (Some range) w = Number (range.lo +ℤ pos (w % (nat_abs (range.hi -ℤ range.lo) + 1)))
attribute_by None w = if w % 4 == 0 then Symbol (letter_s ∷ decimal (w / 4 % 100)) else Number (pos (w / 4 % 8192) -ℤ pos 4096)

-- what is made: of a nonterminal, its budget, the words before, the tree, the words behind it
abbrev pub Making : Type 1
Making = ℕ → ℕ → Lcg → PlainTree → Lcg → Type 0

abbrev pub first_share : List ℕ → ℕ
first_share [] = 0
first_share (share ∷ others) = share

-- The tree is the pattern's, filled in preorder: a nonterminal by a tree that is made with its share, an operator without kids draws its attribute, and one with kids has none.
abbrev pub IsFilled : Making → Option Range → Pattern → List ℕ → Lcg → PlainTree → Lcg → Type 0
IsFilled Made range (Leaf n) shares before t after = Made n (first_share shares) before t after
IsFilled Made range (Nullary op) shares before t after = (t ≡ Node0 op (attribute_by range (word before))) × (after ≡ behind before)
IsFilled Made range (Unary' op s (more_of-Pattern p end_of-Pattern)) shares before t after = (u : PlainTree) × (t ≡ Node1 op Absent u) × IsFilled Made range p shares before u after
IsFilled Made range (Binary' op s (more_of-Pattern p end_of-Pattern) s' (more_of-Pattern q end_of-Pattern)) shares before t after =
    (u : PlainTree) × (v : PlainTree) × (t ≡ Node2 op Absent u v)
    × ((between : Lcg) × IsFilled Made range p shares before u between × IsFilled Made range q (drop (length (leaves p)) shares) between v after)

-- A candidate is drawn, the spare that its size leaves of the budget is shared out among its leaves, and its pattern is filled.
pub record IsGrown (Made : Making) (g : Grammar) (sizes : Sizes) (n budget : ℕ) (before : Lcg) (t : PlainTree) (after : Lcg) : Type 0 where
  pub rule : Rule
  pub size : ℕ
  pub drawn : slice_get (candidates g sizes n budget) (word before % length (candidates g sizes n budget)) ≡ Some rule
  pub size_is : rule_size sizes rule ≡ Some size
  pub shares : List ℕ
  pub between : Lcg
  pub sharing : shared (leaf_sizes sizes rule.pattern) (budget - size) (behind before) ≡ (shares, between)
  pub filled : IsFilled Made rule.range rule.pattern shares between t after

-- made by at most so many rules one above the other
abbrev pub IsMadeIn : Grammar → Sizes → ℕ → Making
IsMadeIn g sizes zero n budget before t after = ⊥
IsMadeIn g sizes (suc levels) n budget before t after = IsGrown (IsMadeIn g sizes levels) g sizes n budget before t after

-- The tree is made from the nonterminal n with a budget of rules, by the words from `before` to `after`.
abbrev pub IsMade : Grammar → Sizes → Making
IsMade g sizes n budget before t after = (levels : ℕ) × IsMadeIn g sizes levels n budget before t after

-- the tree is within the limits of a forest
abbrev pub is_kept : PlainTree → Bool
is_kept t = nat_le (size t) most_nodes && nat_le (depth t) greatest_depth

-- So many trees are made one after the other, with one stream of words. Those beyond the limits are left out.
abbrev pub AreMade : Grammar → Sizes → ℕ → ℕ → Lcg → List Tree → Type 0
AreMade g sizes budget zero words trees = trees ≡ []
AreMade g sizes budget (suc count) words trees =
    (t : PlainTree) × (after : Lcg) × IsMade g sizes g.start budget words t after
    × ((rest : List Tree) × AreMade g sizes budget count after rest × (trees ≡ (if is_kept t then tree_of t ∷ rest else rest)))

-- no trees where the start symbol has no size within the budget
abbrev pub AreMadeFor : Option ℕ → Grammar → Sizes → ℕ → ℕ → Lcg → List Tree → Type 0
AreMadeFor None g sizes budget count words trees = trees ≡ []
AreMadeFor (Some least) g sizes budget count words trees = AreMade g sizes budget count words trees

-- the forest of a grammar, a seed, a count of trees and their size
pub record IsMadeForest (g : Grammar) (seed count budget : ℕ) (forest : Forest) : Type 0 where
  pub sizes : Sizes
  pub least : AreLeastSizes g budget sizes
  pub trees : AreMadeFor (size_at sizes g.start) g sizes budget count (first_words seed) forest.trees
