-- Rules among which one is drawn.
use Rattle.std.specs.Prelude.{ℕ, suc, ◌-◌, Bool, ◌&&◌, ◌==◌, if◌then◌else◌, None, List, [], ◌∷◌}
use Rattle.sel_grammar.specs.declared.grammar.Rule.{Rule}
use Rattle.sel_gen.specs.declared.choices.Choice.{Choice}
use Rattle.sel_gen.specs.Sizes.{is_usable, Sizes, rule_size}
use Rattle.sel_gen.specs.Made.{is_within}

-- what is kept of a rule
abbrev pub choice_of : Sizes → Rule → Choice
choice_of sizes rule = record { left = rule.left; size = if is_usable rule.range then rule_size sizes rule else None }

-- its rule is a candidate of the nonterminal n within the budget b
abbrev pub is_open : ℕ → ℕ → Choice → Bool
is_open n b choice = (choice.left == n) && is_within choice.size b

-- the place of the k-th item, from 0, that passes a test
abbrev pub nth_place : (Choice → Bool) → List Choice → ℕ → ℕ
nth_place test [] k = 0
nth_place test (x ∷ xs) k = if test x then (if k == 0 then 0 else suc (nth_place test xs (k - 1))) else suc (nth_place test xs k)
