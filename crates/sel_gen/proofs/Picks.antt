-- The candidate with a number among the choices.
use Rattle.std.proofs.Common.{◌≡◌, ℕ, zero, suc, ◌+◌, ◌-◌, ◌<◌, Bool, true, false, ◌&&◌, ◌==◌, cond, if◌then◌else◌, List, [], ◌∷◌, length, map, refl, ap, sym, ◌∙◌, arith, None, slice_get}
use Rattle.std.specs.List.{count_by, filter}
use Rattle.std.proofs.lemmas.Bool.Decides.{nat_tests}
use Rattle.std.proofs.lemmas.List.Sums.{sum_by-cons, length-filter}
use Rattle.sel_grammar.specs.declared.grammar.Rule.{Rule}
use Rattle.sel_gen.specs.declared.choices.Choice.{Choice}
use Rattle.sel_gen.specs.Sizes.{is_usable, Sizes, rule_size}
use Rattle.sel_gen.specs.Made.{is_within, is_candidate}
use Rattle.sel_gen.specs.Drawing.{choice_of, is_open, nth_place}

-- a rule is open where it is a candidate
open_is : (sizes : Sizes) (n b : ℕ) (rule : Rule) → is_open n b (choice_of sizes rule) ≡ is_candidate sizes n b rule
open_is sizes n b rule = ap (λ x. (rule.left == n) && x) (go (is_usable rule.range))
  where
    go : (u : Bool) → is_within (if u then rule_size sizes rule else None) b ≡ (u && is_within (rule_size sizes rule) b)
    go true = refl
    go false = refl

pub count_is : (sizes : Sizes) (n b : ℕ) (rules : List Rule) → count_by (is_open n b) (map (choice_of sizes) rules) ≡ length (filter (is_candidate sizes n b) rules)
count_is sizes n b rules = counted rules ∙ sym (length-filter (is_candidate sizes n b) rules)
  where
    counted : (rules : List Rule) → count_by (is_open n b) (map (choice_of sizes) rules) ≡ count_by (is_candidate sizes n b) rules
    counted [] = refl
    counted (rule ∷ rules) =
        sum_by-cons (λ x. cond (is_open n b x) 1 0) (choice_of sizes rule) (map (choice_of sizes) rules)
        ∙ ap (λ x. x + count_by (is_open n b) (map (choice_of sizes) rules)) (ap (λ b. cond b 1 0) (open_is sizes n b rule))
        ∙ ap (λ x. cond (is_candidate sizes n b rule) 1 0 + x) (counted rules)
        ∙ sym (sum_by-cons (λ x. cond (is_candidate sizes n b x) 1 0) rule rules)

-- the place behind an item of which the test is known
abbrev placed_by : (Choice → Bool) → List Choice → Bool → ℕ → ℕ
placed_by test xs t k = if t then (if k == 0 then 0 else suc (nth_place test xs (k - 1))) else suc (nth_place test xs k)

later : (test : Choice → Bool) (xs : List Choice) (k : ℕ) → placed_by test xs true (suc k) ≡ suc (nth_place test xs k)
later test xs k = ap (λ b. if b then 0 else suc (nth_place test xs (suc k - 1))) (some_not_none k) ∙ ap (λ m. suc (nth_place test xs m)) (one_less k)
  where
    some_not_none : (k : ℕ) → (suc k == 0) ≡ false
    some_not_none k = grind (arith, nat_tests)

    one_less : (k : ℕ) → suc k - 1 ≡ k
    one_less k = omega arith

-- its place among the choices is that of the candidate among the rules
pub nth_is : (sizes : Sizes) (n b : ℕ) (rules : List Rule) (k : ℕ) → k < length (filter (is_candidate sizes n b) rules)
    → slice_get rules (nth_place (is_open n b) (map (choice_of sizes) rules) k) ≡ slice_get (filter (is_candidate sizes n b) rules) k
nth_is sizes n b [] k h = absurd (omega arith)
nth_is sizes n b (rule ∷ rules) k h = go (is_candidate sizes n b rule) (open_is sizes n b rule) k h (nth_is sizes n b rules)
  where
    go : (c : Bool) → is_open n b (choice_of sizes rule) ≡ c → (k : ℕ) → k < length (cond c (rule ∷ filter (is_candidate sizes n b) rules) (filter (is_candidate sizes n b) rules))
        → ((k : ℕ) → k < length (filter (is_candidate sizes n b) rules) → slice_get rules (nth_place (is_open n b) (map (choice_of sizes) rules) k) ≡ slice_get (filter (is_candidate sizes n b) rules) k)
        → slice_get (rule ∷ rules) (nth_place (is_open n b) (map (choice_of sizes) (rule ∷ rules)) k) ≡ slice_get (cond c (rule ∷ filter (is_candidate sizes n b) rules) (filter (is_candidate sizes n b) rules)) k
    go true e zero h below = ap (λ t. slice_get (rule ∷ rules) (placed_by (is_open n b) (map (choice_of sizes) rules) t 0)) e
    go true e (suc k) h below = ap (λ t. slice_get (rule ∷ rules) (placed_by (is_open n b) (map (choice_of sizes) rules) t (suc k))) e
        ∙ ap (slice_get (rule ∷ rules)) (later (is_open n b) (map (choice_of sizes) rules) k) ∙ below k (omega arith)
    go false e k h below = ap (λ t. slice_get (rule ∷ rules) (placed_by (is_open n b) (map (choice_of sizes) rules) t k)) e ∙ below k h
