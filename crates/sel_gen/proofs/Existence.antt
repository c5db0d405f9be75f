-- A grammar within the limits, a seed, a count of trees and their size make a forest.
use Rattle.std.proofs.Common.{◌≡◌, ℕ, zero, suc, ◌+◌, ◌-◌, ◌%◌, ◌<◌, ◌≤◌, ◌⊎◌, inl, inr, if◌then◌else◌, List, [], ◌∷◌, length, drop, refl, ap, sym, ◌∙◌, subst, arith, Option, Some, None, slice_get, add-one}
use Rattle.std.specs.Prelude.{slice_set}
use Rattle.std.specs.List.{sum}
use Rattle.std.proofs.lemmas.List.Sums.{sum_by-cons}
use Rattle.std.proofs.lemmas.Option.{slice_get_within}
use Rattle.rand_pcg.specs.Lcg.{Lcg}
use Rattle.sel_base.specs.declared.range.Range.{Range}
use Rattle.sel_grammar.specs.declared.grammar.Attribute.TheVariants.{Absent}
use Rattle.sel_grammar.specs.declared.grammar.Grammar.{Grammar}
use Rattle.sel_grammar.specs.declared.grammar.Pattern.{Pattern, Leaf, Nullary, Unary', Binary', end_of-Pattern, more_of-Pattern}
use Rattle.sel_grammar.specs.declared.grammar.Rule.{Rule}
use Rattle.sel_grammar.specs.Fits.{leaves}
use Rattle.sel_grammar.specs.Limits.{IsWithinLimits}
use Rattle.sel_grammar.specs.PlainTrees.{PlainTree, Node0, Node1, Node2}
use Rattle.sel_forest.specs.declared.forest.Tree.{Tree}
use Rattle.sel_forest.specs.Printed.{tree_of}
use Rattle.sel_forest.proofs.Matching.{some_same, some_none}
use Rattle.sel_gen.specs.Sizes.{IsLeastSize, Sizes, size_at, AreLeastSizes, rule_size}
use Rattle.sel_gen.specs.Made.{word, behind, leaf_sizes, shared, attribute_by, candidates, IsFilled, IsMade, is_kept, AreMade, AreMadeFor, first_words}
use Rattle.sel_gen.specs.Laws.{MadeExists}
use Rattle.sel_gen.specs.Lowering.{AreUpTo, AreBuilt, offered, IsAtMost, Withstands, IsLowered, total_distance}
use Rattle.sel_gen.proofs.Candidates.{some_get, some_candidate, drawn_candidate, leaf_sum_is, shared_sum, shared_enough}
use Rattle.sel_gen.proofs.Levels.{in_levels}
use Rattle.sel_gen.proofs.Lowered.{rule_size_of, total-lowered, AreUpTo-lowered, AreBuilt-lowered}
use Rattle.sel_gen.proofs.Settled.{WithstoodTo, WithstoodTo-more, settled}
use Rattle.sel_gen.proofs.Steps.{AreEnough, enough_parts}

-- Least sizes: rules lower sizes until none does.

abbrev no_sizes : ℕ → Sizes
no_sizes zero = []
no_sizes (suc n) = None ∷ no_sizes n

no_sizes_long : (n : ℕ) → length (no_sizes n) ≡ n
no_sizes_long zero = refl
no_sizes_long (suc n) = ap suc (no_sizes_long n)

no_size_at : (n k : ℕ) → size_at (no_sizes n) k ≡ None
no_size_at zero k = refl
no_size_at (suc n) zero = refl
no_size_at (suc n) (suc k) = no_size_at n k

set_long : (sizes : Sizes) (n : ℕ) (o : Option ℕ) → length (slice_set sizes n o) ≡ length sizes
set_long [] n o = refl
set_long (x ∷ sizes) zero o = refl
set_long (x ∷ sizes) (suc n) o = ap suc (set_long sizes n o)

judge_size : (o : Option ℕ) (k : ℕ) → IsAtMost o k ⊎ (IsAtMost o k → ⊥)
judge_size None k = inr (λ h. h)
judge_size (Some j) k = two j k
  where
    two : (a b : ℕ) → (a ≤ b) ⊎ (a ≤ b → ⊥)
    two a b = grind arith

module _ (g : Grammar) (limit : ℕ) where
  -- a rule that lowers a size
  record Lowers (sizes : Sizes) : Type 0 where
    number : ℕ
    rule : Rule
    there : slice_get g.rules number ≡ Some rule
    size : ℕ
    offer : offered limit sizes rule ≡ Some size
    less : IsAtMost (size_at sizes rule.left) size → ⊥

  judge_rule : (sizes : Sizes) (number : ℕ) (rule : Rule) → slice_get g.rules number ≡ Some rule → Lowers sizes ⊎ Withstands limit sizes rule
  judge_rule sizes number rule at = go (offered limit sizes rule) refl
    where
      go : (o : Option ℕ) → offered limit sizes rule ≡ o → Lowers sizes ⊎ Withstands limit sizes rule
      go None e = inr (λ k h. absurd (some_none (sym h ∙ e)))
      go (Some a) e = elim (judge_size (size_at sizes rule.left) a) [
        | inl h ↦ inr (λ k f. subst (IsAtMost (size_at sizes rule.left)) (some_same (sym e ∙ f)) h)
        | inr h ↦ inl (record { number = number; rule = rule; there = at; size = a; offer = e; less = h })
      ]

  judge_to : (sizes : Sizes) (n : ℕ) → Lowers sizes ⊎ WithstoodTo g limit sizes n
  judge_to sizes zero = inr (λ j rule lt at. absurd (omega (arith, lt)))
  judge_to sizes (suc n) = elim (judge_to sizes n) [
    | inl l ↦ inl l
    | inr w ↦ at (slice_get g.rules n) refl w
  ]
    where
      split : (j n : ℕ) → j < suc n → (j < n) ⊎ (j ≡ n)
      split j n h = grind arith

      at : (o : Option Rule) → slice_get g.rules n ≡ o → WithstoodTo g limit sizes n → Lowers sizes ⊎ WithstoodTo g limit sizes (suc n)
      at None e w = inr (λ j rule lt there. elim (split j n lt) [
        | inl l ↦ w j rule l there
        | inr q ↦ absurd (some_none (sym there ∙ ap (slice_get g.rules) q ∙ e))
      ])
      at (Some rule) e w = elim (judge_rule sizes n rule e) [
        | inl l ↦ inl l
        | inr h ↦ inr (subst (WithstoodTo g limit sizes) (add-one n) (WithstoodTo-more g limit sizes n rule e w h))
      ]

  descend : IsWithinLimits g → (fuel : ℕ) (sizes : Sizes) → total_distance limit sizes < fuel → length sizes ≡ length g.nonterminals → AreUpTo limit sizes → AreBuilt g sizes → (new : Sizes) × AreLeastSizes g limit new
  descend within zero sizes h long up built = absurd (omega (arith, h))
  descend within (suc fuel) sizes h long up built = elim (judge_to sizes (length g.rules)) [
    | inl l ↦
        let new : Sizes = slice_set sizes l.rule.left (Some l.size) in
        let low : IsLowered limit l.rule sizes (slice_set sizes l.rule.left (Some l.size)) = record { size = l.size; offer = l.offer; less = l.less; set = refl } in
        let inside : l.rule.left < length sizes = subst (λ n. l.rule.left < n) (sym long) (within.lefts l.number l.rule l.there) in
        let less = total-lowered g limit l.number l.rule sizes (slice_set sizes l.rule.left (Some l.size)) l.there inside low in
        descend within fuel (slice_set sizes l.rule.left (Some l.size)) (omega (arith, h, less)) (set_long sizes l.rule.left (Some l.size) ∙ long)
        (AreUpTo-lowered g limit l.number l.rule sizes (slice_set sizes l.rule.left (Some l.size)) l.there inside low up) (AreBuilt-lowered g limit l.number l.rule sizes (slice_set sizes l.rule.left (Some l.size)) l.there inside low built)
    | inr w ↦ (sizes, settled g limit sizes (λ k rule at. w k rule (slice_get_within g.rules k rule at) at) long up built)
  ]

  sizes_exist : IsWithinLimits g → (sizes : Sizes) × AreLeastSizes g limit sizes
  sizes_exist within =
      let none = no_sizes (length g.nonterminals) in
      descend within (suc (total_distance limit none)) none (omega arith) (no_sizes_long (length g.nonterminals))
      (λ n k h. absurd (some_none (sym h ∙ no_size_at (length g.nonterminals) n))) (λ n k h. absurd (some_none (sym h ∙ no_size_at (length g.nonterminals) n)))

-- Trees: a share is less than the budget that it is a share of.

abbrev AreBelow : ℕ → List ℕ → Type 0
AreBelow m [] = Unit {0}
AreBelow m (x ∷ xs) = (x < m) × AreBelow m xs

below_drop : (m n : ℕ) (xs : List ℕ) → AreBelow m xs → AreBelow m (drop n xs)
below_drop m zero xs h = h
below_drop m (suc n) [] h = tt
below_drop m (suc n) (x ∷ xs) h = below_drop m n xs h.1

sum_below : (m : ℕ) (xs : List ℕ) → sum xs < m → AreBelow m xs
sum_below m [] h = tt
sum_below m (x ∷ xs) h = let e = sum_by-cons (λ x. x) x xs in (omega (arith, h, e), sum_below m xs (omega (arith, h, e)))

module _ (g : Grammar) (limit : ℕ) (sizes : Sizes) (within : IsWithinLimits g) (least : AreLeastSizes g limit sizes) where
  -- a tree is made
  abbrev Makes : ℕ → ℕ → Lcg → Type 0
  Makes n b before = (t : PlainTree) × ((after : Lcg) × IsMade g sizes n b before t after)

  abbrev MakesBelow : ℕ → Type 0
  MakesBelow m = (n b k : ℕ) (before : Lcg) → b < m → size_at sizes n ≡ Some k → k ≤ b → Makes n b before

  fill : (m : ℕ) → MakesBelow m → (range : Option Range) (p : Pattern) (shares : List ℕ) (before : Lcg) → AreEnough sizes (leaves p) shares → AreBelow m shares
      → (t : PlainTree) × ((after : Lcg) × IsFilled (IsMade g sizes) range p shares before t after)
  fill m make range (Leaf n) [] before enough below = absurd enough
  fill m make range (Leaf n) (b ∷ shares) before enough below = let (k, at, le) = enough.0 in make n b k before below.0 at le
  fill m make range (Nullary op) shares before enough below = (Node0 op (attribute_by range (word before)), (behind before, (refl, refl)))
  fill m make range (Unary' op s (more_of-Pattern p end_of-Pattern)) shares before enough below =
      let one = fill m make range p shares before enough below in (Node1 op Absent one.0, (one.1.0, (one.0, refl, one.1.1)))
  fill m make range (Binary' op s (more_of-Pattern p end_of-Pattern) s' (more_of-Pattern q end_of-Pattern)) shares before enough below =
      let parts = enough_parts sizes (leaves p) (leaves q) shares enough in
      let one = fill m make range p shares before parts.0 below in
      let two = fill m make range q (drop (length (leaves p)) shares) one.1.0 parts.1 (below_drop m (length (leaves p)) shares below) in
      (Node2 op Absent one.0 two.0, (two.1.0, (one.0, two.0, refl, (one.1.0, one.1.1, two.1.1))))

  make : (m : ℕ) → MakesBelow m
  make zero n b k before lt at le = absurd (omega (arith, lt))
  make (suc m) n b k before lt at le =
      let some = some_candidate g limit sizes n b k within least at le in
      let inside : word before % length (candidates g sizes n b) < length (candidates g sizes n b) = omega (arith, some) in
      let (rule, drawn) = some_get (candidates g sizes n b) (word before % length (candidates g sizes n b)) inside in
      let is = drawn_candidate g sizes n b (word before % length (candidates g sizes n b)) rule drawn in
      let (kids, sums, count) = rule_size_of sizes rule is.size is.size_is in
      let spare = b - is.size in
      let sharing = shared (leaf_sizes sizes rule.pattern) (b - is.size) (behind before) in
      let total = leaf_sum_is sizes rule is.size is.size_is in
      let most = shared_sum (leaf_sizes sizes rule.pattern) (b - is.size) (behind before) in
      let less : sum (shared (leaf_sizes sizes rule.pattern) (b - is.size) (behind before)).0 < m = omega (arith, total, most, is.within, lt) in
      let filled = fill m (make m) rule.range rule.pattern sharing.0 sharing.1 (shared_enough sizes (leaves rule.pattern) kids (b - is.size) (behind before) sums) (sum_below m sharing.0 less) in
      let (levels, in_them) = in_levels g sizes rule.range rule.pattern sharing.0 sharing.1 filled.0 filled.1.0 filled.1.1 in (
        filled.0,
        (
          filled.1.0,
          (suc levels, record { rule = rule; size = is.size; drawn = drawn; size_is = is.size_is; shares = sharing.0; between = sharing.1; sharing = refl; filled = in_them }),
        ),
      )

  trees_exist : (b k : ℕ) → size_at sizes g.start ≡ Some k → k ≤ b → (count : ℕ) (words : Lcg) → (trees : List Tree) × AreMade g sizes b count words trees
  trees_exist b k at le zero words = ([], refl)
  trees_exist b k at le (suc count) words =
      let one = make (suc b) g.start b k words (omega arith) at le in
      let others = trees_exist b k at le count one.1.0 in
      (if is_kept one.0 then tree_of one.0 ∷ others.0 else others.0, (one.0, one.1.0, one.1.1, (others.0, others.1, refl)))

  for_start : (count : ℕ) (words : Lcg) (o : Option ℕ) → size_at sizes g.start ≡ o → (trees : List Tree) × AreMadeFor o g sizes limit count words trees
  for_start count words None e = ([], refl)
  for_start count words (Some k) e =
      let own : IsLeastSize g limit g.start (Some k) = subst (IsLeastSize g limit g.start) e (least.least g.start within.start) in
      trees_exist limit k e own.0 count words

pub made_exists : MadeExists
made_exists g seed count budget within =
    let s = sizes_exist g budget within in
    let trees = for_start g budget s.0 within s.1 count (first_words seed) (size_at s.0 g.start) refl in
    (record { trees = trees.0 }, record { sizes = s.0; least = s.1; trees = trees.1 })
