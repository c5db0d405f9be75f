-- A rule that lowers a size: the sizes stay derivations', and come nearer to the least.
use Rattle.std.proofs.Common.{◌≡◌, ℕ, ◌+◌, ◌<◌, ◌≤◌, ◌⊎◌, inl, inr, Bool, true, false, nat_le, if◌then◌else◌, List, [], ◌∷◌, ◌++◌, length, refl, ap, sym, ◌∙◌, subst, arith, Option, Some, None, slice_get, get_or, length-append, add-one}
use Rattle.std.specs.Option.{option_map}
use Rattle.sel_base.proofs.Shared.Bettering.{place_at-get_or, place_at-set_same, place_at-set_other, total_falls}
use Rattle.sel_base.proofs.Shared.Choices.{at_most_or_above, same_or_other}
use Rattle.sel_grammar.specs.declared.grammar.Grammar.{Grammar}
use Rattle.sel_grammar.specs.declared.grammar.Pattern.{Pattern, Leaf, Nullary, Unary', Binary', end_of-Pattern, more_of-Pattern}
use Rattle.sel_grammar.specs.declared.grammar.Rule.{Rule}
use Rattle.sel_grammar.specs.Fits.{leaves, rule_at}
use Rattle.sel_grammar.specs.Derivations.{Deriv, Derivations, no_more, more, list, lists}
use Rattle.sel_gen.specs.Sizes.{is_usable, BuildAll, IsBuiltBy, Sizes, size_at, plus, kids_size, rule_size}
use Rattle.sel_gen.specs.Lowering.{capped, AreUpTo, AreBuilt, offered, IsAtMost, IsLowered, distance, total_distance}
use Rattle.sel_forest.proofs.Matching.{some_same, some_none}
use Rattle.sel_gen.proofs.Sums.{nat_le_is, plus_parts}

-- the sum of the sizes of nonterminals
abbrev pub sum_at : Sizes → List ℕ → Option ℕ
sum_at sizes [] = Some 0
sum_at sizes (n ∷ ns) = plus (size_at sizes n) (sum_at sizes ns)

plus-none : (x : Option ℕ) → plus x (Some 0) ≡ x
plus-none None = refl
plus-none (Some a) = ap (λ n. Some n) (omega arith)

none-plus : (x : Option ℕ) → plus (Some 0) x ≡ x
none-plus None = refl
none-plus (Some a) = ap (λ n. Some n) (omega arith)

plus-assoc : (x y z : Option ℕ) → plus x (plus y z) ≡ plus (plus x y) z
plus-assoc None y z = refl
plus-assoc (Some a) None z = refl
plus-assoc (Some a) (Some b) None = refl
plus-assoc (Some a) (Some b) (Some c) = ap (λ n. Some n) (omega arith)

sum_at-append : (sizes : Sizes) (ns ms : List ℕ) → sum_at sizes (ns ++ ms) ≡ plus (sum_at sizes ns) (sum_at sizes ms)
sum_at-append sizes [] ms = sym (none-plus (sum_at sizes ms))
sum_at-append sizes (n ∷ ns) ms = ap (plus (size_at sizes n)) (sum_at-append sizes ns ms) ∙ plus-assoc (size_at sizes n) (sum_at sizes ns) (sum_at sizes ms)

pub kids_is_sum : (sizes : Sizes) (p : Pattern) → kids_size sizes p ≡ sum_at sizes (leaves p)
kids_is_sum sizes (Leaf n) = sym (plus-none (size_at sizes n))
kids_is_sum sizes (Nullary op) = refl
kids_is_sum sizes (Unary' op s (more_of-Pattern p end_of-Pattern)) = kids_is_sum sizes p
kids_is_sum sizes (Binary' op s (more_of-Pattern p end_of-Pattern) s' (more_of-Pattern q end_of-Pattern)) =
    ap (λ x. plus x (kids_size sizes q)) (kids_is_sum sizes p) ∙ ap (plus (sum_at sizes (leaves p))) (kids_is_sum sizes q) ∙ sym (sum_at-append sizes (leaves p) (leaves q))

-- what an offer is
pub record IsOffer (limit : ℕ) (sizes : Sizes) (rule : Rule) (k : ℕ) : Type 0 where
  pub usable : is_usable rule.range ≡ true
  pub within : k ≤ limit
  pub kids : ℕ
  pub sum : sum_at sizes (leaves rule.pattern) ≡ Some kids
  pub one_more : k ≡ kids + 1

one_more_of : (o : Option ℕ) (k : ℕ) → option_map (λ k. k + 1) o ≡ Some k → (kids : ℕ) × (o ≡ Some kids) × (k ≡ kids + 1)
one_more_of None k h = absurd (some_none (sym h))
one_more_of (Some a) k h = (a, refl, sym (some_same h))

pub rule_size_of : (sizes : Sizes) (rule : Rule) (k : ℕ) → rule_size sizes rule ≡ Some k → (kids : ℕ) × (sum_at sizes (leaves rule.pattern) ≡ Some kids) × (k ≡ kids + 1)
rule_size_of sizes rule k h = let (kids, e, m) = one_more_of (kids_size sizes rule.pattern) k h in (kids, sym (kids_is_sum sizes rule.pattern) ∙ e, m)

capped_of : (limit : ℕ) (o : Option ℕ) (k : ℕ) → capped limit o ≡ Some k → (o ≡ Some k) × (k ≤ limit)
capped_of limit None k h = absurd (some_none (sym h))
capped_of limit (Some a) k h = go (nat_le a limit) refl h
  where
    go : (b : Bool) → nat_le a limit ≡ b → (if b then Some a else None) ≡ Some k → (Some a ≡ Some k) × (k ≤ limit)
    go true e h = (h, subst (λ x. x ≤ limit) (some_same h) (nat_le_is a limit e))
    go false e h = absurd (some_none (sym h))

pub offer_of : (limit : ℕ) (sizes : Sizes) (rule : Rule) (k : ℕ) → offered limit sizes rule ≡ Some k → IsOffer limit sizes rule k
offer_of limit sizes rule k h = go (is_usable rule.range) refl h
  where
    go : (b : Bool) → is_usable rule.range ≡ b → (if b then capped limit (rule_size sizes rule) else None) ≡ Some k → IsOffer limit sizes rule k
    go false e h = absurd (some_none (sym h))
    go true e h =
        let (at, within) = capped_of limit (rule_size sizes rule) k h in
        let (kids, sum, one_more) = rule_size_of sizes rule k at in
        record { usable = e; within = within; kids = kids; sum = sum; one_more = one_more }

nearer : (limit : ℕ) (o : Option ℕ) (k : ℕ) → k ≤ limit → (IsAtMost o k → ⊥) → k < distance limit o
nearer limit None k h less = omega arith
nearer limit (Some j) k h less = go (at_most_or_above j k)
  where
    go : (j ≤ k) ⊎ (k < j) → k < j
    go (inl l) = absurd (less l)
    go (inr l) = l

-- kids of these sizes
pub kids_built : (g : Grammar) (sizes : Sizes) → AreBuilt g sizes → (ns : List ℕ) (k : ℕ) → sum_at sizes ns ≡ Some k → (ds : Derivations) × BuildAll g ds ns × (length (lists ds) ≡ k)
kids_built g sizes built [] k h = (no_more, tt, some_same h)
kids_built g sizes built (n ∷ ns) k h =
    let (a, b, x, y, sum) = plus_parts (size_at sizes n) (sum_at sizes ns) k h in
    let (d, builds, one) = built n a x in
    let (ds, all, others) = kids_built g sizes built ns b y in
    (more d ds, (builds, all), let l = length-append (list d) (lists ds) in omega arith)

module _ (g : Grammar) (limit number : ℕ) (rule : Rule) (old new : Sizes) (there : slice_get g.rules number ≡ Some rule) (inside : rule.left < length old) (low : IsLowered limit rule old new) where
  offer : IsOffer limit old rule low.size
  offer = offer_of limit old rule low.size low.offer

  pub total-lowered : total_distance limit new < total_distance limit old
  total-lowered =
      let near : low.size < distance limit (get_or old rule.left None) =
      subst (λ o. low.size < distance limit o) (place_at-get_or old rule.left inside) (nearer limit (size_at old rule.left) low.size offer.within low.less) in
      total_falls (distance limit) old new rule.left (Some low.size) low.set inside near

  new_at : (n k : ℕ) → size_at new n ≡ Some k → ((rule.left ≡ n) × (low.size ≡ k)) ⊎ (size_at old n ≡ Some k)
  new_at n k h = go (same_or_other rule.left n)
    where
      go : (rule.left ≡ n) ⊎ (rule.left ≡ n → ⊥) → ((rule.left ≡ n) × (low.size ≡ k)) ⊎ (size_at old n ≡ Some k)
      go (inl q) = inl (q, some_same (sym (ap (λ x. size_at x rule.left) low.set ∙ place_at-set_same old rule.left (Some low.size) inside) ∙ ap (size_at new) q ∙ h))
      go (inr d) = inr (sym (ap (λ x. size_at x n) low.set ∙ place_at-set_other old rule.left n (Some low.size) d) ∙ h)

  pub AreUpTo-lowered : AreUpTo limit old → AreUpTo limit new
  AreUpTo-lowered up n k h = go (new_at n k h)
    where
      go : ((rule.left ≡ n) × (low.size ≡ k)) ⊎ (size_at old n ≡ Some k) → k ≤ limit
      go (inl q) = subst (λ x. x ≤ limit) q.1 offer.within
      go (inr q) = up n k q

  pub AreBuilt-lowered : AreBuilt g old → AreBuilt g new
  AreBuilt-lowered built n k h = go (new_at n k h)
    where
      go : ((rule.left ≡ n) × (low.size ≡ k)) ⊎ (size_at old n ≡ Some k) → IsBuiltBy g n k
      go (inr q) = built n k q
      go (inl q) =
          let (kids, all, count) = kids_built g old built (leaves rule.pattern) offer.kids offer.sum in
          let numbered : rule_at g (number + 1) ≡ Some rule = rw (add-one) there in
          (Deriv (number + 1) kids, (rule, numbered, q.0, (offer.usable, all)), let m = offer.one_more in let s = q.1 in omega arith)
