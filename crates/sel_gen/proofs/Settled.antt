-- Sizes that no rule lowers are the least.
use Rattle.std.proofs.Common.{◌≡◌, ℕ, zero, suc, ◌+◌, ◌<◌, ◌≤◌, ◌⊎◌, inl, inr, true, if◌then◌else◌, List, [], ◌∷◌, length, refl, ap, sym, ◌∙◌, subst, arith, Option, Some, None, slice_get, length-append}
use Rattle.std.specs.Option.{option_map}
use Rattle.sel_grammar.specs.declared.grammar.Grammar.{Grammar}
use Rattle.sel_grammar.specs.declared.grammar.Rule.{Rule}
use Rattle.sel_grammar.specs.Fits.{leaves, rule_at}
use Rattle.sel_grammar.specs.Derivations.{Derivation, Deriv, Derivations, no_more, more, list, lists}
use Rattle.sel_gen.specs.Sizes.{is_usable, Builds, BuildAll, IsLeastSize, Sizes, size_at, AreLeastSizes, plus, rule_size}
use Rattle.sel_gen.specs.Lowering.{capped, AreUpTo, AreBuilt, offered, IsAtMost, Withstands, AllWithstood}
use Rattle.sel_forest.proofs.Matching.{some_same}
use Rattle.sel_gen.proofs.Sums.{nat_le_true}
use Rattle.sel_gen.proofs.Lowered.{sum_at, kids_is_sum}

-- the offers of the first rules are withstood
abbrev pub WithstoodTo : Grammar → ℕ → Sizes → ℕ → Type 0
WithstoodTo g limit sizes k = (j : ℕ) (rule : Rule) → j < k → slice_get g.rules j ≡ Some rule → Withstands limit sizes rule

pub WithstoodTo-more : (g : Grammar) (limit : ℕ) (sizes : Sizes) (k : ℕ) (rule : Rule) → slice_get g.rules k ≡ Some rule → WithstoodTo g limit sizes k → Withstands limit sizes rule → WithstoodTo g limit sizes (k + 1)
WithstoodTo-more g limit sizes k rule at below here j rule' lt at' = go (split j k lt)
  where
    split : (j k : ℕ) → j < k + 1 → (j < k) ⊎ (j ≡ k)
    split j k h = grind arith

    go : (j < k) ⊎ (j ≡ k) → Withstands limit sizes rule'
    go (inl h) = below j rule' h at'
    go (inr e) = subst (λ (x : Rule). Withstands limit sizes x) (some_same (sym at ∙ ap (slice_get g.rules) (sym e) ∙ at')) here

at_most_some : (o : Option ℕ) (k : ℕ) → IsAtMost o k → (j : ℕ) × (o ≡ Some j) × (j ≤ k)
at_most_some None k h = absurd h
at_most_some (Some j) k h = (j, refl, h)

plus_at_most : (x y : Option ℕ) (a b : ℕ) → IsAtMost x a → IsAtMost y b → IsAtMost (plus x y) (a + b)
plus_at_most None y a b h k = absurd h
plus_at_most (Some i) None a b h k = absurd k
plus_at_most (Some i) (Some j) a b h k = omega arith

module _ (g : Grammar) (limit : ℕ) (sizes : Sizes) (still : AllWithstood g limit sizes) where
  offers : (rule : Rule) (k : ℕ) → is_usable rule.range ≡ true → sum_at sizes (leaves rule.pattern) ≡ Some k → k + 1 ≤ limit → offered limit sizes rule ≡ Some (k + 1)
  offers rule k usable sum h =
      ap (λ b. if b then capped limit (rule_size sizes rule) else None) usable
      ∙ ap (λ o. capped limit (option_map (λ k. k + 1) o)) (kids_is_sum sizes rule.pattern ∙ sum)
      ∙ ap (λ b. if b then Some (k + 1) else None) (nat_le_true (k + 1) limit h)

  numbered : (r : ℕ) (rule : Rule) → rule_at g r ≡ Some rule → Withstands limit sizes rule
  numbered zero rule h = cc
  numbered (suc k) rule h = still k rule h

  at_rule : (r n : ℕ) (kids : Derivations) (rule : Rule) → rule_at g r ≡ Some rule → rule.left ≡ n → is_usable rule.range ≡ true → suc (length (lists kids)) ≤ limit
      → IsAtMost (sum_at sizes (leaves rule.pattern)) (length (lists kids)) → IsAtMost (size_at sizes n) (suc (length (lists kids)))
  at_rule r n kids rule at left usable h most =
      let (k, sum, le) = at_most_some (sum_at sizes (leaves rule.pattern)) (length (lists kids)) most in
      let (j, is, low) = at_most_some (size_at sizes rule.left) (k + 1) (numbered r rule at (k + 1) (offers rule k usable sum (omega arith))) in
      subst (λ o. IsAtMost o (suc (length (lists kids)))) (sym is ∙ ap (size_at sizes) left) (le_more j k (length (lists kids)) low le)
    where
      le_more : (j k l : ℕ) → j ≤ k + 1 → k ≤ l → j ≤ suc l
      le_more j k l h e = omega arith

  mutual
    pub at_most : (d : Derivation) (n : ℕ) → Builds g d n → length (list d) ≤ limit → IsAtMost (size_at sizes n) (length (list d))
    at_most (Deriv r kids) n (rule, at, left, w) h = at_rule r n kids rule at left w.0 h (all_at_most kids (leaves rule.pattern) w.1 (omega arith))

    all_at_most : (ds : Derivations) (ns : List ℕ) → BuildAll g ds ns → length (lists ds) ≤ limit → IsAtMost (sum_at sizes ns) (length (lists ds))
    all_at_most no_more [] b h = omega arith
    all_at_most no_more (n ∷ ns) b h = absurd b
    all_at_most (more d ds) [] b h = absurd b
    all_at_most (more d ds) (n ∷ ns) b h =
        let l = length-append (list d) (lists ds) in
        subst (λ k. IsAtMost (plus (size_at sizes n) (sum_at sizes ns)) k) (sym l)
        (plus_at_most (size_at sizes n) (sum_at sizes ns) (length (list d)) (length (lists ds)) (at_most d n b.0 (omega arith)) (all_at_most ds ns b.1 (omega arith)))

  pub settled : length sizes ≡ length g.nonterminals → AreUpTo limit sizes → AreBuilt g sizes → AreLeastSizes g limit sizes
  settled long up built = record { long = long; least = λ n h. go n (size_at sizes n) refl }
    where
      two : (a b : ℕ) → (a ≤ b) ⊎ (b < a)
      two a b = grind arith

      no_less : (n : ℕ) (d : Derivation) → size_at sizes n ≡ None → Builds g d n → (length (list d) ≤ limit) ⊎ (limit < length (list d)) → limit < length (list d)
      no_less n d e b (inl h) = absurd (subst (λ o. IsAtMost o (length (list d))) e (at_most d n b h))
      no_less n d e b (inr h) = h

      least : (n k : ℕ) (d : Derivation) → size_at sizes n ≡ Some k → Builds g d n → (length (list d) ≤ limit) ⊎ (limit < length (list d)) → k ≤ length (list d)
      least n k d e b (inl h) = subst (λ o. IsAtMost o (length (list d))) e (at_most d n b h)
      least n k d e b (inr h) = let x = up n k e in omega arith

      go : (n : ℕ) (o : Option ℕ) → size_at sizes n ≡ o → IsLeastSize g limit n o
      go n None e = λ d b. no_less n d e b (two (length (list d)) limit)
      go n (Some k) e = (up n k e, built n k e, λ d b. least n k d e b (two (length (list d)) limit))
