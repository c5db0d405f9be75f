-- What is made is one at most.
use Rattle.std.proofs.Common.{◌≡◌, ℕ, zero, suc, ◌-◌, ◌<◌, List, [], ◌∷◌, length, drop, refl, ap, sym, ◌∙◌, subst, arith, Option, Some, None, if◌then◌else◌}
use Rattle.rand_pcg.specs.Lcg.{Lcg}
use Rattle.sel_base.specs.declared.range.Range.{Range}
use Rattle.sel_grammar.specs.declared.grammar.Attribute.TheVariants.{Absent}
use Rattle.sel_grammar.specs.declared.grammar.Grammar.{Grammar}
use Rattle.sel_grammar.specs.declared.grammar.Pattern.{Pattern, Leaf, Nullary, Unary', Binary', end_of-Pattern, more_of-Pattern}
use Rattle.sel_grammar.specs.declared.grammar.Rule.{Rule}
use Rattle.sel_grammar.specs.Fits.{leaves}
use Rattle.sel_grammar.specs.PlainTrees.{PlainTree, Node1, Node2}
use Rattle.sel_forest.specs.declared.forest.Tree.{Tree}
use Rattle.sel_forest.specs.Printed.{tree_of}
use Rattle.sel_forest.proofs.Matching.{some_same}
use Rattle.sel_gen.specs.Sizes.{IsLeastSize, Sizes, size_at, AreLeastSizes, rule_size}
use Rattle.sel_gen.specs.Made.{behind, leaf_sizes, shared, Making, first_share, IsFilled, IsGrown, IsMadeIn, is_kept, AreMade, AreMadeFor, first_words}
use Rattle.sel_gen.specs.Laws.{MadeIsOne}

size_one : (g : Grammar) (limit n : ℕ) (o p : Option ℕ) → IsLeastSize g limit n o → IsLeastSize g limit n p → o ≡ p
size_one g limit n None None h k = refl
size_one g limit n None (Some b) h (low, (d, builds, count), all) = let x = h d builds in absurd (omega arith)
size_one g limit n (Some a) None (low, (d, builds, count), all) k = let x = k d builds in absurd (omega arith)
size_one g limit n (Some a) (Some b) (low, (d, builds, count), all) (low', (d', builds', count'), all') =
    let x = all d' builds' in let y = all' d builds in let e : a ≡ b = omega arith in ap (λ m. Some m) e

same_sizes : (xs ys : Sizes) → length xs ≡ length ys → ((n : ℕ) → n < length xs → size_at xs n ≡ size_at ys n) → xs ≡ ys
same_sizes [] [] h k = refl
same_sizes [] (y ∷ ys) h k = absurd (omega arith)
same_sizes (x ∷ xs) [] h k = absurd (omega arith)
same_sizes (x ∷ xs) (y ∷ ys) h k =
    let first : x ≡ y = k 0 (omega arith) in
    let rest : xs ≡ ys = same_sizes xs ys (omega arith) (λ n l. k (suc n) (omega arith)) in
    (λ i. first i ∷ rest i)

pub sizes_one : (g : Grammar) (limit : ℕ) (xs ys : Sizes) → AreLeastSizes g limit xs → AreLeastSizes g limit ys → xs ≡ ys
sizes_one g limit xs ys h k = same_sizes xs ys (h.long ∙ sym k.long) (λ n l. size_one g limit n (size_at xs n) (size_at ys n) (h.least n (subst (λ x. n < x) h.long l)) (k.least n (subst (λ x. n < x) h.long l)))

-- the same tree, and the same words behind it
abbrev Same : PlainTree → PlainTree → Lcg → Lcg → Type 0
Same t u after behind = (t ≡ u) × (after ≡ behind)

module _ (Made Other : Making) (agree : (n b : ℕ) (before : Lcg) (t u : PlainTree) (after behind : Lcg) → Made n b before t after → Other n b before u behind → Same t u after behind) where
  filled_one : (range : Option Range) (p : Pattern) (shares : List ℕ) (before : Lcg) (t u : PlainTree) (after last : Lcg) → IsFilled Made range p shares before t after → IsFilled Other range p shares before u last → Same t u after last
  filled_one range (Leaf n) shares before t u after last h k = agree n (first_share shares) before t u after last h k
  filled_one range (Nullary op) shares before t u after last h k = (h.0 ∙ sym k.0, h.1 ∙ sym k.1)
  filled_one range (Unary' op s (more_of-Pattern p end_of-Pattern)) shares before t u after last (x, e, h) (y, f, k) =
      let one = filled_one range p shares before x y after last h k in
      (e ∙ ap (Node1 op Absent) one.0 ∙ sym f, one.1)
  filled_one range (Binary' op s (more_of-Pattern p end_of-Pattern) s' (more_of-Pattern q end_of-Pattern)) shares before t u after last (x, x', e, w) (y, y', f, v) =
      let one = filled_one range p shares before x y w.0 v.0 w.1 v.1 in
      let two = filled_one range q (drop (length (leaves p)) shares) v.0 x' y' after last (subst (λ m. IsFilled Made range q (drop (length (leaves p)) shares) m x' after) one.1 w.2) v.2 in
      (e ∙ (λ i. Node2 op Absent (one.0 i) (two.0 i)) ∙ sym f, two.1)

module _ (g : Grammar) (sizes : Sizes) where
  grown_one : (Made Other : Making) → ((n b : ℕ) (before : Lcg) (t u : PlainTree) (after last : Lcg) → Made n b before t after → Other n b before u last → Same t u after last)
      → (n b : ℕ) (before : Lcg) (t u : PlainTree) (after last : Lcg) → IsGrown Made g sizes n b before t after → IsGrown Other g sizes n b before u last → Same t u after last
  grown_one Made Other agree n b before t u after last h k =
      let rule : k.rule ≡ h.rule = some_same (sym k.drawn ∙ h.drawn) in
      let size : k.size ≡ h.size = some_same (sym k.size_is ∙ ap (rule_size sizes) rule ∙ h.size_is) in
      let both : (k.shares, k.between) ≡ (h.shares, h.between) =
      sym k.sharing ∙ ap (λ (r : Rule). shared (leaf_sizes sizes r.pattern) (b - k.size) (behind before)) rule ∙ ap (λ m. shared (leaf_sizes sizes h.rule.pattern) (b - m) (behind before)) size ∙ h.sharing in
      let other = subst (λ (r : Rule). IsFilled Other r.range r.pattern k.shares k.between u last) rule k.filled in
      let third = subst (λ (x : List ℕ × Lcg). IsFilled Other h.rule.range h.rule.pattern x.0 x.1 u last) both other in
      filled_one Made Other agree h.rule.range h.rule.pattern h.shares h.between t u after last h.filled third

  pub made_one : (j k n b : ℕ) (before : Lcg) (t u : PlainTree) (after last : Lcg) → IsMadeIn g sizes j n b before t after → IsMadeIn g sizes k n b before u last → Same t u after last
  made_one zero k n b before t u after last h e = absurd h
  made_one (suc j) zero n b before t u after last h e = absurd e
  made_one (suc j) (suc k) n b before t u after last h e = grown_one (IsMadeIn g sizes j) (IsMadeIn g sizes k) (made_one j k) n b before t u after last h e

  trees_one : (b count : ℕ) (words : Lcg) (ts us : List Tree) → AreMade g sizes b count words ts → AreMade g sizes b count words us → ts ≡ us
  trees_one b zero words ts us h k = h ∙ sym k
  trees_one b (suc count) words ts us (t, after, made, w) (u, last, other, v) =
      let same = made_one made.0 other.0 g.start b words t u after last made.1 other.1 in
      let rest : w.0 ≡ v.0 = trees_one b count last w.0 v.0 (subst (λ x. AreMade g sizes b count x w.0) same.1 w.1) v.1 in
      w.2 ∙ (λ i. if is_kept (same.0 i) then tree_of (same.0 i) ∷ rest i else rest i) ∙ sym v.2

  for_one : (o : Option ℕ) (b count : ℕ) (words : Lcg) (ts us : List Tree) → AreMadeFor o g sizes b count words ts → AreMadeFor o g sizes b count words us → ts ≡ us
  for_one None b count words ts us h k = h ∙ sym k
  for_one (Some least) b count words ts us h k = trees_one b count words ts us h k

pub made_one_forest : MadeIsOne
made_one_forest g seed count budget forest other h k =
    let same : k.sizes ≡ h.sizes = sizes_one g budget k.sizes h.sizes k.least h.least in
    let trees : forest.trees ≡ other.trees =
    for_one g h.sizes (size_at h.sizes g.start) budget count (first_words seed) forest.trees other.trees h.trees
    (subst (λ s. AreMadeFor (size_at s g.start) g s budget count (first_words seed) other.trees) same k.trees) in
    (λ i. record { trees = trees i })
