-- Trees made one after the other.
use Rattle.std.proofs.Common.{◌≡◌, ℕ, suc, ◌+◌, ◌<◌, ◌≤◌, ◌⊎◌, inl, inr, true, ◌&&◌, if◌then◌else◌, Option, Some, None, List, [], ◌∷◌, ◌++◌, length, ap, sym, ◌∙◌, subst, arith, append_assoc, slice_get, length-append}
use Rattle.rand_pcg.specs.Lcg.{Lcg}
use Rattle.sel_grammar.specs.declared.grammar.Grammar.{Grammar}
use Rattle.sel_grammar.specs.PlainTrees.{PlainTree, Node0, Node1, Node2, size}
use Rattle.sel_forest.specs.declared.forest.Tree.{Tree}
use Rattle.sel_forest.specs.Limits.{most_nodes, greatest_depth}
use Rattle.sel_forest.specs.Printed.{tree_of}
use Rattle.sel_forest.specs.Valid.{depth, IsValidTree}
use Rattle.sel_forest.proofs.Roots.{length-postorder, slice_get-left, slice_get-right}
use Rattle.sel_forest.proofs.Matching.{some_same}
use Rattle.std.proofs.lemmas.Option.{slice_get_within}
use Rattle.sel_gen.specs.Sizes.{Sizes, size_at, AreLeastSizes}
use Rattle.sel_gen.specs.Made.{most_size, is_kept, AreMade, AreMadeFor, first_words, IsMadeForest}
use Rattle.sel_gen.specs.Growing.{HasGrown}
use Rattle.sel_gen.specs.Maker.{Maker, AreToCome, count_for}
use Rattle.sel_gen.proofs.Sums.{nat_le_true}
use Rattle.sel_gen.proofs.OneForest.{sizes_one, made_one}

depth_small : (t : PlainTree) → depth t ≤ size t
depth_small (Node0 op a) = omega arith
depth_small (Node1 op a t) = let h = depth_small t in omega arith
depth_small (Node2 op a t u) = let h = depth_small t in let k = depth_small u in omega arith

kept_is : (t : PlainTree) → size t ≤ most_nodes → is_kept t ≡ true
kept_is t h =
    let d = depth_small t in
    (λ i. nat_le_true (size t) most_nodes h i && nat_le_true (depth t) greatest_depth (omega arith) i)

-- a tree that has grown is the next one
module _ (g : Grammar) (sizes : Sizes) (budget : ℕ) (words after : Lcg) (tree : Tree) (small : budget ≤ most_size) (grown : HasGrown g sizes budget words after tree.nodes) where
  few : size grown.tree ≤ most_nodes
  few = let e = ap length grown.postorder_is ∙ length-postorder grown.tree 0 in let s = grown.small in omega arith

  tree_is : tree ≡ tree_of grown.tree
  tree_is = (λ i. record { nodes = grown.postorder_is i })

  pub made_next : (left more : ℕ) → left + 1 ≡ more → (rest : List Tree) → AreMade g sizes budget left after rest → AreMade g sizes budget more words (tree ∷ rest)
  made_next left more one rest h =
      let next : suc left ≡ more = omega arith in
      let kept : tree ∷ rest ≡ (if is_kept grown.tree then tree_of grown.tree ∷ rest else rest) =
      ap (λ t. t ∷ rest) tree_is ∙ ap (λ b. if b then tree_of grown.tree ∷ rest else rest) (sym (kept_is grown.tree few)) in
      subst (λ m. AreMade g sizes budget m words (tree ∷ rest)) next (grown.tree, after, grown.made, (rest, h, kept))

  -- and what came is it, and then the rest
  pub came_next : (left more : ℕ) → left + 1 ≡ more → (trees : List Tree) → AreMade g sizes budget more words trees → (rest : List Tree) × (AreMade g sizes budget left after rest × (trees ≡ tree ∷ rest))
  came_next left more one trees h =
      let next : more ≡ suc left = omega (arith, one) in
      by_first (subst (λ m. AreMade g sizes budget m words trees) next h)
    where
      by_first : AreMade g sizes budget (suc left) words trees → (rest : List Tree) × (AreMade g sizes budget left after rest × (trees ≡ tree ∷ rest))
      by_first (t, last, made, (rest, others, all)) =
          let same = made_one g sizes (grown.made).0 made.0 g.start budget words grown.tree t after last (grown.made).1 made.1 in
          let kept : trees ≡ tree ∷ rest =
          all ∙ ap (λ u. if is_kept u then tree_of u ∷ rest else rest) (sym same.0) ∙ ap (λ b. if b then tree_of grown.tree ∷ rest else rest) (kept_is grown.tree few) ∙ ap (λ x. x ∷ rest) (sym tree_is) in
          (rest, (subst (λ w. AreMade g sizes budget left w rest) (sym same.1) others, kept))

  pub valid_next : IsValidTree g tree
  valid_next = record {
    plain = grown.tree;
    postorder = grown.postorder_is;
    over = grown.over;
    small = few;
    shallow = let d = depth_small grown.tree in let f = few in omega arith;
  }

-- the trees of the forest that is made are those to come
pub to_come : (g : Grammar) (sizes : Sizes) (seed count budget : ℕ) (trees : List Tree) → AreLeastSizes g budget sizes → IsMadeForest g seed count budget (record { trees = trees })
    → AreMade g sizes budget (count_for (size_at sizes g.start) count) (first_words seed) trees
to_come g sizes seed count budget trees least h =
    let same = sizes_one g budget h.sizes sizes h.least least in by_start (size_at sizes g.start) (subst (λ s. AreMadeFor (size_at s g.start) g s budget count (first_words seed) trees) same h.trees)
  where
    by_start : (o : Option ℕ) → AreMadeFor o g sizes budget count (first_words seed) trees → AreMade g sizes budget (count_for o count) (first_words seed) trees
    by_start None are = are
    by_start (Some k) are = are

-- each of the trees is valid
abbrev pub AreValid : Grammar → List Tree → Type 0
AreValid g trees = (k : ℕ) (tree : Tree) → slice_get trees k ≡ Some tree → IsValidTree g tree

module _ (trees pushed : List Tree) (tree : Tree) (push : pushed ≡ trees ++ tree ∷ []) where
  pub made_more : (g : Grammar) (seed count budget : ℕ) (old new : Maker) → ((rest : List Tree) → AreToCome new rest → AreToCome old (tree ∷ rest))
      → ((rest : List Tree) → AreToCome old rest → IsMadeForest g seed count budget (record { trees = trees ++ rest }))
      → (rest : List Tree) → AreToCome new rest → IsMadeForest g seed count budget (record { trees = pushed ++ rest })
  made_more g seed count budget old new next whole rest h =
      subst (λ (all : List Tree). IsMadeForest g seed count budget (record { trees = all })) (sym (append_assoc trees (tree ∷ []) rest) ∙ ap (λ x. x ++ rest) (sym push))
      (whole (tree ∷ rest) (next rest h))

  pub valid_more : (g : Grammar) → IsValidTree g tree → AreValid g trees → AreValid g pushed
  valid_more g own valid j t at = go (split j (length trees) (slice_get_within (trees ++ tree ∷ []) j t here))
    where
      here : slice_get (trees ++ tree ∷ []) j ≡ Some t
      here = ap (λ x. slice_get x j) (sym push) ∙ at

      split : (j n : ℕ) → j < length (trees ++ tree ∷ []) → (j < length trees) ⊎ (j ≡ length trees + 0)
      split j n h = let l = length-append trees (tree ∷ []) in last j (length trees) (omega arith)
        where
          last : (j n : ℕ) → j < n + 1 → (j < n) ⊎ (j ≡ n + 0)
          last j n h = grind arith

      go : (j < length trees) ⊎ (j ≡ length trees + 0) → IsValidTree g t
      go (inl h) = valid j t (sym (slice_get-left trees (tree ∷ []) j h) ∙ here)
      go (inr e) = subst (IsValidTree g) (some_same (sym (slice_get-right trees (tree ∷ []) 0 j e) ∙ here)) own
