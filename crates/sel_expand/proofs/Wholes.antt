-- The list of a whole derivation's reductions tells its text.
use Rattle.std.proofs.Common.{◌≡◌, ℕ, ◌-◌, Bool, true, false, Some, None, List, [], ◌∷◌, ◌++◌, refl, ap, sym, ◌∙◌, subst, length, map, slice_get, arith}
use Rattle.sel_grammar.specs.declared.emission.Emitted.TheVariants.{Byte}
use Rattle.sel_grammar.specs.declared.grammar.Grammar.{Grammar}
use Rattle.sel_grammar.specs.PlainTrees.{PlainTree}
use Rattle.sel_grammar.specs.Derivations.{Derivation, Derives, list}
use Rattle.sel_grammar.specs.Expansions.{Text, Emissions, emit, expanded, expanded_bytes, text_bytes}
use Rattle.std.proofs.lemmas.List.{length-map}
use Rattle.sel_forest.specs.declared.forest.Node.{Node}
use Rattle.sel_forest.specs.declared.forest.Tree.{Tree}
use Rattle.sel_forest.specs.declared.walk.Goal.{Goal}
use Rattle.sel_forest.specs.Postorder.{postorder, IsTree}
use Rattle.sel_forest.proofs.Roots.{same_tree, stands_root}
use Rattle.sel_expand.specs.declared.places.Step.{Step}
use Rattle.sel_expand.specs.Reductions.{Reduced}
use Rattle.sel_expand.specs.Steps.{HasCover, IsPlaced, steps_of}
use Rattle.sel_grammar.proofs.Words.{lists_are_words}
use Rattle.sel_expand.specs.Expanding.{IsCovered, IsText, IsTooLong, IsEmitted}
use Rattle.sel_expand.specs.Running.{run, nothing}
use Rattle.sel_expand.specs.Sheets.{IsCut, IsWhole, shown}
use Rattle.sel_expand.specs.Values.{text_at, lines_of, AreTexts, IsListed, AreListed, IsReduced}
use Rattle.sel_expand.specs.Printing.{AreAllPrinted}
use Rattle.sel_expand.proofs.Emitting.{run_one, then_one}
use Rattle.sel_expand.proofs.Sheets.{same_bytes, cut_long}

abbrev pub root_goal : Grammar → List Node → Goal
root_goal g nodes = record { at = length nodes - 1; nonterminal = g.start }

pub has_cover : (g : Grammar) (tree : Tree) (rules : List ℕ) → IsTree tree → IsCovered g tree rules → HasCover g tree.nodes (root_goal g tree.nodes) rules
has_cover g tree rules (t, spelled, small) covered = let (c, is) = covered t spelled in (is.derivation, ((t, (stands_root tree.nodes t spelled, is.derives)), is.list_is))

module _ (g : Grammar) (nodes : List Node) (rules : List ℕ) (steps : List Step) (rs : List Reduced) (left : List ℕ) (placed : IsPlaced g nodes (root_goal g nodes) rules steps)
    (listed : IsListed g nodes (run g nodes nothing steps) rs left) where
  module _ (t : PlainTree) (spelled : nodes ≡ postorder 0 t) (d : Derivation) (derives : Derives g d g.start t) (same : list d ≡ rules) where
    -- the derivation of the steps is the one with the rules
    derivation_is : placed.whole ≡ d
    derivation_is =
        let (s, (stands, derived)) = placed.derives in
        let tree : s ≡ t = same_tree nodes (length nodes - 1) s t stands (stands_root nodes t spelled) in
        let from : Derives g placed.whole g.start t = subst (λ x. Derives g placed.whole g.start x) tree derived in
        (lists_are_words g g.start t placed.whole d [] [] from derives (ap (λ x. x ++ []) (placed.listed ∙ sym same))).0

    ran : run g nodes nothing steps ≡ then_one nothing (emit g d t 1)
    ran =
        ap (run g nodes nothing) (sym placed.placed ∙ ap (λ x. steps_from x) derivation_is) ∙ run_one g nodes d (length nodes - 1) g.start t nothing (stands_root nodes t spelled) derives
      where
        steps_from : Derivation → List Step
        steps_from x = steps_of g nodes x (length nodes - 1)

    one_left : (xs : List ℕ) → map (text_at listed.texts) xs ≡ (emit g d t 1).value ∷ [] → (x : ℕ) × ((xs ≡ x ∷ []) × (text_at listed.texts x ≡ (emit g d t 1).value))
    one_left [] h = cc
    one_left (x ∷ []) h = (x, (refl, cc))
    one_left (x ∷ y ∷ xs) h = cc

    last_left : (x : ℕ) × ((left ≡ x ∷ []) × (text_at listed.texts x ≡ (emit g d t 1).value))
    last_left = one_left left (listed.values ∙ ap (λ (x : Emissions). x.values) ran)

    pub some_left : None ≡ slice_get left 0 → ⊥
    some_left h = let l = last_left in let q : None ≡ slice_get (l.0 ∷ []) 0 = h ∙ ap (λ x. slice_get x 0) (l.1).0 in cc

    pub whole_is : (last : ℕ) → Some last ≡ slice_get left 0 → lines_of g nodes listed.texts rs ++ text_at listed.texts last ≡ expanded g d t
    whole_is last first =
        let l = last_left in
        let q : Some last ≡ slice_get (l.0 ∷ []) 0 = first ∙ ap (λ x. slice_get x 0) (l.1).0 in
        let same_last : last ≡ l.0 = cc in
        let lines : lines_of g nodes listed.texts rs ≡ (emit g d t 1).lines = listed.lines ∙ ap (λ (x : Emissions). x.lines) ran in
        λ j. lines j ++ (ap (text_at listed.texts) same_last ∙ (l.1).1) j

-- a sheet of bytes that is not full has the text
pub is_text : (g : Grammar) (tree : Tree) (rules : List ℕ) (rs : List Reduced) (last : ℕ) (bytes : List ℕ) (full : Bool) → full ≡ false → IsReduced g tree rules rs last → AreAllPrinted false g tree.nodes rs last (map Byte bytes) full
    → IsText g tree rules bytes
is_text g tree rules rs last bytes full not reduced printed = λ t d by.
    let text = lines_of g tree.nodes reduced.texts rs ++ text_at reduced.texts last in
    let (shows, short) = subst (λ b. IsWhole b false (map Byte bytes) (shown false text)) not (printed reduced.texts reduced.are) in
    (same_bytes bytes (text_bytes text) shows ∙ ap text_bytes (reduced.whole t d by), let s = short refl in let e : length (map Byte bytes) ≡ length bytes = length-map bytes Byte in omega arith)

-- a full one has a front of a text that is too long
pub is_too_long : (g : Grammar) (tree : Tree) (rules : List ℕ) (rs : List Reduced) (last : ℕ) (out : Text) (full : Bool) → full ≡ true → IsReduced g tree rules rs last → AreAllPrinted false g tree.nodes rs last out full → IsTooLong g tree rules
is_too_long g tree rules rs last out full is reduced printed = λ t d by.
    let text = lines_of g tree.nodes reduced.texts rs ++ text_at reduced.texts last in
    let cut : IsCut false out (shown false text) = subst (λ b. IsWhole b false out (shown false text)) is (printed reduced.texts reduced.are) in
    let long = cut_long false out (shown false text) cut in
    let e : length (shown false text) ≡ length (expanded_bytes g d t) = length-map (text_bytes text) Byte ∙ ap (λ x. length (text_bytes x)) (reduced.whole t d by) in
    omega arith

-- what is placed and listed of a tree
module _ (g : Grammar) (tree : Tree) (rules nodes-rules : List ℕ) (nodes : List Node) (n : ℕ) (nodes-are : nodes ≡ tree.nodes) (long : n ≡ length tree.nodes) (same-rules : nodes-rules ≡ rules) where
  pub placeable : IsTree tree → IsCovered g tree rules → HasCover g nodes (record { at = n - 1; nonterminal = g.start }) nodes-rules
  placeable is covered =
      subst (λ x. HasCover g x (record { at = n - 1; nonterminal = g.start }) nodes-rules) (sym nodes-are)
      (subst (λ m. HasCover g tree.nodes (record { at = m - 1; nonterminal = g.start }) nodes-rules) (sym long)
      (subst (λ x. HasCover g tree.nodes (root_goal g tree.nodes) x) (sym same-rules) (has_cover g tree rules is covered)))

  module _ (rs : List Reduced) (left : List ℕ) (listed : AreListed g nodes (record { at = n - 1; nonterminal = g.start }) nodes-rules rs left) where
    all_listed : AreListed g tree.nodes (root_goal g tree.nodes) rules rs left
    all_listed =
        subst (λ x. AreListed g tree.nodes (root_goal g tree.nodes) x rs left) same-rules
        (subst (λ m. AreListed g tree.nodes (record { at = m - 1; nonterminal = g.start }) nodes-rules rs left) long
        (subst (λ x. AreListed g x (record { at = n - 1; nonterminal = g.start }) nodes-rules rs left) nodes-are listed))

    pub one_is_left : IsTree tree → IsCovered g tree rules → None ≡ slice_get left 0 → ⊥
    one_is_left (t, spelled, small) covered h =
        let (c, is) = covered t spelled in
        let all = all_listed in
        some_left g tree.nodes rules all.steps rs left all.placed all.listed t spelled is.derivation is.derives is.list_is h

    pub reduced : (last : ℕ) → Some last ≡ slice_get left 0 → IsReduced g tree rules rs last
    reduced last first =
        let all = all_listed in
        record {
          texts = all.listed.texts;
          are = all.listed.are;
          whole = λ t d by. whole_is g tree.nodes rules all.steps rs left all.placed all.listed t by.spelled d by.derives by.listed last first;
        }

-- the text with its temporaries apart has the bytes of the text
pub is_emitted : (g : Grammar) (tree : Tree) (rules : List ℕ) (rs : List Reduced) (last : ℕ) (bytes : List ℕ) (text : Text) → IsReduced g tree rules rs last → IsText g tree rules bytes
    → ((texts : List Text) → AreTexts g tree.nodes rs texts → text ≡ lines_of g tree.nodes texts rs ++ text_at texts last) → IsEmitted g tree rules text
is_emitted g tree rules rs last bytes text reduced is shows = λ t d by.
    let same : text ≡ expanded g d t = shows reduced.texts reduced.are ∙ reduced.whole t d by in
    let (all, short) = is t d by in
    (same, let e : length (text_bytes text) ≡ length bytes = ap (λ x. length (text_bytes x)) same ∙ sym (ap length all) in omega arith)
