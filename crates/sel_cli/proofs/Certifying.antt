-- Certificates are told part by part, and each valid tree has one.
use Rattle.std.proofs.Common.{◌≡◌, ℕ, zero, suc, ◌+◌, ◌*◌, ◌<◌, ◌≤◌, ◌⊎◌, inl, inr, Bool, ◌&&◌, Option, Some, None, is_some, List, [], ◌∷◌, ◌++◌, All, length, slice_get, refl, sym, ap, subst, ◌∙◌, arith, append_assoc}
use Rattle.std.specs.List.{list_all}
use Rattle.std.specs.Option.{option_flatten, unwrap_or}
use Rattle.std.specs.Prelude.{option_map}
use Rattle.std.proofs.lemmas.List.Elements.{All-cons, All-nil, All-head, All-tail}
use Rattle.std.proofs.lemmas.List.Folds.{list_all-append}
use Rattle.std.proofs.lemmas.Option.{slice_get_past, slice_get_within}
use Rattle.sel_grammar.specs.declared.grammar.Grammar.{Grammar}
use Rattle.sel_grammar.specs.Costs.{Cost}
use Rattle.sel_grammar.specs.Lawful.{IsLawful}
use Rattle.sel_grammar.specs.PlainTrees.{PlainTree, size}
use Rattle.sel_grammar.specs.Fits.{rule_at}
use Rattle.sel_grammar.specs.Derivations.{Derivation, Deriv, cost, list}
use Rattle.sel_grammar.specs.Best.{HasNone, IsBest}
use Rattle.sel_grammar.specs.Limits.{greatest_cost, most_nonterminals}
use Rattle.sel_grammar.specs.SmallCosts.{IsSmall}
use Rattle.sel_grammar.proofs.LawfulCosts.{lawful_costs}
use Rattle.sel_grammar.proofs.Short.{best_is_small}
use Rattle.sel_forest.specs.declared.forest.Tree.{Tree}
use Rattle.sel_forest.specs.declared.forest.Cover.{Cover}
use Rattle.sel_forest.specs.Covers.{IsAnswer}
use Rattle.sel_forest.specs.Limits.{most_nodes}
use Rattle.sel_forest.specs.Places.{IsRootAt}
use Rattle.sel_forest.specs.Postorder.{IsPostorderOf, IsTree}
use Rattle.sel_forest.specs.Valid.{IsValidTree}
use Rattle.sel_forest.proofs.Matching.{some_same, some_none, within}
use Rattle.sel_forest.proofs.Roots.{plain_one, same_tree, tree_at}
use Rattle.sel_normal.specs.NormalFaults.{IsAccepted}
use Rattle.sel_items.specs.declared.items.Item.{Item}
use Rattle.sel_items.specs.Entries.{item_at}
use Rattle.sel_items.specs.ItemsOf.{SymbolMeans}
use Rattle.sel_items.specs.Laws.{ItemsExist}
use Rattle.sel_plain.specs.NodeCosts.{NodeCosts, cost_at, HasPlaces, IsBestCost, AreBestCosts, AreSmallCosts}
use Rattle.sel_check.specs.declared.certificate.TreeCertificate.{TreeCertificate}
use Rattle.sel_check.specs.CertificateTexts.{certificate_text, certificates_text}
use Rattle.sel_check.specs.CheckLaws.{IsCertified, AreCertified, IsCertifiedText}
use Rattle.sel_check.proofs.Certified.{printable, best_list}
use Rattle.sel_check.proofs.Claiming.{small_more}
use Rattle.sel_count.specs.Things.{AreValid}
use Rattle.sel_answers.specs.Output.{AreCertifiedBehind}
use Rattle.sel_answers.proofs.TreeLists.{valid_head, valid_tail}
use Rattle.sel_cli.proofs.Batches.{HasParts}

-- ---- certificates one behind the other

certified-append : (g : Grammar) (trees more : List Tree) (cs ds : List TreeCertificate) → AreCertified g trees cs → AreCertified g more ds → AreCertified g (trees ++ more) (cs ++ ds)
certified-append g [] more [] ds h k = k
certified-append g [] more (c ∷ cs) ds h k = absurd h
certified-append g (t ∷ trees) more [] ds h k = absurd h
certified-append g (t ∷ trees) more (c ∷ cs) ds h k = (h.0, certified-append g trees more cs ds h.1 k)

certified-length : (g : Grammar) (trees : List Tree) (cs : List TreeCertificate) → AreCertified g trees cs → length cs ≡ length trees
certified-length g [] [] h = refl
certified-length g [] (c ∷ cs) h = absurd h
certified-length g (t ∷ trees) [] h = absurd h
certified-length g (t ∷ trees) (c ∷ cs) h = let e = certified-length g trees cs h.1 in omega arith

certificates_text-append : (number : ℕ) (cs ds : List TreeCertificate) → certificates_text number (cs ++ ds) ≡ certificates_text number cs ++ certificates_text (number + length cs) ds
certificates_text-append number [] ds = ap (λ n. certificates_text n ds) (omega arith)
certificates_text-append number (c ∷ cs) ds =
    ap (λ l. certificate_text number c ++ l) (certificates_text-append (number + 1) cs ds)
    ∙ sym (append_assoc (certificate_text number c) (certificates_text (number + 1) cs) (certificates_text (number + 1 + length cs) ds))
    ∙ ap (λ n. (certificate_text number c ++ certificates_text (number + 1) cs) ++ certificates_text n ds) (omega arith)

All-append : {A : Type 0} (P : A → Type 0) (xs ys : List A) → All P xs → All P ys → All P (xs ++ ys)
All-append P [] ys h k = k
All-append P (x ∷ xs) ys h k = All-cons P x (xs ++ ys) (All-head P x xs h) (All-append P xs ys (All-tail P x xs h) k)

-- valid trees are trees
tree_of_valid : (g : Grammar) (tree : Tree) → IsValidTree g tree → IsTree tree
tree_of_valid g tree v = (v.plain, v.postorder, v.small)

pub are_trees : (g : Grammar) (trees : List Tree) → AreValid g trees → All IsTree trees
are_trees g [] valid = All-nil IsTree
are_trees g (t ∷ trees) valid = All-cons IsTree t trees (tree_of_valid g t (valid_head g t trees valid)) (are_trees g trees (valid_tail g t trees valid))

abbrev has_cover : TreeCertificate → Bool
has_cover c = is_some c.rules

certified_joined : (g : Grammar) (before : ℕ) (xs ys : List Tree) (between : ℕ) (c d : Bool) (bytes more : List ℕ) → between ≡ before + length xs
    → AreCertifiedBehind g before xs c bytes → AreCertifiedBehind g between ys d more → AreCertifiedBehind g before (xs ++ ys) (c && d) (bytes ++ more)
certified_joined g before xs ys between c d bytes more there p q =
    let one = p.certified in
    let other = q.certified in
    let cs = one.certificates in
    let ds = other.certificates in
    let long : length cs ≡ length xs = certified-length g xs cs one.certified in
    let place : between + 1 ≡ before + 1 + length cs = omega (arith, there, long) in
    record {
      are_trees = All-append IsTree xs ys p.are_trees q.are_trees;
      certified = record {
        certificates = cs ++ ds;
        certified = certified-append g xs ys cs ds one.certified other.certified;
        text_is = ap (λ l. l ++ more) one.text_is ∙ ap (λ l. certificates_text (before + 1) cs ++ l) (other.text_is ∙ ap (λ n. certificates_text n ds) place)
            ∙ sym (certificates_text-append (before + 1) cs ds);
        covered_is = ap (λ b. b && d) one.covered_is ∙ ap (λ b. list_all has_cover cs && b) other.covered_is ∙ sym (list_all-append has_cover cs ds);
      };
    }

-- ---- a list by a function of the places

abbrev from_places : {X : Type 0} → (ℕ → X) → ℕ → ℕ → List X
from_places f a zero = []
from_places f a (suc n) = f a ∷ from_places f (suc a) n

places_long : {X : Type 0} (f : ℕ → X) (a n : ℕ) → length (from_places f a n) ≡ n
places_long f a zero = refl
places_long f a (suc n) = let e = places_long f (suc a) n in omega arith

places_get : {X : Type 0} (f : ℕ → X) (a n i : ℕ) → i < n → slice_get (from_places f a n) i ≡ Some (f (a + i))
places_get f a zero i lt = absurd (omega arith)
places_get f a (suc n) zero lt = ap (λ k. Some (f k)) (omega arith)
places_get f a (suc n) (suc i) lt = places_get f (suc a) n i (omega arith) ∙ ap (λ k. Some (f k)) (omega arith)

below_or : (i k : ℕ) → (i < k) ⊎ (k ≤ i)
below_or i k = grind arith

-- ---- each tree has a certificate

module _ (g : Grammar) (exist : ItemsExist) (lawful : IsLawful g) (accepted : IsAccepted g) where
  abbrev width : ℕ
  width = length g.nonterminals

  no_rule : (n : ℕ) (s : PlainTree) → width ≤ n → HasNone g n s
  no_rule n s far (Deriv r kids) (rule, at, left, rest) = go r at
    where
      go : (r : ℕ) → rule_at g r ≡ Some rule → ⊥
      go zero at = some_none (sym at)
      go (suc k) at = let l = (lawful.within).lefts k rule at in absurd (omega arith)

  by_item : (n : ℕ) (t : PlainTree) (o : Option Item) → SymbolMeans g n t o → (c : Option Cost) × IsBestCost g n t c
  by_item n t None none = (None, none)
  by_item n t (Some item) b = (Some (cost g b.best), (b.best, b.is_best, refl))

  best_of : (n : ℕ) (t : PlainTree) → (c : Option Cost) × IsBestCost g n t c
  best_of n t = go (below_or n width)
    where
      go : (n < width) ⊎ (width ≤ n) → (c : Option Cost) × IsBestCost g n t c
      go (inl lt) =
          let items = exist g t lawful accepted in
          by_item n t (item_at (items.1).absolute n) ((items.1).symbols n lt)
      go (inr far) = (None, no_rule n t far)

  small_cost : (n : ℕ) (t : PlainTree) (o : Option Cost) (c : Cost) → size t ≤ most_nodes → IsBestCost g n t o → o ≡ Some c → IsSmall (most_nodes * most_nonterminals * greatest_cost) c
  small_cost n t None c few b is = absurd (some_none (sym is))
  small_cost n t (Some e) c few (d, best, priced) is =
      let small = best_is_small g n t d lawful.within (lawful_costs g lawful) accepted.free best in
      subst (λ x. IsSmall (most_nodes * most_nonterminals * greatest_cost) x) (some_same is)
      (subst (λ x. IsSmall (most_nodes * most_nonterminals * greatest_cost) x) (sym priced)
      (small_more (size t * most_nonterminals * greatest_cost) (most_nodes * most_nonterminals * greatest_cost) (cost g d) small (omega arith)))

  module _ (tree : Tree) (t : PlainTree) (spelled : IsPostorderOf tree t) (few : size t ≤ most_nodes) where
    abbrev count : ℕ
    count = length tree.nodes

    abbrev node_tree : (i : ℕ) → (i < count) ⊎ (count ≤ i) → PlainTree
    node_tree i (inl lt) = (tree_at tree.nodes t i spelled lt).0
    node_tree i (inr far) = t

    tree_is : (i : ℕ) (x : (i < count) ⊎ (count ≤ i)) (s : PlainTree) → IsRootAt tree.nodes i s → node_tree i x ≡ s
    tree_is i (inl lt) s root = let at = tree_at tree.nodes t i spelled lt in same_tree tree.nodes i at.0 s (at.1).0 root
    tree_is i (inr far) s root = let lt = within tree.nodes i s root in absurd (omega arith)

    tree_few : (i : ℕ) (x : (i < count) ⊎ (count ≤ i)) → size (node_tree i x) ≤ most_nodes
    tree_few i (inl lt) = let less = ((tree_at tree.nodes t i spelled lt).1).1 in omega (arith, less, few)
    tree_few i (inr far) = few

    abbrev cost_by : ℕ → ℕ → Option Cost
    cost_by i n = (best_of n (node_tree i (below_or i count))).0

    abbrev row_by : ℕ → List (Option Cost)
    row_by i = from_places (cost_by i) 0 width

    abbrev costs : NodeCosts
    costs = from_places row_by 0 count

    row_is : (i : ℕ) → i < count → slice_get costs i ≡ Some (row_by i)
    row_is i lt = places_get row_by 0 count i lt ∙ ap (λ k. Some (row_by k)) (omega arith)

    in_row : (i n : ℕ) → i < count → cost_at costs i n ≡ option_flatten (slice_get (row_by i) n)
    in_row i n lt = ap (λ (o : Option (List (Option Cost))). option_flatten (slice_get (unwrap_or o []) n)) (row_is i lt)

    cost_is : (i n : ℕ) → i < count → n < width → cost_at costs i n ≡ cost_by i n
    cost_is i n lt l =
        in_row i n lt ∙ ap (λ (o : Option (Option Cost)). option_flatten o) (places_get (cost_by i) 0 width n l ∙ ap (λ k. Some (cost_by i k)) (omega arith))

    past_width : (i n : ℕ) → i < count → width ≤ n → cost_at costs i n ≡ None
    past_width i n lt far =
        let long = places_long (cost_by i) 0 width in
        in_row i n lt ∙ ap (λ (o : Option (Option Cost)). option_flatten o) (slice_get_past (row_by i) n (omega (arith, long, far)))

    past_count : (i n : ℕ) → count ≤ i → cost_at costs i n ≡ None
    past_count i n far =
        let long = places_long row_by 0 count in
        ap (λ (o : Option (List (Option Cost))). option_flatten (slice_get (unwrap_or o []) n)) (slice_get_past costs i (omega (arith, long, far)))

    has_places : HasPlaces g tree costs
    has_places = record { nodes = places_long row_by 0 count; nonterminals = wide }
      where
        wide : (i : ℕ) (row : List (Option Cost)) → slice_get costs i ≡ Some row → length row ≡ width
        wide i row is =
            let lt = slice_get_within costs i row is in
            let long = places_long row_by 0 count in
            let same : row_by i ≡ row = some_same (sym (row_is i (omega (arith, lt, long))) ∙ is) in
            subst (λ (r : List (Option Cost)). length r ≡ width) same (places_long (cost_by i) 0 width)

    best_costs : AreBestCosts g tree costs
    best_costs i n s root = go (below_or n width)
      where
        inside : i < count
        inside = within tree.nodes i s root

        same : node_tree i (below_or i count) ≡ s
        same = tree_is i (below_or i count) s root

        go : (n < width) ⊎ (width ≤ n) → IsBestCost g n s (cost_at costs i n)
        go (inl lt) = subst (IsBestCost g n s) (sym (cost_is i n inside lt)) (subst (λ x. IsBestCost g n x (cost_by i n)) same (best_of n (node_tree i (below_or i count))).1)
        go (inr far) = subst (IsBestCost g n s) (sym (past_width i n inside far)) (no_rule n s far)

    small_costs : AreSmallCosts costs
    small_costs i n c is = go (below_or i count) (below_or n width)
      where
        go : (i < count) ⊎ (count ≤ i) → (n < width) ⊎ (width ≤ n) → IsSmall (most_nodes * most_nonterminals * greatest_cost) c
        go (inr far) y = absurd (some_none (sym is ∙ past_count i n far))
        go (inl lt) (inr far) = absurd (some_none (sym is ∙ past_width i n lt far))
        go (inl lt) (inl l) =
            let here = node_tree i (below_or i count) in
            small_cost n here (cost_by i n) c (tree_few i (below_or i count)) (best_of n here).1 (sym (cost_is i n lt l) ∙ is)

    answer : (o : Option Item) → SymbolMeans g g.start t o → (a : Option Cover) × IsAnswer g t a
    answer None none = (None, none)
    answer (Some item) b = (Some (record { cost = cost g b.best; rules = list b.best }), record { best = b.best; is_best = b.is_best; cost_is = refl; rules_are = refl })

    certificate_by : (a : Option Cover) → IsAnswer g t a → (c : TreeCertificate) × IsCertified g tree c
    certificate_by a is =
        let rules : Option (List ℕ) = option_map (λ (cover : Cover). cover.rules) a in (
          record { costs = costs; rules = rules },
          record {
            places = has_places;
            costs = best_costs;
            rules = λ s spells. best_list g s a rules (subst (λ x. IsAnswer g x a) (plain_one tree t s spelled spells) is) refl;
            printable = printable g t costs a rules lawful.within small_costs is refl;
          },
        )

    certificate : (c : TreeCertificate) × IsCertified g tree c
    certificate =
        let items = exist g t lawful accepted in
        let a = answer (item_at (items.1).absolute g.start) ((items.1).symbols g.start (lawful.within).start) in
        certificate_by a.0 a.1

  certificates_exist : (trees : List Tree) → AreValid g trees → (cs : List TreeCertificate) × AreCertified g trees cs
  certificates_exist [] valid = ([], tt)
  certificates_exist (t ∷ trees) valid =
      let v = valid_head g t trees valid in
      let one = certificate t v.plain v.postorder v.small in
      let others = certificates_exist trees (valid_tail g t trees valid) in
      (one.0 ∷ others.0, (one.1, others.1))

  pub certified_parts : HasParts g (AreCertifiedBehind g)
  certified_parts = record {
    none = record { are_trees = All-nil IsTree; certified = record { certificates = []; certified = tt; text_is = refl; covered_is = refl } };
    joined = certified_joined g;
    some = λ before trees valid.
        let cs = certificates_exist trees valid in (
          list_all has_cover cs.0,
          certificates_text (before + 1) cs.0,
          record { are_trees = are_trees g trees valid; certified = record { certificates = cs.0; certified = cs.1; text_is = refl; covered_is = refl } },
        );
  }
