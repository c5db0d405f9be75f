-- A text has one first fault, or spells a forest.
use Rattle.std.proofs.Common.{◌≡◌, ℕ, ◌+◌, ◌≤◌, ◌<◌, ◌⊎◌, inl, inr, List, [], ◌∷◌, ◌++◌, Some, refl, ap, sym, ◌∙◌, subst, arith, length}
use Rattle.sel_grammar.specs.declared.grammar.Grammar.{Grammar}
use Rattle.sel_forest.specs.declared.forest.Tree.{Tree}
use Rattle.sel_forest.specs.declared.refusal.ForestFault.{ForestFault}
use Rattle.sel_forest.specs.Limits.{most_trees}
use Rattle.sel_forest.specs.Tokens.{place}
use Rattle.sel_forest.specs.LineFaults.{HasFault, stray, wrong, HasFirstFault}
use Rattle.sel_forest.specs.ForestText.{LinesSpell, no_lines, blank_line, tree_line}
use Rattle.sel_forest.specs.Laws.{ForestFaultIsOne, NotForestAndFault}
use Rattle.sel_forest.proofs.OneForest.{lines_once, not_blank}
use Rattle.sel_forest.proofs.Faultless.{tree_faultless, blank_faultless}

-- A line has one first fault.
one_kind : (g : Grammar) (trees : ℕ) (line : List ℕ) (n k j : ℕ) → HasFault g trees line n k → HasFault g trees line n j → k ≡ j
one_kind g trees line n _ _ (stray h) (stray h') = refl
one_kind g trees line n _ j (stray h) (wrong _ goes e) = absurd (h goes)
one_kind g trees line n k _ (wrong _ goes e) (stray h) = absurd (h goes)
one_kind g trees line n k j (wrong _ goes e) (wrong _ goes' e') = let q : Some k ≡ Some j = sym e ∙ e' in cc

pub one_first : (g : Grammar) (trees : ℕ) (line : List ℕ) (k j at at' : ℕ) → HasFirstFault g trees line k at → HasFirstFault g trees line j at' → (k ≡ j) × (at ≡ at')
one_first g trees line k j at at' f h = go (order f.n h.n)
  where
    order : (x y : ℕ) → (x < y) ⊎ ((y < x) ⊎ (x ≡ y))
    order x y = grind arith

    go : (f.n < h.n) ⊎ ((h.n < f.n) ⊎ (f.n ≡ h.n)) → (k ≡ j) × (at ≡ at')
    go (inl lt) = absurd (h.before f.n k lt f.here)
    go (inr (inl lt)) = absurd (f.before h.n j lt h.here)
    go (inr (inr e)) = (
      one_kind g trees line h.n k j (subst (λ n. HasFault g trees line n k) e f.here) h.here,
      f.at_is ∙ ap (place line) e ∙ sym h.at_is,
    )

-- No line of a spelled text has a first fault.
no_fault_inside : (g : Grammar) (m : ℕ) (before : List (List ℕ)) (line : List ℕ) (others : List (List ℕ)) (trees all : List Tree) (kind at : ℕ) → LinesSpell g (before ++ (line ∷ others)) all → m + length all ≤ most_trees
    → LinesSpell g before trees → HasFirstFault g (m + length trees) line kind at → ⊥
no_fault_inside g m [] line others _ all kind at (blank_line _ _ _ h r) few no_lines f = blank_faultless g (m + 0) line kind at h f
no_fault_inside g m [] line others _ _ kind at (tree_line _ _ made rest h r) few no_lines f = tree_faultless g (m + 0) line made kind at h (omega arith) f
no_fault_inside g m (first ∷ before) line others trees all kind at (blank_line _ _ _ h r) few (blank_line _ _ _ h' r') f = no_fault_inside g m before line others trees all kind at r few r' f
no_fault_inside g m (first ∷ before) line others _ all kind at (blank_line _ _ _ h r) few (tree_line _ _ made rest h' r') f = not_blank g first made h' h
no_fault_inside g m (first ∷ before) line others trees _ kind at (tree_line _ _ made rest h r) few (blank_line _ _ _ h' r') f = not_blank g first made h h'
no_fault_inside g m (first ∷ before) line others _ _ kind at (tree_line _ _ made rest h r) few (tree_line _ _ made' rest' h' r') f =
    no_fault_inside g (m + 1) before line others rest' rest kind at r (omega arith) r'
    (let e : m + length (made' ∷ rest') ≡ (m + 1) + length rest' = omega arith in subst (λ n. HasFirstFault g n line kind at) e f)

no_fault_in : (g : Grammar) (before : List (List ℕ)) (line : List ℕ) (others : List (List ℕ)) (trees all : List Tree) (kind at : ℕ) → LinesSpell g (before ++ (line ∷ others)) all → length all ≤ most_trees
    → LinesSpell g before trees → HasFirstFault g (length trees) line kind at → ⊥
no_fault_in g before line others trees all kind at s few r f =
    no_fault_inside g 0 before line others trees all kind at s (omega arith) r (let e : length trees ≡ 0 + length trees = omega arith in subst (λ n. HasFirstFault g n line kind at) e f)

pub not_forest_and_fault : NotForestAndFault
not_forest_and_fault g bytes forest fault s f =
    no_fault_in g f.before f.line f.others f.trees forest.trees fault.kind f.here.at (subst (λ x. LinesSpell g x forest.trees) f.lines s.lines) s.few f.spelled f.here.first_fault

-- Two ways to part a list.
abbrev Parts : List (List ℕ) → List (List ℕ) → List ℕ → List ℕ → Type 0
Parts xs ys x y = ((xs ≡ ys) × (x ≡ y)) ⊎ (((mid : List (List ℕ)) × (ys ≡ xs ++ (x ∷ mid))) ⊎ ((mid : List (List ℕ)) × (xs ≡ ys ++ (y ∷ mid))))

parts : (xs ys us vs : List (List ℕ)) (x y : List ℕ) → xs ++ (x ∷ us) ≡ ys ++ (y ∷ vs) → Parts xs ys x y
parts [] [] us vs x y e = let q : x ≡ y = cc in inl (refl, q)
parts [] (z ∷ ys) us vs x y e = let q : z ≡ x = cc in inr (inl (ys, ap (λ w. w ∷ ys) q))
parts (z ∷ xs) [] us vs x y e = let q : z ≡ y = cc in inr (inr (xs, ap (λ w. w ∷ xs) q))
parts (z ∷ xs) (w ∷ ys) us vs x y e =
    let q : z ≡ w = cc in
    let r : xs ++ (x ∷ us) ≡ ys ++ (y ∷ vs) = cc in
    more q (parts xs ys us vs x y r)
  where
    more : z ≡ w → Parts xs ys x y → Parts (z ∷ xs) (w ∷ ys) x y
    more q (inl h) = inl (ap (λ v. v ∷ xs) q ∙ ap (λ v. w ∷ v) h.0, h.1)
    more q (inr (inl h)) = inr (inl (h.0, ap (λ v. v ∷ ys) (sym q) ∙ ap (λ v. z ∷ v) h.1))
    more q (inr (inr h)) = inr (inr (h.0, ap (λ v. v ∷ xs) q ∙ ap (λ v. w ∷ v) h.1))

same_fault : (f h : ForestFault) → f.kind ≡ h.kind → f.line ≡ h.line → f.column ≡ h.column → f ≡ h
same_fault f h k l c = λ i. record { kind = k i; line = l i; column = c i }

pub fault_one : ForestFaultIsOne
fault_one g bytes f h x y = go (parts x.before y.before x.others y.others x.line y.line (sym x.lines ∙ y.lines))
  where
    go : Parts x.before y.before x.line y.line → f ≡ h
    go (inl e) =
        let trees : x.trees ≡ y.trees = lines_once g y.before x.trees y.trees (subst (λ b. LinesSpell g b x.trees) e.0 x.spelled) y.spelled in
        let first = subst (λ t. HasFirstFault g (length t) y.line f.kind x.here.at) trees (subst (λ l. HasFirstFault g (length x.trees) l f.kind x.here.at) e.1 x.here.first_fault) in
        let same = one_first g (length y.trees) y.line f.kind h.kind x.here.at y.here.at first y.here.first_fault in
        same_fault f h same.0 (x.here.line_is ∙ ap (λ b. length b + 1) e.0 ∙ sym y.here.line_is) (x.here.column_is ∙ ap (λ n. n + 1) same.1 ∙ sym y.here.column_is)
    go (inr (inl e)) =
        absurd (no_fault_in g x.before x.line e.0 x.trees y.trees f.kind x.here.at (subst (λ b. LinesSpell g b y.trees) e.1 y.spelled) y.few x.spelled x.here.first_fault)
    go (inr (inr e)) =
        absurd (no_fault_in g y.before y.line e.0 y.trees x.trees h.kind y.here.at (subst (λ b. LinesSpell g b x.trees) e.1 x.spelled) x.few y.spelled y.here.first_fault)
