-- The nodes that have plain labels.
use Rattle.std.proofs.Common.{◌≡◌, inl, inr, ℕ, zero, suc, ◌+◌, cond, false, Some, List, [], ◌∷◌, length, map, refl, sym, ap, subst, ◌∙◌, arith}
use Rattle.std.specs.Prelude.{slice_get, count_by}
use Rattle.std.proofs.lemmas.List.{length-map}
use Rattle.std.proofs.lemmas.List.Sums.{sum_by-cons}
use Rattle.std.proofs.lemmas.Option.{slice_get_within, same_Some}
use Rattle.sel_grammar.specs.declared.grammar.Grammar.{Grammar}
use Rattle.sel_grammar.specs.PlainTrees.{PlainTree}
use Rattle.sel_forest.specs.declared.forest.Tree.{Tree}
use Rattle.sel_forest.specs.Places.{IsRootAt}
use Rattle.sel_forest.specs.Valid.{IsValidTree}
use Rattle.sel_items.specs.declared.items.Items.{Items}
use Rattle.sel_items.specs.declared.label.Label.{Label}
use Rattle.sel_items.specs.declared.label.Label.TheVariants.{Numbered, Plain}
use Rattle.sel_items.specs.Labels.{IsPlain, IsNumbered, is_plain}
use Rattle.sel_items.specs.Tabled.{IsTabled}
use Rattle.sel_items.specs.Words.{FitsWords}
use Rattle.sel_label.specs.Labelling.{LabelAt, AreLabelled, NumberedAreHeld}
use Rattle.sel_label.proofs.NodeTrees.{valid_node}
use Rattle.sel_label.proofs.Tabled.{numbered_tabled}
use Rattle.sel_rows.specs.declared.pass.Pass.{Pass}
use Rattle.sel_rows.specs.Meanings.{IsHeld}
use Rattle.sel_rows.specs.Told.{pass_view, told_of_pass}
use Rattle.sel_count.specs.Counts.{AllDiffer, CountIs}
use Rattle.sel_count.proofs.Elements.{IsOneOf, is_one_of, contains}
use Rattle.sel_closing.specs.Laws.{PlainAreUntabled, PlainCountsUntabled}
use Rattle.sel_closing.specs.Untabled.{IsUntabledAt, IsUntabledPlace}
use Rattle.sel_closing.proofs.Members.{in_map, out_map}

clash : (l : Label) → IsPlain l → IsNumbered l → ⊥
clash (Numbered n) p m = p
clash (Plain x) p m = m

not_numbered : (l : Label) → (IsNumbered l → ⊥) → IsPlain l
not_numbered (Numbered n) h = absurd (h tt)
not_numbered (Plain x) h = tt

held_fit : (s : Pass) (i : Items) → IsHeld (pass_view s) i → FitsWords i
held_fit s i h = (h.0.1).fits

pub plain_are_untabled : PlainAreUntabled
plain_are_untabled g tree s labels i u l labelled unused root at = (
  λ plain tabled. clash l plain (labelled.tabled unused i u l root tabled at),
  λ none. not_numbered l (λ n. none (numbered_tabled g tree.nodes labels i u l labelled.long fitting root at n)),
)
  where
    fitting : NumberedAreHeld g FitsWords tree.nodes labels
    fitting j v m root at n = let x = labelled.numbered j v m root at n in (((x.0).0, (x.0).1, held_fit s (x.0).0 (x.0).2), x.1)

-- a place in front of others, where its label is plain
abbrev plain_place : Label → ℕ → List ℕ → List ℕ
plain_place (Numbered n) k rest = rest
plain_place (Plain p) k rest = k ∷ rest

-- the places of plain labels, the first label's being k
abbrev plain_places : ℕ → List Label → List ℕ
plain_places k [] = []
plain_places k (l ∷ ls) = plain_place l k (plain_places (suc k) ls)

long : (k : ℕ) (ls : List Label) → length (plain_places k ls) ≡ count_by is_plain ls
long k [] = refl
long k (Numbered n ∷ ls) =
    let a : count_by is_plain (Numbered n ∷ ls) ≡ 0 + count_by is_plain ls = sum_by-cons (λ l. cond (is_plain l) 1 0) (Numbered n) ls in
    let b = long (suc k) ls in
    omega arith
long k (Plain p ∷ ls) =
    let a : count_by is_plain (Plain p ∷ ls) ≡ 1 + count_by is_plain ls = sum_by-cons (λ l. cond (is_plain l) 1 0) (Plain p) ls in
    let b = long (suc k) ls in
    omega arith

-- a place is that of a plain label
record IsPlainAt (k : ℕ) (ls : List Label) (i : ℕ) : Type 0 where
  place : ℕ
  is : i ≡ k + place
  label : Label
  at : slice_get ls place ≡ Some label
  plain : IsPlain label

plain_at : (k : ℕ) (ls : List Label) (i : ℕ) → IsOneOf i (plain_places k ls) → IsPlainAt k ls i
plain_at k [] i h = absurd h
plain_at k (l ∷ ls) i h = go (λ m. plain_at (suc k) ls i m) l h
  where
    later : (l : Label) → IsPlainAt (suc k) ls i → IsPlainAt k (l ∷ ls) i
    later l w = record { place = suc w.place; is = (let e = w.is in omega arith); label = w.label; at = w.at; plain = w.plain }

    go : (IsOneOf i (plain_places (suc k) ls) → IsPlainAt (suc k) ls i) → (l : Label) → IsOneOf i (plain_place l k (plain_places (suc k) ls)) → IsPlainAt k (l ∷ ls) i
    go more (Numbered n) m = later (Numbered n) (more m)
    go more (Plain p) (inl e) = record { place = 0; is = omega arith; label = Plain p; at = refl; plain = tt }
    go more (Plain p) (inr m) = later (Plain p) (more m)

at_plain : (k : ℕ) (ls : List Label) (j i : ℕ) (l : Label) → i ≡ k + j → slice_get ls j ≡ Some l → IsPlain l → IsOneOf i (plain_places k ls)
at_plain k [] j i l e at plain = let lt = slice_get_within [] j l at in absurd (omega arith)
at_plain k (m ∷ ls) zero i l e at plain = go m (subst IsPlain (sym (same_Some _ _ at)) plain)
  where
    go : (m : Label) → IsPlain m → IsOneOf i (plain_place m k (plain_places (suc k) ls))
    go (Numbered n) p = absurd p
    go (Plain x) p = inl (omega arith)
at_plain k (m ∷ ls) (suc j) i l e at plain = go m (at_plain (suc k) ls j i l (omega arith) at plain)
  where
    go : (m : Label) → IsOneOf i (plain_places (suc k) ls) → IsOneOf i (plain_place m k (plain_places (suc k) ls))
    go (Numbered n) h = h
    go (Plain x) h = inr h

places_differ : (k : ℕ) (ls : List Label) → AllDiffer (plain_places k ls)
places_differ k [] = tt
places_differ k (l ∷ ls) = go l (places_differ (suc k) ls)
  where
    later : IsPlainAt (suc k) ls k → ⊥
    later w = let e = w.is in absurd (omega arith)

    go : (l : Label) → AllDiffer (plain_places (suc k) ls) → AllDiffer (plain_place l k (plain_places (suc k) ls))
    go (Numbered n) h = h
    go (Plain p) h = ((λ c. later (plain_at (suc k) ls k (is_one_of (plain_places (suc k) ls) k c))), h)

-- the plain labels are as many as the nodes that aren't tabled
plain_count : (g : Grammar) (tree : Tree) (s : Pass) (labels : List Label) → IsValidTree g tree → AreLabelled g tree.nodes (told_of_pass s) labels → s.used_up ≡ false → CountIs (IsUntabledAt g tree) (count_by is_plain labels)
plain_count g tree s labels valid labelled unused = record {
  list = plain_places 0 labels;
  differ = places_differ 0 labels;
  exactly = λ i. (λ c. sound i (plain_at 0 labels i (is_one_of (plain_places 0 labels) i c)), λ w. contains (plain_places 0 labels) i (whole i w.0 w.1 w.2));
  count = long 0 labels;
}
  where
    sound : (i : ℕ) → IsPlainAt 0 labels i → IsUntabledAt g tree i
    sound i w =
        let same : w.place ≡ i = (let e = w.is in omega arith) in
        let at : LabelAt labels i w.label = subst (λ j. LabelAt labels j w.label) same w.at in
        let lt = slice_get_within labels i w.label at in
        let l = labelled.long in
        let n = valid_node g tree i valid (omega arith) in
        (n.0, n.1, (plain_are_untabled g tree s labels i n.0 w.label labelled unused n.1 at).0 w.plain)

    whole : (i : ℕ) (u : PlainTree) → IsRootAt tree.nodes i u → (IsTabled g u → ⊥) → IsOneOf i (plain_places 0 labels)
    whole i u root none =
        let m = labelled.mean i u root in
        at_plain 0 labels i i m.0 (omega arith) m.1 ((plain_are_untabled g tree s labels i u m.0 labelled unused root m.1).1 none)

abbrev in_tree : ℕ → ℕ × ℕ
in_tree i = (0, i)

pub map_differ : {A B : Type 0} (f : A → B) (xs : List A) → ((x y : A) → f x ≡ f y → x ≡ y) → AllDiffer xs → AllDiffer (map f xs)
map_differ f [] one d = tt
map_differ f (x ∷ xs) one d = (
  (λ c. none (out_map f xs (f x) (is_one_of (map f xs) (f x) c))),
  map_differ f xs one d.1,
)
  where
    none : (y : _) × IsOneOf y xs × (f y ≡ f x) → ⊥
    none (y, m, e) = d.0 (contains xs x (subst (λ z. IsOneOf z xs) (one y x e) m))

one_tree : (g : Grammar) (tree : Tree) (n : ℕ) → CountIs (IsUntabledAt g tree) n → CountIs (IsUntabledPlace g (tree ∷ [])) n
one_tree g tree n c = record {
  list = map in_tree c.list;
  differ = map_differ in_tree c.list (λ x y e. ap (λ (p : ℕ × ℕ). p.1) e) c.differ;
  exactly = λ p. (λ h. sound p (out_map in_tree c.list p (is_one_of (map in_tree c.list) p h)), λ w. contains (map in_tree c.list) p (whole p.0 p.1 w.0 w.1 w.2));
  count = length-map c.list in_tree ∙ c.count;
}
  where
    sound : (p : ℕ × ℕ) → (i : ℕ) × IsOneOf i c.list × ((0, i) ≡ p) → IsUntabledPlace g (tree ∷ []) p
    sound p (i, m, e) = subst (IsUntabledPlace g (tree ∷ [])) e (tree, refl, (c.exactly i).0 (contains c.list i m))

    whole : (j i : ℕ) (t : Tree) → slice_get (tree ∷ []) j ≡ Some t → IsUntabledAt g t i → IsOneOf (j, i) (map in_tree c.list)
    whole zero i t get un = in_map in_tree c.list i (is_one_of c.list i ((c.exactly i).1 (subst (λ (s : Tree). IsUntabledAt g s i) (sym (same_Some _ _ get)) un)))
    whole (suc j) i t get un = let lt = slice_get_within [] j t get in absurd (omega arith)

pub plain_counts_untabled : PlainCountsUntabled
plain_counts_untabled g tree s n valid plain unused =
    one_tree g tree n (subst (CountIs (IsUntabledAt g tree)) (sym plain.count) (plain_count g tree s plain.labels valid plain.labelled unused))
