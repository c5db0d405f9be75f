-- Trees are counted one by one, in whatever order.
use Rattle.std.proofs.Common.{◌≡◌, inl, inr, ℕ, zero, suc, ◌<◌, ◌≤◌, Option, Some, None, List, [], ◌∷◌, length, map, refl, sym, ap, subst, ◌∙◌, arith}
use Rattle.std.specs.Prelude.{slice_get}
use Rattle.std.proofs.lemmas.List.{length-map}
use Rattle.std.proofs.lemmas.List.Sums.{count_by-le-length}
use Rattle.std.proofs.lemmas.Option.{slice_get_within, same_Some}
use Rattle.sel_grammar.specs.declared.grammar.Grammar.{Grammar}
use Rattle.sel_forest.specs.declared.forest.Tree.{Tree}
use Rattle.sel_items.specs.Labels.{is_plain}
use Rattle.sel_label.proofs.NodeTrees.{valid_few}
use Rattle.sel_count.specs.Counts.{AllDiffer, ListsExactly, CountIs}
use Rattle.sel_count.proofs.Elements.{IsOneOf, is_one_of, contains}
use Rattle.sel_closing.specs.Laws.{PlainAddsUp, CountsInAnyOrder}
use Rattle.sel_closing.specs.Untabled.{IsUntabledAt, IsUntabledPlace, AreTreesAt}
use Rattle.sel_closing.proofs.Adding.{stopped_counts_add_up}
use Rattle.sel_closing.proofs.Members.{in_map, out_map}
use Rattle.sel_closing.proofs.PlainNodes.{plain_counts_untabled}

pub plain_adds_up : PlainAddsUp
plain_adds_up g trees tree s count n valid plain unused so_far =
    let few : n ≤ length plain.labels = (let e = plain.count in let l = count_by-le-length is_plain plain.labels in omega arith) in
    let long = (plain.labelled).long in
    let most = valid_few g tree valid in
    let adds = stopped_counts_add_up g in
    adds.2 trees (tree ∷ []) count n so_far (adds.1 (tree ∷ []) n (omega arith) (plain_counts_untabled g tree s n valid plain unused))

tree_at : (trees : List Tree) (ns : List ℕ) (ts : List Tree) (k : ℕ) (t : Tree) → AreTreesAt trees ns ts → slice_get ts k ≡ Some t → (n : ℕ) × (slice_get ns k ≡ Some n) × (slice_get trees n ≡ Some t)
tree_at trees [] [] k t h e = let lt = slice_get_within [] k t e in absurd (omega arith)
tree_at trees [] (u ∷ us) k t h e = absurd h
tree_at trees (n ∷ ns) [] k t h e = absurd h
tree_at trees (n ∷ ns) (u ∷ us) zero t h e = (n, refl, h.0 ∙ e)
tree_at trees (n ∷ ns) (u ∷ us) (suc k) t h e = tree_at trees ns us k t h.1 e

tree_of : (trees : List Tree) (ns : List ℕ) (ts : List Tree) (k n : ℕ) → AreTreesAt trees ns ts → slice_get ns k ≡ Some n → (t : Tree) × (slice_get ts k ≡ Some t) × (slice_get trees n ≡ Some t)
tree_of trees [] [] k n h e = let lt = slice_get_within [] k n e in absurd (omega arith)
tree_of trees [] (u ∷ us) k n h e = absurd h
tree_of trees (m ∷ ns) [] k n h e = absurd h
tree_of trees (m ∷ ns) (u ∷ us) zero n h e = (u, refl, subst (λ x. slice_get trees x ≡ Some u) (same_Some m n e) h.0)
tree_of trees (m ∷ ns) (u ∷ us) (suc k) n h e = tree_of trees ns us k n h.1 e

get_one : (ns : List ℕ) (k n : ℕ) → slice_get ns k ≡ Some n → IsOneOf n ns
get_one [] k n e = let lt = slice_get_within [] k n e in absurd (omega arith)
get_one (m ∷ ns) zero n e = inl (same_Some m n e)
get_one (m ∷ ns) (suc k) n e = inr (get_one ns k n e)

one_got : (ns : List ℕ) (n : ℕ) → IsOneOf n ns → (k : ℕ) × (slice_get ns k ≡ Some n)
one_got [] n h = absurd h
one_got (m ∷ ns) n (inl e) = (0, ap Some e)
one_got (m ∷ ns) n (inr i) = let r = one_got ns n i in (suc r.0, r.1)

-- a number stands at one place where all differ
one_place : (ns : List ℕ) (j k n : ℕ) → AllDiffer ns → slice_get ns j ≡ Some n → slice_get ns k ≡ Some n → j ≡ k
one_place [] j k n d e f = let lt = slice_get_within [] j n e in absurd (omega arith)
one_place (m ∷ ns) zero zero n d e f = refl
one_place (m ∷ ns) zero (suc k) n d e f = absurd (d.0 (contains ns m (subst (λ x. IsOneOf x ns) (sym (same_Some m n e)) (get_one ns k n f))))
one_place (m ∷ ns) (suc j) zero n d e f = absurd (d.0 (contains ns m (subst (λ x. IsOneOf x ns) (sym (same_Some m n f)) (get_one ns j n e))))
one_place (m ∷ ns) (suc j) (suc k) n d e f = ap suc (one_place ns j k n d.1 e f)

map_apart : {A B : Type 0} (f : A → B) (xs : List A) → ((x y : A) → IsOneOf x xs → IsOneOf y xs → f x ≡ f y → x ≡ y) → AllDiffer xs → AllDiffer (map f xs)
map_apart f [] one d = tt
map_apart f (x ∷ xs) one d = (
  (λ c. none (out_map f xs (f x) (is_one_of (map f xs) (f x) c))),
  map_apart f xs (λ y z i j. one y z (inr i) (inr j)) d.1,
)
  where
    none : (y : _) × IsOneOf y xs × (f y ≡ f x) → ⊥
    none (y, m, e) = d.0 (contains xs x (subst (λ z. IsOneOf z xs) (one y x (inr m) (inl refl) e) m))

abbrev number_or_none : Option ℕ → ℕ
number_or_none None = 0
number_or_none (Some n) = n

-- the place with the number of its tree
abbrev numbered : List ℕ → ℕ × ℕ → ℕ × ℕ
numbered ns p = (number_or_none (slice_get ns p.0), p.1)

module _ (g : Grammar) (trees drawn : List Tree) (ns : List ℕ) (d : AllDiffer ns) (all : ListsExactly (λ n. n < length trees) ns) (at : AreTreesAt trees ns drawn) (n : ℕ) (c : CountIs (IsUntabledPlace g drawn) n) where
  -- a place that was counted is that of a tree with a number
  at_number : (p : ℕ × ℕ) → IsOneOf p c.list → (m : ℕ) × (slice_get ns p.0 ≡ Some m) × IsUntabledPlace g trees (m, p.1)
  at_number p i =
      let u = (c.exactly p).0 (contains c.list p i) in
      let w = tree_at trees ns drawn p.0 u.0 at u.1 in
      (w.0, w.1, (u.0, w.2, u.2))

  apart : (p q : ℕ × ℕ) → IsOneOf p c.list → IsOneOf q c.list → numbered ns p ≡ numbered ns q → p ≡ q
  apart p q i j e =
      let a = at_number p i in
      let b = at_number q j in
      let same : a.0 ≡ b.0 = sym (ap number_or_none a.1) ∙ (ap (λ (r : ℕ × ℕ). r.0) e ∙ ap number_or_none b.1) in
      let first : p.0 ≡ q.0 = one_place ns p.0 q.0 b.0 d (a.1 ∙ ap Some same) b.1 in
      let second : p.1 ≡ q.1 = ap (λ (r : ℕ × ℕ). r.1) e in
      λ k. (first k, second k)

  sound : (p : ℕ × ℕ) → (q : ℕ × ℕ) × IsOneOf q c.list × (numbered ns q ≡ p) → IsUntabledPlace g trees p
  sound p (q, i, e) =
      let a = at_number q i in
      subst (IsUntabledPlace g trees) (ap (λ m. (m, q.1)) (sym (ap number_or_none a.1)) ∙ e) a.2

  whole : (j i : ℕ) (t : Tree) → slice_get trees j ≡ Some t → IsUntabledAt g t i → IsOneOf (j, i) (map (numbered ns) c.list)
  whole j i t get un =
      let k = one_got ns j (is_one_of ns j ((all j).1 (slice_get_within trees j t get))) in
      let w = tree_of trees ns drawn k.0 j at k.1 in
      let same : t ≡ w.0 = same_Some t w.0 (sym get ∙ w.2) in
      let there = is_one_of c.list (k.0, i) ((c.exactly (k.0, i)).1 (w.0, w.1, subst (λ (s : Tree). IsUntabledAt g s i) same un)) in
      subst (λ m. IsOneOf (m, i) (map (numbered ns) c.list)) (ap number_or_none k.1) (in_map (numbered ns) c.list (k.0, i) there)

  counted_all : CountIs (IsUntabledPlace g trees) n
  counted_all = record {
    list = map (numbered ns) c.list;
    differ = map_apart (numbered ns) c.list apart c.differ;
    exactly = λ p. (λ h. sound p (out_map (numbered ns) c.list p (is_one_of (map (numbered ns) c.list) p h)), λ w. contains (map (numbered ns) c.list) p (whole p.0 p.1 w.0 w.1 w.2));
    count = length-map c.list (numbered ns) ∙ c.count;
  }

pub counts_in_any_order : CountsInAnyOrder
counts_in_any_order g trees drawn ns count d all at c = (c.0, counted_all g trees drawn ns d all at c.0 c.1, c.2)
