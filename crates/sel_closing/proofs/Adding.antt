-- The nodes of two lists of trees that aren't tabled add up.
use Rattle.std.proofs.Common.{◌≡◌, ◌⊎◌, inl, inr, ℕ, zero, suc, ◌+◌, ◌-◌, ◌<◌, ◌^◌, Some, List, [], ◌∷◌, ◌++◌, length, map, refl, sym, ap, subst, ◌∙◌, arith}
use Rattle.std.specs.Prelude.{slice_get, min}
use Rattle.std.proofs.lemmas.List.{length-map, length-append}
use Rattle.std.proofs.lemmas.Option.{slice_get_within}
use Rattle.sel_grammar.specs.declared.grammar.Grammar.{Grammar}
use Rattle.sel_forest.specs.declared.forest.Tree.{Tree}
use Rattle.sel_count.specs.Counts.{AllDiffer, CountIs}
use Rattle.sel_count.proofs.Counting.{one_count}
use Rattle.sel_count.proofs.Elements.{IsOneOf, is_one_of, contains}
use Rattle.sel_closing.specs.Laws.{UntabledAddUp, StoppedCountsAddUp}
use Rattle.sel_closing.specs.Untabled.{IsUntabledAt, IsUntabledPlace}
use Rattle.sel_closing.proofs.Keeping.{in_append}
use Rattle.sel_closing.proofs.Members.{in_map, out_map}
use Rattle.sel_closing.proofs.PlainNodes.{map_differ}

append_left : {A : Type 0} (x : A) (xs ys : List A) → IsOneOf x xs → IsOneOf x (xs ++ ys)
append_left x [] ys h = absurd h
append_left x (z ∷ xs) ys (inl e) = inl e
append_left x (z ∷ xs) ys (inr m) = inr (append_left x xs ys m)

append_right : {A : Type 0} (x : A) (xs ys : List A) → IsOneOf x ys → IsOneOf x (xs ++ ys)
append_right x [] ys h = h
append_right x (z ∷ xs) ys h = inr (append_right x xs ys h)

append_differ : {A : Type 0} (xs ys : List A) → AllDiffer xs → AllDiffer ys → ((x : A) → IsOneOf x xs → IsOneOf x ys → ⊥) → AllDiffer (xs ++ ys)
append_differ [] ys d e apart = e
append_differ {A} (x ∷ xs) ys d e apart = (
  (λ c. none (in_append x xs ys (is_one_of (xs ++ ys) x c))),
  append_differ xs ys d.1 e (λ y m. apart y (inr m)),
)
  where
    none : IsOneOf x xs ⊎ IsOneOf x ys → ⊥
    none (inl m) = d.0 (contains xs x m)
    none (inr m) = apart x (inl refl) m

get_left : (xs ys : List Tree) (j : ℕ) (t : Tree) → slice_get xs j ≡ Some t → slice_get (xs ++ ys) j ≡ Some t
get_left [] ys j t get = let lt = slice_get_within [] j t get in absurd (omega arith)
get_left (x ∷ xs) ys zero t get = get
get_left (x ∷ xs) ys (suc j) t get = get_left xs ys j t get

get_right : (xs ys : List Tree) (j i : ℕ) (t : Tree) → i ≡ length xs + j → slice_get ys j ≡ Some t → slice_get (xs ++ ys) i ≡ Some t
get_right [] ys j i t e get = let same : i ≡ j = omega arith in ap (slice_get ys) same ∙ get
get_right (x ∷ xs) ys j zero t e get = absurd (omega arith)
get_right (x ∷ xs) ys j (suc i) t e get = get_right xs ys j i t (omega arith) get

get_either : (xs ys : List Tree) (i : ℕ) (t : Tree) → slice_get (xs ++ ys) i ≡ Some t → (slice_get xs i ≡ Some t) ⊎ ((j : ℕ) × (i ≡ length xs + j) × (slice_get ys j ≡ Some t))
get_either [] ys i t get = inr (i, omega arith, get)
get_either (x ∷ xs) ys zero t get = inl get
get_either (x ∷ xs) ys (suc i) t get = go (get_either xs ys i t get)
  where
    go : (slice_get xs i ≡ Some t) ⊎ ((j : ℕ) × (i ≡ length xs + j) × (slice_get ys j ≡ Some t)) → (slice_get (x ∷ xs) (suc i) ≡ Some t) ⊎ ((j : ℕ) × (suc i ≡ length (x ∷ xs) + j) × (slice_get ys j ≡ Some t))
    go (inl a) = inl a
    go (inr (j, e, b)) = inr (j, omega arith, b)

-- a place of a tree behind n others
abbrev behind : ℕ → ℕ × ℕ → ℕ × ℕ
behind n p = (n + p.0, p.1)

no_trees : (g : Grammar) → CountIs (IsUntabledPlace g []) 0
no_trees g = record {
  list = [];
  differ = tt;
  exactly = λ p. (λ c. absurd (is_one_of [] p c), λ w. (let lt = slice_get_within [] p.0 w.0 w.1 in absurd (omega arith)));
  count = refl;
}

both : (g : Grammar) (xs ys : List Tree) (m n : ℕ) → CountIs (IsUntabledPlace g xs) m → CountIs (IsUntabledPlace g ys) n → CountIs (IsUntabledPlace g (xs ++ ys)) (m + n)
both g xs ys m n c d = record {
  list = c.list ++ map (behind (length xs)) d.list;
  differ = append_differ c.list (map (behind (length xs)) d.list) c.differ (map_differ (behind (length xs)) d.list one d.differ) apart;
  exactly = λ p. (
    λ h. sound p (in_append p c.list (map (behind (length xs)) d.list) (is_one_of (c.list ++ map (behind (length xs)) d.list) p h)),
    λ w. contains (c.list ++ map (behind (length xs)) d.list) p (whole p w.0 w.2 (get_either xs ys p.0 w.0 w.1)),
  );
  count = (
      let a = length-append c.list (map (behind (length xs)) d.list) in
      let b = length-map d.list (behind (length xs)) in
      let e = c.count in
      let f = d.count in
      omega arith);
}
  where
    one : (p q : ℕ × ℕ) → behind (length xs) p ≡ behind (length xs) q → p ≡ q
    one p q e =
        let a : length xs + p.0 ≡ length xs + q.0 = ap (λ (r : ℕ × ℕ). r.0) e in
        let b : p.0 ≡ q.0 = omega arith in
        let s : p.1 ≡ q.1 = ap (λ (r : ℕ × ℕ). r.1) e in
        λ i. (b i, s i)

    apart : (p : ℕ × ℕ) → IsOneOf p c.list → IsOneOf p (map (behind (length xs)) d.list) → ⊥
    apart p h k =
        let u = (c.exactly p).0 (contains c.list p h) in
        let lt = slice_get_within xs p.0 u.0 u.1 in
        let r = out_map (behind (length xs)) d.list p k in
        let e : length xs + (r.0).0 ≡ p.0 = ap (λ (q : ℕ × ℕ). q.0) r.2 in
        absurd (omega arith)

    sound : (p : ℕ × ℕ) → IsOneOf p c.list ⊎ IsOneOf p (map (behind (length xs)) d.list) → IsUntabledPlace g (xs ++ ys) p
    sound p (inl h) = let u = (c.exactly p).0 (contains c.list p h) in (u.0, get_left xs ys p.0 u.0 u.1, u.2)
    sound p (inr h) =
        let r = out_map (behind (length xs)) d.list p h in
        let u = (d.exactly r.0).0 (contains d.list r.0 r.1) in
        subst (IsUntabledPlace g (xs ++ ys)) r.2 (u.0, get_right xs ys (r.0).0 (length xs + (r.0).0) u.0 refl u.1, u.2)

    whole : (p : ℕ × ℕ) (t : Tree) → IsUntabledAt g t p.1 → (slice_get xs p.0 ≡ Some t) ⊎ ((j : ℕ) × (p.0 ≡ length xs + j) × (slice_get ys j ≡ Some t)) → IsOneOf p (c.list ++ map (behind (length xs)) d.list)
    whole p t un (inl get) = append_left p c.list (map (behind (length xs)) d.list) (is_one_of c.list p ((c.exactly p).1 (t, get, un)))
    whole p t un (inr (j, e, get)) =
        let there = in_map (behind (length xs)) d.list (j, p.1) (is_one_of d.list (j, p.1) ((d.exactly (j, p.1)).1 (t, get, un))) in
        append_right p c.list (map (behind (length xs)) d.list) (subst (λ k. IsOneOf (k, p.1) (map (behind (length xs)) d.list)) (sym e) there)

pub untabled_add_up : UntabledAddUp
untabled_add_up g = (no_trees g, both g, λ trees m n. one_count (IsUntabledPlace g trees) m n)

stopped : (m n a b : ℕ) → a ≡ min m (2 ^ 64 - 1) → b ≡ min n (2 ^ 64 - 1) → min (a + b) (2 ^ 64 - 1) ≡ min (m + n) (2 ^ 64 - 1)
stopped m n a b e f = grind arith

not_stopped : (n : ℕ) → n < 2 ^ 64 → n ≡ min n (2 ^ 64 - 1)
not_stopped n h = grind arith

pub stopped_counts_add_up : StoppedCountsAddUp
stopped_counts_add_up g = (
  (0, no_trees g, refl),
  λ trees n lt c. (n, c, not_stopped n lt),
  λ xs ys a b c d. (c.0 + d.0, both g xs ys c.0 d.0 c.1 d.1, stopped c.0 d.0 a b c.2 d.2),
)
