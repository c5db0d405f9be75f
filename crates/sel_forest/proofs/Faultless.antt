-- Nothing is wrong with the tokens of a tree within the limits.
use Rattle.std.proofs.Common.{◌≡◌, ℕ, suc, zero, ◌+◌, ◌≤◌, ◌<◌, ◌==◌, ◌&&◌, ◌||◌, ◌^◌, ◌⊎◌, inl, inr, nat_le, nat_lt, Bool, true, false, List, [], ◌∷◌, ◌++◌, Option, Some, None, refl, ap, sym, ◌∙◌, subst, arith, length, append_assoc, slice_get, unwrap_or, if◌then◌else◌, pos, neg_ℤ}
use Rattle.std.proofs.lemmas.Int.{ints}
use Rattle.std.specs.Str.Parse.{digits_value}
use Rattle.sel_grammar.specs.declared.grammar.Attribute.{Attribute}
use Rattle.sel_grammar.specs.declared.grammar.Attribute.TheVariants as attribute
use Rattle.sel_grammar.specs.declared.grammar.Grammar.{Grammar}
use Rattle.sel_grammar.specs.declared.grammar.Operator.{Operator}
use Rattle.sel_grammar.specs.PlainTrees.{PlainTree, size}
use Rattle.sel_forest.specs.declared.forest.Tree.{Tree}
use Rattle.sel_forest.specs.Limits as limits
use Rattle.sel_forest.specs.Limits.{most_nodes, most_trees, greatest_depth}
use Rattle.sel_forest.specs.Valid.{depth, Takes, IsOperatorOf, IsAttribute, IsOver}
use Rattle.sel_forest.specs.Tokens.{Token, Open, Comma, Close, End, Spot, start, token_at, behind, first, after}
use Rattle.sel_forest.specs.Form.{IsLine, blank}
use Rattle.sel_forest.specs.TreeText.{operator_number, SpellsAttribute, no_attribute, a_number, a_symbol, SpellsTree, no_kids, one_kid, two_kids, value_of, is_negative, without_sign}
use Rattle.sel_forest.specs.declared.around.Parent.{Parent}
use Rattle.sel_forest.specs.LineFaults.{Around, around_next, around_from, least_of, most_of, least_kids, most_kids, wants_some, takes_no_further, wants_another, has_wrong_arity, is_too_large, name_kind, unknown_kind, kind_of, without_first, with_whole_kid, HasFault, stray, wrong, HasFirstFault}
use Rattle.sel_forest.specs.ForestText.{SpellsLine, IsBlankLine}
use Rattle.sel_forest.specs.declared.line.State.TheVariants.{Start}
use Rattle.sel_forest.proofs.Viable.{complete, stops}
use Rattle.sel_forest.proofs.OneForest.{beyond, tree_line_form}

-- nothing is wrong with any of the tokens
abbrev pub Free : Grammar → ℕ → Around → List Token → Type 0
Free g trees a [] = Unit {0}
Free g trees a (t ∷ ts) = (kind_of g trees a t ≡ None) × Free g trees (around_next g a t) ts

to_lt : (a b : ℕ) → b ≤ a → nat_lt a b ≡ false
to_lt a b h = grind arith

to_le : (a b : ℕ) → b < a → nat_le a b ≡ false
to_le a b h = grind arith

to_zero : (a : ℕ) → 0 < a → (a == 0) ≡ false
to_zero a h = grind arith

bounds : (g : Grammar) (op n : ℕ) → IsOperatorOf g op n → n ≤ 2 → (least_kids g op ≤ n) × (n ≤ most_kids g op)
bounds g op n (operator, get, takes) two =
    let b = go operator.arity takes in (
      subst (λ o. least_of o ≤ n) (sym get) b.0,
      subst (λ o. n ≤ most_of o) (sym get) b.1,
    )
  where
    go : (a : Option ℕ) → Takes a n → (unwrap_or a 0 ≤ n) × (n ≤ unwrap_or a 2)
    go None h = (omega arith, omega arith)
    go (Some m) h = (omega arith, omega arith)

both_false : (x y : Bool) → x ≡ false → y ≡ false → (x || y) ≡ false
both_false x y e f = rw e f

right_arity : (g : Grammar) (a : Around) (t : Token) → has_wrong_arity g a t ≡ false → (if has_wrong_arity g a t then Some limits.arity else None) ≡ None
right_arity g a t h = ap (λ x. if x then Some limits.arity else None) h

first_of_few : (trees names : ℕ) → (names ≡ 0 → trees < most_trees) → (nat_le most_trees trees && (names == 0)) ≡ false
first_of_few trees zero h = let k : nat_le most_trees trees ≡ false = to_le most_trees trees (h refl) in rw k refl
first_of_few trees (suc n) h = go (nat_le most_trees trees)
  where
    go : (b : Bool) → (b && (suc n == 0)) ≡ false
    go true = to_zero (suc n) (omega arith)
    go false = refl

name_free : (g : Grammar) (trees : ℕ) (a : Around) (n : List ℕ) (operator : Operator) → (a.names ≡ 0 → trees < most_trees) → length a.parents < greatest_depth → a.names < most_nodes
    → slice_get g.operators (operator_number g n) ≡ Some operator → name_kind g trees a n ≡ None
name_free g trees a n operator few shallow small known =
    ap (λ x. if x then Some limits.too_many_trees else (if nat_le greatest_depth (length a.parents) then Some limits.too_deep else (if nat_le most_nodes a.names then Some limits.too_many_nodes else unknown_kind (slice_get g.operators (operator_number g n))))) (first_of_few trees a.names few)
    ∙ ap (λ x. if x then Some limits.too_deep else (if nat_le most_nodes a.names then Some limits.too_many_nodes else unknown_kind (slice_get g.operators (operator_number g n)))) (to_le greatest_depth (length a.parents) shallow)
    ∙ ap (λ x. if x then Some limits.too_many_nodes else unknown_kind (slice_get g.operators (operator_number g n))) (to_le most_nodes a.names small)
    ∙ ap unknown_kind known

value_small : (bytes : List ℕ) → IsAttribute (attribute.Number (value_of bytes)) → is_too_large bytes ≡ false
value_small bytes h = go (is_negative bytes) (digits_value 10 (without_sign bytes)) h
  where
    go : (b : Bool) (n : ℕ) → IsAttribute (attribute.Number (if b then neg_ℤ (pos n) else pos n)) → (if b then nat_lt (2 ^ 63) n else nat_le (2 ^ 63) n) ≡ false
    go true n h = let k : n ≤ 2 ^ 63 = (let l = h.0 in omega (arith, ints)) in to_lt (2 ^ 63) n k
    go false n h = let k : n < 2 ^ 63 = (let l = h.1 in omega (arith, ints)) in to_le (2 ^ 63) n k

free_attribute : (g : Grammar) (trees : ℕ) (a : Around) (xs k : List Token) (x : Attribute) → SpellsAttribute xs x → IsAttribute x → Free g trees a k → Free g trees a (xs ++ k)
free_attribute g trees a _ k _ no_attribute h f = f
free_attribute g trees a _ k _ (a_number bytes) h f = (refl, (ap (λ b. if b then Some limits.number_large else None) (value_small bytes h), f))
free_attribute g trees a _ k _ (a_symbol bytes) h f = (refl, (refl, f))

-- what holds behind a tree
abbrev Onward : Grammar → ℕ → Around → ℕ → List Token → Type 0
Onward g trees a n k = (b : Around) → b.names ≡ a.names + n → b.parents ≡ a.parents → wants_some g b.bare ≡ false → Free g trees b k

abbrev parent : ℕ → ℕ → Parent
parent op kids = record { operator = op; kids = kids }

close_free : (g : Grammar) (trees op kids : ℕ) (a b : Around) (n : ℕ) (k : List Token) → least_kids g op ≤ kids + 1 → b.names ≡ a.names + n → b.parents ≡ parent op kids ∷ a.parents → wants_some g b.bare ≡ false
    → Onward g trees a n k → Free g trees b (Close ∷ k)
close_free g trees op kids a b n k low names parents bare next = (
  right_arity g b Close (both_false (wants_some g b.bare) (wants_another g b.parents) bare (ap (wants_another g) parents ∙ to_lt (kids + 1) (least_kids g op) low)),
  next (record { names = b.names; bare = None; parents = without_first b.parents }) names (ap without_first parents) refl,
)

free_tree : (g : Grammar) (trees : ℕ) (ts : List Token) (t : PlainTree) → SpellsTree g ts t → IsOver g t → (a : Around) (k : List Token) → (a.names ≡ 0 → trees < most_trees)
    → length a.parents + depth t ≤ greatest_depth → a.names + size t ≤ most_nodes → Onward g trees a (size t) k → Free g trees a (ts ++ k)
free_tree g trees _ _ (no_kids n x xs s) over a k few deep small next = (
  name_free g trees a n over.0.0 few (omega arith) (omega arith) over.0.1,
  free_attribute g trees (record { names = a.names + 1; bare = Some (operator_number g n); parents = a.parents }) xs k x s over.1
      (next (record { names = a.names + 1; bare = Some (operator_number g n); parents = a.parents }) refl refl
      (to_lt 0 (least_kids g (operator_number g n)) (bounds g (operator_number g n) 0 over.0 (omega arith)).0)),
)
free_tree g trees _ _ (one_kid n x xs ts t s h) over a k few deep small next =
    let op = operator_number g n in
    let b = bounds g op 1 over.0 (omega arith) in (
      name_free g trees a n over.0.0 few (omega arith) (omega arith) over.0.1,
      subst (Free g trees (record { names = a.names + 1; bare = Some op; parents = a.parents })) (sym (glue xs ts k))
          (free_attribute g trees (record { names = a.names + 1; bare = Some op; parents = a.parents }) xs (Open ∷ (ts ++ (Close ∷ k))) x s over.1 (
            right_arity g (record { names = a.names + 1; bare = Some op; parents = a.parents }) Open (to_zero (most_kids g op) (omega (arith, b.1))),
            free_tree g trees ts t h over.2 (record { names = a.names + 1; bare = None; parents = parent op 0 ∷ a.parents }) (Close ∷ k) (λ e. absurd (omega arith)) (omega arith) (omega arith)
                (λ c names parents bare. close_free g trees op 0 a c (size t + 1) k (omega (arith, b.0)) (omega arith) parents bare next),
          )),
    )
  where
    glue : (xs ts k : List Token) → (xs ++ (Open ∷ (ts ++ (Close ∷ [])))) ++ k ≡ xs ++ (Open ∷ (ts ++ (Close ∷ k)))
    glue xs ts k = simp append_assoc refl
free_tree g trees _ _ (two_kids n x xs ts us t u s h h') over a k few deep small next =
    let op = operator_number g n in
    let b = bounds g op 2 over.0 (omega arith) in (
      name_free g trees a n over.0.0 few (omega arith) (omega arith) over.0.1,
      subst (Free g trees (record { names = a.names + 1; bare = Some op; parents = a.parents })) (sym (glue xs ts us k))
          (free_attribute g trees (record { names = a.names + 1; bare = Some op; parents = a.parents }) xs (Open ∷ (ts ++ (Comma ∷ (us ++ (Close ∷ k))))) x s over.1 (
            right_arity g (record { names = a.names + 1; bare = Some op; parents = a.parents }) Open (to_zero (most_kids g op) (omega (arith, b.1))),
            free_tree g trees ts t h over.2 (record { names = a.names + 1; bare = None; parents = parent op 0 ∷ a.parents }) (Comma ∷ (us ++ (Close ∷ k))) (λ e. absurd (omega arith)) (omega arith) (omega arith)
                (λ c names parents bare. (
                  right_arity g c Comma (both_false (wants_some g c.bare) (takes_no_further g c.parents) bare (ap (takes_no_further g) parents ∙ to_le (most_kids g op) 1 (omega (arith, b.1)))),
                  free_tree g trees us u h' over.3 (record { names = c.names; bare = None; parents = with_whole_kid c.parents }) (Close ∷ k) (λ e. absurd (omega arith))
                      (let l : length (with_whole_kid c.parents) ≡ suc (length a.parents) = ap (λ p. length (with_whole_kid p)) parents in omega arith) (omega arith)
                      (λ d names' parents' bare'. close_free g trees op 1 a d (size t + size u + 1) k (omega (arith, b.0)) (omega arith) (parents' ∙ ap with_whole_kid parents) bare' next),
                )),
          )),
    )
  where
    glue : (xs ts us k : List Token) → (xs ++ (Open ∷ (ts ++ (Comma ∷ (us ++ (Close ∷ [])))))) ++ k ≡ xs ++ (Open ∷ (ts ++ (Comma ∷ (us ++ (Close ∷ k)))))
    glue xs ts us k = simp append_assoc refl

-- A whole line with whose tokens nothing is wrong has no fault.
free_at : (g : Grammar) (trees : ℕ) (n m : ℕ) (p : Spot) (a : Around) → Free g trees a (first m p) → n < m → kind_of g trees (around_from g a (first n p)) (token_at (after n p)) ≡ None
free_at g trees n zero p a f lt = absurd (omega arith)
free_at g trees zero (suc m) p a f lt = f.0
free_at g trees (suc n) (suc m) p a f lt = free_at g trees n m (behind p) (around_next g a (token_at p)) f.1 (omega arith)

front : (n m : ℕ) (p : Spot) → n ≤ m → (rest : List Token) × (first m p ≡ first n p ++ rest)
front zero m p h = (first m p, refl)
front (suc n) zero p h = absurd (omega arith)
front (suc n) (suc m) p h = let f = front n m (behind p) (omega arith) in (f.0, ap (λ ts. token_at p ∷ ts) f.1)

abbrev nowhere : Around
nowhere = record { names = 0; bare = None; parents = [] }

no_fault_at : (g : Grammar) (trees : ℕ) (line : List ℕ) (n m kind : ℕ) → IsLine (first m (start line)) → Free g trees nowhere (first m (start line)) → n < m → HasFault g trees line n kind → ⊥
no_fault_at g trees line n m _ l f lt (stray never) = let e = front (suc n) m (start line) (omega arith) in never (e.0, subst IsLine e.1 l)
no_fault_at g trees line n m kind l f lt (wrong _ goes k) = let e : None ≡ Some kind = sym (free_at g trees n m (start line) nowhere f lt) ∙ k in cc

no_first_fault : (g : Grammar) (trees : ℕ) (line : List ℕ) (m kind at : ℕ) → IsLine (first m (start line)) → Free g trees nowhere (first m (start line)) → HasFirstFault g trees line kind at → ⊥
no_first_fault g trees line m kind at l f h = go (order h.n m)
  where
    order : (j k : ℕ) → (j < k) ⊎ ((k < j) ⊎ (j ≡ k))
    order j k = grind arith

    go : (h.n < m) ⊎ ((m < h.n) ⊎ (h.n ≡ m)) → ⊥
    go (inl lt) = no_fault_at g trees line h.n m kind l f lt h.here
    go (inr (inl lt)) =
        h.before m limits.token lt (stray (stops (first (suc m) (start line)) (beyond m (suc m) (start line) Start (complete (first m (start line)) l) (omega arith))))
    go (inr (inr e)) = h.not_whole (subst (λ n. IsLine (first n (start line))) (sym e) l)

pub tree_faultless : (g : Grammar) (trees : ℕ) (line : List ℕ) (made : Tree) (kind at : ℕ) → SpellsLine g line made → trees < most_trees → HasFirstFault g trees line kind at → ⊥
tree_faultless g trees line made kind at h few fault =
    no_first_fault g trees line (suc (length h.tokens)) kind at (subst IsLine (sym h.cut) (tree_line_form g h.tokens h.valid.plain h.spells))
    (subst (Free g trees nowhere) (sym h.cut)
    (free_tree g trees h.tokens h.valid.plain h.spells h.valid.over nowhere (End ∷ []) (λ _. few) (omega (arith, h.valid.shallow)) (omega (arith, h.valid.small))
    (λ b names parents bare. (right_arity g b End bare, tt))))
    fault

pub blank_faultless : (g : Grammar) (trees : ℕ) (line : List ℕ) (kind at : ℕ) → IsBlankLine line → HasFirstFault g trees line kind at → ⊥
blank_faultless g trees line kind at h fault =
    no_first_fault g trees line 1 kind at (subst IsLine (sym h) blank) (subst (Free g trees nowhere) (sym h) (refl, tt)) fault
