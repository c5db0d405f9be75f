-- The list of keys has each key over the states.
use Rattle.std.proofs.Common.{◌≡◌, ℕ, zero, suc, ◌+◌, ◌-◌, ◌<◌, ◌≤◌, ◌⊎◌, inl, inr, Some, List, [], ◌∷◌, ◌++◌, refl, ap, sym, ◌∙◌, subst, slice_get, length, arith, map}
use Rattle.std.specs.List.{flat_map, range_with_len}
use Rattle.std.proofs.lemmas.Option.{slice_get_within}
use Rattle.sel_base.specs.declared.range.Range.{Range}
use Rattle.sel_grammar.specs.declared.grammar.Grammar.{Grammar}
use Rattle.sel_grammar.specs.declared.grammar.Operator.{Operator as GrammarOperator}
use Rattle.sel_grammar.specs.Lawful.{HasOperator}
use Rattle.sel_grammar.specs.Limits.{most_operators}
use Rattle.sel_range.specs.Classes.{class_of, last_class, Occurs}
use Rattle.sel_range.specs.Limits.{least_number}
use Rattle.sel_range.proofs.Occurring.{IsBetween, occurs_between}
use Rattle.sel_normal.specs.NormalForms.{NormalForm, normal_at}
use Rattle.sel_normal.proofs.Steps.{some_same, some_none}
use Rattle.sel_items.specs.declared.items.Items.{Items}
use Rattle.sel_items.specs.Follows.{NodeKey, key_of, Follows}
use Rattle.sel_items.specs.Laws.{IsAcceptedForm}
use Rattle.sel_full.specs.Reach.{IsUsed, IsClassFor, AreOf, IsOneOf}
use Rattle.sel_full.specs.Tables.{IsLawfulTable, occurring, kids_by, keys_with, keys_of, all_keys}
use Rattle.sel_full.specs.Laws.{TablesAreClosed, TablesHoldTrees}
use Rattle.sel_full.proofs.Arities.{used_has}
use Rattle.sel_full.proofs.Reaching.{reach_is_exact}
use Rattle.sel_full.proofs.Uses.{used_first, few_by}

pub among_left : {A : Type 0} (xs ys : List A) (x : A) → IsOneOf xs x → IsOneOf (xs ++ ys) x
among_left [] ys x (k, h) = absurd (some_none (sym h))
among_left (y ∷ xs) ys x (zero, h) = (0, h)
among_left (y ∷ xs) ys x (suc k, h) = let (j, e) = among_left xs ys x (k, h) in (suc j, e)

pub among_right : {A : Type 0} (xs ys : List A) (x : A) → IsOneOf ys x → IsOneOf (xs ++ ys) x
among_right [] ys x h = h
among_right (y ∷ xs) ys x h = let (j, e) = among_right xs ys x h in (suc j, e)

pub among_map : {A B : Type 0} (f : A → B) (xs : List A) (x : A) → IsOneOf xs x → IsOneOf (map f xs) (f x)
among_map f [] x (k, h) = absurd (some_none (sym h))
among_map f (y ∷ xs) x (zero, h) = (0, ap (λ y. Some (f y)) (some_same h))
among_map f (y ∷ xs) x (suc k, h) = let (j, e) = among_map f xs x (k, h) in (suc j, e)

pub among_flat : {A B : Type 0} (f : A → List B) (xs : List A) (x : A) (y : B) → IsOneOf xs x → IsOneOf (f x) y → IsOneOf (flat_map f xs) y
among_flat f [] x y (k, h) w = absurd (some_none (sym h))
among_flat f (z ∷ xs) x y (zero, h) w = among_left (f z) (flat_map f xs) y (subst (λ z. IsOneOf (f z) y) (sym (some_same h)) w)
among_flat f (z ∷ xs) x y (suc k, h) w = among_right (f z) (flat_map f xs) y (among_flat f xs x y (k, h) w)

pub among_range : (n a x : ℕ) → a ≤ x → x < a + n → IsOneOf (range_with_len a n) x
among_range zero a x h k = absurd (omega arith)
among_range (suc n) a x h k = go (first a x h) (λ l. among_range n (a + 1) x l (omega arith))
  where
    first : (a x : ℕ) → a ≤ x → (a ≡ x) ⊎ (a + 1 ≤ x)
    first a x h = grind arith

    go : (a ≡ x) ⊎ (a + 1 ≤ x) → (a + 1 ≤ x → IsOneOf (range_with_len (a + 1) n) x) → IsOneOf (a ∷ range_with_len (a + 1) n) x
    go (inl e) r = (0, ap Some e)
    go (inr l) r = let (j, e) = r l in (suc j, e)

pub among_classes : (tests : List Range) (class : ℕ) → Occurs tests class → IsOneOf (occurring tests) class
among_classes tests class h = go (occurs_between tests class h)
  where
    go : IsBetween tests class → IsOneOf (occurring tests) class
    go (inl e) = (0, ap Some (sym e))
    go (inr b) = let (j, e) = among_range (last_class tests + 1 - class_of tests (Some least_number)) (class_of tests (Some least_number)) class b.0 (inside (last_class tests) (class_of tests (Some least_number)) class b.0 b.1) in (suc j, e)
      where
        inside : (l f c : ℕ) → f ≤ c → c ≤ l → c < f + (l + 1 - f)
        inside l f c h k = omega arith

-- where an operator has as many kids by the rules, each key of it over states is one of all
pub among_keys : (normal : NormalForm) (states : List Items) (op class : ℕ) (is : List Items) → op < most_operators → kids_by normal.rules op ≡ Some (length is) → IsClassFor normal class is
    → AreOf (IsOneOf states) is → IsOneOf (all_keys normal states) (key_of op class is)
among_keys normal states op class is below by c of =
    among_flat (keys_of normal states) (range_with_len 0 most_operators) op (key_of op class is)
    (among_range most_operators 0 op (omega arith) (omega arith))
    (subst (λ o. IsOneOf (keys_with normal states op o) (key_of op class is)) (sym by) (go is by c of))
  where
    go : (is : List Items) → kids_by normal.rules op ≡ Some (length is) → IsClassFor normal class is → AreOf (IsOneOf states) is → IsOneOf (keys_with normal states op (Some (length is))) (key_of op class is)
    go [] by c of = among_map (λ class. key_of op class []) (occurring normal.tests) class (among_classes normal.tests class c)
    go (i ∷ []) by c of = subst (λ c. IsOneOf (keys_with normal states op (Some 1)) (key_of op c (i ∷ []))) (sym c) (among_map (λ i. key_of op 0 (i ∷ [])) states i of.0)
    go (i ∷ j ∷ []) by c of =
        subst (λ c. IsOneOf (keys_with normal states op (Some 2)) (key_of op c (i ∷ j ∷ []))) (sym c)
        (among_flat (λ i. map (λ j. key_of op 0 (i ∷ j ∷ [])) states) states i (key_of op 0 (i ∷ j ∷ [])) of.0 (among_map (λ j. key_of op 0 (i ∷ j ∷ [])) states j (of.1).0))
    go (i ∷ j ∷ k ∷ is) by c of = absurd (few_by normal.rules op (length is) by)

pub as_long : {A : Type 0} (xs : List A) (n : ℕ) → n < length xs → (x : A) × (slice_get xs n ≡ Some x)
as_long [] n h = absurd (omega arith)
as_long (x ∷ xs) zero h = (x, refl)
as_long (x ∷ xs) (suc n) h = as_long xs n (omega arith)

-- from each key of a lawful table a state follows
pub key_follows : (normal : NormalForm) (states : List Items) (numbers : List ℕ) (key : NodeKey) → IsLawfulTable normal states numbers → IsOneOf (all_keys normal states) key → (i : Items) × IsOneOf states i × Follows normal key i
key_follows normal states numbers key table (n, at) =
    let w = slice_get_within (all_keys normal states) n key at in
    let (number, at') = as_long numbers n (let e = table.as_many in omega arith) in
    let (i, there, f) = table.follow n number key at at' in
    (i, (number, there), f)

module _ (g : Grammar) (normal : NormalForm) (form : IsAcceptedForm g normal) where
  one_arity : (op j k : ℕ) → HasOperator g op j → HasOperator g op k → j ≡ k
  one_arity op j k (o, at, is) (o', at', is') = some_same (sym is ∙ ap (λ (o : GrammarOperator). o.arity) (some_same (sym at ∙ at')) ∙ is')

  pub by_rules : (op k : ℕ) → IsUsed normal op k → kids_by normal.rules op ≡ Some k
  by_rules op k u = go u.number refl
    where
      go : (n : ℕ) → u.number ≡ n → kids_by normal.rules op ≡ Some k
      go zero e = absurd (some_none (sym u.numbered ∙ ap (normal_at normal) e))
      go (suc n) e =
          let (j, by, first) = used_first normal.rules op n u.rule u.first u.second u.test (sym (ap (normal_at normal) e) ∙ u.numbered) u.body in
          let u' : IsUsed normal op j = record { number = suc first.place; rule = first.rule; first = first.first; second = first.second; test = first.test; numbered = first.there; body = first.body; count = first.count } in
          by ∙ ap Some (one_arity op j k (used_has g normal form.lawful form.form op j u') (used_has g normal form.lawful form.form op k u))

  few : (op k : ℕ) → IsUsed normal op k → op < most_operators
  few op k u = let (o, at, is) = used_has g normal form.lawful form.form op k u in
      let w = slice_get_within g.operators op o at in let most = ((form.lawful).within).operators in omega arith

pub tables_are_closed : TablesAreClosed
tables_are_closed g normal states numbers form table key over =
    key_follows normal states numbers key table
    (among_keys normal states key.operator key.class key.kids (few g normal form key.operator (length key.kids) over.used) (by_rules g normal form key.operator (length key.kids) over.used) over.class over.kids)

pub tables_hold_trees : TablesHoldTrees
tables_hold_trees g normal states numbers t i form table over is =
    let (empty, at, none) = table.empty in
    (reach_is_exact g normal states empty form none (0, at) (tables_are_closed g normal states numbers form table)).0 i (inr (t, over, is))
