-- What is reached.
use Rattle.std.proofs.Common.{◌≡◌, ℕ, zero, suc, ◌⊎◌, inl, inr, Option, Some, None, List, [], ◌∷◌, refl, ap, sym, ◌∙◌, subst, slice_get, length, arith, ℤ, pos, ◌≤ℤ◌, ◌<ℤ◌, ◌^◌}
use Rattle.std.specs.Prelude.{neg_ℤ}
use Rattle.std.proofs.lemmas.Int.{ints}
use Rattle.sel_normal.proofs.Steps.{some_same, some_none}
use Rattle.sel_grammar.specs.declared.grammar.Attribute.{Attribute}
use Rattle.sel_grammar.specs.declared.grammar.Attribute.TheVariants.{Absent, Number}
use Rattle.sel_grammar.specs.declared.grammar.Grammar.{Grammar}
use Rattle.sel_grammar.specs.PlainTrees.{PlainTree, Node0, Node1, Node2}
use Rattle.sel_forest.specs.Valid.{IsOver, IsAttribute, IsOperatorOf}
use Rattle.sel_range.specs.Classes.{class_of}
use Rattle.sel_range.specs.Limits.{IsAttributeValue, least_number, greatest_number}
use Rattle.sel_normal.specs.declared.normal.Body.{Body}
use Rattle.sel_normal.specs.declared.normal.Body.TheVariants.{Chain, Operator}
use Rattle.sel_normal.specs.declared.normal.NormalRule.{NormalRule}
use Rattle.sel_normal.specs.NormalForms.{NormalForm, normal_at}
use Rattle.sel_normal.specs.Forms.{tests}
use Rattle.sel_items.specs.declared.items.Items.{Items}
use Rattle.sel_items.specs.Follows.{NodeKey, key_of, Follows}
use Rattle.sel_items.specs.ItemsOf.{IsItemsOf, attribute_number}
use Rattle.sel_items.specs.Laws.{IsAcceptedForm}
use Rattle.sel_items.proofs.ItemLaws.{items_follow, items_of_follow, follows_is_one, items_exist}
use Rattle.sel_label.proofs.Fitting.{attribute_value}
use Rattle.sel_full.specs.Reach.{IsEmptySet, IsReached, IsUsed, kid_count, IsClassFor, AreOf, IsOneOf, IsClosed}
use Rattle.sel_full.specs.Laws.{ReachedFollow, ReachIsExact}
use Rattle.sel_full.proofs.Empties.{empty_follows, empties_same, none_used, HasEmptyKid, empty_kid}
use Rattle.sel_full.proofs.Arities.{used_operator}

-- an attribute with this number, or without one
abbrev attribute_with : Option ℤ → Attribute
attribute_with None = Absent
attribute_with (Some v) = Number v

number_is : (o : Option ℤ) → attribute_number (attribute_with o) ≡ o
number_is None = refl
number_is (Some v) = refl

z_low : (z : ℤ) → least_number ≤ℤ z → neg_ℤ (pos (2 ^ 63)) ≤ℤ z
z_low z h = omega (arith, ints)

z_high : (z : ℤ) → z ≤ℤ greatest_number → z <ℤ pos (2 ^ 63)
z_high z h = omega (arith, ints)

attribute_is : (o : Option ℤ) → IsAttributeValue o → IsAttribute (attribute_with o)
attribute_is None h = tt
attribute_is (Some v) h = (z_low v h.low, z_high v h.high)

module _ (g : Grammar) (normal : NormalForm) (form : IsAcceptedForm g normal) where
  over : (op k : ℕ) → IsUsed normal op k → IsOperatorOf g op k
  over op k u = used_operator g normal form.lawful form.form op k u

  reached_by : (key : NodeKey) (items : Items) (is : List Items) → key.kids ≡ is → IsUsed normal key.operator (length is) → IsClassFor normal key.class is → AreOf (IsReached g normal) is → Follows normal key items → IsReached g normal items
  reached_by key items [] same u (number, small, is) of f =
      inr (
        Node0 key.operator (attribute_with number),
        (over key.operator 0 u, attribute_is number small),
        items_follow g normal (Node0 key.operator (attribute_with number)) key items form (subst IsAttributeValue (sym (number_is number)) small)
            (refl, sym is ∙ ap (λ ts. class_of ts number) ((form.form).tests) ∙ ap (class_of (tests g.rules)) (sym (number_is number)), same) f,
      )
  reached_by key items (i ∷ []) same u class (inl h, of) f = inl (empty_follows normal key items (empty_kid normal key (subst (HasEmptyKid normal) (sym same) (inl h))) f)
  reached_by key items (i ∷ []) same u class (inr (t, ok, is), of) f =
      inr (Node1 key.operator Absent t, (over key.operator 1 u, tt, ok), items_follow g normal (Node1 key.operator Absent t) key items form tt (refl, class, (i, same, is)) f)
  reached_by key items (i ∷ j ∷ []) same u class (inl h, of) f = inl (empty_follows normal key items (empty_kid normal key (subst (HasEmptyKid normal) (sym same) (inl h))) f)
  reached_by key items (i ∷ j ∷ []) same u class (inr x, (inl h, of)) f = inl (empty_follows normal key items (empty_kid normal key (subst (HasEmptyKid normal) (sym same) (inr (inl h)))) f)
  reached_by key items (i ∷ j ∷ []) same u class (inr (t, ok, is), (inr (t', ok', is'), of)) f =
      inr (Node2 key.operator Absent t t', (over key.operator 2 u, tt, ok, ok'), items_follow g normal (Node2 key.operator Absent t t') key items form tt (refl, class, (i, j, same, is, is')) f)
  reached_by key items (i ∷ j ∷ k ∷ is) same u class of f = absurd (many u.first u.second u.count)
    where
      many : (a b : Option ℕ) → kid_count a b ≡ length (i ∷ j ∷ k ∷ is) → ⊥
      many None b e = absurd (omega arith)
      many (Some a) None e = absurd (omega arith)
      many (Some a) (Some b) e = absurd (omega arith)

pub reached_follow : ReachedFollow
reached_follow g normal key items form over f = reached_by g normal form key items key.kids refl over.used over.class over.kids f

-- a rule of the list uses the operator with so many kids
record IsUsedIn (rules : List NormalRule) (op k : ℕ) : Type 0 where
  place : ℕ
  rule : NormalRule
  first : Option ℕ
  second : Option ℕ
  test : Option ℕ
  there : slice_get rules place ≡ Some rule
  body : rule.body ≡ Operator op first second test
  count : kid_count first second ≡ k

abbrev kids_of_body : Body → ℕ
kids_of_body (Chain m) = 0
kids_of_body (Operator op a b test) = kid_count a b

abbrev operator_of_body : Body → ℕ
operator_of_body (Chain m) = 0
operator_of_body (Operator op a b test) = op

abbrev IsOperatorBody : Body → Type 0
IsOperatorBody (Chain m) = ⊥
IsOperatorBody (Operator op a b test) = Unit {0}

nat_same_or_not : (a b : ℕ) → (a ≡ b) ⊎ (a ≡ b → ⊥)
nat_same_or_not a b = grind arith

used_in : (rules : List NormalRule) (op k : ℕ) → IsUsedIn rules op k ⊎ (IsUsedIn rules op k → ⊥)
used_in [] op k = inr (λ u. some_none (sym u.there))
used_in (rule ∷ rules) op k = go rule.body refl (used_in rules op k)
  where
    later : IsUsedIn rules op k → IsUsedIn (rule ∷ rules) op k
    later u = record { place = suc u.place; rule = u.rule; first = u.first; second = u.second; test = u.test; there = u.there; body = u.body; count = u.count }

    none : (IsUsedIn rules op k → ⊥) → ((a b test : Option ℕ) → rule.body ≡ Operator op a b test → kid_count a b ≡ k → ⊥) → IsUsedIn (rule ∷ rules) op k → ⊥
    none rest here u = at u.place u.there
      where
        at : (j : ℕ) → slice_get (rule ∷ rules) j ≡ Some u.rule → ⊥
        at zero e = here u.first u.second u.test (ap (λ (r : NormalRule). r.body) (some_same e) ∙ u.body) u.count
        at (suc j) e = rest (record { place = j; rule = u.rule; first = u.first; second = u.second; test = u.test; there = e; body = u.body; count = u.count })

    go : (body : Body) → rule.body ≡ body → IsUsedIn rules op k ⊎ (IsUsedIn rules op k → ⊥) → IsUsedIn (rule ∷ rules) op k ⊎ (IsUsedIn (rule ∷ rules) op k → ⊥)
    go body is (inl u) = inl (later u)
    go (Chain m) is (inr rest) = inr (none rest (λ a b test e count. subst IsOperatorBody (sym e ∙ is) tt))
    go (Operator o a b test) is (inr rest) = tested (nat_same_or_not o op) (nat_same_or_not (kid_count a b) k)
      where
        tested : (o ≡ op) ⊎ (o ≡ op → ⊥) → (kid_count a b ≡ k) ⊎ (kid_count a b ≡ k → ⊥) → IsUsedIn (rule ∷ rules) op k ⊎ (IsUsedIn (rule ∷ rules) op k → ⊥)
        tested (inl e) (inl f) = inl (record { place = 0; rule = rule; first = a; second = b; test = test; there = refl; body = is ∙ ap (λ o. Operator o a b test) e; count = f })
        tested (inr e) f = inr (none rest (λ a' b' test' e' count. e (ap operator_of_body (sym is ∙ e'))))
        tested (inl e) (inr f) = inr (none rest (λ a' b' test' e' count. f (ap kids_of_body (sym is ∙ e') ∙ count)))

used_or_not : (normal : NormalForm) (op k : ℕ) → IsUsed normal op k ⊎ (IsUsed normal op k → ⊥)
used_or_not normal op k = go (used_in normal.rules op k)
  where
    back : (IsUsedIn normal.rules op k → ⊥) → (n : ℕ) (u : IsUsed normal op k) → u.number ≡ n → ⊥
    back none zero u e = some_none (sym (sym (ap (normal_at normal) e) ∙ u.numbered))
    back none (suc n) u e = none (record { place = n; rule = u.rule; first = u.first; second = u.second; test = u.test; there = sym (ap (normal_at normal) e) ∙ u.numbered; body = u.body; count = u.count })

    go : IsUsedIn normal.rules op k ⊎ (IsUsedIn normal.rules op k → ⊥) → IsUsed normal op k ⊎ (IsUsed normal op k → ⊥)
    go (inl u) = inl (record { number = suc u.place; rule = u.rule; first = u.first; second = u.second; test = u.test; numbered = u.there; body = u.body; count = u.count })
    go (inr none) = inr (λ u. back none u.number u refl)

module _ (g : Grammar) (normal : NormalForm) (states : List Items) (empty : Items) (form : IsAcceptedForm g normal) (none : IsEmptySet normal empty) (has : IsOneOf states empty) (closed : IsClosed normal states) where
  -- the item set that follows from a key over states is a state
  among : (key : NodeKey) (i : Items) → IsClassFor normal key.class key.kids → AreOf (IsOneOf states) key.kids → Follows normal key i → IsOneOf states i
  among key i class kids f = go (used_or_not normal key.operator (length key.kids))
    where
      go : IsUsed normal key.operator (length key.kids) ⊎ (IsUsed normal key.operator (length key.kids) → ⊥) → IsOneOf states i
      go (inl u) = let (j, there, f') = closed key (record { used = u; class = class; kids = kids }) in subst (IsOneOf states) (follows_is_one normal key j i f' f) there
      go (inr u) = subst (IsOneOf states) (empties_same normal empty i none (empty_follows normal key i (none_used normal key u) f)) has

  stays : (t : PlainTree) → IsOver g t → (i : Items) → IsItemsOf g t i → IsOneOf states i
  stays (Node0 op a) (o, w) i is =
      let small = attribute_value a w in
      let key = key_of op (class_of (tests g.rules) (attribute_number a)) [] in
      among key i (attribute_number a, small, ap (λ ts. class_of ts (attribute_number a)) ((form.form).tests)) tt (items_of_follow g normal (Node0 op a) key i form small (refl, refl, refl) is)
  stays (Node1 op a t) (o, w, ok) i is =
      let (j, is') = items_exist g t form.lawful form.accepted in
      let key = key_of op 0 (j ∷ []) in
      among key i refl (stays t ok j is', tt) (items_of_follow g normal (Node1 op a t) key i form (attribute_value a w) (refl, refl, (j, refl, is')) is)
  stays (Node2 op a t u) (o, w, ok, ok') i is =
      let (j, is') = items_exist g t form.lawful form.accepted in
      let (k, is'') = items_exist g u form.lawful form.accepted in
      let key = key_of op 0 (j ∷ k ∷ []) in
      among key i refl (stays t ok j is', (stays u ok' k is'', tt)) (items_of_follow g normal (Node2 op a t u) key i form (attribute_value a w) (refl, refl, (j, k, refl, is', is'')) is)

  all : (i : Items) → IsReached g normal i → IsOneOf states i
  all i (inl h) = subst (IsOneOf states) (empties_same normal empty i none h) has
  all i (inr (t, ok, is)) = stays t ok i is

pub reach_is_exact : ReachIsExact
reach_is_exact g normal states empty form none has closed =
    let every = all g normal states empty form none has closed in
    (every, λ reached. record { reached = reached; all = every })
