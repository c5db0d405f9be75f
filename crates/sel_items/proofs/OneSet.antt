-- What follows from a key is one item set.
use Rattle.std.proofs.Common.{arith, ◌≡◌, ℕ, ◌+◌, ◌<◌, ◌≤◌, ◌⊎◌, inl, inr, refl, ap, sym, ◌∙◌, subst, Option, Some, None, [], ◌∷◌, length, suc}
use Rattle.std.specs.Prelude.{pos, ◌+ℤ◌, ◌<ℤ◌, ℤ}
use Rattle.std.proofs.lemmas.Int.{ints}
use Rattle.sel_grammar.specs.Costs.{Cost, no_cost, ◌⊕◌, IsCheaper}
use Rattle.sel_grammar.proofs.CostLaws.{cheaper_not_both, cheaper_not_same, cheaper_or_not, sum_none, same_cheaper}
use Rattle.sel_normal.specs.NormalForms.{NormalForm}
use Rattle.sel_items.specs.declared.items.Item.{Item}
use Rattle.sel_items.specs.declared.items.Items.{Items}
use Rattle.sel_items.specs.Entries.{ItemRow, item_at, NoLater, raised, IsReduced}
use Rattle.sel_items.proofs.Rows.{no_entry, below_or_not}
use Rattle.sel_items.specs.Follows.{NodeKey, IsEntryOf, Follows, first_rule}

pub same_items : (a b : Item) → a.cost ≡ b.cost → a.rule ≡ b.rule → a ≡ b
same_items a b h k = λ i. record { cost = h i; rule = k i }

no_later_both : (a b : Cost) (r s : ℕ) → NoLater a r b s → NoLater b s a r → (a ≡ b) × (r ≡ s)
no_later_both a b r s (inl h) (inl k) = absurd (cheaper_not_both a b h k)
no_later_both a b r s (inl h) (inr k) = absurd (cheaper_not_same a b h k.0)
no_later_both a b r s (inr h) (inl k) = absurd (cheaper_not_same b a k h.0)
no_later_both a b r s (inr h) (inr k) = (h.0, let x = h.1 in let y = k.1 in omega arith)

later_than : (i j : Item) (s : ℕ) → j.rule ≡ s → NoLater i.cost i.rule j.cost s → NoLater i.cost i.rule j.cost j.rule
later_than i j s h k = subst (λ x. NoLater i.cost i.rule j.cost x) (sym h) k

one_entry : (normal : NormalForm) (key : NodeKey) (n : ℕ) (e f : Option Item) → IsEntryOf normal key n e → IsEntryOf normal key n f → e ≡ f
one_entry normal key n None None h k = refl
one_entry normal key n None (Some f) h k = absurd (h k.chains k.last f.cost k.candidate)
one_entry normal key n (Some e) None h k = absurd (k h.chains h.last e.cost h.candidate)
one_entry normal key n (Some e) (Some f) h k =
    let both = no_later_both e.cost f.cost e.rule f.rule
    (later_than e f (first_rule k.chains k.last) k.first (h.least k.chains k.last f.cost k.candidate))
    (later_than f e (first_rule h.chains h.last) h.first (k.least h.chains h.last e.cost h.candidate)) in
    ap Some (same_items e f both.0 both.1)

z_less : (x y : ℤ) → (x +ℤ y) <ℤ x → y <ℤ pos 0
z_less x y h = omega (arith, ints)

z_same : (x y z : ℤ) → (x +ℤ y) ≡ (x +ℤ z) → y ≡ z
z_same x y z h = omega (arith, ints)

less_sum : (a c : Cost) → IsCheaper (a ⊕ c) a → IsCheaper c no_cost
less_sum a c (inl h) = inl (omega arith)
less_sum a c (inr h) = inr (let e = h.0 in omega arith, z_less a.second c.second h.1)

cancel : (k a b : Cost) → k ⊕ a ≡ k ⊕ b → a ≡ b
cancel k a b h =
    let f : k.first + a.first ≡ k.first + b.first = ap (λ (c : Cost). c.first) h in
    let s : a.second ≡ b.second = z_same k.second a.second b.second (ap (λ (c : Cost). c.second) h) in
    let e : a.first ≡ b.first = omega arith in
    λ i. record { first = e i; second = s i }

abbrev cost_or : Option Item → Cost
cost_or None = no_cost
cost_or (Some i) = i.cost

abbrev rule_or : Option Item → ℕ
rule_or None = 0
rule_or (Some i) = i.rule

abbrev is_some : Option Item → ℕ
is_some None = 0
is_some (Some i) = 1

not_none : (i : Item) → Some i ≡ None → ⊥
not_none i h = let e : ◌≡◌ {A = ℕ} 1 0 = ap is_some h in omega (arith, e)

raised_cost : (k l : Cost) (i : Item) (o : Option Item) → raised k (Some i) ≡ raised l o → (j : Item) × (o ≡ Some j) × (k ⊕ i.cost ≡ l ⊕ j.cost) × (i.rule ≡ j.rule)
raised_cost k l i None h = absurd (not_none _ h)
raised_cost k l i (Some j) h = (j, refl, ap cost_or h, ap rule_or h)

module _ (l m : Cost) (abs abs' rel rel' : ItemRow) (same : (n : ℕ) → item_at abs n ≡ item_at abs' n) (t : IsReduced l abs rel) (t' : IsReduced m abs' rel') where
  not_cheaper : IsCheaper l m → ⊥
  not_cheaper c = go t.reached
    where
      end : ((n : ℕ) → item_at rel n ≡ None) → l ≡ no_cost → ((n : ℕ) × (j : Item) × (item_at rel' n ≡ Some j) × (j.cost ≡ no_cost)) ⊎ (((n : ℕ) → item_at rel' n ≡ None) × (m ≡ no_cost)) → ⊥
      end none ln (inl h) =
          let w = raised_cost m l h.1 (item_at rel h.0) (ap (raised m) (sym h.2) ∙ sym (t'.raised_is h.0) ∙ sym (same h.0) ∙ t.raised_is h.0) in
          not_none w.0 (sym w.1 ∙ none h.0)
      end none ln (inr h) = cheaper_not_same l m c (h.1 ∙ sym ln)

      go : ((n : ℕ) × (i : Item) × (item_at rel n ≡ Some i) × (i.cost ≡ no_cost)) ⊎ (((n : ℕ) → item_at rel n ≡ None) × (l ≡ no_cost)) → ⊥
      go (inl h) =
          let w = raised_cost l m h.1 (item_at rel' h.0) (ap (raised l) (sym h.2) ∙ sym (t.raised_is h.0) ∙ same h.0 ∙ t'.raised_is h.0) in
          let e : l ≡ m ⊕ w.0.cost = sum_none l ∙ ap (λ x. l ⊕ x) (sym h.3) ∙ w.2 in
          t'.lowest h.0 w.0 w.1 (less_sum m w.0.cost (same_cheaper (m ⊕ w.0.cost) l m (sym e) c))
      go (inr h) = end h.0 h.1 t'.reached

same_raised : (k : Cost) (o p : Option Item) → raised k o ≡ raised k p → o ≡ p
same_raised k None None h = refl
same_raised k None (Some j) h = absurd (not_none _ (sym h))
same_raised k (Some i) None h = absurd (not_none _ h)
same_raised k (Some i) (Some j) h = ap Some (same_items i j (cancel k i.cost j.cost (ap cost_or h)) (ap rule_or h))

same_rows : (xs ys : ItemRow) → length xs ≡ length ys → ((n : ℕ) → item_at xs n ≡ item_at ys n) → xs ≡ ys
same_rows [] [] l h = refl
same_rows [] (y ∷ ys) l h = absurd (let e : 0 ≡ suc (length ys) = l in omega arith)
same_rows (x ∷ xs) [] l h = absurd (let e : suc (length xs) ≡ 0 = l in omega arith)
same_rows (x ∷ xs) (y ∷ ys) l h =
    let e : suc (length xs) ≡ suc (length ys) = l in
    let k : length xs ≡ length ys = omega arith in
    let f : x ≡ y = h 0 in
    let r : xs ≡ ys = same_rows xs ys k (λ n. h (suc n)) in
    λ i. f i ∷ r i

pub one_reduced : (l m : Cost) (abs abs' rel rel' : ItemRow) → ((n : ℕ) → item_at abs n ≡ item_at abs' n) → length abs ≡ length abs' → IsReduced l abs rel → IsReduced m abs' rel' → rel ≡ rel'
one_reduced l m abs abs' rel rel' same long t t' = go (cheaper_or_not l m)
  where
    go : IsCheaper l m ⊎ ((l ≡ m) ⊎ IsCheaper m l) → rel ≡ rel'
    go (inl c) = absurd (not_cheaper l m abs abs' rel rel' same t t' c)
    go (inr (inr c)) = absurd (not_cheaper m l abs' abs rel' rel (λ n. sym (same n)) t' t c)
    go (inr (inl e)) = same_rows rel rel' (sym t.long ∙ long ∙ t'.long)
        (λ n. same_raised l (item_at rel n) (item_at rel' n) (sym (t.raised_is n) ∙ same n ∙ t'.raised_is n ∙ ap (λ k. raised k (item_at rel' n)) (sym e)))

pub follows_one : (normal : NormalForm) (key : NodeKey) (i j : Items) → Follows normal key i → Follows normal key j → i ≡ j
follows_one normal key i j f h = let e : i.entries ≡ j.entries = one_reduced f.least h.least f.absolute h.absolute i.entries j.entries same (f.is_absolute.long ∙ sym h.is_absolute.long) f.reduced h.reduced in λ k. record { entries = e k }
  where
    same : (n : ℕ) → item_at f.absolute n ≡ item_at h.absolute n
    same n = go (below_or_not n normal.nonterminals)
      where
        go : (n < normal.nonterminals) ⊎ (normal.nonterminals ≤ n) → item_at f.absolute n ≡ item_at h.absolute n
        go (inl b) = one_entry normal key n (item_at f.absolute n) (item_at h.absolute n) (f.is_absolute.each n b) (h.is_absolute.each n b)
        go (inr b) = no_entry f.absolute n (subst (λ x. x ≤ n) (sym f.is_absolute.long) b) ∙ sym (no_entry h.absolute n (subst (λ x. x ≤ n) (sym h.is_absolute.long) b))
