-- The item set of a tree follows from its key: a best derivation costs what a candidate does and what was taken away from the kids' item sets.
use Rattle.std.proofs.Common.{◌≡◌, ℕ, ◌+◌, ◌<◌, ◌≤◌, ◌⊎◌, inl, inr, List, [], ◌∷◌, length, map, refl, ap, subst, sym, ◌∙◌, Option, Some, None, true, ◌==◌, if◌then◌else◌, slice_get, arith}
use Rattle.std.proofs.lemmas.List.{length-map}
use Rattle.sel_grammar.specs.declared.grammar.Grammar.{Grammar}
use Rattle.sel_grammar.specs.declared.grammar.Rule.{Rule}
use Rattle.sel_grammar.specs.declared.grammar.Pattern.{Pattern, Leaf}
use Rattle.sel_grammar.specs.Costs.{Cost, no_cost, ◌⊕◌, IsCheaper, paid, price}
use Rattle.sel_grammar.specs.PlainTrees.{PlainTree, attribute_of}
use Rattle.sel_grammar.specs.Fits.{leaves, subtrees, fits, rule_at, in_range}
use Rattle.sel_grammar.specs.Derivations.{Derivation, Deriv, Derivations, no_more, more, Derives, DeriveAll, rule_cost, cost, costs, list}
use Rattle.sel_grammar.specs.Best.{IsBest, Beats, IsLexLess}
use Rattle.sel_grammar.specs.Firsts.{AllFirst}
use Rattle.sel_grammar.proofs.CostLaws.{right_cheaper, same_sums, sum_none, sum_assoc, sum_swap, cheaper_not_both, cheaper_not_same, cheaper_same, same_cheaper}
use Rattle.sel_grammar.proofs.Firsts.{DeriveAll-first, LeadAll-first, no_dearer}
use Rattle.sel_grammar.proofs.Closure.{IsOperator, EachKid, by_kids, kid_of, chain_or_not, fits_chain}
use Rattle.sel_grammar.proofs.FreshChains.{chain_cost}
use Rattle.sel_normal.specs.declared.normal.NormalRule.{NormalRule}
use Rattle.sel_normal.specs.NormalForms.{NormalForm, normal_at}
use Rattle.sel_normal.specs.Forms.{places, test_number}
use Rattle.sel_normal.specs.Cuts.{CutUser, CutHelper}
use Rattle.sel_normal.proofs.Steps.{some_same, some_none}
use Rattle.sel_items.specs.declared.items.Item.{Item}
use Rattle.sel_items.specs.declared.items.Items.{Items}
use Rattle.sel_items.specs.Entries.{item_at, NoLater, raised}
use Rattle.sel_items.specs.Follows.{NodeKey, test_holds, cost_of_kids, operator_cost, IsCandidate, first_rule, IsEntryOf, Follows}
use Rattle.sel_items.specs.ItemsOf.{root_rule, SymbolMeans, PartMeans, IsItemsOf}
use Rattle.sel_items.proofs.Meanings.{operator_of, HasPart, PartCosts, IsTreeKey}
use Rattle.sel_items.proofs.GoalKids.{op_of, first_kid, second_kid}
use Rattle.sel_items.proofs.KeyRules.{fitting_parts, chain_body, shifted_price, none_plus, left_is, cost_is, body_of, chain_rule, helper_free, priced_by, price_of, known, tested, user_rule, part_candidate, part_known}
use Rattle.sel_items.proofs.Rows.{item_at-map, no_entry, below_or_not}
use Rattle.sel_items.proofs.BestParts.{best_part, cheaper_right, cost_right}
use Rattle.sel_items.proofs.OneItems.{one_kids, by_goals}

same_le : (a b c : ℕ) → a ≡ b → a ≡ c → c ≤ b
same_le a b c h k = omega arith

le_same : (a b c : ℕ) → a ≤ b → b ≡ c → a ≤ c
le_same a b c h k = omega arith

root_first : (d e : Derivation) → IsLexLess (list d) (list e) → root_rule d ≤ root_rule e
root_first (Deriv r ds) (Deriv s es) (inl h) = omega arith
root_first (Deriv r ds) (Deriv s es) (inr h) = let q = h.0 in omega arith

raised_twice : (a b l : Cost) (o : Option Item) → l ≡ a ⊕ b → raised l o ≡ raised a (raised b o)
raised_twice a b l None h = refl
raised_twice a b l (Some item) h = ap (λ (c : Cost). Some (record { cost = c; rule = item.rule })) (ap (λ c. c ⊕ item.cost) h ∙ sum_assoc a b item.cost)

module _ (g : Grammar) (normal : NormalForm) (key : NodeKey) (t : PlainTree) (shift : Cost) (over : IsTreeKey g normal key t shift) where
  abbrev users : ℕ
  users = length g.nonterminals

  -- a derivation for a candidate's cost and first rule
  abbrev HasDerivation : ℕ → Cost → ℕ → Type 0
  HasDerivation n c r = (d : Derivation) × Derives g d n t × (cost g d ≡ shift ⊕ c) × (root_rule d ≡ r)

  priced : (rule : Rule) (nr : NormalRule) (a k c : Cost) → CutUser g normal rule nr → a ≡ shift ⊕ k → c ≡ paid nr.cost ⊕ k → price rule ⊕ a ≡ shift ⊕ c
  priced rule nr a k c u h is = shifted_price shift (price rule) a k h ∙ same_sums shift shift (price rule ⊕ k) c refl (sym (is ∙ ap (λ p. p ⊕ k) (cost_is rule nr u)))

  derived_operator : (n r : ℕ) (nr : NormalRule) (k c : Cost) → normal_at normal r ≡ Some nr → nr.left ≡ n → operator_cost normal key nr.body ≡ Some k → c ≡ paid nr.cost ⊕ k
      → (rule : Rule) → rule_at g r ≡ Some rule → (u : CutUser g normal rule nr) → ((m : ℕ) × (rule.pattern ≡ Leaf m)) ⊎ IsOperator rule → HasDerivation n c r
  derived_operator n r nr k c at left costs_k is rule there u (inl (m, chain)) =
      absurd (some_none (sym costs_k ∙ ap (operator_cost normal key) (body_of rule nr u ∙ chain_body u.number (test_number u.test rule.range) rule.pattern m chain)))
  derived_operator n r nr k c at left costs_k is rule there u (inr op) =
      let w = price_of over nr u.number (test_number u.test rule.range) rule.pattern k (body_of rule nr u) op costs_k in
      let p : HasPart g rule.pattern t shift k = subst (PartCosts g rule.pattern t shift) w.1 (known over rule.pattern u.number op u.below) in
      let fit : fits rule t ≡ Some (p.under) = ap (λ b. if b then subtrees rule.pattern t else None) (sym (tested over r rule nr p.under u there p.lies) ∙ w.0) ∙ p.lies in (
        Deriv r p.kids,
        (rule, there, sym (left_is rule nr u) ∙ left, (p.under, fit, DeriveAll-first g p.kids (leaves rule.pattern) p.under p.firsts)),
        ap (λ o. rule_cost o ⊕ costs g p.kids) there ∙ priced rule nr (costs g p.kids) k c u p.is is,
        refl,
      )

  -- each candidate of a user's nonterminal has one
  derived : (n : ℕ) (qs : List ℕ) (r : ℕ) (c : Cost) → n < users → IsCandidate normal key n qs r c → HasDerivation n c (first_rule qs r)
  derived n [] r c low (nr, at, left, (k, costs_k, is)) =
      let u = user_rule over n r nr low at left in derived_operator n r nr k c at left costs_k is u.0 u.1 u.2 (chain_or_not u.0.pattern)
  derived n (q ∷ qs) r c low (nr, at, left, (m, body, (k, w, is))) =
      let u = user_rule over n q nr low at left in
      let ch = chain_rule u.0 nr m u.2 body in
      go u.0 u.1 u.2 ch.0 (derived m qs r k ch.1 w)
    where
      go : (rule : Rule) → rule_at g q ≡ Some rule → CutUser g normal rule nr → rule.pattern ≡ Leaf m → HasDerivation m k (first_rule qs r) → HasDerivation n c q
      go rule there u leaf (d, h, costs_d, root) =
          let fit : fits rule t ≡ Some (t ∷ []) =
          ap (λ b. if b then subtrees rule.pattern t else None) (ap (λ x. in_range x (attribute_of t)) (over.chains_open q rule m there leaf)) ∙ ap (λ p. subtrees p t) leaf in (
            Deriv q (more d no_more),
            (rule, there, sym (left_is rule nr u) ∙ left, (t ∷ [], fit, subst (λ ns. DeriveAll g (more d no_more) ns (t ∷ [])) (sym (ap leaves leaf)) (h, tt))),
            chain_cost g q rule d there ∙ priced rule nr (cost g d) k c u costs_d is,
            refl,
          )

  -- a candidate that begins with the rule and is no dearer
  abbrev NotAbove : Cost → Cost → Type 0
  NotAbove c a = (shift ⊕ c ≡ a) ⊎ IsCheaper (shift ⊕ c) a

  abbrev HasCandidate : ℕ → Cost → ℕ → Type 0
  HasCandidate n a s = (qs : List ℕ) × (r : ℕ) × (c : Cost) × IsCandidate normal key n qs r c × NotAbove c a × (first_rule qs r ≡ s)

  abbrev IsMatched : Derivation → Type 0
  IsMatched d = (n : ℕ) → Derives g d n t → HasCandidate n (cost g d) (root_rule d)

  not_above : (p c a b : Cost) → NotAbove c a → b ≡ p ⊕ a → NotAbove (p ⊕ c) b
  not_above p c a b (inl q) is = inl (sum_swap shift p c ∙ same_sums p p (shift ⊕ c) a refl q ∙ sym is)
  not_above p c a b (inr q) is = inr (same_cheaper (shift ⊕ (p ⊕ c)) (p ⊕ (shift ⊕ c)) b (sum_swap shift p c) (cheaper_same (p ⊕ (shift ⊕ c)) (p ⊕ a) b (right_cheaper p p (shift ⊕ c) a refl q) (sym is)))

  matched_chain : (r : ℕ) (es : Derivations) (n m : ℕ) (rule : Rule) → EachKid IsMatched es → rule_at g r ≡ Some rule → rule.left ≡ n → rule.pattern ≡ Leaf m → DeriveAll g es (m ∷ []) (t ∷ []) → HasCandidate n (cost g (Deriv r es)) r
  matched_chain r es n m rule each at left leaf all = let u = (over.cut).user r rule at in go u.0 u.1 u.2 (kid_of g t IsMatched es m all each)
    where
      go : (nr : NormalRule) → normal_at normal r ≡ Some nr → CutUser g normal rule nr → (e : Derivation) × (es ≡ more e no_more) × Derives g e m t × IsMatched e → HasCandidate n (cost g (Deriv r es)) r
      go nr there k (e, is, derives, f) =
          let (qs, s, c, w, low, root) = f m derives in (
            r ∷ qs,
            s,
            price rule ⊕ c,
            (nr, there, left_is rule nr k ∙ left, (m, body_of rule nr k ∙ chain_body k.number (test_number k.test rule.range) rule.pattern m leaf, (c, w, ap (λ p. p ⊕ c) (sym (cost_is rule nr k))))),
            not_above (price rule) c (cost g e) (cost g (Deriv r es)) low (ap (λ x. cost g (Deriv r x)) is ∙ chain_cost g r rule e at),
            refl,
          )

  matched_operator : (r : ℕ) (es : Derivations) (n : ℕ) (rule : Rule) (ts : List PlainTree) → rule_at g r ≡ Some rule → rule.left ≡ n → IsOperator rule → fits rule t ≡ Some ts → DeriveAll g es (leaves rule.pattern) ts → HasCandidate n (cost g (Deriv r es)) r
  matched_operator r es n rule ts at left op fit all =
      let u = (over.cut).user r rule at in
      let f = fitting_parts (in_range rule.range (attribute_of t)) (subtrees rule.pattern t) ts fit in
      go u.0 u.1 u.2 f.1 (tested over r rule u.0 ts u.2 at f.1 ∙ f.0)
    where
      go : (nr : NormalRule) → normal_at normal r ≡ Some nr → (k : CutUser g normal rule nr) → subtrees rule.pattern t ≡ Some ts → test_holds normal.tests key.class (test_number k.test rule.range) ≡ true → HasCandidate n (cost g (Deriv r es)) r
      go nr there k lies pass = held _ refl (known over rule.pattern k.number op k.below)
        where
          held : (x : Option Cost) → (if op_of rule.pattern == operator_of t then cost_of_kids (first_kid k.number rule.pattern) (second_kid k.number rule.pattern) key.kids else None) ≡ x → PartCosts g rule.pattern t shift x → HasCandidate n (cost g (Deriv r es)) r
          held None e none = absurd (none ts lies es all)
          held (Some x) e h =
              let firsts : AllFirst g h.kids (leaves rule.pattern) ts = subst (λ u. AllFirst g h.kids (leaves rule.pattern) u) (some_same (sym h.lies ∙ lies)) h.firsts in
              let low : NotAbove x (costs g es) = subst (λ y. (y ≡ costs g es) ⊎ IsCheaper y (costs g es)) h.is (no_dearer g h.kids es (LeadAll-first g h.kids es (leaves rule.pattern) ts firsts all)) in (
                [],
                r,
                price rule ⊕ x,
                (nr, there, left_is rule nr k ∙ left, (x, priced_by over nr k.number (test_number k.test rule.range) rule.pattern (body_of rule nr k) op pass ∙ e, ap (λ p. p ⊕ x) (sym (cost_is rule nr k)))),
                not_above (price rule) x (costs g es) (cost g (Deriv r es)) low (ap (λ o. rule_cost o ⊕ costs g es) at),
                refl,
              )

  -- each derivation has one
  matched : (d : Derivation) → IsMatched d
  matched = by_kids IsMatched go
    where
      go : (r : ℕ) (es : Derivations) → EachKid IsMatched es → IsMatched (Deriv r es)
      go r es each n (rule, at, left, (ts, fit, all)) = by_pattern (chain_or_not rule.pattern)
        where
          by_pattern : ((m : ℕ) × (rule.pattern ≡ Leaf m)) ⊎ IsOperator rule → HasCandidate n (cost g (Deriv r es)) r
          by_pattern (inl (m, leaf)) =
              matched_chain r es n m rule each at left leaf (subst (λ xs. DeriveAll g es (m ∷ []) xs) (fits_chain rule t m ts leaf fit) (subst (λ ns. DeriveAll g es ns ts) (ap leaves leaf) all))
          by_pattern (inr op) = matched_operator r es n rule ts at left op fit all

  -- that of a best one costs the same
  abbrev HasSame : ℕ → Derivation → Type 0
  HasSame n d = (qs : List ℕ) × (r : ℕ) × (c : Cost) × IsCandidate normal key n qs r c × (cost g d ≡ shift ⊕ c) × (first_rule qs r ≡ root_rule d)

  not_below : (n : ℕ) (d : Derivation) (c : Cost) (r : ℕ) → IsBest g d n t → HasDerivation n c r → IsCheaper (shift ⊕ c) (cost g d) → ⊥
  not_below n d c r b (e, h, is, root) low = go (b.beats e h)
    where
      go : (e ≡ d) ⊎ Beats g d e → ⊥
      go (inl q) = cheaper_not_same (shift ⊕ c) (cost g d) low (ap (cost g) (sym q) ∙ is)
      go (inr (inl x)) = cheaper_not_both (shift ⊕ c) (cost g d) low (cheaper_same (cost g d) (cost g e) (shift ⊕ c) x is)
      go (inr (inr x)) = cheaper_not_same (shift ⊕ c) (cost g d) low (x.0 ∙ is)

  best_candidate : (n : ℕ) (d : Derivation) → n < users → IsBest g d n t → HasSame n d
  best_candidate n d low b = go (matched d n b.derives)
    where
      go : HasCandidate n (cost g d) (root_rule d) → HasSame n d
      go (qs, r, c, w, inl q, root) = (qs, r, c, w, sym q, root)
      go (qs, r, c, w, inr q, root) = absurd (not_below n d c (first_rule qs r) b (derived n qs r c low w) q)

  best_no_later : (n : ℕ) (d : Derivation) (c : Cost) → IsBest g d n t → cost g d ≡ shift ⊕ c → (k : Cost) (s : ℕ) → HasDerivation n k s → NoLater c (root_rule d) k s
  best_no_later n d c b is k s (e, h, costs_e, root) = go (b.beats e h)
    where
      go : (e ≡ d) ⊎ Beats g d e → NoLater c (root_rule d) k s
      go (inl q) = inr (cost_right shift c k (sym is ∙ ap (cost g) (sym q) ∙ costs_e), same_le (root_rule e) s (root_rule d) root (ap root_rule q))
      go (inr (inl x)) = inl (cheaper_right shift c k (same_cheaper (shift ⊕ c) (cost g d) (shift ⊕ k) (sym is) (cheaper_same (cost g d) (cost g e) (shift ⊕ k) x costs_e)))
      go (inr (inr x)) = inr (cost_right shift c k (sym is ∙ x.0 ∙ costs_e), le_same (root_rule d) (root_rule e) s (root_first d e x.1) root)

  symbol_back : (n : ℕ) → n < users → (o : Option Item) → SymbolMeans g n t (raised shift o) → IsEntryOf normal key n o
  symbol_back n low None h = λ qs r c w. let d = derived n qs r c low w in h d.0 d.1
  symbol_back n low (Some item) h = go (best_candidate n h.best low h.is_best)
    where
      go : HasSame n h.best → IsEntryOf normal key n (Some item)
      go (qs, r, c, w, is, root) = record {
        chains = qs;
        last = r;
        candidate = subst (λ x. IsCandidate normal key n qs r x) (cost_right shift c item.cost (sym is ∙ sym h.cost_is)) w;
        first = h.rule_is ∙ sym root;
        least = λ ps s k v. subst (λ x. NoLater item.cost x k (first_rule ps s)) (sym h.rule_is) (best_no_later n h.best item.cost h.is_best (sym h.cost_is) k (first_rule ps s) (derived n ps s k low v));
      }

  -- the best at a part costs what the key says
  same_part : (part : Pattern) (helper : ℕ) (item : Item) (x : Cost) → PartMeans g part helper t (Some item) → HasPart g part t shift x → item.cost ≡ shift ⊕ x
  same_part part helper item x h p = h.cost_is ∙ ap (costs g) (one_kids g part t h.best p.kids h.is_best (best_part g part t p.under p.kids p.lies p.firsts)) ∙ p.is

  module _ (j : ℕ) (part : Pattern) (there : slice_get (places g.rules) j ≡ Some part) where
    abbrev PartEntry : Option Item → Type 0
    PartEntry o = PartMeans g part (length g.rules + j + 1) t o

    one_price : (nr : NormalRule) (x : Cost) → CutHelper g j part nr → operator_cost normal key nr.body ≡ Some x → (qs : List ℕ) (r : ℕ) (k : Cost) → IsCandidate normal key (users + j) qs r k → (x ≡ k) × (first_rule qs r ≡ length g.rules + j + 1)
    one_price nr x c e qs r k w =
        let v = part_candidate over j part there qs r k w in
        let y = v.2 in
        (some_same (sym e ∙ ap (λ (z : NormalRule). operator_cost normal key z.body) (c.is ∙ sym (y.1).is) ∙ y.2), ap (λ l. first_rule l r) v.0 ∙ v.1)

    part_back : (o : Option Item) → PartEntry (raised shift o) → IsEntryOf normal key (users + j) o
    part_back None h = λ qs r c w.
        let x = (part_candidate over j part there qs r c w).2 in
        let p : HasPart g part t shift c = subst (PartCosts g part t shift) x.2 (part_known over j part x.0 x.1) in
        h p.kids (p.under, p.lies, DeriveAll-first g p.kids (leaves part) p.under p.firsts)
    part_back (Some item) h = let n = (over.cut).helper j part there in go n.0 n.1 n.2 (operator_cost normal key n.0.body) refl (part_known over j part n.0 n.2)
      where
        go : (nr : NormalRule) → normal_at normal (length g.rules + j + 1) ≡ Some nr → CutHelper g j part nr → (x : Option Cost) → operator_cost normal key nr.body ≡ x → PartCosts g part t shift x → IsEntryOf normal key (users + j) (Some item)
        go nr at c None e none = let d = (h.is_best).derives in absurd (none d.0 d.1 h.best d.2)
        go nr at c (Some x) e p =
            let same : item.cost ≡ x = cost_right shift item.cost x (same_part part (length g.rules + j + 1) (record { cost = shift ⊕ item.cost; rule = item.rule }) x h p) in record {
              chains = [];
              last = length g.rules + j + 1;
              candidate = (nr, at, ap (λ (y : NormalRule). y.left) c.is, (x, e, same ∙ sym (ap (λ p. p ⊕ x) (helper_free j part nr c) ∙ none_plus x)));
              first = h.rule_is;
              least = λ qs r k w. let o = one_price nr x c e qs r k w in inr (same ∙ o.0, same_le (length g.rules + j + 1) (first_rule qs r) item.rule (sym o.1) (sym h.rule_is));
            }

    part_shifted : (o : Option Item) (item : Item) → PartEntry o → o ≡ Some item → (c : Cost) × (item.cost ≡ shift ⊕ c)
    part_shifted None item h e = absurd (some_none (sym e))
    part_shifted (Some i) item h e = let n = (over.cut).helper j part there in go (operator_cost normal key n.0.body) (part_known over j part n.0 n.2)
      where
        go : (x : Option Cost) → PartCosts g part t shift x → (c : Cost) × (item.cost ≡ shift ⊕ c)
        go None none = let d = (h.is_best).derives in absurd (none d.0 d.1 h.best d.2)
        go (Some x) p = (x, ap (λ (y : Item). y.cost) (sym (some_same e)) ∙ same_part part (length g.rules + j + 1) i x h p)

  symbol_shifted : (n : ℕ) → n < users → (o : Option Item) (item : Item) → SymbolMeans g n t o → o ≡ Some item → (c : Cost) × (item.cost ≡ shift ⊕ c)
  symbol_shifted n low None item h e = absurd (some_none (sym e))
  symbol_shifted n low (Some i) item h e = go (best_candidate n h.best low h.is_best)
    where
      go : HasSame n h.best → (c : Cost) × (item.cost ≡ shift ⊕ c)
      go (qs, r, c, w, is, root) = (c, ap (λ (y : Item). y.cost) (sym (some_same e)) ∙ h.cost_is ∙ is)

  module _ (items : Items) (h : IsItemsOf g t items) where
    entry_back : (n : ℕ) → n < users + length (places g.rules) → (o : Option Item) → item_at h.absolute n ≡ raised shift o → IsEntryOf normal key n o
    entry_back = by_goals g (λ n. (o : Option Item) → item_at h.absolute n ≡ raised shift o → IsEntryOf normal key n o)
        (λ n b o is. symbol_back n b o (subst (SymbolMeans g n t) is (h.symbols n b)))
        (λ j part there o is. part_back j part there o (subst (PartMeans g part (length g.rules + j + 1) t) is (h.parts j part there)))

    entry_shifted : (n : ℕ) → n < users + length (places g.rules) → (item : Item) → item_at h.absolute n ≡ Some item → (c : Cost) × (item.cost ≡ shift ⊕ c)
    entry_shifted = by_goals g (λ n. (item : Item) → item_at h.absolute n ≡ Some item → (c : Cost) × (item.cost ≡ shift ⊕ c))
        (λ n b item e. symbol_shifted n b (item_at h.absolute n) item (h.symbols n b) e)
        (λ j part there item e. part_shifted j part there (item_at h.absolute (users + j)) item (h.parts j part there) e)

    abbrev IsReached : Cost → Type 0
    IsReached c = ((n : ℕ) × (item : Item) × (item_at items.entries n ≡ Some item) × (item.cost ≡ no_cost)) ⊎ (((n : ℕ) → item_at items.entries n ≡ None) × (c ≡ no_cost))

    made : (c : Cost) → ((n : ℕ) → item_at h.absolute n ≡ raised shift (raised c (item_at items.entries n))) → IsReached c → Follows normal key items
    made c is r = record {
      absolute = map (raised c) items.entries;
      least = c;
      is_absolute = record {
        long = length-map items.entries (raised c) ∙ sym (h.reduced).long ∙ h.long ∙ sym over.width;
        each = λ n low. entry_back n (subst (λ w. n < w) over.width low) (item_at (map (raised c) items.entries) n) (is n ∙ ap (raised shift) (sym (item_at-map (raised c) items.entries n refl)));
      };
      reduced = record { long = length-map items.entries (raised c); raised_is = λ n. item_at-map (raised c) items.entries n refl; lowest = (h.reduced).lowest; reached = r };
    }

    pub follows_back : Follows normal key items
    follows_back = go (h.reduced).reached
      where
        inside : (n : ℕ) (item : Item) → item_at h.absolute n ≡ Some item → n < users + length (places g.rules)
        inside n item e = pick (below_or_not n (users + length (places g.rules)))
          where
            pick : (n < users + length (places g.rules)) ⊎ (users + length (places g.rules) ≤ n) → n < users + length (places g.rules)
            pick (inl b) = b
            pick (inr b) = absurd (some_none (sym e ∙ no_entry h.absolute n (subst (λ x. x ≤ n) (sym h.long) b)))

        least_shifted : (n : ℕ) (item : Item) → item_at items.entries n ≡ Some item → item.cost ≡ no_cost → (c : Cost) × (h.least ≡ shift ⊕ c)
        least_shifted n item at free =
            let e : item_at h.absolute n ≡ raised h.least (Some item) = (h.reduced).raised_is n ∙ ap (raised h.least) at in
            let w = entry_shifted n (inside n (record { cost = h.least ⊕ item.cost; rule = item.rule }) e) (record { cost = h.least ⊕ item.cost; rule = item.rule }) e in
            (w.0, sum_none h.least ∙ ap (λ x. h.least ⊕ x) (sym free) ∙ w.1)

        go : IsReached h.least → Follows normal key items
        go (inl (n, item, at, free)) =
            let w = least_shifted n item at free in
            made w.0 (λ m. (h.reduced).raised_is m ∙ raised_twice shift w.0 h.least (item_at items.entries m) w.1) (inl (n, item, at, free))
        go (inr (none, free)) = made no_cost (λ m. (h.reduced).raised_is m ∙ ap (raised h.least) (none m) ∙ sym (ap (λ o. raised shift (raised no_cost o)) (none m))) (inr (none, refl))
