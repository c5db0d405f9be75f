-- The item set by derivations is a node's item set: what is best is best part by part.
use Rattle.std.proofs.Common.{◌≡◌, ℕ, ◌+◌, ◌<◌, ◌⊎◌, inl, inr, List, [], ◌∷◌, ◌++◌, length, refl, ap, subst, sym, ◌∙◌, Option, Some, None, arith, ℤ, ◌+ℤ◌, ◌<ℤ◌, append-nil}
use Rattle.std.proofs.lemmas.Int.{ints}
use Rattle.sel_grammar.specs.declared.grammar.Grammar.{Grammar}
use Rattle.sel_grammar.specs.declared.grammar.Pattern.{Pattern}
use Rattle.sel_grammar.specs.Costs.{Cost, no_cost, ◌⊕◌, IsCheaper}
use Rattle.sel_grammar.specs.PlainTrees.{PlainTree}
use Rattle.sel_grammar.specs.Fits.{leaves, subtrees}
use Rattle.sel_grammar.specs.Derivations.{Derivation, Derivations, no_more, more, Derives, DeriveAll, cost, costs, list, lists}
use Rattle.sel_grammar.specs.Best.{IsBest, Beats, IsLexLess}
use Rattle.sel_grammar.specs.Firsts.{IsBefore, IsFirst, Leads, LeadAll, AllFirst}
use Rattle.sel_grammar.proofs.Order.{IsBefore-append, IsLexLess-before}
use Rattle.sel_grammar.proofs.Firsts.{DeriveAll-first, LeadAll-first}
use Rattle.sel_grammar.proofs.Words.{lists_are_words}
use Rattle.sel_normal.specs.Goals.{BeatAll, IsBestPart}
use Rattle.sel_items.specs.declared.items.Item.{Item}
use Rattle.sel_items.specs.declared.items.Items.{Items}
use Rattle.sel_items.specs.Entries.{item_at, raised}
use Rattle.sel_items.specs.Follows.{item_cost}
use Rattle.sel_items.proofs.Meanings.{EntryMeans, PartCosts, IsNodeSet}
use Rattle.sel_items.specs.ItemsOf.{SymbolMeans, PartMeans, IsItemsOf}
use Rattle.sel_normal.proofs.Steps.{some_same, some_none}

lt_left : (x y z : ℤ) → (x +ℤ z) <ℤ (y +ℤ z) → x <ℤ y
lt_left x y z h = omega (arith, ints)

lt_right : (x y z : ℤ) → (x +ℤ y) <ℤ (x +ℤ z) → y <ℤ z
lt_right x y z h = omega (arith, ints)

same_left : (x y z : ℤ) → x +ℤ z ≡ y +ℤ z → x ≡ y
same_left x y z h = omega (arith, ints)

same_right : (x y z : ℤ) → x +ℤ y ≡ x +ℤ z → y ≡ z
same_right x y z h = omega (arith, ints)

cheaper_left : (a b c : Cost) → IsCheaper (a ⊕ c) (b ⊕ c) → IsCheaper a b
cheaper_left a b c (inl h) = inl (omega arith)
cheaper_left a b c (inr h) = inr (let e = h.0 in omega arith, lt_left a.second b.second c.second h.1)

pub cheaper_right : (a b c : Cost) → IsCheaper (a ⊕ b) (a ⊕ c) → IsCheaper b c
cheaper_right a b c (inl h) = inl (omega arith)
cheaper_right a b c (inr h) = inr (let e = h.0 in omega arith, lt_right a.second b.second c.second h.1)

firsts_same : (a b : Cost) → a ≡ b → a.first ≡ b.first
firsts_same a b h = ap (λ (c : Cost). c.first) h

seconds_same : (a b : Cost) → a ≡ b → a.second ≡ b.second
seconds_same a b h = ap (λ (c : Cost). c.second) h

pub made : (a b : Cost) → a.first ≡ b.first → a.second ≡ b.second → a ≡ b
made a b h k = λ i. record { first = h i; second = k i }

cost_left : (a b c : Cost) → a ⊕ c ≡ b ⊕ c → a ≡ b
cost_left a b c h = let e = firsts_same (a ⊕ c) (b ⊕ c) h in made a b (omega arith) (same_left a.second b.second c.second (seconds_same (a ⊕ c) (b ⊕ c) h))

pub cost_right : (a b c : Cost) → a ⊕ b ≡ a ⊕ c → b ≡ c
cost_right a b c h = let e = firsts_same (a ⊕ b) (a ⊕ c) h in made b c (omega arith) (same_right a.second b.second c.second (seconds_same (a ⊕ b) (a ⊕ c) h))

not_self : (x : ℕ) → x < x → ⊥
not_self x h = absurd (omega arith)

lex_behind : (zs xs ys : List ℕ) → IsLexLess (zs ++ xs) (zs ++ ys) → IsLexLess xs ys
lex_behind [] xs ys h = h
lex_behind (z ∷ zs) xs ys (inl h) = absurd (not_self z h)
lex_behind (z ∷ zs) xs ys (inr h) = lex_behind zs xs ys h.1

lex_not_before : (xs ys : List ℕ) → IsLexLess xs ys → IsBefore ys xs → ⊥
lex_not_before [] [] h k = h
lex_not_before [] (y ∷ ys) h k = k
lex_not_before (x ∷ xs) [] h k = h
lex_not_before (x ∷ xs) (y ∷ ys) (inl h) (inl k) = absurd (omega arith)
lex_not_before (x ∷ xs) (y ∷ ys) (inl h) (inr k) = let q = k.0 in absurd (omega arith)
lex_not_before (x ∷ xs) (y ∷ ys) (inr h) (inl k) = let q = h.0 in absurd (omega arith)
lex_not_before (x ∷ xs) (y ∷ ys) (inr h) (inr k) = lex_not_before xs ys h.1 k.1

-- two lists: one is before the other at a place, or one begins the other
abbrev pub Compared : List ℕ → List ℕ → Type 0
Compared xs ys = IsBefore xs ys ⊎ (IsBefore ys xs ⊎ (((us : List ℕ) × (xs ++ us ≡ ys)) ⊎ ((us : List ℕ) × (xs ≡ ys ++ us))))

compared : (xs ys : List ℕ) → Compared xs ys
compared [] ys = inr (inr (inl (ys, refl)))
compared (x ∷ xs) [] = inr (inr (inr (x ∷ xs, refl)))
compared (x ∷ xs) (y ∷ ys) = go (three x y) (compared xs ys)
  where
    three : (a b : ℕ) → (a < b) ⊎ ((a ≡ b) ⊎ (b < a))
    three a b = grind arith

    go : (x < y) ⊎ ((x ≡ y) ⊎ (y < x)) → Compared xs ys → Compared (x ∷ xs) (y ∷ ys)
    go (inl l) c = inl (inl l)
    go (inr (inr l)) c = inr (inl (inl l))
    go (inr (inl q)) (inl c) = inl (inr (q, c))
    go (inr (inl q)) (inr (inl c)) = inr (inl (inr (sym q, c)))
    go (inr (inl q)) (inr (inr (inl c))) = inr (inr (inl (c.0, λ i. q i ∷ c.1 i)))
    go (inr (inl q)) (inr (inr (inr c))) = inr (inr (inr (c.0, λ i. q i ∷ c.1 i)))

module _ (g : Grammar) where
  -- in the order of words: before at a place, or a beginning
  lex_cases : (xs ys : List ℕ) → IsLexLess xs ys → IsBefore xs ys ⊎ ((us : List ℕ) × (xs ++ us ≡ ys))
  lex_cases [] [] h = absurd h
  lex_cases [] (y ∷ ys) h = inr (y ∷ ys, refl)
  lex_cases (x ∷ xs) [] h = absurd h
  lex_cases (x ∷ xs) (y ∷ ys) (inl h) = inl (inl h)
  lex_cases (x ∷ xs) (y ∷ ys) (inr h) = go (lex_cases xs ys h.1)
    where
      go : IsBefore xs ys ⊎ ((us : List ℕ) × (xs ++ us ≡ ys)) → IsBefore (x ∷ xs) (y ∷ ys) ⊎ ((us : List ℕ) × ((x ∷ xs) ++ us ≡ y ∷ ys))
      go (inl k) = inl (inr (h.0, k))
      go (inr (us, k)) = inr (us, λ i. h.0 i ∷ k i)

  pub IsFirst-best : (d : Derivation) (n : ℕ) (t : PlainTree) → IsBest g d n t → IsFirst g d n t
  IsFirst-best d n t b = record { derives = b.derives; leads = λ e h. go e h (b.beats e h) }
    where
      go : (e : Derivation) → Derives g e n t → (e ≡ d) ⊎ Beats g d e → Leads g d e
      go e h (inl q) = inl q
      go e h (inr (inl c)) = inr (inl c)
      go e h (inr (inr c)) = pick (lex_cases (list d) (list e) c.1)
        where
          pick : IsBefore (list d) (list e) ⊎ ((us : List ℕ) × (list d ++ us ≡ list e)) → Leads g d e
          pick (inl k) = inr (inr (c.0, k))
          pick (inr (us, k)) = inl (sym (lists_are_words g n t d e us [] b.derives h (k ∙ sym (append-nil (list e)))).0)

  -- two derivations of one tree are one, or their lists differ at a place
  apart : (d e : Derivation) (n : ℕ) (t : PlainTree) → Derives g d n t → Derives g e n t → (e ≡ d) ⊎ (IsBefore (list d) (list e) ⊎ IsBefore (list e) (list d))
  apart d e n t h k = go (compared (list d) (list e))
    where
      go : Compared (list d) (list e) → (e ≡ d) ⊎ (IsBefore (list d) (list e) ⊎ IsBefore (list e) (list d))
      go (inl c) = inr (inl c)
      go (inr (inl c)) = inr (inr c)
      go (inr (inr (inl (us, c)))) = inl (sym (lists_are_words g n t d e us [] h k (c ∙ sym (append-nil (list e)))).0)
      go (inr (inr (inr (us, c)))) = inl (sym (lists_are_words g n t d e [] us h k (append-nil (list d) ∙ c)).0)

  more_same : (d e : Derivation) (ds es : Derivations) → more d ds ≡ more e es → (d ≡ e) × (ds ≡ es)
  more_same d e ds es h = (cc, cc)

  -- kids that are best together are best one by one
  all_first : (ds : Derivations) (ns : List ℕ) (ts : List PlainTree) → DeriveAll g ds ns ts → ((es : Derivations) → DeriveAll g es ns ts → (es ≡ ds) ⊎ BeatAll g ds es) → AllFirst g ds ns ts
  all_first no_more [] [] h k = tt
  all_first no_more [] (t ∷ ts) h k = h
  all_first no_more (n ∷ ns) ts h k = h
  all_first (more d ds) [] ts h k = h
  all_first (more d ds) (n ∷ ns) [] h k = h
  all_first (more d ds) (n ∷ ns) (t ∷ ts) h k = (
    record { derives = h.0; leads = λ e w. leads e w (k (more e ds) (w, h.1)) },
    all_first ds ns ts h.1 (λ es w. rest es (k (more d es) (h.0, w))),
  )
    where
      leads : (e : Derivation) → Derives g e n t → (more e ds ≡ more d ds) ⊎ BeatAll g (more d ds) (more e ds) → Leads g d e
      leads e w (inl q) = inl (more_same e d ds ds q).0
      leads e w (inr (inl c)) = inr (inl (cheaper_left (cost g d) (cost g e) (costs g ds) c))
      leads e w (inr (inr c)) = pick (apart d e n t h.0 w)
        where
          pick : (e ≡ d) ⊎ (IsBefore (list d) (list e) ⊎ IsBefore (list e) (list d)) → Leads g d e
          pick (inl q) = inl q
          pick (inr (inl b)) = inr (inr (cost_left (cost g d) (cost g e) (costs g ds) c.0, b))
          pick (inr (inr b)) = absurd (lex_not_before (list d ++ lists ds) (list e ++ lists ds) c.1 (IsBefore-append (list e) (list d) (lists ds) (lists ds) b))

      rest : (es : Derivations) → (more d es ≡ more d ds) ⊎ BeatAll g (more d ds) (more d es) → (es ≡ ds) ⊎ BeatAll g ds es
      rest es (inl q) = inl (more_same d d es ds q).1
      rest es (inr (inl c)) = inr (inl (cheaper_right (cost g d) (costs g ds) (costs g es) c))
      rest es (inr (inr c)) = inr (inr (cost_right (cost g d) (costs g ds) (costs g es) c.0, lex_behind (list d) (lists ds) (lists es) c.1))

  symbol_entry : (n : ℕ) (t : PlainTree) (shift : Cost) (o : Option Item) → SymbolMeans g n t (raised shift o) → EntryMeans g n t shift o
  symbol_entry n t shift None h = h
  symbol_entry n t shift (Some item) h = (h.best, IsFirst-best h.best n t h.is_best, sym h.cost_is, sym h.rule_is)

  part_entry : (part : Pattern) (helper : ℕ) (t : PlainTree) (shift : Cost) (o : Option Item) → PartMeans g part helper t (raised shift o) → PartCosts g part t shift (item_cost o)
  part_entry part helper t shift None h = λ ts lies es all. h es (ts, lies, all)
  part_entry part helper t shift (Some item) h =
      let b = h.is_best in
      let w = b.derives in
      record { under = w.0; lies = w.1; kids = h.best; firsts = all_first h.best (leaves part) w.0 w.2 (λ es all. b.beats es (w.0, w.1, all)); is = sym h.cost_is }

  helper_entry : (part : Pattern) (helper : ℕ) (t : PlainTree) (shift : Cost) (o : Option Item) (item : Item) → PartMeans g part helper t (raised shift o) → o ≡ Some item → item.rule ≡ helper
  helper_entry part helper t shift None item h e = absurd (some_none (sym e))
  helper_entry part helper t shift (Some i) item h e = sym (ap (λ (x : Item). x.rule) (some_same e)) ∙ h.rule_is

-- a part's best kids one by one are best together
pub best_part : (g : Grammar) (p : Pattern) (t : PlainTree) (under : List PlainTree) (kids : Derivations) → subtrees p t ≡ Some under → AllFirst g kids (leaves p) under → IsBestPart g kids p t
best_part g p t under kids lies firsts = record {
  derives = (under, lies, DeriveAll-first g kids (leaves p) under firsts);
  beats = λ es w.
      let same : w.0 ≡ under = some_same (sym w.1 ∙ lies) in
      beat es (LeadAll-first g kids es (leaves p) under firsts (subst (λ ts. DeriveAll g es (leaves p) ts) same w.2));
}
  where
    beat : (es : Derivations) → LeadAll g kids es → (es ≡ kids) ⊎ BeatAll g kids es
    beat es (inl q) = inl q
    beat es (inr (inl q)) = inr (inl q)
    beat es (inr (inr q)) = inr (inr (q.0, IsLexLess-before (lists kids) (lists es) q.1))

pub items_are_nodes : (g : Grammar) (t : PlainTree) (items : Items) → IsItemsOf g t items → IsNodeSet g t items
items_are_nodes g t items h = record {
  shift = h.least;
  long = sym (h.reduced).long ∙ h.long;
  means = record {
    symbols = λ n l. symbol_entry g n t h.least (item_at items.entries n) (subst (SymbolMeans g n t) ((h.reduced).raised_is n) (h.symbols n l));
    parts = λ j part there.
        let n = length g.nonterminals + j in
        part_entry g part (length g.rules + j + 1) t h.least (item_at items.entries n) (subst (PartMeans g part (length g.rules + j + 1) t) ((h.reduced).raised_is n) (h.parts j part there));
    helpers = λ j part item there e.
        let n = length g.nonterminals + j in
        helper_entry g part (length g.rules + j + 1) t h.least (item_at items.entries n) item (subst (PartMeans g part (length g.rules + j + 1) t) ((h.reduced).raised_is n) (h.parts j part there)) e;
  };
  lowest = (h.reduced).lowest;
  reached = go (h.reduced).reached;
}
  where
    go : ((n : ℕ) × (item : Item) × (item_at items.entries n ≡ Some item) × (item.cost ≡ no_cost)) ⊎ (((n : ℕ) → item_at items.entries n ≡ None) × (h.least ≡ no_cost))
        → ((n : ℕ) × (item : Item) × (item_at items.entries n ≡ Some item) × (item.cost ≡ no_cost)) ⊎ ((n : ℕ) → item_at items.entries n ≡ None)
    go (inl k) = inl k
    go (inr k) = inr k.0
