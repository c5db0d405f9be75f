-- A tree has at most one item set.
use Rattle.std.proofs.Common.{arith, ◌≡◌, ℕ, ◌+◌, ◌-◌, ◌<◌, ◌≤◌, ◌⊎◌, inl, inr, refl, ap, sym, ◌∙◌, subst, Option, Some, None, List, [], ◌∷◌, length, slice_get, zero, suc}
use Rattle.sel_grammar.specs.declared.grammar.Grammar.{Grammar}
use Rattle.sel_grammar.specs.declared.grammar.Pattern.{Pattern}
use Rattle.sel_grammar.specs.PlainTrees.{PlainTree}
use Rattle.sel_grammar.specs.Derivations.{Derivations, cost, costs, lists}
use Rattle.sel_grammar.specs.Best.{IsLexLess}
use Rattle.sel_grammar.proofs.One.{best_one, less_not_both}
use Rattle.sel_grammar.proofs.CostLaws.{cheaper_not_both, cheaper_not_same}
use Rattle.sel_normal.specs.Forms.{places}
use Rattle.sel_normal.specs.Goals.{BeatAll, IsBestPart}
use Rattle.sel_items.specs.declared.items.Item.{Item}
use Rattle.sel_items.specs.declared.items.Items.{Items}
use Rattle.sel_items.specs.Entries.{item_at}
use Rattle.sel_items.specs.ItemsOf.{root_rule, SymbolMeans, PartMeans, IsItemsOf}
use Rattle.sel_items.proofs.Rows.{no_entry, below_or_not}
use Rattle.sel_items.proofs.OneSet.{same_items, one_reduced}

all_not_both : (g : Grammar) (d e : Derivations) → BeatAll g d e → BeatAll g e d → ⊥
all_not_both g d e (inl h) (inl k) = cheaper_not_both (costs g d) (costs g e) h k
all_not_both g d e (inl h) (inr k) = cheaper_not_same (costs g d) (costs g e) h k.0
all_not_both g d e (inr h) (inl k) = cheaper_not_same (costs g e) (costs g d) k h.0
all_not_both g d e (inr h) (inr k) = less_not_both (lists d) (lists e) h.1 k.1

pub one_kids : (g : Grammar) (p : Pattern) (t : PlainTree) (d e : Derivations) → IsBestPart g d p t → IsBestPart g e p t → d ≡ e
one_kids g p t d e f h = go (f.beats e h.derives) (h.beats d f.derives)
  where
    go : (e ≡ d) ⊎ BeatAll g d e → (d ≡ e) ⊎ BeatAll g e d → d ≡ e
    go (inl q) k = sym q
    go (inr q) (inl k) = k
    go (inr q) (inr k) = absurd (all_not_both g d e q k)

one_symbol : (g : Grammar) (n : ℕ) (t : PlainTree) (e f : Option Item) → SymbolMeans g n t e → SymbolMeans g n t f → e ≡ f
one_symbol g n t None None h k = refl
one_symbol g n t None (Some f) h k = absurd (h k.best (k.is_best).derives)
one_symbol g n t (Some e) None h k = absurd (k h.best (h.is_best).derives)
one_symbol g n t (Some e) (Some f) h k =
    let d : h.best ≡ k.best = best_one g n t h.best k.best h.is_best k.is_best in
    ap Some (same_items e f (h.cost_is ∙ ap (cost g) d ∙ sym k.cost_is) (h.rule_is ∙ ap root_rule d ∙ sym k.rule_is))

one_part : (g : Grammar) (p : Pattern) (r : ℕ) (t : PlainTree) (e f : Option Item) → PartMeans g p r t e → PartMeans g p r t f → e ≡ f
one_part g p r t None None h k = refl
one_part g p r t None (Some f) h k = absurd (h k.best (k.is_best).derives)
one_part g p r t (Some e) None h k = absurd (k h.best (h.is_best).derives)
one_part g p r t (Some e) (Some f) h k =
    let d : h.best ≡ k.best = one_kids g p t h.best k.best h.is_best k.is_best in
    ap Some (same_items e f (h.cost_is ∙ ap (costs g) d ∙ sym k.cost_is) (h.rule_is ∙ sym k.rule_is))

pub there : {A : Type 0} (xs : List A) (j : ℕ) → j < length xs → (x : A) × (slice_get xs j ≡ Some x)
there [] j h = absurd (let e : j < 0 = h in omega arith)
there (x ∷ xs) zero h = (x, refl)
there (x ∷ xs) (suc j) h = there xs j (let e : suc j < suc (length xs) = h in omega arith)

-- what holds at each nonterminal and at each inner part holds at each place
pub by_goals : (g : Grammar) (P : ℕ → Type 0) → ((n : ℕ) → n < length g.nonterminals → P n) → ((j : ℕ) (part : Pattern) → slice_get (places g.rules) j ≡ Some part → P (length g.nonterminals + j)) → (n : ℕ) → n < length g.nonterminals + length (places g.rules) → P n
by_goals g P symbols parts n h = go (below_or_not n (length g.nonterminals))
  where
    go : (n < length g.nonterminals) ⊎ (length g.nonterminals ≤ n) → P n
    go (inl b) = symbols n b
    go (inr b) =
        let w = there (places g.rules) (n - length g.nonterminals) (omega arith) in
        let e : length g.nonterminals + (n - length g.nonterminals) ≡ n = omega arith in
        subst P e (parts (n - length g.nonterminals) w.0 w.1)

pub items_one : (g : Grammar) (t : PlainTree) (i j : Items) → IsItemsOf g t i → IsItemsOf g t j → i ≡ j
items_one g t i j f h = let e : i.entries ≡ j.entries = one_reduced f.least h.least f.absolute h.absolute i.entries j.entries same (f.long ∙ sym h.long) f.reduced h.reduced in λ k. record { entries = e k }
  where
    inside : (n : ℕ) → n < length g.nonterminals + length (places g.rules) → item_at f.absolute n ≡ item_at h.absolute n
    inside = by_goals g (λ n. item_at f.absolute n ≡ item_at h.absolute n)
        (λ n b. one_symbol g n t (item_at f.absolute n) (item_at h.absolute n) (f.symbols n b) (h.symbols n b))
        (λ k part at.
        let n = length g.nonterminals + k in
        one_part g part (length g.rules + k + 1) t (item_at f.absolute n) (item_at h.absolute n) (f.parts k part at) (h.parts k part at))

    same : (n : ℕ) → item_at f.absolute n ≡ item_at h.absolute n
    same n = go (below_or_not n (length g.nonterminals + length (places g.rules)))
      where
        go : (n < length g.nonterminals + length (places g.rules)) ⊎ (length g.nonterminals + length (places g.rules) ≤ n) → item_at f.absolute n ≡ item_at h.absolute n
        go (inl c) = inside n c
        go (inr c) = no_entry f.absolute n (subst (λ x. x ≤ n) (sym f.long) c) ∙ sym (no_entry h.absolute n (subst (λ x. x ≤ n) (sym h.long) c))
