-- The rule of each entry is one of the normal form, so its number has room in a word.
use Rattle.std.proofs.Common.{◌≡◌, ℕ, zero, suc, ◌<◌, ◌≤◌, ◌⊎◌, inl, inr, List, [], ◌∷◌, length, ap, subst, sym, ◌∙◌, refl, Option, Some, None, arith}
use Rattle.std.proofs.lemmas.Option.{slice_get_within}
use Rattle.sel_grammar.specs.Costs.{Cost, ◌⊕◌}
use Rattle.sel_normal.specs.declared.normal.NormalRule.{NormalRule}
use Rattle.sel_normal.specs.NormalForms.{NormalForm, normal_at}
use Rattle.sel_normal.proofs.Steps.{some_same, some_none}
use Rattle.sel_items.specs.declared.items.Item.{Item}
use Rattle.sel_items.specs.Entries.{item_at, raised}
use Rattle.sel_items.specs.Follows.{NodeKey, IsCandidate, first_rule, IsEntryOf}
use Rattle.sel_items.specs.Laws.{EntriesHaveRules, FittingSetsHaveWords}
use Rattle.sel_items.specs.Words.{IsPackable}
use Rattle.sel_items.proofs.Rows.{no_entry, below_or_not}

-- the rule of this number leads from the nonterminal
abbrev IsRuleFrom : NormalForm → ℕ → ℕ → Type 0
IsRuleFrom normal n r = (rule : NormalRule) × (normal_at normal r ≡ Some rule) × (rule.left ≡ n)

candidate_rule : (normal : NormalForm) (key : NodeKey) (n : ℕ) (qs : List ℕ) (r : ℕ) (c : Cost) → IsCandidate normal key n qs r c → IsRuleFrom normal n (first_rule qs r)
candidate_rule normal key n [] r c (rule, at, left, k) = (rule, at, left)
candidate_rule normal key n (q ∷ qs) r c (rule, at, left, m) = (rule, at, left)

entry_rule : (normal : NormalForm) (key : NodeKey) (n : ℕ) (o : Option Item) (item : Item) → IsEntryOf normal key n o → o ≡ Some item → IsRuleFrom normal n item.rule
entry_rule normal key n None item h e = absurd (some_none (sym e))
entry_rule normal key n (Some i) item h e =
    subst (IsRuleFrom normal n) (sym h.first ∙ ap (λ (x : Item). x.rule) (some_same e)) (candidate_rule normal key n h.chains h.last i.cost h.candidate)

pub entries_have_rules : EntriesHaveRules
entries_have_rules normal key items n item h e = go (below_or_not n normal.nonterminals)
  where
    before : item_at h.absolute n ≡ raised h.least (Some item)
    before = (h.reduced).raised_is n ∙ ap (raised h.least) e

    go : (n < normal.nonterminals) ⊎ (normal.nonterminals ≤ n) → IsRuleFrom normal n item.rule
    go (inl b) = entry_rule normal key n (item_at h.absolute n) (record { cost = h.least ⊕ item.cost; rule = item.rule }) ((h.is_absolute).each n b) before
    go (inr b) = absurd (some_none (sym before ∙ no_entry h.absolute n (subst (λ x. x ≤ n) (sym (h.is_absolute).long) b)))

rule_within : (normal : NormalForm) (r : ℕ) (rule : NormalRule) → normal_at normal r ≡ Some rule → r ≤ length normal.rules
rule_within normal zero rule at = omega arith
rule_within normal (suc k) rule at = let h = slice_get_within normal.rules k rule at in omega arith

pub fitting_sets_have_words : FittingSetsHaveWords
fitting_sets_have_words normal key items n standing h fits = go (item_at items.entries n) refl
  where
    go : (o : Option Item) → item_at items.entries n ≡ o → IsPackable o
    go None e = tt
    go (Some item) e =
        let r = entries_have_rules normal key items n item h e in
        let l = rule_within normal item.rule r.0 r.1 in
        let few = standing.few_rules in
        (fits n item e, omega arith)
