-- Loops over rules from the front: what the rest keeps.
use Rattle.std.proofs.Common.{◌≡◌, ℕ, zero, suc, ◌+◌, ◌≤◌, List, [], ◌∷◌, ◌++◌, length, refl, ap, sym, ◌∙◌, subst, slice_get, Option, Some, None, append_assoc, append-nil, arith, length-append}
use Rattle.sel_base.specs.declared.range.Range.{Range}
use Rattle.sel_grammar.specs.declared.grammar.Grammar.{Grammar}
use Rattle.sel_grammar.specs.declared.grammar.Rule.{Rule}
use Rattle.sel_grammar.specs.declared.grammar.Pattern.{Pattern}
use Rattle.sel_grammar.specs.declared.refusal.GrammarFault.{GrammarFault}
use Rattle.sel_grammar.specs.declared.refusal.GrammarRefusal.{GrammarRefusal}
use Rattle.sel_grammar.specs.declared.refusal.GrammarRefusal.TheVariants.{Fault}
use Rattle.sel_grammar.specs.Lawful.{IsRuleOf}
use Rattle.sel_normal.specs.NormalFaults.{IsNormalFault, NormalRefusedFor}
use Rattle.sel_normal.specs.declared.normal.NormalRule.{NormalRule}
use Rattle.sel_normal.specs.Forms.{inner_parts, places, body, helper_rules, some_range, tests, test_number, cut_rules}
use Rattle.sel_normal.proofs.Helpers.{pushed_both, helper_rules-append, helpers_at}

-- each of the rules is one of the grammar's form
pub record AreRulesOf (g : Grammar) (rules : List Rule) : Type 0 where
  pub each : (k : ℕ) (rule : Rule) → slice_get rules k ≡ Some rule → IsRuleOf g rule

pub first_lawful : (g : Grammar) (rest : List Rule) (rule : Rule) (behind : List Rule) → rest ≡ rule ∷ behind → AreRulesOf g rest → IsRuleOf g rule
first_lawful g rest rule behind is h = h.each 0 rule (ap (λ l. slice_get l 0) is)

pub rest_lawful : (g : Grammar) (rest : List Rule) (rule : Rule) (behind : List Rule) → rest ≡ rule ∷ behind → AreRulesOf g rest → AreRulesOf g behind
rest_lawful g rest rule behind is h = record { each = λ k r at. h.each (suc k) r (ap (λ l. slice_get l (suc k)) is ∙ at) }

pub places_long : (rest : List Rule) (rule : Rule) (behind : List Rule) → rest ≡ rule ∷ behind → length (places rest) ≡ length (inner_parts rule.pattern) + length (places behind)
places_long rest rule behind is = ap (λ l. length (places l)) is ∙ length-append (inner_parts rule.pattern) (places behind)

abbrev cut_of : ℕ → ℕ → Rule → NormalRule
cut_of k j rule = record { left = rule.left; cost = rule.cost; body = body k (test_number j rule.range) rule.pattern }

pub one_rule_more : (k j k' j' : ℕ) (rest : List Rule) (rule : Rule) (behind : List Rule) (old new all : List NormalRule) → rest ≡ rule ∷ behind → k' ≡ k + length (inner_parts rule.pattern) → j' ≡ j + length (some_range rule.range)
    → new ≡ old ++ cut_of k j rule ∷ [] → old ++ cut_rules k j rest ≡ all → new ++ cut_rules k' j' behind ≡ all
one_rule_more k j k' j' rest rule behind old new all is e f made h =
    (λ i. made i ++ cut_rules (e i) (f i) behind)
    ∙ append_assoc old (cut_of k j rule ∷ []) (cut_rules (k + length (inner_parts rule.pattern)) (j + length (some_range rule.range)) behind)
    ∙ ap (λ l. old ++ cut_rules k j l) (sym is) ∙ h

pub rule_helpers_more : (k k' : ℕ) (rest : List Rule) (rule : Rule) (behind : List Rule) (old new all : List NormalRule) → rest ≡ rule ∷ behind → k' ≡ k + length (inner_parts rule.pattern)
    → new ≡ old ++ helper_rules k (inner_parts rule.pattern) → old ++ helper_rules k (places rest) ≡ all → new ++ helper_rules k' (places behind) ≡ all
rule_helpers_more k k' rest rule behind old new all is e made h =
    pushed_both k k' (inner_parts rule.pattern) (places behind) old new (new ++ helper_rules k' (places behind)) e made refl
    ∙ ap (λ l. old ++ helper_rules k (places l)) (sym is) ∙ h

pub range_more : (rest : List Rule) (rule : Rule) (behind : List Rule) (old new all : List Range) → rest ≡ rule ∷ behind → new ≡ old ++ some_range rule.range → old ++ tests rest ≡ all → new ++ tests behind ≡ all
range_more rest rule behind old new all is made h =
    ap (λ l. l ++ tests behind) made ∙ append_assoc old (some_range rule.range) (tests behind) ∙ ap (λ l. old ++ tests l) (sym is) ∙ h

-- a refusal that tells the fault
pub told_fault : (g : Grammar) (refusal : GrammarRefusal) (f : GrammarFault) → refusal ≡ Fault f → IsNormalFault g f → NormalRefusedFor g refusal
told_fault g refusal f is h = subst (NormalRefusedFor g) (sym is) h
