-- Best costs and the best list can be printed.
use Rattle.std.proofs.Common.{◌≡◌, ℕ, zero, suc, ◌<◌, ◌^◌, Option, Some, None, List, [], ◌∷◌, ◌++◌, ap, sym, ◌∙◌, arith, slice_get, subst}
use Rattle.std.proofs.lemmas.Option.{slice_get_within}
use Rattle.sel_grammar.specs.declared.grammar.Grammar.{Grammar}
use Rattle.sel_grammar.specs.declared.grammar.Rule.{Rule}
use Rattle.sel_grammar.specs.PlainTrees.{PlainTree}
use Rattle.sel_grammar.specs.Fits.{leaves, rule_at}
use Rattle.sel_grammar.specs.Derivations.{Derivation, Deriv, Derivations, no_more, more, Derives, DeriveAll, list, lists}
use Rattle.sel_grammar.specs.Limits.{IsWithinLimits}
use Rattle.sel_forest.specs.declared.forest.Cover.{Cover}
use Rattle.std.specs.Prelude.{option_map}
use Rattle.sel_forest.specs.Covers.{IsBestCover, IsAnswer}
use Rattle.sel_forest.proofs.Matching.{some_same, some_none}
use Rattle.sel_plain.specs.NodeCosts.{NodeCosts, AreSmallCosts}
use Rattle.sel_check.specs.CertificateTexts.{greatest_claim, HasSmallClaims, IsPrintable}
use Rattle.sel_check.specs.Laws.{IsBestList}
use Rattle.sel_check.proofs.Claiming.{small_more}

-- the greatest sum of costs has twelve digits
claims_are_small : (costs : NodeCosts) → AreSmallCosts costs → HasSmallClaims costs
claims_are_small costs h i n c is = small_more 274869518400 greatest_claim c (h i n c is) (omega arith)

list_some : (d : Derivation) → list d ≡ [] → ⊥
list_some (Deriv r kids) e = cc

-- numbers of 16 bits
abbrev AreNumbers : List ℕ → Type 0
AreNumbers xs = (k r : ℕ) → slice_get xs k ≡ Some r → r < 2 ^ 16

numbers_append : (xs ys : List ℕ) → AreNumbers xs → AreNumbers ys → AreNumbers (xs ++ ys)
numbers_append [] ys h m k r is = m k r is
numbers_append (x ∷ xs) ys h m zero r is = h zero r is
numbers_append (x ∷ xs) ys h m (suc k) r is = numbers_append xs ys (λ k r is. h (suc k) r is) m k r is

module _ (g : Grammar) (within : IsWithinLimits g) where
  number_small : (r s : ℕ) (rule : Rule) → rule_at g r ≡ Some rule → r ≡ s → s < 2 ^ 16
  number_small zero s rule at e = omega arith
  number_small (suc k) s rule at e = let l = slice_get_within g.rules k rule at in let m = within.rules in omega arith

  mutual
    list_numbers : (d : Derivation) (n : ℕ) (t : PlainTree) → Derives g d n t → AreNumbers (list d)
    list_numbers (Deriv r kids) n t (rule, at, left, (ts, fit, all)) zero s is = number_small r s rule at (some_same is)
    list_numbers (Deriv r kids) n t (rule, at, left, (ts, fit, all)) (suc k) s is = lists_numbers kids (leaves rule.pattern) ts all k s is

    lists_numbers : (ds : Derivations) (ns : List ℕ) (ts : List PlainTree) → DeriveAll g ds ns ts → AreNumbers (lists ds)
    lists_numbers no_more ns ts h k r is = absurd (some_none (sym is))
    lists_numbers (more d ds) [] ts h k r is = absurd h
    lists_numbers (more d ds) (n ∷ ns) [] h k r is = absurd h
    lists_numbers (more d ds) (n ∷ ns) (t ∷ ts) h k r is = numbers_append (list d) (lists ds) (list_numbers d n t h.0) (lists_numbers ds ns ts h.1) k r is

  printable_some : (t : PlainTree) (costs : NodeCosts) (cover : Cover) → AreSmallCosts costs → IsBestCover g t cover → IsPrintable (record { costs = costs; rules = Some cover.rules })
  printable_some t costs cover h best = record {
    small = claims_are_small costs h;
    some = λ e. list_some best.best (sym best.rules_are ∙ some_same e);
    numbers = λ rules k r is at. list_numbers best.best g.start t (best.is_best).derives k r (ap (λ xs. slice_get xs k) (sym best.rules_are ∙ some_same is) ∙ at);
  }

printable_none : (costs : NodeCosts) → AreSmallCosts costs → IsPrintable (record { costs = costs; rules = None })
printable_none costs h = record {
  small = claims_are_small costs h;
  some = λ e. some_none (sym e);
  numbers = λ rules k r is at. absurd (some_none (sym is));
}

pub printable : (g : Grammar) (t : PlainTree) (costs : NodeCosts) (answer : Option Cover) (rules : Option (List ℕ)) → IsWithinLimits g → AreSmallCosts costs → IsAnswer g t answer
    → rules ≡ option_map (λ cover. cover.rules) answer → IsPrintable (record { costs = costs; rules = rules })
printable g t costs None rules within h best e = subst (λ r. IsPrintable (record { costs = costs; rules = r })) (sym e) (printable_none costs h)
printable g t costs (Some cover) rules within h best e = subst (λ r. IsPrintable (record { costs = costs; rules = r })) (sym e) (printable_some g within t costs cover h best)

pub best_list : (g : Grammar) (t : PlainTree) (answer : Option Cover) (rules : Option (List ℕ)) → IsAnswer g t answer → rules ≡ option_map (λ cover. cover.rules) answer → IsBestList g t rules
best_list g t None rules best e = subst (IsBestList g t) (sym e) best
best_list g t (Some cover) rules best e = subst (IsBestList g t) (sym e) (best.best, best.is_best, best.rules_are)
