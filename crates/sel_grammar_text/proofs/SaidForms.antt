-- Rules say their forms.
use Rattle.std.proofs.Common.{◌≡◌, ℕ, suc, ◌+◌, List, [], ◌∷◌, Some, None, length, refl, ap, sym, ◌∙◌, subst, arith}
use Rattle.sel_grammar_text.specs.Form.{AmountForm, OneNumber, TwoNumbers, TailForm, OneLineForm, BurgForm, RuleForm, rule_tokens}
use Rattle.sel_grammar_text.specs.Items.{word}
use Rattle.sel_grammar_text.specs.CostText.{cost_in}
use Rattle.sel_grammar_text.specs.Spots.{first_spots}
use Rattle.sel_grammar_text.specs.Cutting.{or_no_cost, cut_on}
use Rattle.sel_grammar_text.specs.Laws.{RuleIsCut, RulesSayForms}
use Rattle.sel_grammar_text.specs.SaidForms.{SaysAmount, SaysTail, SaysRule, SayRules}
use Rattle.sel_grammar_text.proofs.FormItems.{head_of, tail_of, places, spots_so, places_past, amount_text, tail_text, tail_places, rule_pattern, rule_tail}
use Rattle.sel_grammar_text.proofs.FormCuts.{fresh, rule_text, rule_texts, rule_cut, rule_places}
use Rattle.sel_grammar_text.proofs.SpelledItems.{text_items, text_rules}

amount_says : (ps : List ℕ) (c : AmountForm) → SaysAmount c (amount_text ps c)
amount_says ps (OneNumber c) = (refl, refl)
amount_says ps (TwoNumbers c d) = (refl, (word (head_of (tail_of (tail_of ps))) d, (refl, refl)))

tail_says : (ps : List ℕ) (t : TailForm) → SaysTail t (tail_text ps t)
tail_says ps (OneLineForm inside behind) =
    let e : head_of ps + length inside + 2 ≡ head_of ps + 1 + length inside + 1 = omega arith in (refl, ap (λ at. or_no_cost (cost_in at behind)) e)
tail_says ps (BurgForm external None) = (refl, refl)
tail_says ps (BurgForm external (Some c)) = (refl, (amount_text (tail_of (tail_of (tail_of ps))) c, (refl, amount_says (tail_of (tail_of (tail_of ps))) c)))

rule_says : (ps : List ℕ) (r : RuleForm) → SaysRule r (rule_text ps r)
rule_says ps r =
    let qs = tail_of (tail_of ps) in
    record { left = refl; pattern = rule_pattern qs r; tail = subst (SaysTail r.tail) (sym (rule_tail qs r)) (tail_says (tail_places qs r) r.tail) }

pub rule_is_cut : RuleIsCut
rule_is_cut items form spots e = record {
  rule = rule_text (places spots) form;
  cut = ap (cut_on (fresh items)) (spots_so spots (rule_tokens form) e) ∙ rule_cut items (places spots) form;
  says = rule_says (places spots) form;
}

rules_say : (ps : List ℕ) (rs : List RuleForm) → SayRules rs (rule_texts ps rs)
rules_say ps [] = tt
rules_say ps (r ∷ rs) = (rule_says ps r, rules_say (places_past ps (rule_tokens r)) rs)

pub rules_say_forms : RulesSayForms
rules_say_forms bytes n text =
    let x = text.whole in
    let ps = places (first_spots (suc n) bytes) in
    let items = text_items bytes n x.declarations x.rules x.last x.cut x.ends in
    subst (SayRules x.rules) (sym (text_rules bytes n x.declarations x.rules x.last ps items)) (rules_say (rule_places ps x.declarations) x.rules)
