-- The rules of a text are printed, and read again.
use Rattle.std.proofs.Common.{◌≡◌, ℕ, List, [], ◌∷◌, ◌++◌, Option, None, refl, ap, sym, ◌∙◌, subst, append_assoc, map}
use Rattle.std.specs.Prelude.{codes}
use Rattle.std.specs.List.{flat_map, AllByRecursion}
use Rattle.sel_base.specs.declared.range.Range.{Range}
use Rattle.sel_grammar.specs.declared.grammar.Part.{Part}
use Rattle.sel_grammar.specs.declared.grammar.Pattern.{Pattern}
use Rattle.sel_grammar.specs.declared.grammar.Rule.{Rule}
use Rattle.sel_grammar.specs.declared.grammar.RuleCost.{RuleCost}
use Rattle.sel_grammar_text.specs.Tokens.{Token, Name, Colon}
use Rattle.sel_grammar_text.specs.Form.{below, pattern_tokens, tail_tokens, RuleForm, rule_tokens, IsTail}
use Rattle.sel_grammar_text.specs.Items.{Word, RuleText, Item, RuleItem}
use Rattle.sel_grammar_text.specs.Names.{number_of, operators, rules}
use Rattle.sel_grammar_text.specs.Patterns.{built, pattern_of}
use Rattle.sel_grammar_text.specs.Faults.{or_fault}
use Rattle.sel_grammar_text.specs.ItemFaults.{check, check_all}
use Rattle.sel_grammar_text.specs.Meaning.{cost_of, range_of, parts_of_tail, external_of, rule_of}
use Rattle.sel_grammar_text.specs.Printing.{name_at, printed_pattern}
use Rattle.sel_grammar_text.specs.SaidForms.{plain_names}
use Rattle.sel_grammar_print.specs.PrintedGrammar.{printed_tail, printed_rule, without_place}
use Rattle.sel_grammar_text.proofs.NamedPatterns.{patterns_text}
use Rattle.sel_grammar_text.proofs.GoodRules.{TailGood, RulesGood, RuleGood, or_none}
use Rattle.sel_grammar_text.proofs.PatternTexts.{name_number, numbered_plain, numbered_so}
use Rattle.sel_grammar_text.proofs.FormItems.{tail_of, places_past, rule_pattern, tail_places, rule_tail}
use Rattle.sel_grammar_text.proofs.FormCuts.{RulesFit, rule_text, rule_texts, rule_items}
use Rattle.sel_grammar_text.proofs.SourceNames.{operators-append, rules-append}
use Rattle.sel_grammar_print.proofs.PrintedTokens.{CutsInto, cuts_rule}
use Rattle.sel_grammar_print.proofs.PrintedTails.{tail_again, TailRead, tail_read, tail_last_fine, tail_small, bytes_of_tail, cuts_tail, stops_tail, printed_tail_so}
use Rattle.sel_grammar_print.proofs.PrintedPatterns.{pattern_prints}
use Rattle.sel_grammar_print.proofs.SameChecks.{SameRule, SameRules, same-append, checked_again}

-- the form in which a rule is printed
abbrev pub form_again : RuleForm → RuleText → RuleForm
form_again r t = record { left = r.left; root = r.root; kids = r.kids; tail = tail_again t.tail }

abbrev pub forms_again : List RuleForm → List RuleText → List RuleForm
forms_again [] ts = []
forms_again (r ∷ rs) [] = []
forms_again (r ∷ rs) (t ∷ ts) = form_again r t ∷ forms_again rs ts

-- To the printed text.

module _ (ops nts : List (List ℕ)) (source : List ℕ) where
  abbrev written : RuleText → List ℕ
  written t = printed_rule ops nts (rule_of source ops nts t)

  written_so : (r : RuleForm) (t : RuleText) → RuleGood ops nts r t → written t ≡ r.left ++ (codes ": " ++ ((r.root ++ patterns_text below r.kids) ++ (bytes_of_tail t.tail ++ codes "\n")))
  written_so r t g =
      let rule = rule_of source ops nts t in
      ap (λ x. x ++ (codes ": " ++ (printed_pattern ops nts rule.pattern ++ (printed_tail rule.external rule ++ codes "\n")))) (ap (λ b. name_at nts (number_of nts b)) g.left ∙ name_number nts r.left g.left_among)
      ∙ ap (λ x. r.left ++ (codes ": " ++ (x ++ (printed_tail rule.external rule ++ codes "\n")))) (pattern_prints ops nts t.pattern r.root r.kids g.pattern g.nodes)
      ∙ ap (λ x. r.left ++ (codes ": " ++ ((r.root ++ patterns_text below r.kids) ++ (x ++ codes "\n")))) (printed_tail_so rule t.tail refl refl refl refl)

  regroup : (l p b more : List ℕ) → (l ++ (codes ": " ++ (p ++ b))) ++ more ≡ l ++ (codes ": " ++ (p ++ (b ++ more)))
  regroup l p b more = simp append_assoc refl

  cuts_one : (r : RuleForm) (t : RuleText) (more : List ℕ) (x : Token) (xs : List Token) (rest : List ℕ) → RuleGood ops nts r t → CutsInto more (x ∷ xs) rest
      → CutsInto (written t ++ more) (rule_tokens (form_again r t) ++ (x ∷ xs)) rest
  cuts_one r t more x xs rest g k =
      let b = bytes_of_tail t.tail ++ codes "\n" in let p = r.root ++ patterns_text below r.kids in
      let tokens = tail_tokens (tail_again t.tail) in
      subst (λ y. CutsInto (y ++ more) (rule_tokens (form_again r t) ++ (x ∷ xs)) rest) (sym (written_so r t g))
      (subst (λ y. CutsInto y (rule_tokens (form_again r t) ++ (x ∷ xs)) rest) (sym (regroup r.left p b more))
      (subst (λ ts. CutsInto (r.left ++ (codes ": " ++ (p ++ (b ++ more)))) (Name r.left ∷ Colon ∷ Name r.root ∷ ts) rest) (sym (append_assoc (pattern_tokens below r.kids) tokens (x ∷ xs)))
      (cuts_rule r.left r.root r.kids (b ++ more) (tokens ++ (x ∷ xs)) rest g.named.left g.named.root g.named.kids (stops_tail t.tail more) (cuts_tail t.tail more x xs rest g.tail k))))

  with_head : (P : List Token → Type 0) (ts : List Token) (x : Token) (xs : List Token) → ((y : Token) (ys : List Token) → P (y ∷ ys)) → P (ts ++ (x ∷ xs))
  with_head P [] x xs f = f x xs
  with_head P (t ∷ ts) x xs f = f t (ts ++ (x ∷ xs))

  pub cuts_rules : (rs : List RuleForm) (ts : List RuleText) (more : List ℕ) (x : Token) (xs : List Token) (rest : List ℕ) → RulesGood ops nts rs ts → CutsInto more (x ∷ xs) rest
      → CutsInto (flat_map (printed_rule ops nts) (map (rule_of source ops nts) ts) ++ more) (flat_map rule_tokens (forms_again rs ts) ++ (x ∷ xs)) rest
  cuts_rules [] [] more x xs rest g k = k
  cuts_rules [] (t ∷ ts) more x xs rest g k = absurd g
  cuts_rules (r ∷ rs) [] more x xs rest g k = absurd g
  cuts_rules (r ∷ rs) (t ∷ ts) more x xs rest g k =
      let texts = flat_map (printed_rule ops nts) (map (rule_of source ops nts) ts) in
      let forms = flat_map rule_tokens (forms_again rs ts) in
      subst (λ y. CutsInto y (flat_map rule_tokens (forms_again (r ∷ rs) (t ∷ ts)) ++ (x ∷ xs)) rest) (sym (append_assoc (written t) texts more))
      (subst (λ y. CutsInto (written t ++ (texts ++ more)) y rest) (sym (append_assoc (rule_tokens (form_again r t)) forms (x ∷ xs)))
      (with_head (λ us. CutsInto (texts ++ more) us rest → CutsInto (written t ++ (texts ++ more)) (rule_tokens (form_again r t) ++ us) rest) forms x xs (λ y ys. cuts_one r t (texts ++ more) y ys rest g.0)
      (cuts_rules rs ts more x xs rest g.1 k)))

pub rules_fit : (ops nts : List (List ℕ)) (rs : List RuleForm) (ts : List RuleText) → RulesGood ops nts rs ts → RulesFit (forms_again rs ts)
rules_fit ops nts [] [] g = tt
rules_fit ops nts [] (t ∷ ts) g = absurd g
rules_fit ops nts (r ∷ rs) [] g = absurd g
rules_fit ops nts (r ∷ rs) (t ∷ ts) g = ((g.0.fits, tail_last_fine t.tail g.0.tail), rules_fit ops nts rs ts g.1)

pub rules_small : (ops nts : List (List ℕ)) (rs : List RuleForm) (ts : List RuleText) → RulesGood ops nts rs ts → AllByRecursion (λ r. IsTail r.tail) (forms_again rs ts)
rules_small ops nts [] [] g = tt
rules_small ops nts [] (t ∷ ts) g = absurd g
rules_small ops nts (r ∷ rs) [] g = absurd g
rules_small ops nts (r ∷ rs) (t ∷ ts) g = (tail_small t.tail g.0.tail, rules_small ops nts rs ts g.1)

-- The rules that are read.

read_tail : (ps : List ℕ) (r : RuleForm) (t : RuleText) → TailGood t.tail → TailRead t.tail (rule_text ps (form_again r t)).tail
read_tail ps r t g =
    let qs = tail_of (tail_of ps) in
    subst (TailRead t.tail) (sym (rule_tail qs (form_again r t))) (tail_read (tail_places qs (form_again r t)) t.tail g)

same_rule : (ops nts : List (List ℕ)) (ps : List ℕ) (r : RuleForm) (t : RuleText) → RuleGood ops nts r t → SameRule t (rule_text ps (form_again r t))
same_rule ops nts ps r t g = record { left = g.left; pattern = g.pattern ∙ sym (rule_pattern (tail_of (tail_of ps)) (form_again r t)) }

pub same_rules : (ops nts : List (List ℕ)) (ps : List ℕ) (rs : List RuleForm) (ts : List RuleText) → RulesGood ops nts rs ts → SameRules ts (rule_texts ps (forms_again rs ts))
same_rules ops nts ps [] [] g = tt
same_rules ops nts ps [] (t ∷ ts) g = absurd g
same_rules ops nts ps (r ∷ rs) [] g = absurd g
same_rules ops nts ps (r ∷ rs) (t ∷ ts) g = (same_rule ops nts ps r t g.0, same_rules ops nts (places_past ps (rule_tokens (form_again r t))) rs ts g.1)

pub pass_again : (ops nts : List (List ℕ)) (before after : List Item) (ps : List ℕ) (rs : List RuleForm) (ts : List RuleText) → operators before ≡ operators after → SameRules (rules before) (rules after)
    → RulesGood ops nts rs ts → check_all before (rule_items ts) ≡ None → check_all after (rule_items (rule_texts ps (forms_again rs ts))) ≡ None
pass_again ops nts before after ps [] [] e s g h = refl
pass_again ops nts before after ps [] (t ∷ ts) e s g h = absurd g
pass_again ops nts before after ps (r ∷ rs) [] e s g h = absurd g
pass_again ops nts before after ps (r ∷ rs) (t ∷ ts) e s g h =
    let u = rule_text ps (form_again r t) in let qs = places_past ps (rule_tokens (form_again r t)) in
    let o = or_none (check before (RuleItem t)) (check_all (before ++ (RuleItem t ∷ [])) (rule_items ts)) h in
    let same = same_rule ops nts ps r t g.0 in
    let one = checked_again before after e s t u same (read_tail ps r t g.0.tail).again o.0 in
    let e' : operators (before ++ (RuleItem t ∷ [])) ≡ operators (after ++ (RuleItem u ∷ [])) =
    operators-append before (RuleItem t ∷ []) ∙ ap (λ x. x ++ []) e ∙ sym (operators-append after (RuleItem u ∷ [])) in
    let s' : SameRules (rules (before ++ (RuleItem t ∷ []))) (rules (after ++ (RuleItem u ∷ []))) =
    subst (λ x. SameRules x (rules (after ++ (RuleItem u ∷ [])))) (sym (rules-append before (RuleItem t ∷ [])))
    (subst (SameRules (rules before ++ (t ∷ []))) (sym (rules-append after (RuleItem u ∷ []))) (same-append (rules before) (rules after) (t ∷ []) (u ∷ []) s (same, tt))) in
    ap (λ x. or_fault x (check_all (after ++ (RuleItem u ∷ [])) (rule_items (rule_texts qs (forms_again rs ts))))) one
    ∙ pass_again ops nts (before ++ (RuleItem t ∷ [])) (after ++ (RuleItem u ∷ [])) qs rs ts e' s' g.1 o.1

abbrev made : ℕ → Pattern → List Part → RuleCost → Option Range → Option ℕ → Rule
made left pattern parts cost range external =
    record { left = left; pattern = pattern; template = record { parts = parts }; cost = cost; range = range; external = external; line = 0; column = 0 }

same_pattern : (ops nts : List (List ℕ)) (ns ms : List (Word × ℕ)) → plain_names ns ≡ plain_names ms → pattern_of ops nts ns ≡ pattern_of ops nts ms
same_pattern ops nts ns ms h = ap (λ x. (built x).0) (numbered_so ops nts ns ∙ ap (map (numbered_plain ops nts)) h ∙ sym (numbered_so ops nts ms))

says_again : (ops nts : List (List ℕ)) (source again ps : List ℕ) (r : RuleForm) (t : RuleText) → RuleGood ops nts r t
    → without_place (rule_of source ops nts t) ≡ without_place (rule_of again ops nts (rule_text ps (form_again r t)))
says_again ops nts source again ps r t g =
    let u = rule_text ps (form_again r t) in
    let s = same_rule ops nts ps r t g in
    let k = read_tail ps r t g.tail in
    let p = pattern_of ops nts u.pattern in let l = number_of nts u.left.bytes in
    ap (λ x. made x (pattern_of ops nts t.pattern) (parts_of_tail t.tail) (cost_of t.tail) (range_of t.tail) (external_of t.tail)) (ap (number_of nts) s.left)
    ∙ ap (λ x. made l x (parts_of_tail t.tail) (cost_of t.tail) (range_of t.tail) (external_of t.tail)) (same_pattern ops nts t.pattern u.pattern s.pattern)
    ∙ ap (λ x. made l p x (cost_of t.tail) (range_of t.tail) (external_of t.tail)) (sym k.parts)
    ∙ ap (λ x. made l p (parts_of_tail u.tail) x (range_of t.tail) (external_of t.tail)) (sym k.cost)
    ∙ ap (λ x. made l p (parts_of_tail u.tail) (cost_of u.tail) x (external_of t.tail)) (sym k.range)
    ∙ ap (λ x. made l p (parts_of_tail u.tail) (cost_of u.tail) (range_of u.tail) x) (sym k.external)

pub rules_say : (ops nts : List (List ℕ)) (source again ps : List ℕ) (rs : List RuleForm) (ts : List RuleText) → RulesGood ops nts rs ts
    → map without_place (map (rule_of source ops nts) ts) ≡ map without_place (map (rule_of again ops nts) (rule_texts ps (forms_again rs ts)))
rules_say ops nts source again ps [] [] g = refl
rules_say ops nts source again ps [] (t ∷ ts) g = absurd g
rules_say ops nts source again ps (r ∷ rs) [] g = absurd g
rules_say ops nts source again ps (r ∷ rs) (t ∷ ts) g =
    let qs = places_past ps (rule_tokens (form_again r t)) in
    ap (λ x. x ∷ map without_place (map (rule_of source ops nts) ts)) (says_again ops nts source again ps r t g.0)
    ∙ ap (λ x. without_place (rule_of again ops nts (rule_text ps (form_again r t))) ∷ x) (rules_say ops nts source again qs rs ts g.1)
