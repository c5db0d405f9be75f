-- What is known of a rule of a text, by its form and what it says.
use Rattle.std.proofs.Common.{◌≡◌, ℕ, ◌+◌, ◌≤◌, List, [], ◌∷◌, ◌++◌, Option, Some, None, true, refl, sym, ◌∙◌, subst, arith, cond, append-nil, map}
use Rattle.std.specs.Prelude.{nat_le}
use Rattle.std.specs.Str.Parse.{digits_value}
use Rattle.std.specs.List.{flat_map, AllByRecursion}
use Rattle.std.proofs.lemmas.List.{map-append}
use Rattle.sel_grammar.specs.Limits.{greatest_external}
use Rattle.sel_grammar.specs.declared.grammar.Rule.{Rule}
use Rattle.sel_grammar_text.specs.Items.{TailText, OneLine, Burg, RuleText, Item, RuleItem}
use Rattle.sel_grammar_text.specs.Checks.{large_amount_if_any, large_in_cost, begins_reserved, large_in_tail}
use Rattle.sel_grammar_text.specs.TemplateText.{template_of, pieces, bad_sign}
use Rattle.sel_grammar_text.specs.Printing.{printed_template, AreParts}
use Rattle.sel_grammar_text.specs.Form.{TailForm, OneLineForm, BurgForm, RuleForm, rule_tokens, is_small, IsTail}
use Rattle.sel_grammar_text.specs.Names.{is_among, operators, rules, nonterminal_words, uses}
use Rattle.sel_grammar_text.specs.Faults.{or_fault}
use Rattle.sel_grammar_text.specs.ItemFaults.{check, check_all}
use Rattle.sel_grammar_text.specs.Meaning.{parts_of_tail, rule_of}
use Rattle.sel_grammar_text.specs.declared.fault.Fault.{Fault}
use Rattle.sel_grammar_text.proofs.PrintedTemplates.{IsReadAgain, read_so}
use Rattle.sel_grammar_text.proofs.PatternTexts.{NodesFit}
use Rattle.sel_grammar_text.proofs.FormItems.{head_of, tail_of, places_past, plain_names, kid_count, preorder, rule_pattern, tail_text, tail_places, rule_tail}
use Rattle.sel_grammar_text.proofs.FormCuts.{NamesFit, LastFine, RulesFitted, rule_text, rule_texts, rule_items}
use Rattle.sel_grammar_text.proofs.CheckedItems.{bytes_of, leaves_so, NoneWrong, to_none_wrong, Checked, to_checked, InTemplate, seen}
use Rattle.sel_grammar_text.proofs.SourceNames.{AllLexed, lexed-split, RuleNamed, lexed_rule, operators-append, AllAmong, among-split, nodes_fit}

-- what is known of a tail of a text
abbrev pub TailGood : TailText → Type 0
TailGood (OneLine w c) = IsReadAgain w.bytes (printed_template (template_of w.bytes)) × (large_in_cost c ≡ None)
TailGood (Burg e c) = (digits_value 10 e.bytes ≤ greatest_external) × (large_amount_if_any c ≡ None)

-- what is known of a rule of a text, by its form and what it says
pub record RuleGood (ops nts : List (List ℕ)) (r : RuleForm) (t : RuleText) : Type 0 where
  pub named : RuleNamed r
  pub fits : NamesFit r
  pub left : t.left.bytes ≡ r.left
  pub pattern : plain_names t.pattern ≡ (r.root, kid_count r.kids) ∷ preorder r.kids
  pub left_among : is_among nts r.left ≡ true
  pub nodes : NodesFit ops nts ((r.root, kid_count r.kids) ∷ preorder r.kids)
  pub tail : TailGood t.tail

abbrev pub RulesGood : List (List ℕ) → List (List ℕ) → List RuleForm → List RuleText → Type 0
RulesGood ops nts [] [] = Unit {0}
RulesGood ops nts (r ∷ rs) (t ∷ ts) = RuleGood ops nts r t × RulesGood ops nts rs ts
RulesGood ops nts _ _ = ⊥

-- From the text.

pub or_none : (a b : Option Fault) → or_fault a b ≡ None → (a ≡ None) × (b ≡ None)
or_none (Some f) b h = cc
or_none None b h = (refl, h)

small_is : (digits : List ℕ) → is_small digits ≡ true → digits_value 10 digits ≤ greatest_external
small_is digits h = small_so (digits_value 10 digits) h
  where
    small_so : (n : ℕ) → nat_le n greatest_external ≡ true → n ≤ greatest_external
    small_so n h = grind (arith, h)

tail_good : (before : List Item) (t : RuleText) (form : TailForm) (ps : List ℕ) → t.tail ≡ tail_text ps form → Checked before (RuleItem t) → (p : ℕ) → LastFine p form → IsTail form → TailGood t.tail
tail_good before t form ps e c p l s =
    subst TailGood (sym e) (by_form form
    (subst (InTemplate (λ r w. cond (begins_reserved w.bytes) (Some w.at) (bad_sign (pieces w.at w.bytes))) t) e c.template) (subst (λ u. large_in_tail u ≡ None) e c.costs) l s)
  where
    by_form : (form : TailForm) → InTemplate (λ r w. cond (begins_reserved w.bytes) (Some w.at) (bad_sign (pieces w.at w.bytes))) t (tail_text ps form) → large_in_tail (tail_text ps form) ≡ None → LastFine p form → IsTail form
        → TailGood (tail_text ps form)
    by_form (OneLineForm inside behind) a b l s =
        let r = seen (begins_reserved inside) (bad_sign (pieces (head_of ps + 1) inside)) (head_of ps + 1) a in
        (read_so inside (p + 1) (head_of ps + 1) l.0 r.0 r.1, b)
    by_form (BurgForm external None) a b l s = (small_is external s, b)
    by_form (BurgForm external (Some cost)) a b l s = (small_is external s, b)

rule_good : (ops nts : List (List ℕ)) (before : List Item) (ps : List ℕ) (r : RuleForm) → operators before ≡ ops → check before (RuleItem (rule_text ps r)) ≡ None → RuleNamed r → NamesFit r → (p : ℕ) → LastFine p r.tail → IsTail r.tail
    → AllAmong nts (bytes_of (nonterminal_words ops (rule_text ps r))) → RuleGood ops nts r (rule_text ps r)
rule_good ops nts before ps r e h named fits p l s among =
    let t = rule_text ps r in
    let c = to_checked before (RuleItem t) h in
    let qs = tail_of (tail_of ps) in
    let plain : plain_names t.pattern ≡ (r.root, kid_count r.kids) ∷ preorder r.kids = rule_pattern qs r in
    record {
      named = named;
      fits = fits;
      left = refl;
      pattern = plain;
      left_among = among.0;
      nodes = subst (NodesFit ops nts) plain (nodes_fit ops nts (plain_names (uses (rules before))) (plain_names t.pattern)
          (subst (λ x. NoneWrong x (plain_names (uses (rules before))) (plain_names t.pattern)) e (to_none_wrong (operators before) (uses (rules before)) t.pattern c.arities))
          (subst (AllAmong nts) (leaves_so ops t.pattern) among.1));
      tail = tail_good before t r.tail (tail_places qs r) (rule_tail qs r) c p l s;
    }

pub rules_good : (ops nts : List (List ℕ)) (before : List Item) (ps : List ℕ) (rs : List RuleForm) → operators before ≡ ops → check_all before (rule_items (rule_texts ps rs)) ≡ None
    → AllLexed (flat_map rule_tokens rs) → RulesFitted rs → AllByRecursion (λ r. IsTail r.tail) rs → AllAmong nts (bytes_of (flat_map (nonterminal_words ops) (rule_texts ps rs)))
    → RulesGood ops nts rs (rule_texts ps rs)
rules_good ops nts before ps [] e h lexed fitted small among = tt
rules_good ops nts before ps (r ∷ rs) e h lexed fitted small among =
    let t = rule_text ps r in let qs = places_past ps (rule_tokens r) in
    let o = or_none (check before (RuleItem t)) (check_all (before ++ (RuleItem t ∷ [])) (rule_items (rule_texts qs rs))) h in
    let l = lexed-split (rule_tokens r) (flat_map rule_tokens rs) lexed in
    let a = among-split nts (bytes_of (nonterminal_words ops t)) (bytes_of (flat_map (nonterminal_words ops) (rule_texts qs rs)))
    (subst (AllAmong nts) (map-append (λ w. w.bytes) (nonterminal_words ops t) (flat_map (nonterminal_words ops) (rule_texts qs rs))) among) in (
      rule_good ops nts before ps r e o.0 (lexed_rule r l.0) fitted.0.0 fitted.0.1.0 fitted.0.1.1 small.0 a.0,
      rules_good ops nts (before ++ (RuleItem t ∷ [])) qs rs (operators-append before (RuleItem t ∷ []) ∙ append-nil (operators before) ∙ e) o.1 l.1 fitted.1 small.1 a.1,
    )

-- The templates of the rules.

parts_good : (t : TailText) → TailGood t → AreParts (parts_of_tail t)
parts_good (OneLine w c) h = h.0.shape
parts_good (Burg e c) h = tt

pub templates_good : (ops nts : List (List ℕ)) (source : List ℕ) (rs : List RuleForm) (ts : List RuleText) → RulesGood ops nts rs ts → AllByRecursion (λ (rule : Rule). AreParts rule.template.parts) (map (rule_of source ops nts) ts)
templates_good ops nts source [] [] g = tt
templates_good ops nts source [] (t ∷ ts) g = absurd g
templates_good ops nts source (r ∷ rs) [] g = absurd g
templates_good ops nts source (r ∷ rs) (t ∷ ts) g = (parts_good t.tail g.0.tail, templates_good ops nts source rs ts g.1)
