-- Checks see of rules only their names, numbers of kids, templates and values.
use Rattle.std.proofs.Common.{◌≡◌, ℕ, suc, List, [], ◌∷◌, ◌++◌, Option, Some, None, Bool, true, false, length, refl, ap, sym, ◌∙◌, subst, cond, eqb, ◌&&◌}
use Rattle.std.specs.Prelude.{nat_le}
use Rattle.std.specs.List.{flat_map}
use Rattle.std.proofs.lemmas.List.{map-append}
use Rattle.sel_grammar.specs.Limits.{most_rules, most_nonterminals}
use Rattle.sel_grammar_text.specs.Items.{Word, AmountText, CostText, TailText, OneLine, Burg, RuleText, Item, RuleItem}
use Rattle.sel_grammar_text.specs.Names.{is_among, operators, rules, leaves, nonterminal_words, nonterminals, uses, first_use}
use Rattle.sel_grammar_text.specs.Checks.{place_if, past_most, first_wrong_kids, begins_reserved, is_past_kid, is_nullary, range_at, large_in_tail}
use Rattle.sel_grammar_text.specs.ItemFaults.{check}
use Rattle.sel_grammar_text.specs.TemplateText.{pieces, bad_sign, first_sign, ends_line}
use Rattle.sel_grammar_text.specs.SaidForms.{plain_names}
use Rattle.sel_grammar_text.proofs.PrintedTemplates.{NoSign, to_no_sign, from_no_sign, ends_plainly, ends_so, IsReadAgain}
use Rattle.sel_grammar_text.proofs.CheckedItems.{bytes_of, leaves_by, leaves_so, with_so, with_by, first_by, first_so, NoneWrong, wrong_so, Checked, to_none_wrong, to_checked, InTemplate}

-- two rules with the same names and numbers of kids
pub record SameRule (r s : RuleText) : Type 0 where
  pub left : r.left.bytes ≡ s.left.bytes
  pub pattern : plain_names r.pattern ≡ plain_names s.pattern

abbrev pub SameRules : List RuleText → List RuleText → Type 0
SameRules [] [] = Unit {0}
SameRules (r ∷ rs) (s ∷ ss) = SameRule r s × SameRules rs ss
SameRules _ _ = ⊥

pub same-append : (ps qs rs ss : List RuleText) → SameRules ps qs → SameRules rs ss → SameRules (ps ++ rs) (qs ++ ss)
same-append [] [] rs ss h k = k
same-append [] (q ∷ qs) rs ss h k = absurd h
same-append (p ∷ ps) [] rs ss h k = absurd h
same-append (p ∷ ps) (q ∷ qs) rs ss h k = (h.0, same-append ps qs rs ss h.1 k)

pub same_length : (rs ss : List RuleText) → SameRules rs ss → length rs ≡ length ss
same_length [] [] h = refl
same_length [] (s ∷ ss) h = absurd h
same_length (r ∷ rs) [] h = absurd h
same_length (r ∷ rs) (s ∷ ss) h = ap suc (same_length rs ss h.1)

pub same_leaves : (ops : List (List ℕ)) (r s : RuleText) → SameRule r s → bytes_of (leaves ops r.pattern) ≡ bytes_of (leaves ops s.pattern)
same_leaves ops r s h = leaves_so ops r.pattern ∙ ap (leaves_by ops) h.pattern ∙ sym (leaves_so ops s.pattern)

leaf_count : (ops : List (List ℕ)) (r s : RuleText) → SameRule r s → length (leaves ops r.pattern) ≡ length (leaves ops s.pattern)
leaf_count ops r s h = counted (leaves ops r.pattern) ∙ ap length (same_leaves ops r s h) ∙ sym (counted (leaves ops s.pattern))
  where
    counted : (ws : List Word) → length ws ≡ length (bytes_of ws)
    counted [] = refl
    counted (w ∷ ws) = ap suc (counted ws)

pub same_words : (ops : List (List ℕ)) (r s : RuleText) → SameRule r s → bytes_of (nonterminal_words ops r) ≡ bytes_of (nonterminal_words ops s)
same_words ops r s h = ap (λ b. b ∷ bytes_of (leaves ops r.pattern)) h.left ∙ ap (λ x. s.left.bytes ∷ x) (same_leaves ops r s h)

all_words : (ops : List (List ℕ)) (rs ss : List RuleText) → SameRules rs ss → bytes_of (flat_map (nonterminal_words ops) rs) ≡ bytes_of (flat_map (nonterminal_words ops) ss)
all_words ops [] [] h = refl
all_words ops [] (s ∷ ss) h = absurd h
all_words ops (r ∷ rs) [] h = absurd h
all_words ops (r ∷ rs) (s ∷ ss) h =
    map-append (λ w. w.bytes) (nonterminal_words ops r) (flat_map (nonterminal_words ops) rs) ∙ ap (λ x. x ++ bytes_of (flat_map (nonterminal_words ops) rs)) (same_words ops r s h.0)
    ∙ ap (λ x. bytes_of (nonterminal_words ops s) ++ x) (all_words ops rs ss h.1) ∙ sym (map-append (λ w. w.bytes) (nonterminal_words ops s) (flat_map (nonterminal_words ops) ss))

pub same_nonterminals : (before after : List Item) → operators before ≡ operators after → SameRules (rules before) (rules after) → nonterminals before ≡ nonterminals after
same_nonterminals before after e h =
    with_so [] (flat_map (nonterminal_words (operators before)) (rules before))
    ∙ ap (with_by []) (all_words (operators before) (rules before) (rules after) h ∙ ap (λ ops. bytes_of (flat_map (nonterminal_words ops) (rules after))) e)
    ∙ sym (with_so [] (flat_map (nonterminal_words (operators after)) (rules after)))

pub same_uses : (rs ss : List RuleText) → SameRules rs ss → plain_names (uses rs) ≡ plain_names (uses ss)
same_uses [] [] h = refl
same_uses [] (s ∷ ss) h = absurd h
same_uses (r ∷ rs) [] h = absurd h
same_uses (r ∷ rs) (s ∷ ss) h =
    map-append _ r.pattern (uses rs) ∙ ap (λ x. x ++ plain_names (uses rs)) h.0.pattern ∙ ap (λ x. plain_names s.pattern ++ x) (same_uses rs ss h.1) ∙ sym (map-append _ s.pattern (uses ss))

pub same_first : (us vs : List (Word × ℕ)) (name : List ℕ) → plain_names us ≡ plain_names vs → first_use us name ≡ first_use vs name
same_first us vs name h = first_so us name ∙ ap (λ ps. first_by ps name) h ∙ sym (first_so vs name)

-- The checks of names.

placed : (b c : Bool) (p q : ℕ) → b ≡ c → place_if b p ≡ None → place_if c q ≡ None
placed true c p q e h = cc
placed false c p q e h = ap (λ d. place_if d q) (sym e)

step : (t u : Bool) (a b c d : Option ℕ) (p q : ℕ) → (a ≡ None → c ≡ None) → (b ≡ None → d ≡ None) → cond t a (cond u (Some p) b) ≡ None → cond t c (cond u (Some q) d) ≡ None
step true u a b c d p q f g h = f h
step false true a b c d p q f g h = cc
step false false a b c d p q f g h = g h

abbrev first_bytes : List (List ℕ) → List ℕ
first_bytes [] = []
first_bytes (b ∷ bs) = b

abbrev rest_bytes : List (List ℕ) → List (List ℕ)
rest_bytes [] = []
rest_bytes (b ∷ bs) = bs

same_past : (names : List (List ℕ)) (ws vs : List Word) → bytes_of ws ≡ bytes_of vs → past_most names ws ≡ None → past_most names vs ≡ None
same_past names [] [] e h = refl
same_past names [] (v ∷ vs) e h = cc
same_past names (w ∷ ws) [] e h = cc
same_past names (w ∷ ws) (v ∷ vs) e h =
    let b : w.bytes ≡ v.bytes = ap first_bytes e in
    let r : bytes_of ws ≡ bytes_of vs = ap rest_bytes e in
    subst (λ x. cond (is_among names x) (past_most names vs) (cond (nat_le most_nonterminals (length names)) (Some v.at) (past_most (names ++ (x ∷ [])) vs)) ≡ None) b
    (step (is_among names w.bytes) (nat_le most_nonterminals (length names)) (past_most names ws) (past_most (names ++ (w.bytes ∷ [])) ws) (past_most names vs) (past_most (names ++ (w.bytes ∷ [])) vs) w.at v.at
    (same_past names ws vs r) (same_past (names ++ (w.bytes ∷ [])) ws vs r) h)

from_none_wrong : (ops : List (List ℕ)) (earlier names : List (Word × ℕ)) → NoneWrong ops (plain_names earlier) (plain_names names) → first_wrong_kids ops earlier names ≡ None
from_none_wrong ops earlier [] h = refl
from_none_wrong ops earlier (n ∷ names) h =
    ap (λ b. cond b (Some n.0.at) (first_wrong_kids ops (earlier ++ (n ∷ [])) names)) (wrong_so ops earlier n ∙ h.0)
    ∙ from_none_wrong ops (earlier ++ (n ∷ [])) names (subst (λ x. NoneWrong ops x (plain_names names)) (sym (map-append _ earlier (n ∷ []))) h.1)

pub from_checked : (before : List Item) (item : Item) → Checked before item → check before item ≡ None
unfolding check
from_checked before item c =
    rw (c.duplicate, c.many, c.left, c.nonterminals, c.arities, c.template, c.kids, c.result, c.range, c.costs) refl

-- two tails of which the second passes each check of templates and costs that the first passes
pub data TailAgain : TailText → TailText → Type 0 where
  line_again : (w v : Word) (c d : CostText) → IsReadAgain w.bytes v.bytes → (range_at (OneLine w c) ≡ None → range_at (OneLine v d) ≡ None) → large_in_tail (OneLine v d) ≡ None → TailAgain (OneLine w c) (OneLine v d)
  burg_again : (w v : Word) (c d : Option AmountText) → large_in_tail (Burg v d) ≡ None → TailAgain (Burg w c) (Burg v d)

fragment : (t : Bool) (o p : Option ℕ) → (o ≡ None → p ≡ None) → cond t None o ≡ None → cond t None p ≡ None
fragment true o p f h = refl
fragment false o p f h = f h

signs_again : (f : ℕ → Bool) (inside again : List ℕ) (at to : ℕ) → IsReadAgain inside again → first_sign f (pieces at inside) ≡ None → first_sign f (pieces to again) ≡ None
signs_again f inside again at to r h = from_no_sign f (pieces to again) (subst (NoSign f) (sym (r.same to at)) (to_no_sign f (pieces at inside) h))

ends_again : (inside again : List ℕ) (at to : ℕ) → IsReadAgain inside again → ends_line (pieces at inside) ≡ ends_line (pieces to again)
ends_again inside again at to r = ends_so (pieces at inside) ∙ ap ends_plainly (sym (r.same to at)) ∙ sym (ends_so (pieces to again))

abbrev nullary : List (List ℕ) → List (List ℕ × ℕ) → Bool
nullary ops [] = false
nullary ops (p ∷ []) = is_among ops p.0 && (eqb p.1 0)
nullary ops (p ∷ q ∷ ps) = false

nullary_so : (ops : List (List ℕ)) (ns : List (Word × ℕ)) → is_nullary ops ns ≡ nullary ops (plain_names ns)
nullary_so ops [] = refl
nullary_so ops (n ∷ []) = refl
nullary_so ops (n ∷ m ∷ ns) = refl

nullary_by : (ops : List (List ℕ)) (ns ms : List (Word × ℕ)) → plain_names ns ≡ plain_names ms → is_nullary ops ns ≡ is_nullary ops ms
nullary_by ops ns ms h = nullary_so ops ns ∙ ap (nullary ops) h ∙ sym (nullary_so ops ms)

module _ (before after : List Item) (e : operators before ≡ operators after) (h : SameRules (rules before) (rules after)) (r s : RuleText) (same : SameRule r s) where
  form_again : (t u : TailText) → TailAgain t u → InTemplate (λ r w. cond (begins_reserved w.bytes) (Some w.at) (bad_sign (pieces w.at w.bytes))) s u
  form_again _ _ (line_again w v c d x y z) = ap (λ b. cond b (Some v.at) (bad_sign (pieces v.at v.bytes))) x.free ∙ x.signs v.at
  form_again _ _ (burg_again w v c d z) = refl

  kids_again : (t u : TailText) → TailAgain t u → InTemplate (λ r w. first_sign (is_past_kid (length (leaves (operators before) r.pattern))) (pieces w.at w.bytes)) r t
      → InTemplate (λ r w. first_sign (is_past_kid (length (leaves (operators after) r.pattern))) (pieces w.at w.bytes)) s u
  kids_again _ _ (line_again w v c d x y z) k =
      let n : length (leaves (operators before) r.pattern) ≡ length (leaves (operators after) s.pattern) = leaf_count (operators before) r s same ∙ ap (λ ops. length (leaves ops s.pattern)) e in
      subst (λ m. first_sign (is_past_kid m) (pieces v.at v.bytes) ≡ None) n (signs_again (is_past_kid (length (leaves (operators before) r.pattern))) w.bytes v.bytes w.at v.at x k)
  kids_again _ _ (burg_again w v c d z) k = refl

  result_again : (t u : TailText) → TailAgain t u → InTemplate (λ r w. cond (ends_line (pieces w.at w.bytes)) None (first_sign (λ c. eqb c 99) (pieces w.at w.bytes))) r t
      → InTemplate (λ r w. cond (ends_line (pieces w.at w.bytes)) None (first_sign (λ c. eqb c 99) (pieces w.at w.bytes))) s u
  result_again _ _ (line_again w v c d x y z) k =
      subst (λ b. cond b None (first_sign (λ c. eqb c 99) (pieces v.at v.bytes)) ≡ None) (ends_again w.bytes v.bytes w.at v.at x)
      (fragment (ends_line (pieces w.at w.bytes)) _ _ (signs_again (λ c. eqb c 99) w.bytes v.bytes w.at v.at x) k)
  result_again _ _ (burg_again w v c d z) k = refl

  range_again : (t u : TailText) → TailAgain t u → range_at t ≡ None → range_at u ≡ None
  range_again _ _ (line_again w v c d x y z) k = y k
  range_again _ _ (burg_again w v c d z) k = refl

  large_again : (t u : TailText) → TailAgain t u → large_in_tail u ≡ None
  large_again _ _ (line_again w v c d x y z) = z
  large_again _ _ (burg_again w v c d z) = z

  pub checked_again : TailAgain r.tail s.tail → check before (RuleItem r) ≡ None → check after (RuleItem s) ≡ None
  checked_again again pass =
      let c = to_checked before (RuleItem r) pass in
      from_checked after (RuleItem s) (record {
        duplicate = refl;
        many = placed (nat_le most_rules (length (rules before))) (nat_le most_rules (length (rules after))) r.left.at s.left.at (ap (nat_le most_rules) (same_length (rules before) (rules after) h)) c.many;
        left = placed (is_among (operators before) r.left.bytes) (is_among (operators after) s.left.bytes) r.left.at s.left.at (ap (λ ops. is_among ops r.left.bytes) e ∙ ap (is_among (operators after)) same.left) c.left;
        nonterminals = subst (λ names. past_most names (nonterminal_words (operators after) s) ≡ None) (same_nonterminals before after e h)
            (same_past (nonterminals before) (nonterminal_words (operators before) r) (nonterminal_words (operators after) s)
            (same_words (operators before) r s same ∙ ap (λ ops. bytes_of (nonterminal_words ops s)) e) c.nonterminals);
        arities = from_none_wrong (operators after) (uses (rules after)) s.pattern
            (subst (λ ops. NoneWrong ops (plain_names (uses (rules after))) (plain_names s.pattern)) e (subst (λ us. NoneWrong (operators before) us (plain_names s.pattern)) (same_uses (rules before) (rules after) h)
            (subst (NoneWrong (operators before) (plain_names (uses (rules before)))) same.pattern (to_none_wrong (operators before) (uses (rules before)) r.pattern c.arities))));
        template = form_again r.tail s.tail again;
        kids = kids_again r.tail s.tail again c.kids;
        result = result_again r.tail s.tail again c.result;
        range = fragment_same (is_nullary (operators before) r.pattern) (is_nullary (operators after) s.pattern) (range_at r.tail) (range_at s.tail)
            (nullary_by (operators before) r.pattern s.pattern same.pattern ∙ ap (λ ops. is_nullary ops s.pattern) e) (range_again r.tail s.tail again) c.range;
        costs = large_again r.tail s.tail again;
      })
    where
      fragment_same : (t u : Bool) (o p : Option ℕ) → t ≡ u → (o ≡ None → p ≡ None) → cond t None o ≡ None → cond u None p ≡ None
      fragment_same t u o p e f h = subst (λ b. cond b None p ≡ None) e (fragment t o p f h)
