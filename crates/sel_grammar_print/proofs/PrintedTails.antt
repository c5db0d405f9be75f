-- A rule's tail is printed, and read again.
use Rattle.std.proofs.Common.{◌≡◌, ℕ, suc, zero, ◌+◌, ◌-◌, ◌^◌, ◌≤◌, ◌<◌, List, [], ◌∷◌, ◌++◌, Option, Some, None, Bool, true, false, not, length, refl, ap, sym, ◌∙◌, subst, arith, cond, eqb, ◌&&◌, append_assoc}
use Rattle.std.specs.Prelude.{codes, decimal, ℤ, pos, negsuc, nat_le}
use Rattle.std.specs.Fmt.{signed_decimal}
use Rattle.std.specs.Char.{is_ascii_digit}
use Rattle.std.specs.Str.Parse.{digits_value}
use Rattle.sel_base.specs.declared.range.Range.{Range}
use Rattle.sel_grammar.specs.Limits.{greatest_cost, greatest_external}
use Rattle.sel_grammar.specs.declared.grammar.Part.{Part}
use Rattle.sel_grammar.specs.declared.grammar.Rule.{Rule}
use Rattle.sel_grammar.specs.declared.grammar.RuleCost.{RuleCost}
use Rattle.sel_grammar.specs.Names.{is_name_byte}
use Rattle.sel_grammar_text.specs.Tokens.{is_on_line, Token, Quoted, Integer, Comma, Close, Semi}
use Rattle.sel_grammar_text.specs.Form.{AmountForm, OneNumber, TwoNumbers, TailForm, OneLineForm, BurgForm, tail_tokens, IsTail}
use Rattle.sel_grammar_text.specs.Items.{Word, word, AmountText, CostText, NoCost, Amount, Ranged, TailText, OneLine, Burg}
use Rattle.sel_grammar_text.specs.Blanks.{skip}
use Rattle.sel_grammar_text.specs.CostText.{cost_in, wrong_cost}
use Rattle.sel_grammar_text.specs.Cutting.{or_no_cost}
use Rattle.sel_grammar_text.specs.Checks.{or_place, range_at, large_bound, large_amount_if_any, large_in_cost}
use Rattle.sel_grammar_text.specs.Meaning.{bound_of, amount_cost, amount_or_none, cost_of, range_of, parts_of_tail, external_of}
use Rattle.sel_grammar_text.specs.TemplateText.{template_of}
use Rattle.sel_grammar_text.specs.Printing.{printed_template}
use Rattle.sel_grammar_print.specs.PrintedGrammar.{printed_second, printed_amount, printed_cost, printed_addend, printed_tail}
use Rattle.sel_grammar_text.proofs.Printed.{Stops, Each}
use Rattle.sel_grammar_text.proofs.FormItems.{head_of, tail_of, amount_text, tail_text}
use Rattle.sel_grammar_text.proofs.FormCuts.{LastFine}
use Rattle.sel_grammar_text.proofs.GoodRules.{TailGood}
use Rattle.sel_grammar_print.proofs.PrintedTokens.{CutsInto, IsNumber, cuts_template, cuts_number, cuts_mark, cuts_external, cuts_closing, over_blank, tells}
use Rattle.sel_grammar_print.proofs.PrintedCosts.{decimal_number, decimal_value, each_digit, IsBound, not_zero, pair, range_parts, first_of, amount_at, amount_place, second_place, addend_at, fifth, seventh, behind_eighth, amount_in, range_in, bound_value, bound_small, bound_fits, or_place_none, amount_fits, pair_so, amount_value, amount_small, addend_value, addend_small}
use Rattle.sel_grammar_print.proofs.SameChecks.{TailAgain, line_again, burg_again}

-- the form of a cost that is printed in parentheses
abbrev pub burg_cost : ℕ → ℕ → AmountForm
burg_cost m zero = OneNumber (decimal m)
burg_cost m (suc n) = TwoNumbers (decimal m) (decimal (suc n))

-- the form in which it is printed
abbrev pub tail_again : TailText → TailForm
tail_again (OneLine w c) = OneLineForm (printed_template (template_of w.bytes)) (32 ∷ printed_cost (cost_of (OneLine w c)) (range_of (OneLine w c)))
tail_again (Burg e c) = BurgForm (decimal (digits_value 10 e.bytes)) (Some (burg_cost (amount_or_none c).first (amount_or_none c).second))

-- Costs.

pub record CostRead (at : ℕ) (w : Word) (c : CostText) : Type 0 where
  pub it : CostText
  pub read : cost_in at (32 ∷ printed_cost (cost_of (OneLine w c)) (range_of (OneLine w c))) ≡ Some it
  pub cost : (v : Word) → cost_of (OneLine v it) ≡ cost_of (OneLine w c)
  pub range : (v : Word) → range_of (OneLine v it) ≡ range_of (OneLine w c)
  pub small : large_in_cost it ≡ None
  pub place : (v : Word) → range_at (OneLine w c) ≡ None → range_at (OneLine v it) ≡ None

amount_read : (at : ℕ) (w : Word) (c : CostText) (a : Option AmountText) → large_amount_if_any a ≡ None → cost_of (OneLine w c) ≡ amount_or_none a → range_of (OneLine w c) ≡ None → CostRead at w c
amount_read at w c a h e f =
    let m = (amount_or_none a).first in let n = (amount_or_none a).second in
    let fits = amount_fits a h in
    let so : cost_of (OneLine w c) ≡ pair m n = e ∙ pair_so a in
    let i = amount_in at m n (omega (arith, fits.0)) (omega (arith, fits.1)) in
    let p = amount_place i.0 n in let q = second_place i.0 in
    record {
      it = Amount (amount_at i.0 m n);
      read = ap (λ r. cost_in at (32 ∷ printed_cost (cost_of (OneLine w c)) r)) f ∙ ap (λ x. cost_in at (32 ∷ printed_amount x)) so ∙ i.1;
      cost = λ v. amount_value p q m n fits.0 fits.1 ∙ sym so;
      range = λ v. sym f;
      small = amount_small p q m n fits.0 fits.1;
      place = λ v y. refl;
    }

range_read : (at : ℕ) (w : Word) (q : ℕ) (lo hi : Word) (addend : Option AmountText) → large_in_cost (Ranged q lo hi addend) ≡ None → CostRead at w (Ranged q lo hi addend)
range_read at w q lo hi addend h =
    let a = or_place_none (large_bound lo) (or_place (large_bound hi) (large_amount_if_any addend)) h in
    let b = or_place_none (large_bound hi) (large_amount_if_any addend) a.1 in
    let m = (amount_or_none addend).first in let n = (amount_or_none addend).second in
    let fits = amount_fits addend b.1 in
    let range : Range = record { lo = bound_of lo; hi = bound_of hi } in
    let r = range_in at m n range (omega (arith, fits.0)) (omega (arith, fits.1)) (bound_fits lo a.0) (bound_fits hi b.0) in
    let ps = r.0 in let again = addend_at (behind_eighth ps) m n in
    record {
      it = Ranged (first_of ps) (word (fifth ps) (signed_decimal range.lo)) (word (seventh ps) (signed_decimal range.hi)) again;
      read = ap (λ x. cost_in at (32 ∷ printed_cost x (Some range))) (pair_so addend) ∙ r.1;
      cost = λ v. addend_value (behind_eighth ps) m n fits.0 fits.1 ∙ sym (pair_so addend);
      range = λ v. ap (λ x. Some (record { lo = x; hi = bound_of (word (seventh ps) (signed_decimal range.hi)) })) (bound_value range.lo (fifth ps) (bound_fits lo a.0))
          ∙ ap (λ x. Some (record { lo = range.lo; hi = x })) (bound_value range.hi (seventh ps) (bound_fits hi b.0));
      small = ap (λ o. or_place o (or_place (large_bound (word (seventh ps) (signed_decimal range.hi))) (large_amount_if_any again))) (bound_small range.lo (fifth ps) (bound_fits lo a.0))
          ∙ ap (λ o. or_place o (large_amount_if_any again)) (bound_small range.hi (seventh ps) (bound_fits hi b.0)) ∙ addend_small (behind_eighth ps) m n fits.0 fits.1;
      place = λ v y. cc;
    }

pub cost_read : (at : ℕ) (w : Word) (c : CostText) → large_in_cost c ≡ None → CostRead at w c
cost_read at w NoCost h = amount_read at w NoCost None refl refl refl
cost_read at w (Amount a) h = amount_read at w (Amount a) (Some a) h refl refl
cost_read at w (Ranged q lo hi addend) h = range_read at w q lo hi addend h

-- Tails.

pub record TailRead (t u : TailText) : Type 0 where
  pub again : TailAgain t u
  pub cost : cost_of u ≡ cost_of t
  pub range : range_of u ≡ range_of t
  pub parts : parts_of_tail u ≡ parts_of_tail t
  pub external : external_of u ≡ external_of t

-- the numbers of a printed cost in parentheses
burg_text : (ps : List ℕ) (m n : ℕ) → m ≤ greatest_cost → n ≤ greatest_cost → (amount_cost (amount_text ps (burg_cost m n)) ≡ pair m n) × (large_amount_if_any (Some (amount_text ps (burg_cost m n))) ≡ None)
burg_text ps m zero h k = (amount_value (head_of ps) 0 m zero h k, amount_small (head_of ps) 0 m zero h k)
burg_text ps m (suc n) h k = let q = head_of (tail_of (tail_of ps)) in (amount_value (head_of ps) q m (suc n) h k, amount_small (head_of ps) q m (suc n) h k)

pub tail_read : (ps : List ℕ) (t : TailText) → TailGood t → TailRead t (tail_text ps (tail_again t))
tail_read ps (OneLine w c) h =
    let inside = printed_template (template_of w.bytes) in
    let v = word (head_of ps + 1) inside in
    let r = cost_read (head_of ps + length inside + 2) w c h.1 in
    let e : or_no_cost (cost_in (head_of ps + length inside + 2) (32 ∷ printed_cost (cost_of (OneLine w c)) (range_of (OneLine w c)))) ≡ r.it = ap or_no_cost r.read in
    subst (λ d. TailRead (OneLine w c) (OneLine v d)) (sym e) (record {
      again = line_again w v c r.it h.0 (r.place v) r.small;
      cost = r.cost v;
      range = r.range v;
      parts = h.0.parts;
      external = refl;
    })
tail_read ps (Burg x c) h =
    let m = (amount_or_none c).first in let n = (amount_or_none c).second in
    let fits = amount_fits c h.1 in
    let text = burg_text (tail_of (tail_of (tail_of ps))) m n fits.0 fits.1 in
    record {
      again = burg_again x (word (head_of (tail_of ps)) (decimal (digits_value 10 x.bytes))) c (Some (amount_text (tail_of (tail_of (tail_of ps))) (burg_cost m n))) text.1;
      cost = text.0 ∙ sym (pair_so c);
      range = refl;
      parts = refl;
      external = ap Some (decimal_value (digits_value 10 x.bytes) (omega (arith, h.0)));
    }

pub tail_last_fine : (t : TailText) → TailGood t → (p : ℕ) → LastFine p (tail_again t)
tail_last_fine (OneLine w c) h p =
    let inside = printed_template (template_of w.bytes) in
    let at = p + length inside + 2 in
    let r = cost_read at w c h.1 in
    (h.0.good (p + 1), no_wrong at (32 ∷ printed_cost (cost_of (OneLine w c)) (range_of (OneLine w c))) r.it r.read)
  where
    no_wrong : (at : ℕ) (bytes : List ℕ) (d : CostText) → cost_in at bytes ≡ Some d → wrong_cost at bytes ≡ None
    no_wrong at bytes d e = ap (λ o. elim o as (λ _. Option ℕ) [ None ↦ Some (at + (length bytes - length (skip bytes))) | Some x ↦ None ]) e
tail_last_fine (Burg x c) h p = tt

pub tail_small : (t : TailText) → TailGood t → IsTail (tail_again t)
tail_small (OneLine w c) h = tt
tail_small (Burg x c) h = small_so (digits_value 10 (decimal (digits_value 10 x.bytes))) (omega (arith, decimal_value (digits_value 10 x.bytes) (omega (arith, h.0)), h.0))
  where
    small_so : (n : ℕ) → n ≤ greatest_external → nat_le n greatest_external ≡ true
    small_so n h = grind (arith, h)

-- The bytes of a printed tail.

abbrev pub tail_bytes : Option ℕ → List Part → RuleCost → Option Range → List ℕ
tail_bytes (Some external) parts cost range = codes " = " ++ (decimal external ++ (codes " (" ++ (decimal cost.first ++ (printed_second cost.second ++ codes ");"))))
tail_bytes None parts cost range = codes " \"" ++ (printed_template parts ++ (codes "\" " ++ printed_cost cost range))

tail_bytes_so : (o : Option ℕ) (rule : Rule) → printed_tail o rule ≡ tail_bytes o rule.template.parts rule.cost rule.range
tail_bytes_so (Some n) rule = refl
tail_bytes_so None rule = refl

abbrev pub bytes_of_tail : TailText → List ℕ
bytes_of_tail t = tail_bytes (external_of t) (parts_of_tail t) (cost_of t) (range_of t)

on_line : (b : ℕ) → is_ascii_digit b ≡ true → is_on_line b ≡ true
on_line b h = ap not (tells is_ascii_digit b 10 h refl)

digits_on_line : (ds : List ℕ) → Each is_ascii_digit ds → Each is_on_line ds
digits_on_line [] h = tt
digits_on_line (d ∷ ds) h = (on_line d h.0, digits_on_line ds h.1)

each-join : (p : ℕ → Bool) (xs ys : List ℕ) → Each p xs → Each p ys → Each p (xs ++ ys)
each-join p [] ys h k = k
each-join p (x ∷ xs) ys h k = (h.0, each-join p xs ys h.1 k)

decimal_on_line : (n : ℕ) → n < 2 ^ 64 → Each is_on_line (decimal n)
decimal_on_line n h = digits_on_line (decimal n) (each_digit (decimal n) (decimal_number n h))

signed_on_line : (z : ℤ) → IsBound z → Each is_on_line (signed_decimal z)
signed_on_line (pos n) h = decimal_on_line n (omega (arith, h))
signed_on_line (negsuc n) h = (refl, decimal_on_line (suc n) (omega (arith, h)))

amount_on_line : (m n : ℕ) → m ≤ greatest_cost → n ≤ greatest_cost → (t : Bool) → Each is_on_line (cond t (decimal m) (40 ∷ (decimal m ++ (44 ∷ (decimal n ++ (41 ∷ []))))))
amount_on_line m n h k true = decimal_on_line m (omega (arith, h))
amount_on_line m n h k false =
    (refl, each-join is_on_line (decimal m) (44 ∷ (decimal n ++ (41 ∷ []))) (decimal_on_line m (omega (arith, h))) (refl, each-join is_on_line (decimal n) (41 ∷ []) (decimal_on_line n (omega (arith, k))) (refl, tt)))

addend_on_line : (bytes : List ℕ) → Each is_on_line bytes → (t : Bool) → Each is_on_line (cond t [] (43 ∷ bytes))
addend_on_line bytes h true = tt
addend_on_line bytes h false = (refl, h)

cost_on_line : (w : Word) (c : CostText) → large_in_cost c ≡ None → Each is_on_line (printed_cost (cost_of (OneLine w c)) (range_of (OneLine w c)))
cost_on_line w NoCost h = decimal_on_line 0 (omega arith)
cost_on_line w (Amount a) h = let fits = amount_fits (Some a) h in amount_on_line (amount_cost a).first (amount_cost a).second fits.0 fits.1 (eqb (amount_cost a).second 0)
cost_on_line w (Ranged q lo hi addend) h =
    let a = or_place_none (large_bound lo) (or_place (large_bound hi) (large_amount_if_any addend)) h in
    let b = or_place_none (large_bound hi) (large_amount_if_any addend) a.1 in
    let cost = amount_or_none addend in
    let fits = amount_fits addend b.1 in
    let end : Each is_on_line (printed_addend cost) =
    addend_on_line (printed_amount cost) (amount_on_line cost.first cost.second fits.0 fits.1 (eqb cost.second 0)) (eqb cost.first 0 && eqb cost.second 0) in
    let range : Range = record { lo = bound_of lo; hi = bound_of hi } in
    subst (Each is_on_line) (sym (range_parts range cost))
    (each-join is_on_line (codes "range(a,") _ (refl, (refl, (refl, (refl, (refl, (refl, (refl, (refl, tt))))))))
    (each-join is_on_line (signed_decimal (bound_of lo)) (codes "," ++ (signed_decimal (bound_of hi) ++ (codes ")" ++ printed_addend cost))) (signed_on_line (bound_of lo) (bound_fits lo a.0))
    (refl, each-join is_on_line (signed_decimal (bound_of hi)) (codes ")" ++ printed_addend cost) (signed_on_line (bound_of hi) (bound_fits hi b.0)) (refl, end))))

second_so : (n : ℕ) → printed_second (suc n) ≡ 44 ∷ decimal (suc n)
second_so n = ap (λ t. cond t [] (44 ∷ decimal (suc n))) (not_zero n)

cuts_burg : (external more : List ℕ) (m n : ℕ) (x : Token) (xs : List Token) (rest : List ℕ) → IsNumber external → m ≤ greatest_cost → n ≤ greatest_cost → CutsInto more (x ∷ xs) rest
    → CutsInto (codes " = " ++ (external ++ (codes " (" ++ (decimal m ++ (printed_second n ++ (codes ");\n" ++ more)))))) (tail_tokens (BurgForm external (Some (burg_cost m n))) ++ (x ∷ xs)) rest
cuts_burg external more m zero x xs rest e h k c =
    cuts_external external (decimal m ++ (codes ");\n" ++ more)) (Integer (decimal m) ∷ Close ∷ Semi ∷ x ∷ xs) rest e
    (cuts_number (decimal m) (codes ");\n" ++ more) (Close ∷ Semi ∷ x ∷ xs) rest (decimal_number m (omega (arith, h))) refl (cuts_closing more x xs rest c))
cuts_burg external more m (suc n) x xs rest e h k c =
    let tokens = Integer (decimal m) ∷ Comma ∷ Integer (decimal (suc n)) ∷ Close ∷ Semi ∷ x ∷ xs in
    let end = codes ");\n" ++ more in
    subst (λ s. CutsInto (codes " = " ++ (external ++ (codes " (" ++ (decimal m ++ (s ++ end))))) (tail_tokens (BurgForm external (Some (burg_cost m (suc n)))) ++ (x ∷ xs)) rest) (sym (second_so n))
    (cuts_external external (decimal m ++ (44 ∷ (decimal (suc n) ++ end))) tokens rest e
    (cuts_number (decimal m) (44 ∷ (decimal (suc n) ++ end)) _ rest (decimal_number m (omega (arith, h))) refl
    (cuts_mark 44 Comma (decimal (suc n) ++ end) _ rest refl refl refl refl refl refl refl refl
    (cuts_number (decimal (suc n)) end (Close ∷ Semi ∷ x ∷ xs) rest (decimal_number (suc n) (omega (arith, k))) refl (cuts_closing more x xs rest c)))))

pub cuts_tail : (t : TailText) (more : List ℕ) (x : Token) (xs : List Token) (rest : List ℕ) → TailGood t → CutsInto more (x ∷ xs) rest
    → CutsInto ((bytes_of_tail t ++ codes "\n") ++ more) (tail_tokens (tail_again t) ++ (x ∷ xs)) rest
cuts_tail (OneLine w c) more x xs rest h k =
    let inside = printed_template (template_of w.bytes) in
    let cost = printed_cost (cost_of (OneLine w c)) (range_of (OneLine w c)) in
    let e : ((32 ∷ 34 ∷ (inside ++ (34 ∷ 32 ∷ cost))) ++ (10 ∷ [])) ++ more ≡ 32 ∷ 34 ∷ (inside ++ (34 ∷ ((32 ∷ cost) ++ (10 ∷ more)))) = regroup inside cost more in
    subst (λ y. CutsInto y (Quoted inside (32 ∷ cost) ∷ x ∷ xs) rest) (sym e)
    (over_blank 32 (34 ∷ (inside ++ (34 ∷ ((32 ∷ cost) ++ (10 ∷ more))))) (Quoted inside (32 ∷ cost)) (x ∷ xs) rest refl
    (cuts_template inside (32 ∷ cost) (10 ∷ more) (x ∷ xs) rest h.0.passes (refl, cost_on_line w c h.1) refl (over_blank 10 more x xs rest refl k)))
  where
    regroup : (inside cost more : List ℕ) → ((32 ∷ 34 ∷ (inside ++ (34 ∷ 32 ∷ cost))) ++ (10 ∷ [])) ++ more ≡ 32 ∷ 34 ∷ (inside ++ (34 ∷ ((32 ∷ cost) ++ (10 ∷ more))))
    regroup inside cost more = simp append_assoc refl
cuts_tail (Burg w c) more x xs rest h k =
    let external = decimal (digits_value 10 w.bytes) in
    let m = (amount_or_none c).first in let n = (amount_or_none c).second in
    let fits = amount_fits c h.1 in
    subst (λ y. CutsInto y (tail_tokens (BurgForm external (Some (burg_cost m n))) ++ (x ∷ xs)) rest) (sym (regroup external (decimal m) (printed_second n) more))
    (cuts_burg external more m n x xs rest (decimal_number (digits_value 10 w.bytes) (omega (arith, h.0))) fits.0 fits.1 k)
  where
    regroup : (external first second more : List ℕ) → ((codes " = " ++ (external ++ (codes " (" ++ (first ++ (second ++ codes ");"))))) ++ codes "\n") ++ more
        ≡ codes " = " ++ (external ++ (codes " (" ++ (first ++ (second ++ (codes ");\n" ++ more)))))
    regroup external first second more = simp append_assoc refl

pub stops_tail : (t : TailText) (more : List ℕ) → Stops is_name_byte ((bytes_of_tail t ++ codes "\n") ++ more)
stops_tail (OneLine w c) more = refl
stops_tail (Burg w c) more = refl

pub printed_tail_so : (rule : Rule) (t : TailText) → rule.external ≡ external_of t → rule.template.parts ≡ parts_of_tail t → rule.cost ≡ cost_of t → rule.range ≡ range_of t
    → printed_tail rule.external rule ≡ bytes_of_tail t
printed_tail_so rule t a b c d =
    tail_bytes_so rule.external rule ∙ ap (λ o. tail_bytes o rule.template.parts rule.cost rule.range) a ∙ ap (λ ps. tail_bytes (external_of t) ps rule.cost rule.range) b
    ∙ ap (λ n. tail_bytes (external_of t) (parts_of_tail t) n rule.range) c ∙ ap (tail_bytes (external_of t) (parts_of_tail t) (cost_of t)) d
