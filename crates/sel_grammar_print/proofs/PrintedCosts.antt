-- A printed cost is read again.
use Rattle.std.proofs.Common.{◌≡◌, ℕ, suc, zero, ◌+◌, ◌-◌, ◌^◌, ◌≤◌, ◌<◌, List, [], ◌∷◌, ◌++◌, Option, Some, None, Bool, true, false, length, drop, refl, ap, sym, ◌∙◌, subst, arith, cond, eqb, ◌&&◌, append-nil, append_assoc, length-drop}
use Rattle.std.specs.Prelude.{codes, decimal, ℤ, pos, negsuc, neg_ℤ, nat_lt, nat_le, take_while}
use Rattle.std.specs.Fmt.{signed_decimal}
use Rattle.std.specs.Char.{is_ascii_digit}
use Rattle.std.specs.Str.Parse.{digits_value, AllDigits}
use Rattle.std.proofs.lemmas.Fmt.{decimal_is_IsNumeral}
use Rattle.std.proofs.lemmas.Str.Parse.{digit_from_value}
use Rattle.std.specs.Int.{IsInRange}
use Rattle.sel_base.specs.declared.range.Range.{Range}
use Rattle.sel_grammar.specs.declared.grammar.RuleCost.{RuleCost}
use Rattle.sel_grammar.specs.Names.{is_name_byte}
use Rattle.sel_grammar.specs.Limits.{greatest_cost}
use Rattle.sel_grammar_text.specs.Blanks.{behind_blank, skip}
use Rattle.sel_grammar_text.specs.Items.{Word, word, AmountText, CostText, Amount, Ranged}
use Rattle.sel_grammar_text.specs.CostText.{CostToken, CostName, Digits, Negative, Single, cost_width, cost_token, cost_tokens_to, begins_with_digit, and_then, read_amount, read_addend, read_cost, cost_in}
use Rattle.sel_grammar_text.specs.Checks.{or_place, begins_with_minus, large_bound, large_cost, large_option, large_amount, large_amount_if_any, place_if}
use Rattle.sel_grammar_text.specs.Meaning.{bound_of, number_or_0, amount_cost, amount_or_none}
use Rattle.sel_grammar_print.specs.PrintedGrammar.{printed_amount, printed_cost, printed_addend}
use Rattle.sel_grammar_text.proofs.Blanks.{skip_one, skip_none, skip_short}
use Rattle.sel_grammar_text.proofs.CostSteps.{token_wide}
use Rattle.sel_grammar_text.proofs.Templates.{unequal}
use Rattle.sel_grammar_text.proofs.Printed.{Stops, Each, taken}
use Rattle.sel_grammar_print.proofs.PrintedTokens.{IsNumber, no_blank, no_comment, no_letter, drop_front, tells}

-- Decimals.

all_digits : (ds : List ℕ) → AllDigits 10 ds → Each is_ascii_digit ds
all_digits [] h = tt
all_digits (d ∷ ds) h = (is_digit d (digit_from_value d h.0), all_digits ds h.1)
  where
    is_digit : (d : ℕ) → IsInRange 48 57 d → is_ascii_digit d ≡ true
    is_digit d r = grind (arith, r)

pub number : (ds : List ℕ) → 0 < length ds → AllDigits 10 ds → IsNumber ds
number [] h k = absurd (omega arith)
number (d ∷ ds) h k = all_digits (d ∷ ds) k

pub decimal_number : (n : ℕ) → n < 2 ^ 64 → IsNumber (decimal n)
decimal_number n h = let d = decimal_is_IsNumeral n h in number (decimal n) d.0.0 d.0.1

pub decimal_value : (n : ℕ) → n < 2 ^ 64 → digits_value 10 (decimal n) ≡ n
decimal_value n h = (decimal_is_IsNumeral n h).1

pub each_digit : (ds : List ℕ) → IsNumber ds → Each is_ascii_digit ds
each_digit [] h = tt
each_digit (d ∷ ds) h = h

abbrev pub first_of : List ℕ → ℕ
first_of [] = 0
first_of (p ∷ ps) = p

abbrev pub rest_of : List ℕ → List ℕ
rest_of [] = []
rest_of (p ∷ ps) = ps

-- Tokens of a cost, with their places.
abbrev pub placed : List ℕ → List CostToken → List (ℕ × CostToken)
placed ps [] = []
placed ps (t ∷ ts) = (first_of ps, t) ∷ placed (rest_of ps) ts

-- the bytes are cut into these tokens
pub data Costs : List ℕ → List CostToken → Type 0 where
  costs_none : (bytes : List ℕ) → skip bytes ≡ [] → Costs bytes []
  costs_one : (bytes : List ℕ) (b : ℕ) (more : List ℕ) (t : CostToken) (ts : List CostToken) → skip bytes ≡ b ∷ more → cost_token b more ≡ t → Costs (drop (cost_width t) (b ∷ more)) ts → Costs bytes (t ∷ ts)

abbrev step : ℕ → ℕ → List ℕ → List ℕ → List (ℕ × CostToken)
step n at bytes s = elim s [
  | [] ↦ []
  | ◌∷◌ b more ↦ (at + (length bytes - length (b ∷ more)), cost_token b more)
      ∷ cost_tokens_to n (at + (length bytes - length (b ∷ more)) + cost_width (cost_token b more)) (drop (cost_width (cost_token b more)) (b ∷ more))
]

pub tokens_placed : (bytes : List ℕ) (ts : List CostToken) (n at : ℕ) → Costs bytes ts → length ts ≤ n → (ps : List ℕ) × (cost_tokens_to n at bytes ≡ placed ps ts)
tokens_placed bytes _ zero at (costs_none _ e) h = ([], refl)
tokens_placed bytes _ (suc n) at (costs_none _ e) h = ([], ap (step n at bytes) e)
tokens_placed bytes _ zero at (costs_one _ b more t ts e d k) h = absurd (omega arith)
tokens_placed bytes _ (suc n) at (costs_one _ b more t ts e d k) h =
    let p = at + (length bytes - length (b ∷ more)) in
    let rest = tokens_placed (drop (cost_width t) (b ∷ more)) ts n (p + cost_width t) k (omega arith) in
    (p ∷ rest.0, ap (step n at bytes) e ∙ ap (λ x. (p, x) ∷ cost_tokens_to n (p + cost_width x) (drop (cost_width x) (b ∷ more))) d ∙ ap (λ x. (p, t) ∷ x) rest.1)

-- a token that no blank stands before
costs_token : (b : ℕ) (more rest : List ℕ) (t : CostToken) (ts : List CostToken) → behind_blank (b ∷ more) ≡ None → cost_token b more ≡ t → drop (cost_width t) (b ∷ more) ≡ rest → Costs rest ts → Costs (b ∷ more) (t ∷ ts)
costs_token b more rest t ts n h d k = costs_one (b ∷ more) b more t ts (skip_none (b ∷ more) n) h (subst (λ x. Costs x ts) (sym d) k)

pub costs_space : (bytes : List ℕ) (ts : List CostToken) → Costs bytes ts → Costs (32 ∷ bytes) ts
costs_space bytes _ (costs_none _ e) = costs_none (32 ∷ bytes) (skip_one (32 ∷ bytes) bytes refl ∙ e)
costs_space bytes _ (costs_one _ b more t ts e d k) = costs_one (32 ∷ bytes) b more t ts (skip_one (32 ∷ bytes) bytes refl ∙ e) d k

abbrev digits_or : Bool → ℕ → List ℕ → CostToken
digits_or t b bytes = cond t (Digits (take_while is_ascii_digit (b ∷ bytes))) (cond ((eqb b 45) && begins_with_digit bytes) (Negative (b ∷ take_while is_ascii_digit bytes)) (Single b))

costs_digits : (digits rest : List ℕ) (ts : List CostToken) → IsNumber digits → Stops is_ascii_digit rest → Costs rest ts → Costs (digits ++ rest) (Digits digits ∷ ts)
costs_digits [] rest ts n s k = absurd n
costs_digits (b ∷ bytes) rest ts n s k =
    costs_token b (bytes ++ rest) rest (Digits (b ∷ bytes)) ts (no_blank is_ascii_digit b (bytes ++ rest) n.0 refl refl refl refl refl refl)
    (ap (λ t. cond t (CostName (take_while is_name_byte (b ∷ (bytes ++ rest)))) (digits_or (is_ascii_digit b) b (bytes ++ rest))) (no_letter b n.0)
    ∙ ap (λ t. digits_or t b (bytes ++ rest)) n.0 ∙ ap Digits (taken is_ascii_digit (b ∷ bytes) rest n s)) (drop_front (b ∷ bytes) rest) k

costs_negative : (digits rest : List ℕ) (ts : List CostToken) → IsNumber digits → Stops is_ascii_digit rest → Costs rest ts → Costs (45 ∷ (digits ++ rest)) (Negative (45 ∷ digits) ∷ ts)
costs_negative [] rest ts n s k = absurd n
costs_negative (b ∷ bytes) rest ts n s k =
    costs_token 45 ((b ∷ bytes) ++ rest) rest (Negative (45 ∷ b ∷ bytes)) ts (no_comment 45 ((b ∷ bytes) ++ rest) refl)
    (ap (λ t. cond t (Negative (45 ∷ take_while is_ascii_digit ((b ∷ bytes) ++ rest))) (Single 45)) n.0 ∙ ap (λ x. Negative (45 ∷ x)) (taken is_ascii_digit (b ∷ bytes) rest n s)) (drop_front (45 ∷ b ∷ bytes) rest) k

-- what a bound is
abbrev pub bound_token : ℤ → CostToken
bound_token (pos n) = Digits (decimal n)
bound_token (negsuc n) = Negative (45 ∷ decimal (suc n))

abbrev pub IsBound : ℤ → Type 0
IsBound (pos n) = n < 2 ^ 63
IsBound (negsuc n) = suc n ≤ 2 ^ 63

costs_bound : (z : ℤ) (rest : List ℕ) (ts : List CostToken) → IsBound z → Stops is_ascii_digit rest → Costs rest ts → Costs (signed_decimal z ++ rest) (bound_token z ∷ ts)
costs_bound (pos n) rest ts h s k = costs_digits (decimal n) rest ts (decimal_number n (omega arith)) s k
costs_bound (negsuc n) rest ts h s k = costs_negative (decimal (suc n)) rest ts (decimal_number (suc n) (omega arith)) s k

-- the second number of a pair isn't 0
pub not_zero : (n : ℕ) → eqb (suc n) 0 ≡ false
not_zero n = unequal (suc n) 0 (λ e. omega arith)

abbrev pub pair : ℕ → ℕ → RuleCost
pair m n = record { first = m; second = n }

abbrev amount_tokens : ℕ → ℕ → List CostToken
amount_tokens m zero = Digits (decimal m) ∷ []
amount_tokens m (suc n) = Single 40 ∷ Digits (decimal m) ∷ Single 44 ∷ Digits (decimal (suc n)) ∷ Single 41 ∷ []

costs_amount : (m n : ℕ) → m < 2 ^ 64 → n < 2 ^ 64 → Costs (printed_amount (pair m n)) (amount_tokens m n)
costs_amount m zero h k = subst (λ x. Costs x (Digits (decimal m) ∷ [])) (append-nil (decimal m)) (costs_digits (decimal m) [] [] (decimal_number m h) tt (costs_none [] refl))
costs_amount m (suc n) h k =
    let end = decimal (suc n) ++ (41 ∷ []) in
    let front = decimal m ++ (44 ∷ end) in
    subst (λ x. Costs x (amount_tokens m (suc n))) (sym (ap (λ t. cond t (decimal m) (40 ∷ front)) (not_zero n)))
    (costs_token 40 front front (Single 40) _ (no_comment 40 front refl) refl refl
    (costs_digits (decimal m) (44 ∷ end) _ (decimal_number m h) refl
    (costs_token 44 end end (Single 44) _ (no_comment 44 end refl) refl refl
    (costs_digits (decimal (suc n)) (41 ∷ []) _ (decimal_number (suc n) k) refl
    (costs_token 41 [] [] (Single 41) [] (no_comment 41 [] refl) refl refl (costs_none [] refl))))))

abbrev addend_tokens : ℕ → ℕ → List CostToken
addend_tokens zero zero = []
addend_tokens zero (suc n) = Single 43 ∷ amount_tokens zero (suc n)
addend_tokens (suc m) n = Single 43 ∷ amount_tokens (suc m) n

costs_plus : (m n : ℕ) → m < 2 ^ 64 → n < 2 ^ 64 → Costs (43 ∷ printed_amount (pair m n)) (Single 43 ∷ amount_tokens m n)
costs_plus m n h k = costs_token 43 (printed_amount (pair m n)) (printed_amount (pair m n)) (Single 43) _ (no_comment 43 (printed_amount (pair m n)) refl) refl refl (costs_amount m n h k)

costs_addend : (m n : ℕ) → m < 2 ^ 64 → n < 2 ^ 64 → Costs (printed_addend (pair m n)) (addend_tokens m n)
costs_addend zero zero h k = costs_none [] refl
costs_addend zero (suc n) h k =
    subst (λ x. Costs x (addend_tokens zero (suc n))) (sym (ap (λ t. cond t [] (43 ∷ printed_amount (pair zero (suc n)))) (not_zero n))) (costs_plus zero (suc n) h k)
costs_addend (suc m) n h k =
    subst (λ x. Costs x (addend_tokens (suc m) n)) (sym (ap (λ t. cond (t && eqb n 0) [] (43 ∷ printed_amount (pair (suc m) n))) (not_zero m))) (costs_plus (suc m) n h k)

abbrev range_tokens : Range → ℕ → ℕ → List CostToken
range_tokens range m n = CostName (codes "range") ∷ Single 40 ∷ CostName (codes "a") ∷ Single 44 ∷ bound_token range.lo ∷ Single 44 ∷ bound_token range.hi ∷ Single 41 ∷ addend_tokens m n

-- a range's pieces, one behind the other
pub range_parts : (range : Range) (cost : RuleCost) → printed_cost cost (Some range) ≡ codes "range(a," ++ (signed_decimal range.lo ++ (codes "," ++ (signed_decimal range.hi ++ (codes ")" ++ printed_addend cost))))
range_parts range cost = regroup (signed_decimal range.lo) (signed_decimal range.hi) (printed_addend cost)
  where
    regroup : (lo hi addend : List ℕ) → (codes "range(a," ++ (lo ++ (codes "," ++ (hi ++ codes ")")))) ++ addend ≡ codes "range(a," ++ (lo ++ (codes "," ++ (hi ++ (codes ")" ++ addend))))
    regroup lo hi addend = simp append_assoc refl

costs_range : (range : Range) (m n : ℕ) → m < 2 ^ 64 → n < 2 ^ 64 → IsBound range.lo → IsBound range.hi → Costs (printed_cost (pair m n) (Some range)) (range_tokens range m n)
costs_range range m n h k lo hi =
    let end = 41 ∷ printed_addend (pair m n) in
    let second = 44 ∷ (signed_decimal range.hi ++ end) in
    let first = 44 ∷ (signed_decimal range.lo ++ second) in
    subst (λ x. Costs x (range_tokens range m n)) (sym (range_parts range (pair m n)))
    (costs_token 114 _ (40 ∷ 97 ∷ first) (CostName (codes "range")) _ refl refl refl
    (costs_token 40 (97 ∷ first) (97 ∷ first) (Single 40) _ refl refl refl
    (costs_token 97 first first (CostName (codes "a")) _ refl refl refl
    (costs_token 44 (signed_decimal range.lo ++ second) _ (Single 44) _ (no_comment 44 _ refl) refl refl
    (costs_bound range.lo second _ lo refl
    (costs_token 44 (signed_decimal range.hi ++ end) _ (Single 44) _ (no_comment 44 _ refl) refl refl
    (costs_bound range.hi end _ hi refl
    (costs_token 41 (printed_addend (pair m n)) _ (Single 41) _ (no_comment 41 _ refl) refl refl (costs_addend m n h k)))))))))

-- What a printed cost is read as.

-- the amount's numbers at their places
abbrev pub amount_word : ℕ → ℕ → ℕ → ℕ → AmountText
amount_word p q m zero = record { first = word p (decimal m); second = None }
amount_word p q m (suc n) = record { first = word p (decimal m); second = Some (word q (decimal (suc n))) }

-- a pair's first number stands behind the parenthesis
abbrev pub amount_place : List ℕ → ℕ → ℕ
amount_place ps zero = first_of ps
amount_place ps (suc n) = first_of (rest_of ps)

abbrev pub second_place : List ℕ → ℕ
second_place ps = first_of (rest_of (rest_of (rest_of ps)))

abbrev pub amount_at : List ℕ → ℕ → ℕ → AmountText
amount_at ps m n = amount_word (amount_place ps n) (second_place ps) m n

abbrev pub addend_at : List ℕ → ℕ → ℕ → Option AmountText
addend_at ps zero zero = None
addend_at ps zero (suc n) = Some (amount_at (rest_of ps) zero (suc n))
addend_at ps (suc m) n = Some (amount_at (rest_of ps) (suc m) n)

amount_again : (ps : List ℕ) (m n : ℕ) → read_amount (placed ps (amount_tokens m n)) ≡ Some (amount_at ps m n)
amount_again ps m zero = refl
amount_again ps m (suc n) = refl

addend_again : (ps : List ℕ) (m n : ℕ) → read_addend (placed ps (addend_tokens m n)) ≡ Some (addend_at ps m n)
addend_again ps zero zero = refl
addend_again ps zero (suc n) = refl
addend_again ps (suc m) n = ap (λ o. and_then o (λ a. Some (Some a))) (amount_again (rest_of ps) (suc m) n)

cost_again : (ps : List ℕ) (m n : ℕ) → read_cost (placed ps (amount_tokens m n)) ≡ Some (Amount (amount_at ps m n))
cost_again ps m zero = refl
cost_again ps m (suc n) = refl

-- no more tokens than bytes
tokens_fit : (bytes : List ℕ) (ts : List CostToken) → Costs bytes ts → length ts ≤ length bytes
tokens_fit bytes _ (costs_none _ e) = omega arith
tokens_fit bytes _ (costs_one _ b more t ts e d k) =
    let w = cost_width t in
    let shorter = tokens_fit (drop w (b ∷ more)) ts k in
    let front : length (b ∷ more) ≤ length bytes = subst (λ x. length x ≤ length bytes) e (skip_short bytes) in
    let wide : 0 < w = subst (λ x. 0 < cost_width x) d (token_wide b more) in
    omega (arith, shorter, front, wide, length-drop w (b ∷ more))

cost_placed : (at : ℕ) (bytes : List ℕ) (ts : List CostToken) → Costs bytes ts → (ps : List ℕ) × (cost_in at bytes ≡ read_cost (placed ps ts))
unfolding cost_in
cost_placed at bytes ts c = let t = tokens_placed bytes ts (length bytes) at c (tokens_fit bytes ts c) in (t.0, ap read_cost t.1)

pub amount_in : (at m n : ℕ) → m < 2 ^ 64 → n < 2 ^ 64 → (ps : List ℕ) × (cost_in at (32 ∷ printed_amount (pair m n)) ≡ Some (Amount (amount_at ps m n)))
amount_in at m n h k =
    let c = cost_placed at (32 ∷ printed_amount (pair m n)) (amount_tokens m n) (costs_space (printed_amount (pair m n)) _ (costs_amount m n h k)) in (c.0, c.1 ∙ cost_again c.0 m n)

abbrev pub fifth : List ℕ → ℕ
fifth ps = first_of (rest_of (rest_of (rest_of (rest_of ps))))

abbrev pub seventh : List ℕ → ℕ
seventh ps = first_of (rest_of (rest_of (rest_of (rest_of (rest_of (rest_of ps))))))

abbrev pub behind_eighth : List ℕ → List ℕ
behind_eighth ps = rest_of (rest_of (rest_of (rest_of (rest_of (rest_of (rest_of (rest_of ps)))))))

abbrev pub ranged : List ℕ → ℤ → ℤ → Option AmountText → CostText
ranged ps lo hi addend = Ranged (first_of ps) (word (fifth ps) (signed_decimal lo)) (word (seventh ps) (signed_decimal hi)) addend

range_again : (ps : List ℕ) (lo hi : ℤ) (m n : ℕ) → read_cost (placed ps (range_tokens (record { lo = lo; hi = hi }) m n)) ≡ Some (ranged ps lo hi (addend_at (behind_eighth ps) m n))
range_again ps (pos l) (pos h) m n = ap (λ o. and_then o (λ addend. Some (ranged ps (pos l) (pos h) addend))) (addend_again (behind_eighth ps) m n)
range_again ps (pos l) (negsuc h) m n = ap (λ o. and_then o (λ addend. Some (ranged ps (pos l) (negsuc h) addend))) (addend_again (behind_eighth ps) m n)
range_again ps (negsuc l) (pos h) m n = ap (λ o. and_then o (λ addend. Some (ranged ps (negsuc l) (pos h) addend))) (addend_again (behind_eighth ps) m n)
range_again ps (negsuc l) (negsuc h) m n = ap (λ o. and_then o (λ addend. Some (ranged ps (negsuc l) (negsuc h) addend))) (addend_again (behind_eighth ps) m n)

pub range_in : (at m n : ℕ) (range : Range) → m < 2 ^ 64 → n < 2 ^ 64 → IsBound range.lo → IsBound range.hi
    → (ps : List ℕ) × (cost_in at (32 ∷ printed_cost (pair m n) (Some range)) ≡ Some (ranged ps range.lo range.hi (addend_at (behind_eighth ps) m n)))
range_in at m n range h k lo hi =
    let bytes = printed_cost (pair m n) (Some range) in
    let c = cost_placed at (32 ∷ bytes) (range_tokens range m n) (costs_space bytes _ (costs_range range m n h k lo hi)) in (c.0, c.1 ∙ range_again c.0 range.lo range.hi m n)

-- Values.

no_minus : (ds : List ℕ) → IsNumber ds → begins_with_minus ds ≡ false
no_minus [] n = absurd n
no_minus (d ∷ ds) n = tells is_ascii_digit d 45 n.0 refl

pub bound_value : (z : ℤ) (p : ℕ) → IsBound z → bound_of (word p (signed_decimal z)) ≡ z
bound_value (pos n) p h = rw (no_minus (decimal n) (decimal_number n (omega arith))) (ap pos (decimal_value n (omega arith)))
bound_value (negsuc n) p h = ap (λ x. neg_ℤ (pos x)) (decimal_value (suc n) (omega arith))

pub bound_small : (z : ℤ) (p : ℕ) → IsBound z → large_bound (word p (signed_decimal z)) ≡ None
bound_small (pos n) p h =
    rw (no_minus (decimal n) (decimal_number n (omega arith)), decimal_value n (omega arith)) (ap (λ b. place_if b p) (small n (2 ^ 63) h))
  where
    small : (n m : ℕ) → n < m → nat_le m n ≡ false
    small n m h = grind (arith, h)
bound_small (negsuc n) p h = rw (decimal_value (suc n) (omega arith)) (ap (λ b. place_if b p) (small (suc n) (2 ^ 63) h))
  where
    small : (n m : ℕ) → n ≤ m → nat_lt m n ≡ false
    small n m h = grind (arith, h)

-- a bound that a text has is in its limits
pub bound_fits : (w : Word) → large_bound w ≡ None → IsBound (bound_of w)
bound_fits w h = by_sign w (begins_with_minus w.bytes) h
  where
    negative : (n p : ℕ) (b : Bool) → nat_lt (2 ^ 63) n ≡ b → place_if b p ≡ None → IsBound (neg_ℤ (pos n))
    negative zero p b e h = omega arith
    negative (suc n) p true e h = cc
    negative (suc n) p false e h = grind (arith, e)

    positive : (n p : ℕ) (b : Bool) → nat_le (2 ^ 63) n ≡ b → place_if b p ≡ None → IsBound (pos n)
    positive n p true e h = cc
    positive n p false e h = grind (arith, e)

    by_sign : (w : Word) (b : Bool) → cond b (place_if (nat_lt (2 ^ 63) (digits_value 10 (drop 1 w.bytes))) w.at) (place_if (nat_le (2 ^ 63) (digits_value 10 w.bytes)) w.at) ≡ None
        → IsBound (cond b (neg_ℤ (pos (digits_value 10 (drop 1 w.bytes)))) (pos (digits_value 10 w.bytes)))
    by_sign w true h = negative (digits_value 10 (drop 1 w.bytes)) w.at _ refl h
    by_sign w false h = positive (digits_value 10 w.bytes) w.at _ refl h

pub cost_small : (n p : ℕ) → n ≤ greatest_cost → large_cost (word p (decimal n)) ≡ None
cost_small n p h = rw (decimal_value n (omega arith)) (ap (λ b. place_if b p) (small n greatest_cost h))
  where
    small : (n m : ℕ) → n ≤ m → nat_lt m n ≡ false
    small n m h = grind (arith, h)

pub cost_fits : (w : Word) → large_cost w ≡ None → digits_value 10 w.bytes ≤ greatest_cost
cost_fits w h = by_test (digits_value 10 w.bytes) w.at _ refl h
  where
    by_test : (n p : ℕ) (b : Bool) → nat_lt greatest_cost n ≡ b → place_if b p ≡ None → n ≤ greatest_cost
    by_test n p true e h = cc
    by_test n p false e h = grind (arith, e)

pub or_place_none : (a b : Option ℕ) → or_place a b ≡ None → (a ≡ None) × (b ≡ None)
or_place_none (Some p) b h = cc
or_place_none None b h = (refl, h)

number_fits : (w : Option Word) → large_option w ≡ None → number_or_0 w ≤ greatest_cost
number_fits None h = omega arith
number_fits (Some w) h = cost_fits w h

-- the numbers of a cost that a text has are in their limits
pub amount_fits : (a : Option AmountText) → large_amount_if_any a ≡ None → ((amount_or_none a).first ≤ greatest_cost) × ((amount_or_none a).second ≤ greatest_cost)
amount_fits None h = (omega arith, omega arith)
amount_fits (Some a) h = let b = or_place_none (large_cost a.first) (large_option a.second) h in (cost_fits a.first b.0, number_fits a.second b.1)

pub pair_so : (a : Option AmountText) → amount_or_none a ≡ pair (amount_or_none a).first (amount_or_none a).second
pair_so None = refl
pair_so (Some a) = refl

pub amount_value : (p q m n : ℕ) → m ≤ greatest_cost → n ≤ greatest_cost → amount_cost (amount_word p q m n) ≡ pair m n
amount_value p q m zero h k = ap (λ x. pair x zero) (decimal_value m (omega (arith, h)))
amount_value p q m (suc n) h k = ap (λ x. pair x (digits_value 10 (decimal (suc n)))) (decimal_value m (omega (arith, h))) ∙ ap (pair m) (decimal_value (suc n) (omega (arith, k)))

pub amount_small : (p q m n : ℕ) → m ≤ greatest_cost → n ≤ greatest_cost → large_amount (amount_word p q m n) ≡ None
amount_small p q m zero h k = ap (λ o. or_place o None) (cost_small m p h)
amount_small p q m (suc n) h k = ap (λ o. or_place o (large_cost (word q (decimal (suc n))))) (cost_small m p h) ∙ cost_small (suc n) q k

pub addend_value : (ps : List ℕ) (m n : ℕ) → m ≤ greatest_cost → n ≤ greatest_cost → amount_or_none (addend_at ps m n) ≡ pair m n
addend_value ps zero zero h k = refl
addend_value ps zero (suc n) h k = amount_value (amount_place (rest_of ps) (suc n)) (second_place (rest_of ps)) zero (suc n) h k
addend_value ps (suc m) n h k = amount_value (amount_place (rest_of ps) n) (second_place (rest_of ps)) (suc m) n h k

pub addend_small : (ps : List ℕ) (m n : ℕ) → m ≤ greatest_cost → n ≤ greatest_cost → large_amount_if_any (addend_at ps m n) ≡ None
addend_small ps zero zero h k = refl
addend_small ps zero (suc n) h k = amount_small (amount_place (rest_of ps) (suc n)) (second_place (rest_of ps)) zero (suc n) h k
addend_small ps (suc m) n h k = amount_small (amount_place (rest_of ps) n) (second_place (rest_of ps)) (suc m) n h k
