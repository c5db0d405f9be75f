-- The numbers among the words of an item consist of digits.
use Rattle.std.proofs.Common.{◌≡◌, ℕ, suc, zero, ◌+◌, ◌-◌, ◌<◌, ◌^◌, List, [], ◌∷◌, ◌++◌, Option, Some, None, Bool, true, false, length, refl, ap, sym, ◌∙◌, arith, cond, eqb, ◌&&◌, drop, take, append_assoc}
use Rattle.std.specs.Prelude.{bytes_eq, codes}
use Rattle.std.specs.List.{AllByRecursion, prefix_len}
use Rattle.std.specs.Char.{is_ascii_digit}
use Rattle.std.specs.Str.Parse.{AllDigits}
use Rattle.sel_grammar.specs.Names.{is_letter}
use Rattle.sel_grammar_text.specs.Blanks.{skip}
use Rattle.sel_grammar_text.specs.Tokens.{Token, Name, Integer, Quoted, Start, Percents, Code, Equals, width}
use Rattle.sel_grammar_text.specs.Spots.{Spot, spot, first, behind}
use Rattle.sel_grammar_text.specs.Items.{Word, word, CostText, Amount}
use Rattle.sel_grammar_text.specs.Checks.{begins_with_minus}
use Rattle.sel_grammar_text.specs.CostText.{CostToken, CostName, Digits, Negative, Single, begins_with_digit, cost_token, cost_width, cost_tokens_to, cost_tokens, is_single, is_word, behind_token, and_then, bound_in, read_bound, read_number, read_digits, at_end, read_pair, read_amount, read_addend, read_range, read_cost, cost_in}
use Rattle.sel_grammar_text.specs.Cutting.{digits_in, is_equals, numbers_in, amount_of, burg_of, or_no_cost, tail_in, entry_in, named_item, start_item, item_of}
use Rattle.sel_grammar_text.specs.ItemNumbers.{IsNumber, HasNumbersInAmount, HasNumbersIfAny, IsBound, HasNumbersInCost, HasNumbersInTail, HasNumbers, HasDigits, IsSpot}
use Rattle.sel_grammar_text.proofs.DigitTokens.{digits_front}

choose : {X : Type 0} (P : X → Type 0) (b : Bool) (x y : X) → P x → P y → P (cond b x y)
choose P true x y p q = p
choose P false x y p q = q

-- what holds of a value where there is one
abbrev Holds : {X : Type 0} → (X → Type 0) → Option X → Type 0
Holds P None = Unit {0}
Holds P (Some x) = P x

then_holds : {X Y : Type 0} (P : X → Type 0) (Q : Y → Type 0) (o : Option X) (f : X → Option Y) → Holds P o → ((x : X) → P x → Holds Q (f x)) → Holds Q (and_then o f)
then_holds P Q None f h k = tt
then_holds P Q (Some x) f h k = k x h

-- digits, or a minus sign and digits
abbrev IsCostToken : CostToken → Type 0
IsCostToken (Digits bytes) = AllDigits 10 bytes
IsCostToken (Negative bytes) = AllDigits 10 (drop 1 bytes) × (begins_with_minus bytes ≡ true)
IsCostToken _ = Unit {0}

cost_token_digits : (b : ℕ) (bytes : List ℕ) → IsCostToken (cost_token b bytes)
cost_token_digits b bytes =
    choose IsCostToken (is_letter b) _ _ tt (choose IsCostToken (is_ascii_digit b) _ _ (digits_front (b ∷ bytes))
    (go (eqb b 45) refl (begins_with_digit bytes)))
  where
    go : (x : Bool) → eqb b 45 ≡ x → (y : Bool) → IsCostToken (cond (x && y) (Negative (b ∷ take (prefix_len is_ascii_digit bytes) bytes)) (Single b))
    go true e true = (digits_front bytes, e)
    go true e false = tt
    go false e true = tt
    go false e false = tt

abbrev AreCostTokens : List (ℕ × CostToken) → Type 0
AreCostTokens ts = AllByRecursion (λ t. IsCostToken t.1) ts

cost_tokens_digits : (n at : ℕ) (bytes : List ℕ) → AreCostTokens (cost_tokens_to n at bytes)
cost_tokens_digits zero at bytes = tt
cost_tokens_digits (suc n) at bytes = go (skip bytes) (λ a bs. cost_tokens_digits n a bs)
  where
    go : (rest : List ℕ) → ((a : ℕ) (bs : List ℕ) → AreCostTokens (cost_tokens_to n a bs)) → AreCostTokens (elim rest [
      | [] ↦ []
      | ◌∷◌ b more ↦ (at + (length bytes - length (b ∷ more)), cost_token b more)
          ∷ cost_tokens_to n (at + (length bytes - length (b ∷ more)) + cost_width (cost_token b more)) (drop (cost_width (cost_token b more)) (b ∷ more))
    ])
    go [] k = tt
    go (b ∷ more) k = (cost_token_digits b more, k _ _)

behind_holds : (p : CostToken → Bool) (ts : List (ℕ × CostToken)) → AreCostTokens ts → Holds AreCostTokens (behind_token p ts)
behind_holds p [] h = tt
behind_holds p (t ∷ ts) h = choose (Holds AreCostTokens) (p t.1) (Some ts) None h.1 tt

rest_digits : (bytes : List ℕ) → AllDigits 10 bytes → AllDigits 10 (drop 1 bytes)
rest_digits [] h = tt
rest_digits (b ∷ bytes) h = h.1

bound_holds : (at : ℕ) (t : CostToken) → IsCostToken t → Holds IsBound (bound_in (at, t))
bound_holds at (Digits bytes) h = choose (AllDigits 10) (begins_with_minus bytes) (drop 1 bytes) bytes (rest_digits bytes h) h
bound_holds at (Negative bytes) h = rw h.1 h.0
bound_holds at (CostName n) h = tt
bound_holds at (Single b) h = tt

read_bound_holds : (ts : List (ℕ × CostToken)) → AreCostTokens ts → Holds (λ r. IsBound r.0 × AreCostTokens r.1) (read_bound ts)
read_bound_holds [] h = tt
read_bound_holds ((at, t) ∷ ts) h = then_holds IsBound (λ r. IsBound r.0 × AreCostTokens r.1) (bound_in (at, t)) (λ w. Some (w, ts)) (bound_holds at t h.0) (λ w k. (k, h.1))

read_number_holds : (ts : List (ℕ × CostToken)) → AreCostTokens ts → Holds IsNumber (read_number ts)
read_number_holds [] h = tt
read_number_holds ((at, Digits bytes) ∷ []) h = h.0
read_number_holds ((at, Digits bytes) ∷ t ∷ ts) h = tt
read_number_holds ((at, Negative bytes) ∷ ts) h = tt
read_number_holds ((at, CostName n) ∷ ts) h = tt
read_number_holds ((at, Single b) ∷ ts) h = tt

read_digits_holds : (ts : List (ℕ × CostToken)) → AreCostTokens ts → Holds (λ r. IsNumber r.0 × AreCostTokens r.1) (read_digits ts)
read_digits_holds [] h = tt
read_digits_holds ((at, Digits bytes) ∷ ts) h = h
read_digits_holds ((at, Negative bytes) ∷ ts) h = tt
read_digits_holds ((at, CostName n) ∷ ts) h = tt
read_digits_holds ((at, Single b) ∷ ts) h = tt

at_end_holds : {X : Type 0} (P : X → Type 0) (x : X) (ts : List (ℕ × CostToken)) → P x → Holds P (at_end x ts)
at_end_holds P x [] h = h
at_end_holds P x (t ∷ ts) h = tt

read_pair_holds : (ts : List (ℕ × CostToken)) → AreCostTokens ts → Holds HasNumbersInAmount (read_pair ts)
read_pair_holds ts h =
    then_holds (λ r. IsNumber r.0 × AreCostTokens r.1) HasNumbersInAmount (read_digits ts) _ (read_digits_holds ts h) (λ first a.
    then_holds AreCostTokens HasNumbersInAmount (behind_token (is_single 44) first.1) _ (behind_holds (is_single 44) first.1 a.1) (λ ts h.
    then_holds (λ r. IsNumber r.0 × AreCostTokens r.1) HasNumbersInAmount (read_digits ts) _ (read_digits_holds ts h) (λ second b.
    then_holds AreCostTokens HasNumbersInAmount (behind_token (is_single 41) second.1) _ (behind_holds (is_single 41) second.1 b.1) (λ ts h.
    at_end_holds HasNumbersInAmount _ ts (a.0, b.0)))))

read_amount_holds : (ts : List (ℕ × CostToken)) → AreCostTokens ts → Holds HasNumbersInAmount (read_amount ts)
read_amount_holds ts h = by_parenthesis (behind_token (is_single 40) ts) (behind_holds (is_single 40) ts h)
  where
    by_parenthesis : (o : Option (List (ℕ × CostToken))) → Holds AreCostTokens o
        → Holds HasNumbersInAmount (elim o [ None ↦ and_then (read_number ts) (λ w. Some (record { first = w; second = None })) | Some more ↦ read_pair more ])
    by_parenthesis None k = then_holds IsNumber HasNumbersInAmount (read_number ts) (λ w. Some (record { first = w; second = None })) (read_number_holds ts h) (λ w d. (d, tt))
    by_parenthesis (Some more) k = read_pair_holds more k

read_addend_holds : (ts : List (ℕ × CostToken)) → AreCostTokens ts → Holds HasNumbersIfAny (read_addend ts)
read_addend_holds [] h = tt
read_addend_holds (t ∷ ts) h =
    then_holds AreCostTokens HasNumbersIfAny (behind_token (is_single 43) (t ∷ ts)) _ (behind_holds (is_single 43) (t ∷ ts) h) (λ us k.
    then_holds HasNumbersInAmount HasNumbersIfAny (read_amount us) (λ a. Some (Some a)) (read_amount_holds us k) (λ a d. d))

read_range_holds : (at : ℕ) (ts : List (ℕ × CostToken)) → AreCostTokens ts → Holds HasNumbersInCost (read_range at ts)
read_range_holds at ts h =
    then_holds AreCostTokens HasNumbersInCost (behind_token (is_single 40) ts) _ (behind_holds (is_single 40) ts h) (λ ts h.
    then_holds AreCostTokens HasNumbersInCost (behind_token (is_word (codes "a")) ts) _ (behind_holds (is_word (codes "a")) ts h) (λ ts h.
    then_holds AreCostTokens HasNumbersInCost (behind_token (is_single 44) ts) _ (behind_holds (is_single 44) ts h) (λ ts h.
    then_holds (λ r. IsBound r.0 × AreCostTokens r.1) HasNumbersInCost (read_bound ts) _ (read_bound_holds ts h) (λ lo l.
    then_holds AreCostTokens HasNumbersInCost (behind_token (is_single 44) lo.1) _ (behind_holds (is_single 44) lo.1 l.1) (λ ts h.
    then_holds (λ r. IsBound r.0 × AreCostTokens r.1) HasNumbersInCost (read_bound ts) _ (read_bound_holds ts h) (λ hi u.
    then_holds AreCostTokens HasNumbersInCost (behind_token (is_single 41) hi.1) _ (behind_holds (is_single 41) hi.1 u.1) (λ ts h.
    then_holds HasNumbersIfAny HasNumbersInCost (read_addend ts) _ (read_addend_holds ts h) (λ addend a. (l.0, u.0, a)))))))))

amount_holds : (ts : List (ℕ × CostToken)) → AreCostTokens ts → Holds HasNumbersInCost (and_then (read_amount ts) (λ a. Some (Amount a)))
amount_holds ts h = then_holds HasNumbersInAmount HasNumbersInCost (read_amount ts) (λ a. Some (Amount a)) (read_amount_holds ts h) (λ a d. d)

read_cost_holds : (ts : List (ℕ × CostToken)) → AreCostTokens ts → Holds HasNumbersInCost (read_cost ts)
read_cost_holds [] h = tt
read_cost_holds ((at, CostName name) ∷ ts) h = choose (Holds HasNumbersInCost) (bytes_eq name (codes "range")) (read_range at ts) None (read_range_holds at ts h.1) tt
read_cost_holds ((at, Digits bytes) ∷ ts) h = amount_holds ((at, Digits bytes) ∷ ts) h
read_cost_holds ((at, Negative bytes) ∷ ts) h = amount_holds ((at, Negative bytes) ∷ ts) h
read_cost_holds ((at, Single b) ∷ ts) h = amount_holds ((at, Single b) ∷ ts) h

or_no_cost_holds : (o : Option CostText) → Holds HasNumbersInCost o → HasNumbersInCost (or_no_cost o)
or_no_cost_holds None h = tt
or_no_cost_holds (Some c) h = h

cost_numbers : (at : ℕ) (bytes : List ℕ) → HasNumbersInCost (or_no_cost (cost_in at bytes))
unfolding cost_in
cost_numbers at bytes = or_no_cost_holds (read_cost (cost_tokens at bytes)) (read_cost_holds (cost_tokens at bytes) (cost_tokens_digits (length bytes) at bytes))

token_number : (t : Token) → HasDigits t → AllDigits 10 (digits_in t)
token_number (Integer d) h = h
token_number _ h = tt

numbers_hold : (spots : List Spot) → AllByRecursion IsSpot spots → AllByRecursion IsNumber (numbers_in spots)
numbers_hold [] h = tt
numbers_hold (s ∷ spots) h = go s.token h.0.digits (numbers_hold spots h.1)
  where
    go : (t : Token) → HasDigits t → AllByRecursion IsNumber (numbers_in spots) → AllByRecursion IsNumber (numbers_in (record { token = t; at = s.at } ∷ spots))
    go (Integer d) k m = (k, m)
    go _ k m = m

amount_numbers : (ws : List Word) → AllByRecursion IsNumber ws → HasNumbersIfAny (amount_of ws)
amount_numbers [] h = tt
amount_numbers (c ∷ []) h = (h.0, tt)
amount_numbers (c ∷ d ∷ more) h = (h.0, h.1.0)

burg_numbers : (ws : List Word) → AllByRecursion IsNumber ws → HasNumbersInTail (burg_of ws)
burg_numbers [] h = (tt, tt)
burg_numbers (e ∷ ws) h = (h.0, amount_numbers ws h.1)

tail_numbers : (spots : List Spot) → AllByRecursion IsSpot spots → HasNumbersInTail (tail_in spots)
tail_numbers [] h = (tt, tt)
tail_numbers (s ∷ spots) h = go s.token h.0.within (burg_numbers (numbers_in spots) (numbers_hold spots h.1)) (tail_numbers spots h.1)
  where
    go : (t : Token) → s.at + width t < 2 ^ 63 → HasNumbersInTail (burg_of (numbers_in spots)) → HasNumbersInTail (tail_in spots) → HasNumbersInTail (tail_in (record { token = t; at = s.at } ∷ spots))
    go (Quoted inside line) w b k = ((omega (arith, w)), cost_numbers (s.at + length inside + 2) line)
    go Equals w b k = b
    go _ w b k = k

entry_numbers : (name : Word) (spots : List Spot) → AllByRecursion IsSpot spots → AllByRecursion HasNumbers (entry_in name spots)
entry_numbers name [] h = tt
entry_numbers name (s ∷ spots) h = (token_number s.token h.0.digits, tt)

pub named_numbers : (name : Word) (spots : List Spot) → AllByRecursion IsSpot spots → AllByRecursion HasNumbers (named_item name spots)
named_numbers name [] h = tt
named_numbers name (s ∷ spots) h = choose (AllByRecursion HasNumbers) (is_equals s.token) (entry_in name spots) _ (entry_numbers name spots h.1) (tail_numbers spots h.1, tt)

start_numbers : (spots : List Spot) → AllByRecursion HasNumbers (start_item spots)
start_numbers [] = tt
start_numbers (s ∷ spots) = (tt, tt)

-- the numbers of the item that the spots are
pub item_numbers : (spots : List Spot) → AllByRecursion IsSpot spots → AllByRecursion HasNumbers (item_of spots)
item_numbers [] h = tt
item_numbers (s ∷ more) h = go s.token (start_numbers more) (λ n. named_numbers (word s.at n) more h.1)
  where
    go : (t : Token) → AllByRecursion HasNumbers (start_item more) → ((n : List ℕ) → AllByRecursion HasNumbers (named_item (word s.at n) more)) → AllByRecursion HasNumbers (item_of (record { token = t; at = s.at } ∷ more))
    go Start a b = a
    go (Code n) a b = (tt, tt)
    go Percents a b = (tt, tt)
    go (Name n) a b = b n
    go _ a b = tt

one_spot : (all count counter : ℕ) (rest : List ℕ) → counter < count → first all (count - counter) rest ≡ spot all rest ∷ first all (count - (counter + 1)) (behind rest)
one_spot all count counter rest h = let e : count - counter ≡ suc (count - (counter + 1)) = omega arith in rw e refl

-- one token more is in the list
pub spots_step : (all count counter : ℕ) (have new whole : List Spot) (rest left : List ℕ) (s : Spot) → counter < count → have ++ first all (count - counter) rest ≡ whole
    → s ≡ spot all rest → left ≡ behind rest → new ≡ have ++ (s ∷ []) → new ++ first all (count - (counter + 1)) left ≡ whole
spots_step all count counter have new whole rest left s h e a b c =
    ap (λ x. x ++ first all (count - (counter + 1)) left) c ∙ append_assoc have (s ∷ []) (first all (count - (counter + 1)) left)
    ∙ ap (λ x. have ++ (x ∷ first all (count - (counter + 1)) left)) a ∙ ap (λ x. have ++ (spot all rest ∷ first all (count - (counter + 1)) x)) b
    ∙ ap (λ x. have ++ x) (sym (one_spot all count counter rest h)) ∙ e

pub all_snoc : {X : Type 0} (P : X → Type 0) (xs : List X) (x : X) → AllByRecursion P xs → P x → AllByRecursion P (xs ++ (x ∷ []))
all_snoc P [] x h k = (k, tt)
all_snoc P (y ∷ xs) x h k = (h.0, all_snoc P xs x h.1 k)
