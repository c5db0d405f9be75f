-- The checks of an item that has no fault of form. Each takes the items before and the item, and gives a place or nothing.
use Rattle.std.specs.Prelude.{ℕ, ◌-◌, ◌^◌, ◌==◌, ◌&&◌, ◌||◌, Bool, false, not, nat_lt, nat_le, List, [], ◌∷◌, ◌++◌, length, drop, Option, Some, None, if◌then◌else◌}
use Rattle.std.specs.Char.{is_ascii_digit}
use Rattle.std.specs.Str.Parse.{digits_value}
use Rattle.sel_grammar.specs.Limits.{most_operators, most_nonterminals, most_rules, most_kids, greatest_cost}
use Rattle.sel_grammar_text.specs.Items.{Word, AmountText, CostText, NoCost, Amount, Ranged, TailText, OneLine, Burg, RuleText, Item, EntryItem, RuleItem}
use Rattle.sel_grammar_text.specs.Names.{is_among, operators, rules, leaves, nonterminal_words, nonterminals, uses, first_use}
use Rattle.sel_grammar_text.specs.TemplateText.{pieces, bad_sign, first_sign, ends_line}

-- the first of two places
abbrev pub or_place : Option ℕ → Option ℕ → Option ℕ
or_place (Some at) other = Some at
or_place None other = other

abbrev pub place_if : Bool → ℕ → Option ℕ
place_if b at = if b then Some at else None

-- a name that was declared before
abbrev pub duplicate_term : List Item → Item → Option ℕ
duplicate_term before (EntryItem name number) = place_if (is_among (operators before) name.bytes) name.at
duplicate_term before _ = None

-- an operator or a rule more than there may be
abbrev pub too_many_items : List Item → Item → Option ℕ
too_many_items before (EntryItem name number) = place_if (nat_le most_operators (length (operators before))) name.at
too_many_items before (RuleItem r) = place_if (nat_le most_rules (length (rules before))) r.left.at
too_many_items before _ = None

-- a left name that is an operator
abbrev pub term_on_left : List Item → Item → Option ℕ
term_on_left before (RuleItem r) = place_if (is_among (operators before) r.left.bytes) r.left.at
term_on_left before _ = None

-- the first of the words that is a new name where there are as many as there may be
abbrev pub past_most : List (List ℕ) → List Word → Option ℕ
past_most names [] = None
past_most names (w ∷ words) =
    if is_among names w.bytes then past_most names words
    else (if nat_le most_nonterminals (length names) then Some w.at else past_most (names ++ (w.bytes ∷ [])) words)

-- a nonterminal more than there may be
abbrev pub too_many_nonterminals : List Item → Item → Option ℕ
too_many_nonterminals before (RuleItem r) = past_most (nonterminals before) (nonterminal_words (operators before) r)
too_many_nonterminals before _ = None

abbrev pub differs : Option ℕ → ℕ → Bool
differs None n = false
differs (Some m) n = not (m == n)

-- a nonterminal with kids, or an operator with too many or with another number than at its first use
abbrev pub has_wrong_kids : List (List ℕ) → List (Word × ℕ) → Word × ℕ → Bool
has_wrong_kids ops earlier n =
    if is_among ops n.0.bytes then nat_lt most_kids n.1 || differs (first_use earlier n.0.bytes) n.1 else nat_lt 0 n.1

abbrev pub first_wrong_kids : List (List ℕ) → List (Word × ℕ) → List (Word × ℕ) → Option ℕ
first_wrong_kids ops earlier [] = None
first_wrong_kids ops earlier (n ∷ names) = if has_wrong_kids ops earlier n then Some n.0.at else first_wrong_kids ops (earlier ++ (n ∷ [])) names

-- the first name with a wrong number of kids
abbrev pub arity : List Item → Item → Option ℕ
arity before (RuleItem r) = first_wrong_kids (operators before) (uses (rules before)) r.pattern
arity before _ = None

-- the template begins with `?` or `#`
abbrev pub begins_reserved : List ℕ → Bool
begins_reserved [] = false
begins_reserved (b ∷ bytes) = (b == 63) || (b == 35)

-- what is wrong with the template of a one-line rule
abbrev pub in_template : Item → (RuleText → Word → Option ℕ) → Option ℕ
in_template (RuleItem r) f = elim r.tail as (λ _. Option ℕ) [ OneLine w cost ↦ f r w | Burg external cost ↦ None ]
in_template _ f = None

-- a reserved first byte, or a percent sign that nothing lawful follows
abbrev pub template_form : List Item → Item → Option ℕ
template_form before item = in_template item (λ r w. if begins_reserved w.bytes then Some w.at else bad_sign (pieces w.at w.bytes))

-- a digit that names none of that many leaves
abbrev pub is_past_kid : ℕ → ℕ → Bool
is_past_kid leaves c = is_ascii_digit c && nat_le leaves (c - 48)

-- a kid that the pattern doesn't have
abbrev pub kid_number : List Item → Item → Option ℕ
kid_number before item = in_template item (λ r w. first_sign (is_past_kid (length (leaves (operators before) r.pattern))) (pieces w.at w.bytes))

-- the result in a template that isn't an instruction
abbrev pub result_in_fragment : List Item → Item → Option ℕ
result_in_fragment before item = in_template item (λ r w. if ends_line (pieces w.at w.bytes) then None else first_sign (λ c. c == 99) (pieces w.at w.bytes))

-- one operator without kids
abbrev pub is_nullary : List (List ℕ) → List (Word × ℕ) → Bool
is_nullary ops [] = false
is_nullary ops (n ∷ []) = is_among ops n.0.bytes && (n.1 == 0)
is_nullary ops (n ∷ m ∷ names) = false

-- where the tail has a range
abbrev pub range_at : TailText → Option ℕ
range_at (OneLine w (Ranged at lo hi addend)) = Some at
range_at _ = None

-- a range where the pattern isn't one operator without kids
abbrev pub range_place : List Item → Item → Option ℕ
range_place before (RuleItem r) = if is_nullary (operators before) r.pattern then None else range_at r.tail
range_place before _ = None

-- the number is greater than a cost may be
abbrev pub large_cost : Word → Option ℕ
large_cost w = place_if (nat_lt greatest_cost (digits_value 10 w.bytes)) w.at

abbrev pub begins_with_minus : List ℕ → Bool
begins_with_minus [] = false
begins_with_minus (b ∷ bytes) = b == 45

-- the number is outside the signed 64-bit numbers
abbrev pub large_bound : Word → Option ℕ
large_bound w =
    if begins_with_minus w.bytes then place_if (nat_lt (2 ^ 63) (digits_value 10 (drop 1 w.bytes))) w.at
    else place_if (nat_le (2 ^ 63) (digits_value 10 w.bytes)) w.at

abbrev pub large_option : Option Word → Option ℕ
large_option None = None
large_option (Some w) = large_cost w

-- the first of the amount's numbers that is too large
abbrev pub large_amount : AmountText → Option ℕ
large_amount a = or_place (large_cost a.first) (large_option a.second)

abbrev pub large_amount_if_any : Option AmountText → Option ℕ
large_amount_if_any None = None
large_amount_if_any (Some a) = large_amount a

abbrev pub large_in_cost : CostText → Option ℕ
large_in_cost NoCost = None
large_in_cost (Amount a) = large_amount a
large_in_cost (Ranged at lo hi addend) = or_place (large_bound lo) (or_place (large_bound hi) (large_amount_if_any addend))

abbrev pub large_in_tail : TailText → Option ℕ
large_in_tail (OneLine w cost) = large_in_cost cost
large_in_tail (Burg external cost) = large_amount_if_any cost

-- a bound, or a number of a cost or an addend, that is too large
abbrev pub cost_large : List Item → Item → Option ℕ
cost_large before (RuleItem r) = large_in_tail r.tail
cost_large before _ = None
