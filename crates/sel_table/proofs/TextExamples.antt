-- Worked texts, of the rules 1 `a: b ""`, 2 `a: X "" 1` and 3 `b: X "" 1`: the table's text, and the places of faults.
use Rattle.std.proofs.Common.{◌≡◌, ℕ, ◌+◌, ◌<◌, ◌≤◌, ◌^◌, List, [], ◌∷◌, ◌++◌, Option, Some, None, All, refl, ap, ◌∙◌, sym, pos, arith, codes, decimal, length}
use Rattle.std.proofs.lemmas.Fmt.{decimal_digit}
use Rattle.std.proofs.lemmas.Int.{ints}
use Rattle.std.proofs.lemmas.List.Elements.{All-cons, All-nil}
use Rattle.sel_normal.specs.declared.normal.Body.TheVariants.{Chain, Operator}
use Rattle.sel_normal.specs.NormalForms.{NormalForm}
use Rattle.sel_items.specs.declared.items.Item.{Item}
use Rattle.sel_items.specs.declared.items.Items.{Items}
use Rattle.sel_full.specs.declared.refusal.TableFault.TheVariants.{State, Number}
use Rattle.sel_full.specs.declared.table.Table.{Table}
use Rattle.sel_full.specs.Builds.{IsDear}
use Rattle.sel_full.specs.Forms.{IsFormItem, IsFormEntry, IsFormState, HasForm}
use Rattle.sel_full.specs.TableTexts.{item_text, state_text, head_text, table_text}
use Rattle.sel_table.specs.Loading.{Spells, placed}
use Rattle.sel_table.specs.LineReading.{IsAmount}
use Rattle.sel_table.proofs.Pairs.{not_dear}

-- X is 0; a is 0, b is 1
abbrev normal : NormalForm
normal = record {
  nonterminals = 2;
  user_rules = 3;
  rules = record { left = 0; cost = record { first = 0; second = 0 }; body = Chain 1 } ∷ record { left = 0; cost = record { first = 1; second = 0 }; body = Operator 0 None None None }
      ∷ record { left = 1; cost = record { first = 1; second = 0 }; body = Operator 0 None None None } ∷ [];
  tests = [];
}

abbrev item : ℕ → Option Item
item r = Some (record { cost = record { first = 0; second = pos 0 }; rule = r })

abbrev empty : Items
empty = record { entries = None ∷ None ∷ [] }

abbrev full : Items
full = record { entries = item 1 ∷ item 3 ∷ [] }

abbrev table : Table
table = record { states = empty ∷ full ∷ []; numbers = 1 ∷ 1 ∷ [] }

digit : (n : ℕ) → n < 10 → decimal n ≡ (48 + n) ∷ []
digit = decimal_digit

head : head_text 2 ≡ codes "seltable 1 2"
head = ap (λ d. codes "seltable 1 " ++ d) (digit 2 (omega arith))

entry : (r : ℕ) → r < 10 → item_text (item r) ≡ codes "0,0:" ++ ((48 + r) ∷ [])
entry r small = λ i. digit 0 (omega arith) i ++ (codes "," ++ (digit 0 (omega arith) i ++ (codes ":" ++ digit r small i)))

row : state_text full ≡ codes "0,0:1 0,0:3"
row = λ i. entry 1 (omega arith) i ++ ((codes " " ++ entry 3 (omega arith) i) ++ [])

pub text : table_text table ≡ codes "seltable 1 2\n- -\n0,0:1 0,0:3\n1\n1\n"
text = λ i. (head i ++ codes "\n") ++ (codes "- -\n" ++ ((row i ++ codes "\n") ++ ((digit 1 (omega arith) i ++ codes "\n") ++ ((digit 1 (omega arith) i ++ codes "\n") ++ []))))

item_form : (r : ℕ) → 1 ≤ r → r ≤ 3 → IsFormEntry 3 (item r)
item_form r some few = record { cheap = not_dear 0 (pos 0) (omega arith) (record { low = omega (arith, ints); high = omega (arith, ints) }); some = some; rule = few }

empty_form : IsFormState normal empty
empty_form = record { long = refl; entries = All-cons (IsFormEntry 3) None (None ∷ []) tt (All-cons (IsFormEntry 3) None [] tt (All-nil (IsFormEntry 3))) }

full_form : IsFormState normal full
full_form = record {
  long = refl;
  entries = All-cons (IsFormEntry 3) (item 1) (item 3 ∷ []) (item_form 1 (omega arith) (omega arith)) (All-cons (IsFormEntry 3) (item 3) [] (item_form 3 (omega arith) (omega arith)) (All-nil (IsFormEntry 3)));
}

-- two states, and two keys: X with no number, and with one
pub spelled : Spells normal (codes "seltable 1 2\n- -\n0,0:1 0,0:3\n1\n1\n") table
spelled = record {
  form = record {
    some = omega arith;
    few = omega arith;
    states = All-cons (IsFormState normal) empty (full ∷ []) empty_form (All-cons (IsFormState normal) full [] full_form (All-nil (IsFormState normal)));
    as_many = refl;
    few_keys = omega arith;
    numbers = All-cons (λ n. n < 2 ^ 16) 1 (1 ∷ []) (omega arith) (All-cons (λ n. n < 2 ^ 16) 1 [] (omega arith) (All-nil (λ n. n < 2 ^ 16)));
  };
  text = sym text;
}

-- the last number is wrong: line 5; the second state is wrong: line 3
pub last_number : placed 2 (Number 1) ≡ record { kind = 3; line = 5 }
last_number = refl

pub second_state : placed 2 (State 1) ≡ record { kind = 2; line = 3 }
second_state = refl
