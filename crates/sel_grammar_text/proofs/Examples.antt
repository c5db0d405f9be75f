-- Small texts, their faults, and what they say.
use Rattle.std.proofs.Common.{◌≡◌, ℕ, List, [], ◌∷◌, ◌++◌, Option, Some, None, true, false, refl, ◌+◌}
use Rattle.std.specs.Prelude.{codes}
use Rattle.sel_grammar.specs.Limits as limits
use Rattle.sel_grammar.specs.declared.grammar.Pattern.{Leaf, Nullary, Binary}
use Rattle.sel_grammar.specs.declared.grammar.Part.TheVariants.{Attribute}
use Rattle.sel_grammar_text.specs.Items.{word, Amount}
use Rattle.sel_grammar_text.specs.CostText.{cost_in, wrong_cost}
use Rattle.sel_grammar_text.specs.FormFaults.{is_cost_list}
use Rattle.sel_grammar_text.specs.Spots.{first_spots, tokens, here}
use Rattle.sel_grammar_text.specs.Cutting.{cutting}
use Rattle.sel_grammar_text.specs.Faults as faults
use Rattle.sel_grammar_text.specs.ItemFaults.{check, check_all}
use Rattle.sel_grammar_text.specs.GrammarText.{end_fault}
use Rattle.sel_grammar_text.specs.Meaning.{grammar_of}
use Rattle.sel_grammar_text.specs.Places.{line_of, column_of}
use Rattle.sel_grammar_text.specs.Machine.{run, begin}
use Rattle.sel_grammar_text.specs.declared.fault.Fault.{Fault}
use Rattle.sel_grammar_text.specs.declared.form.State.TheVariants.{Ruling}

-- two lines of 20 bytes, with 9 tokens and `%%`
abbrev head : List ℕ
head = codes "%term X=1 U=2 P=3" ++ (10 ∷ codes "%%" ++ (10 ∷ []))

abbrev quoted : List ℕ → List ℕ
quoted inside = 34 ∷ (inside ++ (34 ∷ []))

-- the fault of the first item with one, in the first n tokens of a line behind the head
abbrev found : ℕ → List ℕ → Option Fault
found n line = check_all [] (cutting n (head ++ line)).items

-- the fault at a column of that line
abbrev fault : ℕ → ℕ → Option Fault
fault kind column = Some (faults.fault kind (20 + column))

cost_large : found 15 (codes "a: X " ++ quoted [] ++ codes " 65536") ≡ fault limits.cost_large 9
unfolding cutting check cost_in
cost_large = refl

second_large : found 15 (codes "a: X " ++ quoted [] ++ codes " (0,65536)") ≡ fault limits.cost_large 12
unfolding cutting check cost_in
second_large = refl

term_on_left : found 15 (codes "X: a " ++ quoted []) ≡ fault limits.term_on_left 1
unfolding cutting check
term_on_left = refl

arity_one : found 18 (codes "a: Y(X) " ++ quoted []) ≡ fault limits.arity 4
unfolding cutting check
arity_one = refl

arity_three : found 22 (codes "a: P(X,X,X) " ++ quoted []) ≡ fault limits.arity 4
unfolding cutting check
arity_three = refl

no_rule : end_fault (cutting 15 (head ++ (codes "a: b " ++ quoted []))).items (here 15 (head ++ (codes "a: b " ++ quoted []))).at ≡ fault limits.no_rule 4
unfolding cutting end_fault
no_rule = refl

kid_number : found 15 (codes "a: X " ++ quoted (codes "%1")) ≡ fault limits.kid_number 7
unfolding cutting check
kid_number = refl

result : found 15 (codes "a: X " ++ quoted (codes "%c")) ≡ fault limits.result_in_fragment 7
unfolding cutting check
result = refl

template : found 15 (codes "a: X " ++ quoted (codes "%b")) ≡ fault limits.template_form 7
unfolding cutting check
template = refl

hash : found 15 (codes "a: X " ++ quoted (codes "# move")) ≡ fault limits.template_form 7
unfolding cutting check
hash = refl

range_place : found 18 (codes "a: U(a) " ++ quoted [] ++ codes " range(a,0,1)") ≡ fault limits.range_place 12
unfolding cutting check cost_in
range_place = refl

none_found : found 15 (codes "a: X " ++ quoted [] ++ codes " range ( a , -1 , 2 ) + 7") ≡ None
unfolding cutting check cost_in
none_found = refl

cost_form : wrong_cost 0 (codes " c+1") ≡ Some 1
unfolding cost_in
cost_form = refl

pair : cost_in 0 (codes " ( 1 , 2 )") ≡ Some (Amount (record { first = word 3 (codes "1"); second = Some (word 7 (codes "2")) }))
unfolding cost_in
pair = refl

three : wrong_cost 0 (codes " (1,2,3)") ≡ Some 1
unfolding cost_in
three = refl

list_of_two : is_cost_list (codes "1,2);") ≡ false
list_of_two = refl

list_of_three : is_cost_list (codes "1,2,3);") ≡ true
list_of_three = refl

stray : run (tokens (first_spots 13 (head ++ (codes "a X " ++ quoted [])))) begin ≡ None
stray = refl

goes : run (tokens (first_spots 15 (head ++ (codes "a: X " ++ quoted [])))) begin ≡ Some Ruling
goes = refl

duplicate : check_all [] (cutting 7 (codes "%term X=1 X=2")).items ≡ Some (faults.fault limits.duplicate_term 10)
unfolding cutting check
duplicate = refl

no_rules : end_fault (cutting 11 head).items (here 11 head).at ≡ Some (faults.fault limits.no_rules 21)
unfolding cutting end_fault
no_rules = refl

no_rules_line : line_of head 21 ≡ 3
no_rules_line = refl

no_rules_column : column_of head 21 ≡ 1
no_rules_column = refl

stray_place : (here 12 (head ++ (codes "a X " ++ quoted []))).at ≡ 23
stray_place = refl

-- A text in both dialects, and the grammar that it spells.
abbrev both : List ℕ
both = codes "%{ #include c.h %}" ++ (10 ∷ codes "%term ADD=2 REG=1") ++ (10 ∷ codes "%%") ++ (10 ∷ codes "reg : ADD(reg, reg) = 7 (1) ;")
    ++ (10 ∷ codes "reg: REG " ++ quoted (codes "%a")) ++ (10 ∷ codes "%%") ++ (10 ∷ codes "int main;")

both_says : grammar_of both (cutting 28 both).items ≡ record {
  start = 0;
  operators = record { name = codes "ADD"; external = 2; arity = Some 2 } ∷ record { name = codes "REG"; external = 1; arity = Some 0 } ∷ [];
  nonterminals = codes "reg" ∷ [];
  rules = record { left = 0; pattern = Binary 0 (Leaf 0) (Leaf 0); template = record { parts = [] }; cost = record { first = 1; second = 0 }; range = None; external = Some 7; line = 4; column = 1 }
      ∷ record { left = 0; pattern = Nullary 1; template = record { parts = Attribute ∷ [] }; cost = record { first = 0; second = 0 }; range = None; external = None; line = 5; column = 1 } ∷ [];
}
unfolding cutting grammar_of cost_in
both_says = refl
