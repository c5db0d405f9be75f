-- Lawful tables: states, and for each key the number of the state that follows from it.
use Rattle.std.specs.Prelude.{◌≡◌, ℕ, zero, suc, ◌+◌, ◌-◌, ◌==◌, if◌then◌else◌, Option, Some, None, List, [], ◌∷◌, length, map, slice_get}
use Rattle.std.specs.List.{flat_map, range_with_len}
use Rattle.sel_base.specs.declared.range.Range.{Range}
use Rattle.sel_grammar.specs.Limits.{most_operators}
use Rattle.sel_range.specs.Classes.{class_of, last_class}
use Rattle.sel_range.specs.Limits.{least_number}
use Rattle.sel_normal.specs.declared.normal.Body.{Body}
use Rattle.sel_normal.specs.declared.normal.Body.TheVariants.{Chain, Operator}
use Rattle.sel_normal.specs.declared.normal.NormalRule.{NormalRule}
use Rattle.sel_normal.specs.NormalForms.{NormalForm}
use Rattle.sel_items.specs.declared.items.Items.{Items}
use Rattle.sel_items.specs.Follows.{NodeKey, key_of, Follows}
use Rattle.sel_full.specs.Reach.{IsEmptySet, kid_count}

-- the classes that some attribute has, in their order: 0, and those from that of the least number to the last
abbrev pub occurring : List Range → List ℕ
occurring tests = 0 ∷ range_with_len (class_of tests (Some least_number)) (last_class tests + 1 - class_of tests (Some least_number))

-- how many kids the operator has in a rule, where it is the rule's
abbrev pub kids_in : Body → ℕ → Option ℕ
kids_in (Chain m) op = None
kids_in (Operator o a b test) op = if o == op then Some (kid_count a b) else None

-- the first of two where it is there, and else the second
abbrev pub or_else : Option ℕ → Option ℕ → Option ℕ
or_else None b = b
or_else (Some k) b = Some k

-- how many kids the operator has by the rules, where one of them uses it
abbrev pub kids_by : List NormalRule → ℕ → Option ℕ
kids_by [] op = None
kids_by (rule ∷ rules) op = or_else (kids_in rule.body op) (kids_by rules op)

-- the keys of an operator with so many kids over states: by classes, or by the left state, and then by the right one
abbrev pub keys_with : NormalForm → List Items → ℕ → Option ℕ → List NodeKey
keys_with normal states op None = []
keys_with normal states op (Some zero) = map (λ class. key_of op class []) (occurring normal.tests)
keys_with normal states op (Some (suc zero)) = map (λ i. key_of op 0 (i ∷ [])) states
keys_with normal states op (Some (suc (suc n))) = flat_map (λ i. map (λ j. key_of op 0 (i ∷ j ∷ [])) states) states

-- the keys of an operator over states
abbrev pub keys_of : NormalForm → List Items → ℕ → List NodeKey
keys_of normal states op = keys_with normal states op (kids_by normal.rules op)

-- the keys of the operators below a number
abbrev pub keys_below : NormalForm → List Items → ℕ → List NodeKey
keys_below normal states operator = flat_map (keys_of normal states) (range_with_len 0 operator)

-- all keys over states, in the order of keys
abbrev pub all_keys : NormalForm → List Items → List NodeKey
all_keys normal states = keys_below normal states most_operators

-- no state stands at two places
abbrev pub AllDiffer : List Items → Type 0
AllDiffer states = (j k : ℕ) (i : Items) → slice_get states j ≡ Some i → slice_get states k ≡ Some i → j ≡ k

-- States that differ, the empty one first, and for each key the number of the state that follows from it.
pub record IsLawfulTable (normal : NormalForm) (states : List Items) (numbers : List ℕ) : Type 0 where
  pub long : (k : ℕ) (i : Items) → slice_get states k ≡ Some i → length i.entries ≡ normal.nonterminals
  pub empty : (i : Items) × (slice_get states 0 ≡ Some i) × IsEmptySet normal i
  pub differ : AllDiffer states
  pub as_many : length numbers ≡ length (all_keys normal states)
  pub follow : (n number : ℕ) (key : NodeKey) → slice_get (all_keys normal states) n ≡ Some key → slice_get numbers n ≡ Some number → (i : Items) × (slice_get states number ≡ Some i) × Follows normal key i

-- how many keys come before those of an operator
abbrev pub key_start : NormalForm → List Items → ℕ → ℕ
key_start normal states operator = length (keys_below normal states operator)
