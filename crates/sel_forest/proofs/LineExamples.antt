-- Tokens, values and faults of small lines, computed.
use Rattle.std.proofs.Common.{◌≡◌, ℕ, List, [], ◌∷◌, ◌++◌, Option, Some, None, refl}
use Rattle.std.specs.Prelude.{codes, pos, neg_ℤ}
use Rattle.sel_grammar.specs.declared.grammar.Grammar.{Grammar}
use Rattle.sel_forest.specs.Tokens.{Name, Number, Symbol, Colon, Open, Comma, Close, Bad, start, first, after, token_at, place, IsCutInto}
use Rattle.sel_forest.specs.TreeText.{value_of, operator_number}
use Rattle.sel_forest.specs.LineFaults.{kind_of, around}
use Rattle.sel_forest.specs.ForestText.{lines_of}
use Rattle.sel_forest.specs.Machine.{run}
use Rattle.sel_forest.specs.declared.line.State.{State}
use Rattle.sel_forest.specs.declared.line.State.TheVariants.{Start, Ended}

abbrev small : Grammar
small = record {
  start = 0;
  operators = record { name = codes "ASGN"; external = 1; arity = Some 2 } ∷ record { name = codes "ADD"; external = 2; arity = Some 2 }
      ∷ record { name = codes "INDIR"; external = 3; arity = Some 1 } ∷ record { name = codes "CNST"; external = 4; arity = Some 0 }
      ∷ record { name = codes "ADDR"; external = 5; arity = Some 0 } ∷ record { name = codes "MUL"; external = 6; arity = None } ∷ [];
  nonterminals = [];
  rules = [];
}

-- what is wrong with token n, where it is of the form
abbrev kind : ℕ → List ℕ → Option ℕ
kind n line = kind_of small 0 (around small (first n (start line))) (token_at (after n (start line)))

-- whether the machine goes on
abbrev state : ℕ → List ℕ → Option State
state n line = run (first n (start line)) Start

unknown : kind 0 (codes "FOO(ADDR:x)") ≡ Some 2
unknown = refl

wants_more : kind 5 (codes "ADD(CNST:1)") ≡ Some 3
wants_more = refl

wants_more_place : place (codes "ADD(CNST:1)") 5 ≡ 10
wants_more_place = refl

bare : kind 1 (codes "INDIR") ≡ Some 3
bare = refl

bare_place : place (codes "INDIR") 1 ≡ 5
bare_place = refl

no_kids_taken : kind 3 (codes "ADDR:x(CNST:1)") ≡ Some 3
no_kids_taken = refl

no_kids_place : place (codes "ADDR:x(CNST:1)") 3 ≡ 6
no_kids_place = refl

large : kind 2 (codes "CNST:9223372036854775808") ≡ Some 4
large = refl

large_place : place (codes "CNST:9223372036854775808") 2 ≡ 5
large_place = refl

least : kind 2 (codes "CNST:-9223372036854775808") ≡ None
least = refl

below_least : kind 2 (codes "CNST:-9223372036854775809") ≡ Some 4
below_least = refl

greatest : kind 2 (codes "CNST:0009223372036854775807") ≡ None
greatest = refl

-- an operator without an arity: a `(` is lawful, the `,` behind two kids isn't, a `)` always is
third_kid : kind 5 (codes "MUL(ADDR,ADDR,ADDR)") ≡ Some 3
third_kid = refl

second_kid : kind 3 (codes "MUL(ADDR,ADDR)") ≡ None
second_kid = refl

one_kid_closed : kind 3 (codes "MUL(ADDR)") ≡ None
one_kid_closed = refl

no_kid_ended : kind 1 (codes "MUL") ≡ None
no_kid_ended = refl

two_trees : state 4 (codes "CNST:1 CNST:2") ≡ None
two_trees = refl

two_trees_place : place (codes "CNST:1 CNST:2") 3 ≡ 7
two_trees_place = refl

not_closed : state 7 (codes "INDIR(ADDR:x") ≡ None
not_closed = refl

not_closed_place : place (codes "INDIR(ADDR:x") 5 ≡ 12
not_closed_place = refl

-- behind a name that stops early stands a byte that begins no token
dotted : first 2 (start (codes "ADD.x")) ≡ Name (codes "ADD") ∷ Bad 46 ∷ []
dotted = refl

dotted_unknown : kind 0 (codes "FOO.a") ≡ Some 2
dotted_unknown = refl

digits_end : first 4 (start (codes "X:12ab")) ≡ Name (codes "X") ∷ Colon ∷ Number (codes "12") ∷ Name (codes "ab") ∷ []
digits_end = refl

digits_end_state : state 4 (codes "X:12ab") ≡ None
digits_end_state = refl

digits_end_place : place (codes "X:12ab") 3 ≡ 4
digits_end_place = refl

-- an attribute that isn't there
no_attribute_state : state 3 (codes "X:") ≡ None
no_attribute_state = refl

no_attribute_place : place (codes "X:") 2 ≡ 2
no_attribute_place = refl

lone_minus : first 3 (start (codes "X:- 5")) ≡ Name (codes "X") ∷ Colon ∷ Bad 45 ∷ []
lone_minus = refl

blank_before_number : first 3 (start (codes "X: -5")) ≡ Name (codes "X") ∷ Colon ∷ Number (codes "-5") ∷ []
blank_before_number = refl

whole : IsCutInto (codes " ADD ( CNST:a , CNST:-0 )") (Name (codes "ADD") ∷ Open ∷ Name (codes "CNST") ∷ Colon ∷ Symbol (codes "a") ∷ Comma ∷ Name (codes "CNST") ∷ Colon ∷ Number (codes "-0") ∷ Close ∷ [])
whole = refl

whole_state : state 11 (codes " ADD ( CNST:a , CNST:-0 )") ≡ Some Ended
whole_state = refl

-- a carriage return is a blank, and the end stands behind it
returned : IsCutInto (codes "CNST" ++ (13 ∷ [])) (Name (codes "CNST") ∷ [])
returned = refl

zero : value_of (codes "-0") ≡ pos 0
zero = refl

leading : value_of (codes "-007") ≡ neg_ℤ (pos 7)
leading = refl

fourth : operator_number small (codes "CNST") ≡ 3
fourth = refl

returned_place : place (codes "CNST" ++ (13 ∷ [])) 1 ≡ 5
returned_place = refl

-- a last line feed ends the last line, and a blank line follows
two_lines : lines_of (codes "A" ++ (10 ∷ [])) ≡ codes "A" ∷ [] ∷ []
two_lines = refl

-- the limits at a name: trees, then nodes, then the operator
abbrev at_name : ℕ → ℕ → List ℕ → Option ℕ
at_name trees names n = kind_of small trees (record { names = names; bare = None; parents = [] }) (Name n)

last_tree : at_name 999999 0 (codes "ADDR") ≡ None
last_tree = refl

tree_too_many : at_name 1000000 0 (codes "FOO") ≡ Some 7
tree_too_many = refl

inside_last_tree : at_name 1000000 1 (codes "ADDR") ≡ None
inside_last_tree = refl

last_node : at_name 0 65534 (codes "ADDR") ≡ None
last_node = refl

node_too_many : at_name 0 65535 (codes "FOO") ≡ Some 6
node_too_many = refl
