-- The first fault of a line.
use Rattle.std.specs.Prelude.{◌≡◌, ℕ, suc, ◌+◌, ◌^◌, ◌<◌, ◌==◌, ◌&&◌, ◌||◌, Bool, false, nat_lt, nat_le, List, [], ◌∷◌, length, slice_get, unwrap_or, Option, Some, None, if◌then◌else◌}
use Rattle.std.specs.Str.Parse.{digits_value}
use Rattle.sel_grammar.specs.declared.grammar.Grammar.{Grammar}
use Rattle.sel_grammar.specs.declared.grammar.Operator.{Operator}
use Rattle.sel_forest.specs.declared.around.Parent.{Parent}
use Rattle.sel_forest.specs.Limits as limits
use Rattle.sel_forest.specs.Limits.{most_trees, most_nodes, greatest_depth}
use Rattle.sel_forest.specs.Tokens.{Token, Name, Number, Open, Comma, Close, End, first, after, start, token_at, place}
use Rattle.sel_forest.specs.Form.{IsLine, GoesOn}
use Rattle.sel_forest.specs.TreeText.{operator_number, is_negative, without_sign}

-- What surrounds the place behind some tokens: how many names came, the operator that came last if no parenthesis
-- followed it, and the parents there, the innermost first.
pub record Around : Type 0 where
  pub names : ℕ
  pub bare : Option ℕ
  pub parents : List Parent

abbrev pub with_parent : Option ℕ → List Parent → List Parent
with_parent None ps = ps
with_parent (Some op) ps = record { operator = op; kids = 0 } ∷ ps

abbrev pub with_whole_kid : List Parent → List Parent
with_whole_kid [] = []
with_whole_kid (p ∷ ps) = record { operator = p.operator; kids = p.kids + 1 } ∷ ps

abbrev pub without_first : List Parent → List Parent
without_first [] = []
without_first (p ∷ ps) = ps

abbrev pub around_next : Grammar → Around → Token → Around
around_next g a (Name n) = record { names = a.names + 1; bare = Some (operator_number g n); parents = a.parents }
around_next g a Open = record { names = a.names; bare = None; parents = with_parent a.bare a.parents }
around_next g a Comma = record { names = a.names; bare = None; parents = with_whole_kid a.parents }
around_next g a Close = record { names = a.names; bare = None; parents = without_first a.parents }
around_next g a _ = a

abbrev pub around_from : Grammar → Around → List Token → Around
around_from g a [] = a
around_from g a (t ∷ ts) = around_from g (around_next g a t) ts

-- what surrounds the start of a line
abbrev pub at_start : Around
at_start = record { names = 0; bare = None; parents = [] }

-- what surrounds the place behind a line's first tokens
abbrev pub around : Grammar → List Token → Around
around g ts = around_from g at_start ts

-- the least number of kids: the arity, or 0 where that is open
abbrev pub least_of : Option Operator → ℕ
least_of None = 0
least_of (Some operator) = unwrap_or operator.arity 0

-- the greatest number of kids: the arity, or 2 where that is open
abbrev pub most_of : Option Operator → ℕ
most_of None = 2
most_of (Some operator) = unwrap_or operator.arity 2

abbrev pub least_kids : Grammar → ℕ → ℕ
least_kids g op = least_of (slice_get g.operators op)

abbrev pub most_kids : Grammar → ℕ → ℕ
most_kids g op = most_of (slice_get g.operators op)

abbrev pub takes_none : Grammar → Option ℕ → Bool
takes_none g None = false
takes_none g (Some op) = most_kids g op == 0

abbrev pub wants_some : Grammar → Option ℕ → Bool
wants_some g None = false
wants_some g (Some op) = nat_lt 0 (least_kids g op)

-- the innermost parent takes no kid behind the one that ends here
abbrev pub takes_no_further : Grammar → List Parent → Bool
takes_no_further g [] = false
takes_no_further g (p ∷ ps) = nat_le (most_kids g p.operator) (p.kids + 1)

-- the innermost parent wants a kid behind the one that ends here
abbrev pub wants_another : Grammar → List Parent → Bool
wants_another g [] = false
wants_another g (p ∷ ps) = nat_lt (p.kids + 1) (least_kids g p.operator)

-- a parenthesis behind an operator that takes no kids, a comma or a closing parenthesis at the wrong number of kids,
-- or the end of an operator without kids that wants some
abbrev pub has_wrong_arity : Grammar → Around → Token → Bool
has_wrong_arity g a Open = takes_none g a.bare
has_wrong_arity g a Comma = wants_some g a.bare || takes_no_further g a.parents
has_wrong_arity g a Close = wants_some g a.bare || wants_another g a.parents
has_wrong_arity g a End = wants_some g a.bare
has_wrong_arity g a _ = false

-- no signed 64-bit number
abbrev pub is_too_large : List ℕ → Bool
is_too_large bytes = if is_negative bytes then nat_lt (2 ^ 63) (digits_value 10 (without_sign bytes)) else nat_le (2 ^ 63) (digits_value 10 (without_sign bytes))

abbrev pub unknown_kind : Option Operator → Option ℕ
unknown_kind None = Some limits.unknown_operator
unknown_kind (Some operator) = None

-- what is wrong with a name, where that many trees stand before its line
abbrev pub name_kind : Grammar → ℕ → Around → List ℕ → Option ℕ
name_kind g trees a n =
    if nat_le most_trees trees && (a.names == 0) then Some limits.too_many_trees
    else (if nat_le greatest_depth (length a.parents) then Some limits.too_deep
    else (if nat_le most_nodes a.names then Some limits.too_many_nodes
    else unknown_kind (slice_get g.operators (operator_number g n))))

-- what is wrong with a token with which some line of the form goes on
abbrev pub kind_of : Grammar → ℕ → Around → Token → Option ℕ
kind_of g trees a (Name n) = name_kind g trees a n
kind_of g trees a (Number bytes) = if is_too_large bytes then Some limits.number_large else None
kind_of g trees a t = if has_wrong_arity g a t then Some limits.arity else None

-- Token n of the line, from 0, has a fault of the kind: no line goes on with it, or else something is wrong with it.
pub data HasFault (g : Grammar) (trees : ℕ) (line : List ℕ) (n : ℕ) : ℕ → Type 0 where
  stray : (GoesOn (first (suc n) (start line)) → ⊥) → HasFault g trees line n limits.token
  wrong : (kind : ℕ) → GoesOn (first (suc n) (start line)) → kind_of g trees (around g (first n (start line))) (token_at (after n (start line))) ≡ Some kind → HasFault g trees line n kind

-- The line's first fault: the tokens before it have none and are no whole line. `at` is its place, from 0.
pub record HasFirstFault (g : Grammar) (trees : ℕ) (line : List ℕ) (kind at : ℕ) : Type 0 where
  pub n : ℕ
  pub before : (k other : ℕ) → k < n → HasFault g trees line k other → ⊥
  pub not_whole : IsLine (first n (start line)) → ⊥
  pub here : HasFault g trees line n kind
  pub at_is : at ≡ place line n
