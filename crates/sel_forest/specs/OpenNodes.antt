-- Nodes whose kids are being read, and the lists in postorder that they have put down.
use Rattle.std.specs.Prelude.{◌≡◌, ℕ, ◌+◌, ◌-◌, ◌==◌, ◌<◌, false, List, [], ◌∷◌, ◌++◌, length, Option, Some, None, map, if◌then◌else◌}
use Rattle.sel_grammar.specs.declared.grammar.Attribute.{Attribute}
use Rattle.sel_grammar.specs.declared.grammar.Attribute.TheVariants as attribute
use Rattle.sel_grammar.specs.declared.grammar.Grammar.{Grammar}
use Rattle.sel_grammar.specs.PlainTrees.{PlainTree, Node0, Node1, Node2, size}
use Rattle.sel_forest.specs.declared.forest.Node.{Node}
use Rattle.sel_forest.specs.declared.line.State.{State}
use Rattle.sel_forest.specs.declared.line.State.TheVariants.{Named, Colonned, Attributed, Closed}
use Rattle.sel_forest.specs.declared.around.Parent.{Parent}
use Rattle.sel_forest.specs.Postorder.{postorder}
use Rattle.sel_forest.specs.Tokens.{Token, Name, Number, Symbol, Comma, Close}
use Rattle.sel_forest.specs.TreeText.{operator_number, value_of}
use Rattle.sel_forest.specs.LineFaults.{is_too_large}

-- an open node with the kids that are whole: none, one or two
pub data Opened : Type 0 where
  Fresh : (op : ℕ) (a : Attribute) → Opened
  Half : (op : ℕ) (a : Attribute) (t : PlainTree) → Opened
  Full : (op : ℕ) (a : Attribute) (t u : PlainTree) → Opened

abbrev pub opened_operator : Opened → ℕ
opened_operator (Fresh op a) = op
opened_operator (Half op a t) = op
opened_operator (Full op a t u) = op

abbrev pub kid_count : Opened → ℕ
kid_count (Fresh op a) = 0
kid_count (Half op a t) = 1
kid_count (Full op a t u) = 2

-- the tree that an open node is, if nothing is added
abbrev pub whole : Opened → PlainTree
whole (Fresh op a) = Node0 op a
whole (Half op a t) = Node1 op a t
whole (Full op a t u) = Node2 op a t u

-- the nodes of its kids, where `base` other nodes stand before them
abbrev pub kids_nodes : ℕ → Opened → List Node
kids_nodes base (Fresh op a) = []
kids_nodes base (Half op a t) = postorder base t
kids_nodes base (Full op a t u) = postorder base t ++ postorder (base + size t) u

-- its own node
abbrev pub own_node : ℕ → Opened → Node
own_node base (Fresh op a) = record { operator = op; kids = 0; left = 0; right = 0; attribute = a }
own_node base (Half op a t) = record { operator = op; kids = 1; left = base + size t - 1; right = 0; attribute = a }
own_node base (Full op a t u) = record { operator = op; kids = 2; left = base + size t - 1; right = base + size t + size u - 1; attribute = a }

-- open nodes, the innermost first: the nodes that they have put down, and their own nodes, the outermost first
abbrev pub put_down : List Opened → List Node
put_down [] = []
put_down (o ∷ os) = put_down os ++ kids_nodes (length (put_down os)) o

abbrev pub own_nodes : List Opened → List Node
own_nodes [] = []
own_nodes (o ∷ os) = own_nodes os ++ (own_node (length (put_down os)) o ∷ [])

-- a node with one kid more, which stands at a place
abbrev pub attached : Node → ℕ → Node
attached node at =
    if node.kids == 0 then record { operator = node.operator; kids = 1; left = at; right = node.right; attribute = node.attribute }
    else record { operator = node.operator; kids = 2; left = node.left; right = at; attribute = node.attribute }

abbrev pub with_kid : Opened → PlainTree → Opened
with_kid (Fresh op a) t = Half op a t
with_kid (Half op a t) u = Full op a t u
with_kid (Full op a t u) v = Full op a t u

-- the innermost open node is whole, and a kid of the next
abbrev pub closed : List Opened → List Opened
closed [] = []
closed (o ∷ []) = o ∷ []
closed (inner ∷ outer ∷ os) = with_kid outer (whole inner) ∷ os

abbrev pub with_attribute : Attribute → List Opened → List Opened
with_attribute x [] = []
with_attribute x (Fresh op a ∷ os) = Fresh op x ∷ os
with_attribute x (Half op a t ∷ os) = Half op x t ∷ os
with_attribute x (Full op a t u ∷ os) = Full op x t u ∷ os

-- A name opens a node, an attribute belongs to the innermost, and a comma or a closing parenthesis ends it.
abbrev pub opened_next : Grammar → List Opened → Token → List Opened
opened_next g os (Name n) = Fresh (operator_number g n) attribute.Absent ∷ os
opened_next g os (Number bytes) = with_attribute (attribute.Number (value_of bytes)) os
opened_next g os (Symbol bytes) = with_attribute (attribute.Symbol bytes) os
opened_next g os Comma = closed os
opened_next g os Close = closed os
opened_next g os _ = os

abbrev pub opened_from : Grammar → List Opened → List Token → List Opened
opened_from g os [] = os
opened_from g os (t ∷ ts) = opened_from g (opened_next g os t) ts

-- the open nodes behind a line's first tokens
abbrev pub opened : Grammar → List Token → List Opened
opened g ts = opened_from g [] ts

-- how many nodes the open nodes are, with what they put down
abbrev pub total : List Opened → ℕ
total [] = 0
total (o ∷ os) = size (whole o) + total os

-- there is a node around the innermost one, and it takes a kid
abbrev pub IsClosable : List Opened → Type 0
IsClosable [] = ⊥
IsClosable (o ∷ []) = ⊥
IsClosable (inner ∷ outer ∷ os) = kid_count outer < 2

-- the open nodes take the token
abbrev pub TakesToken : List Opened → Token → Type 0
TakesToken os (Number bytes) = (is_too_large bytes ≡ false) × (0 < length os)
TakesToken os (Symbol bytes) = 0 < length os
TakesToken os Comma = IsClosable os
TakesToken os Close = IsClosable os
TakesToken os _ = Unit {0}

-- the stack and the nodes are what the open nodes have put down
pub record Holds (os : List Opened) (stack nodes : List Node) : Type 0 where
  pub stack_is : stack ≡ own_nodes os
  pub nodes_are : nodes ≡ put_down os

-- What the code's state and open nodes say of the place: the operator that came last, if no parenthesis followed it,
-- and the parents.

abbrev pub parent_of : Opened → Parent
parent_of o = record { operator = opened_operator o; kids = kid_count o }

abbrev pub first_operator : List Opened → Option ℕ
first_operator [] = None
first_operator (o ∷ os) = Some (opened_operator o)

abbrev pub behind_first : List Opened → List Opened
behind_first [] = []
behind_first (o ∷ os) = os

abbrev pub bare_in : State → List Opened → Option ℕ
bare_in (Named d) os = first_operator os
bare_in (Colonned d) os = first_operator os
bare_in (Attributed d) os = first_operator os
bare_in _ os = None

abbrev pub parents_in : State → List Opened → List Parent
parents_in (Named d) os = map parent_of (behind_first os)
parents_in (Colonned d) os = map parent_of (behind_first os)
parents_in (Attributed d) os = map parent_of (behind_first os)
parents_in (Closed d) os = map parent_of (behind_first os)
parents_in _ os = map parent_of os

abbrev pub first_parent : List Parent → Option Parent
first_parent [] = None
first_parent (p ∷ ps) = Some p
