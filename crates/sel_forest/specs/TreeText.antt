-- Which tree the tokens of a line spell.
use Rattle.std.specs.Prelude.{ℕ, ◌==◌, Bool, false, not, bytes_eq, List, [], ◌∷◌, ◌++◌, if◌then◌else◌, ℤ, pos, neg_ℤ}
use Rattle.std.specs.List.{prefix_len}
use Rattle.std.specs.Str.Parse.{digits_value}
use Rattle.sel_grammar.specs.declared.grammar.Attribute.{Attribute}
use Rattle.sel_grammar.specs.declared.grammar.Attribute.TheVariants as attribute
use Rattle.sel_grammar.specs.declared.grammar.Grammar.{Grammar}
use Rattle.sel_grammar.specs.PlainTrees.{PlainTree, Node0, Node1, Node2}
use Rattle.sel_forest.specs.Tokens.{Token, Name, Number, Symbol, Colon, Open, Comma, Close}

-- the number of the operator with this name, or the number of operators where there is none
abbrev pub operator_number : Grammar → List ℕ → ℕ
operator_number g name = prefix_len (λ operator. not (bytes_eq operator.name name)) g.operators

abbrev pub is_negative : List ℕ → Bool
is_negative [] = false
is_negative (b ∷ bytes) = b == 45

-- the digits of a number
abbrev pub without_sign : List ℕ → List ℕ
without_sign [] = []
without_sign (b ∷ bytes) = if b == 45 then bytes else (b ∷ bytes)

-- the value of an optional minus sign and digits
abbrev pub value_of : List ℕ → ℤ
value_of bytes = if is_negative bytes then neg_ℤ (pos (digits_value 10 (without_sign bytes))) else pos (digits_value 10 (without_sign bytes))

pub data SpellsAttribute : List Token → Attribute → Type 0 where
  no_attribute : SpellsAttribute [] attribute.Absent
  a_number : (bytes : List ℕ) → SpellsAttribute (Colon ∷ Number bytes ∷ []) (attribute.Number (value_of bytes))
  a_symbol : (bytes : List ℕ) → SpellsAttribute (Colon ∷ Symbol bytes ∷ []) (attribute.Symbol bytes)

-- The tokens spell the tree: a name and its attribute, and behind them the kids, if any, between parentheses.
pub data SpellsTree (g : Grammar) : List Token → PlainTree → Type 0 where
  no_kids : (n : List ℕ) (a : Attribute) (xs : List Token) → SpellsAttribute xs a → SpellsTree g (Name n ∷ xs) (Node0 (operator_number g n) a)
  one_kid : (n : List ℕ) (a : Attribute) (xs ts : List Token) (t : PlainTree) → SpellsAttribute xs a → SpellsTree g ts t
      → SpellsTree g (Name n ∷ (xs ++ (Open ∷ (ts ++ (Close ∷ []))))) (Node1 (operator_number g n) a t)
  two_kids : (n : List ℕ) (a : Attribute) (xs ts us : List Token) (t u : PlainTree) → SpellsAttribute xs a → SpellsTree g ts t → SpellsTree g us u
      → SpellsTree g (Name n ∷ (xs ++ (Open ∷ (ts ++ (Comma ∷ (us ++ (Close ∷ []))))))) (Node2 (operator_number g n) a t u)
