-- The form of a line, over tokens alone: any number of kids is of the form.
use Rattle.std.specs.Prelude.{ℕ, List, [], ◌∷◌, ◌++◌, Option, Some, None}
use Rattle.sel_forest.specs.Tokens.{Token, Name, Number, Symbol, Colon, Open, Comma, Close, End}

-- Trees side by side: a tree's name, its attribute, the trees below it and the trees beside it.
pub data Trees : Type 0 where
  no_trees : Trees
  tree : List ℕ → Option Token → Trees → Trees → Trees

abbrev pub attribute_tokens : Option Token → List Token
attribute_tokens None = []
attribute_tokens (Some t) = Colon ∷ t ∷ []

-- an attribute is a number or a symbol
abbrev pub IsAttributeToken : Option Token → Type 0
IsAttributeToken None = Unit {0}
IsAttributeToken (Some (Number _)) = Unit {0}
IsAttributeToken (Some (Symbol _)) = Unit {0}
IsAttributeToken (Some _) = ⊥

abbrev pub AreTrees : Trees → Type 0
AreTrees no_trees = Unit {0}
AreTrees (tree n a kids more) = IsAttributeToken a × AreTrees kids × AreTrees more

-- where trees stand: below a tree, between parentheses, or beside it, behind a comma
pub data Standing : Type 0 where
  below : Standing
  beside : Standing

-- the tokens of trees
abbrev pub tokens_of : Standing → Trees → List Token
tokens_of below no_trees = []
tokens_of below (tree n a kids more) = Open ∷ Name n ∷ (attribute_tokens a ++ (tokens_of below kids ++ (tokens_of beside more ++ (Close ∷ []))))
tokens_of beside no_trees = []
tokens_of beside (tree n a kids more) = Comma ∷ Name n ∷ (attribute_tokens a ++ (tokens_of below kids ++ tokens_of beside more))

-- A line is one tree, or nothing, and its end.
pub data IsLine : List Token → Type 0 where
  blank : IsLine (End ∷ [])
  one_tree : (n : List ℕ) (a : Option Token) (kids : Trees) → IsAttributeToken a → AreTrees kids → IsLine (Name n ∷ (attribute_tokens a ++ (tokens_of below kids ++ (End ∷ []))))

-- some line of the form goes on with these tokens
abbrev pub GoesOn : List Token → Type 0
GoesOn ts = (rest : List Token) × IsLine (ts ++ rest)
