-- What printing puts down of the tokens of a text.
use Rattle.std.specs.Prelude.{◌≡◌, ℕ, ◌==◌, nat_lt, Bool, true, false, All, if◌then◌else◌, List, [], ◌∷◌, codes, map, flat_map}
use Rattle.std.specs.Fmt.{signed_decimal}
use Rattle.sel_grammar.specs.declared.grammar.Grammar.{Grammar}
use Rattle.sel_grammar.specs.PlainTrees.{PlainTree}
use Rattle.sel_forest.specs.declared.forest.Tree.{Tree}
use Rattle.sel_forest.specs.Printed.{forest_text, tree_of}
use Rattle.sel_forest.specs.Tokens.{Token, source, Name, Number, Symbol, Colon, Open, Comma, Close}
use Rattle.sel_forest.specs.LineFaults.{is_too_large}
use Rattle.sel_forest.specs.TreeText.{value_of}

-- digits of which the first isn't 0
abbrev pub is_above_zero : List ℕ → Bool
is_above_zero [] = false
is_above_zero (b ∷ bytes) = nat_lt 48 b

-- a number that isn't 0 and has no needless zero is its own print
abbrev pub is_in_print : List ℕ → Bool
is_in_print [] = false
is_in_print (b ∷ bytes) = is_above_zero (if b == 45 then bytes else (b ∷ bytes))

-- a token in print
abbrev pub token_text : Token → List ℕ
token_text (Name bytes) = bytes
token_text (Number bytes) = signed_decimal (value_of bytes)
token_text (Symbol bytes) = bytes
token_text Colon = codes ":"
token_text Open = codes "("
token_text Comma = codes ","
token_text Close = codes ")"
token_text _ = []

-- a number of the token isn't too large
abbrev pub IsSmall : Token → Type 0
IsSmall (Number bytes) = is_too_large bytes ≡ false
IsSmall _ = Unit {0}

-- The text is that of these trees, each on a line. Where these tokens of a line are called in print, they are their own print.
pub record HasReprinted (g : Grammar) (text : List ℕ) (in_print : Bool) (trees : List Tree) (ts : List Token) : Type 0 where
  pub plain : List PlainTree
  pub trees_are : trees ≡ map tree_of plain
  pub text_is : text ≡ forest_text g plain
  pub small : All IsSmall ts
  pub print_is : in_print ≡ true → flat_map token_text ts ≡ flat_map source ts
