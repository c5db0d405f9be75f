-- What is known of tokens when they are taken.
use Rattle.std.specs.Prelude.{◌≡◌, ℕ, ◌≤◌, Bool, true, List, [], ◌∷◌, flat_map}
use Rattle.sel_grammar.specs.declared.grammar.Grammar.{Grammar}
use Rattle.sel_forest.specs.declared.forest.Tree.{Tree}
use Rattle.sel_forest.specs.Limits.{most_nodes}
use Rattle.sel_forest.specs.OpenNodes.{Opened, whole, total, opened, TakesToken}
use Rattle.sel_forest.specs.Pieces.{IsLawful, IsNamedBy}
use Rattle.sel_forest.specs.Postorder.{IsPostorderOf}
use Rattle.sel_forest.specs.Tokens.{Token, source, IsCutInto}
use Rattle.sel_forest.specs.TreeText.{SpellsTree}
use Rattle.sel_forest.specs.Valid.{IsOver}

-- A line's tokens go on with a token, which names the operator with that number if it is a name.
pub record Continues (g : Grammar) (operator : ℕ) (ts : List Token) (t : Token) : Type 0 where
  pub lawful : IsLawful t
  pub named : IsNamedBy g operator t
  pub takes : TakesToken (opened g ts) t
  pub small : total (opened g ts) ≤ most_nodes

-- A line is cut into these tokens. Where it's called plain, no blank stands between them.
pub record IsLineOf (ts : List Token) (line : List ℕ) (plain : Bool) : Type 0 where
  pub cut : IsCutInto line ts
  pub plain_is : plain ≡ true → flat_map source ts ≡ line

-- The tokens are those of a tree: the root alone is open behind them.
pub record AreTokensOf (g : Grammar) (ts : List Token) (tree : Tree) : Type 0 where
  pub root : Opened
  pub opened_is : opened g ts ≡ root ∷ []
  pub spells : SpellsTree g ts (whole root)
  pub over : IsOver g (whole root)
  pub postorder : IsPostorderOf tree (whole root)
