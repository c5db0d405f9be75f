-- What the builder of trees has built.
use Rattle.std.specs.Prelude.{◌≡◌, List}
use Rattle.sel_grammar.specs.declared.grammar.Grammar.{Grammar}
use Rattle.sel_forest.specs.declared.build.TreeBuilder.{TreeBuilder}
use Rattle.sel_forest.specs.declared.forest.Tree.{Tree}
use Rattle.sel_forest.specs.OpenNodes.{opened, Holds}
use Rattle.sel_forest.specs.Tokens.{Token}

-- these trees, and the open nodes behind these tokens of a line
pub record HasBuilt (g : Grammar) (builder : TreeBuilder) (trees : List Tree) (ts : List Token) : Type 0 where
  pub trees_are : builder.trees ≡ trees
  pub holds : Holds (opened g ts) builder.stack.items builder.nodes.items
