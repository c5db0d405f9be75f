-- Small grammars, printed.
use denote.Hole.Carrier.{hidden}
use Rattle.std.proofs.Common.{◌≡◌, List, [], ◌∷◌, Some, None, refl, arith}
use Rattle.std.specs.Prelude.{codes, pos, negsuc}
use Rattle.std.proofs.lemmas.Fmt.{decimal_digit}
use Rattle.sel_grammar.specs.declared.grammar.Operator.{Operator}
use Rattle.sel_grammar.specs.declared.grammar.Part.TheVariants.{Text, Kid, Attribute, Temp}
use Rattle.sel_grammar.specs.declared.grammar.Pattern.{Leaf, Nullary, Binary}
use Rattle.sel_grammar.specs.declared.grammar.Pattern.TheBlock.{shape-the_row-Pattern-0, hidden-the_row-Pattern-0}
use Rattle.sel_grammar_print.specs.PrintedGrammar.{printed}

abbrev operators : List Operator
operators = record { name = codes "ADD"; external = 2; arity = Some 2 } ∷ record { name = codes "REG"; external = 1; arity = Some 0 } ∷ []

-- both kinds of rules
both : printed (record {
  start = 0;
  operators = operators;
  nonterminals = codes "reg" ∷ [];
  rules = record { left = 0; pattern = Binary 0 (Leaf 0) (Leaf 0); template = record { parts = [] }; cost = record { first = 1; second = 0 }; range = None; external = Some 7; line = 4; column = 1 }
      ∷ record { left = 0; pattern = Nullary 1; template = record { parts = Attribute ∷ [] }; cost = record { first = 0; second = 0 }; range = None; external = None; line = 5; column = 1 } ∷ [];
}) ≡ codes "%start reg\n%term ADD=2\n%term REG=1\n%%\nreg: ADD(reg,reg) = 7 (1);\nreg: REG \"%a\" 0\n"
unfolding printed shape-the_row-Pattern-0 hidden-the_row-Pattern-0 hidden
both = rw (decimal_digit 2 (omega arith), decimal_digit 1 (omega arith), decimal_digit 7 (omega arith), decimal_digit 0 (omega arith)) refl

-- a template with each escape, and ranges with and without an addend
escapes : printed (record {
  start = 1;
  operators = operators;
  nonterminals = codes "stmt" ∷ codes "reg" ∷ [];
  rules = record { left = 0; pattern = Leaf 1; template = record { parts = Text (codes "50%\t\"\\") ∷ Kid 0 ∷ Temp ∷ Text (codes "\n") ∷ [] }; cost = record { first = 4; second = 0 }; range = None; external = None; line = 3; column = 1 }
      ∷ record { left = 1; pattern = Nullary 1; template = record { parts = [] }; cost = record { first = 0; second = 0 }; range = Some (record { lo = negsuc 7; hi = pos 0 }); external = None; line = 4; column = 1 }
      ∷ record { left = 1; pattern = Nullary 1; template = record { parts = [] }; cost = record { first = 3; second = 0 }; range = Some (record { lo = pos 1; hi = pos 9 }); external = None; line = 5; column = 1 } ∷ [];
}) ≡ codes "%start reg\n%term ADD=2\n%term REG=1\n%%\nstmt: reg \"50%%\\t\\\"\\\\%0%c\\n\" 4\nreg: REG \"\" range(a,-8,0)\nreg: REG \"\" range(a,1,9)+3\n"
unfolding printed
escapes =
    rw (decimal_digit 2 (omega arith), decimal_digit 1 (omega arith), decimal_digit 0 (omega arith), decimal_digit 4 (omega arith), decimal_digit 8 (omega arith), decimal_digit 9 (omega arith), decimal_digit 3 (omega arith)) refl

-- costs of two numbers
pairs : printed (record {
  start = 0;
  operators = operators;
  nonterminals = codes "reg" ∷ [];
  rules = record { left = 0; pattern = Nullary 1; template = record { parts = [] }; cost = record { first = 1; second = 3 }; range = None; external = Some 7; line = 4; column = 1 }
      ∷ record { left = 0; pattern = Nullary 1; template = record { parts = [] }; cost = record { first = 0; second = 4 }; range = None; external = None; line = 5; column = 1 }
      ∷ record { left = 0; pattern = Nullary 1; template = record { parts = [] }; cost = record { first = 0; second = 2 }; range = Some (record { lo = pos 1; hi = pos 9 }); external = None; line = 6; column = 1 } ∷ [];
}) ≡ codes "%start reg\n%term ADD=2\n%term REG=1\n%%\nreg: REG = 7 (1,3);\nreg: REG \"\" (0,4)\nreg: REG \"\" range(a,1,9)+(0,2)\n"
unfolding printed
pairs =
    rw (decimal_digit 2 (omega arith), decimal_digit 1 (omega arith), decimal_digit 7 (omega arith), decimal_digit 3 (omega arith), decimal_digit 0 (omega arith), decimal_digit 4 (omega arith), decimal_digit 9 (omega arith)) refl
