-- Worked cases of the normal form: deep patterns, and grammars that have just few enough and too many normal nonterminals.
use Rattle.std.proofs.Common.{◌≡◌, ℕ, zero, suc, ◌+◌, List, [], ◌∷◌, length, refl, Option, Some, None, pos, negsuc}
use Rattle.sel_base.specs.declared.range.Range.{Range}
use Rattle.sel_grammar.specs.declared.grammar.Grammar.{Grammar}
use Rattle.sel_grammar.specs.declared.grammar.Rule.{Rule}
use Rattle.sel_grammar.specs.declared.grammar.Pattern.{Pattern, Leaf, Nullary, Unary, Binary}
use Rattle.sel_grammar.specs.declared.grammar.Pattern.TheBlock.{shape-the_row-Pattern-0, hidden-the_row-Pattern-0}
use denote.Hole.Carrier.{hidden}
use Rattle.sel_normal.specs.declared.normal.Body.{Body}
use Rattle.sel_normal.specs.declared.normal.Body.TheVariants.{Chain, Operator}
use Rattle.sel_normal.specs.declared.normal.NormalRule.{NormalRule}
use Rattle.sel_normal.specs.NormalForms.{NormalForm}
use Rattle.sel_normal.specs.Forms.{IsFormOf, places}
use Rattle.sel_normal.specs.NormalFaults.{nonterminals_to}

abbrev rule : ℕ → Pattern → ℕ → Option Range → Rule
rule n p c range = record { left = n; pattern = p; template = record { parts = [] }; cost = record { first = c; second = 0 }; range = range; external = None; line = 1; column = 1 }

abbrev grammar : List (List ℕ) → List Rule → Grammar
grammar nonterminals rules = record { start = 0; operators = []; nonterminals = nonterminals; rules = rules }

abbrev normal_rule : ℕ → ℕ → Body → NormalRule
normal_rule n c body = record { left = n; cost = record { first = c; second = 0 }; body = body }

-- Rules 1 `s: P(U(a),P(U(a),a)) "" 1` and 2 `a: X ""`: X is 0, U is 1, P is 2; s is 0, a is 1. There are 5 normal nonterminals.
pub deep : IsFormOf
    (grammar ((115 ∷ []) ∷ (97 ∷ []) ∷ []) (rule 0 (Binary 2 (Unary 1 (Leaf 1)) (Binary 2 (Unary 1 (Leaf 1)) (Leaf 1))) 1 None ∷ rule 1 (Nullary 0) 0 None ∷ []))
    (record {
      nonterminals = 5;
      user_rules = 2;
      rules = normal_rule 0 1 (Operator 2 (Some 2) (Some 3) None) ∷ normal_rule 1 0 (Operator 0 None None None)
          ∷ normal_rule 2 0 (Operator 1 (Some 1) None None) ∷ normal_rule 3 0 (Operator 2 (Some 4) (Some 1) None) ∷ normal_rule 4 0 (Operator 1 (Some 1) None None) ∷ [];
      tests = [];
    })
unfolding shape-the_row-Pattern-0 hidden-the_row-Pattern-0 hidden
deep = record { nonterminals = refl; user_rules = refl; rules = refl; tests = refl }

-- Rules 1 `s: U(U(K)) ""`, 2 `s: K "" range(a,0,9)+3`, 3 `s: s "" 2`, 4 `s: K "" range(a,-1,0)`: helpers stand behind the user's rules, and tests have numbers of their own.
pub tested : IsFormOf
    (grammar ((115 ∷ []) ∷ [])
    (rule 0 (Unary 1 (Unary 1 (Nullary 0))) 0 None ∷ rule 0 (Nullary 0) 3 (Some (record { lo = pos 0; hi = pos 9 })) ∷ rule 0 (Leaf 0) 2 None ∷ rule 0 (Nullary 0) 0 (Some (record { lo = negsuc 0; hi = pos 0 })) ∷ []))
    (record {
      nonterminals = 3;
      user_rules = 4;
      rules = normal_rule 0 0 (Operator 1 (Some 1) None None) ∷ normal_rule 0 3 (Operator 0 None None (Some 0)) ∷ normal_rule 0 2 (Chain 0) ∷ normal_rule 0 0 (Operator 0 None None (Some 1))
          ∷ normal_rule 1 0 (Operator 1 (Some 2) None None) ∷ normal_rule 2 0 (Operator 0 None None None) ∷ [];
      tests = record { lo = pos 0; hi = pos 9 } ∷ record { lo = negsuc 0; hi = pos 0 } ∷ [];
    })
unfolding shape-the_row-Pattern-0 hidden-the_row-Pattern-0 hidden
tested = record { nonterminals = refl; user_rules = refl; rules = refl; tests = refl }

-- so many U over a
abbrev tower : ℕ → Pattern
tower zero = Leaf 0
tower (suc n) = Unary 0 (tower n)

abbrev towers : ℕ → List Rule
towers zero = []
towers (suc n) = rule 0 (tower 62) 0 None ∷ towers n

-- Rule 1 `a: X ""` and nine rules of 62 U over a: the ninth of them, rule 10, is the first whose helpers are too many.
abbrev tall : Grammar
tall = grammar ((97 ∷ []) ∷ []) (rule 0 (Nullary 1) 0 None ∷ towers 9)

pub nine_rules : nonterminals_to tall 9 ≡ 489
unfolding shape-the_row-Pattern-0 hidden-the_row-Pattern-0 hidden
nine_rules = refl

pub ten_rules : nonterminals_to tall 10 ≡ 550
unfolding shape-the_row-Pattern-0 hidden-the_row-Pattern-0 hidden
ten_rules = refl
