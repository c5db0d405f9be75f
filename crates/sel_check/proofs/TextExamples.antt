-- Worked texts: the certificate of the tree X with the costs 1 and 1 and the list 1 3, the same without its last line, and the places of faults.
use Rattle.std.proofs.Common.{◌≡◌, ℕ, ◌+◌, ◌<◌, [], ◌∷◌, ◌++◌, refl, ap, sym, Some, pos, arith, codes, decimal, List}
use Rattle.std.proofs.lemmas.Fmt.{decimal_digit}
use Rattle.std.proofs.lemmas.List.Elements.{All-cons, All-nil}
use Rattle.std.proofs.lemmas.Int.{ints}
use Rattle.sel_grammar.specs.declared.grammar.Attribute.TheVariants.{Absent}
use Rattle.sel_grammar.specs.declared.grammar.Grammar.{Grammar}
use Rattle.sel_grammar.specs.Costs.{Cost}
use Rattle.sel_forest.specs.declared.forest.Tree.{Tree}
use Rattle.sel_check.specs.declared.certificate.TreeCertificate.{TreeCertificate}
use Rattle.sel_check.specs.declared.refusal.TreeFault.TheVariants as fault
use Rattle.sel_check.specs.CertificateTexts.{row_line, cover_line, tree_line, certificates_text}
use Rattle.sel_check.specs.Checks.{placed, lines_of_trees}
use Rattle.sel_check.specs.WantedLines.{Title, Row, Rules, IsEntry, wanted_lines, IsFormFault}

abbrev one : Cost
one = record { first = 1; second = pos 0 }

abbrev certificate : TreeCertificate
certificate = record { costs = (Some one ∷ Some one ∷ []) ∷ []; rules = Some (1 ∷ 3 ∷ []) }

digit : (n : ℕ) → n < 10 → decimal n ≡ (48 + n) ∷ []
digit = decimal_digit

title : tree_line 1 ≡ codes "tree 1"
title = ap (λ d. codes "tree " ++ d) (digit 1 (omega arith))

row : row_line (Some one ∷ Some one ∷ []) ≡ codes "1,0 1,0"
row =
    (λ i. (digit 1 (omega arith) i ++ (codes "," ++ digit 0 (omega arith) i)) ++ ((codes " " ++ (digit 1 (omega arith) i ++ (codes "," ++ digit 0 (omega arith) i))) ++ []))

cover : cover_line (Some (1 ∷ 3 ∷ [])) ≡ codes "cover 1 3"
cover = λ i. codes "cover" ++ ((codes " " ++ digit 1 (omega arith) i) ++ ((codes " " ++ digit 3 (omega arith) i) ++ []))

pub text : certificates_text 1 (certificate ∷ []) ≡ codes "tree 1\n1,0 1,0\ncover 1 3\n"
text = λ i. ((title i ++ codes "\n") ++ ((row i ++ codes "\n") ++ ((cover i ++ codes "\n") ++ []))) ++ []

abbrev g : Grammar
g = record { start = 0; operators = []; nonterminals = codes "a" ∷ codes "b" ∷ []; rules = [] }

abbrev tree : Tree
tree = record { nodes = record { operator = 0; kids = 0; left = 0; right = 0; attribute = Absent } ∷ [] }

small : IsEntry (Some one)
small = record { first = omega arith; low = omega (arith, ints); high = omega (arith, ints) }

-- the line of the rules is missing: a fault of form at line 3
pub missing : IsFormFault (wanted_lines g 1 (tree ∷ [])) (codes "tree 1\n1,0 1,0\n") 3
missing = record {
  done = Title 1 ∷ Row 2 ∷ [];
  others = Rules ∷ [];
  wanted_are = refl;
  before = codes "tree 1" ∷ codes "1,0 1,0" ∷ [];
  as_wanted = (sym title, ((Some one ∷ Some one ∷ [], record { width_is = refl; entries = All-cons IsEntry (Some one) (Some one ∷ []) small (All-cons IsEntry (Some one) [] small (All-nil IsEntry)) }, sym row), tt));
  rest = [];
  bytes_are = refl;
  here = λ line behind is e. none line behind e;
  number_is = refl;
}
  where
    none : (line behind : List ℕ) → [] ≡ line ++ (10 ∷ behind) → ⊥
    none [] behind e = cc
    none (b ∷ line) behind e = cc

-- a broken bound at the one node is at line 2, and what is wrong with the rules or their cost at line 3
pub bound_place : placed 0 tree (fault.Bound 0) ≡ record { kind = 2; line = 2 }
bound_place = refl

pub cover_place : placed 0 tree fault.Cover ≡ record { kind = 3; line = 3 }
cover_place = refl

pub cost_place : placed 0 tree fault.Cost ≡ record { kind = 4; line = 3 }
cost_place = refl

-- a second such tree stands behind three lines
pub second_place : placed (lines_of_trees (tree ∷ [])) tree fault.Cover ≡ record { kind = 3; line = 6 }
second_place = refl
