-- The text of certificates.
use Rattle.std.specs.Prelude.{◌≡◌, ℕ, ◌+◌, ◌<◌, ◌^◌, Option, Some, None, List, [], ◌∷◌, ◌++◌, slice_get, map, flat_map, codes}
use Rattle.std.specs.Fmt.{decimal, signed_decimal}
use Rattle.sel_grammar.specs.Costs.{Cost}
use Rattle.sel_grammar.specs.SmallCosts.{IsSmall}
use Rattle.sel_plain.specs.NodeCosts.{NodeCosts, cost_at}
use Rattle.sel_check.specs.declared.certificate.TreeCertificate.{TreeCertificate}

-- the greatest number of a cost that the text has room for
abbrev pub greatest_claim : ℕ
greatest_claim = 999999999999

-- a hyphen, or both numbers with a comma between them
abbrev pub entry_text : Option Cost → List ℕ
entry_text None = codes "-"
entry_text (Some c) = decimal c.first ++ (codes "," ++ signed_decimal c.second)

-- a node's entries with a space between any two
abbrev pub row_line : List (Option Cost) → List ℕ
row_line [] = []
row_line (entry ∷ row) = entry_text entry ++ flat_map (λ e. codes " " ++ entry_text e) row

-- `no cover`, or `cover` and each rule's number behind a space
abbrev pub cover_line : Option (List ℕ) → List ℕ
cover_line None = codes "no cover"
cover_line (Some rules) = codes "cover" ++ flat_map (λ r. codes " " ++ decimal r) rules

-- `tree` and the tree's number
abbrev pub tree_line : ℕ → List ℕ
tree_line number = codes "tree " ++ decimal number

-- the lines of a tree's certificate
abbrev pub certificate_lines : ℕ → TreeCertificate → List (List ℕ)
certificate_lines number c = tree_line number ∷ (map row_line c.costs ++ (cover_line c.rules ∷ []))

-- each line with its line feed
abbrev pub ended : List (List ℕ) → List ℕ
ended lines = flat_map (λ line. line ++ codes "\n") lines

abbrev pub certificate_text : ℕ → TreeCertificate → List ℕ
certificate_text number c = ended (certificate_lines number c)

-- the texts of certificates one behind the other, the trees being numbered from this number on
abbrev pub certificates_text : ℕ → List TreeCertificate → List ℕ
certificates_text number [] = []
certificates_text number (c ∷ cs) = certificate_text number c ++ certificates_text (number + 1) cs

-- neither number of a claim is below 0 or above the greatest
abbrev pub HasSmallClaims : NodeCosts → Type 0
HasSmallClaims costs = (i n : ℕ) (c : Cost) → cost_at costs i n ≡ Some c → IsSmall greatest_claim c

-- the form has a text for it: claims are small, and rules, if there are any, are one or more, with numbers of 16 bits
pub record IsPrintable (c : TreeCertificate) : Type 0 where
  pub small : HasSmallClaims c.costs
  pub some : c.rules ≡ Some [] → ⊥
  pub numbers : (rules : List ℕ) (k r : ℕ) → c.rules ≡ Some rules → slice_get rules k ≡ Some r → r < 2 ^ 16
