-- What a check of a text of certificates answers.
use Rattle.std.specs.Prelude.{◌≡◌, ℕ, ◌+◌, ◌<◌, ◌⊎◌, Option, List, [], ◌∷◌, ◌++◌, length, sum_by}
use Rattle.sel_grammar.specs.declared.grammar.Grammar.{Grammar}
use Rattle.sel_grammar.specs.Costs.{Cost}
use Rattle.sel_grammar.specs.PlainTrees.{PlainTree}
use Rattle.sel_forest.specs.declared.forest.Tree.{Tree}
use Rattle.sel_forest.specs.declared.forest.Forest.{Forest}
use Rattle.sel_forest.specs.Postorder.{IsPostorderOf}
use Rattle.sel_plain.specs.NodeCosts.{HasPlaces}
use Rattle.sel_check.specs.declared.certificate.TreeCertificate.{TreeCertificate}
use Rattle.sel_check.specs.declared.refusal.TreeFault.{TreeFault}
use Rattle.sel_check.specs.declared.refusal.TreeFault.TheVariants as fault
use Rattle.sel_check.specs.declared.refusal.CheckFault.{CheckFault}
use Rattle.sel_check.specs.declared.refusal.CheckRefusal.{CheckRefusal}
use Rattle.sel_check.specs.declared.refusal.CheckRefusal.TheVariants as refusal
use Rattle.sel_check.specs.CertificateTexts.{certificates_text, IsPrintable}
use Rattle.sel_check.specs.Laws.{IsLeastCost}
use Rattle.sel_check.specs.TreeChecks.{ProvesCost, IsTreeFault}
use Rattle.sel_check.specs.WantedLines.{wanted_lines, IsFormFault}

-- a row for each node with an entry for each nonterminal, and nothing that the form has no text for
pub record IsFor (g : Grammar) (tree : Tree) (c : TreeCertificate) : Type 0 where
  pub places : HasPlaces g tree c.costs
  pub printable : IsPrintable c

-- one for each tree
abbrev pub AreFor : Grammar → List Tree → List TreeCertificate → Type 0
AreFor g [] [] = Unit {0}
AreFor g (tree ∷ trees) (c ∷ cs) = IsFor g tree c × AreFor g trees cs
AreFor g _ _ = ⊥

-- the text is that of these certificates of the forest's trees
pub record Spells (g : Grammar) (forest : Forest) (bytes : List ℕ) (cs : List TreeCertificate) : Type 0 where
  pub each : AreFor g forest.trees cs
  pub text : bytes ≡ certificates_text 1 cs

-- each certificate proves the cost of its tree
abbrev pub AreProved : Grammar → List Tree → List TreeCertificate → List (Option Cost) → Type 0
AreProved g [] [] [] = Unit {0}
AreProved g (tree ∷ trees) (c ∷ cs) (cost ∷ costs) = ProvesCost g tree c cost × AreProved g trees cs costs
AreProved g _ _ _ = ⊥

-- the text has the form, and its certificates prove the costs
pub record ProvesCosts (g : Grammar) (forest : Forest) (bytes : List ℕ) (costs : List (Option Cost)) : Type 0 where
  pub certificates : List TreeCertificate
  pub spells : Spells g forest bytes certificates
  pub proved : AreProved g forest.trees certificates costs

-- each is the least cost of the tree's derivations from the start symbol, or none where nothing derives it
abbrev pub AreLeastCosts : Grammar → List Tree → List (Option Cost) → Type 0
AreLeastCosts g [] [] = Unit {0}
AreLeastCosts g (tree ∷ trees) (cost ∷ costs) = ((t : PlainTree) → IsPostorderOf tree t → IsLeastCost g g.start t cost) × AreLeastCosts g trees costs
AreLeastCosts g _ _ = ⊥

-- kinds of faults
abbrev pub text_fault : ℕ
text_fault = 1

abbrev pub bound_fault : ℕ
bound_fault = 2

abbrev pub cover_fault : ℕ
cover_fault = 3

abbrev pub cost_fault : ℕ
cost_fault = 4

-- how many lines trees have: a title, a line for each node, and the rules
abbrev pub lines_of_trees : List Tree → ℕ
lines_of_trees trees = sum_by (λ (tree : Tree). length tree.nodes + 2) trees

-- where the fault of a tree stands behind so many lines: at the node's line, or at the line of the rules
abbrev pub placed : ℕ → Tree → TreeFault → CheckFault
placed lines tree (fault.Bound node) = record { kind = bound_fault; line = lines + 2 + node }
placed lines tree fault.Cover = record { kind = cover_fault; line = lines + 2 + length tree.nodes }
placed lines tree fault.Cost = record { kind = cost_fault; line = lines + 2 + length tree.nodes }

-- a node is one of the tree's
abbrev pub IsInside : Tree → TreeFault → Type 0
IsInside tree (fault.Bound node) = node < length tree.nodes
IsInside tree _ = Unit {0}

-- The fault of the first tree whose certificate proves nothing.
pub record IsFirstUnproved (g : Grammar) (trees : List Tree) (cs : List TreeCertificate) (found : CheckFault) : Type 0 where
  pub before : List Tree
  pub tree : Tree
  pub behind : List Tree
  pub trees_are : trees ≡ before ++ (tree ∷ behind)
  pub proofs : List TreeCertificate
  pub certificate : TreeCertificate
  pub others : List TreeCertificate
  pub certificates_are : cs ≡ proofs ++ (certificate ∷ others)
  pub costs : List (Option Cost)
  pub proved : AreProved g before proofs costs
  pub tree_fault : TreeFault
  pub here : IsTreeFault g tree certificate tree_fault
  pub fault_is : found ≡ placed (lines_of_trees before) tree tree_fault

-- the certificates of a text of the form have this fault
pub record IsProofFault (g : Grammar) (forest : Forest) (bytes : List ℕ) (found : CheckFault) : Type 0 where
  pub certificates : List TreeCertificate
  pub spells : Spells g forest bytes certificates
  pub unproved : IsFirstUnproved g forest.trees certificates found

-- The first fault: the text isn't of the form, or it is, and some tree's certificate proves nothing.
abbrev pub IsCheckFault : Grammar → Forest → List ℕ → CheckFault → Type 0
IsCheckFault g forest bytes found = ((found.kind ≡ text_fault) × IsFormFault (wanted_lines g 1 forest.trees) bytes found.line) ⊎ IsProofFault g forest bytes found

-- a refusal tells the first fault, or that there was no memory
abbrev pub IsCheckRefusal : Grammar → Forest → List ℕ → CheckRefusal → Type 0
IsCheckRefusal g forest bytes (refusal.Fault found) = IsCheckFault g forest bytes found
IsCheckRefusal g forest bytes refusal.NoMemory = Unit {0}
