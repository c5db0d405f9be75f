-- What the reader's steps tell.
use Rattle.std.specs.Prelude.{◌≡◌, ℕ, ◌+◌, ◌<◌, ◌^◌, ◌==◌, false, Option, Some, None, List, [], ◌∷◌, ◌++◌, All, length, get_or, flat_map}
use Rattle.std.specs.Fmt.{decimal, signed_decimal}
use Rattle.std.specs.Str.Parse.{AllDigits}
use Rattle.std.specs.Borrow.{Bor}
use Rattle.std.specs.List.{slice_split}
use Rattle.sel_grammar.specs.declared.grammar.Grammar.{Grammar}
use Rattle.sel_grammar.specs.Costs.{Cost}
use Rattle.sel_forest.specs.declared.forest.Tree.{Tree}
use Rattle.sel_check.specs.declared.certificate.TreeCertificate.{TreeCertificate}
use Rattle.sel_check.specs.declared.checker.Verdict.{Verdict}
use Rattle.sel_check.specs.declared.checker.Verdict.TheVariants as verdict
use Rattle.sel_check.specs.declared.lines.Lines.{Lines}
use Rattle.sel_check.specs.declared.refusal.CheckRefusal.{CheckRefusal}
use Rattle.sel_check.specs.declared.refusal.CheckRefusal.TheVariants as refusal
use Rattle.sel_check.specs.CertificateTexts.{ended}
use Rattle.sel_check.specs.WantedLines.{Wanted, IsFormFault}
use Rattle.sel_check.specs.Checks.{AreProved, IsFirstUnproved, text_fault}

-- the parts of a text that is cut at each such byte
abbrev pub parts_of : ℕ → List ℕ → List (List ℕ)
parts_of separator bytes = slice_split (λ b. b == separator) bytes

-- no byte is this one
abbrev pub Lacks : ℕ → List ℕ → Type 0
Lacks c bytes = All (λ b. (b == c) ≡ false) bytes

-- a separator, if there is one, and what stands behind it
abbrev pub with_rest : ℕ → Option (Bor (List ℕ)) → List ℕ
with_rest separator None = []
with_rest separator (Some rest) = separator ∷ rest.now

-- the value that the bytes are the text of, or none where they are the text of no such value
abbrev pub IsReadAs : {A : Type 0} → (A → Type 0) → (A → List ℕ) → List ℕ → Option A → Type 0
IsReadAs {A} IsSuch text bytes None = (a : A) → IsSuch a → bytes ≡ text a → ⊥
IsReadAs IsSuch text bytes (Some a) = IsSuch a × (bytes ≡ text a)

-- digits, one or more, of which the first is 0 only where it is alone
pub record IsShortest (bytes : List ℕ) : Type 0 where
  pub digits : AllDigits 10 bytes
  pub some : 0 < length bytes
  pub lead : get_or bytes 0 0 ≡ 48 → length bytes ≡ 1

-- both numbers of a cost
abbrev pub pair_text : Cost → List ℕ
pair_text c = decimal c.first ++ (44 ∷ signed_decimal c.second)

-- one or more numbers of rules
abbrev pub AreNumbers : List ℕ → Type 0
AreNumbers rules = (0 < length rules) × All (λ r. r < 2 ^ 16) rules

-- numbers with a space between any two
abbrev pub numbers_text : List ℕ → List ℕ
numbers_text [] = []
numbers_text (r ∷ rules) = decimal r ++ flat_map (λ r. 32 ∷ decimal r) rules

-- these lines were taken
pub record Took (old new : Lines) (lines : List (List ℕ)) : Type 0 where
  pub bytes : (old.rest).now ≡ ended lines ++ (new.rest).now
  pub count : new.taken ≡ old.taken + length lines

-- the first line was taken
pub record IsTaken (old new : Lines) (line : List ℕ) : Type 0 where
  pub took : Took old new (line ∷ [])
  pub lacks : Lacks 10 line

-- the line with this number is the first behind those taken that isn't as wanted
abbrev pub IsFaultBehind : Lines → List Wanted → ℕ → Type 0
IsFaultBehind lines wanted number = (n : ℕ) × IsFormFault wanted (lines.rest).now n × (number ≡ lines.taken + n)

-- a refusal tells that line, or that there was no memory
abbrev pub IsRefusedBehind : Lines → List Wanted → CheckRefusal → Type 0
IsRefusedBehind lines wanted (refusal.Fault found) = (found.kind ≡ text_fault) × IsFaultBehind lines wanted found.line
IsRefusedBehind lines wanted refusal.NoMemory = Unit {0}

-- what is known of these trees: the cost of each is proved, or which fault is the first
abbrev pub IsVerdict : Grammar → List Tree → List TreeCertificate → Verdict → Type 0
IsVerdict g trees cs (verdict.Proved costs) = AreProved g trees cs costs
IsVerdict g trees cs (verdict.Faulty found) = IsFirstUnproved g trees cs found
