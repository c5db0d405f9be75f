-- What the texts of entries, rows and rules are cut into.
use Rattle.std.proofs.Common.{◌≡◌, ℕ, ◌≤◌, ◌<◌, ◌^◌, ◌==◌, Bool, true, false, not, ◌&&◌, List, [], ◌∷◌, ◌++◌, Option, Some, None, All, length, map, refl, ap, sym, ◌∙◌, subst, arith, decimal, ℤ, pos, negsuc, ◌≤ℤ◌, codes}
use Rattle.std.specs.Fmt.{signed_decimal}
use Rattle.std.specs.List.{list_all}
use Rattle.std.proofs.lemmas.Int.{ints}
use Rattle.std.proofs.lemmas.List.Elements.{All-append, All-cons, All-nil, All-head, All-tail}
use Rattle.sel_grammar.specs.Costs.{Cost}
use Rattle.sel_grammar.specs.SmallCosts.{IsSmall}
use Rattle.sel_check.specs.CertificateTexts.{greatest_claim, entry_text, row_line, cover_line, tree_line}
use Rattle.sel_check.specs.LineReading.{parts_of, Lacks, pair_text, AreNumbers, numbers_text}
use Rattle.sel_check.specs.WantedLines.{IsEntry, IsRow, AreRules}
use Rattle.sel_check.proofs.Cutting.{split_items, spelled_items, first_part_is, behind}
use Rattle.sel_check.proofs.Decimals.{decimal_lacks}
use Rattle.std.proofs.lemmas.List.Splits.{slice_split_none}

-- a number that isn't negative
pub second_is : (z : ℤ) (most : ℕ) → pos 0 ≤ℤ z → z ≤ℤ pos most → (m : ℕ) × (z ≡ pos m) × (m ≤ most)
second_is (pos m) most low high = (m, refl, omega (arith, ints))
second_is (negsuc m) most low high = absurd (omega (arith, ints))

pub pair_parts : (bytes : List ℕ) (c : Cost) → IsSmall greatest_claim c → bytes ≡ pair_text c → (m : ℕ) × (m ≤ greatest_claim) × (c.second ≡ pos m) × (parts_of 44 bytes ≡ decimal c.first ∷ (decimal m ∷ []))
pair_parts bytes c small e =
    let (m, is, most) = second_is c.second greatest_claim small.low small.high in
    let few = small.first in
    let lacks : Lacks 44 (decimal c.first) = decimal_lacks 44 c.first (omega arith) (omega arith) in
    let lacks' : Lacks 44 (decimal m) = decimal_lacks 44 m (omega arith) (omega arith) in (
      m,
      most,
      is,
      first_part_is 44 (decimal c.first) (decimal m) bytes lacks (e ∙ ap (λ z. decimal c.first ++ (44 ∷ signed_decimal z)) is)
          ∙ ap (λ parts. decimal c.first ∷ parts) (slice_split_none (λ b. b == 44) (decimal m) lacks'),
    )

one_lacks : (c b : ℕ) (bytes : List ℕ) → (b == c) ≡ false → Lacks c bytes → Lacks c (b ∷ bytes)
one_lacks c b bytes h k = All-cons (λ b. (b == c) ≡ false) b bytes h k

nothing_lacks : (c : ℕ) → Lacks c []
nothing_lacks c = All-nil (λ b. (b == c) ≡ false)

more_lack : (c : ℕ) (xs ys : List ℕ) → Lacks c xs → Lacks c ys → Lacks c (xs ++ ys)
more_lack c xs ys h k = All-append (λ b. (b == c) ≡ false) xs ys h k

-- neither line feeds nor spaces are in an entry
pub entry_lacks : (c : ℕ) → c < 44 → (entry : Option Cost) → IsEntry entry → Lacks c (entry_text entry)
entry_lacks c low None h = one_lacks c 45 [] (grind arith) (nothing_lacks c)
entry_lacks c low (Some cost) small =
    let (m, is, most) = second_is cost.second greatest_claim small.low small.high in
    let few = small.first in
    more_lack c (decimal cost.first) (44 ∷ signed_decimal cost.second) (decimal_lacks c cost.first (omega arith) (omega arith))
    (one_lacks c 44 (signed_decimal cost.second) (grind arith) (subst (λ z. Lacks c (signed_decimal z)) (sym is) (decimal_lacks c m (omega arith) (omega arith))))

all_lack : (row : List (Option Cost)) → All IsEntry row → All (λ e. Lacks 32 (entry_text e)) row
all_lack [] h = All-nil (λ e. Lacks 32 (entry_text e))
all_lack (e ∷ row) h = All-cons (λ e. Lacks 32 (entry_text e)) e row (entry_lacks 32 (omega arith) e (All-head IsEntry e row h)) (all_lack row (All-tail IsEntry e row h))

pub row_parts : (line : List ℕ) (width : ℕ) (row : List (Option Cost)) → 0 < width → IsRow width row → line ≡ row_line row → parts_of 32 line ≡ map entry_text row
row_parts line width [] some h e = absurd (omega (arith, h.width_is))
row_parts line width (x ∷ row) some h e =
    ap (parts_of 32) e ∙ split_items entry_text 32 x row (entry_lacks 32 (omega arith) x (All-head IsEntry x row h.entries)) (all_lack row (All-tail IsEntry x row h.entries))

pub parts_row : (line : List ℕ) (row : List (Option Cost)) → 0 < length row → parts_of 32 line ≡ map entry_text row → line ≡ row_line row
parts_row line [] some e = absurd (omega arith)
parts_row line (x ∷ row) some e = spelled_items entry_text 32 line x row e

number_lacks : (c : ℕ) → c < 48 → (r : ℕ) → r < 2 ^ 16 → Lacks c (decimal r)
number_lacks c low r small = decimal_lacks c r low (omega arith)

numbers_lack : (c : ℕ) → c < 48 → (rules : List ℕ) → All (λ r. r < 2 ^ 16) rules → All (λ r. Lacks c (decimal r)) rules
numbers_lack c low [] h = All-nil (λ r. Lacks c (decimal r))
numbers_lack c low (r ∷ rules) h =
    All-cons (λ r. Lacks c (decimal r)) r rules (number_lacks c low r (All-head (λ r. r < 2 ^ 16) r rules h)) (numbers_lack c low rules (All-tail (λ r. r < 2 ^ 16) r rules h))

pub numbers_parts : (bytes : List ℕ) (rules : List ℕ) → AreNumbers rules → bytes ≡ numbers_text rules → parts_of 32 bytes ≡ map decimal rules
numbers_parts bytes [] h e = absurd (omega (arith, h.0))
numbers_parts bytes (r ∷ rules) h e =
    ap (parts_of 32) e ∙ split_items decimal 32 r rules (number_lacks 32 (omega arith) r (All-head (λ r. r < 2 ^ 16) r rules h.1)) (numbers_lack 32 (omega arith) rules (All-tail (λ r. r < 2 ^ 16) r rules h.1))

pub parts_numbers : (bytes : List ℕ) (rules : List ℕ) → 0 < length rules → parts_of 32 bytes ≡ map decimal rules → bytes ≡ numbers_text rules
parts_numbers bytes [] some e = absurd (omega arith)
parts_numbers bytes (r ∷ rules) some e = spelled_items decimal 32 bytes r rules e

-- the rules' line is `cover ` and the numbers
pub cover_numbers : (rules : List ℕ) → 0 < length rules → cover_line (Some rules) ≡ codes "cover " ++ numbers_text rules
cover_numbers [] some = absurd (omega arith)
cover_numbers (r ∷ rules) some = refl

-- no line of the form has a line feed
behind_lacks : {A : Type 0} (text : A → List ℕ) (c : ℕ) → (32 == c) ≡ false → (items : List A) → All (λ e. Lacks c (text e)) items → Lacks c (behind text 32 items)
behind_lacks text c other [] h = nothing_lacks c
behind_lacks text c other (x ∷ items) h =
    one_lacks c 32 (text x ++ behind text 32 items) other (more_lack c (text x) (behind text 32 items) (All-head (λ e. Lacks c (text e)) x items h) (behind_lacks text c other items (All-tail (λ e. Lacks c (text e)) x items h)))

entries_lack : (row : List (Option Cost)) → All IsEntry row → All (λ e. Lacks 10 (entry_text e)) row
entries_lack [] h = All-nil (λ e. Lacks 10 (entry_text e))
entries_lack (e ∷ row) h = All-cons (λ e. Lacks 10 (entry_text e)) e row (entry_lacks 10 (omega arith) e (All-head IsEntry e row h)) (entries_lack row (All-tail IsEntry e row h))

pub row_lacks : (row : List (Option Cost)) → All IsEntry row → Lacks 10 (row_line row)
row_lacks [] h = nothing_lacks 10
row_lacks (x ∷ row) h =
    more_lack 10 (entry_text x) (behind entry_text 32 row) (entry_lacks 10 (omega arith) x (All-head IsEntry x row h)) (behind_lacks entry_text 10 refl row (entries_lack row (All-tail IsEntry x row h)))

first_differs : (x y : Bool) → (not x && y) ≡ true → x ≡ false
first_differs true y e = cc
first_differs false y e = refl

others_differ : (x y : Bool) → (not x && y) ≡ true → y ≡ true
others_differ true y e = cc
others_differ false y e = e

-- by a test of each byte
tested : (bytes : List ℕ) → list_all (λ b. not (b == 10)) bytes ≡ true → Lacks 10 bytes
tested [] e = nothing_lacks 10
tested (b ∷ bytes) e = one_lacks 10 b bytes (first_differs (b == 10) (list_all (λ b. not (b == 10)) bytes) e) (tested bytes (others_differ (b == 10) (list_all (λ b. not (b == 10)) bytes) e))

pub rules_lack : (rules : Option (List ℕ)) → AreRules rules → Lacks 10 (cover_line rules)
rules_lack None h = tested (codes "no cover") refl
rules_lack (Some rules) h =
    more_lack 10 (codes "cover") (behind decimal 32 rules) (tested (codes "cover") refl) (behind_lacks decimal 10 refl rules (numbers_lack 10 (omega arith) rules h.1))

pub title_lacks : (number : ℕ) → number < 2 ^ 64 → Lacks 10 (tree_line number)
title_lacks number small = more_lack 10 (codes "tree ") (decimal number) (tested (codes "tree ") refl) (decimal_lacks 10 number (omega arith) small)
