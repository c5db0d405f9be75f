-- A text is that of one list of certificates.
use Rattle.std.proofs.Common.{◌≡◌, ℕ, zero, suc, ◌+◌, ◌<◌, ◌^◌, List, [], ◌∷◌, ◌++◌, Option, Some, None, All, length, map, refl, ap, sym, ◌∙◌, arith, decimal, codes, append_assoc, length-append, pos}
use Rattle.std.specs.Fmt.{signed_decimal}
use Rattle.std.specs.List.{join_with_byte}
use Rattle.std.proofs.lemmas.Fmt.{decimal_injective, decimal_nonempty}
use Rattle.std.proofs.lemmas.List.{length-map}
use Rattle.std.proofs.lemmas.List.Elements.{All-head, All-tail}
use Rattle.std.proofs.lemmas.List.Splits.{join_with_byte-slice_split}
use Rattle.sel_grammar.specs.declared.grammar.Grammar.{Grammar}
use Rattle.sel_grammar.specs.Costs.{Cost}
use Rattle.sel_grammar.specs.SmallCosts.{IsSmall}
use Rattle.sel_forest.specs.declared.forest.Node.{Node}
use Rattle.sel_forest.specs.declared.forest.Tree.{Tree}
use Rattle.sel_plain.specs.NodeCosts.{NodeCosts}
use Rattle.sel_check.specs.declared.certificate.TreeCertificate.{TreeCertificate}
use Rattle.sel_check.specs.CertificateTexts.{greatest_claim, entry_text, row_line, cover_line, certificate_lines, certificates_text, ended}
use Rattle.sel_check.specs.Checks.{IsFor, AreFor}
use Rattle.sel_check.specs.LineReading.{parts_of, Lacks, numbers_text, pair_text}
use Rattle.sel_check.specs.WantedLines.{Wanted, Title, Row, Rules, IsEntry, IsRow, AreRules, IsLine, AreLines, wanted_of_tree, wanted_lines}
use Rattle.sel_check.proofs.Checking.{all_lines, all_for_lines, text_lines, lines_count}
use Rattle.sel_check.proofs.Cutting.{first_part_is}
use Rattle.sel_check.proofs.Reading.{title_only, row_only, rules_only, rows_of_claims, rules_are}
use Rattle.sel_check.proofs.Spelling.{pair_parts, row_parts, numbers_parts, cover_numbers}

heads : {A : Type 0} {x y : A} {xs ys : List A} → x ∷ xs ≡ y ∷ ys → x ≡ y
heads e = cc

tails : {A : Type 0} {x y : A} {xs ys : List A} → x ∷ xs ≡ y ∷ ys → xs ≡ ys
tails e = cc

both : {A : Type 0} {x y : A} {xs ys : List A} → x ≡ y → xs ≡ ys → x ∷ xs ≡ y ∷ ys
both p q = λ i. p i ∷ q i

parts_same : (c : ℕ) (xs ys : List ℕ) → parts_of c xs ≡ parts_of c ys → xs ≡ ys
parts_same c xs ys e = sym (join_with_byte-slice_split c xs) ∙ ap (join_with_byte c) e ∙ join_with_byte-slice_split c ys

-- numbers of titles that have 64 bits
abbrev pub AreShort : List Wanted → Type 0
AreShort [] = Unit {0}
AreShort (Title number ∷ wanted) = (number < 2 ^ 64) × AreShort wanted
AreShort (Row width ∷ wanted) = AreShort wanted
AreShort (Rules ∷ wanted) = AreShort wanted

line_lacks : (w : Wanted) (wanted : List Wanted) → AreShort (w ∷ wanted) → (line : List ℕ) → IsLine w line → Lacks 10 line
line_lacks (Title number) wanted h line k = title_only number h.0 line k
line_lacks (Row width) wanted h line k = row_only width line k
line_lacks Rules wanted h line k = rules_only line k

pub short_rest : (w : Wanted) (wanted : List Wanted) → AreShort (w ∷ wanted) → AreShort wanted
short_rest (Title number) wanted h = h.1
short_rest (Row width) wanted h = h
short_rest Rules wanted h = h

-- one line of the form begins a text
pub one_line : (w : Wanted) (wanted : List Wanted) (bytes line rest line' rest' : List ℕ) → AreShort (w ∷ wanted) → IsLine w line → IsLine w line' → bytes ≡ line ++ (10 ∷ rest) → bytes ≡ line' ++ (10 ∷ rest') → (line ≡ line') × (rest ≡ rest')
one_line w wanted bytes line rest line' rest' short h k e f =
    let p = first_part_is 10 line rest bytes (line_lacks w wanted short line h) e in
    let q = first_part_is 10 line' rest' bytes (line_lacks w wanted short line' k) f in
    (heads (sym p ∙ q), parts_same 10 rest rest' (tails (sym p ∙ q)))

pub ended_cons : (line : List ℕ) (lines : List (List ℕ)) → ended (line ∷ lines) ≡ line ++ (10 ∷ ended lines)
ended_cons line lines = append_assoc line (10 ∷ []) (ended lines)

lines_one : (wanted : List Wanted) (xs ys : List (List ℕ)) → AreShort wanted → AreLines wanted xs → AreLines wanted ys → ended xs ≡ ended ys → xs ≡ ys
lines_one [] [] [] short h k e = refl
lines_one [] [] (y ∷ ys) short h k e = absurd k
lines_one [] (x ∷ xs) ys short h k e = absurd h
lines_one (w ∷ wanted) [] ys short h k e = absurd h
lines_one (w ∷ wanted) (x ∷ xs) [] short h k e = absurd k
lines_one (w ∷ wanted) (x ∷ xs) (y ∷ ys) short h k e =
    let (p, q) = one_line w wanted (ended (x ∷ xs)) x (ended xs) y (ended ys) short h.0 k.0 (ended_cons x xs) (e ∙ ended_cons y ys) in
    both p (lines_one wanted xs ys (short_rest w wanted short) h.1 k.1 q)

-- what the numbers of titles are
short_append : (v w : List Wanted) → AreShort v → AreShort w → AreShort (v ++ w)
short_append [] w h k = k
short_append (Title n ∷ v) w h k = (h.0, short_append v w h.1 k)
short_append (Row n ∷ v) w h k = short_append v w h k
short_append (Rules ∷ v) w h k = short_append v w h k

short_tree : (g : Grammar) (number : ℕ) (tree : Tree) → number < 2 ^ 64 → AreShort (wanted_of_tree g number tree)
short_tree g number tree small = (small, rows tree.nodes)
  where
    rows : (nodes : List Node) → AreShort (map (λ (node : Node). Row (length g.nonterminals)) nodes ++ (Rules ∷ []))
    rows [] = tt
    rows (n ∷ nodes) = rows nodes

pub short_lines : (g : Grammar) (number : ℕ) (trees : List Tree) → number + length trees < 2 ^ 64 → AreShort (wanted_lines g number trees)
short_lines g number [] small = tt
short_lines g number (t ∷ trees) small =
    short_append (wanted_of_tree g number t) (wanted_lines g (number + 1) trees) (short_tree g number t (omega arith)) (short_lines g (number + 1) trees (omega arith))

-- one entry, one row and one list of rules are spelled
pair_one : (c d : Cost) → IsSmall greatest_claim c → IsSmall greatest_claim d → pair_text c ≡ pair_text d → c ≡ d
pair_one c d h k e =
    let (m, most, is, parts) = pair_parts (pair_text c) c h refl in
    let (n, most', is', parts') = pair_parts (pair_text c) d k e in
    let few = h.first in
    let few' = k.first in
    let p : c.first ≡ d.first = decimal_injective c.first d.first (omega arith) (omega arith) (heads (sym parts ∙ parts')) in
    let q : m ≡ n = decimal_injective m n (omega arith) (omega arith) (heads (tails (sym parts ∙ parts'))) in
    let r : c.second ≡ d.second = is ∙ ap pos q ∙ sym is' in
    λ i. record { first = p i; second = r i }

pair_long : (c : Cost) → IsSmall greatest_claim c → 1 < length (pair_text c)
pair_long c h = let few = h.first in omega (arith, length-append (decimal c.first) (44 ∷ signed_decimal c.second), decimal_nonempty c.first (omega arith))

entry_one : (x y : Option Cost) → IsEntry x → IsEntry y → entry_text x ≡ entry_text y → x ≡ y
entry_one None None h k e = refl
entry_one None (Some d) h k e = absurd (omega (arith, pair_long d k, ap length e))
entry_one (Some c) None h k e = absurd (omega (arith, pair_long c h, ap length e))
entry_one (Some c) (Some d) h k e = ap Some (pair_one c d h k e)

items_one : {A : Type 0} (text : A → List ℕ) (IsSuch : A → Type 0) → ((x y : A) → IsSuch x → IsSuch y → text x ≡ text y → x ≡ y) → (xs ys : List A) → All IsSuch xs → All IsSuch ys → map text xs ≡ map text ys → xs ≡ ys
items_one text IsSuch one [] [] h k e = refl
items_one text IsSuch one [] (y ∷ ys) h k e = cc
items_one text IsSuch one (x ∷ xs) [] h k e = cc
items_one text IsSuch one (x ∷ xs) (y ∷ ys) h k e = both (one x y (All-head IsSuch x xs h) (All-head IsSuch y ys k) (heads e)) (items_one text IsSuch one xs ys (All-tail IsSuch x xs h) (All-tail IsSuch y ys k) (tails e))

row_one : (width : ℕ) (x y : List (Option Cost)) → IsRow width x → IsRow width y → row_line x ≡ row_line y → x ≡ y
row_one zero [] [] h k e = refl
row_one zero [] (e' ∷ y) h k e = absurd (omega (arith, k.width_is))
row_one zero (e' ∷ x) y h k e = absurd (omega (arith, h.width_is))
row_one (suc n) x y h k e =
    items_one entry_text IsEntry entry_one x y h.entries k.entries (sym (row_parts (row_line x) (suc n) x (omega arith) h refl) ∙ row_parts (row_line x) (suc n) y (omega arith) k e)

number_one : (x y : ℕ) → x < 2 ^ 16 → y < 2 ^ 16 → decimal x ≡ decimal y → x ≡ y
number_one x y h k e = decimal_injective x y (omega arith) (omega arith) e

rules_one : (x y : Option (List ℕ)) → AreRules x → AreRules y → cover_line x ≡ cover_line y → x ≡ y
rules_one None None h k e = refl
rules_one None (Some y) h k e = let p : 110 ≡ 99 = heads e in absurd (omega (arith, p))
rules_one (Some x) None h k e = let p : 99 ≡ 110 = heads e in absurd (omega (arith, p))
rules_one (Some x) (Some y) h k e =
    ap Some (items_one decimal (λ r. r < 2 ^ 16) number_one x y h.1 k.1 (sym (numbers_parts (numbers_text x) x h refl) ∙ numbers_parts (numbers_text x) y k (six (sym (cover_numbers x h.0) ∙ e ∙ cover_numbers y k.0))))
  where
    six : codes "cover " ++ numbers_text x ≡ codes "cover " ++ numbers_text y → numbers_text x ≡ numbers_text y
    six e = tails (tails (tails (tails (tails (tails e)))))

-- lists of one length, each before another
front_one : {A : Type 0} (xs ys zs ws : List A) → length xs ≡ length ys → xs ++ zs ≡ ys ++ ws → (xs ≡ ys) × (zs ≡ ws)
front_one [] [] zs ws l e = (refl, e)
front_one [] (y ∷ ys) zs ws l e = absurd (omega (arith, l))
front_one (x ∷ xs) [] zs ws l e = absurd (omega (arith, l))
front_one (x ∷ xs) (y ∷ ys) zs ws l e = let (p, q) = front_one xs ys zs ws (omega (arith, l)) (tails e) in (both (heads e) p, q)

certificate_one : (g : Grammar) (tree : Tree) (number : ℕ) (c d : TreeCertificate) → IsFor g tree c → IsFor g tree d → certificate_lines number c ≡ certificate_lines number d → c ≡ d
certificate_one g tree number c d h k e =
    let same : length (map row_line c.costs) ≡ length (map row_line d.costs) = omega (arith, length-map c.costs row_line, length-map d.costs row_line, (h.places).nodes, (k.places).nodes) in
    let (rows, rules) = front_one (map row_line c.costs) (map row_line d.costs) (cover_line c.rules ∷ []) (cover_line d.rules ∷ []) same (tails e) in
    let p : c.costs ≡ d.costs = rows_same c.costs d.costs (rows_of_claims g tree c.costs h.places (h.printable).small) (rows_of_claims g tree d.costs k.places (k.printable).small) rows in
    let q : c.rules ≡ d.rules = rules_one c.rules d.rules (rules_are c.rules (h.printable).some (h.printable).numbers) (rules_are d.rules (k.printable).some (k.printable).numbers) (heads rules) in
    λ i. record { costs = p i; rules = q i }
  where
    rows_same : (xs ys : NodeCosts) → All (IsRow (length g.nonterminals)) xs → All (IsRow (length g.nonterminals)) ys → map row_line xs ≡ map row_line ys → xs ≡ ys
    rows_same xs ys h k e = items_one row_line (IsRow (length g.nonterminals)) (row_one (length g.nonterminals)) xs ys h k e

certificates_one : (g : Grammar) (number : ℕ) (trees : List Tree) (cs ds : List TreeCertificate) → AreFor g trees cs → AreFor g trees ds → all_lines number cs ≡ all_lines number ds → cs ≡ ds
certificates_one g number [] [] [] h k e = refl
certificates_one g number [] [] (d ∷ ds) h k e = absurd k
certificates_one g number [] (c ∷ cs) ds h k e = absurd h
certificates_one g number (t ∷ trees) [] ds h k e = absurd h
certificates_one g number (t ∷ trees) (c ∷ cs) [] h k e = absurd k
certificates_one g number (t ∷ trees) (c ∷ cs) (d ∷ ds) h k e =
    let same : length (certificate_lines number c) ≡ length (certificate_lines number d) = omega (arith, lines_count g t number c h.0, lines_count g t number d k.0) in
    let (p, q) = front_one (certificate_lines number c) (certificate_lines number d) (all_lines (number + 1) cs) (all_lines (number + 1) ds) same e in
    both (certificate_one g t number c d h.0 k.0 p) (certificates_one g (number + 1) trees cs ds h.1 k.1 q)

pub text_one : (g : Grammar) (number : ℕ) (trees : List Tree) (cs ds : List TreeCertificate) → number + length trees < 2 ^ 64 → AreFor g trees cs → AreFor g trees ds → certificates_text number cs ≡ certificates_text number ds → cs ≡ ds
text_one g number trees cs ds small h k e =
    certificates_one g number trees cs ds h k
    (lines_one (wanted_lines g number trees) (all_lines number cs) (all_lines number ds) (short_lines g number trees small) (all_for_lines g number trees cs h) (all_for_lines g number trees ds k) (sym (text_lines number cs) ∙ e ∙ text_lines number ds))
