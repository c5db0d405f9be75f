-- Lines that are taken, one behind the other.
use Rattle.std.proofs.Common.{◌≡◌, ℕ, zero, suc, ◌+◌, ◌≤◌, ◌<◌, ◌^◌, List, [], ◌∷◌, ◌++◌, Option, Some, None, All, length, take, drop, map, refl, ap, sym, ◌∙◌, subst, arith, append_assoc, append-nil, length-append, length-take, slice_get, slice_index_or}
use Rattle.std.specs.Option.{option_flatten, unwrap_or}
use Rattle.std.proofs.lemmas.List.Elements.{All-head, All-tail, All-nil, All-push}
use Rattle.std.proofs.lemmas.List.{map-append}
use Rattle.sel_grammar.specs.declared.grammar.Grammar.{Grammar}
use Rattle.sel_grammar.specs.Costs.{Cost}
use Rattle.sel_grammar.specs.SmallCosts.{IsSmall}
use Rattle.sel_forest.specs.declared.forest.Node.{Node}
use Rattle.sel_forest.specs.declared.forest.Tree.{Tree}
use Rattle.sel_plain.specs.NodeCosts.{NodeCosts, HasPlaces}
use Rattle.sel_check.specs.declared.certificate.TreeCertificate.{TreeCertificate}
use Rattle.sel_check.specs.declared.lines.Lines.{Lines}
use Rattle.sel_check.specs.declared.refusal.CheckRefusal.{CheckRefusal}
use Rattle.sel_check.specs.declared.refusal.CheckRefusal.TheVariants as refusal
use Rattle.sel_check.specs.CertificateTexts.{greatest_claim, row_line, cover_line, tree_line, certificate_lines, ended, HasSmallClaims}
use Rattle.sel_check.specs.Checks.{IsFor}
use Rattle.sel_check.specs.LineReading.{Lacks, Took, IsTaken, IsFaultBehind, IsRefusedBehind}
use Rattle.sel_check.specs.WantedLines.{Wanted, Title, Row, Rules, IsEntry, IsRow, AreRules, IsLine, AreLines, wanted_rows, wanted_of_tree, IsNoLine, IsFormFault}
use Rattle.sel_check.proofs.Cutting.{first_part_is, separator_stands}
use Rattle.sel_check.proofs.Lists.{all_from_get, all_get}
use Rattle.sel_check.proofs.Spelling.{title_lacks, row_lacks, rules_lack}

pub ended_append : (xs ys : List (List ℕ)) → ended (xs ++ ys) ≡ ended xs ++ ended ys
ended_append [] ys = refl
ended_append (x ∷ xs) ys = ap (λ rest. (x ++ (10 ∷ [])) ++ rest) (ended_append xs ys) ∙ sym (append_assoc (x ++ (10 ∷ [])) (ended xs) (ended ys))

ended_longer : (xs : List (List ℕ)) → length xs ≤ length (ended xs)
ended_longer [] = omega arith
ended_longer (x ∷ xs) = omega (arith, ended_longer xs, length-append (x ++ (10 ∷ [])) (ended xs), length-append x (10 ∷ []))

-- a line, its line feed, and what stands behind
pub one_ended : (line rest : List ℕ) → ended (line ∷ []) ++ rest ≡ line ++ (10 ∷ rest)
one_ended line rest = ap (λ xs. xs ++ rest) (append-nil (line ++ (10 ∷ []))) ∙ append_assoc line (10 ∷ []) rest

pub are_append : (v w : List Wanted) (xs ys : List (List ℕ)) → AreLines v xs → AreLines w ys → AreLines (v ++ w) (xs ++ ys)
are_append [] w [] ys h k = k
are_append [] w (x ∷ xs) ys h k = absurd h
are_append (a ∷ v) w [] ys h k = absurd h
are_append (a ∷ v) w (x ∷ xs) ys h k = (h.0, are_append v w xs ys h.1 k)

-- a fault behind lines as wanted
pub form_behind : (done others : List Wanted) (lines : List (List ℕ)) (bytes rest : List ℕ) (n : ℕ) → AreLines done lines → bytes ≡ ended lines ++ rest → IsFormFault others rest n → IsFormFault (done ++ others) bytes (length lines + n)
form_behind done others lines bytes rest n are is f = record {
  done = done ++ f.done;
  others = f.others;
  wanted_are = ap (λ w. done ++ w) f.wanted_are ∙ sym (append_assoc done f.done f.others);
  before = lines ++ f.before;
  as_wanted = are_append done f.done lines f.before are f.as_wanted;
  rest = f.rest;
  bytes_are = is ∙ ap (λ b. ended lines ++ b) f.bytes_are ∙ sym (append_assoc (ended lines) (ended f.before) f.rest) ∙ ap (λ b. b ++ f.rest) (sym (ended_append lines f.before));
  here = f.here;
  number_is = omega (arith, f.number_is, length-append lines f.before);
}

-- taking lines
pub took_more : (a b c : Lines) (xs ys : List (List ℕ)) → Took a b xs → Took b c ys → Took a c (xs ++ ys)
took_more a b c xs ys h k = record {
  bytes = h.bytes ∙ ap (λ rest. ended xs ++ rest) k.bytes ∙ sym (append_assoc (ended xs) (ended ys) (c.rest).now) ∙ ap (λ b. b ++ (c.rest).now) (sym (ended_append xs ys));
  count = omega (arith, h.count, k.count, length-append xs ys);
}

pub took_room : (a b : Lines) (xs : List (List ℕ)) → Took a b xs → b.taken + length (b.rest).now ≤ a.taken + length (a.rest).now
took_room a b xs h = omega (arith, h.count, ended_longer xs, ap length h.bytes, length-append (ended xs) (b.rest).now)

pub refused_behind : (a b : Lines) (done others : List Wanted) (lines : List (List ℕ)) (why : CheckRefusal) → AreLines done lines → Took a b lines → IsRefusedBehind b others why → IsRefusedBehind a (done ++ others) why
refused_behind a b done others lines (refusal.Fault found) are took (kind, (n, fault, is)) =
    (kind, (length lines + n, form_behind done others lines (a.rest).now (b.rest).now n are took.bytes fault, omega (arith, is, took.count)))
refused_behind a b done others lines refusal.NoMemory are took h = tt

-- a fault at the next line
fault_here : (a : Lines) (w : Wanted) (others : List Wanted) (number : ℕ) → IsNoLine (w ∷ others) (a.rest).now → number ≡ a.taken + 1 → IsFaultBehind a (w ∷ others) number
fault_here a w others number here is =
    (1, record { done = []; others = w ∷ others; wanted_are = refl; before = []; as_wanted = tt; rest = (a.rest).now; bytes_are = refl; here = here; number_is = refl }, is)

pub no_end : (a : Lines) (w : Wanted) (others : List Wanted) (number : ℕ) → Lacks 10 (a.rest).now → number ≡ a.taken + 1 → IsFaultBehind a (w ∷ others) number
no_end a w others number lacks is = fault_here a w others number (λ line behind h e. separator_stands 10 line behind (a.rest).now lacks e) is

pub wrong_line : (a b : Lines) (w : Wanted) (others : List Wanted) (line : List ℕ) → ((l : List ℕ) → IsLine w l → Lacks 10 l) → IsTaken a b line → (IsLine w line → ⊥) → IsFaultBehind a (w ∷ others) b.taken
wrong_line a b w others line lacks taken never =
    fault_here a w others b.taken
    (λ l behind h e.
    let first = first_part_is 10 l behind (a.rest).now (lacks l h) e in
    let first' = first_part_is 10 line (b.rest).now (a.rest).now taken.lacks (taken.took.bytes ∙ one_ended line (b.rest).now) in
    never (subst (IsLine w) (head (sym first ∙ first')) h)) taken.took.count
  where
    head : {x y : List ℕ} {xs ys : List (List ℕ)} → x ∷ xs ≡ y ∷ ys → x ≡ y
    head e = cc

pub title_only : (number : ℕ) → number < 2 ^ 64 → (l : List ℕ) → IsLine (Title number) l → Lacks 10 l
title_only number small l h = subst (Lacks 10) (sym h) (title_lacks number small)

pub row_only : (width : ℕ) (l : List ℕ) → IsLine (Row width) l → Lacks 10 l
row_only width l (row, is, e) = subst (Lacks 10) (sym e) (row_lacks row is.entries)

pub rules_only : (l : List ℕ) → IsLine Rules l → Lacks 10 l
rules_only l (rules, are, e) = subst (Lacks 10) (sym e) (rules_lack rules are)

-- rows
abbrev pub rows_wanted : ℕ → List Node → List Wanted
rows_wanted width nodes = map (λ (node : Node). Row width) nodes

pub are_rows : (width : ℕ) (nodes : List Node) (rows : NodeCosts) → length rows ≡ length nodes → All (IsRow width) rows → AreLines (rows_wanted width nodes) (map row_line rows)
are_rows width [] [] e h = tt
are_rows width [] (row ∷ rows) e h = absurd (omega (arith, e))
are_rows width (node ∷ nodes) [] e h = absurd (omega (arith, e))
are_rows width (node ∷ nodes) (row ∷ rows) e h = ((row, All-head (IsRow width) row rows h, refl), are_rows width nodes rows (omega (arith, e)) (All-tail (IsRow width) row rows h))

pub rows_around : (width : ℕ) (nodes : List Node) (k : ℕ) (node : Node) → k < length nodes → node ≡ slice_index_or nodes k node
    → rows_wanted width nodes ≡ rows_wanted width (take k nodes) ++ (Row width ∷ rows_wanted width (drop (k + 1) nodes))
rows_around width [] k node lt is = absurd (omega arith)
rows_around width (n ∷ nodes) zero node lt is = refl
rows_around width (n ∷ nodes) (suc k) node lt is =
    let one : suc k + 1 ≡ suc (k + 1) = omega arith in
    ap (λ w. Row width ∷ w) (rows_around width nodes k node (omega arith) is) ∙ ap (λ m. Row width ∷ (rows_wanted width (take k nodes) ++ (Row width ∷ rows_wanted width (drop m (n ∷ nodes))))) (sym one)

-- a fault among rows
pub refused_row : (a b : Lines) (width : ℕ) (nodes : List Node) (k : ℕ) (node : Node) (rows : NodeCosts) (others : List Wanted) (why : CheckRefusal) → k < length nodes → node ≡ slice_index_or nodes k node
    → length rows ≡ k → All (IsRow width) rows → Took a b (map row_line rows) → ((others : List Wanted) → IsRefusedBehind b (Row width ∷ others) why)
    → IsRefusedBehind a (rows_wanted width nodes ++ others) why
refused_row a b width nodes k node rows others why lt is count all took refused =
    subst (λ w. IsRefusedBehind a w why) (sym (ap (λ w. w ++ others) (rows_around width nodes k node lt is) ∙ append_assoc (rows_wanted width (take k nodes)) (Row width ∷ rows_wanted width (drop (k + 1) nodes)) others))
    (refused_behind a b (rows_wanted width (take k nodes)) (Row width ∷ (rows_wanted width (drop (k + 1) nodes) ++ others)) (map row_line rows) why
    (are_rows width (take k nodes) rows (omega (arith, count, length-take k nodes, lt)) all) took (refused (rows_wanted width (drop (k + 1) nodes) ++ others)))

-- a tree's lines
module _ (g : Grammar) (tree : Tree) (number : ℕ) where
  abbrev width : ℕ
  width = length g.nonterminals

  pub refused_rows : (a b : Lines) (others : List Wanted) (why : CheckRefusal) → Took a b (tree_line number ∷ []) → ((others : List Wanted) → IsRefusedBehind b (rows_wanted width tree.nodes ++ others) why)
      → IsRefusedBehind a (wanted_of_tree g number tree ++ others) why
  refused_rows a b others why took refused =
      refused_behind a b (Title number ∷ []) ((wanted_rows g tree ++ (Rules ∷ [])) ++ others) (tree_line number ∷ []) why (refl, tt) took
      (subst (λ w. IsRefusedBehind b w why) (sym (append_assoc (wanted_rows g tree) (Rules ∷ []) others)) (refused (Rules ∷ others)))

  pub refused_rules : (a b c : Lines) (rows : NodeCosts) (others : List Wanted) (why : CheckRefusal) → Took a b (tree_line number ∷ []) → length rows ≡ length tree.nodes → All (IsRow width) rows → Took b c (map row_line rows)
      → ((others : List Wanted) → IsRefusedBehind c (Rules ∷ others) why) → IsRefusedBehind a (wanted_of_tree g number tree ++ others) why
  refused_rules a b c rows others why took count all took' refused =
      refused_behind a b (Title number ∷ []) ((wanted_rows g tree ++ (Rules ∷ [])) ++ others) (tree_line number ∷ []) why (refl, tt) took
      (subst (λ w. IsRefusedBehind b w why) (sym (append_assoc (wanted_rows g tree) (Rules ∷ []) others))
      (refused_behind b c (rows_wanted width tree.nodes) (Rules ∷ others) (map row_line rows) why (are_rows width tree.nodes rows count all) took' (refused others)))

  pub took_tree : (a b c d : Lines) (rows : NodeCosts) (rules : Option (List ℕ)) → Took a b (tree_line number ∷ []) → Took b c (map row_line rows) → Took c d (cover_line rules ∷ [])
      → Took a d (certificate_lines number (record { costs = rows; rules = rules }))
  took_tree a b c d rows rules h k m = took_more a b d (tree_line number ∷ []) (map row_line rows ++ (cover_line rules ∷ [])) h (took_more b c d (map row_line rows) (cover_line rules ∷ []) k m)

claims_of_rows : (width : ℕ) (costs : NodeCosts) → All (IsRow width) costs → HasSmallClaims costs
claims_of_rows width costs all i n c is = at_row (slice_get costs i) refl is
  where
    at_entry : (row : List (Option Cost)) (o : Option (Option Cost)) → slice_get row n ≡ o → All IsEntry row → option_flatten o ≡ Some c → IsSmall greatest_claim c
    at_entry row None e h is = cc
    at_entry row (Some None) e h is = cc
    at_entry row (Some (Some d)) e h is = let q : d ≡ c = cc in subst (IsSmall greatest_claim) q (all_get IsEntry row n (Some d) h e)

    at_row : (o : Option (List (Option Cost))) → slice_get costs i ≡ o → option_flatten (slice_get (unwrap_or o []) n) ≡ Some c → IsSmall greatest_claim c
    at_row None e is = cc
    at_row (Some row) e is = at_entry row (slice_get row n) refl ((all_get (IsRow width) costs i row all e).entries) is

pub rows_of_claims : (g : Grammar) (tree : Tree) (costs : NodeCosts) → HasPlaces g tree costs → HasSmallClaims costs → All (IsRow (length g.nonterminals)) costs
rows_of_claims g tree costs places small = all_from_get (IsRow (length g.nonterminals)) costs (λ i row at. record {
  width_is = places.nonterminals i row at;
  entries = all_from_get IsEntry row (entry i row at);
})
  where
    entry : (i : ℕ) (row : List (Option Cost)) → slice_get costs i ≡ Some row → (n : ℕ) (e : Option Cost) → slice_get row n ≡ Some e → IsEntry e
    entry i row at n None is = tt
    entry i row at n (Some c) is = small i n c (ap (λ o. option_flatten (slice_get (unwrap_or o []) n)) at ∙ ap option_flatten is)

rules_printable : (rules : Option (List ℕ)) → AreRules rules → (rules ≡ Some [] → ⊥) × ((numbers : List ℕ) (k r : ℕ) → rules ≡ Some numbers → slice_get numbers k ≡ Some r → r < 2 ^ 16)
rules_printable None h = (λ e. cc, λ numbers k r e at. cc)
rules_printable (Some rules) h =
    (λ e. let q : rules ≡ [] = cc in absurd (omega (arith, h.0, ap length q)), λ numbers k r e at. let q : rules ≡ numbers = cc in all_get (λ r. r < 2 ^ 16) rules k r h.1 (ap (λ xs. slice_get xs k) q ∙ at))

-- what is read is a certificate for the tree
pub is_for : (g : Grammar) (tree : Tree) (costs : NodeCosts) (rules : Option (List ℕ)) → length costs ≡ length tree.nodes → All (IsRow (length g.nonterminals)) costs → AreRules rules → IsFor g tree (record { costs = costs; rules = rules })
is_for g tree costs rules count all are =
    let (some, numbers) = rules_printable rules are in record {
      places = record { nodes = count; nonterminals = λ i row at. (all_get (IsRow (length g.nonterminals)) costs i row all at).width_is };
      printable = record { small = claims_of_rows (length g.nonterminals) costs all; some = some; numbers = numbers };
    }

pub rules_are : (rules : Option (List ℕ)) → (rules ≡ Some [] → ⊥) → ((numbers : List ℕ) (k r : ℕ) → rules ≡ Some numbers → slice_get numbers k ≡ Some r → r < 2 ^ 16) → AreRules rules
rules_are None some numbers = tt
rules_are (Some []) some numbers = absurd (some refl)
rules_are (Some (r ∷ rules)) some numbers = (omega arith, all_from_get (λ r. r < 2 ^ 16) (r ∷ rules) (λ k x at. numbers (r ∷ rules) k x refl at))

-- and its lines are as wanted
pub for_lines : (g : Grammar) (tree : Tree) (number : ℕ) (c : TreeCertificate) → IsFor g tree c → AreLines (wanted_of_tree g number tree) (certificate_lines number c)
for_lines g tree number c h = (
  refl,
  are_append (wanted_rows g tree) (Rules ∷ []) (map row_line c.costs) (cover_line c.rules ∷ [])
      (are_rows (length g.nonterminals) tree.nodes c.costs (h.places).nodes (rows_of_claims g tree c.costs h.places (h.printable).small))
      ((c.rules, rules_are c.rules (h.printable).some (h.printable).numbers, refl), tt),
)

-- The invariant of the loop over nodes: so many rows were read.
pub record RowsSoFar (old now : Lines) (width count : ℕ) (rows : NodeCosts) : Type 0 where
  pub took : Took old now (map row_line rows)
  pub all : All (IsRow width) rows
  pub count_is : length rows ≡ count

pub rows_none : (old : Lines) (width : ℕ) → RowsSoFar old old width 0 []
rows_none old width = record { took = record { bytes = refl; count = omega arith }; all = All-nil (IsRow width); count_is = refl }

pub rows_more : (old now next : Lines) (width count : ℕ) (rows rows' : NodeCosts) (row : List (Option Cost)) → RowsSoFar old now width count rows → IsRow width row → Took now next (row_line row ∷ []) → rows' ≡ rows ++ (row ∷ [])
    → RowsSoFar old next width (count + 1) rows'
rows_more old now next width count rows rows' row h is took more =
    subst (RowsSoFar old next width (count + 1)) (sym more) (record {
      took = subst (Took old next) (sym (map-append row_line rows (row ∷ []))) (took_more old now next (map row_line rows) (row_line row ∷ []) h.took took);
      all = All-push (IsRow width) rows row h.all is;
      count_is = omega (arith, h.count_is, length-append rows (row ∷ []));
    })
