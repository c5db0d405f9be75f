-- The loop over the trees of a forest.
use Rattle.std.proofs.Common.{◌≡◌, ℕ, suc, ◌+◌, ◌≤◌, ◌<◌, ◌⊎◌, inl, inr, List, [], ◌∷◌, ◌++◌, Option, length, take, drop, map, refl, ap, sym, ◌∙◌, subst, arith, append_assoc, append-nil, length-append, length-take, slice_index_or, nat_eq, true, false}
use Rattle.std.proofs.lemmas.List.{take_all, length-map}
use Rattle.std.proofs.lemmas.List.Sums.{sum_by_push}
use Rattle.sel_grammar.specs.declared.grammar.Grammar.{Grammar}
use Rattle.sel_grammar.specs.Costs.{Cost}
use Rattle.sel_grammar.specs.PlainTrees.{PlainTree}
use Rattle.sel_forest.specs.declared.forest.Tree.{Tree}
use Rattle.sel_forest.specs.declared.forest.Forest.{Forest}
use Rattle.sel_forest.specs.Postorder.{IsPostorderOf, IsTree}
use Rattle.sel_forest.specs.Valid.{IsValidForest}
use Rattle.sel_forest.proofs.Matching.{within}
use Rattle.sel_forest.proofs.Roots.{plain_one}
use Rattle.sel_check.specs.declared.certificate.TreeCertificate.{TreeCertificate}
use Rattle.sel_check.specs.declared.checker.Verdict.{Verdict}
use Rattle.sel_check.specs.declared.checker.Verdict.TheVariants as verdict
use Rattle.sel_check.specs.declared.lines.Lines.{Lines}
use Rattle.sel_check.specs.declared.refusal.CheckFault.{CheckFault}
use Rattle.sel_check.specs.declared.refusal.CheckRefusal.{CheckRefusal}
use Rattle.sel_check.specs.declared.refusal.CheckRefusal.TheVariants as refusal
use Rattle.sel_check.specs.declared.refusal.TreeFault.{TreeFault}
use Rattle.sel_check.specs.declared.refusal.TreeFault.TheVariants as fault
use Rattle.sel_check.specs.CertificateTexts.{row_line, cover_line, certificate_lines, certificate_text, certificates_text, ended}
use Rattle.sel_check.specs.Laws.{IsLeastCost}
use Rattle.sel_check.specs.TreeChecks.{ProvesCost, IsTreeFault, IsTreeRefusal}
use Rattle.sel_check.specs.declared.refusal.TreeRefusal.{TreeRefusal}
use Rattle.sel_check.specs.declared.refusal.TreeRefusal.TheVariants as tree_refusal
use Rattle.sel_check.specs.Checks.{IsFor, AreFor, Spells, AreProved, ProvesCosts, AreLeastCosts, lines_of_trees, placed, IsInside, IsFirstUnproved, IsCheckFault, IsCheckRefusal, text_fault}
use Rattle.sel_check.specs.LineReading.{Took, IsRefusedBehind, IsVerdict}
use Rattle.sel_check.specs.WantedLines.{Wanted, AreLines, wanted_of_tree, wanted_lines, IsFormFault}
use Rattle.sel_check.proofs.Bounding.{proof_is_least}
use Rattle.sel_check.proofs.Lists.{take_next, around, get_here}
use Rattle.sel_check.proofs.Reading.{ended_append, are_append, form_behind, for_lines, took_room}

-- the lines of certificates one behind the other
abbrev pub all_lines : ℕ → List TreeCertificate → List (List ℕ)
all_lines number [] = []
all_lines number (c ∷ cs) = certificate_lines number c ++ all_lines (number + 1) cs

pub text_lines : (number : ℕ) (cs : List TreeCertificate) → certificates_text number cs ≡ ended (all_lines number cs)
text_lines number [] = refl
text_lines number (c ∷ cs) = ap (λ b. certificate_text number c ++ b) (text_lines (number + 1) cs) ∙ sym (ended_append (certificate_lines number c) (all_lines (number + 1) cs))

lines_push : (number m : ℕ) (cs : List TreeCertificate) (c : TreeCertificate) → m ≡ number + length cs → all_lines number (cs ++ (c ∷ [])) ≡ all_lines number cs ++ certificate_lines m c
lines_push number m [] c e = let q : number ≡ m = omega (arith, e) in ap (λ n. certificate_lines n c ++ []) q ∙ append-nil (certificate_lines m c)
lines_push number m (d ∷ cs) c e =
    ap (λ b. certificate_lines number d ++ b) (lines_push (number + 1) m cs c (omega (arith, e))) ∙ sym (append_assoc (certificate_lines number d) (all_lines (number + 1) cs) (certificate_lines m c))

wanted_append : (g : Grammar) (number m : ℕ) (xs ys : List Tree) → m ≡ number + length xs → wanted_lines g number (xs ++ ys) ≡ wanted_lines g number xs ++ wanted_lines g m ys
wanted_append g number m [] ys e = let q : number ≡ m = omega (arith, e) in ap (λ n. wanted_lines g n ys) q
wanted_append g number m (x ∷ xs) ys e =
    ap (λ b. wanted_of_tree g number x ++ b) (wanted_append g (number + 1) m xs ys (omega (arith, e))) ∙ sym (append_assoc (wanted_of_tree g number x) (wanted_lines g (number + 1) xs) (wanted_lines g m ys))

pub all_for_lines : (g : Grammar) (number : ℕ) (trees : List Tree) (cs : List TreeCertificate) → AreFor g trees cs → AreLines (wanted_lines g number trees) (all_lines number cs)
all_for_lines g number [] [] h = tt
all_for_lines g number [] (c ∷ cs) h = absurd h
all_for_lines g number (t ∷ trees) [] h = absurd h
all_for_lines g number (t ∷ trees) (c ∷ cs) h =
    are_append (wanted_of_tree g number t) (wanted_lines g (number + 1) trees) (certificate_lines number c) (all_lines (number + 1) cs) (for_lines g t number c h.0) (all_for_lines g (number + 1) trees cs h.1)

pub lines_count : (g : Grammar) (t : Tree) (number : ℕ) (c : TreeCertificate) → IsFor g t c → length (certificate_lines number c) ≡ length t.nodes + 2
lines_count g t number c h = omega (arith, length-append (map row_line c.costs) (cover_line c.rules ∷ []), length-map c.costs row_line, (h.places).nodes)

as_many : (g : Grammar) (trees : List Tree) (cs : List TreeCertificate) → AreFor g trees cs → length cs ≡ length trees
as_many g [] [] h = refl
as_many g [] (c ∷ cs) h = absurd h
as_many g (t ∷ trees) [] h = absurd h
as_many g (t ∷ trees) (c ∷ cs) h = omega (arith, as_many g trees cs h.1)

for_more : (g : Grammar) (trees : List Tree) (cs : List TreeCertificate) (t : Tree) (c : TreeCertificate) → AreFor g trees cs → IsFor g t c → AreFor g (trees ++ (t ∷ [])) (cs ++ (c ∷ []))
for_more g [] [] t c h k = (k, tt)
for_more g [] (d ∷ cs) t c h k = absurd h
for_more g (s ∷ trees) [] t c h k = absurd h
for_more g (s ∷ trees) (d ∷ cs) t c h k = (h.0, for_more g trees cs t c h.1 k)

-- one tree more
proved_more : (g : Grammar) (trees : List Tree) (cs : List TreeCertificate) (costs : List (Option Cost)) (t : Tree) (c : TreeCertificate) (cost : Option Cost) → AreProved g trees cs costs → ProvesCost g t c cost
    → AreProved g (trees ++ (t ∷ [])) (cs ++ (c ∷ [])) (costs ++ (cost ∷ []))
proved_more g [] [] [] t c cost h k = (k, tt)
proved_more g [] [] (x ∷ costs) t c cost h k = absurd h
proved_more g [] (d ∷ cs) costs t c cost h k = absurd h
proved_more g (s ∷ trees) [] costs t c cost h k = absurd h
proved_more g (s ∷ trees) (d ∷ cs) [] t c cost h k = absurd h
proved_more g (s ∷ trees) (d ∷ cs) (x ∷ costs) t c cost h k = (h.0, proved_more g trees cs costs t c cost h.1 k)

pub judged_proved : (g : Grammar) (trees : List Tree) (cs : List TreeCertificate) (old : Verdict) (costs costs' : List (Option Cost)) (t : Tree) (c : TreeCertificate) (cost : Option Cost) → old ≡ verdict.Proved costs
    → costs' ≡ costs ++ (cost ∷ []) → ProvesCost g t c cost → IsVerdict g trees cs old → IsVerdict g (trees ++ (t ∷ [])) (cs ++ (c ∷ [])) (verdict.Proved costs')
judged_proved g trees cs old costs costs' t c cost is more k h =
    subst (AreProved g (trees ++ (t ∷ [])) (cs ++ (c ∷ []))) (sym more) (proved_more g trees cs costs t c cost (subst (IsVerdict g trees cs) is h) k)

pub judged_kept : (g : Grammar) (trees : List Tree) (cs : List TreeCertificate) (old : Verdict) (found : CheckFault) (t : Tree) (c : TreeCertificate) → old ≡ verdict.Faulty found
    → IsVerdict g trees cs old → IsVerdict g (trees ++ (t ∷ [])) (cs ++ (c ∷ [])) (verdict.Faulty found)
judged_kept g trees cs old found t c is h =
    let f : IsFirstUnproved g trees cs found = subst (IsVerdict g trees cs) is h in record {
      before = f.before;
      tree = f.tree;
      behind = f.behind ++ (t ∷ []);
      trees_are = ap (λ xs. xs ++ (t ∷ [])) f.trees_are ∙ append_assoc f.before (f.tree ∷ f.behind) (t ∷ []);
      proofs = f.proofs;
      certificate = f.certificate;
      others = f.others ++ (c ∷ []);
      certificates_are = ap (λ xs. xs ++ (c ∷ [])) f.certificates_are ∙ append_assoc f.proofs (f.certificate ∷ f.others) (c ∷ []);
      costs = f.costs;
      proved = f.proved;
      tree_fault = f.tree_fault;
      here = f.here;
      fault_is = f.fault_is;
    }

pub judged_faulty : (g : Grammar) (trees : List Tree) (cs : List TreeCertificate) (old : Verdict) (costs : List (Option Cost)) (t : Tree) (c : TreeCertificate) (lines : ℕ) (broken : TreeFault) (found : CheckFault)
    → old ≡ verdict.Proved costs → IsTreeFault g t c broken → found ≡ placed lines t broken → lines ≡ lines_of_trees trees
    → IsVerdict g trees cs old → IsVerdict g (trees ++ (t ∷ [])) (cs ++ (c ∷ [])) (verdict.Faulty found)
judged_faulty g trees cs old costs t c lines broken found is here place count h = record {
  before = trees;
  tree = t;
  behind = [];
  trees_are = refl;
  proofs = cs;
  certificate = c;
  others = [];
  certificates_are = refl;
  costs = costs;
  proved = subst (IsVerdict g trees cs) is h;
  tree_fault = broken;
  here = here;
  fault_is = place ∙ ap (λ n. placed n t broken) count;
}

-- a node at which a rule breaks its bound is one of the tree's
pub fault_inside : (g : Grammar) (t : Tree) (c : TreeCertificate) (broken : TreeFault) → IsTreeFault g t c broken → IsInside t broken
fault_inside g t c (fault.Bound node) h = go (cases node (length t.nodes))
  where
    cases : (a b : ℕ) → (a < b) ⊎ (b ≤ a)
    cases a b = grind arith

    go : (node < length t.nodes) ⊎ (length t.nodes ≤ node) → node < length t.nodes
    go (inl l) = l
    go (inr l) = absurd (h.broken (λ r rule s ts k at stands fit sum. absurd (let w = within t.nodes node s stands in omega (arith, w, l))))
fault_inside g t c fault.Cover h = tt
fault_inside g t c fault.Cost h = tt

pub refusal_inside : (g : Grammar) (t : Tree) (c : TreeCertificate) (why : TreeRefusal) (broken : TreeFault) → IsTreeRefusal g t c why → why ≡ tree_refusal.Fault broken → IsInside t broken
refusal_inside g t c why broken h is = fault_inside g t c broken (subst (IsTreeRefusal g t c) is h)

pub refusal_faulty : (g : Grammar) (trees : List Tree) (cs : List TreeCertificate) (old : Verdict) (costs : List (Option Cost)) (t : Tree) (c : TreeCertificate) (lines : ℕ) (why : TreeRefusal) (broken : TreeFault) (found : CheckFault)
    → old ≡ verdict.Proved costs → IsTreeRefusal g t c why → why ≡ tree_refusal.Fault broken → found ≡ placed lines t broken → lines ≡ lines_of_trees trees
    → IsVerdict g trees cs old → IsVerdict g (trees ++ (t ∷ [])) (cs ++ (c ∷ [])) (verdict.Faulty found)
refusal_faulty g trees cs old costs t c lines why broken found is h fault_is place count known = judged_faulty g trees cs old costs t c lines broken found is (subst (IsTreeRefusal g t c) fault_is h) place count known

pub empty_of : (xs : List ℕ) → nat_eq (length xs) 0 ≡ true → xs ≡ []
empty_of [] e = refl
empty_of (x ∷ xs) e = let h : nat_eq (suc (length xs)) 0 ≡ true = e in absurd (grind arith)

pub not_empty : (xs : List ℕ) → nat_eq (length xs) 0 ≡ false → xs ≡ [] → ⊥
not_empty [] e q = cc
not_empty (x ∷ xs) e q = cc

pub valid_tree : (g : Grammar) (forest : Forest) (k : ℕ) (t : Tree) → IsValidForest g forest → k < length forest.trees → t ≡ slice_index_or forest.trees k t → IsTree t
valid_tree g forest k t valid lt is = let v = valid.trees k t (get_here forest.trees k t lt is) in (v.plain, v.postorder, v.small)

-- what a proof proves is the least cost
least_of : (g : Grammar) (t : Tree) (c : TreeCertificate) (cost : Option Cost) → ProvesCost g t c cost → (plain : PlainTree) → IsPostorderOf t plain → IsLeastCost g g.start plain cost
least_of g t c cost h plain post =
    subst (λ p. IsLeastCost g g.start p cost) (plain_one t h.plain plain h.postorder post)
    (subst (IsLeastCost g g.start h.plain) (sym h.cost_is) (proof_is_least g t h.plain c.costs c.rules h.postorder h.proves))

pub all_least : (g : Grammar) (trees : List Tree) (cs : List TreeCertificate) (costs : List (Option Cost)) → AreProved g trees cs costs → AreLeastCosts g trees costs
all_least g [] [] [] h = tt
all_least g [] [] (x ∷ costs) h = absurd h
all_least g [] (d ∷ cs) costs h = absurd h
all_least g (s ∷ trees) [] costs h = absurd h
all_least g (s ∷ trees) (d ∷ cs) [] h = absurd h
all_least g (s ∷ trees) (d ∷ cs) (x ∷ costs) h = (least_of g s d x h.0, all_least g trees cs costs h.1)

-- The invariant: of the first trees the certificates were read, and this is known of them.
pub record CheckedSoFar (g : Grammar) (forest : Forest) (bytes : List ℕ) (lines : Lines) (count number : ℕ) (known : Verdict) : Type 0 where
  pub cs : List TreeCertificate
  pub each : AreFor g (take count forest.trees) cs
  pub text : bytes ≡ ended (all_lines 1 cs) ++ (lines.rest).now
  pub taken : lines.taken ≡ length (all_lines 1 cs)
  pub trees_taken : lines.taken ≡ lines_of_trees (take count forest.trees)
  pub number_is : number ≡ count + 1
  pub known_is : IsVerdict g (take count forest.trees) cs known
  pub room : lines.taken + length (lines.rest).now ≤ length bytes

pub checked_none : (g : Grammar) (forest : Forest) (bytes : List ℕ) (lines : Lines) (known : Verdict) → (lines.rest).now ≡ bytes → lines.taken ≡ 0 → known ≡ verdict.Proved [] → CheckedSoFar g forest bytes lines 0 1 known
checked_none g forest bytes lines known rest taken is = record {
  cs = [];
  each = tt;
  text = sym rest;
  taken = taken;
  trees_taken = taken;
  number_is = refl;
  known_is = subst (IsVerdict g [] []) (sym is) tt;
  room = omega (arith, taken, ap length rest);
}

module _ (g : Grammar) (forest : Forest) (bytes : List ℕ) (a b : Lines) (count number : ℕ) (known : Verdict) (tree : Tree) (lt : count < length forest.trees) (is : tree ≡ slice_index_or forest.trees count tree)
    (so_far : CheckedSoFar g forest bytes a count number known) where
  number_here : number ≡ 1 + length so_far.cs
  number_here = omega (arith, so_far.number_is, as_many g (take count forest.trees) so_far.cs so_far.each, length-taken)
    where
      length-taken : length (take count forest.trees) ≡ count
      length-taken = omega (arith, lt, length-take count forest.trees)

  pub checked_more : (c : TreeCertificate) (known' : Verdict) → IsFor g tree c → Took a b (certificate_lines number c)
      → IsVerdict g (take count forest.trees ++ (tree ∷ [])) (so_far.cs ++ (c ∷ [])) known' → CheckedSoFar g forest bytes b (count + 1) (number + 1) known'
  checked_more c known' for took judged =
      let next : take (count + 1) forest.trees ≡ take count forest.trees ++ (tree ∷ []) = take_next forest.trees count tree lt is in
      let lines : all_lines 1 (so_far.cs ++ (c ∷ [])) ≡ all_lines 1 so_far.cs ++ certificate_lines number c = lines_push 1 number so_far.cs c number_here in record {
        cs = so_far.cs ++ (c ∷ []);
        each = subst (λ ts. AreFor g ts (so_far.cs ++ (c ∷ []))) (sym next) (for_more g (take count forest.trees) so_far.cs tree c so_far.each for);
        text = so_far.text ∙ ap (λ r. ended (all_lines 1 so_far.cs) ++ r) took.bytes ∙ sym (append_assoc (ended (all_lines 1 so_far.cs)) (ended (certificate_lines number c)) (b.rest).now)
            ∙ ap (λ t. t ++ (b.rest).now) (sym (ended_append (all_lines 1 so_far.cs) (certificate_lines number c)) ∙ ap ended (sym lines));
        taken = omega (arith, took.count, so_far.taken, ap length lines, length-append (all_lines 1 so_far.cs) (certificate_lines number c));
        trees_taken = omega (arith, took.count, so_far.trees_taken, lines_count g tree number c for, ap lines_of_trees next, sum_by_push (λ (tree : Tree). length tree.nodes + 2) (take count forest.trees) tree);
        number_is = omega (arith, so_far.number_is);
        known_is = subst (λ ts. IsVerdict g ts (so_far.cs ++ (c ∷ [])) known') (sym next) judged;
        room = omega (arith, took_room a b (certificate_lines number c) took, so_far.room);
      }

  -- there is room for the numbers of the tree's lines
  pub room_here : (c : TreeCertificate) → IsFor g tree c → Took a b (certificate_lines number c) → a.taken + 2 + length tree.nodes ≤ length bytes
  room_here c for took = omega (arith, took.count, lines_count g tree number c for, took_room a b (certificate_lines number c) took, so_far.room)

  pub refused_tree : (why : CheckRefusal) → ((others : List Wanted) → IsRefusedBehind a (wanted_of_tree g number tree ++ others) why) → IsCheckRefusal g forest bytes why
  refused_tree (refusal.Fault found) refused =
      let others = wanted_lines g (number + 1) (drop (count + 1) forest.trees) in
      let (kind, (n, f, is')) = refused others in
      let all : wanted_lines g 1 forest.trees ≡ wanted_lines g 1 (take count forest.trees) ++ (wanted_of_tree g number tree ++ others) =
      ap (wanted_lines g 1) (around forest.trees count tree lt is) ∙ wanted_append g 1 number (take count forest.trees) (tree ∷ drop (count + 1) forest.trees)
      (omega (arith, so_far.number_is, lt, length-take count forest.trees)) in
      let fault = form_behind (wanted_lines g 1 (take count forest.trees)) (wanted_of_tree g number tree ++ others) (all_lines 1 so_far.cs) bytes (a.rest).now n
      (all_for_lines g 1 (take count forest.trees) so_far.cs so_far.each) so_far.text f in
      inl (
        kind,
        subst (λ w. IsFormFault w bytes found.line) (sym all) (subst (IsFormFault (wanted_lines g 1 (take count forest.trees) ++ (wanted_of_tree g number tree ++ others)) bytes)
            (let s : length (all_lines 1 so_far.cs) + n ≡ found.line = omega (arith, is', so_far.taken) in s) fault),
      )
  refused_tree refusal.NoMemory refused = tt

-- behind the last tree
module _ (g : Grammar) (forest : Forest) (bytes : List ℕ) (a : Lines) (count number : ℕ) (known : Verdict) (end : length forest.trees ≤ count) (so_far : CheckedSoFar g forest bytes a count number known) where
  all : take count forest.trees ≡ forest.trees
  all = take_all count forest.trees end

  pub more_text : (found : CheckFault) → ((a.rest).now ≡ [] → ⊥) → found.kind ≡ text_fault → found.line ≡ a.taken + 1 → IsCheckFault g forest bytes found
  more_text found more kind line = inl (
    kind,
    record {
      done = wanted_lines g 1 forest.trees;
      others = [];
      wanted_are = sym (append-nil (wanted_lines g 1 forest.trees));
      before = all_lines 1 so_far.cs;
      as_wanted = all_for_lines g 1 forest.trees so_far.cs (subst (λ ts. AreFor g ts so_far.cs) all so_far.each);
      rest = (a.rest).now;
      bytes_are = so_far.text;
      here = more;
      number_is = omega (arith, line, so_far.taken);
    },
  )

  spelled : (a.rest).now ≡ [] → Spells g forest bytes so_far.cs
  spelled none = record {
    each = subst (λ ts. AreFor g ts so_far.cs) all so_far.each;
    text = so_far.text ∙ ap (λ r. ended (all_lines 1 so_far.cs) ++ r) none ∙ append-nil (ended (all_lines 1 so_far.cs)) ∙ sym (text_lines 1 so_far.cs);
  }

  known_of_all : (v : Verdict) → known ≡ v → IsVerdict g forest.trees so_far.cs v
  known_of_all v e = subst (IsVerdict g forest.trees so_far.cs) e (subst (λ ts. IsVerdict g ts so_far.cs known) all so_far.known_is)

  pub all_proved : (costs : List (Option Cost)) → (a.rest).now ≡ [] → known ≡ verdict.Proved costs → ProvesCosts g forest bytes costs
  all_proved costs none e = record { certificates = so_far.cs; spells = spelled none; proved = known_of_all (verdict.Proved costs) e }

  pub some_unproved : (found : CheckFault) → (a.rest).now ≡ [] → known ≡ verdict.Faulty found → IsCheckFault g forest bytes found
  some_unproved found none e = inr (record { certificates = so_far.cs; spells = spelled none; unproved = known_of_all (verdict.Faulty found) e })
