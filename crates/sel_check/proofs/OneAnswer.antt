-- A text has one answer, and the text of best costs is proved.
use Rattle.std.proofs.Common.{◌≡◌, ℕ, zero, suc, ◌+◌, ◌<◌, ◌^◌, ◌⊎◌, inl, inr, List, [], ◌∷◌, ◌++◌, Option, Some, None, length, refl, ap, sym, ◌∙◌, subst, arith, append_assoc, slice_get}
use Rattle.std.proofs.lemmas.List.Sums.{sum_by-cons}
use Rattle.sel_grammar.specs.declared.grammar.Grammar.{Grammar}
use Rattle.sel_grammar.specs.Costs.{Cost}
use Rattle.sel_forest.specs.declared.forest.Forest.{Forest}
use Rattle.sel_forest.specs.declared.forest.Tree.{Tree}
use Rattle.sel_forest.specs.Covers.{IsCover}
use Rattle.sel_forest.specs.Valid.{IsValidForest, IsValidTree}
use Rattle.sel_check.specs.declared.certificate.TreeCertificate.{TreeCertificate}
use Rattle.sel_check.specs.declared.refusal.CheckFault.{CheckFault}
use Rattle.sel_check.specs.declared.refusal.TreeFault.{TreeFault}
use Rattle.sel_check.specs.declared.refusal.TreeFault.TheVariants as fault
use Rattle.sel_check.specs.Certificates.{claim, start_goal, IsShown}
use Rattle.sel_check.specs.CertificateTexts.{ended}
use Rattle.sel_check.specs.TreeChecks.{ProvesCost, IsTreeFault, BreaksBound, HasNoDerivation, IsNotShown}
use Rattle.sel_check.specs.Checks.{AreFor, Spells, AreProved, ProvesCosts, lines_of_trees, placed, IsFirstUnproved, IsCheckFault}
use Rattle.sel_check.specs.CheckLaws.{IsCertified, AreCertified, CertifiedIsProved, ProvedCostsAreOne, CheckFaultIsOne, NoFaultIsProved}
use Rattle.sel_check.specs.WantedLines.{Wanted, IsLine, AreLines, wanted_lines, IsNoLine, IsFormFault}
use Rattle.sel_forest.proofs.Roots.{plain_one}
use Rattle.sel_check.proofs.Checking.{all_lines, all_for_lines, text_lines}
use Rattle.sel_check.proofs.OneText.{AreShort, short_lines, short_rest, one_line, ended_cons, text_one}
use Rattle.sel_check.proofs.Proving.{best_is_proved}

-- A fault of form, line by line.
abbrev IsWrong : List Wanted → List ℕ → ℕ → Type 0
IsWrong [] bytes n = (bytes ≡ [] → ⊥) × (n ≡ 1)
IsWrong (w ∷ wanted) bytes n = (IsNoLine (w ∷ wanted) bytes × (n ≡ 1)) ⊎ ((line : List ℕ) × (rest : List ℕ) × (m : ℕ) × IsLine w line × (bytes ≡ line ++ (10 ∷ rest)) × IsWrong wanted rest m × (n ≡ suc m))

wrong_here : (others : List Wanted) (bytes : List ℕ) (n : ℕ) → IsNoLine others bytes → n ≡ 1 → IsWrong others bytes n
wrong_here [] bytes n h e = (h, e)
wrong_here (w ∷ others) bytes n h e = inl (h, e)

wrong_behind : (done others : List Wanted) (before : List (List ℕ)) (bytes rest : List ℕ) (n : ℕ) → AreLines done before → bytes ≡ ended before ++ rest → IsNoLine others rest → n ≡ length before + 1 → IsWrong (done ++ others) bytes n
wrong_behind [] others [] bytes rest n are is h e = wrong_here others bytes n (subst (IsNoLine others) (sym is) h) e
wrong_behind [] others (x ∷ before) bytes rest n are is h e = absurd are
wrong_behind (w ∷ done) others [] bytes rest n are is h e = absurd are
wrong_behind (w ∷ done) others (x ∷ before) bytes rest n are is h e =
    inr (
      x,
      ended before ++ rest,
      length before + 1,
      are.0,
      is ∙ ap (λ t. t ++ rest) (ended_cons x before) ∙ append_assoc x (10 ∷ ended before) rest,
      wrong_behind done others before (ended before ++ rest) rest (length before + 1) are.1 refl h refl,
      omega (arith, e),
    )

wrong : (wanted : List Wanted) (bytes : List ℕ) (n : ℕ) → IsFormFault wanted bytes n → IsWrong wanted bytes n
wrong wanted bytes n f = subst (λ w. IsWrong w bytes n) (sym f.wanted_are) (wrong_behind f.done f.others f.before bytes f.rest n f.as_wanted f.bytes_are f.here f.number_is)

wrong_one : (wanted : List Wanted) (bytes : List ℕ) (n m : ℕ) → AreShort wanted → IsWrong wanted bytes n → IsWrong wanted bytes m → n ≡ m
wrong_one [] bytes n m short h k = h.1 ∙ sym k.1
wrong_one (w ∷ wanted) bytes n m short (inl h) (inl k) = h.1 ∙ sym k.1
wrong_one (w ∷ wanted) bytes n m short (inl h) (inr (line, rest, k, is, e, more, q)) = absurd (h.0 line rest is e)
wrong_one (w ∷ wanted) bytes n m short (inr (line, rest, k, is, e, more, q)) (inl h) = absurd (h.0 line rest is e)
wrong_one (w ∷ wanted) bytes n m short (inr (line, rest, k, is, e, more, q)) (inr (line', rest', k', is', e', more', q')) =
    let (p, r) = one_line w wanted bytes line rest line' rest' short is is' e e' in
    q ∙ ap suc (wrong_one wanted rest k k' (short_rest w wanted short) more (subst (λ t. IsWrong wanted t k') (sym r) more')) ∙ sym q'

right_not_wrong : (wanted : List Wanted) (lines : List (List ℕ)) (bytes : List ℕ) (n : ℕ) → AreShort wanted → AreLines wanted lines → bytes ≡ ended lines → IsWrong wanted bytes n → ⊥
right_not_wrong [] [] bytes n short are is h = h.0 is
right_not_wrong [] (x ∷ lines) bytes n short are is h = absurd are
right_not_wrong (w ∷ wanted) [] bytes n short are is h = absurd are
right_not_wrong (w ∷ wanted) (x ∷ lines) bytes n short are is (inl h) = h.0 x (ended lines) are.0 (is ∙ ended_cons x lines)
right_not_wrong (w ∷ wanted) (x ∷ lines) bytes n short are is (inr (line, rest, k, line_is, e, more, q)) =
    let (p, r) = one_line w wanted bytes line rest x (ended lines) short line_is are.0 e (is ∙ ended_cons x lines) in
    right_not_wrong wanted lines rest k (short_rest w wanted short) are.1 r more

-- A tree has one fault, or none.
node_one : (g : Grammar) (t : Tree) (c : TreeCertificate) (i j : ℕ) → BreaksBound g t c i → BreaksBound g t c j → i ≡ j
node_one g t c i j h k = go (cases i j)
  where
    cases : (a b : ℕ) → (a < b) ⊎ ((b < a) ⊎ (a ≡ b))
    cases a b = grind arith

    go : (i < j) ⊎ ((j < i) ⊎ (i ≡ j)) → i ≡ j
    go (inl l) = absurd (h.broken (k.before i l))
    go (inr (inl l)) = absurd (k.broken (h.before j l))
    go (inr (inr e)) = e

derived_once : (g : Grammar) (t : Tree) (c : TreeCertificate) → HasNoDerivation g t c → IsNotShown g t c → ⊥
derived_once g t c h k =
    let (cost, cover) = k.derived h.rules h.there in
    let same = plain_one t k.plain h.plain k.postorder h.postorder in
    let cover' : IsCover g h.plain h.rules cost = subst (λ p. IsCover g p h.rules cost) same cover in
    h.none cover'.derivation cover'.derives cover'.list_is

tree_fault_one : (g : Grammar) (t : Tree) (c : TreeCertificate) (x y : TreeFault) → IsTreeFault g t c x → IsTreeFault g t c y → x ≡ y
tree_fault_one g t c (fault.Bound i) (fault.Bound j) h k = ap fault.Bound (node_one g t c i j h k)
tree_fault_one g t c (fault.Bound i) fault.Cover h k = absurd (h.broken (k.bounds i))
tree_fault_one g t c (fault.Bound i) fault.Cost h k = absurd (h.broken (k.bounds i))
tree_fault_one g t c fault.Cover (fault.Bound j) h k = absurd (k.broken (h.bounds j))
tree_fault_one g t c fault.Cover fault.Cover h k = refl
tree_fault_one g t c fault.Cover fault.Cost h k = absurd (derived_once g t c h k)
tree_fault_one g t c fault.Cost (fault.Bound j) h k = absurd (k.broken (h.bounds j))
tree_fault_one g t c fault.Cost fault.Cover h k = absurd (derived_once g t c k h)
tree_fault_one g t c fault.Cost fault.Cost h k = refl

proved_not_faulty : (g : Grammar) (t : Tree) (c : TreeCertificate) (cost : Option Cost) (x : TreeFault) → ProvesCost g t c cost → IsTreeFault g t c x → ⊥
proved_not_faulty g t c cost (fault.Bound i) h k = k.broken ((h.proves).bounds i)
proved_not_faulty g t c cost fault.Cover h k = go (claim c.costs (start_goal g t)) (h.proves).shown
  where
    go : (o : Option Cost) → IsShown g h.plain o c.rules → ⊥
    go o shown = some o k.rules (subst (IsShown g h.plain o) k.there shown) refl
      where
        some : (o : Option Cost) (rules : List ℕ) → IsShown g h.plain o (Some rules) → rules ≡ k.rules → ⊥
        some None rules shown e = shown
        some (Some cost) rules shown e =
            let cover : IsCover g k.plain rules cost = subst (λ p. IsCover g p rules cost) (plain_one t h.plain k.plain h.postorder k.postorder) shown in
            k.none cover.derivation cover.derives (cover.list_is ∙ e)
proved_not_faulty g t c cost fault.Cost h k =
    k.not_shown (subst (λ p. IsShown g p (claim c.costs (start_goal g t)) c.rules) (plain_one t h.plain k.plain h.postorder k.postorder) (h.proves).shown)

-- The first tree that isn't proved, tree by tree.
abbrev IsFirst : Grammar → List Tree → List TreeCertificate → ℕ → CheckFault → Type 0
IsFirst g [] cs lines found = ⊥
IsFirst g (t ∷ trees) [] lines found = ⊥
IsFirst g (t ∷ trees) (c ∷ cs) lines found =
    ((x : TreeFault) × IsTreeFault g t c x × (found ≡ placed lines t x)) ⊎ ((cost : Option Cost) × ProvesCost g t c cost × IsFirst g trees cs (lines + (length t.nodes + 2)) found)

first_behind : (g : Grammar) (before : List Tree) (tree : Tree) (behind : List Tree) (proofs : List TreeCertificate) (c : TreeCertificate) (others : List TreeCertificate) (costs : List (Option Cost)) (x : TreeFault) (lines : ℕ) (found : CheckFault)
    → AreProved g before proofs costs → IsTreeFault g tree c x → found ≡ placed (lines + lines_of_trees before) tree x → IsFirst g (before ++ (tree ∷ behind)) (proofs ++ (c ∷ others)) lines found
first_behind g [] tree behind [] c others costs x lines found h k e = let q : lines + 0 ≡ lines = omega arith in inl (x, k, e ∙ ap (λ n. placed n tree x) q)
first_behind g [] tree behind (d ∷ proofs) c others costs x lines found h k e = absurd h
first_behind g (t ∷ before) tree behind [] c others costs x lines found h k e = absurd h
first_behind g (t ∷ before) tree behind (d ∷ proofs) c others [] x lines found h k e = absurd h
first_behind g (t ∷ before) tree behind (d ∷ proofs) c others (cost ∷ costs) x lines found h k e =
    let sum = sum_by-cons (λ (tree : Tree). length tree.nodes + 2) t before in
    let q : lines + lines_of_trees (t ∷ before) ≡ lines + (length t.nodes + 2) + lines_of_trees before = omega (arith, sum) in
    inr (cost, h.0, first_behind g before tree behind proofs c others costs x (lines + (length t.nodes + 2)) found h.1 k (e ∙ ap (λ n. placed n tree x) q))

first : (g : Grammar) (trees : List Tree) (cs : List TreeCertificate) (found : CheckFault) → IsFirstUnproved g trees cs found → IsFirst g trees cs 0 found
first g trees cs found f =
    subst (λ ts. IsFirst g ts cs 0 found) (sym f.trees_are)
    (subst (λ ds. IsFirst g (f.before ++ (f.tree ∷ f.behind)) ds 0 found) (sym f.certificates_are) (first_behind g f.before f.tree f.behind f.proofs f.certificate f.others f.costs f.tree_fault 0 found f.proved f.here (f.fault_is ∙ ap (λ n. placed n f.tree f.tree_fault) (let q : lines_of_trees f.before ≡ 0 + lines_of_trees f.before = omega arith in q))))

first_one : (g : Grammar) (trees : List Tree) (cs : List TreeCertificate) (lines : ℕ) (x y : CheckFault) → IsFirst g trees cs lines x → IsFirst g trees cs lines y → x ≡ y
first_one g [] cs lines x y h k = absurd h
first_one g (t ∷ trees) [] lines x y h k = absurd h
first_one g (t ∷ trees) (c ∷ cs) lines x y (inl (a, h, e)) (inl (b, k, f)) = e ∙ ap (placed lines t) (tree_fault_one g t c a b h k) ∙ sym f
first_one g (t ∷ trees) (c ∷ cs) lines x y (inl (a, h, e)) (inr (cost, k, more)) = absurd (proved_not_faulty g t c cost a k h)
first_one g (t ∷ trees) (c ∷ cs) lines x y (inr (cost, k, more)) (inl (a, h, e)) = absurd (proved_not_faulty g t c cost a k h)
first_one g (t ∷ trees) (c ∷ cs) lines x y (inr (cost, k, more)) (inr (cost', k', more')) = first_one g trees cs (lines + (length t.nodes + 2)) x y more more'

proved_no_first : (g : Grammar) (trees : List Tree) (cs : List TreeCertificate) (costs : List (Option Cost)) (lines : ℕ) (x : CheckFault) → AreProved g trees cs costs → IsFirst g trees cs lines x → ⊥
proved_no_first g [] cs costs lines x h k = k
proved_no_first g (t ∷ trees) [] costs lines x h k = k
proved_no_first g (t ∷ trees) (c ∷ cs) [] lines x h k = h
proved_no_first g (t ∷ trees) (c ∷ cs) (cost ∷ costs) lines x h (inl (a, k, e)) = proved_not_faulty g t c cost a h.0 k
proved_no_first g (t ∷ trees) (c ∷ cs) (cost ∷ costs) lines x h (inr (cost', k, more)) = proved_no_first g trees cs costs (lines + (length t.nodes + 2)) x h.1 more

module _ (g : Grammar) (forest : Forest) (bytes : List ℕ) (valid : IsValidForest g forest) where
  small : 1 + length forest.trees < 2 ^ 64
  small = let few = valid.few in omega (arith, few)

  short : AreShort (wanted_lines g 1 forest.trees)
  short = short_lines g 1 forest.trees small

  spelled_one : (cs ds : List TreeCertificate) → Spells g forest bytes cs → Spells g forest bytes ds → cs ≡ ds
  spelled_one cs ds h k = text_one g 1 forest.trees cs ds small h.each k.each (sym h.text ∙ k.text)

  spelled_right : (cs : List TreeCertificate) (n : ℕ) → Spells g forest bytes cs → IsFormFault (wanted_lines g 1 forest.trees) bytes n → ⊥
  spelled_right cs n h f = right_not_wrong (wanted_lines g 1 forest.trees) (all_lines 1 cs) bytes n short (all_for_lines g 1 forest.trees cs h.each) (h.text ∙ text_lines 1 cs) (wrong (wanted_lines g 1 forest.trees) bytes n f)

  fault_one : (x y : CheckFault) → IsCheckFault g forest bytes x → IsCheckFault g forest bytes y → x ≡ y
  fault_one x y (inl (kind, f)) (inl (kind', f')) =
      let p : x.kind ≡ y.kind = kind ∙ sym kind' in
      let q : x.line ≡ y.line = wrong_one (wanted_lines g 1 forest.trees) bytes x.line y.line short (wrong (wanted_lines g 1 forest.trees) bytes x.line f) (wrong (wanted_lines g 1 forest.trees) bytes y.line f') in
      λ i. record { kind = p i; line = q i }
  fault_one x y (inl (kind, f)) (inr k) = absurd (spelled_right k.certificates x.line k.spells f)
  fault_one x y (inr k) (inl (kind, f)) = absurd (spelled_right k.certificates y.line k.spells f)
  fault_one x y (inr h) (inr k) =
      let same = spelled_one k.certificates h.certificates k.spells h.spells in
      first_one g forest.trees h.certificates 0 x y (first g forest.trees h.certificates x h.unproved)
      (subst (λ cs. IsFirst g forest.trees cs 0 y) same (first g forest.trees k.certificates y k.unproved))

  no_fault : (costs : List (Option Cost)) (x : CheckFault) → ProvesCosts g forest bytes costs → IsCheckFault g forest bytes x → ⊥
  no_fault costs x h (inl (kind, f)) = spelled_right h.certificates x.line h.spells f
  no_fault costs x h (inr k) =
      let same = spelled_one k.certificates h.certificates k.spells h.spells in
      proved_no_first g forest.trees h.certificates costs 0 x h.proved (subst (λ cs. IsFirst g forest.trees cs 0 x) same (first g forest.trees k.certificates x k.unproved))

  costs_one : (costs others : List (Option Cost)) → ProvesCosts g forest bytes costs → ProvesCosts g forest bytes others → costs ≡ others
  costs_one costs others h k =
      let same = spelled_one k.certificates h.certificates k.spells h.spells in
      go forest.trees h.certificates costs others h.proved (subst (λ cs. AreProved g forest.trees cs others) same k.proved)
    where
      go : (trees : List Tree) (cs : List TreeCertificate) (xs ys : List (Option Cost)) → AreProved g trees cs xs → AreProved g trees cs ys → xs ≡ ys
      go [] [] [] [] h k = refl
      go [] [] [] (y ∷ ys) h k = absurd k
      go [] [] (x ∷ xs) ys h k = absurd h
      go [] (c ∷ cs) xs ys h k = absurd h
      go (t ∷ trees) [] xs ys h k = absurd h
      go (t ∷ trees) (c ∷ cs) [] ys h k = absurd h
      go (t ∷ trees) (c ∷ cs) (x ∷ xs) [] h k = absurd k
      go (t ∷ trees) (c ∷ cs) (x ∷ xs) (y ∷ ys) h k = let p : x ≡ y = (h.0).cost_is ∙ sym (k.0).cost_is in let q = go trees cs xs ys h.1 k.1 in λ i. p i ∷ q i

pub fault_is_one : CheckFaultIsOne
fault_is_one g forest bytes x y valid h k = fault_one g forest bytes valid x y h k

pub no_fault_is_proved : NoFaultIsProved
no_fault_is_proved g forest bytes costs x valid h k = no_fault g forest bytes valid costs x h k

pub proved_costs_are_one : ProvedCostsAreOne
proved_costs_are_one g forest bytes costs others valid h k = costs_one g forest bytes valid costs others h k

certified : (g : Grammar) (trees : List Tree) (cs : List TreeCertificate) → ((k : ℕ) (t : Tree) → slice_get trees k ≡ Some t → IsValidTree g t) → AreCertified g trees cs → AreFor g trees cs × ((costs : List (Option Cost)) × AreProved g trees cs costs)
certified g [] [] valid h = (tt, ([], tt))
certified g [] (c ∷ cs) valid h = absurd h
certified g (t ∷ trees) [] valid h = absurd h
certified g (t ∷ trees) (c ∷ cs) valid h =
    let v = valid zero t refl in
    let first : IsCertified g t c = h.0 in
    let (for, (costs, proved)) = certified g trees cs (λ k u at. valid (suc k) u at) h.1 in
    let proof : ProvesCost g t c (claim c.costs (start_goal g t)) = record {
      plain = v.plain;
      postorder = v.postorder;
      proves = best_is_proved g t v.plain c.costs c.rules v.postorder first.costs (first.rules v.plain v.postorder);
      cost_is = refl;
    } in
    ((record { places = first.places; printable = first.printable }, for), (claim c.costs (start_goal g t) ∷ costs, (proof, proved)))

pub certified_is_proved : CertifiedIsProved
certified_is_proved g forest cs valid h =
    let (each, (costs, proved)) = certified g forest.trees cs valid.trees h in
    (costs, record { certificates = cs; spells = record { each = each; text = refl }; proved = proved })
