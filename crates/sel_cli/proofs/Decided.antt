-- What told texts decide comes, or what is excused.
use Rattle.std.proofs.Common.{◌≡◌, ℕ, ◌<◌, ◌≤◌, Bool, true, false, List, [], ◌∷◌, All, length, Option, Some, None, is_some, IfSome, ◌&&◌, refl, sym, ap, ◌∙◌, subst, inl, inr, ◌⊎◌, arith}
use Rattle.std.specs.List.{list_all}
use Rattle.std.specs.Io.KnownBytes.{append_known}
use Rattle.std.proofs.lemmas.List.Elements.{All-head, All-tail}
use Rattle.sel_base.specs.Causes.{Rose}
use Rattle.sel_base.specs.Puts.{SinkTold}
use Rattle.sel_base.specs.Reads.{ShelfTold}
use Rattle.sel_grammar.specs.declared.grammar.Grammar.{Grammar}
use Rattle.sel_grammar.specs.declared.refusal.GrammarFault.{GrammarFault}
use Rattle.sel_grammar.specs.Costs.{Cost}
use Rattle.sel_grammar.specs.PlainTrees.{PlainTree}
use Rattle.sel_grammar.specs.Expansions.{expanded}
use Rattle.sel_grammar.proofs.One.{best_one}
use Rattle.sel_grammar_text.specs.GrammarText.{SpellsGrammar}
use Rattle.sel_grammar_text.proofs.OneAnswer.{one_grammar as grammar_one, one_grammar_fault as grammar_fault_one, not_both}
use Rattle.sel_normal.specs.NormalFaults.{IsAccepted, IsNormalFault}
use Rattle.sel_normal.proofs.OneFault.{normal_fault_is_one as normal_fault_one, not_accepted_and_fault}
use Rattle.sel_forest.specs.declared.forest.Tree.{Tree}
use Rattle.sel_forest.specs.declared.forest.Forest.{Forest}
use Rattle.sel_forest.specs.declared.refusal.ForestFault.{ForestFault}
use Rattle.sel_forest.specs.ForestText.{SpellsForest, IsForestFault}
use Rattle.sel_forest.specs.Postorder.{IsTree}
use Rattle.sel_forest.specs.Valid.{IsValidForest}
use Rattle.sel_forest.proofs.ForestLoop.{spelled_valid}
use Rattle.sel_forest.proofs.OneForest.{forest_one}
use Rattle.sel_forest.proofs.OneFault.{fault_one as forest_fault_one, not_forest_and_fault}
use Rattle.sel_forest.proofs.Roots.{plain_one}
use Rattle.sel_check.specs.declared.certificate.TreeCertificate.{TreeCertificate}
use Rattle.sel_check.specs.declared.refusal.CheckFault.{CheckFault}
use Rattle.sel_check.specs.Checks.{ProvesCosts, IsCheckFault, AreLeastCosts}
use Rattle.sel_check.specs.CheckLaws.{AreCertified}
use Rattle.sel_check.specs.Laws.{IsBestList, IsLeastCost}
use Rattle.sel_check.proofs.OneAnswer.{fault_is_one as check_fault_one, no_fault_is_proved}
use Rattle.sel_named.specs.NamedTexts.{Becomes}
use Rattle.sel_named.proofs.Outcomes.{named_is_one}
use Rattle.sel_words.specs.Words.{Job, PrintGrammar, Make, OverForest, Regs, Check, GrammarSource, Held, Shipped, Task, forest_name, certificate_name}
use Rattle.sel_words.specs.declared.words.Mode.TheVariants as mode
use Rattle.sel_work.specs.declared.answer.Answer.{Answer}
use Rattle.sel_work.specs.declared.answer.Goal.{Goal}
use Rattle.sel_work.specs.Answers.{IsTreeAnswer}
use Rattle.sel_work.proofs.OneAnswer.{answer_one}
use Rattle.sel_gen.proofs.OneForest.{made_one_forest}
use Rattle.sel_work.specs.declared.answer.Goal.TheVariants as goals
use Rattle.sel_crew.specs.declared.report.Report.{Report}
use Rattle.sel_answers.specs.declared.named.NamedAnswer.{NamedAnswer}
use Rattle.sel_answers.specs.declared.named.NamedAnswer.TheVariants as named
use Rattle.sel_answers.specs.Output.{TableMarks, AreAnswers, AreAnswered, IsNamedAnswer, AreNamedAnswers, AreNamed, AreCertifiedBehind, AreLeast, AreSummedUp, IsTreesAnswer, IsOutput, is_covered, is_text, has_text}
use Rattle.sel_answers.specs.Reported.{marks_of}
use Rattle.sel_cli.specs.Texts.{Request, IsTold, MayBe, IsGrammarText, HasGrammarText, HasForestText, HasCertificateText, AcceptsGrammar, AcceptsForest, Accepts, IsTooLong, IsRefusedGrammar, RefusesGrammar, RefusesForest, RefusesCertificate, IsWhole, grammar_limit, forest_limit, certificate_limit}
use Rattle.sel_cli.specs.Ends.{EndsFor, DoesTask, WritesSome, Decides, IsExcused, ComesAsDecided, IsAnswered, IsComplete, finished}
use Rattle.sel_cli.specs.declared.status.Status.{Status}
use Rattle.sel_cli.specs.declared.status.Status.TheVariants.{Done, Usage, ReadFault, TooBig, BadGrammar, BadForest, WriteFault, NoMemory, Uncovered, BadCertificate}

-- ---- what is found of the texts, one after the other

data CertificateSide : Type 0 where
  no_certificate : CertificateSide
  long_certificate : CertificateSide
  bad_certificate : CheckFault → CertificateSide
  good_certificate : CertificateSide

data ForestSide : Type 0 where
  long_forest : ForestSide
  bad_forest : ForestFault → ForestSide
  good_forest : Forest → CertificateSide → ForestSide

data Side : Type 0 where
  long_grammar : Side
  bad_grammar : GrammarFault → Side
  alone : Job → Grammar → Side
  beside : Job → Grammar → ForestSide → Side

-- what is found of a text of certificates
abbrev ChecksText : Grammar → Forest → List ℕ → CertificateSide → Type 0
ChecksText g forest text no_certificate = ⊥
ChecksText g forest text long_certificate = certificate_limit < length text
ChecksText g forest text (bad_certificate fault) = (length text ≤ certificate_limit) × IsCheckFault g forest text fault
ChecksText g forest text good_certificate = (length text ≤ certificate_limit) × ((costs : List (Option Cost)) × ProvesCosts g forest text costs)

-- the job has a text of certificates
record HasText (Is : Option (List ℕ) → List ℕ → Type 0) (request : Request) (job : Job) (g : Grammar) (forest : Forest) (side : CertificateSide) : Type 0 where
  name : List ℕ
  is_named : certificate_name job ≡ Some name
  text : List ℕ
  is_text : Is (request.held name) text
  checks : ChecksText g forest text side

abbrev FindsCertificate : (Option (List ℕ) → List ℕ → Type 0) → Request → Job → Grammar → Forest → CertificateSide → Type 0
FindsCertificate Is request job g forest no_certificate = certificate_name job ≡ None
FindsCertificate Is request job g forest long_certificate = HasText Is request job g forest long_certificate
FindsCertificate Is request job g forest (bad_certificate fault) = HasText Is request job g forest (bad_certificate fault)
FindsCertificate Is request job g forest good_certificate = HasText Is request job g forest good_certificate

abbrev FindsForest : (Option (List ℕ) → List ℕ → Type 0) → Request → Job → Grammar → List ℕ → ForestSide → Type 0
FindsForest Is request job g text long_forest = forest_limit < length text
FindsForest Is request job g text (bad_forest fault) = (length text ≤ forest_limit) × IsForestFault g text fault
FindsForest Is request job g text (good_forest forest side) = (length text ≤ forest_limit) × SpellsForest g text forest × FindsCertificate Is request job g forest side

-- the text spells the grammar, and it is accepted
record Spelled (text : List ℕ) (g : Grammar) : Type 0 where
  within : length text ≤ grammar_limit
  spelled : SpellsGrammar text g
  normal : IsAccepted g

abbrev FindsGrammar : (Option (List ℕ) → List ℕ → Type 0) → Request → Task → List ℕ → Side → Type 0
FindsGrammar Is request task text long_grammar = grammar_limit < length text
FindsGrammar Is request task text (bad_grammar fault) = (length text ≤ grammar_limit) × IsRefusedGrammar text fault
FindsGrammar Is request task text (alone job g) = Spelled text g × ((task.job ≡ job) × (forest_name job ≡ None))
FindsGrammar Is request task text (beside job g side) =
    Spelled text g × ((task.job ≡ job) × ((name : List ℕ) × (forest_name job ≡ Some name) × ((t : List ℕ) × Is (request.held name) t × FindsForest Is request job g t side)))

-- none where the words are no command
abbrev Finds : (Option (List ℕ) → List ℕ → Type 0) → Request → Option Side → Type 0
Finds Is request None = request.wanted ≡ None
Finds Is request (Some side) = (task : Task) × (text : List ℕ) × HasGrammarText Is request task text × FindsGrammar Is request task text side

-- ---- it is one

over : {A : Type 0} (limit n : ℕ) → limit < n → n ≤ limit → A
over limit n p q = absurd (omega arith)

some_same : {A : Type 0} (o : Option A) (a b : A) → o ≡ Some a → o ≡ Some b → a ≡ b
some_same o a b p q = cc

some_none : {A B : Type 0} (o : Option A) (a : A) → o ≡ None → o ≡ Some a → B
some_none o a p q = cc

same_text : (told : Option (List ℕ)) (text other : List ℕ) → MayBe told text → IsTold told other → text ≡ other
same_text told text other m e = let P : Option (List ℕ) → Type 0 = λ o. IfSome o (λ b. text ≡ b) in subst P e m

same_grammar_text : (source : GrammarSource) (told : Option (List ℕ)) (text other : List ℕ) → IsGrammarText MayBe source told text → IsGrammarText IsTold source told other → text ≡ other
same_grammar_text Held told text other m e = same_text told text other m e
same_grammar_text (Shipped shipped) told text other m e = m ∙ sym e

-- what is found of a text of certificates is one
same_text_side : (g : Grammar) (forest : Forest) (text : List ℕ) (a b : CertificateSide) → IsValidForest g forest → ChecksText g forest text a → ChecksText g forest text b → a ≡ b
same_text_side g forest text no_certificate b v p q = absurd p
same_text_side g forest text long_certificate no_certificate v p q = absurd q
same_text_side g forest text long_certificate long_certificate v p q = refl
same_text_side g forest text long_certificate (bad_certificate fault) v p q = over _ _ p q.0
same_text_side g forest text long_certificate good_certificate v p q = over _ _ p q.0
same_text_side g forest text (bad_certificate fault) no_certificate v p q = absurd q
same_text_side g forest text (bad_certificate fault) long_certificate v p q = over _ _ q p.0
same_text_side g forest text (bad_certificate fault) (bad_certificate other) v p q = ap (λ f. bad_certificate f) (check_fault_one g forest text fault other v p.1 q.1)
same_text_side g forest text (bad_certificate fault) good_certificate v p q = absurd (no_fault_is_proved g forest text (q.1).0 fault v (q.1).1 p.1)
same_text_side g forest text good_certificate no_certificate v p q = absurd q
same_text_side g forest text good_certificate long_certificate v p q = over _ _ q p.0
same_text_side g forest text good_certificate (bad_certificate fault) v p q = absurd (no_fault_is_proved g forest text (p.1).0 fault v (p.1).1 q.1)
same_text_side g forest text good_certificate good_certificate v p q = refl

same_texts : (request : Request) (job : Job) (g : Grammar) (forest : Forest) (a b : CertificateSide) → IsValidForest g forest → HasText MayBe request job g forest a → HasText IsTold request job g forest b → a ≡ b
same_texts request job g forest a b v p q =
    let named : p.name ≡ q.name = some_same (certificate_name job) p.name q.name p.is_named q.is_named in
    let may : MayBe (request.held q.name) p.text = subst (λ x. MayBe (request.held x) p.text) named p.is_text in
    let t : p.text ≡ q.text = same_text (request.held q.name) p.text q.text may q.is_text in
    same_text_side g forest q.text a b v (subst (λ x. ChecksText g forest x a) t p.checks) q.checks

same_certificate_side : (request : Request) (job : Job) (g : Grammar) (forest : Forest) (a b : CertificateSide) → IsValidForest g forest
    → FindsCertificate MayBe request job g forest a → FindsCertificate IsTold request job g forest b → a ≡ b
same_certificate_side request job g forest no_certificate no_certificate v p q = refl
same_certificate_side request job g forest no_certificate long_certificate v p q = some_none (certificate_name job) q.name p q.is_named
same_certificate_side request job g forest no_certificate (bad_certificate fault) v p q = some_none (certificate_name job) q.name p q.is_named
same_certificate_side request job g forest no_certificate good_certificate v p q = some_none (certificate_name job) q.name p q.is_named
same_certificate_side request job g forest long_certificate no_certificate v p q = some_none (certificate_name job) p.name q p.is_named
same_certificate_side request job g forest long_certificate long_certificate v p q = refl
same_certificate_side request job g forest long_certificate (bad_certificate fault) v p q = same_texts request job g forest long_certificate (bad_certificate fault) v p q
same_certificate_side request job g forest long_certificate good_certificate v p q = same_texts request job g forest long_certificate good_certificate v p q
same_certificate_side request job g forest (bad_certificate fault) no_certificate v p q = some_none (certificate_name job) p.name q p.is_named
same_certificate_side request job g forest (bad_certificate fault) long_certificate v p q = same_texts request job g forest (bad_certificate fault) long_certificate v p q
same_certificate_side request job g forest (bad_certificate fault) (bad_certificate other) v p q = same_texts request job g forest (bad_certificate fault) (bad_certificate other) v p q
same_certificate_side request job g forest (bad_certificate fault) good_certificate v p q = same_texts request job g forest (bad_certificate fault) good_certificate v p q
same_certificate_side request job g forest good_certificate no_certificate v p q = some_none (certificate_name job) p.name q p.is_named
same_certificate_side request job g forest good_certificate long_certificate v p q = same_texts request job g forest good_certificate long_certificate v p q
same_certificate_side request job g forest good_certificate (bad_certificate fault) v p q = same_texts request job g forest good_certificate (bad_certificate fault) v p q
same_certificate_side request job g forest good_certificate good_certificate v p q = refl

same_forest_side : (request : Request) (job : Job) (g : Grammar) (text : List ℕ) (a b : ForestSide) → FindsForest MayBe request job g text a → FindsForest IsTold request job g text b → a ≡ b
same_forest_side request job g text long_forest long_forest p q = refl
same_forest_side request job g text long_forest (bad_forest fault) p q = over _ _ p q.0
same_forest_side request job g text long_forest (good_forest forest side) p q = over _ _ p q.0
same_forest_side request job g text (bad_forest fault) long_forest p q = over _ _ q p.0
same_forest_side request job g text (bad_forest fault) (bad_forest other) p q = ap (λ f. bad_forest f) (forest_fault_one g text fault other p.1 q.1)
same_forest_side request job g text (bad_forest fault) (good_forest forest side) (within, refused) (within', spelled, found) = absurd (not_forest_and_fault g text forest fault spelled refused)
same_forest_side request job g text (good_forest forest side) long_forest p q = over _ _ q p.0
same_forest_side request job g text (good_forest forest side) (bad_forest fault) (within, spelled, found) (within', refused) = absurd (not_forest_and_fault g text forest fault spelled refused)
same_forest_side request job g text (good_forest forest side) (good_forest other another) (within, spelled, found) (within', spelled', found') =
    let e : forest ≡ other = forest_one g text forest other spelled spelled' in
    let v : IsValidForest g other = spelled_valid g text other spelled' in
    ap (λ f. good_forest f side) e
    ∙ ap (λ x. good_forest other x) (same_certificate_side request job g other side another v (subst (λ f. FindsCertificate MayBe request job g f side) e found) found')

-- a text is refused for one fault
refused_one : (text : List ℕ) (e f : GrammarFault) → IsRefusedGrammar text e → IsRefusedGrammar text f → e ≡ f
refused_one text e f (inl p) (inl q) = grammar_fault_one text e f p q
refused_one text e f (inl p) (inr (g, spelled, fault)) = absurd (not_both text g e spelled p)
refused_one text e f (inr (g, spelled, fault)) (inl q) = absurd (not_both text g f spelled q)
refused_one text e f (inr (g, spelled, fault)) (inr (h, spelled', fault')) =
    normal_fault_one g e f fault (subst (λ x. IsNormalFault x f) (grammar_one text h g spelled' spelled) fault')

-- an accepted text is refused for none
not_refused : {A : Type 0} (text : List ℕ) (g : Grammar) (f : GrammarFault) → Spelled text g → IsRefusedGrammar text f → A
not_refused text g f s (inl p) = absurd (not_both text g f s.spelled p)
not_refused text g f s (inr (h, spelled, fault)) =
    absurd (not_accepted_and_fault g f s.normal (subst (λ x. IsNormalFault x f) (grammar_one text h g spelled s.spelled) fault))

same_side : (request : Request) (task : Task) (text : List ℕ) (a b : Side) → FindsGrammar MayBe request task text a → FindsGrammar IsTold request task text b → a ≡ b
same_side request task text long_grammar long_grammar p q = refl
same_side request task text long_grammar (bad_grammar fault) p q = over _ _ p q.0
same_side request task text long_grammar (alone job g) p q = over _ _ p (q.0).within
same_side request task text long_grammar (beside job g side) p q = over _ _ p (q.0).within
same_side request task text (bad_grammar fault) long_grammar p q = over _ _ q p.0
same_side request task text (bad_grammar fault) (bad_grammar other) p q = ap (λ f. bad_grammar f) (refused_one text fault other p.1 q.1)
same_side request task text (bad_grammar fault) (alone job g) p q = not_refused text g fault q.0 p.1
same_side request task text (bad_grammar fault) (beside job g side) p q = not_refused text g fault q.0 p.1
same_side request task text (alone job g) long_grammar p q = over _ _ q (p.0).within
same_side request task text (alone job g) (bad_grammar fault) p q = not_refused text g fault p.0 q.1
same_side request task text (alone job g) (alone job' h) (s, (j, n)) (s', (j', n')) =
    ap (λ x. alone x g) (sym j ∙ j') ∙ ap (λ x. alone job' x) (grammar_one text g h s.spelled s'.spelled)
same_side request task text (alone job g) (beside job' h side) (s, (j, n)) (s', (j', (name, n', more))) =
    some_none (forest_name job') name (ap forest_name (sym j' ∙ j) ∙ n) n'
same_side request task text (beside job g side) long_grammar p q = over _ _ q (p.0).within
same_side request task text (beside job g side) (bad_grammar fault) p q = not_refused text g fault p.0 q.1
same_side request task text (beside job g side) (alone job' h) (s, (j, (name, n, more))) (s', (j', n')) =
    some_none (forest_name job) name (ap forest_name (sym j ∙ j') ∙ n') n
same_side request task text (beside job g side) (beside job' h other) (s, (j, (name, n, (t, may, found)))) (s', (j', (name', n', (u, is, found')))) =
    let same : job ≡ job' = sym j ∙ j' in
    let e : g ≡ h = grammar_one text g h s.spelled s'.spelled in
    let named : name ≡ name' = some_same (forest_name job') name name' (ap forest_name (sym same) ∙ n) n' in
    let may' : MayBe (request.held name') t = subst (λ x. MayBe (request.held x) t) named may in
    let f : t ≡ u = same_text (request.held name') t u may' is in
    let moved : FindsForest MayBe request job' h u side =
    subst (λ j. FindsForest MayBe request j h u side) same (subst (λ x. FindsForest MayBe request job x u side) e (subst (λ x. FindsForest MayBe request job g x side) f found)) in
    ap (λ x. beside x g side) same ∙ ap (λ x. beside job' x side) e ∙ ap (λ x. beside job' h x) (same_forest_side request job' h u side other moved found')

same_found : (request : Request) (a b : Option Side) → Finds MayBe request a → Finds IsTold request b → a ≡ b
same_found request None None p q = refl
same_found request None (Some side) p q = some_none request.wanted q.0 p (q.2).asked_for
same_found request (Some side) None p q = some_none request.wanted p.0 q (p.2).asked_for
same_found request (Some side) (Some other) (task, text, has, found) (task', text', has', found') =
    let n : task ≡ task' = some_same request.wanted task task' has.asked_for has'.asked_for in
    let may : IsGrammarText MayBe task'.source (request.held task'.grammar) text = subst (λ (x : Task). IsGrammarText MayBe x.source (request.held x.grammar) text) n has.is_text in
    let t : text ≡ text' = same_grammar_text task'.source (request.held task'.grammar) text text' may has'.is_text in
    let here : FindsGrammar MayBe request task' text side = subst (λ (x : Task). FindsGrammar MayBe request x text side) n found in
    ap (λ x. Some x) (same_side request task' text' side other (subst (λ x. FindsGrammar MayBe request task' x side) t here) found')

-- ---- the status that it shows

-- the marks of a table and an output's bytes
abbrev Written : Type 0
Written = TableMarks × List ℕ

-- a task was done with this output
abbrev ShowsOutput : Job → Grammar → Option Forest → Written → Status → Type 0
ShowsOutput job g forest bytes status = (covered : Bool) × IsOutput job g forest bytes.0 covered bytes.1 × (status ≡ finished covered)

abbrev Shows : Option Side → Written → Status → Type 0
Shows None bytes status = status ≡ Usage
Shows (Some long_grammar) bytes status = status ≡ TooBig
Shows (Some (bad_grammar fault)) bytes status = status ≡ BadGrammar fault
Shows (Some (alone job g)) bytes status = ShowsOutput job g None bytes status
Shows (Some (beside job g long_forest)) bytes status = status ≡ TooBig
Shows (Some (beside job g (bad_forest fault))) bytes status = status ≡ BadForest fault
Shows (Some (beside job g (good_forest forest no_certificate))) bytes status = ShowsOutput job g (Some forest) bytes status
Shows (Some (beside job g (good_forest forest long_certificate))) bytes status = status ≡ TooBig
Shows (Some (beside job g (good_forest forest (bad_certificate fault)))) bytes status = status ≡ BadCertificate fault
Shows (Some (beside job g (good_forest forest good_certificate))) bytes status = ShowsOutput job g (Some forest) bytes status

-- a tree has one answer
same_answer : (g : Grammar) (goal : Goal) (tree : Tree) (a b : Answer) → IsTreesAnswer g goal tree a → IsTreesAnswer g goal tree b → is_covered a ≡ is_covered b
same_answer g goal tree a b (t, is, answer) (u, is', other) =
    ap (λ x. is_covered x) (answer_one g goal t a b answer (subst (λ x. IsTreeAnswer g goal x b) (plain_one tree u t is' is) other))

same_covered : (g : Grammar) (goal : Goal) (trees : List Tree) (a b : List Answer) → AreAnswers g goal trees a → AreAnswers g goal trees b → list_all is_covered a ≡ list_all is_covered b
same_covered g goal [] [] [] p q = refl
same_covered g goal [] [] (y ∷ ys) p q = absurd q
same_covered g goal [] (x ∷ xs) b p q = absurd p
same_covered g goal (t ∷ trees) [] b p q = absurd p
same_covered g goal (t ∷ trees) (x ∷ xs) [] p q = absurd q
same_covered g goal (t ∷ trees) (x ∷ xs) (y ∷ ys) p q =
    ap (λ c. c && list_all is_covered xs) (same_answer g goal t x y p.0 q.0) ∙ ap (λ c. is_covered y && c) (same_covered g goal trees xs ys p.1 q.1)

same_answered : (g : Grammar) (goal : Goal) (trees : List Tree) (a b : Bool) (bytes other : List ℕ)
    → AreAnswered g goal 0 trees a bytes → AreAnswered g goal 0 trees b other → a ≡ b
same_answered g goal trees a b bytes other p q = sym p.all_covered ∙ same_covered g goal trees p.answers q.answers p.answer_trees q.answer_trees ∙ q.all_covered

same_summed : (g : Grammar) (m n : TableMarks) (trees : List Tree) (a b : Bool) (bytes other : List ℕ)
    → AreSummedUp g m trees a bytes → AreSummedUp g n trees b other → a ≡ b
same_summed g m n trees a b bytes other p q = sym p.all_covered ∙ same_covered g goals.Cover trees p.answers q.answers p.answer_trees q.answer_trees ∙ q.all_covered

-- so with the names of registers
same_named_answer : (g : Grammar) (names : List (List ℕ)) (t : PlainTree) (a b : NamedAnswer) → IsNamedAnswer g names t a → IsNamedAnswer g names t b → has_text a ≡ has_text b
same_named_answer g names t named.NoCover named.NoCover p q = refl
same_named_answer g names t named.NoCover (named.Named c text) p q = absurd (p q.best (q.is_best).derives)
same_named_answer g names t (named.Named c text) named.NoCover p q = absurd (q p.best (p.is_best).derives)
same_named_answer g names t (named.Named c text) (named.Named d other) p q =
    let e : q.best ≡ p.best = best_one g g.start t q.best p.best q.is_best p.is_best in
    ap is_text (named_is_one (expanded g p.best t) names text other p.named (subst (λ d. Becomes (expanded g d t) names other) e q.named))

same_all_named : (g : Grammar) (names : List (List ℕ)) (trees : List Tree) (a b : List NamedAnswer) → AreNamedAnswers g names trees a → AreNamedAnswers g names trees b → list_all has_text a ≡ list_all has_text b
same_all_named g names [] [] [] p q = refl
same_all_named g names [] [] (y ∷ ys) p q = absurd q
same_all_named g names [] (x ∷ xs) b p q = absurd p
same_all_named g names (t ∷ trees) [] b p q = absurd p
same_all_named g names (t ∷ trees) (x ∷ xs) [] p q = absurd q
same_all_named g names (t ∷ trees) (x ∷ xs) (y ∷ ys) ((u, is, one), p) ((w, is', other), q) =
    ap (λ c. c && list_all has_text xs) (same_named_answer g names u x y one (subst (λ z. IsNamedAnswer g names z y) (plain_one t w u is' is) other))
    ∙ ap (λ c. has_text y && c) (same_all_named g names trees xs ys p q)

same_named : (g : Grammar) (names : List (List ℕ)) (trees : List Tree) (a b : Bool) (bytes other : List ℕ) → AreNamed g names 0 trees a bytes → AreNamed g names 0 trees b other → a ≡ b
same_named g names trees a b bytes other p q = sym p.all_covered ∙ same_all_named g names trees p.answers q.answers p.answer_trees q.answer_trees ∙ q.all_covered

-- so with certificates
same_list : (g : Grammar) (t : PlainTree) (a b : Option (List ℕ)) → IsBestList g t a → IsBestList g t b → is_some a ≡ is_some b
same_list g t None None p q = refl
same_list g t None (Some rules) p (d, best, is) = absurd (p d best.derives)
same_list g t (Some rules) None (d, best, is) q = absurd (q d best.derives)
same_list g t (Some rules) (Some others) p q = refl

abbrev has_cover : TreeCertificate → Bool
has_cover c = is_some c.rules

same_all_certified : (g : Grammar) (trees : List Tree) (a b : List TreeCertificate) → All IsTree trees → AreCertified g trees a → AreCertified g trees b → list_all has_cover a ≡ list_all has_cover b
same_all_certified g [] [] [] all p q = refl
same_all_certified g [] [] (y ∷ ys) all p q = absurd q
same_all_certified g [] (x ∷ xs) b all p q = absurd p
same_all_certified g (t ∷ trees) [] b all p q = absurd p
same_all_certified g (t ∷ trees) (x ∷ xs) [] all p q = absurd q
same_all_certified g (t ∷ trees) (x ∷ xs) (y ∷ ys) all p q =
    let (u, is, few) = All-head IsTree t trees all in
    ap (λ c. c && list_all has_cover xs) (same_list g u x.rules y.rules ((p.0).rules u is) ((q.0).rules u is))
    ∙ ap (λ c. has_cover y && c) (same_all_certified g trees xs ys (All-tail IsTree t trees all) p.1 q.1)

same_certified : (g : Grammar) (trees : List Tree) (a b : Bool) (bytes other : List ℕ) → AreCertifiedBehind g 0 trees a bytes → AreCertifiedBehind g 0 trees b other → a ≡ b
same_certified g trees a b bytes other p q =
    let x = p.certified in
    let y = q.certified in
    x.covered_is ∙ same_all_certified g trees x.certificates y.certificates p.are_trees x.certified y.certified ∙ sym y.covered_is

-- so with least costs
same_least_cost : (g : Grammar) (n : ℕ) (t : PlainTree) (a b : Option Cost) → IsLeastCost g n t a → IsLeastCost g n t b → is_some a ≡ is_some b
same_least_cost g n t None None p q = refl
same_least_cost g n t None (Some c) p q = absurd (p q.derivation q.derives)
same_least_cost g n t (Some c) None p q = absurd (q p.derivation p.derives)
same_least_cost g n t (Some c) (Some d) p q = refl

abbrev has_cost : Option Cost → Bool
has_cost cost = is_some cost

same_all_least : (g : Grammar) (trees : List Tree) (a b : List (Option Cost)) → All IsTree trees → AreLeastCosts g trees a → AreLeastCosts g trees b → list_all has_cost a ≡ list_all has_cost b
same_all_least g [] [] [] all p q = refl
same_all_least g [] [] (y ∷ ys) all p q = absurd q
same_all_least g [] (x ∷ xs) b all p q = absurd p
same_all_least g (t ∷ trees) [] b all p q = absurd p
same_all_least g (t ∷ trees) (x ∷ xs) [] all p q = absurd q
same_all_least g (t ∷ trees) (x ∷ xs) (y ∷ ys) all p q =
    let (u, is, few) = All-head IsTree t trees all in
    ap (λ c. c && list_all has_cost xs) (same_least_cost g g.start u x y (p.0 u is) (q.0 u is))
    ∙ ap (λ c. has_cost y && c) (same_all_least g trees xs ys (All-tail IsTree t trees all) p.1 q.1)

same_least : (g : Grammar) (trees : List Tree) (a b : Bool) (bytes other : List ℕ) → AreLeast g trees a bytes → AreLeast g trees b other → a ≡ b
same_least g trees a b bytes other p q = sym p.all_covered ∙ same_all_least g trees p.costs q.costs p.are_trees p.least q.least ∙ q.all_covered

-- a job's output tells whether every tree is covered
same_end : (job : Job) (g : Grammar) (forest : Option Forest) (m n : TableMarks) (a b : Bool) (bytes other : List ℕ) → IsOutput job g forest m a bytes → IsOutput job g forest n b other → a ≡ b
same_end PrintGrammar g None m n a b bytes other p q = p.1 ∙ sym q.1
same_end PrintGrammar g (Some forest) m n a b bytes other p q = absurd p
same_end (Make seed trees size) g None m n a b bytes other (forest, made, p) (again, made', q) =
    let same : again ≡ forest = made_one_forest g seed trees size again forest made' made in
    same_summed g m n forest.trees a b bytes other p (subst (λ (f : Forest). AreSummedUp g n f.trees b other) same q)
same_end (Make seed trees size) g (Some forest) m n a b bytes other p q = absurd p
same_end (OverForest mode.Cover name) g None m n a b bytes other p q = absurd p
same_end (OverForest mode.Cover name) g (Some forest) m n a b bytes other p q = same_answered g goals.Cover forest.trees a b bytes other p q
same_end (OverForest mode.Select name) g None m n a b bytes other p q = absurd p
same_end (OverForest mode.Select name) g (Some forest) m n a b bytes other p q = same_answered g goals.Text forest.trees a b bytes other p q
same_end (OverForest mode.Summary name) g None m n a b bytes other p q = absurd p
same_end (OverForest mode.Summary name) g (Some forest) m n a b bytes other p q = same_summed g m n forest.trees a b bytes other p q
same_end (OverForest mode.Print name) g None m n a b bytes other p q = absurd p
same_end (OverForest mode.Print name) g (Some forest) m n a b bytes other p q = p.1 ∙ sym q.1
same_end (OverForest mode.Certify name) g None m n a b bytes other p q = absurd p
same_end (OverForest mode.Certify name) g (Some forest) m n a b bytes other p q = same_certified g forest.trees a b bytes other p q
same_end (Regs names name) g None m n a b bytes other p q = absurd p
same_end (Regs names name) g (Some forest) m n a b bytes other p q = same_named g names forest.trees a b bytes other p q
same_end (Check name certificate) g None m n a b bytes other p q = absurd p
same_end (Check name certificate) g (Some forest) m n a b bytes other p q = same_least g forest.trees a b bytes other p q

same_output : (job : Job) (g : Grammar) (forest : Option Forest) (bytes other : Written) (status another : Status) → ShowsOutput job g forest bytes status → ShowsOutput job g forest other another → status ≡ another
same_output job g forest bytes other status another (covered, output, is) (covered', output', is') =
    is ∙ ap finished (same_end job g forest bytes.0 other.0 covered covered' bytes.1 other.1 output output') ∙ sym is'

same_shown : (side : Option Side) (bytes other : Written) (status another : Status) → Shows side bytes status → Shows side other another → status ≡ another
same_shown None bytes other status another p q = p ∙ sym q
same_shown (Some long_grammar) bytes other status another p q = p ∙ sym q
same_shown (Some (bad_grammar fault)) bytes other status another p q = p ∙ sym q
same_shown (Some (alone job g)) bytes other status another p q = same_output job g None bytes other status another p q
same_shown (Some (beside job g long_forest)) bytes other status another p q = p ∙ sym q
same_shown (Some (beside job g (bad_forest fault))) bytes other status another p q = p ∙ sym q
same_shown (Some (beside job g (good_forest forest no_certificate))) bytes other status another p q = same_output job g (Some forest) bytes other status another p q
same_shown (Some (beside job g (good_forest forest long_certificate))) bytes other status another p q = p ∙ sym q
same_shown (Some (beside job g (good_forest forest (bad_certificate fault)))) bytes other status another p q = p ∙ sym q
same_shown (Some (beside job g (good_forest forest good_certificate))) bytes other status another p q = same_output job g (Some forest) bytes other status another p q

-- ---- from what is told

abbrev Found : (Option (List ℕ) → List ℕ → Type 0) → Request → Written → Status → Type 0
Found Is request bytes status = (side : Option Side) × Finds Is request side × Shows side bytes status

spelled_by : (Is : Option (List ℕ) → List ℕ → Type 0) (request : Request) (task : Task) (g : Grammar) (a : AcceptsGrammar Is request task g) → Spelled a.text g
spelled_by Is request task g a = record { within = a.within; spelled = a.spelled; normal = a.normal }

-- what is found of the forest's text, behind an accepted grammar
forest_found : (Is : Option (List ℕ) → List ℕ → Type 0) (request : Request) (task : Task) (g : Grammar) (name text : List ℕ) (side : ForestSide)
    → HasForestText Is request task g name text → FindsForest Is request task.job g text side → Finds Is request (Some (beside task.job g side))
forest_found Is request task g name text side has found =
    let a = has.accepts_grammar in
    (task, a.text, a.has, (spelled_by Is request task g a, (refl, (name, has.is_named, (text, has.is_text, found)))))

-- what is found behind an accepted forest
forest_accepted : (Is : Option (List ℕ) → List ℕ → Type 0) (request : Request) (task : Task) (g : Grammar) (forest : Forest) (side : CertificateSide) → AcceptsForest Is request task g forest
    → FindsCertificate Is request task.job g forest side → Finds Is request (Some (beside task.job g (good_forest forest side)))
forest_accepted Is request task g forest side a found = forest_found Is request task g a.name a.text (good_forest forest side) a.has (a.within, a.spelled, found)

certificate_found : (Is : Option (List ℕ) → List ℕ → Type 0) (request : Request) (task : Task) (g : Grammar) (forest : Forest) (name text : List ℕ) (side : CertificateSide)
    → HasCertificateText Is request task g forest name text → ChecksText g forest text side → FindsCertificate Is request task.job g forest side
certificate_found Is request task g forest name text no_certificate has checks = absurd checks
certificate_found Is request task g forest name text long_certificate has checks = record { name = name; is_named = has.is_named; text = text; is_text = has.is_text; checks = checks }
certificate_found Is request task g forest name text (bad_certificate fault) has checks = record { name = name; is_named = has.is_named; text = text; is_text = has.is_text; checks = checks }
certificate_found Is request task g forest name text good_certificate has checks = record { name = name; is_named = has.is_named; text = text; is_text = has.is_text; checks = checks }

long_found : (Is : Option (List ℕ) → List ℕ → Type 0) (request : Request) (name : List ℕ) (limit : ℕ) (bytes : Written) → IsTooLong Is request name limit → Found Is request bytes TooBig
long_found Is request name limit bytes (inl (task, text, has, named, l, long)) = (Some long_grammar, (task, text, has, subst (λ k. k < length text) l long), refl)
long_found Is request name limit bytes (inr (inl (task, g, text, has, l, long))) =
    (Some (beside task.job g long_forest), forest_found Is request task g name text long_forest has (subst (λ k. k < length text) l long), refl)
long_found Is request name limit bytes (inr (inr (task, g, forest, text, has, l, long))) =
    let found = certificate_found Is request task g forest name text long_certificate has (subst (λ k. k < length text) l long) in
    (Some (beside task.job g (good_forest forest long_certificate)), forest_accepted Is request task g forest long_certificate has.accepts_forest found, refl)

bad_grammar_found : (Is : Option (List ℕ) → List ℕ → Type 0) (request : Request) (name : List ℕ) (fault : GrammarFault) (bytes : Written) → RefusesGrammar Is request name fault → Found Is request bytes (BadGrammar fault)
bad_grammar_found Is request name fault bytes r = (Some (bad_grammar fault), (r.task, r.text, r.has, (r.within, r.refused)), refl)

bad_forest_found : (Is : Option (List ℕ) → List ℕ → Type 0) (request : Request) (name : List ℕ) (fault : ForestFault) (bytes : Written) → RefusesForest Is request name fault → Found Is request bytes (BadForest fault)
bad_forest_found Is request name fault bytes r =
    (Some (beside (r.task).job r.grammar (bad_forest fault)), forest_found Is request r.task r.grammar name r.text (bad_forest fault) r.has (r.within, r.refused), refl)

bad_certificate_found : (Is : Option (List ℕ) → List ℕ → Type 0) (request : Request) (name : List ℕ) (fault : CheckFault) (bytes : Written) → RefusesCertificate Is request name fault → Found Is request bytes (BadCertificate fault)
bad_certificate_found Is request name fault bytes r =
    let found = certificate_found Is request r.task r.grammar r.forest name r.text (bad_certificate fault) r.has (r.within, r.refused) in
    (Some (beside (r.task).job r.grammar (good_forest r.forest (bad_certificate fault))), forest_accepted Is request r.task r.grammar r.forest (bad_certificate fault) (r.has).accepts_forest found, refl)

-- a task whose texts are accepted shows its output, whatever is found of its texts
record IsDone (Is : Option (List ℕ) → List ℕ → Type 0) (request : Request) (task : Task) (g : Grammar) (forest : Option Forest) : Type 0 where
  side : Side
  finds : Finds Is request (Some side)
  shown : (bytes : Written) (status : Status) → ShowsOutput task.job g forest bytes status → Shows (Some side) bytes status
  output : (bytes : Written) (status : Status) → Shows (Some side) bytes status → ShowsOutput task.job g forest bytes status

accepted_found : (Is : Option (List ℕ) → List ℕ → Type 0) (request : Request) (task : Task) (g : Grammar) (forest : Option Forest) → Accepts Is request task g forest → IsDone Is request task g forest
accepted_found Is request task g None (a, n) = record {
  side = alone task.job g;
  finds = (task, a.text, a.has, (spelled_by Is request task g a, (refl, n)));
  shown = λ bytes status s. s;
  output = λ bytes status s. s;
}
accepted_found Is request task g (Some forest) (inl (a, n)) = record {
  side = beside task.job g (good_forest forest no_certificate);
  finds = forest_accepted Is request task g forest no_certificate a n;
  shown = λ bytes status s. s;
  output = λ bytes status s. s;
}
accepted_found Is request task g (Some forest) (inr a) = record {
  side = beside task.job g (good_forest forest good_certificate);
  finds = forest_accepted Is request task g forest good_certificate (a.has).accepts_forest (certificate_found Is request task g forest a.name a.text good_certificate a.has (a.within, (a.costs, a.proved)));
  shown = λ bytes status s. s;
  output = λ bytes status s. s;
}

whole_found : (Is : Option (List ℕ) → List ℕ → Type 0) (request : Request) (covered : Bool) (bytes : Written) → IsWhole Is request bytes.0 covered bytes.1 → Found Is request bytes (finished covered)
whole_found Is request covered bytes (task, g, forest, accepts, output) =
    let done = accepted_found Is request task g forest accepts in
    (Some done.side, done.finds, done.shown bytes (finished covered) (covered, output, refl))

no_output : Written
no_output = (record { used_up = false; row_full = false }, [])

decides_found : (request : Request) (status : Status) → Decides request status → (bytes : Written) × Found IsTold request bytes status
decides_found request Usage d = (no_output, (None, d, refl))
decides_found request TooBig (name, limit, long) = (no_output, long_found IsTold request name limit no_output long)
decides_found request (BadGrammar fault) (name, r) = (no_output, bad_grammar_found IsTold request name fault no_output r)
decides_found request (BadForest fault) (name, r) = (no_output, bad_forest_found IsTold request name fault no_output r)
decides_found request (BadCertificate fault) (name, r) = (no_output, bad_certificate_found IsTold request name fault no_output r)
decides_found request Done (marks, bytes, w) = ((marks, bytes), whole_found IsTold request true (marks, bytes) w)
decides_found request Uncovered (marks, bytes, w) = ((marks, bytes), whole_found IsTold request false (marks, bytes) w)
decides_found request ReadFault d = absurd d
decides_found request WriteFault d = absurd d
decides_found request NoMemory d = absurd d

-- what was written by a task that was done
done_found : (request : Request) (report : Report) (out out_now : SinkTold) (bytes : List ℕ) (covered : Bool) (d : DoesTask request report out out_now bytes (finished covered))
    → IsOutput (d.task).job d.grammar d.forest (marks_of report) covered bytes → Found MayBe request (marks_of report, bytes) (finished covered)
done_found request report out out_now bytes covered d output = whole_found MayBe request covered (marks_of report, bytes) (d.task, d.grammar, d.forest, d.accepts, output)

ends_found : (request : Request) (report : Report) (shelf shelf_now : ShelfTold) (out out_now : SinkTold) (name bytes : List ℕ) (status : Status)
    → EndsFor request report shelf shelf_now out out_now name bytes status → IsExcused status ⊎ Found MayBe request (marks_of report, bytes) status
ends_found request report shelf shelf_now out out_now name bytes Usage (inl e) = inr (None, e.2, refl)
ends_found request report shelf shelf_now out out_now name bytes TooBig (inl e) = inr (long_found MayBe request name (e.2).limit (marks_of report, bytes) (e.2).too_long)
ends_found request report shelf shelf_now out out_now name bytes (BadGrammar fault) (inl e) = inr (bad_grammar_found MayBe request name fault (marks_of report, bytes) e.2)
ends_found request report shelf shelf_now out out_now name bytes (BadForest fault) (inl e) = inr (bad_forest_found MayBe request name fault (marks_of report, bytes) e.2)
ends_found request report shelf shelf_now out out_now name bytes (BadCertificate fault) (inl e) = inr (bad_certificate_found MayBe request name fault (marks_of report, bytes) e.2)
ends_found request report shelf shelf_now out out_now name bytes Done (inl e) = absurd e.2
ends_found request report shelf shelf_now out out_now name bytes Uncovered (inl e) = absurd e.2
ends_found request report shelf shelf_now out out_now name bytes Usage (inr d) = absurd d.writes
ends_found request report shelf shelf_now out out_now name bytes TooBig (inr d) = absurd d.writes
ends_found request report shelf shelf_now out out_now name bytes (BadGrammar fault) (inr d) = absurd d.writes
ends_found request report shelf shelf_now out out_now name bytes (BadForest fault) (inr d) = absurd d.writes
ends_found request report shelf shelf_now out out_now name bytes (BadCertificate fault) (inr d) = absurd d.writes
ends_found request report shelf shelf_now out out_now name bytes Done (inr d) = inr (done_found request report out out_now bytes true d d.writes)
ends_found request report shelf shelf_now out out_now name bytes Uncovered (inr d) = inr (done_found request report out out_now bytes false d d.writes)
ends_found request report shelf shelf_now out out_now name bytes ReadFault e = inl tt
ends_found request report shelf shelf_now out out_now name bytes WriteFault e = inl tt
ends_found request report shelf shelf_now out out_now name bytes NoMemory e = inl tt

pub decided : (request : Request) (report : Report) (shelf shelf_now : ShelfTold) (out out_now : SinkTold) (name bytes : List ℕ) (result : Status)
    → EndsFor request report shelf shelf_now out out_now name bytes result → ComesAsDecided request result
decided request report shelf shelf_now out out_now name bytes result ends status d = go (ends_found request report shelf shelf_now out out_now name bytes result ends) (decides_found request status d)
  where
    go : IsExcused result ⊎ Found MayBe request (marks_of report, bytes) result → ((other : Written) × Found IsTold request other status) → (result ≡ status) ⊎ IsExcused result
    go (inl x) k = inr x
    go (inr (side, found, shows)) (other, (side', found', shows')) =
        let e = same_found request side side' found found' in
        inl (same_shown side' (marks_of report, bytes) other result status (subst (λ s. Shows s (marks_of report, bytes) result) e shows) shows')

-- ---- completeness

excused_ends : (request : Request) (report : Report) (shelf shelf_now : ShelfTold) (out out_now : SinkTold) (name bytes : List ℕ) (result : Status)
    → ¬ Rose shelf.faults shelf_now.faults → ¬ Rose out.faults out_now.faults → EndsFor request report shelf shelf_now out out_now name bytes result → IsExcused result → result ≡ NoMemory
excused_ends request report shelf shelf_now out out_now name bytes NoMemory nr nw ends x = refl
excused_ends request report shelf shelf_now out out_now name bytes ReadFault nr nw (inl e) x = absurd (nr (e.2).rose)
excused_ends request report shelf shelf_now out out_now name bytes ReadFault nr nw (inr d) x = absurd d.writes
excused_ends request report shelf shelf_now out out_now name bytes WriteFault nr nw (inl e) x = absurd e.2
excused_ends request report shelf shelf_now out out_now name bytes WriteFault nr nw (inr d) x = absurd (nw (d.writes).0)
excused_ends request report shelf shelf_now out out_now name bytes Done nr nw ends x = absurd x
excused_ends request report shelf shelf_now out out_now name bytes Uncovered nr nw ends x = absurd x
excused_ends request report shelf shelf_now out out_now name bytes Usage nr nw ends x = absurd x
excused_ends request report shelf shelf_now out out_now name bytes TooBig nr nw ends x = absurd x
excused_ends request report shelf shelf_now out out_now name bytes (BadGrammar fault) nr nw ends x = absurd x
excused_ends request report shelf shelf_now out out_now name bytes (BadForest fault) nr nw ends x = absurd x
excused_ends request report shelf shelf_now out out_now name bytes (BadCertificate fault) nr nw ends x = absurd x

pub completes : (request : Request) (report : Report) (shelf shelf_now : ShelfTold) (out out_now : SinkTold) (name bytes : List ℕ) (result : Status)
    → out_now.taken ≡ append_known out.taken bytes → EndsFor request report shelf shelf_now out out_now name bytes result → IsComplete request (marks_of report) shelf shelf_now out out_now result
completes request report shelf shelf_now out out_now name bytes result written ends task g forest accepts nr nw = go (ends_found request report shelf shelf_now out out_now name bytes result ends)
  where
    go : IsExcused result ⊎ Found MayBe request (marks_of report, bytes) result → (result ≡ NoMemory) ⊎ IsAnswered task.job g forest (marks_of report) out out_now result
    go (inl x) = inl (excused_ends request report shelf shelf_now out out_now name bytes result nr nw ends x)
    go (inr (side, found, shows)) =
        let done = accepted_found IsTold request task g forest accepts in
        let e : side ≡ Some done.side = same_found request side (Some done.side) found done.finds in
        let shown = done.output (marks_of report, bytes) result (subst (λ s. Shows s (marks_of report, bytes) result) e shows) in
        inr (record { covered = shown.0; bytes = bytes; output = shown.1; written = written; finishes = shown.2 })
