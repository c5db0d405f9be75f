-- A whole text without a fault, by its tokens, its items and its checks.
use Rattle.std.proofs.Common.{◌≡◌, ℕ, suc, zero, ◌+◌, ◌≤◌, ◌<◌, List, [], ◌∷◌, ◌++◌, Option, Some, None, Bool, true, false, length, refl, ap, sym, ◌∙◌, subst, arith, cond, eqb, ◌&&◌, ◌⊎◌, append_assoc, inl, inr}
use Rattle.std.proofs.lemmas.List.{map-append}
use Rattle.std.proofs.lemmas.Bool.{eqb-true}
use Rattle.std.proofs.Math.Nat.{eq-or-lt_of_le}
use Rattle.sel_grammar.specs.Limits as limits
use Rattle.sel_grammar.specs.Limits.{most_names}
use Rattle.sel_grammar_text.specs.Blanks.{skip}
use Rattle.sel_grammar_text.specs.Tokens.{Token, Name, Integer, Quoted, Unclosed, Code, Open, Close, Comma, token_of}
use Rattle.sel_grammar_text.specs.Form.{IsText, GoesOn}
use Rattle.sel_grammar_text.specs.Items.{Item}
use Rattle.sel_grammar_text.specs.CostText.{and_then, wrong_cost}
use Rattle.sel_grammar_text.specs.Spots.{Spot, spot, first, after, behind, tokens, first_spots, here}
use Rattle.sel_grammar_text.specs.Cutting.{ends, item_of, Cutting, cut_on, cutting}
use Rattle.sel_grammar_text.specs.Faults.{fault, fault_if, fault_at, or_fault}
use Rattle.sel_grammar_text.specs.FormFaults.{name_too_many, bad_string, cost_line, bad_byte, pattern_names, is_integer, is_comma, token_in, behind_further, closes, is_cost_list, ends_integer, HasFormFault}
use Rattle.sel_grammar_text.specs.FormDecision.{accepted_fault, judged, stray_place, open_string_fault, is_unclosed, decided_fault}
use Rattle.sel_grammar_text.specs.ItemFaults.{check, check_all}
use Rattle.sel_grammar_text.specs.GrammarText.{HasFault, IsWhole}
use Rattle.sel_grammar_text.specs.Machine.{step, run, go, begin}
use Rattle.sel_grammar_text.specs.declared.fault.Fault.{Fault}
use Rattle.sel_grammar_text.specs.declared.form.State.{State}
use Rattle.sel_grammar_text.specs.declared.form.State.TheVariants.{Declaring, Wanted, Named, Closed, Numbered, Pricing, Priced, Pairing, Paired, Ended}
use Rattle.sel_grammar_text.proofs.FormSound.{run-append}
use Rattle.sel_grammar_text.proofs.FormComplete.{complete, goes_on, stops}
use Rattle.sel_grammar_text.proofs.Decided.{undecided, no_unclosed}
use Rattle.sel_grammar_text.proofs.Steps.{first-snoc, after-snoc, tokens-snoc, cutting-snoc}
use Rattle.sel_grammar_text.proofs.FormCuts.{FormFine, AllFine, fine-append, fine-split, fresh}

-- Fronts.

pub front_of : (all k n : ℕ) (bytes : List ℕ) → k ≤ n → (rest : List Spot) × (first all n bytes ≡ first all k bytes ++ rest)
front_of all zero n bytes h = (first all n bytes, refl)
front_of all (suc k) zero bytes h = absurd (omega arith)
front_of all (suc k) (suc n) bytes h = let r = front_of all k n (behind bytes) (omega arith) in (r.0, ap (λ x. spot all bytes ∷ x) r.1)

front_tokens : (k n : ℕ) (bytes : List ℕ) → k ≤ n → (rest : List Token) × (tokens (first_spots n bytes) ≡ tokens (first_spots k bytes) ++ rest)
front_tokens k n bytes h =
    let r = front_of (length bytes) k n bytes h in (tokens r.0, ap tokens r.1 ∙ map-append _ (first_spots k bytes) r.0)

gone : (o : Option State) → go (run []) o ≡ o
gone None = refl
gone (Some u) = refl

run-snoc : (ts : List Token) (t : Token) (s : State) → run ts begin ≡ Some s → run (ts ++ (t ∷ [])) begin ≡ step s t
run-snoc ts t s h = run-append ts (t ∷ []) begin ∙ ap (go (run (t ∷ []))) h ∙ gone (step s t)

-- the states before and behind a token
pub record Passed (bytes : List ℕ) (k : ℕ) : Type 0 where
  pub before : State
  pub behind_it : State
  pub run_so : run (tokens (first_spots k bytes)) begin ≡ Some before
  pub step_so : step before (here k bytes).token ≡ Some behind_it

some_state : (o : Option State) (rest : List Token) → go (run rest) o ≡ Some Ended → (s : State) × (o ≡ Some s)
some_state None rest h = cc
some_state (Some s) rest h = (s, refl)

state_at : (bytes : List ℕ) (k n : ℕ) → IsText (tokens (first_spots n bytes)) → k ≤ n → (s : State) × (run (tokens (first_spots k bytes)) begin ≡ Some s)
state_at bytes k n x h =
    let r = front_tokens k n bytes h in
    some_state (run (tokens (first_spots k bytes)) begin) r.0
    (sym (run-append (tokens (first_spots k bytes)) r.0 begin) ∙ ap (λ ts. run ts begin) (sym r.1) ∙ complete (tokens (first_spots n bytes)) x)

pub passed : (bytes : List ℕ) (k n : ℕ) → IsText (tokens (first_spots (suc n) bytes)) → k ≤ n → Passed bytes k
passed bytes k n x h =
    let s = state_at bytes k (suc n) x (omega arith) in
    let u = state_at bytes (suc k) (suc n) x (omega arith) in
    record {
      before = s.0;
      behind_it = u.0;
      run_so = s.1;
      step_so = sym (run-snoc (tokens (first_spots k bytes)) (here k bytes).token s.0 s.1) ∙ ap (λ ts. run ts begin) (sym (tokens-snoc k bytes)) ∙ u.1;
    }

-- the state behind a token is the one before the next
same_state : (bytes : List ℕ) (k : ℕ) (p : Passed bytes k) (q : Passed bytes (suc k)) → p.behind_it ≡ q.before
same_state bytes k p q =
    let e : Some p.behind_it ≡ Some q.before =
    sym p.step_so ∙ sym (run-snoc (tokens (first_spots k bytes)) (here k bytes).token p.before p.run_so) ∙ ap (λ ts. run ts begin) (sym (tokens-snoc k bytes)) ∙ q.run_so in
    cc

last_state : (bytes : List ℕ) (n : ℕ) (x : IsText (tokens (first_spots (suc n) bytes))) (p : Passed bytes n) → p.behind_it ≡ Ended
last_state bytes n x p =
    let e : Some p.behind_it ≡ Some Ended =
    sym p.step_so ∙ sym (run-snoc (tokens (first_spots n bytes)) (here n bytes).token p.before p.run_so) ∙ ap (λ ts. run ts begin) (sym (tokens-snoc n bytes)) ∙ complete _ x in
    cc

goes_at : (bytes : List ℕ) (k n : ℕ) → IsText (tokens (first_spots (suc n) bytes)) → k ≤ n → GoesOn (tokens (first_spots k bytes) ++ ((here k bytes).token ∷ []))
goes_at bytes k n x h =
    let r = front_tokens (suc k) (suc n) bytes (omega arith) in
    (r.0, subst (λ ts. IsText (ts ++ r.0)) (tokens-snoc k bytes) (subst IsText r.1 x))

-- Checks along the items.

or_none : (a b : Option Fault) → or_fault a b ≡ None → (a ≡ None) × (b ≡ None)
or_none (Some f) b h = cc
or_none None b h = (refl, h)

pub check_all-append : (before xs ys : List Item) → check_all before (xs ++ ys) ≡ or_fault (check_all before xs) (check_all (before ++ xs) ys)
check_all-append before [] ys = ap (λ x. check_all x ys) (sym (append-none before))
  where
    append-none : (zs : List Item) → zs ++ [] ≡ zs
    append-none [] = refl
    append-none (z ∷ zs) = ap (λ w. z ∷ w) (append-none zs)
check_all-append before (x ∷ xs) ys =
    ap (or_fault (check before x)) (check_all-append (before ++ (x ∷ [])) xs ys ∙ ap (λ z. or_fault (check_all (before ++ (x ∷ [])) xs) (check_all z ys)) (append_assoc before (x ∷ []) xs))
    ∙ either (check before x) (check_all (before ++ (x ∷ [])) xs) (check_all (before ++ (x ∷ xs)) ys)
  where
    either : (a b c : Option Fault) → or_fault a (or_fault b c) ≡ or_fault (or_fault a b) c
    either (Some f) b c = refl
    either None b c = refl

pub passes-split : (before xs ys : List Item) → check_all before (xs ++ ys) ≡ None → (check_all before xs ≡ None) × (check_all (before ++ xs) ys ≡ None)
passes-split before xs ys h = or_none (check_all before xs) (check_all (before ++ xs) ys) (sym (check_all-append before xs ys) ∙ h)

pub passes-append : (before xs ys : List Item) → check_all before xs ≡ None → check_all (before ++ xs) ys ≡ None → check_all before (xs ++ ys) ≡ None
passes-append before xs ys h k = check_all-append before xs ys ∙ ap (λ o. or_fault o (check_all (before ++ xs) ys)) h ∙ k

abbrev stepped : Cutting → Spot → Bool → List Item
stepped c s b = (cond {A = Cutting} b (record { items = c.items ++ item_of (c.left ++ (s ∷ [])); left = [] }) (record { items = c.items; left = c.left ++ (s ∷ []) })).items

step_pass : (c : Cutting) (s : Spot) (b : Bool) → check_all [] c.items ≡ None → (b ≡ true → check_all c.items (item_of (c.left ++ (s ∷ []))) ≡ None) → check_all [] (stepped c s b) ≡ None
step_pass c s true h k = passes-append [] c.items (item_of (c.left ++ (s ∷ []))) h (k refl)
step_pass c s false h k = h

step_back : (c : Cutting) (s : Spot) (b : Bool) → check_all [] (stepped c s b) ≡ None → (check_all [] c.items ≡ None) × (b ≡ true → check_all c.items (item_of (c.left ++ (s ∷ []))) ≡ None)
step_back c s true h = let r = passes-split [] c.items (item_of (c.left ++ (s ∷ []))) h in (r.0, λ e. r.1)
step_back c s false h = (h, λ e. absurd (let z : ⊥ = cc in z))

abbrev Passing : List ℕ → ℕ → Type 0
Passing bytes k = check_all [] (cutting k bytes).items ≡ None

abbrev PassesAt : List ℕ → ℕ → Type 0
PassesAt bytes k = ends (cutting k bytes).left (here k bytes).token ≡ true → check_all (cutting k bytes).items (item_of ((cutting k bytes).left ++ (here k bytes ∷ []))) ≡ None

passing_next : (bytes : List ℕ) (k : ℕ) → Passing bytes k → PassesAt bytes k → Passing bytes (suc k)
passing_next bytes k h p =
    subst (λ c. check_all [] c.items ≡ None) (sym (cutting-snoc k bytes)) (step_pass (cutting k bytes) (here k bytes) (ends (cutting k bytes).left (here k bytes).token) h p)

passing_back : (bytes : List ℕ) (k : ℕ) → Passing bytes (suc k) → Passing bytes k × PassesAt bytes k
passing_back bytes k h =
    step_back (cutting k bytes) (here k bytes) (ends (cutting k bytes).left (here k bytes).token) (subst (λ c. check_all [] c.items ≡ None) (cutting-snoc k bytes) h)

passing_front : (bytes : List ℕ) (k n : ℕ) → k ≤ n → Passing bytes n → Passing bytes k
passing_front bytes k n h p = elim (eq-or-lt_of_le h) [
  | inl e ↦ subst (Passing bytes) (sym e) p
  | inr l ↦ down n l p
]
  where
    down : (n : ℕ) → k < n → Passing bytes n → Passing bytes k
    down zero l p = absurd (omega arith)
    down (suc n) l p = elim (eq-or-lt_of_le (let m : k ≤ n = omega arith in m)) [
      | inl e ↦ subst (Passing bytes) (sym e) (passing_back bytes n p).0
      | inr m ↦ down n m (passing_back bytes n p).0
    ]

-- From a whole text without a fault.

abbrev pub NoFault : List ℕ → ℕ → Type 0
NoFault bytes k = (f : Fault) → HasFault bytes k f → ⊥

abbrev pub FineAt : List ℕ → ℕ → Type 0
FineAt bytes k = FormFine (cutting k bytes).left (here k bytes)

no_place : (o : Option ℕ) → ((at : ℕ) → o ≡ Some at → ⊥) → o ≡ None
no_place None h = refl
no_place (Some at) h = absurd (h at refl)

no_fault_so : (o : Option Fault) → ((f : Fault) → o ≡ Some f → ⊥) → o ≡ None
no_fault_so None h = refl
no_fault_so (Some f) h = absurd (h f refl)

form_fault : (bytes : List ℕ) (k : ℕ) (f : Fault) → NoFault bytes k → HasFormFault bytes k f → ⊥
unfolding HasFault
form_fault bytes k f clean h = clean f (inl h)

fine_at : (bytes : List ℕ) (k : ℕ) → NoFault bytes k → GoesOn (tokens (first_spots k bytes) ++ ((here k bytes).token ∷ [])) → FineAt bytes k
fine_at bytes k clean g = record {
  names = λ n e h. form_fault bytes k (fault limits.too_many (here k bytes).at) clean (name_too_many n e g h);
  quoted = λ i b e.
      let good : bad_byte ((here k bytes).at + 1) i ≡ None = no_place _ (λ at h. form_fault bytes k (fault limits.template_form at) clean (bad_string i b at e g h)) in
      (good, no_place _ (λ at h. form_fault bytes k (fault limits.cost_form at) clean (cost_line i b at e g good h)));
}

passes_at : (bytes : List ℕ) (k : ℕ) → NoFault bytes k → PassesAt bytes k
unfolding HasFault
passes_at bytes k clean e = no_fault_so _ (λ f h. clean f (inr ((λ g x. form_fault bytes k g clean x), e, h)))

cutting_is : (bytes : List ℕ) (k : ℕ) → cut_on (fresh []) (first_spots k bytes) ≡ cutting k bytes
unfolding cutting
cutting_is bytes k = refl

pub all_fine : (bytes : List ℕ) (n : ℕ) → IsText (tokens (first_spots (suc n) bytes)) → ((k : ℕ) → k ≤ n → NoFault bytes k) → (m : ℕ) → m ≤ suc n → AllFine (fresh []) (first_spots m bytes)
all_fine bytes n x clean zero h = tt
all_fine bytes n x clean (suc m) h =
    subst (AllFine (fresh [])) (sym (first-snoc (length bytes) m bytes))
    (fine-append (fresh []) (first_spots m bytes) (here m bytes ∷ []) (all_fine bytes n x clean m (omega arith))
    (subst (λ c. FormFine c.left (here m bytes)) (sym (cutting_is bytes m)) (fine_at bytes m (clean m (omega arith)) (goes_at bytes m n x (omega arith))), tt))

no_items : (bytes : List ℕ) → check_all [] (cutting 0 bytes).items ≡ None
unfolding cutting
no_items bytes = refl

pub all_pass : (bytes : List ℕ) (n : ℕ) → ((k : ℕ) → k ≤ n → NoFault bytes k) → (m : ℕ) → m ≤ suc n → check_all [] (cutting m bytes).items ≡ None
all_pass bytes n clean zero h = no_items bytes
all_pass bytes n clean (suc m) h = passing_next bytes m (all_pass bytes n clean m (omega arith)) (passes_at bytes m (clean m (omega arith)))

pub no_faults : (bytes : List ℕ) (n : ℕ) → IsWhole bytes n → (k : ℕ) → k ≤ n → NoFault bytes k
no_faults bytes n w k h f x = elim (eq-or-lt_of_le h) [
  | inl e ↦ w.last f (subst (λ j. HasFault bytes j f) e x)
  | inr l ↦ w.before.faultless k f l x
]

-- To a whole text without a fault.

abbrev listed : Option (List ℕ) → Bool
listed o = elim o as (λ _. Bool) [ None ↦ false | Some rest ↦ closes rest ]

no_list : (t : Token) (more : List ℕ) → token_of (skip more) ≡ t → ((d : List ℕ) → t ≡ Integer d → ⊥) → is_cost_list more ≡ false
no_list t more e h = ap (λ u. is_integer u && listed (and_then (behind_further (behind more)) behind_further)) e ∙ not_integer t h
  where
    not_integer : (t : Token) → ((d : List ℕ) → t ≡ Integer d → ⊥) → (is_integer t && listed (and_then (behind_further (behind more)) behind_further)) ≡ false
    not_integer (Integer d) h = absurd (h d refl)
    not_integer t h = refl

closed_list : (d : List ℕ) (more : List ℕ) → token_of (skip more) ≡ Integer d → token_of (skip (behind more)) ≡ Close → is_cost_list more ≡ false
closed_list d more e h =
    ap (λ u. is_integer u && listed (and_then (behind_further (behind more)) behind_further)) e
    ∙ ap (λ u. listed (and_then (cond (is_comma u && is_integer (token_in (behind (behind more)))) (Some (behind (behind (behind more)))) None) behind_further)) h

-- a pair is no list
closed_pair : (more : List ℕ) → token_of (skip (behind (behind (behind more)))) ≡ Close → is_cost_list more ≡ false
closed_pair more h =
    by_tests (behind (behind (behind more))) h (is_integer (token_in more)) (is_comma (token_in (behind more)) && is_integer (token_in (behind (behind more))))
  where
    by_tests : (rest : List ℕ) → token_of (skip rest) ≡ Close → (i b : Bool) → (i && listed (and_then (cond b (Some rest) None) behind_further)) ≡ false
    by_tests rest h true true = ap (λ u. listed (cond (is_comma u && is_integer (token_in (behind rest))) (Some (behind (behind rest))) None)) h
    by_tests rest h true false = refl
    by_tests rest h false b = refl

-- what an opening parenthesis leads to
opens : (s u : State) → step s Open ≡ Some u → ((d : ℕ) × (u ≡ Wanted d)) ⊎ (u ≡ Pricing)
opens (Named d) u h = inl (suc d, cc)
opens Numbered u h = inr cc
opens (Closed zero) u h = cc
opens (Closed (suc d)) u h = cc
opens (Declaring s t) u h = cc
opens s u h = cc

wanted : (d : ℕ) (t : Token) (u : State) → step (Wanted d) t ≡ Some u → (e : List ℕ) → t ≡ Integer e → ⊥
wanted d t u h e k = let w : step (Wanted d) (Integer e) ≡ Some u = sym (ap (step (Wanted d)) k) ∙ h in let z : ⊥ = cc in z

pricing : (t : Token) (u : State) → step Pricing t ≡ Some u → (d : List ℕ) × (t ≡ Integer d) × (u ≡ Priced)
pricing (Integer d) u h = (d, refl, cc)
pricing t u h = cc

priced : (t : Token) (u : State) → step Priced t ≡ Some u → (t ≡ Close) ⊎ ((t ≡ Comma) × (u ≡ Pairing))
priced Close u h = inl refl
priced Comma u h = inr (refl, cc)
priced t u h = cc

pairing : (t : Token) (u : State) → step Pairing t ≡ Some u → u ≡ Paired
pairing (Integer d) u h = cc
pairing t u h = cc

paired : (t : Token) (u : State) → step Paired t ≡ Some u → t ≡ Close
paired Close u h = refl
paired t u h = cc

module _ (bytes : List ℕ) (n : ℕ) (x : IsText (tokens (first_spots (suc n) bytes))) where
  not_last : (k : ℕ) (p : Passed bytes k) (u : State) → k ≤ n → p.behind_it ≡ u → (u ≡ Ended → ⊥) → suc k ≤ n
  not_last k p u h e o = elim (eq-or-lt_of_le h) [
    | inl q ↦ absurd (o (sym e ∙ last_state bytes k (subst (λ j. IsText (tokens (first_spots (suc j) bytes))) (sym q) x) p))
    | inr l ↦ l
  ]

  -- the state behind the next token, which isn't the last one
  next : (k : ℕ) (p : Passed bytes k) (s : State) → k ≤ n → p.behind_it ≡ s → (s ≡ Ended → ⊥) → (suc k ≤ n) × ((q : Passed bytes (suc k)) × (step s (here (suc k) bytes).token ≡ Some q.behind_it))
  next k p s h e o =
      let l = not_last k p s h e o in
      let q = passed bytes (suc k) n x l in (l, (q, ap (λ z. step z (here (suc k) bytes).token) (sym e ∙ same_state bytes k p q) ∙ q.step_so))

  no_cost_list : (k : ℕ) → k ≤ n → (here k bytes).token ≡ Open → is_cost_list (after (suc k) bytes) ≡ false
  no_cost_list k h e =
      let p = passed bytes k n x h in
      elim (opens p.before p.behind_it (sym (ap (step p.before) e) ∙ p.step_so)) [
        | inl w ↦ let a = next k p (Wanted w.0) h w.1 (λ z. cc) in no_list (here (suc k) bytes).token (after (suc k) bytes) refl (wanted w.0 (here (suc k) bytes).token a.1.0.behind_it a.1.1)
        | inr w ↦ no_list_behind k p h w
      ]
    where
      -- the second number is closed
      no_third : (k : ℕ) (r : Passed bytes (suc (suc k))) → suc (suc k) ≤ n → r.behind_it ≡ Pairing → is_cost_list (after (suc k) bytes) ≡ false
      no_third k r m e =
          let b = next (suc (suc k)) r Pairing m e (λ z. cc) in
          let c = next (suc (suc (suc k))) b.1.0 Paired b.0 (pairing (here (suc (suc (suc k))) bytes).token b.1.0.behind_it b.1.1) (λ z. cc) in
          let d = paired (here (suc (suc (suc (suc k)))) bytes).token c.1.0.behind_it c.1.1 in
          let far : behind (behind (behind (after (suc k) bytes))) ≡ after (suc (suc (suc (suc k)))) bytes =
          ap (λ y. behind (behind y)) (sym (after-snoc (suc k) bytes)) ∙ ap behind (sym (after-snoc (suc (suc k)) bytes)) ∙ sym (after-snoc (suc (suc (suc k))) bytes) in
          closed_pair (after (suc k) bytes) (ap (λ y. token_of (skip y)) far ∙ d)

      no_list_behind : (k : ℕ) (p : Passed bytes k) → k ≤ n → p.behind_it ≡ Pricing → is_cost_list (after (suc k) bytes) ≡ false
      no_list_behind k p h w =
          let a = next k p Pricing h w (λ z. cc) in
          let i = pricing (here (suc k) bytes).token a.1.0.behind_it a.1.1 in
          let b = next (suc k) a.1.0 Priced a.0 i.2 (λ z. cc) in
          elim (priced (here (suc (suc k)) bytes).token b.1.0.behind_it b.1.1) [
            | inl c ↦ closed_list i.0 (after (suc k) bytes) i.1 (ap (λ y. token_of (skip y)) (sym (after-snoc (suc k) bytes)) ∙ c)
            | inr c ↦ no_third k b.1.0 b.0 c.1
          ]

  not_unclosed : (s u : State) (t : Token) (b : Bool) → step s t ≡ Some u → is_unclosed t ≡ b → b ≡ false
  not_unclosed s u Unclosed b h e = let w : None ≡ Some u = sym (no_unclosed s) ∙ h in let z : ⊥ = cc in absurd z
  not_unclosed s u t b h e = sym e

  accepted_so : (names : ℕ) (integer : Bool) (at : ℕ) (more : List ℕ) (t : Token) → ((n : List ℕ) → t ≡ Name n → names ≡ most_names → ⊥)
      → ((i b : List ℕ) → t ≡ Quoted i b → (bad_byte (at + 1) i ≡ None) × (wrong_cost (at + length i + 2) b ≡ None)) → (t ≡ Open → is_cost_list more ≡ false) → accepted_fault names integer at more t ≡ None
  accepted_so names integer at more (Name m) a b c = by_names (eqb names most_names) refl
    where
      by_names : (v : Bool) → eqb names most_names ≡ v → fault_if v (fault limits.too_many at) ≡ None
      by_names true e = absurd (a m refl (eqb-true names most_names e))
      by_names false e = refl
  accepted_so names integer at more (Quoted i q) a b c =
      let r = b i q refl in ap (λ o. or_fault (fault_at limits.template_form o) (fault_at limits.cost_form (wrong_cost (at + length i + 2) q))) r.0 ∙ ap (fault_at limits.cost_form) r.1
  accepted_so names integer at more Open a b c = ap (λ v. fault_if (integer && v) (fault limits.cost_form at)) (c refl) ∙ never integer
    where
      never : (v : Bool) → fault_if (v && false) (fault limits.cost_form at) ≡ None
      never true = refl
      never false = refl
  accepted_so names integer at more t a b c = refl

  undecided_so : (all : ℕ) (s u : State) (names : ℕ) (integer : Bool) (it : Spot) (more : List ℕ) → step s it.token ≡ Some u → accepted_fault names integer it.at more it.token ≡ None
      → decided_fault all s names integer it more ≡ None
  unfolding decided_fault
  undecided_so all s u names integer it more h k =
      ap (λ b. cond b (Some (open_string_fault (step s (Quoted [] [])) it.at)) (judged (step s it.token) (stray_place all (step s (Code 0)) it) (accepted_fault names integer it.at more it.token)))
      (not_unclosed s u it.token (is_unclosed it.token) h refl)
      ∙ ap (λ o. judged o (stray_place all (step s (Code 0)) it) (accepted_fault names integer it.at more it.token)) h ∙ k

  no_form_fault : (k : ℕ) (f : Fault) → k ≤ n → FineAt bytes k → HasFormFault bytes k f → ⊥
  no_form_fault k f h fine =
      let p = passed bytes k n x h in
      let before = tokens (first_spots k bytes) in
      undecided (length bytes) p.before (first_spots k bytes) (cutting k bytes).left (after (suc k) bytes)
      (λ t u e. goes_on (before ++ (t ∷ [])) u (run-snoc before t p.before p.run_so ∙ e)) (λ t e. stops (before ++ (t ∷ [])) (run-snoc before t p.before p.run_so ∙ e))
      (here k bytes) f
      (undecided_so (length bytes) p.before p.behind_it (pattern_names (cutting k bytes).left) (ends_integer (first_spots k bytes)) (here k bytes) (after (suc k) bytes) p.step_so
      (accepted_so (pattern_names (cutting k bytes).left) (ends_integer (first_spots k bytes)) (here k bytes).at (after (suc k) bytes) (here k bytes).token fine.names fine.quoted (no_cost_list k h)))

  fine_there : (k : ℕ) → k ≤ n → AllFine (fresh []) (first_spots (suc n) bytes) → FineAt bytes k
  fine_there k h fine =
      let r = front_of (length bytes) (suc k) (suc n) bytes (omega arith) in
      let a = (fine-split (fresh []) (first_spots (suc k) bytes) r.0 (subst (AllFine (fresh [])) r.1 fine)).0 in
      let b = (fine-split (fresh []) (first_spots k bytes) (here k bytes ∷ []) (subst (AllFine (fresh [])) (first-snoc (length bytes) k bytes) a)).1 in
      subst (λ c. FormFine c.left (here k bytes)) (cutting_is bytes k) b.0

  no_fault_there : (k : ℕ) → k ≤ n → AllFine (fresh []) (first_spots (suc n) bytes) → Passing bytes (suc n) → NoFault bytes k
  unfolding HasFault
  no_fault_there k h fine pass f (inl y) = no_form_fault k f h (fine_there k h fine) y
  no_fault_there k h fine pass f (inr y) =
      let q = (passing_back bytes k (passing_front bytes (suc k) (suc n) (omega arith) pass)).1 y.1 in
      let w : None ≡ Some f = sym q ∙ y.2 in let z : ⊥ = cc in z

  no_text_before : (k : ℕ) → k ≤ n → IsText (tokens (first_spots k bytes)) → ⊥
  no_text_before k h y =
      let p = passed bytes k n x h in
      let e : Some p.before ≡ Some Ended = sym p.run_so ∙ complete _ y in
      let s : p.before ≡ Ended = cc in
      let w : None ≡ Some p.behind_it = ap (λ s. step s (here k bytes).token) (sym s) ∙ p.step_so in
      let z : ⊥ = cc in z

  pub whole_so : AllFine (fresh []) (first_spots (suc n) bytes) → check_all [] (cutting (suc n) bytes).items ≡ None → IsWhole bytes n
  whole_so fine pass = record {
    before = record { faultless = λ k f l y. no_fault_there k (omega arith) fine pass f y; open_still = no_text_before };
    last = λ f y. no_fault_there n (omega arith) fine pass f y;
    whole = x;
  }
