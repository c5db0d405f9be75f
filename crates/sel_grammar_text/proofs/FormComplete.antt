-- A text of the form is read to its end, and each state has tokens that lead there.
use Rattle.std.proofs.Common.{◌≡◌, ℕ, suc, zero, ◌+◌, ◌≤◌, List, [], ◌∷◌, ◌++◌, Some, None, Bool, true, false, refl, ap, sym, ◌∙◌, subst, arith, append_assoc, ◌⊎◌, inl, inr, cond}
use Rattle.std.specs.List.{flat_map, AllByRecursion}
use Rattle.sel_grammar_text.specs.Tokens.{Token, Name, Integer, Quoted, Percents, Colon, Equals, Open, Close, Comma, Semi, End}
use Rattle.sel_grammar_text.specs.Form.{Patterns, no_patterns, pattern, Side, below, beside, pattern_tokens, DeclarationForm, StartForm, TermForm, CodeForm, entry_tokens, declaration_tokens, OneNumber, TwoNumbers, TailForm, OneLineForm, BurgForm, tail_tokens, RuleForm, rule_tokens, IsSmall, IsDeclaration, IsTail, starts, IsText, GoesOn}
use Rattle.sel_grammar_text.specs.declared.form.State.{State}
use Rattle.sel_grammar_text.specs.declared.form.State.TheVariants.{Declaring, Starting, Entering, Equating, Ruling, LeftName, Wanted, Named, Closed, External, Numbered, Pricing, Priced, Pairing, Paired, Finishing, Ended}
use Rattle.sel_grammar_text.specs.Machine.{after_pattern, step, go, run, begin}
use Rattle.sel_grammar_text.proofs.FormSound.{run-append, count, is_text}

abbrev pub IsBehind : ℕ → State → Type 0
IsBehind d (Named e) = e ≡ d
IsBehind d (Closed e) = e ≡ d
IsBehind d _ = ⊥

behind_step : (d : ℕ) (s : State) (t : Token) → IsBehind d s → (t ≡ Open → ⊥) → step s t ≡ after_pattern d t
behind_step d (Named e) Open h k = absurd (k refl)
behind_step d (Named e) (Name n) h k = rw h refl
behind_step d (Named e) t h k = rw h refl
behind_step d (Closed e) t h k = rw h refl
behind_step d s t h k = absurd h

-- a pattern may be opened, or go on beside
abbrev pub Takes : Side → ℕ → State → Type 0
Takes below d s = s ≡ Named d
Takes beside d s = (e : ℕ) × (d ≡ suc e) × IsBehind d s

abbrev pub Reads : Side → Patterns → Type 0
Reads p ts = (k : List Token) (d : ℕ) (s : State) → Takes p d s → (u : State) × IsBehind d u × (run (pattern_tokens p ts ++ k) s ≡ run k u)

comma_at : (d e : ℕ) (s : State) → d ≡ suc e → IsBehind d s → step s Comma ≡ Some (Wanted d)
comma_at d e s eq h = behind_step d s Comma h (λ x. cc) ∙ ap (λ x. after_pattern x Comma) eq ∙ ap (λ x. Some (Wanted x)) (sym eq)

chain_below : (n : List ℕ) (b m k : List Token) (d : ℕ) (s v w : State) → s ≡ Named d
    → run (b ++ (m ++ (Close ∷ k))) (Named (suc d)) ≡ run (m ++ (Close ∷ k)) v
    → run (m ++ (Close ∷ k)) v ≡ run (Close ∷ k) w
    → step w Close ≡ Some (Closed d)
    → run (Open ∷ Name n ∷ ((b ++ (m ++ (Close ∷ []))) ++ k)) s ≡ run k (Closed d)
chain_below n b m k d s v w e1 e3 e4 e5 = rw e1 (simp append_assoc (e3 ∙ e4 ∙ ap (go (run k)) e5))

chain_beside : (n : List ℕ) (b m k : List Token) (d : ℕ) (s v w : State) → step s Comma ≡ Some (Wanted d)
    → run (b ++ (m ++ k)) (Named d) ≡ run (m ++ k) v
    → run (m ++ k) v ≡ run k w
    → run (Comma ∷ Name n ∷ ((b ++ m) ++ k)) s ≡ run k w
chain_beside n b m k d s v w e1 e3 e4 = rw e1 (simp append_assoc (e3 ∙ e4))

reads : (p : Side) (ts : Patterns) → Reads p ts
reads below no_patterns k d s h = (s, subst (IsBehind d) (sym h) refl, refl)
reads beside no_patterns k d s h = (s, h.2, refl)
reads below (pattern n kids more) k d s h =
    let y = reads below kids (pattern_tokens beside more ++ (Close ∷ k)) (suc d) (Named (suc d)) refl in
    let z = reads beside more (Close ∷ k) (suc d) y.0 (d, refl, y.1) in
    (Closed d, refl, chain_below n (pattern_tokens below kids) (pattern_tokens beside more) k d s y.0 z.0 h y.2 z.2 (behind_step (suc d) z.0 Close z.1 (λ x. cc)))
reads beside (pattern n kids more) k d s h =
    let y = reads below kids (pattern_tokens beside more ++ k) d (Named d) refl in
    let z = reads beside more k d y.0 (h.0, h.1, y.1) in
    (z.0, z.1, chain_beside n (pattern_tokens below kids) (pattern_tokens beside more) k d s y.0 z.0 (comma_at d h.0 s h.1 h.2) y.2 z.2)

reads_tail : (t : TailForm) → IsTail t → (k : List Token) (s : State) → IsBehind zero s → run (tail_tokens t ++ k) s ≡ run k Ruling
reads_tail (OneLineForm i c) h k s b = ap (go (run k)) (behind_step zero s (Quoted i c) b (λ x. cc))
reads_tail (BurgForm e None) h k s b =
    ap (go (run (Integer e ∷ Semi ∷ k))) (behind_step zero s Equals b (λ x. cc)) ∙ ap (λ f. go (run (Semi ∷ k)) (cond f (Some Numbered) None)) h
reads_tail (BurgForm e (Some (OneNumber c))) h k s b =
    ap (go (run (Integer e ∷ Open ∷ Integer c ∷ Close ∷ Semi ∷ k))) (behind_step zero s Equals b (λ x. cc)) ∙ ap (λ f. go (run (Open ∷ Integer c ∷ Close ∷ Semi ∷ k)) (cond f (Some Numbered) None)) h
reads_tail (BurgForm e (Some (TwoNumbers c d))) h k s b =
    ap (go (run (Integer e ∷ Open ∷ Integer c ∷ Comma ∷ Integer d ∷ Close ∷ Semi ∷ k))) (behind_step zero s Equals b (λ x. cc))
    ∙ ap (λ f. go (run (Open ∷ Integer c ∷ Comma ∷ Integer d ∷ Close ∷ Semi ∷ k)) (cond f (Some Numbered) None)) h

reads_rule : (r : RuleForm) → IsTail r.tail → (k : List Token) → run (rule_tokens r ++ k) Ruling ≡ run k Ruling
reads_rule r h k =
    let y = reads below r.kids (tail_tokens r.tail ++ k) zero (Named zero) refl in
    ap (λ x. run x (Named zero)) (append_assoc (pattern_tokens below r.kids) (tail_tokens r.tail) k) ∙ y.2 ∙ reads_tail r.tail h k y.0 y.1

reads_rules : (rs : List RuleForm) → AllByRecursion (λ r. IsTail r.tail) rs → (k : List Token) → run (flat_map rule_tokens rs ++ k) Ruling ≡ run k Ruling
reads_rules [] h k = refl
reads_rules (r ∷ rs) h k =
    ap (λ x. run x Ruling) (append_assoc (rule_tokens r) (flat_map rule_tokens rs) k) ∙ reads_rule r h.0 (flat_map rule_tokens rs ++ k) ∙ reads_rules rs h.1 k

reads_entries : (es : List (List ℕ × List ℕ)) → AllByRecursion (λ e. IsSmall e.1) es → (k : List Token) (s : Bool) → run (entry_tokens es ++ k) (Declaring s true) ≡ run k (Declaring s true)
reads_entries [] h k s = refl
reads_entries (e ∷ es) h k s = ap (λ f. go (run (entry_tokens es ++ k)) (cond f (Some (Declaring s true)) None)) h.0 ∙ reads_entries es h.1 k s

reads_declarations : (ds : List DeclarationForm) → AllByRecursion IsDeclaration ds → (s t : Bool) → count s + starts ds ≤ 1 → (k : List Token)
    → run (flat_map declaration_tokens ds ++ (Percents ∷ k)) (Declaring s t) ≡ run k Ruling
reads_declarations [] h s t c k = refl
reads_declarations (StartForm n ∷ ds) h false t c k = reads_declarations ds h.1 true false (omega arith) k
reads_declarations (StartForm n ∷ ds) h true t c k = absurd (omega arith)
reads_declarations (TermForm es ∷ ds) h s t c k =
    ap (λ x. run x (Declaring s true)) (append_assoc (entry_tokens es) (flat_map declaration_tokens ds) (Percents ∷ k))
    ∙ reads_entries es h.0 (flat_map declaration_tokens ds ++ (Percents ∷ k)) s ∙ reads_declarations ds h.1 s true c k
reads_declarations (CodeForm n ∷ ds) h s t c k = reads_declarations ds h.1 s false c k

last_step : (t : Token) → (t ≡ End) ⊎ (t ≡ Percents) → run (t ∷ []) Ruling ≡ Some Ended
last_step t (inl e) = rw e refl
last_step t (inr e) = rw e refl

pub complete : (ts : List Token) → IsText ts → run ts begin ≡ Some Ended
complete ts x =
    ap (λ y. run y begin) x.cut
    ∙ reads_declarations x.declarations x.lawful false false (omega (arith, x.one_start)) (flat_map rule_tokens x.rules ++ (x.last ∷ []))
    ∙ reads_rules x.rules x.small (x.last ∷ []) ∙ last_step x.last x.ends

-- Each state has tokens that lead to the end.
abbrev pub closes : ℕ → List Token
closes zero = Quoted [] [] ∷ End ∷ []
closes (suc d) = Close ∷ closes d

abbrev pub finish : State → List Token
finish (Declaring s t) = Percents ∷ End ∷ []
finish Starting = Name [] ∷ Percents ∷ End ∷ []
finish (Entering s) = Equals ∷ Integer [] ∷ Percents ∷ End ∷ []
finish (Equating s) = Integer [] ∷ Percents ∷ End ∷ []
finish Ruling = End ∷ []
finish LeftName = Colon ∷ Name [] ∷ closes zero
finish (Wanted d) = Name [] ∷ closes d
finish (Named d) = closes d
finish (Closed d) = closes d
finish External = Integer [] ∷ Semi ∷ End ∷ []
finish Numbered = Semi ∷ End ∷ []
finish Pricing = Integer [] ∷ Close ∷ Semi ∷ End ∷ []
finish Priced = Close ∷ Semi ∷ End ∷ []
finish Pairing = Integer [] ∷ Close ∷ Semi ∷ End ∷ []
finish Paired = Close ∷ Semi ∷ End ∷ []
finish Finishing = Semi ∷ End ∷ []
finish Ended = []

closed_ends : (d : ℕ) → run (closes d) (Closed d) ≡ Some Ended
closed_ends zero = refl
closed_ends (suc d) = closed_ends d

named_ends : (d : ℕ) → run (closes d) (Named d) ≡ Some Ended
named_ends zero = refl
named_ends (suc d) = closed_ends d

finishes : (s : State) → run (finish s) s ≡ Some Ended
finishes (Declaring s t) = refl
finishes Starting = refl
finishes (Entering s) = refl
finishes (Equating s) = refl
finishes Ruling = refl
finishes LeftName = refl
finishes (Wanted d) = named_ends d
finishes (Named d) = named_ends d
finishes (Closed d) = closed_ends d
finishes External = refl
finishes Numbered = refl
finishes Pricing = refl
finishes Priced = refl
finishes Pairing = refl
finishes Paired = refl
finishes Finishing = refl
finishes Ended = refl

-- The machine has a state exactly where some text goes on with the tokens.
pub goes_on : (ts : List Token) (s : State) → run ts begin ≡ Some s → GoesOn ts
goes_on ts s h = (finish s, is_text (ts ++ finish s) (run-append ts (finish s) begin ∙ ap (go (run (finish s))) h ∙ finishes s))

pub stops : (ts : List Token) → run ts begin ≡ None → GoesOn ts → ⊥
stops ts h g =
    let e : None ≡ Some Ended = sym (ap (go (run g.0)) h) ∙ sym (run-append ts g.0 begin) ∙ complete (ts ++ g.0) g.1 in cc
