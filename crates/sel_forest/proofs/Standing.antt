-- Where the reader stands on a line: no token so far has a fault.
use Rattle.std.proofs.Common.{◌≡◌, ℕ, suc, zero, ◌+◌, ◌-◌, ◌≤◌, ◌<◌, ◌==◌, ◌&&◌, nat_le, ◌⊎◌, inl, inr, Bool, true, false, List, [], ◌∷◌, ◌++◌, Option, Some, None, refl, ap, sym, ◌∙◌, subst, arith, length, drop}
use Rattle.sel_grammar.specs.declared.grammar.Grammar.{Grammar}
use Rattle.sel_grammar.specs.PlainTrees.{size}
use Rattle.sel_forest.specs.declared.forest.Tree.{Tree}
use Rattle.sel_forest.specs.Limits as limits
use Rattle.sel_forest.specs.Limits.{most_nodes, most_trees}
use Rattle.sel_forest.specs.Postorder.{postorder}
use Rattle.sel_forest.specs.Tokens.{Token, Name, Number, Symbol, Colon, Open, Comma, Close, Bad, End, token_of, token_at, skip, width, Spot, start, behind, first, after, place, IsCutInto}
use Rattle.sel_forest.specs.Form.{IsLine}
use Rattle.sel_forest.specs.LineFaults.{Around, around_next, around_from, around, kind_of, HasFault, stray, wrong, HasFirstFault}
use Rattle.sel_forest.specs.ForestText.{SpellsLine, IsBlankLine}
use Rattle.sel_forest.specs.Taking.{AreTokensOf}
use Rattle.sel_forest.specs.OpenNodes.{Opened, whole, opened_next, opened_from, opened, total, TakesToken}
use Rattle.sel_forest.specs.Machine.{after_tree, step, run, go, wants_attribute, open_count}
use Rattle.sel_forest.specs.declared.line.State.{State}
use Rattle.sel_forest.specs.declared.line.State.TheVariants.{Start, Wanted, Named, Colonned, Attributed, Closed, Ended}
use Rattle.sel_forest.proofs.Viable.{run-append, complete, goes_on, stops}
use Rattle.sel_forest.proofs.Strides.{first-snoc, after-snoc, step_depth, step_flag, shorter, skip_short}
use Rattle.sel_forest.proofs.Lawful.{lawful}
use Rattle.sel_forest.proofs.Roots.{size_some}
use Rattle.sel_forest.proofs.Reading.{HasPairsAtMost, Fits, not_le}
use Rattle.sel_forest.proofs.Stepping.{Moves, MovesTo, moves, name_right}

pub opened-snoc : (g : Grammar) (os : List Opened) (ts : List Token) (t : Token) → opened_from g os (ts ++ (t ∷ [])) ≡ opened_next g (opened_from g os ts) t
opened-snoc g os [] t = refl
opened-snoc g os (u ∷ ts) t = opened-snoc g (opened_next g os u) ts t

around-snoc : (g : Grammar) (a : Around) (ts : List Token) (t : Token) → around_from g a (ts ++ (t ∷ [])) ≡ around_next g (around_from g a ts) t
around-snoc g a [] t = refl
around-snoc g a (u ∷ ts) t = around-snoc g (around_next g a u) ts t

-- The reader stands behind the first n tokens, in a state, with this left of the line.
pub record Stands (g : Grammar) (trees : ℕ) (line : List ℕ) (n : ℕ) (s : State) (rest : List ℕ) : Type 0 where
  pub run : run (first n (start line)) Start ≡ Some s
  pub spot : after n (start line) ≡ record { attribute = wants_attribute s; text = rest }
  pub room : open_count s + length rest ≤ length line
  pub open_still : s ≡ Ended → ⊥
  pub free : (k kind : ℕ) → k < n → HasFault g trees line k kind → ⊥
  pub few : 0 < (around g (first n (start line))).names → trees < most_trees
  pub fits : Fits g s (around g (first n (start line))) (opened g (first n (start line))) (first n (start line))

-- a name that is right is the first of its line only where another tree may stand
first_free : (b : Bool) (n : ℕ) → n ≡ 0 → (b && (n == 0)) ≡ false → b ≡ false
first_free false n e h = refl
first_free true n e h = let k : (n == 0) ≡ true = ap (λ m. m == 0) e in cc

few_next : (g : Grammar) (trees : ℕ) (a : Around) (t : Token) → (0 < a.names → trees < most_trees) → kind_of g trees a t ≡ None → 0 < (around_next g a t).names → trees < most_trees
few_next g trees a (Name n) few k some = go (a.names) refl
  where
    go : (m : ℕ) → a.names ≡ m → trees < most_trees
    go zero e = not_le most_trees trees (first_free (nat_le most_trees trees) a.names e (name_right g trees a n k).few_trees)
    go (suc m) e = few (omega arith)
few_next g trees a (Number bytes) few k some = few some
few_next g trees a (Symbol bytes) few k some = few some
few_next g trees a Colon few k some = few some
few_next g trees a Open few k some = few some
few_next g trees a Comma few k some = few some
few_next g trees a Close few k some = few some
few_next g trees a (Bad b) few k some = few some
few_next g trees a End few k some = few some

pub stands_start : (g : Grammar) (trees : ℕ) (line : List ℕ) → Stands g trees line 0 Start line
stands_start g trees line = record {
  run = refl;
  spot = refl;
  room = omega arith;
  open_still = λ e. cc;
  free = λ k kind h f. absurd (omega arith);
  few = λ some. absurd (omega arith);
  fits = record { reads = (refl, refl); bare = refl; parents = refl; deep = refl; names = refl; few = omega arith };
}

abbrev pub token_here : State → List ℕ → Token
token_here s rest = token_of (wants_attribute s) (skip rest)

module _ (g : Grammar) (two : HasPairsAtMost g) (trees : ℕ) (line : List ℕ) (n : ℕ) (s : State) (rest : List ℕ) (r : Stands g trees line n s rest) where
  ts : List Token
  ts = first n (start line)

  -- the token behind the first n
  here : token_at (after n (start line)) ≡ token_here s rest
  here = ap token_at r.spot

  pub one_more : first (suc n) (start line) ≡ first n (start line) ++ (token_here s rest ∷ [])
  one_more = first-snoc n (start line) ∙ ap (λ t. first n (start line) ++ (t ∷ [])) here

  run_more : (o : Option State) → step s (token_here s rest) ≡ o → run (first (suc n) (start line)) Start ≡ o
  run_more o h =
      ap (λ us. run us Start) one_more ∙ run-append (first n (start line)) (token_here s rest ∷ []) Start
      ∙ ap (go (run (token_here s rest ∷ []))) r.run ∙ ap (go (run [])) h ∙ gone o
    where
      gone : (o : Option State) → go (run []) o ≡ o
      gone None = refl
      gone (Some u) = refl

  not_whole : IsLine (first n (start line)) → ⊥
  not_whole l = let e : Some s ≡ Some Ended = sym r.run ∙ complete (first n (start line)) l in r.open_still cc

  at_place : length line - length (skip rest) ≡ place line n
  at_place = ap (λ p. length line - length (skip p.text)) (sym r.spot)

  -- no line goes on with the token
  pub stands_stray : step s (token_here s rest) ≡ None → HasFirstFault g trees line limits.token (length line - length (skip rest))
  stands_stray h = record {
    n = n;
    before = r.free;
    not_whole = not_whole;
    here = stray (stops (first (suc n) (start line)) (run_more None h));
    at_is = at_place;
  }

  -- something is wrong with the token
  pub stands_wrong : (u : State) (kind : ℕ) → step s (token_here s rest) ≡ Some u → kind_of g trees (around g (first n (start line))) (token_here s rest) ≡ Some kind
      → HasFirstFault g trees line kind (length line - length (skip rest))
  stands_wrong u kind h k = record {
    n = n;
    before = r.free;
    not_whole = not_whole;
    here = wrong kind (goes_on (first (suc n) (start line)) u (run_more (Some u) h)) (ap (kind_of g trees (around g (first n (start line)))) here ∙ k);
    at_is = at_place;
  }

  no_fault_here : (u : State) (kind : ℕ) → step s (token_here s rest) ≡ Some u → kind_of g trees (around g (first n (start line))) (token_here s rest) ≡ None → HasFault g trees line n kind → ⊥
  no_fault_here u kind h k (stray never) = never (goes_on (first (suc n) (start line)) u (run_more (Some u) h))
  no_fault_here u kind h k (wrong _ goes e) = let c : None ≡ Some kind = sym (ap (kind_of g trees (around g (first n (start line)))) here ∙ k) ∙ e in cc

  moved : (u : State) → step s (token_here s rest) ≡ Some u → kind_of g trees (around g (first n (start line))) (token_here s rest) ≡ None
      → Moves g (around g (first n (start line))) (opened g (first n (start line))) (first n (start line)) (token_here s rest) u
  moved u h k =
      subst (MovesTo g (around g (first n (start line))) (opened g (first n (start line))) (first n (start line)) (token_here s rest)) h
      (moves g two trees (around g (first n (start line))) (opened g (first n (start line))) (first n (start line)) s (token_here s rest) r.fits (lawful (wants_attribute s) (skip rest)) k)

  -- the open nodes take the token
  pub stands_takes : (u : State) → step s (token_here s rest) ≡ Some u → kind_of g trees (around g (first n (start line))) (token_here s rest) ≡ None → TakesToken (opened g (first n (start line))) (token_here s rest)
  stands_takes u h k = (moved u h k).takes

  pub opened_more : opened g (first (suc n) (start line)) ≡ opened_next g (opened g (first n (start line))) (token_here s rest)
  opened_more = ap (opened g) one_more ∙ opened-snoc g [] (first n (start line)) (token_here s rest)

  pub around_more : around g (first (suc n) (start line)) ≡ around_next g (around g (first n (start line))) (token_here s rest)
  around_more = ap (around g) one_more ∙ around-snoc g (record { names = 0; bare = None; parents = [] }) (first n (start line)) (token_here s rest)

  below_suc : (k : ℕ) → k < suc n → (k < n) ⊎ (k ≡ n)
  below_suc k h = grind arith

  -- the line goes on
  pub stands_next : (u : State) → step s (token_here s rest) ≡ Some u → kind_of g trees (around g (first n (start line))) (token_here s rest) ≡ None → (u ≡ Ended → ⊥)
      → Stands g trees line (suc n) u (drop (width (token_here s rest)) (skip rest))
  stands_next u h k open_still = record {
    run = run_more (Some u) h;
    spot = after-snoc n (start line) ∙ ap behind r.spot ∙ ap (λ b. record { attribute = b; text = drop (width (token_here s rest)) (skip rest) }) (sym (step_flag s (token_here s rest) u h));
    room = omega (arith, r.room, step_depth s (token_here s rest) u h, shorter s u (skip rest) h open_still, skip_short rest);
    open_still = open_still;
    free = λ j kind lt f. elim (below_suc j lt) [ inl l ↦ r.free j kind l f | inr e ↦ no_fault_here u kind h k (subst (λ i. HasFault g trees line i kind) e f) ];
    few = λ some. few_next g trees (around g (first n (start line))) (token_here s rest) r.few k (subst (λ a. 0 < a.names) around_more some);
    fits = subst (λ o. Fits g u (around g (first (suc n) (start line))) o (first (suc n) (start line))) (sym opened_more)
        (subst (λ a. Fits g u a (opened_next g (opened g (first n (start line))) (token_here s rest)) (first (suc n) (start line))) (sym around_more)
        (subst (λ us. Fits g u (around_next g (around g (first n (start line))) (token_here s rest)) (opened_next g (opened g (first n (start line))) (token_here s rest)) us) (sym one_more)
        ((moved u h k).on open_still)));
  }

-- Where the line ends.

length-first : (n : ℕ) (line : List ℕ) → length (first n (start line)) ≡ n
length-first n line = counts n (start line)
  where
    counts : (n : ℕ) (p : Spot) → length (first n p) ≡ n
    counts zero p = refl
    counts (suc n) p = ap suc (counts n (behind p))

after_ended : (d : ℕ) (t : Token) → after_tree d t ≡ Some Ended → t ≡ End
after_ended (suc d) Comma h = cc
after_ended (suc d) Close h = cc
after_ended zero End h = refl
after_ended _ _ h = cc

pub step_ended : (s : State) (t : Token) → step s t ≡ Some Ended → t ≡ End
step_ended Start (Name n) h = cc
step_ended Start End h = refl
step_ended (Wanted d) (Name n) h = cc
step_ended (Named d) Colon h = cc
step_ended (Named d) Open h = cc
step_ended (Named d) t h = after_ended d t h
step_ended (Colonned d) (Number n) h = cc
step_ended (Colonned d) (Symbol n) h = cc
step_ended (Attributed d) Open h = cc
step_ended (Attributed d) t h = after_ended d t h
step_ended (Closed d) t h = after_ended d t h
step_ended _ _ h = cc

-- The line is blank, or its tokens are those of a tree. No tree stands behind the last one that may.
abbrev pub LineEnds : Grammar → ℕ → List ℕ → List Token → Type 0
LineEnds g trees line ts =
    ((ts ≡ []) × IsBlankLine line × (total (opened g ts) ≡ 0))
    ⊎ ((tree : Tree) × AreTokensOf g ts tree × SpellsLine g line tree × (trees < most_trees) × (0 < total (opened g ts)) × IsCutInto line ts)

pub stands_end : (g : Grammar) (two : HasPairsAtMost g) (trees : ℕ) (line : List ℕ) (n : ℕ) (s : State) (rest : List ℕ) (r : Stands g trees line n s rest)
    → step s (token_here s rest) ≡ Some Ended → kind_of g trees (around g (first n (start line))) (token_here s rest) ≡ None → LineEnds g trees line (first n (start line))
stands_end g two trees line n s rest r h k =
    let ts = first n (start line) in
    let f : Fits g s (around g ts) (opened g ts) ts = r.fits in
    let last : first (suc n) (start line) ≡ ts ++ (End ∷ []) = one_more g two trees line n s rest r ∙ ap (λ t. ts ++ (t ∷ [])) (step_ended s (token_here s rest) h) in
    let cut : IsCutInto line ts = ap (λ m. first (suc m) (start line)) (length-first n line) ∙ last in
    elim ((moved g two trees line n s rest r Ended h k).ends refl) [
      | inl e ↦ inl (e.1, subst (IsCutInto line) e.1 cut, ap total e.0)
      | inr e ↦
          let tree : Tree = record { nodes = postorder 0 (whole e.0) } in
          let q : total (opened g ts) ≡ size (whole e.0) + 0 = ap total e.1 in
          inr (
            tree,
            record { root = e.0; opened_is = e.1; spells = e.2; over = e.3; postorder = refl },
            record {
              tokens = ts;
              cut = cut;
              valid = record { plain = whole e.0; postorder = refl; over = e.3; small = omega (arith, f.few, f.names, q); shallow = e.4 };
              spells = e.2;
            },
            r.few (omega (arith, f.names, q, size_some (whole e.0))),
            omega (arith, q, size_some (whole e.0)),
            cut,
          )
    ]
