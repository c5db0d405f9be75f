-- A walk over the tokens of one item: what is known behind each.
use Rattle.std.proofs.Common.{◌≡◌, ℕ, suc, zero, ◌+◌, ◌-◌, inl, inr, List, [], ◌∷◌, ◌++◌, Option, Some, None, Bool, true, false, refl, ap, sym, ◌∙◌, subst, arith, length, length-drop, cond}
use Rattle.sel_grammar_text.specs.Blanks.{skip}
use Rattle.sel_grammar_text.specs.Tokens.{Token, Name, Open, End, token_of}
use Rattle.sel_grammar_text.specs.Form.{GoesOn}
use Rattle.sel_grammar_text.specs.Items.{Word}
use Rattle.sel_grammar_text.specs.Spots.{Spot, spot, first, after, behind, tokens, first_spots, here}
use Rattle.sel_grammar_text.specs.Cutting.{Cutting, cutting, with_spot, ends, item_of}
use Rattle.sel_grammar_text.specs.FormFaults.{HasFormFault, names_in, pattern_names, ends_integer, is_integer}
use Rattle.sel_grammar_text.specs.FormDecision.{decided_fault}
use Rattle.sel_grammar_text.specs.GrammarText.{HasFault, IsSoundUpTo, HasFirstFault, at_token}
use Rattle.sel_grammar_text.specs.Machine.{step, run, go, begin, is_border, is_declaring, wants_cost, is_name}
use Rattle.std.specs.List.{AllByRecursion}
use Rattle.sel_grammar_text.specs.ItemNumbers.{HasExternal}
use Rattle.sel_grammar_text.specs.Names.{rules}
use Rattle.sel_grammar_text.specs.Tables.{StandsRight}
use Rattle.sel_grammar_text.specs.Extents.{StandsAtItem, HasExtent}
use Rattle.sel_grammar_text.specs.declared.fault.Fault.{Fault}
use Rattle.sel_grammar_text.specs.declared.scan.Extent.{Extent}
use Rattle.sel_grammar_text.specs.declared.form.State.{State}
use Rattle.sel_grammar_text.specs.declared.form.State.TheVariants.{Named, Closed, Numbered, Ended}
use Rattle.sel_grammar_text.proofs.FormSound.{run-append}
use Rattle.sel_grammar_text.proofs.FormComplete.{goes_on, stops}
use Rattle.sel_grammar_text.proofs.Steps.{Reached, reached_next, first-snoc, after-snoc, tokens-snoc, cutting-snoc}
use Rattle.sel_grammar_text.proofs.Decided.{decided, undecided}
use Rattle.sel_grammar_text.proofs.Bordering.{Begun, begun_next, border_begun}
use Rattle.sel_grammar_text.proofs.Tails.{Tailed, tailed_next, border_tailed, declared_before}
use Rattle.sel_grammar_text.proofs.Depths.{CameLast, step_came, step_end}

-- Of a text in which an item begins behind n tokens, with the bytes `text`: `count` tokens further nothing is wrong, the
-- state there is s, `rest` is left, and so many names have come.
pub record Walked (bytes : List ℕ) (n : ℕ) (text : List ℕ) (s : State) (names : ℕ) (rest : List ℕ) (count : ℕ) : Type 0 where
  pub k : ℕ
  pub reached : run (tokens (first_spots k bytes)) begin ≡ Some s
  pub sound : IsSoundUpTo bytes k
  pub rest_is : rest ≡ after k bytes
  pub items : (cutting k bytes).items ≡ (cutting n bytes).items
  pub spots : (cutting k bytes).left ≡ first (length bytes) count text
  pub rest_from : rest ≡ after count text
  pub names_are : names ≡ length (names_in (cutting k bytes).left)
  pub begun : Begun s (cutting k bytes).left
  pub tailed : Tailed s (cutting k bytes).left
  pub declared : (first : State) → run (tokens (first_spots n bytes)) begin ≡ Some first → is_declaring s ≡ true → is_declaring first ≡ true

abbrev pub Walk : ℕ → State → List ℕ → State → ℕ → List ℕ → ℕ → Type 0
Walk all start text s names rest count = (bytes : List ℕ) (n : ℕ) → length bytes ≡ all → StandsAtItem bytes n start text → Walked bytes n text s names rest count

pub walk_start : (all : ℕ) (start : State) (text : List ℕ) → is_border start ≡ true → Walk all start text start 0 text 0
walk_start all start text b bytes n e h = record {
  k = n;
  reached = h.reached;
  sound = h.sound;
  rest_is = h.left_is;
  items = refl;
  spots = h.nothing_left;
  rest_from = refl;
  names_are = sym (ap (λ l. length (names_in l)) h.nothing_left);
  begun = subst (Begun start) (sym h.nothing_left) (border_begun start b);
  tailed = subst (Tailed start) (sym h.nothing_left) (border_tailed start b);
  declared = λ first r d. let e : Some start ≡ Some first = sym h.reached ∙ r in subst (λ z. is_declaring z ≡ true) (let f : start ≡ first = cc in f) d;
}

-- what is seen of the next token
pub record Sees (all : ℕ) (rest from more : List ℕ) (t : Token) (at : ℕ) : Type 0 where
  pub from_is : from ≡ skip rest
  pub token_is : t ≡ token_of (skip rest)
  pub more_is : more ≡ behind rest
  pub at_is : at ≡ all - length from

abbrev at_spot : Token → ℕ → Spot
at_spot t at = record { token = t; at = at }

-- the token behind the tokens so far
here_is : (all : ℕ) (bytes rest from more : List ℕ) (t : Token) (at k : ℕ) → Sees all rest from more t at → length bytes ≡ all → rest ≡ after k bytes → here k bytes ≡ at_spot t at
here_is all bytes rest from more t at k e l r =
    let place : at ≡ length bytes - length (skip (after k bytes)) = e.at_is ∙ ap (λ x. all - length x) e.from_is ∙ ap (λ x. all - length (skip x)) r ∙ ap (λ x. x - length (skip (after k bytes))) (sym l) in
    let token : t ≡ token_of (skip (after k bytes)) = e.token_is ∙ ap (λ x. token_of (skip x)) r in
    sym (ap (λ x. at_spot x at) token ∙ ap (at_spot (token_of (skip (after k bytes)))) place)

more_is : (all : ℕ) (bytes rest from more : List ℕ) (t : Token) (at k : ℕ) → Sees all rest from more t at → rest ≡ after k bytes → more ≡ after (suc k) bytes
more_is all bytes rest from more t at k e r = e.more_is ∙ ap behind r ∙ sym (after-snoc k bytes)

-- one more token
pub run_one : (ts : List Token) (t : Token) (s : State) → run ts begin ≡ Some s → run (ts ++ t ∷ []) begin ≡ step s t
run_one ts t s h = run-append ts (t ∷ []) begin ∙ ap (go (run (t ∷ []))) h ∙ gone (step s t)
  where
    gone : (o : Option State) → go (run []) o ≡ o
    gone None = refl
    gone (Some u) = refl

-- Whether an Integer came last makes no difference but where a parenthesis may follow.
ends_snoc : (xs : List Spot) (x : Spot) → ends_integer (xs ++ x ∷ []) ≡ is_integer x.token
ends_snoc [] x = refl
ends_snoc (y ∷ []) x = refl
ends_snoc (y ∷ z ∷ xs) x = ends_snoc (z ∷ xs) x

came_last : (bytes : List ℕ) (k : ℕ) (s : State) → run (tokens (first_spots k bytes)) begin ≡ Some s → CameLast s (ends_integer (first_spots k bytes))
came_last bytes zero s h = let e : begin ≡ s = cc in subst (λ u. CameLast u false) e tt
came_last bytes (suc k) s h =
    from (run (tokens (first_spots k bytes)) begin) refl
    (sym (run-append (tokens (first_spots k bytes)) ((here k bytes).token ∷ []) begin) ∙ sym (ap (λ ts. run ts begin) (tokens-snoc k bytes)) ∙ h)
  where
    last : CameLast s (is_integer (here k bytes).token) → CameLast s (ends_integer (first_spots (suc k) bytes))
    last x = subst (CameLast s) (sym (ap ends_integer (first-snoc (length bytes) k bytes) ∙ ends_snoc (first_spots k bytes) (here k bytes))) x

    gone : (o : Option State) → go (run []) o ≡ o
    gone None = refl
    gone (Some u) = refl

    from : (o : Option State) → run (tokens (first_spots k bytes)) begin ≡ o → go (run ((here k bytes).token ∷ [])) o ≡ Some s → CameLast s (ends_integer (first_spots (suc k) bytes))
    from None e g = let z : ⊥ = cc in absurd z
    from (Some u) e g = last (step_came u (here k bytes).token s (sym (gone (step u (here k bytes).token)) ∙ g))

abbrev Same : ℕ → State → ℕ → Bool → List ℕ → Token → ℕ → Type 0
Same all s names b more t at = decided_fault all s names b (at_spot t at) more ≡ decided_fault all s names (wants_cost s) (at_spot t at) more

open_same : (all : ℕ) (s : State) (names : ℕ) (b : Bool) (more : List ℕ) (at : ℕ) → CameLast s b → Same all s names b more Open at
unfolding decided_fault
open_same all (Named d) names b more at h = ap (λ c. decided_fault all (Named d) names c (at_spot Open at) more) h
open_same all Numbered names b more at h = ap (λ c. decided_fault all Numbered names c (at_spot Open at) more) h
open_same all (Closed zero) names b more at h = refl
open_same all (Closed (suc d)) names b more at h = refl
open_same all _ names b more at h = refl

same_decision : (all : ℕ) (s : State) (names : ℕ) (b : Bool) (more : List ℕ) (t : Token) (at : ℕ) → CameLast s b → Same all s names b more t at
unfolding decided_fault
same_decision all s names b more Open at h = open_same all s names b more at h
same_decision all s names b more _ at h = refl

-- the names among some spots, by the first one
abbrev names_by : Token → ℕ → List Word → List Word
names_by t at ws = elim t as (λ _. List Word) [ Name n ↦ record { bytes = n; at = at } ∷ ws | _ ↦ ws ]

one_by : (t : Token) (at m : ℕ) (vs ws : List Word) → length vs ≡ length ws + m → length (names_by t at vs) ≡ length (names_by t at ws) + m
one_by (Name n) at m vs ws h = omega (arith, h)
one_by _ at m vs ws h = h

-- how many names stand there, with one token more
names_next : (xs : List Spot) (t : Token) (at : ℕ) → length (names_in (xs ++ at_spot t at ∷ [])) ≡ length (names_in xs) + cond (is_name t) 1 0
names_next [] (Name n) at = refl
names_next [] _ at = refl
names_next (y ∷ xs) t at = one_by y.token y.at (cond (is_name t) 1 0) (names_in (xs ++ at_spot t at ∷ [])) (names_in xs) (names_next xs t at)

module _ (all : ℕ) (start : State) (text : List ℕ) (s : State) (names : ℕ) (rest : List ℕ) (count : ℕ) (w : Walk all start text s names rest count)
    (from more : List ℕ) (t : Token) (at : ℕ) (sees : Sees all rest from more t at) where
  -- the tests of the token, where it stands
  decision : (bytes : List ℕ) (n : ℕ) (l : length bytes ≡ all) (h : StandsAtItem bytes n start text) (o : Option Fault) → decided_fault all s (names - 1) (wants_cost s) (at_spot t at) more ≡ o
      → decided_fault (length bytes) s (pattern_names (cutting (w bytes n l h).k bytes).left) (ends_integer (first_spots (w bytes n l h).k bytes)) (here (w bytes n l h).k bytes) (after (suc (w bytes n l h).k) bytes) ≡ o
  decision bytes n l h o d =
      let k = (w bytes n l h).k in
      let few : pattern_names (cutting k bytes).left ≡ names - 1 = omega (arith, length-drop 1 (names_in (cutting k bytes).left), (w bytes n l h).names_are) in
      let spot_is : here k bytes ≡ at_spot t at = here_is all bytes rest from more t at k sees l (w bytes n l h).rest_is in
      let more_are : more ≡ after (suc k) bytes = more_is all bytes rest from more t at k sees (w bytes n l h).rest_is in
      let b = ends_integer (first_spots k bytes) in
      ap (λ x. decided_fault x s (pattern_names (cutting k bytes).left) b (here k bytes) (after (suc k) bytes)) l
      ∙ ap (λ x. decided_fault all s x b (here k bytes) (after (suc k) bytes)) few
      ∙ ap (λ x. decided_fault all s (names - 1) b x (after (suc k) bytes)) spot_is
      ∙ ap (λ x. decided_fault all s (names - 1) b (at_spot t at) x) (sym more_are)
      ∙ same_decision all s (names - 1) b more t at (came_last bytes k s (w bytes n l h).reached)
      ∙ d

  goes : (bytes : List ℕ) (n : ℕ) (l : length bytes ≡ all) (h : StandsAtItem bytes n start text) (x : Token) (u : State) → step s x ≡ Some u → GoesOn (tokens (first_spots (w bytes n l h).k bytes) ++ x ∷ [])
  goes bytes n l h x u e = goes_on (tokens (first_spots (w bytes n l h).k bytes) ++ x ∷ []) u (run_one (tokens (first_spots (w bytes n l h).k bytes)) x s (w bytes n l h).reached ∙ e)

  stops_at : (bytes : List ℕ) (n : ℕ) (l : length bytes ≡ all) (h : StandsAtItem bytes n start text) (x : Token) → step s x ≡ None → GoesOn (tokens (first_spots (w bytes n l h).k bytes) ++ x ∷ []) → ⊥
  stops_at bytes n l h x e = stops (tokens (first_spots (w bytes n l h).k bytes) ++ x ∷ []) (run_one (tokens (first_spots (w bytes n l h).k bytes)) x s (w bytes n l h).reached ∙ e)

  -- a token with a fault of form has the first fault of the text
  pub walk_fault : (f : Fault) → decided_fault all s (names - 1) (wants_cost s) (at_spot t at) more ≡ Some f → (bytes : List ℕ) (n : ℕ) → length bytes ≡ all → StandsAtItem bytes n start text → HasFirstFault bytes f
  unfolding HasFault
  walk_fault f d bytes n l h =
      let k = (w bytes n l h).k in
      at_token k f (w bytes n l h).sound
      (inl (decided (length bytes) s (first_spots k bytes) (cutting k bytes).left (after (suc k) bytes) (goes bytes n l h) (stops_at bytes n l h) (here k bytes) f (decision bytes n l h (Some f) d)))

  well_formed : decided_fault all s (names - 1) (wants_cost s) (at_spot t at) more ≡ None → (bytes : List ℕ) (n : ℕ) (l : length bytes ≡ all) (h : StandsAtItem bytes n start text) (f : Fault) → HasFormFault bytes (w bytes n l h).k f → ⊥
  well_formed d bytes n l h f x =
      let k = (w bytes n l h).k in
      undecided (length bytes) s (first_spots k bytes) (cutting k bytes).left (after (suc k) bytes) (goes bytes n l h) (stops_at bytes n l h) (here k bytes) f (decision bytes n l h None d) x

  step_here : (bytes : List ℕ) (n : ℕ) (l : length bytes ≡ all) (h : StandsAtItem bytes n start text) (u : State) → step s t ≡ Some u → step s (here (w bytes n l h).k bytes).token ≡ Some u
  step_here bytes n l h u e = ap (λ x. step s x.token) (here_is all bytes rest from more t at (w bytes n l h).k sees l (w bytes n l h).rest_is) ∙ e

  -- the spots of the item, one further
  spots_next : (bytes : List ℕ) (n : ℕ) (l : length bytes ≡ all) (h : StandsAtItem bytes n start text) → (cutting (w bytes n l h).k bytes).left ++ here (w bytes n l h).k bytes ∷ [] ≡ first (length bytes) (suc count) text
  spots_next bytes n l h =
      let k = (w bytes n l h).k in
      let last : here k bytes ≡ spot (length bytes) (after count text) = ap (spot (length bytes)) (sym (w bytes n l h).rest_is ∙ (w bytes n l h).rest_from) in
      ap (λ xs. xs ++ here k bytes ∷ []) (w bytes n l h).spots ∙ ap (λ x. first (length bytes) count text ++ x ∷ []) last ∙ sym (first-snoc (length bytes) count text)

  cut_on_false : (c : Cutting) (x : Spot) → ends c.left x.token ≡ false → with_spot c x ≡ record { items = c.items; left = c.left ++ x ∷ [] }
  cut_on_false c x h = ap (λ b. cond b (record { items = c.items ++ item_of (c.left ++ x ∷ []); left = [] }) (record { items = c.items; left = c.left ++ x ∷ [] })) h

  pub not_ended : (u : State) → is_border u ≡ false → u ≡ Ended → ⊥
  not_ended u b e = let z : true ≡ false = sym (ap is_border e) ∙ b in cc

  no_fault : decided_fault all s (names - 1) (wants_cost s) (at_spot t at) more ≡ None → (bytes : List ℕ) (n : ℕ) (l : length bytes ≡ all) (h : StandsAtItem bytes n start text)
      → ends (cutting (w bytes n l h).k bytes).left (here (w bytes n l h).k bytes).token ≡ false → (f : Fault) → HasFault bytes (w bytes n l h).k f → ⊥
  unfolding HasFault
  no_fault d bytes n l h e f (inl x) = well_formed d bytes n l h f x
  no_fault d bytes n l h e f (inr x) = let z : true ≡ false = sym x.1 ∙ e in cc

  -- a token within the item leads on
  pub walk_next : (u : State) (names' : ℕ) (count' : ℕ) → decided_fault all s (names - 1) (wants_cost s) (at_spot t at) more ≡ None → step s t ≡ Some u → is_border u ≡ false
      → names' ≡ names + cond (is_name t) 1 0 → count' ≡ suc count → Walk all start text u names' more count'
  walk_next u names' count' d e b m c bytes n l h =
      let x = w bytes n l h in
      let k = x.k in
      let spot_is : here k bytes ≡ at_spot t at = here_is all bytes rest from more t at k sees l x.rest_is in
      let next = begun_next s u t at (cutting k bytes).left x.begun e in
      let number = tailed_next s u t at (cutting k bytes).left x.tailed e in
      let open_still : ends (cutting k bytes).left (here k bytes).token ≡ false = ap (λ y. ends (cutting k bytes).left y.token) spot_is ∙ next.0.1 b in
      let cut : cutting (suc k) bytes ≡ record { items = (cutting k bytes).items; left = (cutting k bytes).left ++ here k bytes ∷ [] } = cutting-snoc k bytes ∙ cut_on_false (cutting k bytes) (here k bytes) open_still in
      let left_is : (cutting (suc k) bytes).left ≡ (cutting k bytes).left ++ here k bytes ∷ [] = ap (λ y. y.left) cut in
      let r : Reached bytes (suc k) u =
      reached_next bytes k s u (record { run_so = x.reached; sound = x.sound.faultless; no_text = x.sound.open_still }) (step_here bytes n l h u e) (not_ended u b) (no_fault d bytes n l h open_still) in
      record {
        k = suc k;
        reached = r.run_so;
        sound = record { faultless = r.sound; open_still = r.no_text };
        rest_is = more_is all bytes rest from more t at k sees x.rest_is;
        items = ap (λ y. y.items) cut ∙ x.items;
        spots = left_is ∙ spots_next bytes n l h ∙ ap (λ y. first (length bytes) y text) (sym c);
        rest_from = sees.more_is ∙ ap behind x.rest_from ∙ sym (after-snoc count text) ∙ ap (λ y. after y text) (sym c);
        names_are = m ∙ ap (λ y. y + cond (is_name t) 1 0) x.names_are ∙ sym (names_next (cutting k bytes).left t at) ∙ ap (λ y. length (names_in ((cutting k bytes).left ++ y ∷ []))) (sym spot_is) ∙ sym (ap (λ y. length (names_in y)) left_is);
        begun = subst (Begun u) (ap (λ y. (cutting k bytes).left ++ y ∷ []) (sym spot_is) ∙ sym left_is) (next.0.0 b);
        declared = λ first r z. x.declared first r (declared_before s u t e z);
        tailed = subst (Tailed u) (ap (λ y. (cutting k bytes).left ++ y ∷ []) (sym spot_is) ∙ sym left_is) (number.0 b);
      }

  -- a token that ends the item, or the text
  pub walk_end : (u : State) (extent : Extent) → decided_fault all s (names - 1) (wants_cost s) (at_spot t at) more ≡ None → step s t ≡ Some u → is_border u ≡ true
      → extent.count ≡ suc count → extent.state ≡ u → extent.last ≡ at → extent.behind.now ≡ more → (bytes : List ℕ) (n : ℕ) → length bytes ≡ all → StandsAtItem bytes n start text → HasExtent bytes n text extent
  walk_end u extent d e b c s' p m bytes n l h =
      let x = w bytes n l h in
      let k = x.k in
      let spot_is : here k bytes ≡ at_spot t at = here_is all bytes rest from more t at k sees l x.rest_is in
      let next = begun_next s u t at (cutting k bytes).left x.begun e in
      let number = tailed_next s u t at (cutting k bytes).left x.tailed e in
      record {
        last = k;
        state = s;
        reached = x.reached;
        stepped = step_here bytes n l h u e ∙ ap Some (sym s');
        sound = x.sound;
        well_formed = well_formed d bytes n l h;
        items = x.items;
        spots = spots_next bytes n l h ∙ ap (λ y. first (length bytes) y text) (sym c);
        ends = elim (next.1 b) [
          | inl y ↦ inl (subst (λ z. ends (cutting k bytes).left z.token ≡ true) (sym spot_is) y)
          | inr y ↦ inr (subst (λ z. item_of ((cutting k bytes).left ++ z ∷ []) ≡ []) (sym spot_is) y.0, s' ∙ y.1)
        ];
        number = subst (λ y. AllByRecursion HasExternal (item_of ((cutting k bytes).left ++ y ∷ []))) (sym spot_is) (number.1 b).number;
        no_rule = λ z. subst (λ y. rules (item_of ((cutting k bytes).left ++ y ∷ [])) ≡ []) (sym spot_is) ((number.1 b).no_rule (subst (λ y. is_declaring y ≡ true) s' z));
        order = λ before z. subst (λ y. AllByRecursion (StandsRight before) (item_of ((cutting k bytes).left ++ y ∷ []))) (sym spot_is) ((number.1 b).order before (λ v. z (subst (λ y. is_declaring y ≡ true) (sym s') v)));
        declared = λ first r z. x.declared first r (declared_before s u t e (subst (λ y. is_declaring y ≡ true) s' z));
        place = p ∙ ap (λ y. y.at) (sym spot_is);
        behind = m ∙ more_is all bytes rest from more t at k sees x.rest_is;
      }

  -- a token within the item isn't the end
  pub not_end : (u : State) → step s t ≡ Some u → (u ≡ Ended → ⊥) → token_of (skip rest) ≡ End → ⊥
  not_end u e h x = h (step_end s u (ap (step s) (sym (sees.token_is ∙ x)) ∙ e))
