-- What is known of the items of a text without a fault.
use Rattle.std.proofs.Common.{◌≡◌, ℕ, suc, zero, ◌<◌, ◌⊎◌, inl, inr, List, [], ◌∷◌, ◌++◌, Option, Some, None, Bool, true, false, refl, ap, sym, ◌∙◌, subst, arith, cond}
use Rattle.sel_grammar_text.specs.declared.fault.Fault.{Fault}
use Rattle.sel_grammar_text.specs.declared.form.State.{State}
use Rattle.sel_grammar_text.specs.declared.form.State.TheVariants.{Ended}
use Rattle.sel_grammar_text.specs.Names.{rules}
use Rattle.sel_grammar_text.specs.Spots.{Spot, tokens, first_spots, here}
use Rattle.sel_grammar_text.specs.Cutting.{Cutting, cutting, ends, item_of}
use Rattle.sel_grammar_text.specs.ItemFaults.{check_all}
use Rattle.sel_grammar_text.specs.GrammarText.{HasFault, IsWhole, items_of}
use Rattle.sel_grammar_text.specs.Machine.{step, run, go, begin, is_border, is_declaring}
use Rattle.sel_grammar_text.proofs.FormSound.{run-append}
use Rattle.sel_grammar_text.proofs.FormComplete.{complete}
use Rattle.sel_grammar_text.proofs.Steps.{tokens-snoc, cutting-snoc}
use Rattle.sel_grammar_text.proofs.Bordering.{Begun, GoesOrEnds, begun_next, border_begun}
use Rattle.sel_grammar_text.proofs.Tails.{Tailed, GoesOrIsFine, IsFine, tailed_next, border_tailed, declared_before}
use Rattle.sel_grammar_text.proofs.ItemLists.{rules-append}
use Rattle.sel_grammar_text.proofs.Known.{IsKnown, known_none, known_more}

-- what is known behind some tokens, where the state is s
record Behind (c : Cutting) (s : State) : Type 0 where
  begun : Begun s c.left
  tailed : Tailed s c.left
  known : IsKnown c.items
  no_rules : is_declaring s ≡ true → rules c.items ≡ []

-- a token that ends no item
behind_open : (c : Cutting) (x : Spot) (s u : State) → Behind c s → step s x.token ≡ Some u → ends c.left x.token ≡ false → Behind (record { items = c.items; left = c.left ++ (x ∷ []) }) u
behind_open c x s u b h e =
    let next = begun_next s u x.token x.at c.left b.begun h in
    let number = tailed_next s u x.token x.at c.left b.tailed h in
    go (is_border u) refl next number
  where
    none : is_declaring u ≡ true → rules c.items ≡ []
    none d = b.no_rules (declared_before s u x.token h d)

    last : (ends c.left x.token ≡ true) ⊎ ((item_of (c.left ++ (x ∷ [])) ≡ []) × (u ≡ Ended)) → u ≡ Ended
    last (inl y) = let z : true ≡ false = sym y ∙ e in absurd (let w : ⊥ = cc in w)
    last (inr y) = y.1

    go : (d : Bool) → is_border u ≡ d → GoesOrEnds c.left x.token x.at u → GoesOrIsFine c.left x.token x.at u → Behind (record { items = c.items; left = c.left ++ (x ∷ []) }) u
    go false d next number = record { begun = next.0.0 d; tailed = number.0 d; known = b.known; no_rules = none }
    go true d next number =
        let z : u ≡ Ended = last (next.1 d) in
        record { begun = subst (λ v. Begun v (c.left ++ (x ∷ []))) (sym z) tt; tailed = subst (λ v. Tailed v (c.left ++ (x ∷ []))) (sym z) tt; known = b.known; no_rules = none }

-- a token that ends an item
behind_ended : (c : Cutting) (x : Spot) (s u : State) → Behind c s → step s x.token ≡ Some u → ends c.left x.token ≡ true → check_all c.items (item_of (c.left ++ (x ∷ []))) ≡ None
    → Behind (record { items = c.items ++ item_of (c.left ++ (x ∷ [])); left = [] }) u
behind_ended c x s u b h e passed =
    let next = begun_next s u x.token x.at c.left b.begun h in
    let number = tailed_next s u x.token x.at c.left b.tailed h in
    go (is_border u) refl next number
  where
    none : is_declaring u ≡ true → rules c.items ≡ []
    none d = b.no_rules (declared_before s u x.token h d)

    go : (d : Bool) → is_border u ≡ d → GoesOrEnds c.left x.token x.at u → GoesOrIsFine c.left x.token x.at u → Behind (record { items = c.items ++ item_of (c.left ++ (x ∷ [])); left = [] }) u
    go false d next number = let z : false ≡ true = sym (next.0.1 d) ∙ e in absurd (let w : ⊥ = cc in w)
    go true d next number =
        let f : IsFine u (item_of (c.left ++ (x ∷ []))) = number.1 d in
        record {
          begun = border_begun u d;
          tailed = border_tailed u d;
          known = known_more (is_declaring u) (item_of (c.left ++ (x ∷ []))) c.items b.known passed none f.no_rule f.order;
          no_rules = λ z. rules-append c.items (item_of (c.left ++ (x ∷ []))) ∙ ap (λ y. y ++ rules (item_of (c.left ++ (x ∷ [])))) (none z) ∙ f.no_rule z;
        }

-- a token without a fault
faultless : (bytes : List ℕ) (k : ℕ) → ((f : Fault) → HasFault bytes k f → ⊥) → ends (cutting k bytes).left (here k bytes).token ≡ true
    → check_all (cutting k bytes).items (item_of ((cutting k bytes).left ++ (here k bytes ∷ []))) ≡ None
unfolding HasFault
faultless bytes k none e = go (check_all (cutting k bytes).items (item_of ((cutting k bytes).left ++ (here k bytes ∷ [])))) refl
  where
    go : (o : Option Fault) → check_all (cutting k bytes).items (item_of ((cutting k bytes).left ++ (here k bytes ∷ []))) ≡ o → o ≡ None
    go None h = refl
    go (Some f) h = absurd (none f (inr (λ g y. none g (inl y), e, h)))

behind_next : (bytes : List ℕ) (k : ℕ) (s u : State) → Behind (cutting k bytes) s → step s (here k bytes).token ≡ Some u → ((f : Fault) → HasFault bytes k f → ⊥) → Behind (cutting (suc k) bytes) u
behind_next bytes k s u b h none = subst (λ c. Behind c u) (sym (cutting-snoc k bytes)) (go (ends (cutting k bytes).left (here k bytes).token) refl)
  where
    go : (d : Bool) → ends (cutting k bytes).left (here k bytes).token ≡ d
        → Behind (cond {A = Cutting} d (record { items = (cutting k bytes).items ++ item_of ((cutting k bytes).left ++ (here k bytes ∷ [])); left = [] }) (record { items = (cutting k bytes).items; left = (cutting k bytes).left ++ (here k bytes ∷ []) })) u
    go true e = behind_ended (cutting k bytes) (here k bytes) s u b h e (faultless bytes k none e)
    go false e = behind_open (cutting k bytes) (here k bytes) s u b h e

behind_start : (bytes : List ℕ) → Behind (cutting 0 bytes) begin
unfolding cutting
behind_start bytes = record { begun = refl; tailed = refl; known = known_none; no_rules = λ _. refl }

behind_all : (bytes : List ℕ) (k : ℕ) (s : State) → run (tokens (first_spots k bytes)) begin ≡ Some s → ((j : ℕ) (f : Fault) → j < k → HasFault bytes j f → ⊥) → Behind (cutting k bytes) s
behind_all bytes zero s h none = let e : begin ≡ s = cc in subst (Behind (cutting 0 bytes)) e (behind_start bytes)
behind_all bytes (suc k) s h none =
    from (run (tokens (first_spots k bytes)) begin) refl
    (sym (run-append (tokens (first_spots k bytes)) ((here k bytes).token ∷ []) begin) ∙ sym (ap (λ ts. run ts begin) (tokens-snoc k bytes)) ∙ h)
    (λ u r. behind_all bytes k u r (λ j f l. none j f (omega (arith, l))))
  where
    gone : (o : Option State) → go (run []) o ≡ o
    gone None = refl
    gone (Some u) = refl

    from : (o : Option State) → run (tokens (first_spots k bytes)) begin ≡ o → go (run ((here k bytes).token ∷ [])) o ≡ Some s
        → ((u : State) → run (tokens (first_spots k bytes)) begin ≡ Some u → Behind (cutting k bytes) u) → Behind (cutting (suc k) bytes) s
    from None e g more = let z : ⊥ = cc in absurd z
    from (Some u) e g more = behind_next bytes k u s (more u e) (sym (gone (step u (here k bytes).token)) ∙ g) (λ f. none k f (omega arith))

-- the items of a whole text are known
pub whole_known : (bytes : List ℕ) (n : ℕ) → IsWhole bytes n → IsKnown (items_of n bytes)
whole_known bytes n w = (behind_all bytes (suc n) Ended (complete (tokens (first_spots (suc n) bytes)) w.whole) (λ j f l x. by j f l x)).known
  where
    split : (j : ℕ) → j < suc n → (j < n) ⊎ (j ≡ n)
    split j l = grind (arith, l)

    by : (j : ℕ) (f : Fault) → j < suc n → HasFault bytes j f → ⊥
    by j f l x = elim (split j l) [
      | inl m ↦ w.before.faultless j f m x
      | inr e ↦ w.last f (subst (λ i. HasFault bytes i f) e x)
    ]
