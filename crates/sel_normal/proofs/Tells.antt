-- Helpers left out, the list of a derivation in the normal form still tells it.
use Rattle.std.proofs.Common.{◌≡◌, ℕ, zero, suc, ◌+◌, ◌<◌, ◌≤◌, ◌⊎◌, inl, inr, List, [], ◌∷◌, ◌++◌, length, refl, ap, subst, sym, ◌∙◌, Option, Some, None, slice_get, arith, append_assoc}
use Rattle.sel_grammar.specs.declared.grammar.Grammar.{Grammar}
use Rattle.sel_grammar.specs.declared.grammar.Rule.{Rule}
use Rattle.sel_grammar.specs.declared.grammar.Pattern.{Pattern}
use Rattle.sel_grammar.specs.PlainTrees.{PlainTree}
use Rattle.sel_grammar.specs.Fits.{leaves, rule_at}
use Rattle.sel_grammar.specs.Derivations.{Derivation, Deriv, Derivations, no_more, more, Derives, DeriveAll, list, lists}
use Rattle.sel_grammar.specs.Lawful.{IsLawful}
use Rattle.sel_grammar.proofs.FreshChains.{kids_of}
use Rattle.sel_normal.specs.declared.normal.NormalRule.{NormalRule}
use Rattle.sel_normal.specs.NormalForms.{NormalForm, normal_at}
use Rattle.sel_normal.specs.Forms.{places, IsFormOf}
use Rattle.sel_normal.specs.Seen.{seen}
use Rattle.sel_normal.specs.Cuts.{CutUser, CutHelper, IsCut}
use Rattle.sel_normal.specs.Matches.{without_helpers}
use Rattle.sel_normal.proofs.Steps.{within_rules, rule_left}
use Rattle.sel_normal.proofs.Seeing.{seen_back}
use Rattle.sel_normal.proofs.Ups.{kept_both, kept_user, left_out}

first_same : {x y : ℕ} {xs ys : List ℕ} → x ∷ xs ≡ y ∷ ys → x ≡ y
first_same h = cc

rest_same : {x y : ℕ} {xs ys : List ℕ} → x ∷ xs ≡ y ∷ ys → xs ≡ ys
rest_same h = cc

module _ (g : Grammar) (normal : NormalForm) (h : IsLawful g) (form : IsFormOf g normal) (is_cut : IsCut g normal) where
  abbrev s : Grammar
  s = seen normal

  abbrev kept : List ℕ → List ℕ
  kept = without_helpers normal

  -- a normal rule is a user's, or the only one of its helper
  abbrev IsOwn : ℕ → ℕ → Type 0
  IsOwn q n = ((q ≤ length g.rules) × (n < length g.nonterminals)) ⊎ ((j : ℕ) × (q ≡ length g.rules + j + 1) × (n ≡ length g.nonterminals + j))

  own : (q n : ℕ) (t : PlainTree) (es : Derivations) → Derives s (Deriv q es) n t → IsOwn q n
  own q n t es (rule, at, left, rest) =
      let b = seen_back normal q rule at in
      go b.0 (ap (λ (x : Rule). x.left) (sym b.2) ∙ left) (is_cut.back q b.0 b.1)
    where
      go : (nr : NormalRule) → nr.left ≡ n
          → ((rule : Rule) × (rule_at g q ≡ Some rule) × CutUser g normal rule nr)
          ⊎ ((j : ℕ) × (part : Pattern) × (slice_get (places g.rules) j ≡ Some part) × (q ≡ length g.rules + j + 1) × CutHelper g j part nr) → IsOwn q n
      go nr e (inl (user, here, cut)) =
          let l : user.left ≡ n = ap (λ (x : NormalRule). x.left) (sym cut.is) ∙ e in
          let low = rule_left g q user h here in
          inl (within_rules g q user here, omega arith)
      go nr e (inr (j, part, here, number, cut)) = inr (j, number, sym (ap (λ (x : NormalRule). x.left) (sym cut.is) ∙ e))

  -- two rules of one nonterminal are told apart by the lists that they begin, or are one helper's
  told : (q r n : ℕ) (us vs xs ys : List ℕ) → IsOwn q n → IsOwn r n → kept (q ∷ us) ++ xs ≡ kept (r ∷ vs) ++ ys → (q ≡ r) × (kept us ++ xs ≡ kept vs ++ ys)
  told q r n us vs xs ys (inl a) (inl b) e =
      let users = form.user_rules in
      let f : q ∷ (kept us ++ xs) ≡ r ∷ (kept vs ++ ys) = ap (λ l. l ++ xs) (sym (kept_user normal q us (let z = a.0 in omega arith))) ∙ e ∙ ap (λ l. l ++ ys) (kept_user normal r vs (let z = b.0 in omega arith)) in
      (first_same f, rest_same f)
  told q r n us vs xs ys (inl a) (inr (j, is, at)) e = let z = a.1 in absurd (omega arith)
  told q r n us vs xs ys (inr (j, is, at)) (inl b) e = let z = b.1 in absurd (omega arith)
  told q r n us vs xs ys (inr (j, is, at)) (inr (i, is', at')) e =
      let users = form.user_rules in
      (omega arith, ap (λ l. l ++ xs) (sym (left_out normal q us (omega arith))) ∙ e ∙ ap (λ l. l ++ ys) (left_out normal r vs (omega arith)))

  mutual
    pub tells : (d e : Derivation) (n : ℕ) (t : PlainTree) (xs ys : List ℕ) → Derives s d n t → Derives s e n t → kept (list d) ++ xs ≡ kept (list e) ++ ys → (d ≡ e) × (xs ≡ ys)
    tells (Deriv q ds) (Deriv r es) n t xs ys (rule, at, left, (ts, fit, all)) k p =
        let o = told q r n (lists ds) (lists es) xs ys (own q n t ds (rule, at, left, (ts, fit, all))) (own r n t es k) p in
        let kids : DeriveAll s es (leaves rule.pattern) ts = kids_of s t n r rule ts es (ap (rule_at s) (sym o.0) ∙ at) fit k in
        let u = all_tell ds es (leaves rule.pattern) ts xs ys all kids o.1 in
        (λ i. Deriv (o.0 i) (u.0 i), u.1)

    all_tell : (ds es : Derivations) (ns : List ℕ) (ts : List PlainTree) (xs ys : List ℕ) → DeriveAll s ds ns ts → DeriveAll s es ns ts → kept (lists ds) ++ xs ≡ kept (lists es) ++ ys → (ds ≡ es) × (xs ≡ ys)
    all_tell no_more no_more ns ts xs ys h k p = (refl, p)
    all_tell no_more (more e es) [] [] xs ys h k p = absurd k
    all_tell no_more (more e es) [] (t ∷ ts) xs ys h k p = absurd h
    all_tell no_more (more e es) (n ∷ ns) ts xs ys h k p = absurd h
    all_tell (more d ds) no_more [] ts xs ys h k p = absurd h
    all_tell (more d ds) no_more (n ∷ ns) [] xs ys h k p = absurd h
    all_tell (more d ds) no_more (n ∷ ns) (t ∷ ts) xs ys h k p = absurd k
    all_tell (more d ds) (more e es) [] ts xs ys h k p = absurd h
    all_tell (more d ds) (more e es) (n ∷ ns) [] xs ys h k p = absurd h
    all_tell (more d ds) (more e es) (n ∷ ns) (t ∷ ts) xs ys h k p =
        let u = tells d e n t (kept (lists ds) ++ xs) (kept (lists es) ++ ys) h.0 k.0
        (sym (append_assoc (kept (list d)) (kept (lists ds)) xs) ∙ ap (λ l. l ++ xs) (sym (kept_both normal (list d) (lists ds))) ∙ p
        ∙ ap (λ l. l ++ ys) (kept_both normal (list e) (lists es)) ∙ append_assoc (kept (list e)) (kept (lists es)) ys) in
        let v = all_tell ds es ns ts xs ys h.1 k.1 u.1 in
        (λ i. more (u.0 i) (v.0 i), v.1)
