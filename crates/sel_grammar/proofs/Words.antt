-- The list of a derivation tells it, and where it ends.
use Rattle.std.proofs.Common.{◌≡◌, ℕ, List, [], ◌∷◌, ◌++◌, refl, ap, sym, ◌∙◌, append_assoc}
use Rattle.sel_grammar.specs.declared.grammar.Grammar.{Grammar}
use Rattle.sel_grammar.specs.PlainTrees.{PlainTree}
use Rattle.sel_grammar.specs.Fits.{leaves, rule_at}
use Rattle.sel_grammar.specs.Derivations.{Derivation, Deriv, Derivations, no_more, more, Derives, DeriveAll, list, lists}
use Rattle.sel_grammar.specs.Laws.{ListsAreWords}
use Rattle.sel_grammar.proofs.FreshChains.{kids_of}

first_same : {x y : ℕ} {xs ys : List ℕ} → x ∷ xs ≡ y ∷ ys → x ≡ y
first_same h = cc

rest_same : {x y : ℕ} {xs ys : List ℕ} → x ∷ xs ≡ y ∷ ys → xs ≡ ys
rest_same h = cc

mutual
  list_tells : (g : Grammar) (d e : Derivation) (n : ℕ) (t : PlainTree) (xs ys : List ℕ) → Derives g d n t → Derives g e n t → list d ++ xs ≡ list e ++ ys → (d ≡ e) × (xs ≡ ys)
  list_tells g (Deriv r ds) (Deriv q es) n t xs ys (rule, at, left, (ts, fit, all)) k p =
      let same : r ≡ q = first_same p in
      let kids : DeriveAll g es (leaves rule.pattern) ts = kids_of g t n q rule ts es (ap (rule_at g) (sym same) ∙ at) fit k in
      let s = lists_tell g ds es (leaves rule.pattern) ts xs ys all kids (rest_same p) in
      (λ i. Deriv (same i) (s.0 i), s.1)

  lists_tell : (g : Grammar) (ds es : Derivations) (ns : List ℕ) (ts : List PlainTree) (xs ys : List ℕ) → DeriveAll g ds ns ts → DeriveAll g es ns ts → lists ds ++ xs ≡ lists es ++ ys → (ds ≡ es) × (xs ≡ ys)
  lists_tell g no_more no_more ns ts xs ys h k p = (refl, p)
  lists_tell g no_more (more e es) [] [] xs ys h k p = absurd k
  lists_tell g no_more (more e es) [] (t ∷ ts) xs ys h k p = absurd h
  lists_tell g no_more (more e es) (n ∷ ns) ts xs ys h k p = absurd h
  lists_tell g (more d ds) no_more [] ts xs ys h k p = absurd h
  lists_tell g (more d ds) no_more (n ∷ ns) [] xs ys h k p = absurd h
  lists_tell g (more d ds) no_more (n ∷ ns) (t ∷ ts) xs ys h k p = absurd k
  lists_tell g (more d ds) (more e es) [] ts xs ys h k p = absurd h
  lists_tell g (more d ds) (more e es) (n ∷ ns) [] xs ys h k p = absurd h
  lists_tell g (more d ds) (more e es) (n ∷ ns) (t ∷ ts) xs ys h k p =
      let s = list_tells g d e n t (lists ds ++ xs) (lists es ++ ys) h.0 k.0 (sym (append_assoc (list d) (lists ds) xs) ∙ p ∙ append_assoc (list e) (lists es) ys) in
      let u = lists_tell g ds es ns ts xs ys h.1 k.1 s.1 in
      (λ i. more (s.0 i) (u.0 i), u.1)

pub lists_are_words : ListsAreWords
lists_are_words g n t d e xs ys h k p = list_tells g d e n t xs ys h k p
