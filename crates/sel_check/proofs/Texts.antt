-- The text of certificates, tree by tree.
use Rattle.std.proofs.Common.{◌≡◌, ℕ, ◌+◌, ◌<◌, ◌&&◌, Bool, true, false, ◌≤◌, List, [], ◌∷◌, ◌++◌, is_some, length, take, refl, ap, sym, ◌∙◌, subst, arith, append_assoc, append-nil, length-take, slice_index_or}
use Rattle.std.specs.List.{list_all}
use Rattle.sel_grammar.specs.declared.grammar.Grammar.{Grammar}
use Rattle.sel_forest.specs.declared.forest.Tree.{Tree}
use Rattle.sel_check.specs.declared.certificate.TreeCertificate.{TreeCertificate}
use Rattle.sel_check.specs.CertificateTexts.{certificate_text, certificates_text}
use Rattle.sel_check.specs.CheckLaws.{IsCertified, AreCertified, IsCertifiedText}
use Rattle.sel_check.proofs.Lists.{take_next}
use Rattle.std.proofs.lemmas.List.{take_all}

text_push : (number m : ℕ) (cs : List TreeCertificate) (c : TreeCertificate) → m ≡ number + length cs → certificates_text number (cs ++ (c ∷ [])) ≡ certificates_text number cs ++ certificate_text m c
text_push number m [] c e = let q : number ≡ m = omega (arith, e) in ap (λ n. certificate_text n c ++ []) q ∙ append-nil (certificate_text m c)
text_push number m (d ∷ cs) c e =
    ap (λ t. certificate_text number d ++ t) (text_push (number + 1) m cs c (omega (arith, e))) ∙ sym (append_assoc (certificate_text number d) (certificates_text (number + 1) cs) (certificate_text m c))

certified_push : (g : Grammar) (trees : List Tree) (cs : List TreeCertificate) (t : Tree) (c : TreeCertificate) → AreCertified g trees cs → IsCertified g t c → AreCertified g (trees ++ (t ∷ [])) (cs ++ (c ∷ []))
certified_push g [] [] t c h k = (k, tt)
certified_push g [] (d ∷ cs) t c h k = absurd h
certified_push g (s ∷ trees) [] t c h k = absurd h
certified_push g (s ∷ trees) (d ∷ cs) t c h k = (h.0, certified_push g trees cs t c h.1 k)

certified_length : (g : Grammar) (trees : List Tree) (cs : List TreeCertificate) → AreCertified g trees cs → length cs ≡ length trees
certified_length g [] [] h = refl
certified_length g [] (d ∷ cs) h = absurd h
certified_length g (s ∷ trees) [] h = absurd h
certified_length g (s ∷ trees) (d ∷ cs) h = omega (arith, certified_length g trees cs h.1)

abbrev covers : List TreeCertificate → Bool
covers cs = list_all (λ (c : TreeCertificate). is_some c.rules) cs

covers_push : (cs : List TreeCertificate) (c : TreeCertificate) → covers (cs ++ (c ∷ [])) ≡ (covers cs && is_some c.rules)
covers_push [] c = last (is_some c.rules)
  where
    last : (b : Bool) → (b && true) ≡ (true && b)
    last true = refl
    last false = refl
covers_push (d ∷ cs) c = ap (λ b. is_some d.rules && b) (covers_push cs c) ∙ assoc (is_some d.rules) (covers cs) (is_some c.rules)
  where
    assoc : (a b c : Bool) → (a && (b && c)) ≡ ((a && b) && c)
    assoc true b c = refl
    assoc false b c = refl

-- The invariant: of the first trees the text is made.
pub record TextSoFar (g : Grammar) (number : ℕ) (trees : List Tree) (count : ℕ) (text : List ℕ) (covered : Bool) (next : ℕ) : Type 0 where
  pub made : IsCertifiedText g number (take count trees) text covered
  pub next_is : next ≡ number + count

pub text_none : (g : Grammar) (number : ℕ) (trees : List Tree) (text : List ℕ) → text ≡ [] → TextSoFar g number trees 0 text true number
text_none g number trees text e = record { made = record { certificates = []; certified = tt; text_is = e; covered_is = refl }; next_is = omega arith }

pub text_more : (g : Grammar) (number : ℕ) (trees : List Tree) (count : ℕ) (text text' : List ℕ) (covered covered' : Bool) (next : ℕ) (tree : Tree) (c : TreeCertificate) → TextSoFar g number trees count text covered next
    → count < length trees → tree ≡ slice_index_or trees count tree → IsCertified g tree c → text' ≡ text ++ certificate_text next c → covered' ≡ (covered && is_some c.rules) → TextSoFar g number trees (count + 1) text' covered' (next + 1)
text_more g number trees count text text' covered covered' next tree c h lt is certified more both =
    let made = h.made in
    let many : length made.certificates ≡ count = omega (arith, certified_length g (take count trees) made.certificates made.certified, length-take count trees, lt) in record {
      made = subst (λ ts. IsCertifiedText g number ts text' covered') (sym (take_next trees count tree lt is)) (record {
        certificates = made.certificates ++ (c ∷ []);
        certified = certified_push g (take count trees) made.certificates tree c made.certified certified;
        text_is = more ∙ ap (λ t. t ++ certificate_text next c) made.text_is ∙ sym (text_push number next made.certificates c (omega (arith, h.next_is, many)));
        covered_is = both ∙ ap (λ b. b && is_some c.rules) made.covered_is ∙ sym (covers_push made.certificates c);
      });
      next_is = omega (arith, h.next_is);
    }

pub text_all : (g : Grammar) (number : ℕ) (trees : List Tree) (count : ℕ) (text : List ℕ) (covered : Bool) (next : ℕ) → TextSoFar g number trees count text covered next → length trees ≤ count → IsCertifiedText g number trees text covered
text_all g number trees count text covered next h end = subst (λ ts. IsCertifiedText g number ts text covered) (take_all count trees end) h.made
