-- Two numbers with a comma between them.
use Rattle.std.proofs.Common.{◌≡◌, ℕ, ◌≤◌, List, [], ◌∷◌, ◌++◌, Option, Some, None, ap, sym, ◌∙◌, arith, decimal, pos}
use Rattle.std.specs.Borrow.{Bor}
use Rattle.std.proofs.lemmas.Int.{ints}
use Rattle.sel_grammar.specs.Costs.{Cost}
use Rattle.sel_grammar.specs.SmallCosts.{IsSmall}
use Rattle.sel_check.specs.CertificateTexts.{greatest_claim}
use Rattle.sel_check.specs.LineReading.{parts_of, Lacks, with_rest, pair_text}
use Rattle.sel_check.proofs.Cutting.{cut_parts, parts_behind, one_part}
use Rattle.sel_check.proofs.Spelling.{pair_parts}

module _ (bytes part : List ℕ) (rest : Option (Bor (List ℕ))) (lacks : Lacks 44 part) (whole : bytes ≡ part ++ with_rest 44 rest) where
  both_parts : (c : Cost) (m : ℕ) → parts_of 44 bytes ≡ decimal c.first ∷ (decimal m ∷ []) → (part ≡ decimal c.first) × (parts_behind 44 rest ≡ decimal m ∷ [])
  both_parts c m e = let q = sym (cut_parts 44 bytes part rest lacks whole) ∙ e in (cc, cc)

  pub pair_first : ((n : ℕ) → n ≤ greatest_claim → part ≡ decimal n → ⊥) → (c : Cost) → IsSmall greatest_claim c → bytes ≡ pair_text c → ⊥
  pair_first never c small e =
      let (m, most, is, parts) = pair_parts bytes c small e in
      never c.first small.first (both_parts c m parts).0

  pub pair_no_rest : rest ≡ None → (c : Cost) → IsSmall greatest_claim c → bytes ≡ pair_text c → ⊥
  pair_no_rest none c small e =
      let (m, most, is, parts) = pair_parts bytes c small e in
      let q = sym (ap (parts_behind 44) none) ∙ (both_parts c m parts).1 in
      nothing q
    where
      nothing : {x : List ℕ} {xs : List (List ℕ)} → [] ≡ x ∷ xs → ⊥
      nothing e = cc

  pub pair_second : (r : Bor (List ℕ)) → rest ≡ Some r → ((n : ℕ) → n ≤ greatest_claim → r.now ≡ decimal n → ⊥) → (c : Cost) → IsSmall greatest_claim c → bytes ≡ pair_text c → ⊥
  pair_second r there never c small e =
      let (m, most, is, parts) = pair_parts bytes c small e in
      let q = sym (ap (parts_behind 44) there) ∙ (both_parts c m parts).1 in
      never m most (one_part 44 r.now (decimal m) q)

  pub pair_read : (r : Bor (List ℕ)) → rest ≡ Some r → (m n : ℕ) → m ≤ greatest_claim → n ≤ greatest_claim → part ≡ decimal m → r.now ≡ decimal n
      → IsSmall greatest_claim (record { first = m; second = pos n }) × (bytes ≡ pair_text (record { first = m; second = pos n }))
  pair_read r there m n few few' e f =
      (record { first = few; low = omega (arith, ints); high = omega (arith, ints) }, whole ∙ ap (λ o. part ++ with_rest 44 o) there ∙ (λ i. e i ++ (44 ∷ f i)))
