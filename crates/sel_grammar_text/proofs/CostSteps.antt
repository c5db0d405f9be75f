-- The tokens of a cost one by one.
use Rattle.std.proofs.Common.{◌≡◌, ℕ, suc, zero, ◌+◌, ◌-◌, ◌≤◌, ◌<◌, List, [], ◌∷◌, Bool, true, false, length, take, drop, refl, ap, sym, ◌∙◌, subst, arith, length-take, length-drop, cond, ◌||◌, ◌&&◌, eqb}
use Rattle.std.specs.List.{prefix_len}
use Rattle.std.specs.Char.{is_ascii_digit}
use Rattle.sel_grammar.specs.Names.{is_letter, is_name_byte}
use Rattle.sel_grammar_text.specs.Blanks.{skip}
use Rattle.sel_grammar_text.specs.CostText.{CostToken, Negative, Single, cost_width, cost_token, begins_with_digit, cost_tokens_to, cost_tokens}
use Rattle.sel_grammar_text.proofs.Blanks.{skip_short}

choose : (P : CostToken → Type 0) (b : Bool) (x y : CostToken) → (b ≡ true → P x) → (b ≡ false → P y) → P (cond b x y)
choose P true x y f g = f refl
choose P false x y f g = g refl

abbrev pub IsWide : CostToken → Type 0
IsWide t = 0 < cost_width t

take_wide : (m b : ℕ) (bs : List ℕ) → 0 < length (take (1 + m) (b ∷ bs))
take_wide m b bs = omega (arith, length-take (1 + m) (b ∷ bs))

run_wide : (p : ℕ → Bool) (b : ℕ) (bs : List ℕ) → p b ≡ true → 0 < length (take (prefix_len p (b ∷ bs)) (b ∷ bs))
run_wide p b bs h = rw h (take_wide (prefix_len p bs) b bs)

or_left : (a b : Bool) → a ≡ true → (a || b) ≡ true
or_left true b h = refl
or_left false b h = cc

pub token_wide : (b : ℕ) (more : List ℕ) → IsWide (cost_token b more)
token_wide b more =
    choose IsWide (is_letter b) _ _ (λ h. run_wide is_name_byte b more (or_left (is_letter b) (is_ascii_digit b) h))
    (λ _. choose IsWide (is_ascii_digit b) _ _ (λ h. run_wide is_ascii_digit b more h)
    (λ _. choose IsWide (eqb b 45 && begins_with_digit more) (Negative (b ∷ take (prefix_len is_ascii_digit more) more)) (Single b) (λ _. omega arith) (λ _. omega arith)))

-- what the bytes say, by what is left of them without blanks
abbrev tokens_by : ℕ → ℕ → List ℕ → List ℕ → List (ℕ × CostToken)
tokens_by n at bytes from = elim from [
  | [] ↦ []
  | ◌∷◌ b more ↦ (at + (length bytes - length (b ∷ more)), cost_token b more)
      ∷ cost_tokens_to n (at + (length bytes - length (b ∷ more)) + cost_width (cost_token b more)) (drop (cost_width (cost_token b more)) (b ∷ more))
]

-- more turns than bytes change nothing
enough : (n m at : ℕ) (bytes : List ℕ) → length bytes ≤ n → length bytes ≤ m → cost_tokens_to n at bytes ≡ cost_tokens_to m at bytes
enough zero zero at bytes h k = refl
enough zero (suc m) at [] h k = refl
enough zero (suc m) at (b ∷ bytes) h k = absurd (omega arith)
enough (suc n) zero at [] h k = refl
enough (suc n) zero at (b ∷ bytes) h k = absurd (omega arith)
enough (suc n) (suc m) at bytes h k = go (skip bytes) (skip_short bytes) (enough n m)
  where
    go : (from : List ℕ) → length from ≤ length bytes → ((at : ℕ) (bs : List ℕ) → length bs ≤ n → length bs ≤ m → cost_tokens_to n at bs ≡ cost_tokens_to m at bs) → tokens_by n at bytes from ≡ tokens_by m at bytes from
    go [] s ih = refl
    go (b ∷ more) s ih =
        let w = cost_width (cost_token b more) in
        let less : length (drop w (b ∷ more)) ≤ length more = omega (arith, length-drop w (b ∷ more), token_wide b more) in
        ap (λ ts. (at + (length bytes - length (b ∷ more)), cost_token b more) ∷ ts)
        (ih (at + (length bytes - length (b ∷ more)) + w) (drop w (b ∷ more)) (omega (arith, less, s, h)) (omega (arith, less, s, k)))

pub no_token : (at : ℕ) (bytes : List ℕ) → skip bytes ≡ [] → cost_tokens at bytes ≡ []
no_token at [] h = refl
no_token at (b ∷ bytes) h = ap (tokens_by (length bytes) at (b ∷ bytes)) h

pub one_token : (at : ℕ) (bytes : List ℕ) (b : ℕ) (more : List ℕ) → skip bytes ≡ b ∷ more
    → cost_tokens at bytes ≡ (at + (length bytes - length (b ∷ more)), cost_token b more)
    ∷ cost_tokens (at + (length bytes - length (b ∷ more)) + cost_width (cost_token b more)) (drop (cost_width (cost_token b more)) (b ∷ more))
one_token at [] b more h = cc
one_token at (c ∷ bytes) b more h =
    let w = cost_width (cost_token b more) in
    let short : length (b ∷ more) ≤ length (c ∷ bytes) = subst (λ x. length x ≤ length (c ∷ bytes)) h (skip_short (c ∷ bytes)) in
    let less : length (drop w (b ∷ more)) ≤ length bytes = omega (arith, length-drop w (b ∷ more), token_wide b more, short) in
    ap (tokens_by (length bytes) at (c ∷ bytes)) h
    ∙ ap (λ ts. (at + (length (c ∷ bytes) - length (b ∷ more)), cost_token b more) ∷ ts)
    (enough (length bytes) (length (drop w (b ∷ more))) (at + (length (c ∷ bytes) - length (b ∷ more)) + w) (drop w (b ∷ more)) less (omega arith))

-- a token as it was found
pub found_token : (at : ℕ) (bytes from : List ℕ) (b : ℕ) (more : List ℕ) (t : CostToken) (w : ℕ) (rest : List ℕ) → from ≡ skip bytes → from ≡ b ∷ more → t ≡ cost_token b more → w ≡ cost_width t → rest ≡ drop w from
    → cost_tokens at bytes ≡ (at + (length bytes - length from), t) ∷ cost_tokens (at + (length bytes - length from) + w) rest
found_token at bytes from b more t w rest e1 e2 e3 e4 e5 = rw (e5, e4, e3, e2) (one_token at bytes b more (sym e1 ∙ e2))
