-- Tokens take bytes, and what that leaves.
use Rattle.std.proofs.Common.{◌≡◌, ℕ, ◌+◌, ◌-◌, ◌≤◌, ◌<◌, List, [], ◌∷◌, Option, Some, None, Bool, true, false, length, take, drop, refl, ap, sym, ◌∙◌, subst, arith, length-take, length-drop, cond, ◌||◌, ◌&&◌, eqb}
use Rattle.std.specs.Prelude.{codes}
use Rattle.std.specs.List.{prefix_len, starts_with}
use Rattle.std.specs.Char.{is_ascii_digit}
use Rattle.sel_grammar.specs.Names.{is_letter, is_name_byte}
use Rattle.sel_grammar_text.specs.Blanks.{skip, behind_pair}
use Rattle.sel_grammar_text.specs.Tokens.{Token, Quoted, Unclosed, Start, Term, Percents, Code, OpenCode, Colon, Equals, Open, Close, Comma, Semi, Bad, End, token_of, width, mark, quoted, percent, option_cases, inside_len, is_on_line}
use Rattle.sel_grammar_text.specs.Spots.{behind}
use Rattle.sel_grammar_text.specs.FormFaults.{is_comma, is_integer, token_in}
use Rattle.sel_grammar_text.proofs.Blanks.{skip_short}
use Rattle.sel_grammar_text.proofs.CostLists.{IsShortening}

choose : (P : Token → Type 0) (b : Bool) (x y : Token) → (b ≡ true → P x) → (b ≡ false → P y) → P (cond b x y)
choose P true x y f g = f refl
choose P false x y f g = g refl

abbrev IsWide : Token → Type 0
IsWide t = 0 < width t

take_wide : (m b : ℕ) (bs : List ℕ) → 0 < length (take (1 + m) (b ∷ bs))
take_wide m b bs = omega (arith, length-take (1 + m) (b ∷ bs))

run_wide : (p : ℕ → Bool) (b : ℕ) (bs : List ℕ) → p b ≡ true → 0 < length (take (prefix_len p (b ∷ bs)) (b ∷ bs))
run_wide p b bs h = rw h (take_wide (prefix_len p bs) b bs)

or_left : (a b : Bool) → a ≡ true → (a || b) ≡ true
or_left true b h = refl
or_left false b h = cc

mark_wide : (b : ℕ) → IsWide (mark b)
mark_wide b =
    choose IsWide (eqb b 58) Colon _ (λ _. omega arith) (λ _. choose IsWide (eqb b 61) Equals _ (λ _. omega arith)
    (λ _. choose IsWide (eqb b 40) Open _ (λ _. omega arith) (λ _. choose IsWide (eqb b 41) Close _ (λ _. omega arith)
    (λ _. choose IsWide (eqb b 44) Comma _ (λ _. omega arith) (λ _. choose IsWide (eqb b 59) Semi (Bad b) (λ _. omega arith) (λ _. omega arith))))))

by_option : {X : Type 0} (o : Option X) (t : Token) (f : X → Token) → IsWide t → ((x : X) → IsWide (f x)) → IsWide (option_cases o t f)
by_option None t f h k = h
by_option (Some x) t f h k = k x

quoted_wide : (bs : List ℕ) → IsWide (quoted bs)
quoted_wide bs = by_option (inside_len false bs) Unclosed (λ n. Quoted (take n bs) (take (prefix_len is_on_line (drop (n + 1) bs)) (drop (n + 1) bs))) (omega arith) (λ n. omega arith)

percent_wide : (bs : List ℕ) → IsWide (percent bs)
percent_wide bs =
    choose IsWide (starts_with eqb bs (codes "start")) Start _ (λ _. omega arith) (λ _. choose IsWide (starts_with eqb bs (codes "term")) Term _ (λ _. omega arith)
    (λ _. choose IsWide (starts_with eqb bs (codes "%")) Percents _ (λ _. omega arith)
    (λ _. choose IsWide (starts_with eqb bs (codes "{")) _ (Bad 37)
    (λ _. by_option (behind_pair 37 125 (drop 1 bs)) OpenCode (λ rest. Code (length bs - length rest - 3)) (omega arith) (λ rest. omega arith)) (λ _. omega arith))))

pub token_wide : (b : ℕ) (bs : List ℕ) → IsWide (token_of (b ∷ bs))
token_wide b bs =
    choose IsWide (is_letter b) _ _ (λ h. run_wide is_name_byte b bs (or_left (is_letter b) (is_ascii_digit b) h))
    (λ _. choose IsWide (is_ascii_digit b) _ _ (λ h. run_wide is_ascii_digit b bs h)
    (λ _. choose IsWide (eqb b 34) _ _ (λ _. quoted_wide bs) (λ _. choose IsWide (eqb b 37) _ _ (λ _. percent_wide bs) (λ _. mark_wide b))))

pub behind_within : (bytes : List ℕ) → length (behind bytes) ≤ length bytes
behind_within bytes = omega (arith, skip_short bytes, length-drop (width (token_of (skip bytes))) (skip bytes))

less : (from : List ℕ) → (token_of from ≡ End → ⊥) → length (drop (width (token_of from)) from) < length from
less [] h = absurd (h refl)
less (b ∷ bs) h = omega (arith, token_wide b bs, length-drop (width (token_of (b ∷ bs))) (b ∷ bs))

-- what is left behind a token that isn't the end
pub behind_less : (bytes : List ℕ) → (token_of (skip bytes) ≡ End → ⊥) → length (behind bytes) < length bytes
behind_less bytes h = omega (arith, skip_short bytes, less (skip bytes) h)

comma_less : (bytes : List ℕ) → is_comma (token_in bytes) ≡ true → length (behind bytes) < length bytes
comma_less bytes h = behind_less bytes (λ e. let w : false ≡ true = sym (ap is_comma e) ∙ h in absurd (let z : ⊥ = cc in z))

pub further_shorter : IsShortening
further_shorter bytes rest h = go (is_comma (token_in bytes)) refl (is_integer (token_in (behind bytes))) h
  where
    go : (b : Bool) → is_comma (token_in bytes) ≡ b → (c : Bool) → cond (b && c) (Some (behind (behind bytes))) None ≡ Some rest → length rest < length bytes
    go true e true k = let same : behind (behind bytes) ≡ rest = cc in subst (λ r. length r < length bytes) same (omega (arith, comma_less bytes e, behind_within (behind bytes)))
    go true e false k = let z : ⊥ = cc in absurd z
    go false e c k = let z : ⊥ = cc in absurd z
