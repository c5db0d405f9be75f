-- Tokens one by one, and how far they take a line.
use Rattle.std.proofs.Common.{◌≡◌, ℕ, suc, zero, ◌+◌, ◌≤◌, ◌<◌, List, [], ◌∷◌, ◌++◌, Option, Some, None, Bool, true, false, length, take, drop, refl, ap, subst, arith, length-drop, length-take, cond, ◌||◌, ◌&&◌, eqb}
use Rattle.std.specs.List.{prefix_len}
use Rattle.sel_forest.specs.Tokens.{Token, Name, Number, Symbol, Colon, Open, Comma, Close, Bad, End, token_of, skip, width, is_colon, mark, begins_with_digit, Spot, token_at, behind, first, after}
use Rattle.sel_forest.specs.Symbols.{is_blank, is_symbol_start, is_symbol_byte, is_name_byte, is_letter}
use Rattle.std.specs.Char.{is_ascii_digit}
use Rattle.sel_forest.specs.Machine.{step, wants_attribute, open_count, after_tree}
use Rattle.sel_forest.specs.declared.line.State.{State}
use Rattle.sel_forest.specs.declared.line.State.TheVariants.{Start, Wanted, Named, Colonned, Attributed, Closed, Ended}

pub first-snoc : (n : ℕ) (p : Spot) → first (suc n) p ≡ first n p ++ (token_at (after n p) ∷ [])
first-snoc zero p = refl
first-snoc (suc n) p = ap (λ ts. token_at p ∷ ts) (first-snoc n (behind p))

pub after-snoc : (n : ℕ) (p : Spot) → after (suc n) p ≡ behind (after n p)
after-snoc zero p = refl
after-snoc (suc n) p = after-snoc n (behind p)

-- A token other than the end takes a byte.
take_pos : (m b : ℕ) (bs : List ℕ) → 0 < length (take (1 + m) (b ∷ bs))
take_pos m b bs = omega (arith, length-take (1 + m) (b ∷ bs))

run_pos : (p : ℕ → Bool) (b : ℕ) (bs : List ℕ) → p b ≡ true → 0 < length (take (prefix_len p (b ∷ bs)) (b ∷ bs))
run_pos p b bs h = rw h (take_pos (prefix_len p bs) b bs)

pub choose : (P : Token → Type 0) (b : Bool) (x y : Token) → (b ≡ true → P x) → (b ≡ false → P y) → P (cond b x y)
choose P true x y f g = f refl
choose P false x y f g = g refl

or_left : (a b : Bool) → a ≡ true → (a || b) ≡ true
or_left true b h = refl
or_left false b h = cc

abbrev IsWide : Token → Type 0
IsWide t = 0 < width t

mark_pos : (b : ℕ) → IsWide (mark b)
mark_pos b =
    choose IsWide (eqb b 58) Colon _ (λ _. omega arith) (λ _. choose IsWide (eqb b 40) Open _ (λ _. omega arith)
    (λ _. choose IsWide (eqb b 44) Comma _ (λ _. omega arith) (λ _. choose IsWide (eqb b 41) Close (Bad b) (λ _. omega arith) (λ _. omega arith))))

pub width_pos : (a : Bool) (b : ℕ) (bs : List ℕ) → IsWide (token_of a (b ∷ bs))
width_pos true b bs =
    choose IsWide (is_symbol_start b) _ _ (λ h. run_pos is_symbol_byte b bs (or_left (is_symbol_start b) (is_ascii_digit b) h))
    (λ _. choose IsWide (is_ascii_digit b) _ _ (λ h. run_pos is_ascii_digit b bs h)
    (λ _. choose IsWide (eqb b 45 && begins_with_digit bs) (Number (b ∷ take (prefix_len is_ascii_digit bs) bs)) _ (λ _. omega arith) (λ _. mark_pos b)))
width_pos false b bs =
    choose IsWide (is_letter b) _ _ (λ h. run_pos is_name_byte b bs (or_left (is_letter b) (is_ascii_digit b) h)) (λ _. mark_pos b)

-- A step that doesn't end the line opens at most one parenthesis, and its token isn't the end.
abbrev depth_of : Option State → ℕ
depth_of None = 0
depth_of (Some s) = open_count s

after_depth : (d : ℕ) (t : Token) → depth_of (after_tree d t) ≤ d
after_depth (suc d) Comma = omega arith
after_depth (suc d) Close = omega arith
after_depth zero End = omega arith
after_depth _ _ = omega arith

step_depth_of : (s : State) (t : Token) → depth_of (step s t) ≤ open_count s + 1
step_depth_of Start (Name n) = omega arith
step_depth_of Start End = omega arith
step_depth_of (Wanted d) (Name n) = omega arith
step_depth_of (Named d) Colon = omega arith
step_depth_of (Named d) Open = omega arith
step_depth_of (Named d) t = omega (arith, after_depth d t)
step_depth_of (Colonned d) (Number n) = omega arith
step_depth_of (Colonned d) (Symbol n) = omega arith
step_depth_of (Attributed d) Open = omega arith
step_depth_of (Attributed d) t = omega (arith, after_depth d t)
step_depth_of (Closed d) t = omega (arith, after_depth d t)
step_depth_of _ _ = omega arith

pub step_depth : (s : State) (t : Token) (u : State) → step s t ≡ Some u → open_count u ≤ open_count s + 1
step_depth s t u h = subst (λ o. depth_of o ≤ open_count s + 1) h (step_depth_of s t)

abbrev flag_of : Option State → Bool → Bool
flag_of None b = b
flag_of (Some s) b = wants_attribute s

after_flag : (d : ℕ) (t : Token) → flag_of (after_tree d t) (is_colon t) ≡ is_colon t
after_flag (suc d) Comma = refl
after_flag (suc d) Close = refl
after_flag zero End = refl
after_flag _ _ = refl

step_flag_of : (s : State) (t : Token) → flag_of (step s t) (is_colon t) ≡ is_colon t
step_flag_of Start (Name n) = refl
step_flag_of Start End = refl
step_flag_of (Wanted d) (Name n) = refl
step_flag_of (Named d) Colon = refl
step_flag_of (Named d) Open = refl
step_flag_of (Named d) t = after_flag d t
step_flag_of (Colonned d) (Number n) = refl
step_flag_of (Colonned d) (Symbol n) = refl
step_flag_of (Attributed d) Open = refl
step_flag_of (Attributed d) t = after_flag d t
step_flag_of (Closed d) t = after_flag d t
step_flag_of _ _ = refl

pub step_flag : (s : State) (t : Token) (u : State) → step s t ≡ Some u → wants_attribute u ≡ is_colon t
step_flag s t u h = subst (λ o. flag_of o (is_colon t) ≡ is_colon t) h (step_flag_of s t)

abbrev ends : Option State → Type 0
ends None = Unit {0}
ends (Some s) = s ≡ Ended

after_end : (d : ℕ) → ends (after_tree d End)
after_end zero = refl
after_end (suc d) = tt

step_end_of : (s : State) → ends (step s End)
step_end_of Start = refl
step_end_of (Named d) = after_end d
step_end_of (Attributed d) = after_end d
step_end_of (Closed d) = after_end d
step_end_of (Wanted d) = tt
step_end_of (Colonned d) = tt
step_end_of Ended = tt

pub step_end : (s u : State) → step s End ≡ Some u → u ≡ Ended
step_end s u h = subst ends h (step_end_of s)

-- what is left behind a token that isn't the end
pub shorter : (s u : State) (bs : List ℕ) → step s (token_of (wants_attribute s) bs) ≡ Some u → (u ≡ Ended → ⊥)
    → length (drop (width (token_of (wants_attribute s) bs)) bs) < length bs
shorter s u [] h open_still = absurd (open_still (step_end s u h))
shorter s u (b ∷ bs) h open_still = omega (arith, width_pos (wants_attribute s) b bs, length-drop (width (token_of (wants_attribute s) (b ∷ bs))) (b ∷ bs))

pub skip_short : (bs : List ℕ) → length (skip bs) ≤ length bs
skip_short bs = omega (arith, length-drop (prefix_len is_blank bs) bs)
