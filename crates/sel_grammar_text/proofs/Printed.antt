-- The tokens of printed text.
use Rattle.std.proofs.Math.Seq.{take-append_seam}
use Rattle.std.proofs.Common.{◌≡◌, ℕ, suc, ◌+◌, List, [], ◌∷◌, ◌++◌, Option, Some, None, Bool, true, false, length, take, drop, refl, ap, ◌∙◌, arith, eqb, append_assoc, length-append}
use Rattle.std.specs.Prelude.{take_while, option_map}
use Rattle.std.specs.List.{prefix_len}
use Rattle.std.specs.Char.{is_ascii_digit}
use Rattle.sel_grammar.specs.Names.{is_letter, is_name_byte}
use Rattle.sel_grammar_text.specs.Tokens.{Name, Integer, token_of, inside_len}
use Rattle.sel_grammar_text.specs.Printing.{printed_byte}
use Rattle.sel_grammar_text.proofs.Templates.{by_test}

-- what follows doesn't go on with the run
abbrev pub Stops : (ℕ → Bool) → List ℕ → Type 0
Stops p [] = Unit {0}
Stops p (b ∷ bytes) = p b ≡ false

abbrev pub Each : (ℕ → Bool) → List ℕ → Type 0
Each p [] = Unit {0}
Each p (b ∷ bytes) = (p b ≡ true) × Each p bytes

run_of : (p : ℕ → Bool) (bytes rest : List ℕ) → Each p bytes → Stops p rest → prefix_len p (bytes ++ rest) ≡ length bytes
run_of p [] [] h s = refl
run_of p [] (b ∷ rest) h s = rw s refl
run_of p (b ∷ bytes) rest h s = rw (h.0, run_of p bytes rest h.1 s) (omega arith)

front : (p : ℕ → Bool) (b : ℕ) (bytes rest : List ℕ) → Each p bytes → Stops p rest → take (1 + prefix_len p (bytes ++ rest)) (b ∷ (bytes ++ rest)) ≡ b ∷ bytes
front p b bytes rest h s =
    let n : 1 + prefix_len p (bytes ++ rest) ≡ length (b ∷ bytes) = omega (arith, run_of p bytes rest h s) in
    ap (λ k. take k (b ∷ (bytes ++ rest))) n ∙ take-append_seam (b ∷ bytes) rest

pub drop_past : (xs : List ℕ) (y : ℕ) (ys : List ℕ) → drop (length xs + 1) (xs ++ (y ∷ ys)) ≡ ys
drop_past [] y ys = refl
drop_past (x ∷ xs) y ys = let n : length (x ∷ xs) + 1 ≡ suc (length xs + 1) = omega arith in ap (λ k. drop k (x ∷ (xs ++ (y ∷ ys)))) n ∙ drop_past xs y ys

pub taken : (p : ℕ → Bool) (bytes rest : List ℕ) → Each p bytes → Stops p rest → take_while p (bytes ++ rest) ≡ bytes
taken p bytes rest h s = ap (λ n. take n (bytes ++ rest)) (run_of p bytes rest h s) ∙ take-append_seam bytes rest

-- A printed name, whatever follows that doesn't go on with it.
pub name_token : (b : ℕ) (bytes rest : List ℕ) → is_letter b ≡ true → Each is_name_byte bytes → Stops is_name_byte rest → token_of ((b ∷ bytes) ++ rest) ≡ Name (b ∷ bytes)
name_token b bytes rest h e s = rw h (ap Name (front is_name_byte b bytes rest e s))

pub integer_token : (b : ℕ) (bytes rest : List ℕ) → is_letter b ≡ false → is_ascii_digit b ≡ true → Each is_ascii_digit bytes → Stops is_ascii_digit rest → token_of ((b ∷ bytes) ++ rest) ≡ Integer (b ∷ bytes)
integer_token b bytes rest n h e s = rw (n, h) (ap Integer (front is_ascii_digit b bytes rest e s))

-- A chunk of a template that has no closing quote and no line end.
abbrev pub Passes : List ℕ → Type 0
Passes chunk = (rest : List ℕ) → inside_len false (chunk ++ rest) ≡ option_map (λ n. length chunk + n) (inside_len false rest)

one_more : (o : Option ℕ) → option_map suc o ≡ option_map (λ n. 1 + n) o
one_more None = refl
one_more (Some n) = ap Some (omega arith)

two_more : (o : Option ℕ) → option_map suc (option_map suc o) ≡ option_map (λ n. 2 + n) o
two_more None = refl
two_more (Some n) = ap Some (omega arith)

both_more : (a b c : ℕ) (o : Option ℕ) → c ≡ a + b → option_map (λ n. a + n) (option_map (λ n. b + n) o) ≡ option_map (λ n. c + n) o
both_more a b c None e = refl
both_more a b c (Some n) e = ap Some (omega arith)

plain_passes : (b : ℕ) → eqb b 34 ≡ false → eqb b 10 ≡ false → eqb b 92 ≡ false → Passes (b ∷ [])
plain_passes b h k j rest = rw (h, k, j) (one_more (inside_len false rest))

pub byte_passes : (b : ℕ) → Passes (printed_byte b)
byte_passes b =
    by_test b 10 _ _ Passes (λ e rest. two_more (inside_len false rest)) (λ n.
    by_test b 9 _ _ Passes (λ e rest. two_more (inside_len false rest)) (λ _.
    by_test b 34 _ _ Passes (λ e rest. two_more (inside_len false rest)) (λ q.
    by_test b 92 _ _ Passes (λ e rest. two_more (inside_len false rest)) (λ s.
    by_test b 37 _ _ Passes (λ e rest. two_more (inside_len false rest)) (λ _. plain_passes b q n s)))))

pub passes-append : (x y : List ℕ) → Passes x → Passes y → Passes (x ++ y)
passes-append x y h k rest =
    ap (inside_len false) (append_assoc x y rest) ∙ h (y ++ rest) ∙ ap (option_map (λ n. length x + n)) (k rest)
    ∙ both_more (length x) (length y) (length (x ++ y)) (inside_len false rest) (length-append x y)

pub none_passes : Passes []
none_passes rest = same (inside_len false rest)
  where
    same : (o : Option ℕ) → o ≡ option_map (λ n. 0 + n) o
    same None = refl
    same (Some n) = ap Some (omega arith)

pub sign_passes : (c : ℕ) → eqb c 34 ≡ false → eqb c 10 ≡ false → eqb c 92 ≡ false → Passes (37 ∷ c ∷ [])
sign_passes c h k j rest = rw (h, k, j) (two_more (inside_len false rest))
