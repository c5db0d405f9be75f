-- Our shapes of a word are clap's.
use Rattle.std.proofs.Common.{◌≡◌, ℕ, ◌==◌, Bool, true, false, ◌&&◌, if◌then◌else◌, [], ◌∷◌, Some, None, is_some, length, refl, sym, ap, ◌∙◌, subst}
use Rattle.std.proofs.Common.{true≢false}
use Rattle.std.specs.Prelude.{List, bytes_eq, nat_le}
use Rattle.std.specs.List.{list_all, onto_first}
use Rattle.std.proofs.lemmas.Bool.{eqb-true}
use Rattle.clap.specs.Lexer.{long_of, short_of}
use Rattle.sel_words.specs.Split.{is_hyphened, is_option, name_in, value_in}
use Rattle.sel_words.specs.Registers.{longest_register, most_registers, is_register, are_different, are_registers, register_names}
use Rattle.sel_words.specs.Settings.{is_number, most_digits}
use Rattle.sel_words.proofs.ClapReading.{Text, dashes, is_plain}

-- an option is what clap takes for one, with this name and value
pub long_is : (word : Text) → long_of word ≡ (if is_option word then Some (name_in word, value_in word) else None)
long_is [] = refl
long_is (x ∷ []) = go (x == 45) refl
  where
    go : (b : Bool) → (x == 45) ≡ b → long_of (x ∷ []) ≡ None
    go true e = rw e refl
    go false e = rw e refl
long_is (x ∷ y ∷ []) = go (x == 45) (y == 45) refl refl
  where
    go : (b c : Bool) → (x == 45) ≡ b → (y == 45) ≡ c → long_of (x ∷ y ∷ []) ≡ None
    go true true e f = rw (e, f) refl
    go true false e f = rw (e, f) refl
    go false c e f = rw e refl
long_is (x ∷ y ∷ z ∷ rest) = go (x == 45) (y == 45) refl refl
  where
    go : (b c : Bool) → (x == 45) ≡ b → (y == 45) ≡ c
        → long_of (x ∷ y ∷ z ∷ rest) ≡ (if (x == 45) && (y == 45) then Some (name_in (x ∷ y ∷ z ∷ rest), value_in (x ∷ y ∷ z ∷ rest)) else None)
    go true true e f = rw (e, f) refl
    go true false e f = rw (e, f) refl
    go false c e f = rw e refl

pub long_some : (word : Text) → is_option word ≡ true → long_of word ≡ Some (name_in word, value_in word)
long_some word e = long_is word ∙ rw e refl

pub long_none : (word : Text) → is_option word ≡ false → long_of word ≡ None
long_none word e = long_is word ∙ rw e refl

-- of the other words, clap takes those with a hyphen for flags, but for `-` and `--`
pub short_is : (word : Text) → bytes_eq word dashes ≡ false → is_option word ≡ false → is_some (short_of word) ≡ is_hyphened word
short_is [] d o = refl
short_is (x ∷ []) d o = go (x == 45) refl
  where
    go : (b : Bool) → (x == 45) ≡ b → is_some (short_of (x ∷ [])) ≡ false
    go true e = rw e refl
    go false e = rw e refl
short_is (x ∷ y ∷ []) d o = go (x == 45) (y == 45) refl refl
  where
    go : (b c : Bool) → (x == 45) ≡ b → (y == 45) ≡ c → is_some (short_of (x ∷ y ∷ [])) ≡ (x == 45)
    go true true e f = absurd (true≢false (rw (e, f) at d))
    go true false e f = rw (e, f) refl
    go false c e f = rw e refl
short_is (x ∷ y ∷ z ∷ rest) d o = go (x == 45) (y == 45) refl refl
  where
    go : (b c : Bool) → (x == 45) ≡ b → (y == 45) ≡ c → is_some (short_of (x ∷ y ∷ z ∷ rest)) ≡ (x == 45)
    go true true e f = absurd (true≢false (rw (e, f) at o))
    go true false e f = rw (e, f) refl
    go false c e f = rw e refl

and_false : (a : Bool) → (a && false) ≡ false
and_false true = refl
and_false false = refl

hyphen_number : (rest : Text) → is_number (45 ∷ rest) ≡ false
hyphen_number rest = ap (λ b. nat_le 1 (length (45 ∷ rest)) && b) (and_false (nat_le (length (45 ∷ rest)) most_digits)) ∙ and_false (nat_le 1 (length (45 ∷ rest)))

hyphen_register : (part : Text) → is_register (45 ∷ part) ≡ false
hyphen_register part =
    ap (λ b. nat_le 1 (length (45 ∷ part)) && b) (and_false (nat_le (length (45 ∷ part)) longest_register)) ∙ and_false (nat_le 1 (length (45 ∷ part)))

-- the first of the names begins with the hyphen
hyphen_names : (parts : List Text) → list_all is_register (onto_first 45 parts) ≡ false
hyphen_names [] = rw (hyphen_register []) refl
hyphen_names (part ∷ parts) = rw (hyphen_register part) refl

both_false : (a b c : Bool) → b ≡ false → (a && (b && c)) ≡ false
both_false true b c e = rw e refl
both_false false b c e = refl

hyphen_registers : (rest : Text) → are_registers (register_names (45 ∷ rest)) ≡ false
hyphen_registers rest =
    both_false (nat_le (length (register_names (45 ∷ rest))) most_registers) _ (are_different (register_names (45 ∷ rest))) (hyphen_names (register_names rest))

-- a word that isn't plain begins with a hyphen
not_plain : (Q : Text → Type 0) (word : Text) → is_plain word ≡ false → ((rest : Text) → Q (45 ∷ rest)) → Q word
not_plain Q [] p h = absurd (true≢false p)
not_plain Q (x ∷ rest) p h = go (x == 45) refl
  where
    go : (b : Bool) → (x == 45) ≡ b → Q (x ∷ rest)
    go true e = subst (λ (n : ℕ). Q (n ∷ rest)) (sym (eqb-true x 45 e)) (h rest)
    go false e = absurd (true≢false (rw e at p))

-- numbers and names of registers are plain, so a value that clap doesn't take is none of them
pub no_number : (word : Text) → is_plain word ≡ false → is_number word ≡ false
no_number word p = not_plain (λ word. is_number word ≡ false) word p hyphen_number

pub no_registers : (word : Text) → is_plain word ≡ false → are_registers (register_names word) ≡ false
no_registers word p = not_plain (λ word. are_registers (register_names word) ≡ false) word p hyphen_registers
