-- How printed lines are cut into tokens.
use Rattle.std.proofs.Common.{◌≡◌, ℕ, suc, ◌+◌, List, [], ◌∷◌, ◌++◌, Some, None, Bool, true, false, length, drop, refl, ap, sym, ◌∙◌, subst, arith, cond, eqb, append_assoc}
use Rattle.std.specs.Prelude.{codes, take_while}
use Rattle.std.specs.Char.{is_ascii_digit}
use Rattle.std.proofs.Math.Seq.{take-append_seam}
use Rattle.std.proofs.lemmas.List.{drop-drop}
use Rattle.sel_grammar.specs.Names.{is_letter, is_name_byte}
use Rattle.sel_grammar_text.specs.Blanks.{is_blank, behind_comment, behind_blank, skip}
use Rattle.sel_grammar_text.specs.Tokens.{is_on_line, Token, Name, Integer, Quoted, Start, Term, Percents, Colon, Equals, Open, Close, Comma, Semi, token_of, width, inside_len}
use Rattle.sel_grammar_text.specs.Spots.{behind}
use Rattle.sel_grammar_text.specs.Form.{Patterns, no_patterns, pattern, Side, below, beside, pattern_tokens}
use Rattle.sel_grammar_text.proofs.Blanks.{skip_one, skip_none}
use Rattle.sel_grammar_text.proofs.Templates.{unequal}
use Rattle.sel_grammar_text.proofs.Printed.{Stops, Each, Passes, name_token, integer_token, drop_past, taken}
use Rattle.sel_grammar_text.proofs.NamedPatterns.{IsName, patterns_text, HaveNames}

-- the bytes begin with the tokens, and then comes the rest
pub data CutsInto : List ℕ → List Token → List ℕ → Type 0 where
  cuts_none : (bytes : List ℕ) → CutsInto bytes [] bytes
  cuts_one : (bytes : List ℕ) (t : Token) (ts : List Token) (rest : List ℕ) → token_of (skip bytes) ≡ t → CutsInto (behind bytes) ts rest → CutsInto bytes (t ∷ ts) rest

pub cuts_token : (bytes mid : List ℕ) (t : Token) (ts : List Token) (rest : List ℕ) → behind_blank bytes ≡ None → token_of bytes ≡ t → drop (width t) bytes ≡ mid
    → CutsInto mid ts rest → CutsInto bytes (t ∷ ts) rest
cuts_token bytes mid t ts rest b h d k =
    let s : skip bytes ≡ bytes = skip_none bytes b in
    let e : behind bytes ≡ mid = ap (λ x. drop (width (token_of x)) x) s ∙ ap (λ u. drop (width u) bytes) h ∙ d in
    cuts_one bytes t ts rest (ap token_of s ∙ h) (subst (λ x. CutsInto x ts rest) (sym e) k)

pub over_blank : (b : ℕ) (bytes : List ℕ) (t : Token) (ts : List Token) (rest : List ℕ) → is_blank b ≡ true → CutsInto bytes (t ∷ ts) rest → CutsInto (b ∷ bytes) (t ∷ ts) rest
over_blank b bytes t ts rest h (cuts_one _ _ _ _ e k) =
    let o : behind_blank (b ∷ bytes) ≡ Some bytes = ap (λ x. cond x (Some bytes) (behind_comment (b ∷ bytes))) h in
    let s : skip (b ∷ bytes) ≡ skip bytes = skip_one (b ∷ bytes) bytes o in
    cuts_one (b ∷ bytes) t ts rest (ap token_of s ∙ e) (subst (λ x. CutsInto x ts rest) (sym (ap (λ x. drop (width (token_of x)) x) s)) k)

pub no_comment : (b : ℕ) (bytes : List ℕ) → eqb b 47 ≡ false → behind_comment (b ∷ bytes) ≡ None
no_comment b [] h = refl
no_comment b (c ∷ bytes) h = rw h refl

pub tells : (p : ℕ → Bool) (b n : ℕ) → p b ≡ true → p n ≡ false → eqb b n ≡ false
tells p b n h k = unequal b n (λ e. let w : true ≡ false = sym h ∙ ap p e ∙ k in let z : ⊥ = cc in z)

-- a byte that passes a test that no blank and no slash passes
pub no_blank : (p : ℕ → Bool) (b : ℕ) (bytes : List ℕ) → p b ≡ true → p 32 ≡ false → p 9 ≡ false → p 13 ≡ false → p 12 ≡ false → p 10 ≡ false → p 47 ≡ false → behind_blank (b ∷ bytes) ≡ None
no_blank p b bytes h a1 a2 a3 a4 a5 a6 =
    rw (tells p b 32 h a1, tells p b 9 h a2, tells p b 13 h a3, tells p b 12 h a4, tells p b 10 h a5) (no_comment b bytes (tells p b 47 h a6))

pub drop_front : (xs ys : List ℕ) → drop (length xs) (xs ++ ys) ≡ ys
drop_front [] ys = refl
drop_front (x ∷ xs) ys = drop_front xs ys

abbrev pub IsNumber : List ℕ → Type 0
IsNumber [] = ⊥
IsNumber (b ∷ bytes) = (is_ascii_digit b ≡ true) × Each is_ascii_digit bytes

pub cuts_name : (name more : List ℕ) (ts : List Token) (rest : List ℕ) → IsName name → Stops is_name_byte more → CutsInto more ts rest → CutsInto (name ++ more) (Name name ∷ ts) rest
cuts_name [] more ts rest n s k = absurd n
cuts_name (b ∷ bytes) more ts rest n s k =
    cuts_token ((b ∷ bytes) ++ more) more (Name (b ∷ bytes)) ts rest (no_blank is_letter b (bytes ++ more) n.0 refl refl refl refl refl refl)
    (name_token b bytes more n.0 n.1 s) (drop_front (b ∷ bytes) more) k

pub no_letter : (b : ℕ) → is_ascii_digit b ≡ true → is_letter b ≡ false
no_letter b h = grind (arith, h)

pub cuts_number : (digits more : List ℕ) (ts : List Token) (rest : List ℕ) → IsNumber digits → Stops is_ascii_digit more → CutsInto more ts rest → CutsInto (digits ++ more) (Integer digits ∷ ts) rest
cuts_number [] more ts rest n s k = absurd n
cuts_number (b ∷ bytes) more ts rest n s k =
    cuts_token ((b ∷ bytes) ++ more) more (Integer (b ∷ bytes)) ts rest (no_blank is_ascii_digit b (bytes ++ more) n.0 refl refl refl refl refl refl)
    (integer_token b bytes more (no_letter b n.0) n.0 n.1 s) (drop_front (b ∷ bytes) more) k

-- a byte that is a token of its own
pub cuts_mark : (b : ℕ) (t : Token) (more : List ℕ) (ts : List Token) (rest : List ℕ) → eqb b 32 ≡ false → eqb b 9 ≡ false → eqb b 13 ≡ false → eqb b 12 ≡ false → eqb b 10 ≡ false → eqb b 47 ≡ false
    → token_of (b ∷ more) ≡ t → width t ≡ 1 → CutsInto more ts rest → CutsInto (b ∷ more) (t ∷ ts) rest
cuts_mark b t more ts rest a1 a2 a3 a4 a5 a6 h w k =
    cuts_token (b ∷ more) more t ts rest (rw (a1, a2, a3, a4, a5) (no_comment b more a6)) h (ap (λ n. drop n (b ∷ more)) w) k

-- A template in its quotes, with what stands behind it on the line.
pub cuts_template : (inside behind more : List ℕ) (ts : List Token) (rest : List ℕ) → Passes inside → Each is_on_line behind → Stops is_on_line more → CutsInto more ts rest
    → CutsInto (34 ∷ (inside ++ (34 ∷ (behind ++ more)))) (Quoted inside behind ∷ ts) rest
cuts_template inside behind more ts rest p e s k =
    let bytes = inside ++ (34 ∷ (behind ++ more)) in
    let len : inside_len false bytes ≡ Some (length inside + 0) = p (34 ∷ (behind ++ more)) in
    let plain : length inside + 0 ≡ length inside = omega arith in
    let tail : drop (length inside + 1) bytes ≡ behind ++ more = drop_past inside 34 (behind ++ more) in
    let token : token_of (34 ∷ bytes) ≡ Quoted inside behind =
    rw (len, plain) (ap (λ x. Quoted x (take_while is_on_line (drop (length inside + 1) bytes))) (take-append_seam inside (34 ∷ (behind ++ more)))
    ∙ ap (λ x. Quoted inside (take_while is_on_line x)) tail ∙ ap (Quoted inside) (taken is_on_line behind more e s)) in
    let n : length inside + length behind + 2 ≡ suc ((length inside + 1) + length behind) = omega arith in
    let gone : drop (length inside + length behind + 2) (34 ∷ bytes) ≡ more =
    ap (λ m. drop m (34 ∷ bytes)) n ∙ sym (drop-drop (length behind) (length inside + 1) bytes) ∙ ap (drop (length behind)) tail ∙ drop_front behind more in
    cuts_token (34 ∷ bytes) more (Quoted inside behind) ts rest (no_comment 34 bytes refl) token gone k

stops_patterns : (side : Side) (ps : Patterns) (more : List ℕ) → Stops is_name_byte more → Stops is_name_byte (patterns_text side ps ++ more)
stops_patterns below no_patterns more h = h
stops_patterns below (pattern n kids more') more h = refl
stops_patterns beside no_patterns more h = h
stops_patterns beside (pattern n kids more') more h = refl

pub cuts_patterns : (side : Side) (ps : Patterns) (more : List ℕ) (ts : List Token) (rest : List ℕ) → HaveNames ps → Stops is_name_byte more → CutsInto more ts rest
    → CutsInto (patterns_text side ps ++ more) (pattern_tokens side ps ++ ts) rest
cuts_patterns below no_patterns more ts rest n s k = k
cuts_patterns beside no_patterns more ts rest n s k = k
cuts_patterns below (pattern a kids beside_it) more ts rest n s k =
    simp append_assoc (cuts_mark 40 Open _ _ rest refl refl refl refl refl refl refl refl
    (cuts_name a (patterns_text below kids ++ (patterns_text beside beside_it ++ (41 ∷ more))) (pattern_tokens below kids ++ (pattern_tokens beside beside_it ++ (Close ∷ ts))) rest n.0
    (stops_patterns below kids (patterns_text beside beside_it ++ (41 ∷ more)) (stops_patterns beside beside_it (41 ∷ more) refl))
    (cuts_patterns below kids (patterns_text beside beside_it ++ (41 ∷ more)) (pattern_tokens beside beside_it ++ (Close ∷ ts)) rest n.1.0 (stops_patterns beside beside_it (41 ∷ more) refl)
    (cuts_patterns beside beside_it (41 ∷ more) (Close ∷ ts) rest n.1.1 refl
    (cuts_mark 41 Close more ts rest refl refl refl refl refl refl refl refl k)))))
cuts_patterns beside (pattern a kids beside_it) more ts rest n s k =
    simp append_assoc (cuts_mark 44 Comma _ _ rest refl refl refl refl refl refl refl refl
    (cuts_name a (patterns_text below kids ++ (patterns_text beside beside_it ++ more)) (pattern_tokens below kids ++ (pattern_tokens beside beside_it ++ ts)) rest n.0
    (stops_patterns below kids (patterns_text beside beside_it ++ more) (stops_patterns beside beside_it more s))
    (cuts_patterns below kids (patterns_text beside beside_it ++ more) (pattern_tokens beside beside_it ++ ts) rest n.1.0 (stops_patterns beside beside_it more s)
    (cuts_patterns beside beside_it more ts rest n.1.1 s k))))

-- Lines.

pub cuts_start : (name more : List ℕ) (t : Token) (ts : List Token) (rest : List ℕ) → IsName name → CutsInto more (t ∷ ts) rest
    → CutsInto (codes "%start " ++ (name ++ (codes "\n" ++ more))) (Start ∷ Name name ∷ t ∷ ts) rest
cuts_start name more t ts rest n k =
    cuts_token (codes "%start " ++ (name ++ (10 ∷ more))) (32 ∷ (name ++ (10 ∷ more))) Start (Name name ∷ t ∷ ts) rest refl refl refl
    (over_blank 32 (name ++ (10 ∷ more)) (Name name) (t ∷ ts) rest refl (cuts_name name (10 ∷ more) (t ∷ ts) rest n refl (over_blank 10 more t ts rest refl k)))

pub cuts_entry : (name digits more : List ℕ) (t : Token) (ts : List Token) (rest : List ℕ) → IsName name → IsNumber digits → CutsInto more (t ∷ ts) rest
    → CutsInto (codes "%term " ++ (name ++ (codes "=" ++ (digits ++ (codes "\n" ++ more))))) (Term ∷ Name name ∷ Equals ∷ Integer digits ∷ t ∷ ts) rest
cuts_entry name digits more t ts rest n d k =
    let after_name = 61 ∷ (digits ++ (10 ∷ more)) in
    cuts_token (codes "%term " ++ (name ++ after_name)) (32 ∷ (name ++ after_name)) Term (Name name ∷ Equals ∷ Integer digits ∷ t ∷ ts) rest refl refl refl
    (over_blank 32 (name ++ after_name) (Name name) _ rest refl (cuts_name name after_name _ rest n refl
    (cuts_mark 61 Equals (digits ++ (10 ∷ more)) _ rest refl refl refl refl refl refl refl refl (cuts_number digits (10 ∷ more) (t ∷ ts) rest d refl (over_blank 10 more t ts rest refl k)))))

pub cuts_percents : (more : List ℕ) (t : Token) (ts : List Token) (rest : List ℕ) → CutsInto more (t ∷ ts) rest → CutsInto (codes "%%\n" ++ more) (Percents ∷ t ∷ ts) rest
cuts_percents more t ts rest k = cuts_token (codes "%%\n" ++ more) (10 ∷ more) Percents (t ∷ ts) rest refl refl refl (over_blank 10 more t ts rest refl k)

-- a rule up to its tail
pub cuts_rule : (left root : List ℕ) (kids : Patterns) (tail : List ℕ) (ts : List Token) (rest : List ℕ) → IsName left → IsName root → HaveNames kids → Stops is_name_byte tail → CutsInto tail ts rest
    → CutsInto (left ++ (codes ": " ++ ((root ++ patterns_text below kids) ++ tail))) (Name left ∷ Colon ∷ Name root ∷ (pattern_tokens below kids ++ ts)) rest
cuts_rule left root kids tail ts rest l r ks s k =
    cuts_name left _ _ rest l refl (cuts_mark 58 Colon _ _ rest refl refl refl refl refl refl refl refl
    (over_blank 32 ((root ++ patterns_text below kids) ++ tail) (Name root) (pattern_tokens below kids ++ ts) rest refl
    (simp append_assoc (cuts_name root (patterns_text below kids ++ tail) (pattern_tokens below kids ++ ts) rest r (stops_patterns below kids tail s) (cuts_patterns below kids tail ts rest ks s k)))))

-- what stands before a cost in parentheses
pub cuts_external : (external more : List ℕ) (ts : List Token) (rest : List ℕ) → IsNumber external → CutsInto more ts rest → CutsInto (codes " = " ++ (external ++ (codes " (" ++ more))) (Equals ∷ Integer external ∷ Open ∷ ts) rest
cuts_external external more ts rest e k =
    over_blank 32 _ Equals _ rest refl (cuts_mark 61 Equals _ _ rest refl refl refl refl refl refl refl refl
    (over_blank 32 (external ++ (32 ∷ 40 ∷ more)) (Integer external) _ rest refl (cuts_number external (32 ∷ 40 ∷ more) _ rest e refl
    (over_blank 32 (40 ∷ more) Open ts rest refl (cuts_mark 40 Open more ts rest refl refl refl refl refl refl refl refl k)))))

-- what stands behind it
pub cuts_closing : (more : List ℕ) (t : Token) (ts : List Token) (rest : List ℕ) → CutsInto more (t ∷ ts) rest → CutsInto (codes ");\n" ++ more) (Close ∷ Semi ∷ t ∷ ts) rest
cuts_closing more t ts rest k =
    cuts_mark 41 Close (59 ∷ 10 ∷ more) _ rest refl refl refl refl refl refl refl refl (cuts_mark 59 Semi (10 ∷ more) _ rest refl refl refl refl refl refl refl refl (over_blank 10 more t ts rest refl k))
