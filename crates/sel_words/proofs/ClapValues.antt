-- What clap finds is what the words give.
use Rattle.std.proofs.Common.{◌≡◌, Bool, true, false, not, ◌&&◌, if◌then◌else◌, List, [], ◌∷◌, ◌++◌, Option, Some, None, is_some, refl, sym, ap, ◌∙◌, subst, codes, append_assoc, append-nil}
use Rattle.std.proofs.Common.{true≢false}
use Rattle.std.specs.Prelude.{fold, bytes_eq, unwrap_or}
use Rattle.std.proofs.lemmas.Slice.Eq.{bytes_eq-Decides}
use Rattle.clap.specs.Lexer.{long_of, short_of}
use Rattle.clap.specs.Walk.{Row, Walk, Waiting, idle, option, positional, walked, all_of, with_values, with_default, settled_rows, used}
use Rattle.clap.specs.Simple.{Shape, built, matches_of}
use Rattle.clap.specs.declared.parser.matches.ValueSource.{ValueSource}
use Rattle.clap.specs.declared.builder.value_parser.Reading.{Reading}
use Rattle.sel_words.specs.CommandLine.{sel_app}
use Rattle.sel_words.specs.Split.{is_name}
use Rattle.sel_words.proofs.ClapReading.{Text, dashes, at_long, reads, plain_name, value_at, values, values_at_long}
use Rattle.sel_words.proofs.ClapTakes.{option_argument, between, IsSel, NotOption, walked_behind, walked_plain, walked_dashes, walked_assigned, walked_named, walked_value, same_bytes, sel_is}

-- ---- rows

abbrev pub vals : Text → List Row → List Text
vals id rows = unwrap_or (all_of id rows) []

same_text : (a b : Text) → bytes_eq a b ≡ true → a ≡ b
same_text a b e = (bytes_eq-Decides a b).0 e

tf : {A : Type 0} (b : Bool) → b ≡ true → b ≡ false → A
tf b p q = cc

-- the first row of the name, or those behind it
vals-row : (id : Text) (r : Row) (rs : List Row) (b : Bool) → bytes_eq r.id id ≡ b → vals id (r ∷ rs) ≡ (if b then r.values else vals id rs)
vals-row id r rs true e = rw e refl
vals-row id r rs false e = rw e refl

same_case : (id : Text) (how : Reading) (s : ValueSource) (vs : List Text) (r : Row) (rs : List Row) (b : Bool) → bytes_eq r.id id ≡ b
    → vals id (with_values id how s vs rs) ≡ vals id rs ++ vs → vals id (with_values id how s vs (r ∷ rs)) ≡ vals id (r ∷ rs) ++ vs
same_case id how s vs r rs true e ih = rw (e, e) refl
same_case id how s vs r rs false e ih = rw (e, e) ih

vals-same : (id : Text) (how : Reading) (s : ValueSource) (vs : List Text) (rows : List Row) → vals id (with_values id how s vs rows) ≡ vals id rows ++ vs
vals-same id how s vs [] = rw (same_bytes id) refl
vals-same id how s vs (r ∷ rs) = same_case id how s vs r rs (bytes_eq r.id id) refl (vals-same id how s vs rs)

other_case : (id other : Text) (how : Reading) (s : ValueSource) (vs : List Text) (r : Row) (rs : List Row) → bytes_eq other id ≡ false
    → (b c : Bool) → bytes_eq r.id other ≡ b → bytes_eq r.id id ≡ c
    → vals id (with_values other how s vs rs) ≡ vals id rs → vals id (with_values other how s vs (r ∷ rs)) ≡ vals id (r ∷ rs)
other_case id other how s vs r rs d true true e f ih =
    tf (bytes_eq other id) (let Q : Text → Type 0 = λ x. bytes_eq x id ≡ true in subst Q (same_text r.id other e) f) d
other_case id other how s vs r rs d true false e f ih = rw (e, f) refl
other_case id other how s vs r rs d false true e f ih = rw (e, f) refl
other_case id other how s vs r rs d false false e f ih = rw (e, f) ih

vals-other : (id other : Text) (how : Reading) (s : ValueSource) (vs : List Text) (rows : List Row) → bytes_eq other id ≡ false → vals id (with_values other how s vs rows) ≡ vals id rows
vals-other id other how s vs [] d = rw d refl
vals-other id other how s vs (r ∷ rs) d = other_case id other how s vs r rs d (bytes_eq r.id other) (bytes_eq r.id id) refl refl (vals-other id other how s vs rs d)

-- one more value of a name, and then more
vals-more : (id name v : Text) (how : Reading) (s : ValueSource) (rows : List Row) (next : List Text)
    → vals id (with_values name how s (v ∷ []) rows) ++ next ≡ vals id rows ++ value_at id name v next
vals-more id name v how s rows next = more_case (bytes_eq name id) refl
  where
    more_case : (b : Bool) → bytes_eq name id ≡ b → vals id (with_values name how s (v ∷ []) rows) ++ next ≡ vals id rows ++ value_at id name v next
    more_case true e = rw (e, same_text name id e, vals-same id how s (v ∷ []) rows) (append_assoc (vals id rows) (v ∷ []) next)
    more_case false e = rw (e, vals-other id name how s (v ∷ []) rows e) refl

-- ---- the words, one by one

-- the values of a name at the end of a walk
abbrev values_at_end : Text → Shape → Walk → List Text → List Text
values_at_end id s w words = let h = (fold (walked s.rules []) w words).held in vals id (settled_rows s.rules h.pending h.rows)

values_at_end-next : (id : Text) (s : Shape) (w next : Walk) (word : Text) (rest : List Text) (v : List Text) → walked s.rules [] w word ≡ next → values_at_end id s next rest ≡ v → values_at_end id s w (word ∷ rest) ≡ v
values_at_end-next id s w next word rest v e h = ap (λ x. values_at_end id s x rest) e ∙ h

-- what is pending at a plain word, and at an option's value, is used
used_plain : (id : Text) (s : Shape) → IsSel s → (word : Text) (rows : List Row) (next : List Text)
    → vals id (settled_rows s.rules (Some (codes "plain", word ∷ [])) rows) ++ next ≡ vals id rows ++ value_at id plain_name word next
used_plain id s h word rows next = rw h.plain_id (vals-more id plain_name word _ _ rows next)

used_option : (id : Text) (s : Shape) → IsSel s → (name word : Text) → is_name name ≡ true → (rows : List Row) (next : List Text)
    → vals id (settled_rows s.rules (Some (name, word ∷ [])) rows) ++ next ≡ vals id rows ++ value_at id name word next
used_option id s h name word m rows next = rw (h.option_id name m) (vals-more id name word _ _ rows next)

all_behind : (id : Text) (b : Bool) → bytes_eq plain_name id ≡ b → (word : Text) (rest : List Text)
    → value_at id plain_name word (if bytes_eq plain_name id then rest else []) ≡ (if bytes_eq plain_name id then word ∷ rest else [])
all_behind id true e word rest = rw e refl
all_behind id false e word rest = rw e refl

nothing_more : (id : Text) (b : Bool) → bytes_eq plain_name id ≡ b → let none : List Text = [] in none ≡ (if bytes_eq plain_name id then none else none)
nothing_more id true e = rw e refl
nothing_more id false e = rw e refl

behind-values : (id : Text) (s : Shape) → IsSel s → (words : List Text) (rows : List Row) (p : Option (Text × List Text)) (waiting : Waiting)
    → values_at_end id s (between rows p waiting true) words ≡ vals id (settled_rows s.rules p rows) ++ (if bytes_eq plain_name id then words else [])
behind-values id s h [] rows p waiting =
    sym (append-nil (vals id (settled_rows s.rules p rows))) ∙ ap (λ l. vals id (settled_rows s.rules p rows) ++ l) (nothing_more id (bytes_eq plain_name id) refl)
behind-values id s h (word ∷ rest) rows p waiting =
    values_at_end-next id s (between rows p waiting true) _ word rest _ (walked_behind s h rows p waiting word)
    (behind-values id s h rest (settled_rows s.rules p rows) (Some (codes "plain", word ∷ [])) positional
    ∙ used_plain id s h word (settled_rows s.rules p rows) (if bytes_eq plain_name id then rest else [])
    ∙ ap (λ l. vals id (settled_rows s.rules p rows) ++ l) (all_behind id (bytes_eq plain_name id) refl word rest))

abbrev Idle : Text → Shape → List Text → Bool → List Text → Type 0
Idle id s rest good next = good ≡ true → (rows : List Row) (p : Option (Text × List Text)) (waiting : Waiting) → NotOption waiting
    → values_at_end id s (between rows p waiting false) rest ≡ vals id (settled_rows s.rules p rows) ++ next

abbrev Wait : Text → Shape → List Text → (Text → Bool) → (Text → List Text) → Type 0
Wait id s rest good next = (name : Text) → is_name name ≡ true → good name ≡ true → (rows : List Row)
    → values_at_end id s (between rows (Some (name, [])) (option name) false) rest ≡ vals id rows ++ next name

module _ (id : Text) (s : Shape) (h : IsSel s) (word : Text) (rest : List Text) (good : Bool) (good_wait : Text → Bool) (next : List Text) (wait : Text → List Text)
    (idle_next : Idle id s rest good next) (wait_next : Wait id s rest good_wait wait) where
  at_name : (rows : List Row) (p : Option (Text × List Text)) (waiting : Waiting) → NotOption waiting → bytes_eq word dashes ≡ false
      → (name : Text) (v : Option Text) → long_of word ≡ Some (name, v) → (m : Bool) → is_name name ≡ m → (m && (if is_some v then good else good_wait name)) ≡ true
      → values_at_end id s (between rows p waiting false) (word ∷ rest) ≡ vals id (settled_rows s.rules p rows) ++ values_at_long id word (Some (name, v)) next wait
  at_name rows p waiting n d name v l false m g = absurd (true≢false (sym g))
  at_name rows p waiting n d name (Some v) l true m g =
      values_at_end-next id s (between rows p waiting false) _ word rest _ (walked_assigned s h rows p waiting word name v n d l m)
      (idle_next g (used (option_argument name) (v ∷ []) (settled_rows s.rules p rows)) None idle tt ∙ vals-more id name v _ _ (settled_rows s.rules p rows) next)
  at_name rows p waiting n d name None l true m g =
      values_at_end-next id s (between rows p waiting false) _ word rest _ (walked_named s h rows p waiting word name n d l m) (wait_next name m g (settled_rows s.rules p rows))

  idle_word : (rows : List Row) (p : Option (Text × List Text)) (waiting : Waiting) → NotOption waiting
      → (d : Bool) (l : Option (Text × Option Text)) (c : Option Text) → bytes_eq word dashes ≡ d → long_of word ≡ l → short_of word ≡ c
      → (if d then true else at_long l c good good_wait) ≡ true
      → values_at_end id s (between rows p waiting false) (word ∷ rest) ≡ vals id (settled_rows s.rules p rows)
      ++ (if d then (if bytes_eq plain_name id then rest else []) else values_at_long id word l next wait)
  idle_word rows p waiting n true l c ed el ec g =
      values_at_end-next id s (between rows p waiting false) _ word rest _ (walked_dashes s rows p waiting word ed) (behind-values id s h rest rows p waiting)
  idle_word rows p waiting n false (Some q) c ed el ec g = at_name rows p waiting n ed q.0 q.1 el (is_name q.0) refl g
  idle_word rows p waiting n false None (Some flags) ed el ec g = absurd (true≢false (sym g))
  idle_word rows p waiting n false None None ed el ec g =
      values_at_end-next id s (between rows p waiting false) _ word rest _ (walked_plain s h rows p waiting word n ed el ec)
      (idle_next g (settled_rows s.rules p rows) (Some (codes "plain", word ∷ [])) positional tt ∙ used_plain id s h word (settled_rows s.rules p rows) next)

  wait_word : (name : Text) → is_name name ≡ true → (rows : List Row)
      → (d : Bool) (l : Option (Text × Option Text)) (c : Option Text) → bytes_eq word dashes ≡ d → long_of word ≡ l → short_of word ≡ c
      → ((not d && (not (is_some l) && not (is_some c))) && good) ≡ true
      → values_at_end id s (between rows (Some (name, [])) (option name) false) (word ∷ rest) ≡ vals id rows ++ value_at id name word next
  wait_word name m rows true l c ed el ec g = absurd (true≢false (sym g))
  wait_word name m rows false (Some q) c ed el ec g = absurd (true≢false (sym g))
  wait_word name m rows false None (Some flags) ed el ec g = absurd (true≢false (sym g))
  wait_word name m rows false None None ed el ec g =
      values_at_end-next id s (between rows (Some (name, [])) (option name) false) _ word rest _ (walked_value s h rows name word m (same_bytes name) ed el ec)
      (idle_next g rows (Some (name, word ∷ [])) idle tt ∙ used_option id s h name word m rows next)

gives : (id : Text) (s : Shape) → IsSel s → (words : List Text)
    → Idle id s words (reads None words) (values id None words) × Wait id s words (λ name. reads (Some name) words) (λ name. values id (Some name) words)
gives id s h [] = (λ g rows p waiting n. sym (append-nil (vals id (settled_rows s.rules p rows))), λ name m g. absurd (true≢false (sym g)))
gives id s h (word ∷ rest) =
    let r = gives id s h rest in (
      λ g rows p waiting n. idle_word id s h word rest _ (λ name. reads (Some name) rest) _ (λ name. values id (Some name) rest) r.0 r.1 rows p waiting n
          (bytes_eq word dashes) (long_of word) (short_of word) refl refl refl g,
      λ name m g rows. wait_word id s h word rest _ (λ other. reads (Some other) rest) _ (λ other. values id (Some other) rest) r.0 r.1 name m rows
          (bytes_eq word dashes) (long_of word) (short_of word) refl refl refl g,
    )

-- no argument has a default
if_same : {A : Type 0} (b : Bool) (x : A) → (if b then x else x) ≡ x
if_same true x = refl
if_same false x = refl

no_defaults : (rows : List Row) → fold with_default rows (built sel_app).top.rules ≡ rows
no_defaults rows = simp if_same refl

-- clap finds the values that the words give
pub values-is : (id : Text) (words : List Text) → reads None words ≡ true → vals id (matches_of sel_app words) ≡ values id None words
values-is id words g = ap (λ rows. vals id rows) (no_defaults _) ∙ (gives id (built sel_app).top sel_is words).0 g [] None idle tt
