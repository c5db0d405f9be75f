-- What clap takes is what can be read.
use Rattle.std.proofs.Common.{◌≡◌, ℕ, Bool, true, false, not, ◌&&◌, ◌||◌, if◌then◌else◌, List, [], ◌∷◌, Option, Some, None, is_some, suc, length, refl, sym, ap, ◌∙◌, subst, codes, ◌⊎◌, inl, inr, slice_get}
use Rattle.std.specs.Prelude.{fold, bytes_eq}
use Rattle.std.specs.Str.{chars}
use Rattle.clap.specs.Lexer.{long_of, short_of}
use Rattle.clap.specs.Takes.{walk_passes, turn_passes, settle_passes, flags_pass}
use Rattle.clap.specs.Takes.{positional_passes}
use Rattle.clap.specs.Walk.{to_positional, settled_rows, is_pending, used}
use Rattle.clap.specs.Walk.{Row, Rule, Walk, Waiting, idle, option, positional, walked, arg_by_id, arg_by_long, arg_by_short, arg_by_index}
use Rattle.std.proofs.lemmas.Slice.Eq.{bytes_eq-Decides}
use Rattle.clap.specs.Takes.{takes}
use Rattle.clap.specs.Walk.{nothing_held, walk_from, walk}
use Rattle.clap.specs.Takes.{entered_passes, level_passes}
use Rattle.clap.specs.Simple.{entered}
use Rattle.std.proofs.Common.{true≢false}
use Rattle.sel_words.specs.CommandLine.{sel_app}
use Rattle.clap.specs.Simple.{Shape, built, filled, with_index}
use Rattle.sel_words.specs.CommandLine.{option_rule, plain_rule}
use Rattle.sel_words.specs.Split.{is_name}
use Rattle.sel_words.proofs.ClapReading.{Text, dashes, at_long, reads}

abbrev pub option_argument : Text → Rule
option_argument name = with_index 1 (filled (option_rule name))

abbrev pub plain_argument : Rule
plain_argument = with_index 1 (filled plain_rule)

-- the walk between two words, before a subcommand, with no bundle begun
abbrev pub between : List Row → Option (Text × List Text) → Waiting → Bool → Walk
between rows p waiting trailing = record {
  held = record { rows = rows; pending = p; skip = 0 };
  waiting = waiting;
  position = 1;
  is_trailing = trailing;
  stopped = None;
}

-- what the command's arguments are
pub record IsSel (s : Shape) : Type 0 where
  pub by_index : arg_by_index s.rules 1 ≡ Some plain_argument
  pub by_long : (name : Text) → is_name name ≡ true → arg_by_long s.rules name ≡ Some (option_argument name)
  pub by_no_long : (name : Text) → is_name name ≡ false → arg_by_long s.rules name ≡ None
  pub by_short : (c : ℕ) → arg_by_short s.rules c ≡ None
  pub plain_id : arg_by_id s.rules (codes "plain") ≡ Some plain_argument
  pub option_id : (name : Text) → is_name name ≡ true → arg_by_id s.rules name ≡ Some (option_argument name)
  pub help : s.disable_help_subcommand ≡ true

-- the walk passes over these words, and what is pending at its end passes
abbrev pub passes_all : Shape → Walk → List Text → Bool
passes_all s w [] = settle_passes s.rules s.args_override_self w.held
passes_all s w (word ∷ rest) = turn_passes s [] w word && passes_all s (walked s.rules [] w word) rest

and_assoc : (a b c : Bool) → ((a && b) && c) ≡ (a && (b && c))
and_assoc true b c = refl
and_assoc false b c = refl

passes_all-is : (s : Shape) (w : Walk) (words : List Text)
    → (walk_passes s [] w words && settle_passes s.rules s.args_override_self (fold (walked s.rules []) w words).held) ≡ passes_all s w words
unfolding walk_passes
passes_all-is s w [] = refl
passes_all-is s w (word ∷ rest) = and_assoc (turn_passes s [] w word) _ _ ∙ ap (λ b. turn_passes s [] w word && b) (passes_all-is s (walked s.rules [] w word) rest)

step_true : (s : Shape) (w next : Walk) (word : Text) (rest : List Text) (v : Bool)
    → turn_passes s [] w word ≡ true → walked s.rules [] w word ≡ next → passes_all s next rest ≡ v → passes_all s w (word ∷ rest) ≡ v
step_true s w next word rest v t e h = ap (λ b. b && passes_all s (walked s.rules [] w word) rest) t ∙ ap (λ x. passes_all s x rest) e ∙ h

step_false : (s : Shape) (w : Walk) (word : Text) (rest : List Text) → turn_passes s [] w word ≡ false → passes_all s w (word ∷ rest) ≡ false
step_false s w word rest t = ap (λ b. b && passes_all s (walked s.rules [] w word) rest) t

-- what is pending passes
abbrev pub Settles : Shape → Option (Text × List Text) → Type 0
Settles s p = (rows : List Row) → settle_passes s.rules s.args_override_self (record { rows = rows; pending = p; skip = 0 }) ≡ true

pub ok_none : (s : Shape) → Settles s None
ok_none s rows = refl

pub ok_plain : (s : Shape) → IsSel s → (word : Text) → Settles s (Some (codes "plain", word ∷ []))
ok_plain s h word rows = rw h.plain_id refl

pub ok_option : (s : Shape) → IsSel s → (name word : Text) → is_name name ≡ true → Settles s (Some (name, word ∷ []))
ok_option s h name word n rows = rw (h.option_id name n) refl

and_false : (a : Bool) → (a && false) ≡ false
and_false true = refl
and_false false = refl

or_right : (a b : Bool) → b ≡ true → (a || b) ≡ true
or_right true b e = refl
or_right false b e = e

-- a word goes to the positional
plain_passes : (s : Shape) (rows : List Row) (p : Option (Text × List Text)) → Settles s p
    → positional_passes s.rules s.args_override_self plain_argument (record { rows = rows; pending = p; skip = 0 }) ≡ true
plain_passes s rows p ok = or_right _ _ (ok rows)

next_plain : (s : Shape) (rows : List Row) (p : Option (Text × List Text)) (waiting : Waiting) (trailing : Bool) (word : Text)
    → to_positional s.rules (Some plain_argument) word (between rows p waiting trailing) (record { rows = rows; pending = p; skip = 0 })
    ≡ between (settled_rows s.rules p rows) (Some (codes "plain", word ∷ [])) positional (trailing || false)
next_plain s rows p waiting trailing word = rw (and_false (is_pending plain_argument p)) refl

-- a plain word passes, and goes to the positional
turn_behind : (s : Shape) → IsSel s → (rows : List Row) (p : Option (Text × List Text)) (waiting : Waiting) (word : Text) → Settles s p
    → turn_passes s [] (between rows p waiting true) word ≡ true
turn_behind s h rows p waiting word ok = rw h.by_index (plain_passes s rows p ok)

pub walked_behind : (s : Shape) → IsSel s → (rows : List Row) (p : Option (Text × List Text)) (waiting : Waiting) (word : Text)
    → walked s.rules [] (between rows p waiting true) word ≡ between (settled_rows s.rules p rows) (Some (codes "plain", word ∷ [])) positional true
unfolding walked
walked_behind s h rows p waiting word = rw h.by_index (next_plain s rows p waiting true word)

-- behind `--` each word is plain
behind : (s : Shape) → IsSel s → (words : List Text) (rows : List Row) (p : Option (Text × List Text)) (waiting : Waiting) → Settles s p → passes_all s (between rows p waiting true) words ≡ true
behind s h [] rows p waiting ok = ok rows
behind s h (word ∷ rest) rows p waiting ok =
    step_true s (between rows p waiting true) _ word rest true (turn_behind s h rows p waiting word ok) (walked_behind s h rows p waiting word)
    (behind s h rest (settled_rows s.rules p rows) (Some (codes "plain", word ∷ [])) positional (ok_plain s h word))

-- ---- before `--`

abbrev pub NotOption : Waiting → Type 0
NotOption idle = Unit {0}
NotOption positional = Unit {0}
NotOption (option name) = ⊥

turn_plain : (s : Shape) → IsSel s → (rows : List Row) (p : Option (Text × List Text)) (waiting : Waiting) (word : Text) → NotOption waiting → Settles s p
    → bytes_eq word dashes ≡ false → long_of word ≡ None → short_of word ≡ None
    → turn_passes s [] (between rows p waiting false) word ≡ true
turn_plain s h rows p idle word n ok d l c = rw (d, l, c, h.by_index) (plain_passes s rows p ok)
turn_plain s h rows p positional word n ok d l c = rw (d, l, c, h.by_index) (plain_passes s rows p ok)
turn_plain s h rows p (option name) word n ok d l c = absurd n

pub walked_plain : (s : Shape) → IsSel s → (rows : List Row) (p : Option (Text × List Text)) (waiting : Waiting) (word : Text) → NotOption waiting
    → bytes_eq word dashes ≡ false → long_of word ≡ None → short_of word ≡ None
    → walked s.rules [] (between rows p waiting false) word ≡ between (settled_rows s.rules p rows) (Some (codes "plain", word ∷ [])) positional false
unfolding walked
walked_plain s h rows p idle word n d l c = rw (d, l, c, h.by_index) (next_plain s rows p idle false word)
walked_plain s h rows p positional word n d l c = rw (d, l, c, h.by_index) (next_plain s rows p positional false word)
walked_plain s h rows p (option name) word n d l c = absurd n

turn_dashes : (s : Shape) (rows : List Row) (p : Option (Text × List Text)) (waiting : Waiting) (word : Text)
    → bytes_eq word dashes ≡ true → turn_passes s [] (between rows p waiting false) word ≡ true
turn_dashes s rows p idle word d = rw d refl
turn_dashes s rows p positional word d = rw d refl
turn_dashes s rows p (option name) word d = rw d refl

pub walked_dashes : (s : Shape) (rows : List Row) (p : Option (Text × List Text)) (waiting : Waiting) (word : Text)
    → bytes_eq word dashes ≡ true → walked s.rules [] (between rows p waiting false) word ≡ between rows p waiting true
unfolding walked
walked_dashes s rows p idle word d = rw d refl
walked_dashes s rows p positional word d = rw d refl
walked_dashes s rows p (option name) word d = rw d refl

-- `--name=value`
turn_assigned : (s : Shape) → IsSel s → (rows : List Row) (p : Option (Text × List Text)) (waiting : Waiting) (word name v : Text) → NotOption waiting → Settles s p
    → bytes_eq word dashes ≡ false → long_of word ≡ Some (name, Some v) → is_name name ≡ true
    → turn_passes s [] (between rows p waiting false) word ≡ true
turn_assigned s h rows p idle word name v n ok d l m = rw (d, l, h.by_long name m, ok rows) refl
turn_assigned s h rows p positional word name v n ok d l m = rw (d, l, h.by_long name m, ok rows) refl
turn_assigned s h rows p (option other) word name v n ok d l m = absurd n

pub walked_assigned : (s : Shape) → IsSel s → (rows : List Row) (p : Option (Text × List Text)) (waiting : Waiting) (word name v : Text) → NotOption waiting
    → bytes_eq word dashes ≡ false → long_of word ≡ Some (name, Some v) → is_name name ≡ true
    → walked s.rules [] (between rows p waiting false) word ≡ between (used (option_argument name) (v ∷ []) (settled_rows s.rules p rows)) None idle false
unfolding walked
walked_assigned s h rows p idle word name v n d l m = rw (d, l, h.by_long name m) refl
walked_assigned s h rows p positional word name v n d l m = rw (d, l, h.by_long name m) refl
walked_assigned s h rows p (option other) word name v n d l m = absurd n

-- `--name`
turn_named : (s : Shape) → IsSel s → (rows : List Row) (p : Option (Text × List Text)) (waiting : Waiting) (word name : Text) → NotOption waiting → Settles s p
    → bytes_eq word dashes ≡ false → long_of word ≡ Some (name, None) → is_name name ≡ true
    → turn_passes s [] (between rows p waiting false) word ≡ true
turn_named s h rows p idle word name n ok d l m = rw (d, l, h.by_long name m, ok rows) refl
turn_named s h rows p positional word name n ok d l m = rw (d, l, h.by_long name m, ok rows) refl
turn_named s h rows p (option other) word name n ok d l m = absurd n

pub walked_named : (s : Shape) → IsSel s → (rows : List Row) (p : Option (Text × List Text)) (waiting : Waiting) (word name : Text) → NotOption waiting
    → bytes_eq word dashes ≡ false → long_of word ≡ Some (name, None) → is_name name ≡ true
    → walked s.rules [] (between rows p waiting false) word ≡ between (settled_rows s.rules p rows) (Some (name, [])) (option name) false
unfolding walked
walked_named s h rows p idle word name n d l m = rw (d, l, h.by_long name m) refl
walked_named s h rows p positional word name n d l m = rw (d, l, h.by_long name m) refl
walked_named s h rows p (option other) word name n d l m = absurd n

-- an unknown name, in any state
turn_unknown : (s : Shape) → IsSel s → (rows : List Row) (p : Option (Text × List Text)) (waiting : Waiting) (word name : Text) (v : Option Text)
    → bytes_eq word dashes ≡ false → long_of word ≡ Some (name, v) → is_name name ≡ false
    → turn_passes s [] (between rows p waiting false) word ≡ false
turn_unknown s h rows p idle word name v d l m = rw (d, l, h.by_no_long name m) refl
turn_unknown s h rows p positional word name v d l m = rw (d, l, h.by_no_long name m) refl
turn_unknown s h rows p (option other) word name v d l m = rw (d, l, h.by_no_long name m) refl

-- the flags are text with a first character
pub record HasFirst (flags : Text) : Type 0 where
  pub count : ℕ
  pub is_count : length flags ≡ suc count
  pub first : ℕ
  pub is_first : slice_get (chars flags) 0 ≡ Some first

turn_bundle : (s : Shape) → IsSel s → (rows : List Row) (p : Option (Text × List Text)) (waiting : Waiting) (word flags : Text) → HasFirst flags
    → bytes_eq word dashes ≡ false → long_of word ≡ None → short_of word ≡ Some flags
    → turn_passes s [] (between rows p waiting false) word ≡ false
unfolding flags_pass
turn_bundle s h rows p idle word flags f d l c = rw (d, l, c, f.is_count, f.is_first, h.by_short f.first) refl
turn_bundle s h rows p positional word flags f d l c = rw (d, l, c, f.is_count, f.is_first, h.by_short f.first) refl
turn_bundle s h rows p (option other) word flags f d l c = rw (d, l, c, f.is_count, f.is_first, h.by_short f.first) refl

-- ---- while an option waits for its value

-- an option without a value does not pass
unsettled : (s : Shape) → IsSel s → (name : Text) → is_name name ≡ true → (rows : List Row)
    → settle_passes s.rules s.args_override_self (record { rows = rows; pending = Some (name, []); skip = 0 }) ≡ false
unsettled s h name m rows = rw (h.option_id name m) refl

or_false : (a b : Bool) → a ≡ false → b ≡ false → (a || b) ≡ false
or_false true b p q = p
or_false false b p q = q

lost : (s : Shape) → IsSel s → (words : List Text) (rows : List Row) (name : Text) (waiting : Waiting) → is_name name ≡ true → passes_all s (between rows (Some (name, [])) waiting true) words ≡ false
lost s h [] rows name waiting m = unsettled s h name m rows
lost s h (word ∷ rest) rows name waiting m =
    step_false s (between rows (Some (name, [])) waiting true) word rest
    (rw h.by_index (or_false (is_pending plain_argument (Some (name, [])) && false) _ (and_false (is_pending plain_argument (Some (name, [])))) (unsettled s h name m rows)))

turn_value : (s : Shape) → IsSel s → (rows : List Row) (name word : Text) → is_name name ≡ true
    → bytes_eq word dashes ≡ false → long_of word ≡ None → short_of word ≡ None
    → turn_passes s [] (between rows (Some (name, [])) (option name) false) word ≡ true
turn_value s h rows name word m d l c = rw (d, l, c) refl

pub walked_value : (s : Shape) → IsSel s → (rows : List Row) (name word : Text) → is_name name ≡ true → bytes_eq name name ≡ true
    → bytes_eq word dashes ≡ false → long_of word ≡ None → short_of word ≡ None
    → walked s.rules [] (between rows (Some (name, [])) (option name) false) word ≡ between rows (Some (name, word ∷ [])) idle false
unfolding walked
walked_value s h rows name word m self d l c = rw (d, l, c, h.option_id name m, self) refl

turn_again : (s : Shape) → IsSel s → (rows : List Row) (name word other : Text) (v : Option Text) → is_name name ≡ true
    → bytes_eq word dashes ≡ false → long_of word ≡ Some (other, v) → is_name other ≡ true
    → turn_passes s [] (between rows (Some (name, [])) (option name) false) word ≡ false
turn_again s h rows name word other (Some v) m d l k = rw (d, l, h.by_long other k, unsettled s h name m rows) refl
turn_again s h rows name word other None m d l k = rw (d, l, h.by_long other k, unsettled s h name m rows) refl

-- ---- the words, one by one

pub same_bytes : (name : Text) → bytes_eq name name ≡ true
same_bytes name = (bytes_eq-Decides name name).1 refl

-- the flags of each word begin with a character, as they do in text
abbrev pub IsReadable : Text → Type 0
IsReadable word = (flags : Text) → short_of word ≡ Some flags → HasFirst flags

abbrev pub AllReadable : List Text → Type 0
AllReadable [] = Unit {0}
AllReadable (word ∷ rest) = IsReadable word × AllReadable rest

abbrev pub Idle : Shape → List Text → Bool → Type 0
Idle s rest next = (rows : List Row) (p : Option (Text × List Text)) (waiting : Waiting) → NotOption waiting → Settles s p → passes_all s (between rows p waiting false) rest ≡ next

abbrev pub Wait : Shape → List Text → (Text → Bool) → Type 0
Wait s rest wait = (rows : List Row) (name : Text) → is_name name ≡ true → passes_all s (between rows (Some (name, [])) (option name) false) rest ≡ wait name

module _ (s : Shape) (h : IsSel s) (word : Text) (rest : List Text) (ready : IsReadable word) (next : Bool) (wait : Text → Bool)
    (idle_next : Idle s rest next) (wait_next : Wait s rest wait) where
  at_name : (rows : List Row) (p : Option (Text × List Text)) (waiting : Waiting) → NotOption waiting → Settles s p → bytes_eq word dashes ≡ false
      → (name : Text) (v : Option Text) → long_of word ≡ Some (name, v) → (m : Bool) → is_name name ≡ m
      → passes_all s (between rows p waiting false) (word ∷ rest) ≡ (m && (if is_some v then next else wait name))
  at_name rows p waiting n ok d name v l false m = step_false s (between rows p waiting false) word rest (turn_unknown s h rows p waiting word name v d l m)
  at_name rows p waiting n ok d name (Some v) l true m =
      step_true s (between rows p waiting false) _ word rest next (turn_assigned s h rows p waiting word name v n ok d l m) (walked_assigned s h rows p waiting word name v n d l m)
      (idle_next (used (option_argument name) (v ∷ []) (settled_rows s.rules p rows)) None idle tt (ok_none s))
  at_name rows p waiting n ok d name None l true m =
      step_true s (between rows p waiting false) _ word rest (wait name) (turn_named s h rows p waiting word name n ok d l m) (walked_named s h rows p waiting word name n d l m)
      (wait_next (settled_rows s.rules p rows) name m)

  -- any word, where no option waits
  idle_word : (rows : List Row) (p : Option (Text × List Text)) (waiting : Waiting) → NotOption waiting → Settles s p
      → (d : Bool) (l : Option (Text × Option Text)) (c : Option Text) → bytes_eq word dashes ≡ d → long_of word ≡ l → short_of word ≡ c
      → passes_all s (between rows p waiting false) (word ∷ rest) ≡ (if d then true else at_long l c next wait)
  idle_word rows p waiting n ok true l c ed el ec =
      step_true s (between rows p waiting false) _ word rest true (turn_dashes s rows p waiting word ed) (walked_dashes s rows p waiting word ed) (behind s h rest rows p waiting ok)
  idle_word rows p waiting n ok false (Some q) c ed el ec = at_name rows p waiting n ok ed q.0 q.1 el (is_name q.0) refl
  idle_word rows p waiting n ok false None (Some flags) ed el ec =
      step_false s (between rows p waiting false) word rest (turn_bundle s h rows p waiting word flags (ready flags ec) ed el ec)
  idle_word rows p waiting n ok false None None ed el ec =
      step_true s (between rows p waiting false) _ word rest next (turn_plain s h rows p waiting word n ok ed el ec) (walked_plain s h rows p waiting word n ed el ec)
      (idle_next (settled_rows s.rules p rows) (Some (codes "plain", word ∷ [])) positional tt (ok_plain s h word))

  -- any word, where an option waits for it
  again : (rows : List Row) (name : Text) → is_name name ≡ true → bytes_eq word dashes ≡ false
      → (other : Text) (v : Option Text) → long_of word ≡ Some (other, v) → (m : Bool) → is_name other ≡ m
      → passes_all s (between rows (Some (name, [])) (option name) false) (word ∷ rest) ≡ false
  again rows name k d other v l true m = step_false s (between rows (Some (name, [])) (option name) false) word rest (turn_again s h rows name word other v k d l m)
  again rows name k d other v l false m = step_false s (between rows (Some (name, [])) (option name) false) word rest (turn_unknown s h rows (Some (name, [])) (option name) word other v d l m)

  wait_word : (rows : List Row) (name : Text) → is_name name ≡ true
      → (d : Bool) (l : Option (Text × Option Text)) (c : Option Text) → bytes_eq word dashes ≡ d → long_of word ≡ l → short_of word ≡ c
      → passes_all s (between rows (Some (name, [])) (option name) false) (word ∷ rest) ≡ ((not d && (not (is_some l) && not (is_some c))) && next)
  wait_word rows name k true l c ed el ec =
      step_true s (between rows (Some (name, [])) (option name) false) _ word rest false (turn_dashes s rows (Some (name, [])) (option name) word ed)
      (walked_dashes s rows (Some (name, [])) (option name) word ed) (lost s h rest rows name (option name) k)
  wait_word rows name k false (Some q) c ed el ec = again rows name k ed q.0 q.1 el (is_name q.0) refl
  wait_word rows name k false None (Some flags) ed el ec =
      step_false s (between rows (Some (name, [])) (option name) false) word rest (turn_bundle s h rows (Some (name, [])) (option name) word flags (ready flags ec) ed el ec)
  wait_word rows name k false None None ed el ec =
      step_true s (between rows (Some (name, [])) (option name) false) _ word rest next (turn_value s h rows name word k ed el ec)
      (walked_value s h rows name word k (same_bytes name) ed el ec)
      (idle_next rows (Some (name, word ∷ [])) idle tt (ok_option s h name word k))

agrees : (s : Shape) → IsSel s → (words : List Text) → AllReadable words → Idle s words (reads None words) × Wait s words (λ name. reads (Some name) words)
agrees s h [] ready = (λ rows p waiting n ok. ok rows, λ rows name m. unsettled s h name m rows)
agrees s h (word ∷ rest) ready =
    let r = agrees s h rest ready.1 in (
      λ rows p waiting n ok. idle_word s h word rest ready.0 _ (λ name. reads (Some name) rest) r.0 r.1 rows p waiting n ok (bytes_eq word dashes) (long_of word) (short_of word) refl refl refl,
      λ rows name m. wait_word s h word rest ready.0 _ (λ other. reads (Some other) rest) r.0 r.1 rows name m (bytes_eq word dashes) (long_of word) (short_of word) refl refl refl,
    )

-- ---- the command of this program

or_cases : (a b : Bool) → (a || b) ≡ true → (a ≡ true) ⊎ (b ≡ true)
or_cases true b e = inl refl
or_cases false b e = inr e

or_split : (a b : Bool) → (a || b) ≡ false → (a ≡ false) × (b ≡ false)
or_split true b e = absurd (true≢false e)
or_split false b e = (refl, e)

same : (known name : Text) → bytes_eq known name ≡ true → known ≡ name
same known name e = (bytes_eq-Decides known name).0 e

pub names_case : (Q : Text → Type 0) → Q (codes "workers") → Q (codes "states") → Q (codes "rows") → Q (codes "seed") → Q (codes "trees") → Q (codes "size") → Q (codes "registers") → (name : Text) → is_name name ≡ true → Q name
names_case Q a b c d e f g name m =
    elim (or_cases (bytes_eq (codes "workers") name) _ m) [
      | inl x ↦ subst Q (same _ name x) a
      | inr m ↦
          elim (or_cases (bytes_eq (codes "states") name) _ m) [
            | inl x ↦ subst Q (same _ name x) b
            | inr m ↦
                elim (or_cases (bytes_eq (codes "rows") name) _ m) [
                  | inl x ↦ subst Q (same _ name x) c
                  | inr m ↦
                      elim (or_cases (bytes_eq (codes "seed") name) _ m) [
                        | inl x ↦ subst Q (same _ name x) d
                        | inr m ↦
                            elim (or_cases (bytes_eq (codes "trees") name) _ m) [
                              | inl x ↦ subst Q (same _ name x) e
                              | inr m ↦
                                  elim (or_cases (bytes_eq (codes "size") name) _ m) [
                                    | inl x ↦ subst Q (same _ name x) f
                                    | inr m ↦
                                        elim (or_cases (bytes_eq (codes "registers") name) _ m) [ inl x ↦ subst Q (same _ name x) g | inr m ↦ absurd (true≢false (sym m)) ]
                                  ]
                            ]
                      ]
                ]
          ]
    ]

no_name : (name : Text) → is_name name ≡ false → arg_by_long (built sel_app).top.rules name ≡ None
no_name name m =
    let a = or_split (bytes_eq (codes "workers") name) _ m in
    let b = or_split (bytes_eq (codes "states") name) _ a.1 in
    let c = or_split (bytes_eq (codes "rows") name) _ b.1 in
    let d = or_split (bytes_eq (codes "seed") name) _ c.1 in
    let e = or_split (bytes_eq (codes "trees") name) _ d.1 in
    let f = or_split (bytes_eq (codes "size") name) _ e.1 in
    let g = or_split (bytes_eq (codes "registers") name) _ f.1 in
    rw (a.0, b.0, c.0, d.0, e.0, f.0, g.0) refl

pub sel_is : IsSel (built sel_app).top
sel_is = record {
  by_index = refl;
  by_long = names_case (λ name. arg_by_long (built sel_app).top.rules name ≡ Some (option_argument name)) refl refl refl refl refl refl refl;
  by_no_long = no_name;
  by_short = λ c. refl;
  plain_id = refl;
  option_id = names_case (λ name. arg_by_id (built sel_app).top.rules name ≡ Some (option_argument name)) refl refl refl refl refl refl refl;
  help = refl;
}

and_true : (a : Bool) → (a && true) ≡ a
and_true true = refl
and_true false = refl

-- no subcommand is there to stop at
no_stop : (stop : Option (Text × List Text)) (words : List Text)
    → (entered_passes (built sel_app) stop && level_passes (built sel_app).top [] nothing_held words (is_some (entered (built sel_app) stop))) ≡ level_passes (built sel_app).top [] nothing_held words false
no_stop None words = refl
no_stop (Some stop) words = refl

-- clap takes exactly the words that can be read
pub takes-is : (words : List Text) → AllReadable words → takes sel_app words ≡ reads None words
takes-is words ready =
    let s = (built sel_app).top in
    let w = walk_from nothing_held in
    no_stop ((walk s.rules [] nothing_held words).stopped) words
    ∙ ap (λ b. walk_passes s [] w words && b) (and_true (settle_passes s.rules s.args_override_self (walk s.rules [] nothing_held words).held))
    ∙ passes_all-is s w words
    ∙ (agrees s sel_is words ready).0 [] None idle tt (ok_none s)
