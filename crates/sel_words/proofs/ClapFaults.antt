-- Where clap finds no fault, the words can be read.
use Rattle.std.proofs.Common.{◌≡◌, Bool, true, false, not, ◌&&◌, if◌then◌else◌, List, [], ◌∷◌, Option, Some, None, is_some, refl, ap, ◌∙◌, subst, codes}
use Rattle.std.specs.Prelude.{fold, bytes_eq}
use Rattle.clap.specs.Lexer.{long_of, short_of}
use Rattle.clap.specs.Kinds.{Kinds, or_else}
use Rattle.clap.specs.Faults.{fault_of, turn_fault, walk_fault, settle_fault, flags_fault}
use Rattle.clap.specs.Walk.{Row, Walk, Waiting, idle, option, positional, walked, walk, settled_rows, used, is_pending, nothing_held, walk_from}
use Rattle.clap.specs.Simple.{Shape, built}
use Rattle.sel_words.specs.CommandLine.{sel_app}
use Rattle.sel_words.specs.Split.{is_name}
use Rattle.sel_words.proofs.ClapReading.{Text, dashes, at_long, reads}
use Rattle.sel_words.proofs.ClapTakes.{option_argument, plain_argument, between, IsSel, NotOption, HasFirst, IsReadable, AllReadable, walked_plain, walked_dashes, walked_assigned, walked_named, walked_value, same_bytes, sel_is}

or_nil : (a b : Kinds) → or_else a b ≡ [] → (a ≡ []) × (b ≡ [])
or_nil [] b e = (refl, e)
or_nil (k ∷ ks) b e = cc

not_nil : {A : Type 0} (k : Kinds) (ks : Kinds) (x : _) → k ≡ x ∷ ks → k ≡ [] → A
not_nil k ks x p q = cc

faults_of : Shape → Walk → List Text → Kinds
faults_of s w [] = settle_fault s.rules s.args_override_self w.held
faults_of s w (word ∷ rest) = or_else (turn_fault s [] w word) (faults_of s (walked s.rules [] w word) rest)

-- one word on
on : (s : Shape) (w next : Walk) (word : Text) (rest : List Text) → walked s.rules [] w word ≡ next → faults_of s w (word ∷ rest) ≡ [] → faults_of s next rest ≡ []
unfolding faults_of
on s w next word rest e f = subst (λ (x : Walk). faults_of s x rest ≡ []) e (or_nil _ _ f).1

-- this word has no fault
here : (s : Shape) (w : Walk) (word : Text) (rest : List Text) → faults_of s w (word ∷ rest) ≡ [] → turn_fault s [] w word ≡ []
unfolding faults_of
here s w word rest f = (or_nil _ _ f).0

unsettled : {A : Type 0} (s : Shape) → IsSel s → (name : Text) → is_name name ≡ true → (rows : List Row)
    → settle_fault s.rules s.args_override_self (record { rows = rows; pending = Some (name, []); skip = 0 }) ≡ [] → A
unsettled s h name m rows e = let f = rw (h.option_id name m) at e in cc

unknown : {A : Type 0} (s : Shape) → IsSel s → (rows : List Row) (p : Option (Text × List Text)) (waiting : Waiting) (word name : Text) (v : Option Text)
    → bytes_eq word dashes ≡ false → long_of word ≡ Some (name, v) → is_name name ≡ false
    → turn_fault s [] (between rows p waiting false) word ≡ [] → A
unknown s h rows p idle word name v d l m e = let f = rw (d, l, h.by_no_long name m) at e in cc
unknown s h rows p positional word name v d l m e = let f = rw (d, l, h.by_no_long name m) at e in cc
unknown s h rows p (option other) word name v d l m e = let f = rw (d, l, h.by_no_long name m) at e in cc

bundled : {A : Type 0} (s : Shape) → IsSel s → (rows : List Row) (p : Option (Text × List Text)) (waiting : Waiting) (word flags : Text) → HasFirst flags
    → bytes_eq word dashes ≡ false → long_of word ≡ None → short_of word ≡ Some flags
    → turn_fault s [] (between rows p waiting false) word ≡ [] → A
unfolding flags_fault
bundled s h rows p idle word flags x d l c e = let f = rw (d, l, c, x.is_count, x.is_first, h.by_short x.first) at e in cc
bundled s h rows p positional word flags x d l c e = let f = rw (d, l, c, x.is_count, x.is_first, h.by_short x.first) at e in cc
bundled s h rows p (option other) word flags x d l c e = let f = rw (d, l, c, x.is_count, x.is_first, h.by_short x.first) at e in cc

again : {A : Type 0} (s : Shape) → IsSel s → (rows : List Row) (name word other : Text) (v : Option Text) → is_name name ≡ true
    → bytes_eq word dashes ≡ false → long_of word ≡ Some (other, v) → is_name other ≡ true
    → turn_fault s [] (between rows (Some (name, [])) (option name) false) word ≡ [] → A
again s h rows name word other (Some v) m d l k e = let f = rw (d, l, h.by_long other k, h.option_id name m) at e in cc
again s h rows name word other None m d l k e = let f = rw (d, l, h.by_long other k, h.option_id name m) at e in cc

late_case : {A : Type 0} (s : Shape) → IsSel s → (rows : List Row) (name word : Text) (waiting : Waiting) → is_name name ≡ true
    → turn_fault s [] (between rows (Some (name, [])) waiting true) word ≡ [] → (b : Bool) → is_pending plain_argument (Some (name, [])) ≡ b → A
late_case s h rows name word waiting m e true q = let f = rw (h.by_index, q, h.option_id name m) at e in cc
late_case s h rows name word waiting m e false q = let f = rw (h.by_index, q, h.option_id name m) at e in cc

-- behind `--` the option's value does not come
late : {A : Type 0} (s : Shape) → IsSel s → (rows : List Row) (name word : Text) (waiting : Waiting) → is_name name ≡ true
    → turn_fault s [] (between rows (Some (name, [])) waiting true) word ≡ [] → A
late s h rows name word waiting m e = late_case s h rows name word waiting m e (is_pending plain_argument (Some (name, []))) refl

lost : {A : Type 0} (s : Shape) → IsSel s → (words : List Text) (rows : List Row) (name : Text) (waiting : Waiting) → is_name name ≡ true → faults_of s (between rows (Some (name, [])) waiting true) words ≡ [] → A
unfolding faults_of
lost s h [] rows name waiting m f = unsettled s h name m rows f
lost s h (word ∷ rest) rows name waiting m f = late s h rows name word waiting m (here s (between rows (Some (name, [])) waiting true) word rest f)

abbrev Idle : Shape → List Text → Bool → Type 0
Idle s rest good = (rows : List Row) (p : Option (Text × List Text)) (waiting : Waiting) → NotOption waiting → faults_of s (between rows p waiting false) rest ≡ [] → good ≡ true

abbrev Wait : Shape → List Text → (Text → Bool) → Type 0
Wait s rest good = (rows : List Row) (name : Text) → is_name name ≡ true → faults_of s (between rows (Some (name, [])) (option name) false) rest ≡ [] → good name ≡ true

module _ (s : Shape) (h : IsSel s) (word : Text) (rest : List Text) (ready : IsReadable word) (next : Bool) (wait : Text → Bool)
    (idle_next : Idle s rest next) (wait_next : Wait s rest wait) where
  at_name : (rows : List Row) (p : Option (Text × List Text)) (waiting : Waiting) → NotOption waiting → bytes_eq word dashes ≡ false
      → (name : Text) (v : Option Text) → long_of word ≡ Some (name, v) → (m : Bool) → is_name name ≡ m
      → faults_of s (between rows p waiting false) (word ∷ rest) ≡ [] → (m && (if is_some v then next else wait name)) ≡ true
  at_name rows p waiting n d name v l false m f = unknown s h rows p waiting word name v d l m (here s _ word rest f)
  at_name rows p waiting n d name (Some v) l true m f =
      idle_next (used (option_argument name) (v ∷ []) (settled_rows s.rules p rows)) None idle tt (on s _ _ word rest (walked_assigned s h rows p waiting word name v n d l m) f)
  at_name rows p waiting n d name None l true m f =
      wait_next (settled_rows s.rules p rows) name m (on s _ _ word rest (walked_named s h rows p waiting word name n d l m) f)

  idle_word : (rows : List Row) (p : Option (Text × List Text)) (waiting : Waiting) → NotOption waiting
      → (d : Bool) (l : Option (Text × Option Text)) (c : Option Text) → bytes_eq word dashes ≡ d → long_of word ≡ l → short_of word ≡ c
      → faults_of s (between rows p waiting false) (word ∷ rest) ≡ [] → (if d then true else at_long l c next wait) ≡ true
  idle_word rows p waiting n true l c ed el ec f = refl
  idle_word rows p waiting n false (Some q) c ed el ec f = at_name rows p waiting n ed q.0 q.1 el (is_name q.0) refl f
  idle_word rows p waiting n false None (Some flags) ed el ec f = bundled s h rows p waiting word flags (ready flags ec) ed el ec (here s _ word rest f)
  idle_word rows p waiting n false None None ed el ec f =
      idle_next (settled_rows s.rules p rows) (Some (codes "plain", word ∷ [])) positional tt (on s _ _ word rest (walked_plain s h rows p waiting word n ed el ec) f)

  repeated : (rows : List Row) (name : Text) → is_name name ≡ true → bytes_eq word dashes ≡ false
      → (other : Text) (v : Option Text) → long_of word ≡ Some (other, v) → (m : Bool) → is_name other ≡ m
      → faults_of s (between rows (Some (name, [])) (option name) false) (word ∷ rest) ≡ [] → let no : Bool = false in no ≡ true
  repeated rows name k d other v l true m f = again s h rows name word other v k d l m (here s _ word rest f)
  repeated rows name k d other v l false m f = unknown s h rows (Some (name, [])) (option name) word other v d l m (here s _ word rest f)

  wait_word : (rows : List Row) (name : Text) → is_name name ≡ true
      → (d : Bool) (l : Option (Text × Option Text)) (c : Option Text) → bytes_eq word dashes ≡ d → long_of word ≡ l → short_of word ≡ c
      → faults_of s (between rows (Some (name, [])) (option name) false) (word ∷ rest) ≡ [] → ((not d && (not (is_some l) && not (is_some c))) && next) ≡ true
  wait_word rows name k true l c ed el ec f = lost s h rest rows name (option name) k (on s _ _ word rest (walked_dashes s rows (Some (name, [])) (option name) word ed) f)
  wait_word rows name k false (Some q) c ed el ec f = repeated rows name k ed q.0 q.1 el (is_name q.0) refl f
  wait_word rows name k false None (Some flags) ed el ec f = bundled s h rows (Some (name, [])) (option name) word flags (ready flags ec) ed el ec (here s _ word rest f)
  wait_word rows name k false None None ed el ec f =
      idle_next rows (Some (name, word ∷ [])) idle tt (on s _ _ word rest (walked_value s h rows name word k (same_bytes name) ed el ec) f)

agrees : (s : Shape) → IsSel s → (words : List Text) → AllReadable words → Idle s words (reads None words) × Wait s words (λ name. reads (Some name) words)
unfolding faults_of
agrees s h [] ready = (λ rows p waiting n f. refl, λ rows name m f. unsettled s h name m rows f)
agrees s h (word ∷ rest) ready =
    let r = agrees s h rest ready.1 in (
      λ rows p waiting n f. idle_word s h word rest ready.0 _ (λ name. reads (Some name) rest) r.0 r.1 rows p waiting n (bytes_eq word dashes) (long_of word) (short_of word) refl refl refl f,
      λ rows name m f. wait_word s h word rest ready.0 _ (λ other. reads (Some other) rest) r.0 r.1 rows name m (bytes_eq word dashes) (long_of word) (short_of word) refl refl refl f,
    )

-- the walk's faults, and then what is pending at its end
faults_of-is : (s : Shape) (w : Walk) (words : List Text) → walk_fault s [] w words ≡ [] → settle_fault s.rules s.args_override_self (fold (walked s.rules []) w words).held ≡ [] → faults_of s w words ≡ []
unfolding faults_of walk_fault
faults_of-is s w [] a b = b
faults_of-is s w (word ∷ rest) a b =
    let q = or_nil (turn_fault s [] w word) _ a in
    ap (λ k. or_else k (faults_of s (walked s.rules [] w word) rest)) q.0 ∙ faults_of-is s (walked s.rules [] w word) rest q.1 b

-- where clap finds no fault, the words can be read
pub no-fault : (words : List Text) → AllReadable words → fault_of sel_app words ≡ [] → reads None words ≡ true
no-fault words ready e =
    let s = (built sel_app).top in
    let a = or_nil (walk_fault s [] (walk_from nothing_held) words) _ e in
    let b = or_nil _ _ a.1 in
    let c = or_nil (settle_fault s.rules s.args_override_self (walk s.rules [] nothing_held words).held) _ b.1 in
    (agrees s sel_is words ready).0 [] None idle tt (faults_of-is s (walk_from nothing_held) words a.0 c.0)
