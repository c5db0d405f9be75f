-- What a label of a pass gives, and the laws of an automaton.
use Rattle.std.proofs.Common.{◌≡◌, ◌⊎◌, ℕ, zero, suc, ◌+◌, ◌<◌, ◌≤◌, Bool, true, false, Option, Some, List, [], ◌∷◌, ◌++◌, length, map, Result, Ok, Err, refl, sym, ap, subst, ◌∙◌, ⊎_elim, inl, inr, arith}
use Rattle.std.specs.Prelude.{slice_get, slice_index, OnErr, IfOk}
use Rattle.sel_normal.specs.NormalForms.{NormalForm}
use Rattle.sel_items.specs.declared.items.Items.{Items}
use Rattle.sel_items.specs.declared.label.Label.{Label}
use Rattle.sel_items.specs.declared.label.Label.TheVariants.{Numbered, Plain}
use Rattle.sel_items.specs.Unpacking.{unpacked}
use Rattle.sel_items.specs.Follows.{NodeKey, key_of, Follows}
use Rattle.sel_items.specs.Words.{FitsWords, IsWordOf}
use Rattle.sel_items.specs.Labels.{IsPlain, AreNumbered, KidsAre}
use Rattle.sel_items.specs.Automata.{IsLabelled, IsLabelOf, StaysTrue, KeepsMeanings}
use Rattle.sel_law.specs.declared.Setting.{Setting}
use Rattle.sel_law.specs.declared.Ask.{Ask}
use Rattle.sel_law.specs.declared.View.{View}
use Rattle.sel_law.specs.Words.{ArePacked, HasPackedKids, In, items_of, node_key, IsMadeOf}
use Rattle.sel_rows.specs.Held.{held_content}
use Rattle.sel_rows.specs.Meanings.{told_by, Means, HoldsItems, IsAsked, IsKnown, IsHeld}
use Rattle.sel_rows.specs.FoundRow.{HoldsKey}
use Rattle.sel_rows.specs.FoundState.{HoldsContent}
use Rattle.sel_rows.specs.Answers.{GrownFor, IsPlainAfter}
use Rattle.sel_rows.proofs.Contents.{is_whole, holds_stays, held_stays}

true_false : true ≡ false → ⊥
true_false e = cc

module _ (normal : NormalForm) (w : View) (more : List Items) (used_up row_full : Bool) (operator class : ℕ) (a b : Option Label) (is : List Items) where
  abbrev Labels : Label → Type 0
  Labels l = IsLabelled (told_by normal w more used_up row_full) operator class a b is l

  pub labelled_key : (k : Ask) (n : ℕ) → HoldsKey w k n → w.setting.normal.value ≡ normal → AreNumbered a b → HasPackedKids k → node_key k ≡ key_of operator class is → Labels (Numbered n)
  labelled_key k n h e num kids node =
      let items = items_of (held_content w n) in
      let holds : HoldsItems w n items = record { below = h.below; number = inr (k, h.known); whole = h.whole; packed = h.made_of.words; items = refl; fits = h.made_of.fits } in
      record {
        items = items;
        meant = holds;
        follows = subst (λ (y : NormalForm). Follows y (key_of operator class is) items) e (subst (λ (y : NodeKey). Follows w.setting.normal.value y items) node h.made_of.follows);
        numbered = λ t. (num, ((n, holds), (node_key k, (k, h.asked, refl), h.made_of.follows)));
        plain = λ p. absurd p;
        tabled = λ t u r f. (tt, (n, (k, record { known = h.known; some_rows = h.some_rows; packed = kids; below = h.below; made = (held_content w n, h.made_of) }, sym node)));
      }

  pub labelled_content : (k : Ask) → In k w.asked → (n : ℕ) (i : Items) (c : List ℕ) → HoldsContent w c n → IsMadeOf w.setting k c → items_of c ≡ i → FitsWords i → Follows normal (key_of operator class is) i → AreNumbered a b → row_full ≡ true → Labels (Numbered n)
  labelled_content k asked n i c h made e fits follows num full =
      let holds : HoldsItems w n i = record { below = h.below; number = h.number; whole = is_whole w n c h.whole; packed = subst ArePacked (sym h.content_is) made.words; items = sym e ∙ ap items_of (sym h.content_is); fits = fits } in
      record {
        items = i;
        meant = holds;
        follows = follows;
        numbered = λ t. (num, ((n, holds), (node_key k, (k, asked, refl), subst (Follows w.setting.normal.value (node_key k)) e made.follows)));
        plain = λ p. absurd p;
        tabled = λ t u r f. absurd (true_false (sym full ∙ r));
      }

  pub labelled_plain : (i : Items) (p : ℕ) → slice_get more p ≡ Some i → Follows normal (key_of operator class is) i → (AreNumbered a b → (used_up ≡ true) ⊎ (FitsWords i → ⊥)) → Labels (Plain p)
  labelled_plain i p there follows why = record {
    items = i;
    meant = there;
    follows = follows;
    numbered = λ t. absurd t;
    plain = λ t num. why num;
    tabled = λ t u r f. absurd (⊎_elim (λ (e : used_up ≡ true). true_false (sym e ∙ u)) (λ (n : FitsWords i → ⊥). n f) (why t));
  }

-- lists of plain labels

pub last_there : {A : Type 0} (l : List A) (x : A) → slice_get (l ++ x ∷ []) (length l) ≡ Some x
last_there [] x = refl
last_there (y ∷ l) x = last_there l x

front_there : {A : Type 0} (l : List A) (x y : A) (n : ℕ) → slice_get l n ≡ Some y → slice_get (l ++ x ∷ []) n ≡ Some y
front_there [] x y n e = absurd (cc)
front_there (z ∷ l) x y zero e = e
front_there (z ∷ l) x y (suc n) e = front_there l x y n e

there_split : {A : Type 0} (l : List A) (x y : A) (n : ℕ) → slice_get (l ++ x ∷ []) n ≡ Some y → (slice_get l n ≡ Some y) ⊎ (n ≡ length l)
there_split [] x y zero e = inr refl
there_split [] x y (suc n) e = absurd (cc)
there_split (z ∷ l) x y zero e = inl e
there_split (z ∷ l) x y (suc n) e = ⊎_elim (λ (t : slice_get l n ≡ Some y). inl t) (λ (t : n ≡ length l). inr (ap suc t)) (there_split l x y n e)

longer : {A : Type 0} (l : List A) (x : A) → length (l ++ x ∷ []) ≡ length l + 1
longer [] x = omega arith
longer (y ∷ l) x = omega (arith, longer l x)

module _ {E : Type 0} (p q : List Items) (result : Result Label E) (after : IsPlainAfter p q result) where
  abbrev New : Type 0
  New = (i : Items) × (q ≡ p ++ i ∷ []) × (result ≡ Ok (Plain (length p)))

  pub plain_keeps : (n : ℕ) (i : Items) → slice_get p n ≡ Some i → slice_get q n ≡ Some i
  plain_keeps n i h = ⊎_elim
      (λ (e : q ≡ p). ap (λ l. slice_get l n) e ∙ h)
      (λ (t : New). ap (λ l. slice_get l n) t.1 ∙ front_there p t.0 i n h)
      after

  pub plain_labels_one : length q ≤ length p + 1
  plain_labels_one = ⊎_elim (λ (e : q ≡ p). let s = ap length e in omega arith) (λ (t : New). let s = ap length t.1 ∙ longer p t.0 in omega arith) after

  is_label : (r : Result Label E) (l : Label) → r ≡ Ok l → IsLabelOf r l
  is_label (Ok x) l e = cc
  is_label (Err x) l e = absurd (cc)

  not_ok : (r : Result Label E) (l : Label) (P : Type 0) → r ≡ Ok l → OnErr r P
  not_ok (Ok x) l P e = tt
  not_ok (Err x) l P e = absurd (cc)

  on_err : (r : Result Label E) (P : Type 0) → P → OnErr r P
  on_err (Ok x) P h = tt
  on_err (Err x) P h = h

  pub none_counted : OnErr result (length q ≤ length p)
  none_counted = ⊎_elim (λ (e : q ≡ p). on_err result (length q ≤ length p) (let s = ap length e in omega arith)) (λ (t : New). not_ok result (Plain (length p)) (length q ≤ length p) t.2) after

  pub plain_new : (v w : View) (l : Label) (i : Items) → IsPlain l → Means w q l i → (Means v p l i) ⊎ IsLabelOf result l
  plain_new v w (Numbered n) i t h = absurd t
  plain_new v w (Plain n) i t h = ⊎_elim
      (λ (e : q ≡ p). inl (ap (λ k. slice_get k n) (sym e) ∙ h))
      (λ (s : New). ⊎_elim
      (λ (o : slice_get p n ≡ Some i). inl o)
      (λ (o : n ≡ length p). inr (is_label result (Plain n) (s.2 ∙ ap (λ k. Ok (Plain k)) (sym o))))
      (there_split p s.0 i n (ap (λ k. slice_get k n) (sym s.1) ∙ h)))
      after

module _ (v w : View) (p : List Items) (operator class : ℕ) (a b : Option Label) (g : GrownFor v p operator class a b w) where
  pub keeps : (q : List Items) → ((n : ℕ) (i : Items) → slice_get p n ≡ Some i → slice_get q n ≡ Some i) → KeepsMeanings (Means v p) (Means w q)
  keeps q k (Numbered n) i h = holds_stays g.asks v w g.grown n i h
  keeps q k (Plain n) i h = k n i h

  pub keeps_asked : StaysTrue (IsAsked v) (IsAsked w)
  keeps_asked k h = (h.0, g.grown.asked h.0 h.1, h.2)

  pub keeps_known : StaysTrue (IsKnown v) (IsKnown w)
  keeps_known k h = let e = h.1.1 in (
    h.0,
    (
      h.1.0,
      record {
        known = g.grown.known (h.1.0, h.0) e.known;
        some_rows = subst (λ (s : Setting). 1 ≤ s.rows) (sym g.grown.setting) e.some_rows;
        packed = e.packed;
        below = subst (λ (s : Setting). h.0 < s.states) (sym g.grown.setting) e.below;
        made = ((e.made).0, subst (λ (s : Setting). IsMadeOf s h.1.0 (e.made).0) (sym g.grown.setting) (e.made).1);
      },
      h.1.2,
    ),
  )

  pub keeps_held : StaysTrue (IsHeld v) (IsHeld w)
  keeps_held i h = held_stays g.asks v w g.grown i h

  module _ (is : List Items) (kids : KidsAre (Means v p) a b is) where
    -- the key is the call's own
    abbrev Own : NodeKey → Type 0
    Own k = AreNumbered a b × ((js : List Items) × KidsAre (Means v p) a b js × (k ≡ key_of operator class js))

    pub asks_own : (k : NodeKey) → IsAsked w k → IsAsked v k ⊎ Own k
    asks_own k h = ⊎_elim
        (λ (t : In h.0 v.asked). inl (h.0, t, h.2))
        (λ (t : In h.0 g.asks). inr ((g.own h.0 t).0, (is, kids, h.2 ∙ (g.own h.0 t).1 is kids)))
        (g.grown.only h.0 h.1)

    pub knows_own : (k : NodeKey) → IsKnown w k → IsKnown v k ⊎ Own k
    knows_own k h =
        let e = h.1.1 in
        let spot : Ask × ℕ = (h.1.0, h.0) in
        ⊎_elim
        (λ (t : In spot v.known). inl (
          h.0,
          (
            h.1.0,
            record {
              known = t;
              some_rows = subst (λ (s : Setting). 1 ≤ s.rows) g.grown.setting e.some_rows;
              packed = e.packed;
              below = subst (λ (s : Setting). h.0 < s.states) g.grown.setting e.below;
              made = ((e.made).0, subst (λ (s : Setting). IsMadeOf s h.1.0 (e.made).0) g.grown.setting (e.made).1);
            },
            h.1.2,
          ),
        ))
        (λ (t : In h.1.0 g.asks). inr ((g.own h.1.0 t).0, (is, kids, h.1.2 ∙ (g.own h.1.0 t).1 is kids)))
        (g.grown.known_only spot e.known)

    pub holds_own : (i : Items) → IsHeld w i → IsHeld v i ⊎ ((k : NodeKey) × (IsAsked v k ⊎ Own k) × Follows v.setting.normal.value k i)
    holds_own i h = inr (h.1.0, asks_own h.1.0 h.1.1, subst (λ (s : Setting). Follows s.normal.value h.1.0 i) g.grown.setting h.1.2)

length_same : (i : Items) (c : List ℕ) → items_of c ≡ i → length c ≡ length i.entries
length_same i c e = sym (map_long c) ∙ ap (λ (j : Items). length j.entries) e
  where
    map_long : (c : List ℕ) → length (map unpacked c) ≡ length c
    map_long [] = refl
    map_long (x ∷ c) = ap suc (map_long c)

-- the words of an item set that follows from a key are made of it
pub made_by : (z : Setting) (normal : NormalForm) (k : Ask) (node : NodeKey) (i : Items) (c : List ℕ) → z.width ≡ normal.nonterminals → z.normal.value ≡ normal → node_key k ≡ node → Follows normal node i → FitsWords i
    → items_of c ≡ i → ((j : ℕ) → j < length c → IsWordOf (unpacked (slice_index c j)) (slice_index c j)) → IsMadeOf z k c
made_by z normal k node i c w e n follows fits again words = record {
  long = length_same i c again ∙ (sym follows.reduced.long ∙ (follows.is_absolute.long ∙ sym w));
  words = words;
  fits = subst FitsWords (sym again) fits;
  follows = subst (λ (y : NormalForm). Follows y (node_key k) (items_of c)) (sym e) (subst (λ (y : NodeKey). Follows normal y (items_of c)) (sym n) (subst (Follows normal node) (sym again) follows));
}

pub if_ok_of : {A E : Type 0} (r : Result A E) (P Q : A → Type 0) → ((x : A) → P x → Q x) → IfOk r P → IfOk r Q
if_ok_of (Ok x) P Q f h = f x h
if_ok_of (Err e) P Q f h = h

pub on_err_of : {A E : Type 0} (r : Result A E) (P Q : Type 0) → (P → Q) → OnErr r P → OnErr r Q
on_err_of (Ok x) P Q f h = h
on_err_of (Err e) P Q f h = f h

-- a plain label as `add_plain` gives it
module _ {E : Type 0} (p q : List Items) (i : Items) (result : Result Label E) where
  pub after_added : IfOk result (λ l. (l ≡ Plain (length p)) × (q ≡ p ++ i ∷ [])) → OnErr result (q ≡ p) → IsPlainAfter p q result
  after_added = go result
    where
      go : (r : Result Label E) → IfOk r (λ l. (l ≡ Plain (length p)) × (q ≡ p ++ i ∷ [])) → OnErr r (q ≡ p) → IsPlainAfter p q r
      go (Ok l) ok err = inr (i, ok.1, ap Ok ok.0)
      go (Err e) ok err = inl err

  pub labelled_added : (normal : NormalForm) (w : View) (used_up row_full : Bool) (operator class : ℕ) (a b : Option Label) (is : List Items)
      → Follows normal (key_of operator class is) i → (AreNumbered a b → (used_up ≡ true) ⊎ (FitsWords i → ⊥))
      → (l : Label) → (l ≡ Plain (length p)) × (q ≡ p ++ i ∷ []) → IsLabelled (told_by normal w q used_up row_full) operator class a b is l
  labelled_added normal w used_up row_full operator class a b is follows why l h =
      subst (λ (k : Label). IsLabelled (told_by normal w q used_up row_full) operator class a b is k) (sym h.0)
      (labelled_plain normal w q used_up row_full operator class a b is i (length p) (ap (λ k. slice_get k (length p)) h.1 ∙ last_there p i) follows why)
