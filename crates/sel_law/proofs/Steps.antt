-- The kinds of step, at a word that is named by an equation.
use Rattle.std.proofs.Common.{◌≡◌, ℕ, ◌+◌, ◌*◌, ◌<◌, ◌≤◌, ◌==◌, List, ◌++◌, length, sym, subst, arith, Some}
use prog.Atomic.{either}
use Rattle.atomic_table.specs.Table.{Me, Allows}
use Rattle.sel_law.specs.declared.Setting.{Setting}
use Rattle.sel_law.specs.declared.Ask.{Ask}
use Rattle.sel_law.specs.declared.View.{View}
use Rattle.sel_law.specs.Words.{IsMadeOf, In, row_at, intern_at, content_at, word_count, IsKey, word_of}
use Rattle.sel_law.specs.Kinds.{read_entry, drafted, stood_as, looked, placed_as, Tells, NotAll, Below, Learns, OneContent, OneNumber, Stays, Marks, HeldNumber, HeldWhole, HeldKey, WalkedStates, WalkedRow}
use Rattle.sel_law.proofs.Draw.{Holds}
use Rattle.sel_law.proofs.Look.{drafts, in_words}
use Rattle.sel_law.proofs.Tell.{reads, looks_row, stands}
use Rattle.sel_law.proofs.Place.{places}

pub content_inside : (z : Setting) (n i word : ℕ) → word ≡ content_at z n i → n < z.states → i < z.width → word < word_count z
content_inside z n i word e a b = subst (λ j. j < word_count z) (sym e) (in_words z n i a b)

pub row_inside : (z : Setting) (q word : ℕ) → word ≡ row_at z q → q < z.rows → word < word_count z
row_inside z q word e a = omega arith

pub reads_at : (z : Setting) (slots id : ℕ) (m : Me (Unit {0}) View) (asks : List Ask) (n i word : ℕ) → word ≡ content_at z n i → i < z.width → HeldNumber m.0 n → 1 ≤ m.0.seats
    → Allows (Holds z) slots id m word (λ x. x) (λ found w. (w.0 ≡ read_entry m.0 asks word n i found) × (w.1 ≡ m.1) × OneContent w.0 × OneNumber w.0)
reads_at z slots id m asks n i word e lt held seat =
    subst (λ j. Allows (Holds z) slots id m j (λ x. x) (λ found w. (w.0 ≡ read_entry m.0 asks j n i found) × (w.1 ≡ m.1) × OneContent w.0 × OneNumber w.0)) (sym e) (reads z slots id m asks n i lt held seat)

pub drafts_at : (z : Setting) (slots id : ℕ) (m : Me (Unit {0}) View) (asks : List Ask) (n i word x : ℕ) → word ≡ content_at z n i → 1 ≤ m.0.seats → m.0.own ≡ Some n → i < z.width → i ≤ length m.0.draft
    → Allows (Holds z) slots id m word (λ _. x) (λ _ w. (w.0 ≡ drafted m.0 asks word i x) × (w.1 ≡ m.1))
drafts_at z slots id m asks n i word x e seat own within next =
    subst (λ j. Allows (Holds z) slots id m j (λ _. x) (λ _ w. (w.0 ≡ drafted m.0 asks j i x) × (w.1 ≡ m.1))) (sym e) (drafts z slots id m asks n i x seat own within next)

pub stands_at : (z : Setting) (slots id : ℕ) (m : Me (Unit {0}) View) (asks : List Ask) (n number : ℕ) → number ≡ n → 1 ≤ m.0.seats → m.0.own ≡ Some n → length m.0.draft ≡ z.width
    → (a : Ask) → In a (m.0.asked ++ asks) → IsMadeOf z a m.0.draft → (p : ℕ) → p < 2 * z.states → WalkedStates m.0 m.0.draft p
    → Allows (Holds z) slots id m (intern_at p) (λ k. either (k == 0) (number + 1) k) (λ found w. (w.0 ≡ stood_as (found == 0) m.0 asks (intern_at p) n found) × (w.1 ≡ m.1) × NotAll m.0 (intern_at p) found × Below m.0 (intern_at p) found × OneContent w.0)
stands_at z slots id m asks n number e seat own whole a asked is_made p inside walked =
    subst (λ j. Allows (Holds z) slots id m (intern_at p) (λ k. either (k == 0) (j + 1) k) (λ found w. (w.0 ≡ stood_as (found == 0) m.0 asks (intern_at p) n found) × (w.1 ≡ m.1) × NotAll m.0 (intern_at p) found × Below m.0 (intern_at p) found × OneContent w.0)) (sym e)
    (stands z slots id m asks n seat own whole a asked is_made p inside walked)

pub looks_row_at : (z : Setting) (slots id : ℕ) (m : Me (Unit {0}) View) (asks : List Ask) (x : ℕ) (a : Ask) → IsKey x → HeldKey m.0 x a → In a (m.0.asked ++ asks) → (q word : ℕ) → word ≡ row_at z q → q < z.rows → 1 ≤ m.0.seats
    → Allows (Holds z) slots id m word (λ n. n) (λ found w. (c : List ℕ) × (w.0 ≡ looked m.0 asks x a c word found) × (w.1 ≡ m.1) × Learns m.0 x a c found × OneContent w.0 × Tells m.0 x a word found × Stays m.0 a w.0 × Marks m.0 x found w.0)
looks_row_at z slots id m asks x a key held asked q word e inside seat =
    subst (λ j. Allows (Holds z) slots id m j (λ n. n) (λ found w. (c : List ℕ) × (w.0 ≡ looked m.0 asks x a c j found) × (w.1 ≡ m.1) × Learns m.0 x a c found × OneContent w.0 × Tells m.0 x a j found × Stays m.0 a w.0 × Marks m.0 x found w.0)) (sym e) (looks_row z slots id m asks x a key held asked q inside seat)

pub places_at : (z : Setting) (slots id : ℕ) (m : Me (Unit {0}) View) (asks : List Ask) (x : ℕ) (a : Ask) → IsKey x → HeldKey m.0 x a → In a (m.0.asked ++ asks)
    → (n new : ℕ) (c : List ℕ) → new ≡ word_of x n → HeldNumber m.0 n → HeldWhole m.0 n c → IsMadeOf z a c → (q word : ℕ) → word ≡ row_at z q → q < z.rows → WalkedRow m.0 x q → 1 ≤ m.0.seats
    → Allows (Holds z) slots id m word (λ k. either (k == 0) new k) (λ found w. (d : List ℕ) × (w.0 ≡ placed_as (found == 0) m.0 asks x a d word n found) × (w.1 ≡ m.1) × Learns m.0 x a d found × OneContent w.0 × Marks m.0 x found w.0)
places_at z slots id m asks x a key held asked n new c is_new known whole is_made q word e inside walked seat =
    subst (λ (t : ℕ × ℕ). Allows (Holds z) slots id m t.0 (λ k. either (k == 0) t.1 k) (λ found w. (d : List ℕ) × (w.0 ≡ placed_as (found == 0) m.0 asks x a d t.0 n found) × (w.1 ≡ m.1) × Learns m.0 x a d found × OneContent w.0 × Marks m.0 x found w.0)) (λ i. (sym e i, sym is_new i))
    (places z slots id m asks x a key held asked n c known whole is_made q inside walked seat)
