-- What becomes of a text: at most one thing, and some one where there is a register.
use Rattle.std.proofs.Common.{◌≡◌, ℕ, zero, suc, ◌<◌, ◌≤◌, ◌⊎◌, inl, inr, Some, List, length, get_or, slice_get, refl, sym, ap, ◌∙◌, subst, arith, Result, Ok, Err, IfOk}
use Rattle.std.proofs.lemmas.Option.{slice_get-get_or}
use Rattle.sel_grammar.specs.declared.grammar.Grammar.{Grammar}
use Rattle.sel_grammar.specs.Expansions.{Text, text_bytes, expanded}
use Rattle.sel_forest.specs.declared.forest.Tree.{Tree}
use Rattle.sel_expand.specs.Expanding.{longest_text, IsEmitted}
use Rattle.sel_expand.proofs.Numbering.{expanded_numbered}
use Rattle.sel_regs.specs.Lives.{needs}
use Rattle.sel_regs.specs.Scanning.{IsScanned}
use Rattle.sel_regs.specs.Assignments.{IsAssigned}
use Rattle.sel_regs.proofs.OneScan.{scan_is_one}
use Rattle.sel_regs.proofs.SomeScan.{scan_exists}
use Rattle.sel_regs.proofs.Sharing.{none_share}
use Rattle.sel_regs.proofs.Sweeping.{assigned}
use Rattle.sel_named.specs.TextLines.{temps_by_line, temps_of}
use Rattle.sel_named.specs.NamedTexts.{bytes_by_name, IsByName, TakesMore, IsAllotted, Becomes, IsNamedText}
use Rattle.sel_named.specs.declared.texts.NamedText.{NamedText}
use Rattle.sel_named.specs.declared.texts.NamedText.TheVariants as named
use Rattle.sel_named.specs.Laws.{NamedIsOne, NamedExists, HasRegister, NamedIsRenamed, EnoughAreNamed}
use Rattle.sel_named.proofs.Cuts.{temp_within}

outcome : (text : Text) (names : List (List ℕ)) (answer : NamedText) → length (text_bytes text) ≤ longest_text → IsAllotted text names answer → Becomes text names answer
outcome text names (named.Text bytes) short h = (short, h)
outcome text names (named.TooFew n) short h = (short, h)
outcome text names named.TooLong short h = absurd h

-- what becomes of a text that a derivation expands to
pub allotted_is_named : {E : Type 0} (g : Grammar) (tree : Tree) (rules : List ℕ) (names : List (List ℕ)) (text : Text) (result : Result NamedText E)
    → IsEmitted g tree rules text → IfOk result (λ answer. IsAllotted text names answer) → IfOk result (λ answer. IsNamedText g tree rules names answer)
allotted_is_named g tree rules names text (Err fault) emitted h = tt
allotted_is_named g tree rules names text (Ok answer) emitted h = λ t d is.
    let e = emitted t d is in subst (λ (x : Text). Becomes x names answer) e.0 (outcome text names answer e.1 h)

same_bytes : (text : Text) (names : List (List ℕ)) (a b : List ℕ) → IsByName text names a → IsByName text names b → a ≡ b
same_bytes text names a b p q =
    let same = scan_is_one (temps_by_line text) p.registers q.registers (p.assigned.long ∙ sym q.assigned.long) p.assigned.scan q.assigned.scan in
    p.bytes_are ∙ ap (λ registers. bytes_by_name names registers text) same ∙ sym q.bytes_are

not_both : {A : Type 0} (text : Text) (names : List (List ℕ)) (bytes : List ℕ) (n : ℕ) → IsByName text names bytes → TakesMore text (length names) n → A
not_both text names bytes n p q = let e = p.assigned.enough in let x = q.exact in let f = q.fewer in absurd (omega arith)

pub named_is_one : NamedIsOne
named_is_one text names (named.Text a) (named.Text b) p q = ap (λ x. named.Text x) (same_bytes text names a b p.1 q.1)
named_is_one text names (named.Text a) (named.TooFew n) p q = not_both text names a n p.1 q.1
named_is_one text names (named.Text a) named.TooLong p q = let h = p.0 in absurd (omega arith)
named_is_one text names (named.TooFew n) (named.Text b) p q = not_both text names b n q.1 p.1
named_is_one text names (named.TooFew n) (named.TooFew m) p q = ap (λ x. named.TooFew x) (p.1.exact ∙ sym q.1.exact)
named_is_one text names (named.TooFew n) named.TooLong p q = let h = p.0 in absurd (omega arith)
named_is_one text names named.TooLong (named.Text b) p q = let h = q.0 in absurd (omega arith)
named_is_one text names named.TooLong (named.TooFew m) p q = let h = q.0 in absurd (omega arith)
named_is_one text names named.TooLong named.TooLong p q = refl

order : (a b : ℕ) → (a < b) ⊎ (b ≤ a)
order zero zero = inr (omega arith)
order zero (suc b) = inl (omega arith)
order (suc a) zero = inr (omega arith)
order (suc a) (suc b) = elim (order a b) [ inl h ↦ inl (omega arith) | inr h ↦ inr (omega arith) ]

by_name : (text : Text) (names : List (List ℕ)) → 1 ≤ length names → needs (temps_by_line text) (temps_of text) ≤ length names → (bytes : List ℕ) × IsByName text names bytes
by_name text names some enough =
    let scan = scan_exists (temps_by_line text) (temps_of text) in
    let scanned : IsScanned (temps_by_line text) (temps_of text) scan.0 (needs (temps_by_line text) (temps_of text)) = record { scan = scan.2; long = scan.1; exact = refl } in
    let is : IsAssigned (temps_by_line text) (temps_of text) (length names) scan.0 = assigned (temps_by_line text) (temps_of text) (length names) (needs (temps_by_line text) (temps_of text)) scan.0 some enough scanned in
    (bytes_by_name names scan.0 text, record { registers = scan.0; assigned = is; bytes_are = refl })

pub named_exists : NamedExists
named_exists text names some = elim (order longest_text (length (text_bytes text))) [
  | inl h ↦ (named.TooLong, h)
  | inr short ↦
      elim (order (length names) (needs (temps_by_line text) (temps_of text))) [
        | inl h ↦ (named.TooFew (needs (temps_by_line text) (temps_of text)), (short, record { exact = refl; fewer = h }))
        | inr enough ↦ let made = by_name text names some enough in (named.Text made.0, (short, made.1))
      ]
]

has_register : (registers : List ℕ) (count k : ℕ) → 1 ≤ k → k ≤ length registers → ((i r : ℕ) → slice_get registers i ≡ Some r → r < count) → HasRegister registers count k
has_register registers count zero some small within = absurd (omega arith)
has_register registers count (suc j) some small within =
    let at : slice_get registers j ≡ Some (get_or registers j 0) = slice_get-get_or registers j 0 (omega arith) in
    record { register = get_or registers j 0; has = at; within = within j (get_or registers j 0) at }

pub named_is_renamed : NamedIsRenamed
named_is_renamed g tree t d rules names bytes by_name is text_is named_is =
    let text : Text = expanded g d t in
    let made = named_is t d is in
    let by : IsByName text names by_name = made.1 in
    record {
      text = text;
      registers = by.registers;
      numbers = (text_is t d is).0;
      names_are = by.bytes_are;
      each = λ i k at.
          let numbered = expanded_numbered g d t text refl made.0 i k at in
          let small = temp_within text i k at in
          let long = by.assigned.long in
          has_register by.registers (length names) k numbered.0 (omega arith) by.assigned.within;
      apart = none_share (temps_by_line text) by.registers by.assigned.scan;
    }

pub enough_are_named : EnoughAreNamed
enough_are_named text names n enough p = let x = p.1.exact in let f = p.1.fewer in omega arith
