-- What the reading of a text comes to, where it ends early and where it doesn't.
use Rattle.std.proofs.Common.{◌≡◌, ℕ, suc, ◌+◌, ◌<◌, nat_eq, true, false, List, [], ◌∷◌, ◌++◌, All, length, map, refl, ap, sym, ◌∙◌, subst, arith, decimal, append_assoc, length-append}
use Rattle.std.proofs.lemmas.List.{length-map}
use Rattle.std.proofs.lemmas.Option.{slice_get_within}
use Rattle.sel_normal.specs.NormalForms.{NormalForm}
use Rattle.sel_normal.specs.Standing.{IsStanding}
use Rattle.sel_items.specs.declared.items.Items.{Items}
use Rattle.sel_full.specs.declared.refusal.TableFault.{TableFault}
use Rattle.sel_full.specs.declared.refusal.TableFault.TheVariants.{State, Number}
use Rattle.sel_full.specs.declared.table.Table.{Table}
use Rattle.sel_full.specs.Forms.{IsFormState, HasForm}
use Rattle.sel_full.specs.Judging.{IsTableFault}
use Rattle.sel_full.specs.TableTexts.{state_text, lines_text}
use Rattle.sel_table.specs.declared.entries.Head.{Head}
use Rattle.sel_table.specs.declared.lines.Lines.{Lines}
use Rattle.sel_table.specs.declared.refusal.LoadRefusal.{LoadRefusal}
use Rattle.sel_table.specs.declared.refusal.LoadRefusal.TheVariants as refusal
use Rattle.sel_table.specs.LineReading.{IsHead, IsNumber, first_line, Took, BeginsWithout, IsEarlyEnd, IsInside}
use Rattle.sel_table.specs.Loading.{Spells, IsFormFault, IsFormRefusal}
use Rattle.sel_table.proofs.Forming.{wrong_head, wrong_state, wrong_number, all_spelled, more_text}
use Rattle.sel_table.proofs.Taking.{lines_append}

-- lines behind lines
joined : (bytes b rest : List ℕ) (xs ys : List (List ℕ)) → bytes ≡ lines_text xs ++ b → b ≡ lines_text ys ++ rest → bytes ≡ lines_text (xs ++ ys) ++ rest
joined bytes b rest xs ys e f = e ∙ (ap (λ b. lines_text xs ++ b) f ∙ (sym (append_assoc (lines_text xs) (lines_text ys) rest) ∙ ap (λ t. t ++ rest) (sym (lines_append xs ys))))

module _ (normal : NormalForm) (standing : IsStanding normal) (bytes : List ℕ) (l0 : Lines) (none : l0.taken ≡ 0) (whole : bytes ≡ (l0.rest).now) where
  pub refused_head : (r : LoadRefusal) → IsEarlyEnd (IsHead normal) first_line l0 1 r → IsFormRefusal normal bytes r
  refused_head (refusal.Fault found) (kind, e) = (kind, go e.read e.few e.bytes e.number_is)
    where
      go : (read : List Head) → length read < 1 → (l0.rest).now ≡ lines_text (map first_line read) ++ e.rest → found.line ≡ l0.taken + length read + 1 → IsFormFault normal bytes found.line
      go [] few are number =
          let one : 1 ≡ found.line = omega (arith, number, none) in
          subst (IsFormFault normal bytes) one (wrong_head normal standing bytes (subst (BeginsWithout (IsHead normal) first_line) (sym (whole ∙ are)) e.none))
      go (h ∷ read) few are number = absurd (omega (arith, few))
  refused_head refusal.NoMemory h = tt

  module _ (h : Head) (head : IsHead normal h) (l1 : Lines) (took : Took l0 l1 (first_line h ∷ [])) where
    pub refused_state : (r : LoadRefusal) → IsEarlyEnd (IsFormState normal) state_text l1 h.states r → IsFormRefusal normal bytes r
    refused_state (refusal.Fault found) (kind, e) =
        let n = e.number_is in
        let c = took.count in
        let number : length (first_line h ∷ map state_text e.read) + 1 ≡ found.line = omega (arith, n, c, none, length-map e.read state_text) in (
          kind,
          subst (IsFormFault normal bytes) number
              (wrong_state normal standing h head bytes e.read e.rest e.few e.such (joined bytes (l1.rest).now e.rest (first_line h ∷ []) (map state_text e.read) (whole ∙ took.bytes) e.bytes) e.none),
        )
    refused_state refusal.NoMemory h = tt

    module _ (states : List Items) (count : length states ≡ h.states) (such : All (IsFormState normal) states) (l2 : Lines) (took' : Took l1 l2 (map state_text states)) where
      begun : bytes ≡ lines_text (first_line h ∷ map state_text states) ++ (l2.rest).now
      begun = joined bytes (l1.rest).now (l2.rest).now (first_line h ∷ []) (map state_text states) (whole ∙ took.bytes) took'.bytes

      pub refused_number : (r : LoadRefusal) → IsEarlyEnd IsNumber decimal l2 h.keys r → IsFormRefusal normal bytes r
      refused_number (refusal.Fault found) (kind, e) =
          let n = e.number_is in
          let c = took.count in
          let c' = took'.count in
          let number : length (first_line h ∷ (map state_text states ++ map decimal e.read)) + 1 ≡ found.line = omega (arith, n, c, c', none, length-append (map state_text states) (map decimal e.read), length-map states state_text, length-map e.read decimal) in (
            kind,
            subst (IsFormFault normal bytes) number
                (wrong_number normal standing h head states count such bytes e.read e.rest e.few e.such (joined bytes (l2.rest).now e.rest (first_line h ∷ map state_text states) (map decimal e.read) begun e.bytes) e.none),
          )
      refused_number refusal.NoMemory h = tt

      module _ (numbers : List ℕ) (count' : length numbers ≡ h.keys) (are : All IsNumber numbers) (l3 : Lines) (took'' : Took l2 l3 (map decimal numbers)) where
        read : bytes ≡ lines_text (first_line h ∷ (map state_text states ++ map decimal numbers)) ++ (l3.rest).now
        read = joined bytes (l2.rest).now (l3.rest).now (first_line h ∷ map state_text states) (map decimal numbers) begun took''.bytes

        pub refused_more : (n : ℕ) → ((l3.rest).now ≡ [] → ⊥) → n ≡ l3.taken + 1 → IsFormFault normal bytes n
        refused_more n some e =
            let c = took.count in
            let c' = took'.count in
            let c'' = took''.count in
            let number : length (first_line h ∷ (map state_text states ++ map decimal numbers)) + 1 ≡ n = omega (arith, e, c, c', c'', none, length-append (map state_text states) (map decimal numbers), length-map states state_text, length-map numbers decimal) in
            subst (IsFormFault normal bytes) number (more_text normal standing h head states count such numbers count' are bytes (l3.rest).now read some)

        pub spelled : (l3.rest).now ≡ [] → Spells normal bytes (record { states = states; numbers = numbers })
        spelled e = all_spelled normal standing h head states count such numbers count' are bytes (read ∙ ap (λ r. lines_text (first_line h ∷ (map state_text states ++ map decimal numbers)) ++ r) e)

pub empty_of : (xs : List ℕ) → nat_eq (length xs) 0 ≡ true → xs ≡ []
empty_of [] e = refl
empty_of (x ∷ xs) e = let h : nat_eq (suc (length xs)) 0 ≡ true = e in absurd (grind arith)

pub not_empty : (xs : List ℕ) → nat_eq (length xs) 0 ≡ false → xs ≡ [] → ⊥
not_empty [] e q = cc
not_empty (x ∷ xs) e q = cc

-- what is wrong is at a place that a table may have
pub fault_inside : (normal : NormalForm) (t : Table) (f : TableFault) → HasForm normal t → IsTableFault normal t f → IsInside f
fault_inside normal t (State k) form f = let (i, at, h) = f.here in let few = form.few in omega (arith, few, slice_get_within t.states k i at)
fault_inside normal t (Number p) form (right, f) = let w = f.here in let few = form.few_keys in omega (arith, few, slice_get_within t.numbers p w.number w.numbered)
