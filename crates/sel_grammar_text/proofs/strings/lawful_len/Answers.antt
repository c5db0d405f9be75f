use Rattle.std.proofs.Common.{◌≡◌, zero, suc, ◌+◌, ◌≤◌, ◌∷◌, [], List, ℕ, drop, ap, sym, subst, ◌∙◌, length, refl, arith, Some, None, if◌then◌else◌, eqb}
use Rattle.sel_grammar_text.specs.FormFaults as faults
use Rattle.sel_grammar_text.proofs.Templates.{unequal}
use Rattle.sel_grammar_text.proofs.strings.lawful_len.Goals as goal

empty : (xs : List ℕ) → length xs ≡ 0 → xs ≡ []
empty [] h = refl
empty (x ∷ xs) h = absurd (omega arith)

alone : (at r b : ℕ) → r ≤ 1 → faults.bad_byte at (b ∷ []) ≡ (if eqb r 0 then Some at else None)
    → faults.bad_byte at (b ∷ []) ≡ (if eqb r 0 then (if eqb (length (b ∷ [])) 0 then None else Some at) else faults.bad_byte (at + r) (drop r (b ∷ [])))
alone at zero b h e = e
alone at (suc zero) b h e = e
alone at (suc (suc r)) b h e = absurd (omega arith)

pair : (at r b c : ℕ) (bs : List ℕ) → faults.bad_byte at (b ∷ c ∷ bs) ≡ (if eqb r 0 then Some at else faults.bad_byte (at + r) (drop r (b ∷ c ∷ bs)))
    → faults.bad_byte at (b ∷ c ∷ bs) ≡ (if eqb r 0 then (if eqb (length (b ∷ c ∷ bs)) 0 then None else Some at) else faults.bad_byte (at + r) (drop r (b ∷ c ∷ bs)))
pair at r b c bs e = e ∙ ap (λ t. if eqb r 0 then (if t then None else Some at) else faults.bad_byte (at + r) (drop r (b ∷ c ∷ bs))) (sym (unequal (length (b ∷ c ∷ bs)) 0 (λ h. omega arith)))

pub returns-in-None-clause-lawful : goal.returns-in-None-clause-lawful
returns-in-None-clause-lawful c = λ at.
    let r = c.lone_len.result in
    let e : c.args.bytes.now ≡ c.in-Some.first.now ∷ [] = c.in-Some.ensures.cases.0 ∙ ap (λ x. c.in-Some.first.now ∷ x) (empty c.in-Some.behind.now c.in-None.ensures.cases) in
    subst (λ bs. faults.bad_byte at bs ≡ (if eqb r 0 then (if eqb (length bs) 0 then None else Some at) else faults.bad_byte (at + r) (drop r bs))) (sym e)
    (alone at r c.in-Some.first.now c.lone_len.ensures.fits (c.lone_len.ensures.lawful at))

pub returns-in-Some-split_first-clause-lawful : goal.returns-in-Some-split_first-clause-lawful
returns-in-Some-split_first-clause-lawful c = λ at.
    let r = c.pair_len.result in
    let e : c.args.bytes.now ≡ c.in-Some.first.now ∷ c.in-Some-split_first.second.now ∷ c.in-Some-split_first.field-0-1.now = c.in-Some.ensures.cases.0 ∙ ap (λ x. c.in-Some.first.now ∷ x) c.in-Some-split_first.ensures.cases.0 in
    subst (λ bs. faults.bad_byte at bs ≡ (if eqb r 0 then (if eqb (length bs) 0 then None else Some at) else faults.bad_byte (at + r) (drop r bs))) (sym e)
    (pair at r c.in-Some.first.now c.in-Some-split_first.second.now c.in-Some-split_first.field-0-1.now (c.pair_len.ensures.lawful at c.in-Some-split_first.field-0-1.now))
