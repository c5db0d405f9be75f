-- Slots, whose kids stand in one list that grows.
use Rattle.std.proofs.Common.{◌≡◌, ℕ, zero, suc, ◌-◌, ◌≤◌, Option, Some, None, List, [], ◌∷◌, ◌++◌, refl, ap, sym, ◌∙◌, length, take, drop, slice_get, arith, length-append, length-drop, subst}
use Rattle.std.specs.Prelude.{slice_range}
use Rattle.std.proofs.lemmas.List.{take-append-le, drop-append-le, map-append}
use Rattle.std.proofs.Math.Seq.{drop-append_seam, take-length}
use Rattle.sel_expand.specs.declared.reductions.Reduction.{Reduction}
use Rattle.sel_expand.specs.declared.reductions.Slot.{Slot}
use Rattle.sel_expand.specs.Reductions.{Reduced, reduced_slot, reduced_slots, AreWithin, own_of, kids_of}

-- pieces of a list that grows
pub range_grow : {A : Type 0} (xs more : List A) (s e : ℕ) → s ≤ e → e ≤ length xs → slice_range (xs ++ more) s e ≡ slice_range xs s e
range_grow xs more s e h k =
    let front : drop s (xs ++ more) ≡ drop s xs ++ more = drop-append-le s xs more (omega arith) in
    let long : e - s ≤ length (drop s xs) = omega (arith, length-drop s xs) in
    ap (take (e - s)) front ∙ take-append-le (e - s) (drop s xs) more long

pub range_end : {A : Type 0} (xs more : List A) → slice_range (xs ++ more) (length xs) (length (xs ++ more)) ≡ more
range_end xs more =
    let n : length (xs ++ more) - length xs ≡ length more = omega (arith, length-append xs more) in
    (λ j. take (n j) (drop-append_seam xs more j)) ∙ take-length more

pub slots_grow : (kids more : List ℕ) (slots : List Slot) → AreWithin kids slots → reduced_slots (kids ++ more) slots ≡ reduced_slots kids slots
slots_grow kids more [] h = refl
slots_grow kids more (s ∷ slots) h =
    λ j. record { own = s.own; kids = range_grow kids more s.start s.end (h.0).0 (h.0).1 j } ∷ slots_grow kids more slots h.1 j

pub within_grow : (kids more : List ℕ) (slots : List Slot) → AreWithin kids slots → AreWithin (kids ++ more) slots
within_grow kids more [] h = tt
within_grow kids more (s ∷ slots) h = (((h.0).0, let k = (h.0).1 in omega (arith, length-append kids more)), within_grow kids more slots h.1)

within_push : (kids : List ℕ) (slots : List Slot) (s : Slot) → AreWithin kids slots → s.start ≤ s.end → s.end ≤ length kids → AreWithin kids (slots ++ s ∷ [])
within_push kids [] s h a b = ((a, b), tt)
within_push kids (x ∷ slots) s h a b = (h.0, within_push kids slots s h.1 a b)

pub still_within : (old kids new : List ℕ) (slots : List Slot) → AreWithin old slots → new ≡ old ++ kids → AreWithin new slots
still_within old kids new slots within grown = subst (λ x. AreWithin x slots) (sym grown) (within_grow old kids slots within)

-- a slot more, whose kids are put behind the others
module _ (old kids new : List ℕ) (slots after : List Slot) (own : Reduction) (start end : ℕ) (within : AreWithin old slots) (grown : new ≡ old ++ kids) (from : start ≡ length old) (to : end ≡ length new)
    (pushed : after ≡ slots ++ record { own = own; start = start; end = end } ∷ []) where
  pub pushed_within : AreWithin new after
  pushed_within = subst (λ x. AreWithin new x) (sym pushed) (within_push new slots (record { own = own; start = start; end = end }) (still_within old kids new slots within grown) (omega (arith, ap length grown, length-append old kids)) (omega arith))

  pub pushed_reduced : reduced_slots new after ≡ reduced_slots old slots ++ record { own = own; kids = kids } ∷ []
  pushed_reduced =
      ap (reduced_slots new) pushed ∙ map-append (reduced_slot new) slots (record { own = own; start = start; end = end } ∷ [])
      ∙ (λ j. reduced_slots (grown j) slots ++ record { own = own; kids = slice_range (grown j) (from j) ((to ∙ ap length grown) j) } ∷ [])
      ∙ (λ j. slots_grow old kids slots within j ++ record { own = own; kids = range_end old kids j } ∷ [])

pub slot_at : (kids : List ℕ) (slots : List Slot) (at : ℕ) (s : Slot) → slice_get slots at ≡ Some s → slice_get (reduced_slots kids slots) at ≡ Some (reduced_slot kids s)
slot_at kids [] at s h = cc
slot_at kids (x ∷ slots) zero s h = let e : x ≡ s = cc in ap (λ (y : Slot). Some (reduced_slot kids y)) e
slot_at kids (x ∷ slots) (suc at) s h = slot_at kids slots at s h

pub no_slot : (kids : List ℕ) (slots : List Slot) (at : ℕ) → slice_get slots at ≡ None → slice_get (reduced_slots kids slots) at ≡ None
no_slot kids [] at h = refl
no_slot kids (x ∷ slots) zero h = cc
no_slot kids (x ∷ slots) (suc at) h = no_slot kids slots at h

pub within_at : (kids : List ℕ) (slots : List Slot) (at : ℕ) (s : Slot) → AreWithin kids slots → slice_get slots at ≡ Some s → (s.start ≤ s.end) × (s.end ≤ length kids)
within_at kids [] at s w h = cc
within_at kids (x ∷ slots) zero s w h = let e : x ≡ s = cc in subst (λ (y : Slot). (y.start ≤ y.end) × (y.end ≤ length kids)) e w.0
within_at kids (x ∷ slots) (suc at) s w h = within_at kids slots at s w.1 h

pub own_kids : (o : Option Reduced) (own : Reduction) → Some own ≡ own_of o → o ≡ Some (record { own = own; kids = kids_of o })
own_kids None own h = cc
own_kids (Some e) own h = let q : own ≡ e.own = cc in λ j. Some (record { own = sym q j; kids = e.kids })

pub no_own_kids : (o : Option Reduced) → None ≡ own_of o → o ≡ None
no_own_kids None h = refl
no_own_kids (Some e) h = cc
