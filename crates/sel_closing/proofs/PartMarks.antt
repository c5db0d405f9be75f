-- A mark of parts together is one that some part has.
use Rattle.std.proofs.Common.{◌≡◌, ◌↔◌, Bool, true, false, ◌||◌, zero, suc, List, [], ◌∷◌, refl, sym, ap, ◌∙◌}
use Rattle.std.specs.List.{list_any}
use mathlib.Core.Option.{some-injective}
use Rattle.sel_law.specs.Words.{In}
use Rattle.sel_law.proofs.Base.{in_nil}
use Rattle.sel_rows.specs.declared.part.PassPart.{PassPart}

has_mark : (f : PassPart → Bool) (parts : List PassPart) → list_any f parts ≡ true → (p : PassPart) × In p parts × (f p ≡ true)
has_mark f [] h = absurd (let e : false ≡ true = h in cc)
has_mark f (p ∷ ps) h = go (f p) refl h (λ m. has_mark f ps m)
  where
    go : (b : Bool) → f p ≡ b → (b || list_any f ps) ≡ true → (list_any f ps ≡ true → (q : PassPart) × In q ps × (f q ≡ true)) → (q : PassPart) × In q (p ∷ ps) × (f q ≡ true)
    go true e h more = (p, (0, refl), e)
    go false e h more = let r = more h in (r.0, (suc r.1.0, r.1.1), r.2)

gives_mark : (f : PassPart → Bool) (parts : List PassPart) (p : PassPart) → In p parts → f p ≡ true → list_any f parts ≡ true
gives_mark f [] p h e = absurd (in_nil p h)
gives_mark f (q ∷ ps) p (zero, i) e = ap (λ b. b || list_any f ps) (ap f (some-injective q p i) ∙ e)
gives_mark f (q ∷ ps) p (suc k, i) e = go (f q) (gives_mark f ps p (k, i) e)
  where
    go : (b : Bool) → list_any f ps ≡ true → (b || list_any f ps) ≡ true
    go true h = refl
    go false h = h

pub mark_of_parts : (f : PassPart → Bool) (parts : List PassPart) (b : Bool) → b ≡ list_any f parts → (b ≡ true) ↔ ((p : PassPart) × In p parts × (f p ≡ true))
mark_of_parts f parts b e = (λ t. has_mark f parts (sym e ∙ t), λ h. e ∙ gives_mark f parts h.0 h.1 h.2)
