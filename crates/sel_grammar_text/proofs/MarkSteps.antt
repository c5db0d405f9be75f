-- Marks, one by one.
use Rattle.std.proofs.Common.{◌≡◌, ℕ, ◌-◌, ◌≤◌, List, [], ◌∷◌, ◌++◌, length, take, sym, subst, arith}
use Rattle.std.specs.List.{AllByRecursion}
use Rattle.sel_grammar_text.specs.Places.{IsMark, IsPlaceBehind}
use Rattle.sel_grammar_text.specs.declared.mark.Mark.{Mark}
use Rattle.sel_grammar_text.specs.declared.place.Place.{Place}

with_last : (bytes : List ℕ) (marks : List Mark) (m : Mark) → AllByRecursion (IsMark bytes) marks → IsMark bytes m → AllByRecursion (IsMark bytes) (marks ++ m ∷ [])
with_last bytes [] m h k = (k, tt)
with_last bytes (x ∷ marks) m h k = (h.0, with_last bytes marks m h.1 k)

split_all : (bytes : List ℕ) (marks : List Mark) (m : Mark) → AllByRecursion (IsMark bytes) (marks ++ m ∷ []) → AllByRecursion (IsMark bytes) marks × IsMark bytes m
split_all bytes [] m h = (tt, h.0)
split_all bytes (x ∷ marks) m h = let rest = split_all bytes marks m h.1 in ((h.0, rest.0), rest.1)

-- the marks before the last, and the last
pub before_last : (bytes : List ℕ) (all marks : List Mark) (m : Mark) → all ≡ marks ++ m ∷ [] → AllByRecursion (IsMark bytes) all → AllByRecursion (IsMark bytes) marks × IsMark bytes m
before_last bytes all marks m e h = split_all bytes marks m (subst (AllByRecursion (IsMark bytes)) e h)

-- a mark where an item begins
pub mark_added : (bytes left : List ℕ) (p : Place) (marks more : List Mark) → length left ≤ length bytes → IsPlaceBehind (take (length bytes - length left) bytes) p → AllByRecursion (IsMark bytes) marks
    → more ≡ marks ++ record { at = length bytes - length left; place = p } ∷ [] → AllByRecursion (IsMark bytes) more
mark_added bytes left p marks more w h k e =
    subst (AllByRecursion (IsMark bytes)) (sym e) (with_last bytes marks (record { at = length bytes - length left; place = p }) k (record { within = omega (arith, w); place = h }))
