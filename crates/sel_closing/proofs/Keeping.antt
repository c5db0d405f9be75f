-- What parts keep of trees.
use Rattle.std.proofs.Common.{◌≡◌, ◌⊎◌, inl, inr, Bool, true, false, List, [], ◌∷◌, ◌++◌, refl}
use Rattle.sel_grammar.specs.declared.grammar.Grammar.{Grammar}
use Rattle.sel_forest.specs.declared.forest.Node.{Node}
use Rattle.sel_items.specs.Automata.{Told, KeepsMark}
use Rattle.sel_law.specs.Words.{In}
use Rattle.sel_rows.specs.declared.part.PassPart.{PassPart}
use Rattle.sel_work.specs.Kept.{AreTabledKept}
use Rattle.sel_count.proofs.Elements.{IsOneOf, is_one_of, contains}
use Rattle.sel_closing.specs.Asking.{told_of_part, TellsMore}
use Rattle.sel_closing.specs.Laws.{KeptStaysKept, PartsStillKeep, PartsKeepBoth}

was_false : (old new : Bool) → KeepsMark old new → new ≡ false → old ≡ false
was_false true new k f = let t = k refl in cc
was_false false new k f = refl

pub tells_same : (told : Told) → TellsMore told told
tells_same told = record { asked = λ k h. h; known = λ k h. h; held = λ i h. h; used_up = λ u. u; row_full = λ f. f }

pub tells_then : (a b c : Told) → TellsMore a b → TellsMore b c → TellsMore a c
tells_then a b c f h = record {
  asked = λ k x. h.asked k (f.asked k x);
  known = λ k x. h.known k (f.known k x);
  held = λ i x. h.held i (f.held i x);
  used_up = λ u. h.used_up (f.used_up u);
  row_full = λ u. h.row_full (f.row_full u);
}

pub kept_still : (g : Grammar) (nodes : List Node) (old new : Told) → TellsMore old new → AreTabledKept g nodes old → AreTabledKept g nodes new
kept_still g nodes old new more kept = record {
  sets = λ u i t root tabled. (let s = kept.sets (was_false old.used_up new.used_up more.used_up u) i t root tabled in (s.0, s.1, more.held s.0 s.2));
  keys = λ u f i t k root tabled is. more.known k (kept.keys (was_false old.used_up new.used_up more.used_up u) (was_false old.row_full new.row_full more.row_full f) i t k root tabled is);
}

pub kept_stays_kept : KeptStaysKept
kept_stays_kept g tree old new more kept = kept_still g tree.nodes (told_of_part old) (told_of_part new) more kept

pub parts_still_keep : PartsStillKeep
parts_still_keep g trees old new more keeps tree c =
    let p = keeps tree c in
    let q = more p.0 p.1 in
    (q.0, q.1, kept_still g tree.nodes (told_of_part p.0) (told_of_part q.0) q.2 p.2)

pub in_append : {A : Type 0} (x : A) (xs ys : List A) → IsOneOf x (xs ++ ys) → IsOneOf x xs ⊎ IsOneOf x ys
in_append x [] ys h = inr h
in_append x (z ∷ xs) ys (inl e) = inl (inl e)
in_append x (z ∷ xs) ys (inr m) = go (in_append x xs ys m)
  where
    go : IsOneOf x xs ⊎ IsOneOf x ys → IsOneOf x (z ∷ xs) ⊎ IsOneOf x ys
    go (inl a) = inl (inr a)
    go (inr b) = inr b

pub parts_keep_both : PartsKeepBoth
parts_keep_both g xs ys parts kx ky tree c = go (in_append tree xs ys (is_one_of (xs ++ ys) tree c))
  where
    go : IsOneOf tree xs ⊎ IsOneOf tree ys → (p : PassPart) × In p parts × AreTabledKept g tree.nodes (told_of_part p)
    go (inl m) = kx tree (contains xs tree m)
    go (inr m) = ky tree (contains ys tree m)
