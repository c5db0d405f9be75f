-- A text spells a forest or has a fault.
use Rattle.std.proofs.Common.{◌≡◌, ℕ, suc, zero, ◌+◌, ◌-◌, ◌≤◌, ◌<◌, ◌⊎◌, inl, inr, List, [], ◌∷◌, ◌++◌, Option, Some, None, refl, ap, sym, ◌∙◌, subst, arith, length, drop, length-append, append_assoc, append-nil}
use Rattle.sel_grammar.specs.declared.grammar.Grammar.{Grammar}
use Rattle.sel_forest.specs.declared.forest.Tree.{Tree}
use Rattle.sel_forest.specs.declared.forest.Forest.{Forest}
use Rattle.sel_forest.specs.declared.refusal.ForestFault.{ForestFault}
use Rattle.sel_forest.specs.Limits as limits
use Rattle.sel_forest.specs.Limits.{most_trees}
use Rattle.sel_forest.specs.Tokens.{Token, skip, width, start, first}
use Rattle.sel_forest.specs.LineFaults.{around, kind_of, HasFirstFault}
use Rattle.sel_forest.specs.ForestText.{SpellsLine, IsBlankLine, LinesSpell, no_lines, lines_of, SpellsForest, IsForestFault}
use Rattle.sel_forest.specs.Machine.{step}
use Rattle.sel_forest.specs.declared.line.State.{State}
use Rattle.sel_forest.specs.declared.line.State.TheVariants.{Start, Wanted, Named, Colonned, Attributed, Closed, Ended}
use Rattle.sel_forest.specs.Laws.{SomeForestOrFault}
use Rattle.sel_forest.proofs.Strides.{shorter, skip_short}
use Rattle.sel_forest.proofs.Reading.{HasPairsAtMost, most_two}
use Rattle.sel_forest.proofs.Standing.{Stands, stands_start, token_here, stands_stray, stands_wrong, stands_next, stands_end, LineEnds}
use Rattle.sel_forest.proofs.ForestLoop.{more_blank, more_tree}

-- A line is blank, spells a tree, or has a fault.
abbrev LineAnswer : Grammar → ℕ → List ℕ → Type 0
LineAnswer g trees line = IsBlankLine line ⊎ (((made : Tree) × SpellsLine g line made × (trees < most_trees)) ⊎ ((kind : ℕ) × (at : ℕ) × HasFirstFault g trees line kind at))

is_ended : (u : State) → (u ≡ Ended) ⊎ (u ≡ Ended → ⊥)
is_ended Start = inr (λ e. cc)
is_ended (Wanted d) = inr (λ e. cc)
is_ended (Named d) = inr (λ e. cc)
is_ended (Colonned d) = inr (λ e. cc)
is_ended (Attributed d) = inr (λ e. cc)
is_ended (Closed d) = inr (λ e. cc)
is_ended Ended = inl refl

end_answer : (g : Grammar) (trees : ℕ) (line : List ℕ) (ts : List Token) → LineEnds g trees line ts → LineAnswer g trees line
end_answer g trees line ts (inl e) = inl e.1
end_answer g trees line ts (inr e) = inr (inl (e.0, e.2, e.3))

decide : (g : Grammar) → HasPairsAtMost g → (trees : ℕ) (line : List ℕ) (fuel n : ℕ) (s : State) (rest : List ℕ) → length rest < fuel → Stands g trees line n s rest → LineAnswer g trees line
decide g two trees line zero n s rest lt r = absurd (omega arith)
decide g two trees line (suc fuel) n s rest lt r =
    by_step (step s (token_here s rest)) refl
    (λ u h k open_still. decide g two trees line fuel (suc n) u (drop (width (token_here s rest)) (skip rest)) (omega (arith, shorter s u (skip rest) h open_still, skip_short rest))
    (stands_next g two trees line n s rest r u h k open_still))
  where
    by_end : (u : State) → (u ≡ Ended) ⊎ (u ≡ Ended → ⊥) → step s (token_here s rest) ≡ Some u → kind_of g trees (around g (first n (start line))) (token_here s rest) ≡ None
        → ((u : State) → step s (token_here s rest) ≡ Some u → kind_of g trees (around g (first n (start line))) (token_here s rest) ≡ None → (u ≡ Ended → ⊥) → LineAnswer g trees line) → LineAnswer g trees line
    by_end u (inl e) h k again = end_answer g trees line (first n (start line)) (stands_end g two trees line n s rest r (h ∙ ap Some e) k)
    by_end u (inr open_still) h k again = again u h k open_still

    by_kind : (o : Option ℕ) → kind_of g trees (around g (first n (start line))) (token_here s rest) ≡ o → (u : State) → step s (token_here s rest) ≡ Some u
        → ((u : State) → step s (token_here s rest) ≡ Some u → kind_of g trees (around g (first n (start line))) (token_here s rest) ≡ None → (u ≡ Ended → ⊥) → LineAnswer g trees line) → LineAnswer g trees line
    by_kind None k u h again = by_end u (is_ended u) h k again
    by_kind (Some kind) k u h again = inr (inr (kind, length line - length (skip rest), stands_wrong g two trees line n s rest r u kind h k))

    by_step : (o : Option State) → step s (token_here s rest) ≡ o
        → ((u : State) → step s (token_here s rest) ≡ Some u → kind_of g trees (around g (first n (start line))) (token_here s rest) ≡ None → (u ≡ Ended → ⊥) → LineAnswer g trees line) → LineAnswer g trees line
    by_step None h again = inr (inr (limits.token, length line - length (skip rest), stands_stray g two trees line n s rest r h))
    by_step (Some u) h again = by_kind (kind_of g trees (around g (first n (start line))) (token_here s rest)) refl u h again

line_answer : (g : Grammar) → HasPairsAtMost g → (trees : ℕ) (line : List ℕ) → LineAnswer g trees line
line_answer g two trees line = decide g two trees line (suc (length line)) 0 Start line (omega arith) (stands_start g trees line)

abbrev Answer : Grammar → List ℕ → Type 0
Answer g bytes = ((forest : Forest) × SpellsForest g bytes forest) ⊎ ((fault : ForestFault) × IsForestFault g bytes fault)

-- the lines before gave these trees; the rest is decided line by line
answer : (g : Grammar) → HasPairsAtMost g → (bytes : List ℕ) (before rest : List (List ℕ)) (trees : List Tree) → lines_of bytes ≡ before ++ rest → LinesSpell g before trees → length trees ≤ most_trees → Answer g bytes
answer g two bytes before [] trees e s few =
    inl (record { trees = trees }, record { lines = subst (λ x. LinesSpell g x trees) (sym (append-nil before) ∙ sym e) s; few = few })
answer g two bytes before (line ∷ others) trees e s few =
    go (line_answer g two (length trees) line)
    (λ trees' s' few'. answer g two bytes (before ++ (line ∷ [])) others trees' (e ∙ sym (append_assoc before (line ∷ []) others)) s' few')
  where
    go : LineAnswer g (length trees) line → ((trees' : List Tree) → LinesSpell g (before ++ (line ∷ [])) trees' → length trees' ≤ most_trees → Answer g bytes) → Answer g bytes
    go (inl b) next = next trees (more_blank g before line trees s b) few
    go (inr (inl t)) next = next (trees ++ (t.0 ∷ [])) (more_tree g before line trees t.0 s t.1) (omega (arith, length-append trees (t.0 ∷ []), t.2))
    go (inr (inr f)) next = inr (
      record { kind = f.0; line = length before + 1; column = f.1 + 1 },
      record { before = before; line = line; others = others; lines = e; trees = trees; spelled = s; few = few; here = record { at = f.1; first_fault = f.2; line_is = refl; column_is = refl } },
    )

pub some_answer : SomeForestOrFault
some_answer g bytes within = answer g (most_two g within) bytes [] (lines_of bytes) [] refl no_lines (omega arith)
