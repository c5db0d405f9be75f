-- The steps of a derivation emit what the derivation does.
use Rattle.std.proofs.Common.{◌≡◌, ℕ, ◌+◌, ◌-◌, Bool, true, false, Some, List, [], ◌∷◌, ◌++◌, refl, ap, sym, ◌∙◌, append_assoc, length, take, drop, arith, length-append, if◌then◌else◌}
use Rattle.sel_grammar.specs.declared.emission.Emitted.TheVariants.{Temporary}
use Rattle.std.proofs.Math.Seq.{take-append_seam, drop-append_seam}
use Rattle.sel_grammar.specs.declared.grammar.Grammar.{Grammar}
use Rattle.sel_grammar.specs.declared.grammar.Rule.{Rule}
use Rattle.sel_grammar.specs.declared.grammar.Part.{Part}
use Rattle.sel_grammar.specs.declared.grammar.Attribute.{Attribute}
use Rattle.sel_grammar.specs.PlainTrees.{PlainTree, attribute_of}
use Rattle.sel_grammar.specs.Fits.{leaves, fits, rule_at}
use Rattle.sel_grammar.specs.Derivations.{Derivation, Deriv, Derivations, no_more, more, Derives, DeriveAll}
use Rattle.sel_grammar.specs.Expansions.{Text, Emission, Emissions, by_template, emit, emit_all, kid_trees, trees_or_none, is_instruction, has_result, filled}
use Rattle.sel_forest.specs.declared.forest.Node.{Node}
use Rattle.sel_forest.specs.declared.walk.Goal.{Goal}
use Rattle.sel_forest.specs.Places.{IsRootAt, goals}
use Rattle.sel_forest.proofs.Matching.{Match, goals_match}
use Rattle.sel_forest.proofs.Lying.{fits_subtrees, root_at}
use Rattle.sel_forest.proofs.PlaceLemmas.{append-none}
use Rattle.sel_expand.specs.declared.places.Step.{Step}
use Rattle.sel_expand.specs.Steps.{goals_at, step_at, steps_of, steps_all}
use Rattle.sel_expand.specs.Running.{attribute_or_none, attribute_at, parts_at, advance, run}

-- what went before, and one emission more
abbrev pub then_one : Emissions → Emission → Emissions
then_one s e = record { lines = s.lines ++ e.lines; values = s.values ++ e.value ∷ []; next = e.next }

abbrev pub then_all : Emissions → Emissions → Emissions
then_all s es = record { lines = s.lines ++ es.lines; values = s.values ++ es.values; next = es.next }

abbrev behind : Text → Emission → Emission
behind before e = record { lines = before ++ e.lines; value = e.value; next = e.next }

by_template-behind : (parts : List Part) (a : Attribute) (before lines : Text) (values : List Text) (k : ℕ)
    → by_template parts a (record { lines = before ++ lines; values = values; next = k }) ≡ behind before (by_template parts a (record { lines = lines; values = values; next = k }))
by_template-behind parts a before lines values k = go (is_instruction parts) (has_result parts)
  where
    go : (b c : Bool) → (if b then (if c then record { lines = (before ++ lines) ++ filled values a k parts; value = Temporary k ∷ []; next = k + 1 }
        else record { lines = (before ++ lines) ++ filled values a k parts; value = []; next = k }) else record { lines = before ++ lines; value = filled values a k parts; next = k })
        ≡ behind before (if b then (if c then record { lines = lines ++ filled values a k parts; value = Temporary k ∷ []; next = k + 1 }
        else record { lines = lines ++ filled values a k parts; value = []; next = k }) else record { lines = lines; value = filled values a k parts; next = k })
    go true true = ap (λ x. record { lines = x; value = Temporary k ∷ []; next = k + 1 }) (append_assoc before lines (filled values a k parts))
    go true false = ap (λ x. record { lines = x; value = []; next = k }) (append_assoc before lines (filled values a k parts))
    go false c = refl

module _ (g : Grammar) (nodes : List Node) where
  pub run-append : (s : Emissions) (xs ys : List Step) → run g nodes s (xs ++ ys) ≡ run g nodes (run g nodes s xs) ys
  run-append s [] ys = refl
  run-append s (x ∷ xs) ys = run-append (advance g nodes s x) xs ys

  length-values : (ds : Derivations) (xs : List Goal) (ns : List ℕ) (ts : List PlainTree) (k : ℕ) → DeriveAll g ds ns ts → Match nodes xs ns ts → length (emit_all g ds ts k).values ≡ length xs
  length-values no_more [] [] [] k f h = refl
  length-values no_more (x ∷ xs) [] [] k f h = absurd h
  length-values no_more xs [] (t ∷ ts) k f h = absurd f
  length-values no_more xs (n ∷ ns) ts k f h = absurd f
  length-values (more d ds) xs [] ts k f h = absurd f
  length-values (more d ds) xs (n ∷ ns) [] k f h = absurd f
  length-values (more d ds) [] (n ∷ ns) (t ∷ ts) k f h = absurd h
  length-values (more d ds) (x ∷ xs) (n ∷ ns) (t ∷ ts) k f h = let e = length-values ds xs ns ts (emit g d t k).next f.1 h.2 in omega arith

  -- a rule behind its kids
  module _ (r i : ℕ) (rule : Rule) (t : PlainTree) (ts : List PlainTree) (kids : Derivations) (s : Emissions) (numbered : rule_at g r ≡ Some rule) (stands : IsRootAt nodes i t) (fitting : fits rule t ≡ Some ts)
      (derive : DeriveAll g kids (leaves rule.pattern) ts) where
    abbrev es : Emissions
    es = emit_all g kids ts s.next

    rule_matched : Match nodes (goals rule.pattern nodes i) (leaves rule.pattern) ts
    rule_matched = goals_match nodes rule.pattern i t ts stands (fits_subtrees rule t ts fitting)

    emitted : emit g (Deriv r kids) t s.next ≡ by_template (parts_at g r) (attribute_of t) es
    emitted =
        let are : kid_trees (rule_at g r) t ≡ ts = ap (λ o. kid_trees o t) numbered ∙ ap trees_or_none fitting in
        ap (λ x. by_template (parts_at g r) (attribute_of t) (emit_all g kids x s.next)) are

    gs : List Goal
    gs = goals rule.pattern nodes i

    goals_are : goals_at (rule_at g r) nodes i ≡ gs
    unfolding gs
    goals_are = ap (λ o. goals_at o nodes i) numbered

    count : length (s.values ++ es.values) - length (goals_at (rule_at g r) nodes i) ≡ length s.values
    unfolding gs
    count =
        let e : length (emit_all g kids ts s.next).values ≡ length (goals rule.pattern nodes i) = length-values kids (goals rule.pattern nodes i) (leaves rule.pattern) ts s.next derive rule_matched in
        let f : length (goals_at (rule_at g r) nodes i) ≡ length (goals rule.pattern nodes i) = ap length goals_are in
        omega (arith, length-append s.values (emit_all g kids ts s.next).values)

    attribute_is : attribute_at nodes i ≡ attribute_of t
    attribute_is = let q = root_at nodes i t stands in ap attribute_or_none (q.1).0 ∙ (q.1).1

    -- where these values are the kids', and those are left
    after : List Text → List Text → Attribute → Emissions
    after below own a =
        let e = by_template (parts_at g r) a (record { lines = s.lines ++ es.lines; values = own; next = es.next }) in
        record { lines = e.lines; values = below ++ e.value ∷ []; next = e.next }

    advanced : advance g nodes (then_all s es) (step_at g nodes r i) ≡ then_one s (emit g (Deriv r kids) t s.next)
    unfolding after
    advanced =
        let all = s.values ++ es.values in
        ap (λ n. after (take n all) (drop n all) (attribute_at nodes i)) count
        ∙ (λ j. after (take-append_seam s.values es.values j) (drop-append_seam s.values es.values j) (attribute_is j))
        ∙ ap (λ (e : Emission). record { lines = e.lines; values = s.values ++ e.value ∷ []; next = e.next }) (by_template-behind (parts_at g r) (attribute_of t) s.lines es.lines es.values es.next)
        ∙ ap (λ (e : Emission). record { lines = s.lines ++ e.lines; values = s.values ++ e.value ∷ []; next = e.next }) (sym emitted)

  mutual
    pub run_one : (d : Derivation) (i n : ℕ) (t : PlainTree) (s : Emissions) → IsRootAt nodes i t → Derives g d n t → run g nodes s (steps_of g nodes d i) ≡ then_one s (emit g d t s.next)
    run_one (Deriv r kids) i n t s stands (rule, numbered, left, (ts, fitting, derive)) =
        let xs = goals rule.pattern nodes i in
        ap (λ x. run g nodes s (steps_all g nodes kids x ++ step_at g nodes r i ∷ [])) (ap (λ o. goals_at o nodes i) numbered)
        ∙ run-append s (steps_all g nodes kids xs) (step_at g nodes r i ∷ [])
        ∙ ap (λ x. advance g nodes x (step_at g nodes r i)) (run_all kids xs (leaves rule.pattern) ts s derive (goals_match nodes rule.pattern i t ts stands (fits_subtrees rule t ts fitting)))
        ∙ advanced r i rule t ts kids s numbered stands fitting derive

    run_all : (ds : Derivations) (xs : List Goal) (ns : List ℕ) (ts : List PlainTree) (s : Emissions) → DeriveAll g ds ns ts → Match nodes xs ns ts → run g nodes s (steps_all g nodes ds xs) ≡ then_all s (emit_all g ds ts s.next)
    run_all no_more [] [] [] s f h = λ j. record { lines = append-none s.lines j; values = append-none s.values j; next = s.next }
    run_all no_more (x ∷ xs) [] [] s f h = absurd h
    run_all no_more xs [] (t ∷ ts) s f h = absurd f
    run_all no_more xs (n ∷ ns) ts s f h = absurd f
    run_all (more d ds) xs [] ts s f h = absurd f
    run_all (more d ds) xs (n ∷ ns) [] s f h = absurd f
    run_all (more d ds) [] (n ∷ ns) (t ∷ ts) s f h = absurd h
    run_all (more d ds) (x ∷ xs) (n ∷ ns) (t ∷ ts) s f h =
        let e = emit g d t s.next in
        let es = emit_all g ds ts e.next in
        run-append s (steps_of g nodes d x.at) (steps_all g nodes ds xs)
        ∙ ap (λ y. run g nodes y (steps_all g nodes ds xs)) (run_one d x.at n t s h.1 f.0)
        ∙ run_all ds xs ns ts (then_one s e) f.1 h.2
        ∙ (λ j. record { lines = append_assoc s.lines e.lines es.lines j; values = append_assoc s.values (e.value ∷ []) es.values j; next = es.next })
