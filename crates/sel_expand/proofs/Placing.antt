-- Turn by turn, tasks become the steps of a derivation.
use Rattle.std.proofs.Common.{◌≡◌, ℕ, List, [], ◌∷◌, ◌++◌, refl, ap, sym, ◌∙◌, subst, reverse, append_assoc, map}
use Rattle.std.proofs.lemmas.List.{reverse-append, reverse-reverse, map-append}
use Rattle.sel_grammar.specs.declared.grammar.Grammar.{Grammar}
use Rattle.sel_grammar.specs.Fits.{rule_at}
use Rattle.sel_grammar.specs.Derivations.{Derivation, Deriv, Derivations, no_more, more, list, lists}
use Rattle.sel_forest.specs.declared.forest.Node.{Node}
use Rattle.sel_forest.specs.declared.walk.Goal.{Goal}
use Rattle.sel_forest.specs.Places.{goals}
use Rattle.sel_forest.proofs.PlaceLemmas.{append-none}
use Rattle.sel_forest.specs.Goals.{DerivesAt}
use Rattle.sel_forest.proofs.Walking.{ForGoals, rule_for, taken}
use Rattle.sel_grammar.proofs.Kids.{both_kids, lists-both}
use Rattle.sel_expand.specs.declared.places.Step.{Step}
use Rattle.sel_expand.specs.declared.places.Task.{Task}
use Rattle.sel_expand.specs.declared.places.Task.TheVariants.{Derive, Emit}
use Rattle.sel_expand.specs.Steps.{goals_at, step_at, steps_of, steps_all, HasCover, IsPlaced}

module _ (g : Grammar) (nodes : List Node) where
  -- derivations for the goals among the tasks
  abbrev pub ForTasks : Derivations → List Task → Type 0
  ForTasks no_more [] = Unit {0}
  ForTasks (more d ds) [] = ⊥
  ForTasks ds (Emit step ∷ tasks) = ForTasks ds tasks
  ForTasks no_more (Derive goal ∷ tasks) = ⊥
  ForTasks (more d ds) (Derive goal ∷ tasks) = DerivesAt g nodes d goal × ForTasks ds tasks

  -- the steps that the tasks become
  abbrev pub todo : Derivations → List Task → List Step
  todo ds [] = []
  todo ds (Emit step ∷ tasks) = step ∷ todo ds tasks
  todo no_more (Derive goal ∷ tasks) = []
  todo (more d ds) (Derive goal ∷ tasks) = steps_of g nodes d goal.at ++ todo ds tasks

  for_both : (ds es : Derivations) (xs : List Goal) (tasks : List Task) → ForGoals g nodes ds xs → ForTasks es tasks → ForTasks (both_kids ds es) (map Derive xs ++ tasks)
  for_both no_more es [] tasks h k = k
  for_both no_more es (x ∷ xs) tasks h k = absurd h
  for_both (more d ds) es [] tasks h k = absurd h
  for_both (more d ds) es (x ∷ xs) tasks h k = (h.0, for_both ds es xs tasks h.1 k)

  todo-both : (ds es : Derivations) (xs : List Goal) (tasks : List Task) → ForGoals g nodes ds xs → todo (both_kids ds es) (map Derive xs ++ tasks) ≡ steps_all g nodes ds xs ++ todo es tasks
  todo-both no_more es [] tasks h = refl
  todo-both no_more es (x ∷ xs) tasks h = absurd h
  todo-both (more d ds) es [] tasks h = absurd h
  todo-both (more d ds) es (x ∷ xs) tasks h =
      ap (λ s. steps_of g nodes d x.at ++ s) (todo-both ds es xs tasks h.1) ∙ sym (append_assoc (steps_of g nodes d x.at) (steps_all g nodes ds xs) (todo es tasks))

  module _ (root : Goal) (rules : List ℕ) where
    -- steps of a derivation with this list: those that are made, and those that the tasks become
    pub record IsPartlyPlaced (steps : List Step) (rest : List ℕ) (tasks : List Task) : Type 0 where
      pub whole : Derivation
      pub derives : DerivesAt g nodes whole root
      pub listed : list whole ≡ rules
      pub kids : Derivations
      pub for : ForTasks kids (reverse tasks)
      pub left : lists kids ≡ rest
      pub placed : steps_of g nodes whole root.at ≡ steps ++ todo kids (reverse tasks)

    pub placing_first : HasCover g nodes root rules → IsPartlyPlaced [] rules (Derive root ∷ [])
    placing_first (d, (derives, listed)) = record {
      whole = d;
      derives = derives;
      listed = listed;
      kids = more d no_more;
      for = (derives, tt);
      left = sym (append-none (list d)) ∙ listed;
      placed = append-none (steps_of g nodes d root.at);
    }

    pub placing_emit : (steps : List Step) (rest : List ℕ) (tasks old : List Task) (step : Step) → old ≡ tasks ++ Emit step ∷ [] → IsPartlyPlaced steps rest old → IsPartlyPlaced (steps ++ step ∷ []) rest tasks
    placing_emit steps rest tasks old step e p =
        let order : reverse old ≡ Emit step ∷ reverse tasks = ap reverse e ∙ reverse-append tasks (Emit step ∷ []) in
        record {
          whole = p.whole;
          derives = p.derives;
          listed = p.listed;
          kids = p.kids;
          for = subst (λ x. ForTasks p.kids x) order p.for;
          left = p.left;
          placed = p.placed ∙ ap (λ x. steps ++ todo p.kids x) order ∙ sym (append_assoc steps (step ∷ []) (todo p.kids (reverse tasks)));
        }

    -- the first of the derivations that are left
    record Head (goal : Goal) (rest : List ℕ) (tasks : List Task) (kids : Derivations) : Type 0 where
      number : ℕ
      below : Derivations
      others : Derivations
      are : kids ≡ more (Deriv number below) others
      first : DerivesAt g nodes (Deriv number below) goal
      for : ForTasks others tasks
      left : rest ≡ number ∷ (lists below ++ lists others)

    head : (goal : Goal) (rest : List ℕ) (tasks : List Task) (kids : Derivations) → ForTasks kids (Derive goal ∷ tasks) → lists kids ≡ rest → Head goal rest tasks kids
    head goal rest tasks no_more h e = absurd h
    head goal rest tasks (more (Deriv q below) ds) h e = record { number = q; below = below; others = ds; are = refl; first = h.0; for = h.1; left = sym e }

    module _ (steps : List Step) (rest : List ℕ) (tasks old : List Task) (goal : Goal) (e : old ≡ tasks ++ Derive goal ∷ []) (p : IsPartlyPlaced steps rest old) where
      order : reverse old ≡ Derive goal ∷ reverse tasks
      order = ap reverse e ∙ reverse-append tasks (Derive goal ∷ [])

      first : Head goal rest (reverse tasks) p.kids
      first = head goal rest (reverse tasks) p.kids (subst (λ x. ForTasks p.kids x) order p.for) p.left

      pub number_left : rest ≡ [] → ⊥
      number_left h = let f = first in let q : [] ≡ f.number ∷ (lists f.below ++ lists f.others) = sym h ∙ f.left in cc

      pub placing_derive : (number : ℕ) (others : List ℕ) (new : List Task) → rest ≡ number ∷ others
          → new ≡ (tasks ++ Emit (step_at g nodes number goal.at) ∷ []) ++ map Derive (reverse (goals_at (rule_at g number) nodes goal.at)) → IsPartlyPlaced steps others new
      placing_derive number others new split pushed =
          let f = first in
          let whole_rest : number ∷ others ≡ f.number ∷ (lists f.below ++ lists f.others) = sym split ∙ f.left in
          let same : f.number ≡ number = cc in
          let is = rule_for g nodes goal f.number number f.below same f.first in
          let gs = goals is.rule.pattern nodes goal.at in
          let are : goals_at (rule_at g number) nodes goal.at ≡ gs = ap (λ o. goals_at o nodes goal.at) is.numbered in
          let for_kids : ForGoals g nodes f.below gs = taken g nodes goal number is f.number f.below same f.first in
          let step : Step = step_at g nodes number goal.at in
          let kids = both_kids f.below f.others in
          let reordered : reverse new ≡ map Derive gs ++ (Emit step ∷ reverse tasks) =
          ap reverse pushed ∙ ap (λ x. reverse ((tasks ++ Emit step ∷ []) ++ map Derive (reverse x))) are ∙ flipped gs tasks step in
          record {
            whole = p.whole;
            derives = p.derives;
            listed = p.listed;
            kids = kids;
            for = subst (λ x. ForTasks kids x) (sym reordered) (for_both f.below f.others gs (Emit step ∷ reverse tasks) for_kids f.for);
            left = lists-both f.below f.others ∙ sym (tails number f.number others (lists f.below ++ lists f.others) whole_rest);
            placed = p.placed ∙ ap (λ x. steps ++ todo p.kids x) order ∙ ap (λ x. steps ++ todo x (Derive goal ∷ reverse tasks)) f.are
                ∙ ap (λ x. steps ++ x) (known f.number number f.below f.others gs same are
                ∙ append_assoc (steps_all g nodes f.below gs) (step ∷ []) (todo f.others (reverse tasks))
                ∙ sym (todo-both f.below f.others gs (Emit step ∷ reverse tasks) for_kids) ∙ ap (todo kids) (sym reordered));
          }
        where
          tails : (a b : ℕ) (xs ys : List ℕ) → a ∷ xs ≡ b ∷ ys → xs ≡ ys
          tails a b xs ys h = cc

          flipped : (gs : List Goal) (tasks : List Task) (step : Step) → reverse ((tasks ++ Emit step ∷ []) ++ map Derive (reverse gs)) ≡ map Derive gs ++ (Emit step ∷ reverse tasks)
          flipped gs tasks step =
              reverse-append (tasks ++ Emit step ∷ []) (map Derive (reverse gs)) ∙ (λ j. reverse-mapped (reverse gs) j ++ reverse-append tasks (Emit step ∷ []) j)
              ∙ ap (λ x. map Derive x ++ (Emit step ∷ reverse tasks)) (reverse-reverse gs)
            where
              reverse-mapped : (xs : List Goal) → reverse (map Derive xs) ≡ map Derive (reverse xs)
              reverse-mapped [] = refl
              reverse-mapped (x ∷ xs) = reverse-append (Derive x ∷ []) (map Derive xs) ∙ ap (λ y. y ++ Derive x ∷ []) (reverse-mapped xs)
                  ∙ sym (map-append Derive (reverse xs) (x ∷ [])) ∙ ap (map Derive) (sym (reverse-append (x ∷ []) xs))

          known : (q number : ℕ) (below others : Derivations) (gs : List Goal) → q ≡ number → goals_at (rule_at g number) nodes goal.at ≡ gs
              → todo (more (Deriv q below) others) (Derive goal ∷ reverse tasks) ≡ (steps_all g nodes below gs ++ step_at g nodes number goal.at ∷ []) ++ todo others (reverse tasks)
          known q number below others gs same are =
              ap (λ r. (steps_all g nodes below (goals_at (rule_at g r) nodes goal.at) ++ step_at g nodes r goal.at ∷ []) ++ todo others (reverse tasks)) same
              ∙ ap (λ x. (steps_all g nodes below x ++ step_at g nodes number goal.at ∷ []) ++ todo others (reverse tasks)) are

    pub placing_end : (steps : List Step) (rest : List ℕ) (tasks : List Task) → tasks ≡ [] → IsPartlyPlaced steps rest tasks → IsPlaced g nodes root rules steps
    placing_end steps rest tasks e p = record {
      whole = p.whole;
      derives = p.derives;
      listed = p.listed;
      placed = p.placed ∙ ap (λ x. steps ++ todo p.kids (reverse x)) e ∙ none p.kids;
    }
      where
        none : (ds : Derivations) → steps ++ todo ds [] ≡ steps
        none ds = sym (append-none steps)
