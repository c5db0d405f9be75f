-- Answers, and texts with the names of registers, are told part by part.
use Rattle.std.proofs.Common.{◌≡◌, ◌≢◌, ℕ, ◌+◌, ◌≤◌, inl, Bool, ◌&&◌, List, [], ◌∷◌, ◌++◌, length, map, refl, sym, ap, subst, ◌∙◌, arith}
use Rattle.std.specs.List.{list_all}
use Rattle.std.proofs.lemmas.List.{length-map}
use Rattle.std.proofs.lemmas.List.Folds.{list_all-append}
use Rattle.sel_grammar.specs.declared.grammar.Grammar.{Grammar}
use Rattle.sel_grammar.specs.Lawful.{IsLawful}
use Rattle.sel_grammar.specs.PlainTrees.{PlainTree}
use Rattle.sel_grammar.specs.Derivations.{cost}
use Rattle.sel_grammar.specs.Expansions.{expanded}
use Rattle.sel_forest.specs.declared.forest.Tree.{Tree}
use Rattle.sel_forest.specs.declared.forest.Cover.{Cover}
use Rattle.sel_forest.specs.Covers.{IsBestCover}
use Rattle.sel_normal.specs.NormalFaults.{IsAccepted}
use Rattle.sel_named.specs.Laws.{NamedExists}
use Rattle.sel_work.specs.declared.answer.Answer.{Answer}
use Rattle.sel_work.specs.declared.answer.Answer.TheVariants as answers
use Rattle.sel_work.specs.declared.answer.Goal.{Goal}
use Rattle.sel_work.specs.declared.answer.Goal.TheVariants as goals
use Rattle.sel_work.specs.Answers.{IsTreeAnswer}
use Rattle.sel_work.specs.Laws.{AnswerExists}
use Rattle.sel_count.specs.Things.{AreValid}
use Rattle.sel_answers.specs.declared.named.NamedAnswer.{NamedAnswer}
use Rattle.sel_answers.specs.declared.named.NamedAnswer.TheVariants as named
use Rattle.sel_answers.specs.Output.{AreAnswers, AreAnswered, AreNamedAnswers, AreNamed, IsNamedAnswer, answers_text, named_answers_text, has_second_costs, is_covered, has_text}
use Rattle.sel_answers.proofs.Answering.{answers-append, answers-length, answers_text-append}
use Rattle.sel_answers.proofs.Naming.{named-append, named-length, named_text-append}
use Rattle.sel_answers.proofs.TreeLists.{valid_head, valid_tail}
use Rattle.sel_cli.specs.declared.jobs.each_tree.Telling.{Telling}
use Rattle.sel_cli.specs.declared.jobs.each_tree.Telling.TheVariants as tells
use Rattle.sel_cli.specs.declared.jobs.reported.Reported.{Reported}
use Rattle.sel_cli.specs.declared.status.Status.{Status}
use Rattle.sel_cli.specs.declared.status.Status.TheVariants.{Done, Usage, ReadFault, TooBig, BadGrammar, BadForest, WriteFault, NoMemory, Uncovered, BadCertificate}
use Rattle.sel_words.specs.declared.settings.Settings.{Settings}
use Rattle.sel_base.specs.Puts.{SinkTold}
use Rattle.sel_cli.specs.Parts.{AreTold, HasNames, Stops, TellsJob}
use Rattle.sel_cli.specs.Reporting.{IsUnfinished, nothing_reported}
use Rattle.sel_cli.proofs.Batches.{HasParts}

module _ (g : Grammar) (exist : AnswerExists) (lawful : IsLawful g) (accepted : IsAccepted g) where
  answers_exist : (goal : Goal) (trees : List Tree) → AreValid g trees → (answers : List Answer) × AreAnswers g goal trees answers
  answers_exist goal [] valid = ([], tt)
  answers_exist goal (t ∷ trees) valid =
      let v = valid_head g t trees valid in
      let one = exist g goal v.plain lawful accepted in
      let others = answers_exist goal trees (valid_tail g t trees valid) in
      (one.0 ∷ others.0, ((v.plain, v.postorder, one.1), others.1))

  answered_parts : (goal : Goal) → HasParts g (AreAnswered g goal)
  answered_parts goal = record {
    none = record { answers = []; answer_trees = tt; written = refl; all_covered = refl };
    joined = λ before xs ys between c d bytes more there p q.
        let second = has_second_costs g in
        let long : length p.answers ≡ length xs = answers-length g goal xs p.answers p.answer_trees in
        let place : between + 1 ≡ before + 1 + length p.answers = omega (arith, there, long) in
        record {
          answers = p.answers ++ q.answers;
          answer_trees = answers-append g goal xs ys p.answers q.answers p.answer_trees q.answer_trees;
          written = ap (λ l. l ++ more) p.written ∙ ap (λ l. answers_text second (before + 1) p.answers ++ l) (q.written ∙ ap (λ n. answers_text second n q.answers) place)
              ∙ sym (answers_text-append second (before + 1) p.answers q.answers);
          all_covered = list_all-append is_covered p.answers q.answers ∙ ap (λ b. b && list_all is_covered q.answers) p.all_covered ∙ ap (λ b. c && b) q.all_covered;
        };
    some = λ before trees valid.
        let answers = answers_exist goal trees valid in
        (list_all is_covered answers.0, answers_text (has_second_costs g) (before + 1) answers.0, record { answers = answers.0; answer_trees = answers.1; written = refl; all_covered = refl });
  }

  module _ (names : List (List ℕ)) (more_names : NamedExists) (enough : 1 ≤ length names) where
    named_cover : (t : PlainTree) (cover : Cover) → IsBestCover g t cover → (a : NamedAnswer) × IsNamedAnswer g names t a
    named_cover t cover b =
        let text = more_names (expanded g b.best t) names enough in
        (named.Named (cost g b.best) text.0, record { best = b.best; is_best = b.is_best; cost_is = refl; named = text.1 })

    named_exists : (t : PlainTree) (answer : Answer) → IsTreeAnswer g goals.Cover t answer → (a : NamedAnswer) × IsNamedAnswer g names t a
    named_exists t answers.NoCover none = (named.NoCover, none)
    named_exists t (answers.Cover cover) best = named_cover t cover best
    named_exists t (answers.Text c text) h = absurd h
    named_exists t (answers.TooLong c) h = absurd h

    all_named_exist : (trees : List Tree) → AreValid g trees → (answers : List NamedAnswer) × AreNamedAnswers g names trees answers
    all_named_exist [] valid = ([], tt)
    all_named_exist (t ∷ trees) valid =
        let v = valid_head g t trees valid in
        let cover = exist g goals.Cover v.plain lawful accepted in
        let one = named_exists v.plain cover.0 cover.1 in
        let others = all_named_exist trees (valid_tail g t trees valid) in
        (one.0 ∷ others.0, ((v.plain, v.postorder, one.1), others.1))

    named_parts : HasParts g (AreNamed g names)
    named_parts = record {
      none = record { answers = []; answer_trees = tt; written = refl; all_covered = refl };
      joined = λ before xs ys between c d bytes more there p q.
          let second = has_second_costs g in
          let long : length p.answers ≡ length xs = named-length g names xs p.answers p.answer_trees in
          let place : between + 1 ≡ before + 1 + length p.answers = omega (arith, there, long) in
          record {
            answers = p.answers ++ q.answers;
            answer_trees = named-append g names xs ys p.answers q.answers p.answer_trees q.answer_trees;
            written = ap (λ l. l ++ more) p.written ∙ ap (λ l. named_answers_text second (before + 1) p.answers ++ l) (q.written ∙ ap (λ n. named_answers_text second n q.answers) place)
                ∙ sym (named_text-append second (before + 1) p.answers q.answers);
            all_covered = list_all-append has_text p.answers q.answers ∙ ap (λ b. b && list_all has_text q.answers) p.all_covered ∙ ap (λ b. c && b) q.all_covered;
          };
      some = λ before trees valid.
          let answers = all_named_exist trees valid in
          (list_all has_text answers.0, named_answers_text (has_second_costs g) (before + 1) answers.0, record { answers = answers.0; answer_trees = answers.1; written = refl; all_covered = refl });
    }

  -- so whatever is told
  pub told_parts : NamedExists → (telling : Telling) → HasNames telling → HasParts g (AreTold g telling)
  told_parts more (tells.Answer goal) names = answered_parts goal
  told_parts more (tells.Named names) (some, few) =
      named_parts (map (λ name. name.now) names.now) more (subst (λ n. 1 ≤ n) (sym (length-map names.now (λ name. name.now))) some)

-- ---- the writing stopped

unfinished : (status : Status) → status ≢ Done → status ≢ Uncovered → IsUnfinished status
unfinished Done nd nu = absurd (nd refl)
unfinished Uncovered nd nu = absurd (nu refl)
unfinished Usage nd nu = tt
unfinished ReadFault nd nu = tt
unfinished TooBig nd nu = tt
unfinished (BadGrammar fault) nd nu = tt
unfinished (BadForest fault) nd nu = tt
unfinished (BadCertificate fault) nd nu = tt
unfinished WriteFault nd nu = tt
unfinished NoMemory nd nu = tt

pub stop_told : (settings : Settings) (g : Grammar) (telling : Telling) (trees : List Tree) (out now : SinkTold) (status : Status) (r : Reported) → Stops (AreTold g telling 0 trees) out now status
    → r ≡ record { status = status; report = nothing_reported } → TellsJob settings g telling trees out now r.status r.report
stop_told settings g telling trees out now status r s is =
    subst (λ (x : Reported). TellsJob settings g telling trees out now x.status x.report) (sym is) (record { writes = s.writes; reports = inl (refl, unfinished status s.not_done s.not_uncovered) })
