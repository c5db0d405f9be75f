-- What a call that labels a node tells, whether it has memory or not.
use Rattle.std.proofs.Common.{◌≡◌, ℕ, ◌+◌, ◌<◌, ◌≤◌, ◌⊎◌, inl, inr, Option, List, length, Result, Ok, Err, IfOk, OnErr, refl, sym, ap, subst, ◌∙◌, arith}
use Rattle.std.specs.Prelude.{MatchResult}
use Rattle.sel_items.specs.declared.items.Items.{Items}
use Rattle.sel_items.specs.declared.label.Label.{Label}
use Rattle.sel_items.specs.declared.label.Label.TheVariants.{Numbered}
use Rattle.sel_items.specs.Follows.{NodeKey, Follows}
use Rattle.sel_items.specs.Labels.{AreNumbered, KidsAre}
use Rattle.sel_items.specs.Automata.{KeepsMark, IsLabelOf, IsLabelled, Keeps, Grows, AddsOwn, IsOwnKey, IsReady, IsHit}
use Rattle.sel_auto.specs.Sets.{IsAmong}
use Rattle.sel_auto.specs.Tables.{Tables, Means, IsKnown, told_of, limits_of, one_more, with_evaluation, with_state}
use Rattle.sel_auto.specs.TableChanges.{FollowsKids, IsKeptFor, IsChanged, IsRefused, IsCounted}
use Rattle.sel_auto.specs.Answers.{IsAnswer}
use Rattle.sel_auto.proofs.Cases.{Way, way}
use Rattle.sel_auto.proofs.OneKey.{kept_for}
use Rattle.sel_auto.proofs.Refusals.{meant_refused, evaluation_refused}
use Rattle.sel_auto.proofs.Results.{if_ok, by_result}
use Rattle.sel_auto.proofs.Told.{mark_full, mark_used, evaluations, plain_cause, plain_kept, labelled, grown, grown_refused, means_kept, held_kept, known_kept, plain_meant, plain_more, known_refused, known_own, held_own, held_refused, hit_told, counted, marks_kept, normal_kept, limits_kept}
use Rattle.sel_auto.proofs.Ways.{Before, Grown, states_kept, keys_changed}

own : {X Y Z : Type 0} → X ⊎ Y → (Y → Z) → X ⊎ Z
own (inl x) f = inl x
own (inr y) f = inr (f y)

module _ {E : Type 0} (t new : Tables) (before after operator class : ℕ) (a b : Option Label) (known : Before t) (kids : List Items) (are : KidsAre (Means t) a b kids) (r : Result Label E)
    (answered : IfOk r (λ l. IsAnswer t new before after operator class a b l)) (refused : OnErr r (IsRefused t new operator class a b × (before < after))) where
  -- a fact of the new tables, by the ways of a label and where memory was refused
  either : (C : Type 0) → ((l : Label) → r ≡ Ok l → Way t new before after operator class a b l → C) → (IsRefused t new operator class a b → before < after → C) → C
  either C f g = by_result r _ _ C answered refused (λ l e w. f l e (way t new before after operator class a b l w)) (λ q. g q.0 q.1)

  is_grown : Grown t new
  is_grown = either (Grown t new) (λ l e w. grown t operator class a b known new before after l w) (λ q s. grown_refused t operator class a b known new q)

  refused_same : {A : Type 0} → (new ≡ with_evaluation t) ⊎ ((i : Items) × FollowsKids t operator class a b i × AreNumbered a b × (IsAmong t.states i → ⊥) × (length t.states < t.most_states) × (new ≡ with_state (with_evaluation t) i))
      → (f : Tables → A) → f (with_evaluation t) ≡ f t → ((i : Items) → f (with_state (with_evaluation t) i) ≡ f t) → f new ≡ f t
  refused_same (inl e) f h k = ap f e ∙ h
  refused_same (inr e) f h k = ap f e.5 ∙ k e.0

  pub fixed : limits_of new ≡ limits_of t
  fixed = either (limits_of new ≡ limits_of t) (λ l e w. limits_kept t operator class a b known new before after l w) (λ q s. refused_same q.tables limits_of refl (λ i. refl))

  keeps : Keeps (told_of t) (told_of new)
  keeps = record {
    normal = either (new.normal ≡ t.normal) (λ l e w. normal_kept t operator class a b known new before after l w) (λ q s. refused_same q.tables (λ (s : Tables). s.normal) refl (λ i. refl));
    numbered = λ n i m. means_kept t operator class a b known new is_grown (Numbered n) i m;
    asked = known_kept t operator class a b known new is_grown;
    known = known_kept t operator class a b known new is_grown;
    held = held_kept t operator class a b known new is_grown;
    used_up = either (KeepsMark t.used_up new.used_up) (λ l e w. (marks_kept t operator class a b known new before after l w).0) (λ q s h. refused_same q.tables (λ (s : Tables). s.used_up) refl (λ i. refl) ∙ h);
    row_full = either (KeepsMark t.row_full new.row_full) (λ l e w. (marks_kept t operator class a b known new before after l w).1) (λ q s h. refused_same q.tables (λ (s : Tables). s.row_full) refl (λ i. refl) ∙ h);
  }

  pub grows : Grows (told_of t) (told_of new) r
  grows = record {
    keeps = keeps;
    means = means_kept t operator class a b known new is_grown;
    plain = λ m i p h. either (Means t m i ⊎ IsLabelOf r m)
        (λ l e w. own (plain_meant t operator class a b known new before after l w m i p h) (λ s. subst (λ (x : Result Label E). IsLabelOf x m) (sym e) s))
        (λ q s. inl (meant_refused t new operator class a b q m i p h));
    plain_labels = either (length new.plain ≤ length t.plain + 1) (λ l e w. plain_more t operator class a b known new before after l w) (λ q s. let e = same_plain q in omega arith);
    none_counted = none_counted r refused;
  }
    where
      same_plain : IsRefused t new operator class a b → length new.plain ≡ length t.plain
      same_plain q = by q.tables
        where
          by : (new ≡ with_evaluation t) ⊎ ((i : Items) × FollowsKids t operator class a b i × AreNumbered a b × (IsAmong t.states i → ⊥) × (length t.states < t.most_states) × (new ≡ with_state (with_evaluation t) i)) → length new.plain ≡ length t.plain
          by (inl e) = ap (λ (s : Tables). length s.plain) e
          by (inr e) = ap (λ (s : Tables). length s.plain) e.5

      none_counted : (x : Result Label E) → OnErr x (IsRefused t new operator class a b × (before < after)) → OnErr x (length new.plain ≤ length t.plain)
      none_counted (Ok l) h = tt
      none_counted (Err e) h = let s = same_plain h.0 in omega arith

  pub adds : AddsOwn (told_of t) (told_of new) operator class a b
  adds = record {
    asked = added;
    known = added;
    held = λ i h. either (IsAmong t.states i ⊎ ((k : NodeKey) × (IsKnown t k ⊎ IsOwnKey (told_of t) operator class a b k) × Follows t.normal k i))
        (λ l e w. held_own t operator class a b known kids are new before after l w i h) (λ q s. held_refused t operator class a b known kids are new q i h);
  }
    where
      added : (k : NodeKey) → IsKnown new k → IsKnown t k ⊎ IsOwnKey (told_of t) operator class a b k
      added k h = either (IsKnown t k ⊎ IsOwnKey (told_of t) operator class a b k) (λ l e w. known_own t operator class a b known kids are new before after l w k h) (λ q s. inl (known_refused t operator class a b known new q k h))

  pub hit : (n : ℕ) → IsKeptFor t operator class a b n → (r ≡ Ok (Numbered n)) × (new ≡ t) × (after ≡ before)
  hit n h = either ((r ≡ Ok (Numbered n)) × (new ≡ t) × (after ≡ before)) (λ l e w. let x = hit_told t operator class a b known new before after l w n h in (e ∙ ap Ok x.0, x.1, x.2)) (λ q s. absurd (q.missing n h))

  pub ready : IsReady (told_of t) operator class a b → IsHit (told_of t) (told_of new) r before after
  ready h =
      let k = kept_for t operator class a b known h in
      let x = hit k.0 k.1 in
      record { number = k.0; label = x.0; no_step = x.2; ready = λ key is. subst (λ s. IsKnown s key) (sym x.1) is }

  pub leaves : MatchResult r (λ l. IsChanged t new operator class a b l) (λ _. IsRefused t new operator class a b)
  leaves = go r answered refused
    where
      go : (x : Result Label E) → IfOk x (λ l. IsAnswer t new before after operator class a b l) → OnErr x (IsRefused t new operator class a b × (before < after))
          → MatchResult x (λ l. IsChanged t new operator class a b l) (λ _. IsRefused t new operator class a b)
      go (Ok l) h k = let w = way t new before after operator class a b l h in record {
        plain_where = λ is m. plain_cause t operator class a b known is m new before after l w;
        states = states_kept t operator class a b known new before after l w;
        plain = plain_kept t operator class a b known new before after l w;
        keys = keys_changed t operator class a b known new before after l w;
        used_up = mark_used t operator class a b known new before after l w;
        row_full = mark_full t operator class a b known new before after l w;
      }
      go (Err e) h k = k.0

  pub is_counted : before ≤ after → IsCounted t new operator class a b before after
  is_counted no_fewer = record {
    evaluated = λ none. either ((before < after) × (new.evaluated ≡ one_more t.evaluated))
        (λ l e w. (counted t operator class a b known new before after l w none, evaluations t operator class a b known new before after l w none)) (λ q s. (s, evaluation_refused t new operator class a b q));
    no_fewer = no_fewer;
  }

  pub is_labelled : IfOk r (λ l. (is : List Items) → KidsAre (Means t) a b is → IsLabelled (told_of new) operator class a b is l)
  is_labelled = if_ok r _ _ answered (λ l w is h. labelled t operator class a b known is h new before after l (way t new before after operator class a b l w))
