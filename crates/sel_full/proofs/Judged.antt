-- Tables judged: what is found at each state and each number.
use Rattle.std.proofs.Common.{◌≡◌, ℕ, zero, suc, ◌+◌, ◌<◌, ◌≤◌, ◌⊎◌, inl, inr, Option, Some, None, List, [], ◌∷◌, All, refl, ap, sym, ◌∙◌, subst, slice_get, get_or, length, take, arith}
use Rattle.std.specs.Option.{option_flatten}
use Rattle.std.proofs.lemmas.List.Elements.{All-head, All-tail}
use Rattle.std.proofs.lemmas.Option.{slice_get_within, slice_get-get_or}
use Rattle.sel_normal.specs.NormalForms.{NormalForm}
use Rattle.sel_normal.proofs.Steps.{some_same, some_none}
use Rattle.sel_items.specs.declared.items.Item.{Item}
use Rattle.sel_items.specs.declared.items.Items.{Items}
use Rattle.sel_items.specs.Entries.{ItemRow, item_at}
use Rattle.sel_items.specs.Follows.{NodeKey, Follows}
use Rattle.sel_items.proofs.ItemLaws.{follows_is_one}
use Rattle.sel_full.specs.declared.table.Table.{Table}
use Rattle.sel_full.specs.Builds.{IsDearEntry}
use Rattle.sel_full.specs.Forms.{IsFormEntry, IsFormState, HasForm}
use Rattle.sel_full.specs.Judging.{HasEntry, IsEarlier, IsWrongState, IsWrongNumber, IsFirstOf, IsWrongNext, AreApart}
use Rattle.sel_full.specs.Numbering.{AreNumbers, IsNumberFor}
use Rattle.sel_full.specs.Reach.{IsEmptySet}
use Rattle.sel_full.specs.Tables.{IsLawfulTable, AllDiffer, all_keys}
use Rattle.sel_full.specs.Taking.{AreKidStates}
use Rattle.sel_full.proofs.Kept.{cheap_set}
use Rattle.sel_full.proofs.ListPlaces.{get_taken, within_get}

pub all_at : {A : Type 0} (P : A → Type 0) (xs : List A) (k : ℕ) (x : A) → All P xs → slice_get xs k ≡ Some x → P x
all_at P [] k x h at = absurd (some_none (sym at))
all_at P (y ∷ xs) zero x h at = subst P (some_same at) (All-head P y xs h)
all_at P (y ∷ xs) (suc k) x h at = all_at P xs k x (All-tail P y xs h) at

pub taken_get : {A : Type 0} (xs : List A) (k j : ℕ) (x : A) → slice_get (take k xs) j ≡ Some x → (j < k) × (slice_get xs j ≡ Some x)
taken_get [] zero j x at = absurd (some_none (sym at))
taken_get [] (suc k) j x at = absurd (some_none (sym at))
taken_get (y ∷ xs) zero j x at = absurd (some_none (sym at))
taken_get (y ∷ xs) (suc k) zero x at = (omega arith, at)
taken_get (y ∷ xs) (suc k) (suc j) x at = let (l, there) = taken_get xs k j x at in (omega arith, there)

pub taken_length : {A : Type 0} (xs : List A) (k : ℕ) → k ≤ length xs → length (take k xs) ≡ k
taken_length xs zero l = refl
taken_length [] (suc k) l = absurd (omega arith)
taken_length (x ∷ xs) (suc k) l = let e = taken_length xs k (omega arith) in omega arith

last : (j k : ℕ) → j < k + 1 → (j < k) ⊎ (j ≡ k)
last j k h = grind arith

-- the states that were gathered, and the next one
module _ (xs states : List Items) (k : ℕ) (i : Items) (are : states ≡ take k xs) (at : slice_get xs k ≡ Some i) where
  pub gathered_length : length states ≡ k
  gathered_length = ap length are ∙ taken_length xs k (let w = slice_get_within xs k i at in omega arith)

  pub wrong_here : IsWrongNext states i → IsWrongState xs (length states)
  wrong_here h = (i, subst (λ n. slice_get xs n ≡ Some i) (sym gathered_length) at, go h)
    where
      go : IsWrongNext states i → ((length states ≡ 0) × HasEntry i) ⊎ IsEarlier xs (length states) i
      go (inl h) = inl h
      go (inr (j, there)) = let (l, there') = taken_get xs k j i (subst (λ ys. slice_get ys j ≡ Some i) are there) in inr (j, subst (λ n. j < n) (sym gathered_length) l, there')

  wrong_next : IsWrongState xs k → IsWrongNext states i
  wrong_next (i', at', h) = go h
    where
      same : i' ≡ i
      same = some_same (sym at' ∙ at)

      go : ((k ≡ 0) × HasEntry i') ⊎ IsEarlier xs k i' → IsWrongNext states i
      go (inl (e, entry)) = inl (gathered_length ∙ e, subst HasEntry same entry)
      go (inr (j, l, there)) = inr (j, subst (λ ys. slice_get ys j ≡ Some i) (sym are) (get_taken xs k j i l (there ∙ ap Some same)))

  pub right_more : (IsWrongNext states i → ⊥) → ((j : ℕ) → j < k → IsWrongState xs j → ⊥) → (j : ℕ) → j < k + 1 → IsWrongState xs j → ⊥
  right_more none before j l h = go (last j k l)
    where
      go : (j < k) ⊎ (j ≡ k) → ⊥
      go (inl l) = before j l h
      go (inr e) = none (wrong_next (subst (IsWrongState xs) e h))

pub all_right : (xs states : List Items) (k : ℕ) → length xs ≤ k → ((j : ℕ) → j < k → IsWrongState xs j → ⊥) → (j : ℕ) → IsWrongState xs j → ⊥
all_right xs states k l before j (i, at, h) = before j (let w = slice_get_within xs j i at in omega arith) (i, at, h)

-- entries of the form are cheap
entry_cheap : (rules : ℕ) (row : ItemRow) (n : ℕ) → All (IsFormEntry rules) row → IsDearEntry (item_at row n) → ⊥
entry_cheap rules row n all dear = go (slice_get row n) refl
  where
    go : (o : Option (Option Item)) → slice_get row n ≡ o → ⊥
    go None e = subst IsDearEntry (ap option_flatten e) dear
    go (Some None) e = subst IsDearEntry (ap option_flatten e) dear
    go (Some (Some item)) e = (all_at (IsFormEntry rules) row n (Some item) all e).cheap (subst IsDearEntry (ap option_flatten e) dear)

module _ (normal : NormalForm) (t : Table) (form : HasForm normal t) where
  state_at : (k : ℕ) (i : Items) → slice_get t.states k ≡ Some i → IsFormState normal i
  state_at k i at = all_at (IsFormState normal) t.states k i form.states at

  pub kid_states : (states : List Items) → states ≡ t.states → AreKidStates normal states
  kid_states states e i (k, at) =
      let s = state_at k i (subst (λ xs. slice_get xs k ≡ Some i) e at) in
      cheap_set normal i s.long (λ (n, dear). entry_cheap (length normal.rules) i.entries n s.entries dear)

  module _ (right : (k : ℕ) → IsWrongState t.states k → ⊥) where
    differ : AllDiffer t.states
    differ j k i at at' = go (order j k)
      where
        order : (j k : ℕ) → (j < k) ⊎ ((k < j) ⊎ (j ≡ k))
        order j k = grind arith

        go : (j < k) ⊎ ((k < j) ⊎ (j ≡ k)) → j ≡ k
        go (inl l) = absurd (right k (i, at', inr (j, l, at)))
        go (inr (inl l)) = absurd (right j (i, at, inr (k, l, at')))
        go (inr (inr e)) = e

    empty : (i : Items) × (slice_get t.states 0 ≡ Some i) × IsEmptySet normal i
    empty = let (i, at) = within_get t.states 0 (let s = form.some in omega arith) in (i, at, record { long = (state_at 0 i at).long; none = λ n. none i n at (item_at i.entries n) refl })
      where
        none : (i : Items) (n : ℕ) → slice_get t.states 0 ≡ Some i → (o : Option Item) → item_at i.entries n ≡ o → item_at i.entries n ≡ None
        none i n at None e = e
        none i n at (Some item) e = absurd (right 0 (i, at, inl (refl, (n, item, e))))

    module _ (own : List (Option ℕ)) (numbers : AreNumbers normal t.states own (all_keys normal t.states)) where
      -- a number that isn't apart from the one that was computed
      same : (p n : ℕ) → slice_get t.numbers p ≡ Some n → (AreApart own t.numbers p → ⊥) → slice_get own p ≡ Some (Some n)
      same p n at never = go (slice_get own p) refl
        where
          equal : (m n : ℕ) → (m ≡ n) ⊎ (m ≡ n → ⊥)
          equal m n = grind arith

          some_some : {a b : ℕ} → ◌≡◌ {A = Option (Option ℕ)} (Some (Some a)) (Some (Some b)) → a ≡ b
          some_some e = cc

          some_nothing : {b : ℕ} → ◌≡◌ {A = Option (Option ℕ)} (Some None) (Some (Some b)) → ⊥
          some_nothing e = cc

          nothing : {b : ℕ} → ◌≡◌ {A = Option (Option ℕ)} None (Some (Some b)) → ⊥
          nothing e = cc

          number : (m : ℕ) → slice_get own p ≡ Some (Some m) → (m ≡ n) ⊎ (m ≡ n → ⊥) → slice_get own p ≡ Some (Some n)
          number m e (inl q) = e ∙ ap (λ m. Some (Some m)) q
          number m e (inr other) = absurd (never (n, at, λ f. other (some_some (sym e ∙ f))))

          go : (o : Option (Option ℕ)) → slice_get own p ≡ o → slice_get own p ≡ Some (Some n)
          go None e = absurd (never (n, at, λ f. nothing (sym e ∙ f)))
          go (Some None) e = absurd (never (n, at, λ f. some_nothing (sym e ∙ f)))
          go (Some (Some m)) e = number m e (equal m n)

      pub lawful : ((p : ℕ) → AreApart own t.numbers p → ⊥) → IsLawfulTable normal t.states t.numbers
      lawful never = record {
        long = λ k i at. (state_at k i at).long;
        empty = empty;
        differ = differ;
        as_many = form.as_many;
        follow = λ n number key there at. numbers.follow n (Some number) key there (same n number at (never n));
      }

      apart_wrong : (p : ℕ) → AreApart own t.numbers p → IsWrongNumber normal t p
      apart_wrong p (n, at, other) =
          let (key, there) = within_get (all_keys normal t.states) p (let w = slice_get_within t.numbers p n at in let m = form.as_many in omega arith) in
          let (o, found) = within_get own p (let w = slice_get_within (all_keys normal t.states) p key there in let m = numbers.as_many in omega arith) in
          record { key = key; number = n; there = there; numbered = at; wrong = λ i state f. wrong i key o found state f (numbers.follow p o key there found) }
        where
          wrong : (i : Items) (key : NodeKey) (o : Option ℕ) → slice_get own p ≡ Some o → slice_get t.states n ≡ Some i → Follows normal key i → IsNumberFor normal t.states key o → ⊥
          wrong i key None found state f nowhere = nowhere.none i f (n, state)
          wrong i key (Some m) found state f (j, state', g) =
              other (found ∙ ap (λ m. Some (Some m)) (differ m n i (state' ∙ ap Some (follows_is_one normal key j i g f)) state))

      pub first_wrong : (p : ℕ) → IsFirstOf (AreApart own t.numbers) p → IsFirstOf (IsWrongNumber normal t) p
      first_wrong p first = record {
        here = apart_wrong p first.here;
        before = λ j l w. let (i, state, f) = numbers.follow j (Some w.number) w.key w.there (same j w.number w.numbered (first.before j l)) in w.wrong i state f;
      }

-- numbers compared, place by place
pub apart_more : (own : List (Option ℕ)) (numbers : List ℕ) (k : ℕ) (d : Option ℕ) (e : ℕ) → length own ≡ length numbers → k < length numbers → get_or own k d ≡ Some (get_or numbers k e) → ((p : ℕ) → p < k → AreApart own numbers p → ⊥) → (p : ℕ) → p < k + 1 → AreApart own numbers p → ⊥
apart_more own numbers k d e long within same before p l (m, there, other) = go (last p k l)
  where
    at : slice_get own k ≡ Some (get_or own k d)
    at = slice_get-get_or own k d (omega arith)

    at' : slice_get numbers k ≡ Some (get_or numbers k e)
    at' = slice_get-get_or numbers k e within

    go : (p < k) ⊎ (p ≡ k) → ⊥
    go (inl l) = before p l (m, there, other)
    go (inr q) = other (ap (slice_get own) q ∙ (at ∙ ap Some (same ∙ (sym at' ∙ (ap (slice_get numbers) (sym q) ∙ there)))))

pub none_apart : (own : List (Option ℕ)) (numbers : List ℕ) (k : ℕ) → length numbers ≤ k → ((p : ℕ) → p < k → AreApart own numbers p → ⊥) → (p : ℕ) → AreApart own numbers p → ⊥
none_apart own numbers k l before p (m, there, other) = before p (let w = slice_get_within numbers p m there in omega arith) (m, there, other)
