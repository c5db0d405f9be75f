-- Task by task, the reductions of a derivation are listed.
use Rattle.std.proofs.Common.{◌≡◌, ℕ, zero, suc, ◌+◌, ◌-◌, ◌<◌, ◌≤◌, ◌⊎◌, inl, inr, Bool, true, false, if◌then◌else◌, Some, List, [], ◌∷◌, ◌++◌, refl, ap, sym, ◌∙◌, subst, append_assoc, length, take, drop, slice_get, arith, length-append, map, reverse}
use Rattle.sel_grammar.specs.declared.emission.Emitted.TheVariants.{Temporary}
use Rattle.std.proofs.lemmas.List.{map-append, length-map}
use Rattle.std.proofs.lemmas.Option.{slice_get_within}
use Rattle.sel_grammar.specs.declared.grammar.Grammar.{Grammar}
use Rattle.sel_grammar.specs.declared.grammar.Part.{Part}
use Rattle.sel_grammar.specs.Expansions.{Text, Emission, Emissions, by_template, value_or_none, filled, is_instruction, has_result}
use Rattle.sel_forest.specs.declared.forest.Node.{Node}
use Rattle.sel_forest.proofs.Matching.{some_same, some_none}
use Rattle.sel_forest.proofs.Roots.{slice_get-left, slice_get-right}
use Rattle.sel_forest.proofs.PlaceLemmas.{append-none}
use Rattle.sel_forest.specs.declared.walk.Goal.{Goal}
use Rattle.sel_grammar.specs.Fits.{rule_at}
use Rattle.sel_expand.specs.declared.places.Step.{Step}
use Rattle.sel_expand.specs.declared.places.Task.{Task}
use Rattle.sel_expand.specs.declared.places.Task.TheVariants.{Derive, Emit}
use Rattle.sel_expand.specs.declared.templates.Kind.{Kind}
use Rattle.sel_expand.specs.declared.templates.Kind.TheVariants.{Named, Unnamed, Fragment}
use Rattle.sel_expand.specs.Reductions.{Reduced}
use Rattle.sel_expand.specs.Running.{attribute_at, parts_at, emission_of, advance, run, nothing}
use Rattle.sel_expand.specs.Steps.{goals_at, step_at, HasCover}
use Rattle.sel_expand.proofs.Placing.{IsPartlyPlaced, placing_first, placing_emit, placing_derive, placing_end, number_left}
use Rattle.sel_expand.proofs.Emitting.{run-append}
use Rattle.sel_expand.specs.Values.{kind_of, next_by, value_by, line_by, IsAdded, text_at, filled_at, value_of, line_of, lines_of, AreTexts, IsListed, AreListed}

map-same : {A : Type 0} (f f' : ℕ → A) (xs : List ℕ) → ((k j : ℕ) → slice_get xs k ≡ Some j → f j ≡ f' j) → map f xs ≡ map f' xs
map-same f f' [] h = refl
map-same f f' (x ∷ xs) h = λ i. h 0 x refl i ∷ map-same f f' xs (λ k j e. h (suc k) j e) i

pub map-drop : {A : Type 0} (f : ℕ → A) (n : ℕ) (xs : List ℕ) → map f (drop n xs) ≡ drop n (map f xs)
map-drop f zero xs = refl
map-drop f (suc n) [] = refl
map-drop f (suc n) (x ∷ xs) = map-drop f n xs

pub map-take : {A : Type 0} (f : ℕ → A) (n : ℕ) (xs : List ℕ) → map f (take n xs) ≡ take n (map f xs)
map-take f zero xs = refl
map-take f (suc n) [] = refl
map-take f (suc n) (x ∷ xs) = ap (λ ys. f x ∷ ys) (map-take f n xs)

get-drop : (n k j : ℕ) (xs : List ℕ) → slice_get (drop n xs) k ≡ Some j → (m : ℕ) × (slice_get xs m ≡ Some j)
get-drop zero k j xs h = (k, h)
get-drop (suc n) k j [] h = absurd (some_none (sym h))
get-drop (suc n) k j (x ∷ xs) h = let (m, e) = get-drop n k j xs h in (suc m, e)

get-take : (n k j : ℕ) (xs : List ℕ) → slice_get (take n xs) k ≡ Some j → (m : ℕ) × (slice_get xs m ≡ Some j)
get-take zero k j xs h = absurd (some_none (sym h))
get-take (suc n) k j [] h = absurd (some_none (sym h))
get-take (suc n) zero j (x ∷ xs) h = (zero, h)
get-take (suc n) (suc k) j (x ∷ xs) h = let (m, e) = get-take n k j xs h in (suc m, e)

-- an item of a longer list is an old one or the new one
split-last : {A : Type 0} (xs : List A) (x y : A) (k : ℕ) → slice_get (xs ++ x ∷ []) k ≡ Some y → (slice_get xs k ≡ Some y) ⊎ ((k ≡ length xs) × (x ≡ y))
split-last [] x y zero h = inr (refl, some_same h)
split-last [] x y (suc k) h = absurd (some_none (sym h))
split-last (z ∷ xs) x y zero h = inl h
split-last (z ∷ xs) x y (suc k) h = go (split-last xs x y k h)
  where
    go : (slice_get xs k ≡ Some y) ⊎ ((k ≡ length xs) × (x ≡ y)) → (slice_get xs k ≡ Some y) ⊎ ((suc k ≡ suc (length xs)) × (x ≡ y))
    go (inl e) = inl e
    go (inr e) = inr (ap suc e.0, e.1)

pub text_at-more : (texts : List Text) (v : Text) (i : ℕ) → i < length texts → text_at texts i ≡ text_at (texts ++ v ∷ []) i
text_at-more texts v i h = ap value_or_none (sym (slice_get-left texts (v ∷ []) i h))

text_at-last : (texts : List Text) (v : Text) (i : ℕ) → i ≡ length texts → text_at (texts ++ v ∷ []) i ≡ v
text_at-last texts v i h = ap value_or_none (slice_get-right texts (v ∷ []) 0 i (omega arith))

module _ (g : Grammar) (nodes : List Node) where
  -- texts that agree on the kids
  same_filled : (texts more : List Text) (r : Reduced) → ((k j : ℕ) → slice_get r.kids k ≡ Some j → text_at texts j ≡ text_at more j) → filled_at g nodes texts r ≡ filled_at g nodes more r
  same_filled texts more r h = ap (λ x. filled x (attribute_at nodes r.own.at) r.own.next (parts_at g r.own.rule)) (map-same (text_at texts) (text_at more) r.kids h)

  same_value : (texts more : List Text) (r : Reduced) → ((k j : ℕ) → slice_get r.kids k ≡ Some j → text_at texts j ≡ text_at more j) → value_of g nodes texts r ≡ value_of g nodes more r
  same_value texts more r h = ap (value_by r.own.kind r.own.next) (same_filled texts more r h)

  same_line : (texts more : List Text) (r : Reduced) → ((k j : ℕ) → slice_get r.kids k ≡ Some j → text_at texts j ≡ text_at more j) → line_of g nodes texts r ≡ line_of g nodes more r
  same_line texts more r h = ap (line_by r.own.kind) (same_filled texts more r h)

  same_lines : (texts more : List Text) (rs : List Reduced) (n : ℕ) → ((i : ℕ) (r : Reduced) (k j : ℕ) → slice_get rs i ≡ Some r → slice_get r.kids k ≡ Some j → j < n)
      → ((j : ℕ) → j < n → text_at texts j ≡ text_at more j) → lines_of g nodes texts rs ≡ lines_of g nodes more rs
  same_lines texts more [] n below h = refl
  same_lines texts more (r ∷ rs) n below h =
      λ i. same_line texts more r (λ k j q. h j (below 0 r k j refl q)) i ++ same_lines texts more rs n (λ m x k j. below (suc m) x k j) h i

  lines-last : (texts : List Text) (rs : List Reduced) (r : Reduced) → lines_of g nodes texts (rs ++ r ∷ []) ≡ lines_of g nodes texts rs ++ line_of g nodes texts r
  lines-last texts [] r = sym (append-none (line_of g nodes texts r))
  lines-last texts (x ∷ rs) r = ap (λ y. line_of g nodes texts x ++ y) (lines-last texts rs r) ∙ sym (append_assoc (line_of g nodes texts x) (lines_of g nodes texts rs) (line_of g nodes texts r))

  module _ (step : Step) (next next' : ℕ) (s : Emissions) (rs new : List Reduced) (left after : List ℕ) (list : IsListed g nodes s rs left) (at : next ≡ s.next)
      (added : IsAdded g step next next' rs new left after) where
    abbrev texts : List Text
    texts = list.texts

    abbrev parts : List Part
    parts = parts_at g step.rule

    abbrev kids : List ℕ
    kids = drop (length left - step.kids) left

    abbrev one : Reduced
    one = record { own = record { rule = step.rule; kind = kind_of parts; at = step.at; next = next }; kids = kids }

    abbrev value : Text
    value = value_of g nodes texts one

    abbrev line : Text
    line = line_of g nodes texts one

    count : length s.values - step.kids ≡ length left - step.kids
    count = let e : length (map (text_at texts) left) ≡ length s.values = ap length list.values in ap (λ n. n - step.kids) (sym e ∙ length-map left (text_at texts))

    own : drop (length s.values - step.kids) s.values ≡ map (text_at texts) kids
    own = (λ j. drop (count j) (sym list.values j)) ∙ sym (map-drop (text_at texts) (length left - step.kids) left)

    front : take (length s.values - step.kids) s.values ≡ map (text_at texts) (take (length left - step.kids) left)
    front = (λ j. take (count j) (sym list.values j)) ∙ sym (map-take (text_at texts) (length left - step.kids) left)

    -- what the template emits, told by its kind
    abbrev told : Emission
    told = record { lines = s.lines ++ line; value = value; next = next_by (kind_of parts) next }

    emits : emission_of g nodes s step ≡ told
    emits =
        (λ j. by_template parts (attribute_at nodes step.at) (record { lines = s.lines; values = own j; next = sym at j }))
        ∙ go (is_instruction parts) (has_result parts) (filled_at g nodes texts one)
      where
        go : (b c : Bool) (f : Text)
            → ◌≡◌ {A = Emission} (if b then (if c then record { lines = s.lines ++ f; value = Temporary next ∷ []; next = next + 1 } else record { lines = s.lines ++ f; value = []; next = next }) else record { lines = s.lines; value = f; next = next })
            (record { lines = s.lines ++ line_by (if b then (if c then Named else Unnamed) else Fragment) f; value = value_by (if b then (if c then Named else Unnamed) else Fragment) next f; next = next_by (if b then (if c then Named else Unnamed) else Fragment) next })
        go true true f = refl
        go true false f = refl
        go false c f = λ j. record { lines = append-none s.lines j; value = f; next = next }

    abbrev longer : List Text
    longer = texts ++ value ∷ []

    agree : (i : ℕ) → i < length rs → text_at texts i ≡ text_at longer i
    agree i h = let e = list.are.long in text_at-more texts value i (omega arith)

    kids_inside : (k j : ℕ) → slice_get kids k ≡ Some j → j < length rs
    kids_inside k j h = let (m, e) = get-drop (length left - step.kids) k j left h in list.inside m j e

    own_agree : (k j : ℕ) → slice_get kids k ≡ Some j → text_at texts j ≡ text_at longer j
    own_agree k j h = agree j (kids_inside k j h)

    old_agree : (i : ℕ) (r : Reduced) → slice_get rs i ≡ Some r → (k j : ℕ) → slice_get r.kids k ≡ Some j → text_at texts j ≡ text_at longer j
    old_agree i r at k j h = let low = list.are.below i r k j at h in let within = slice_get_within rs i r at in agree j (omega arith)

    last_text : (i : ℕ) → i ≡ length rs → text_at longer i ≡ value
    last_text i h = let e = list.are.long in text_at-last texts value i (omega arith)

    are_longer : AreTexts g nodes (rs ++ one ∷ []) longer
    are_longer = record {
      long = let e = list.are.long in omega (arith, length-append texts (value ∷ []), length-append rs (one ∷ []));
      each = λ i r h. each i r (split-last rs one r i h);
      below = λ i r k j h q. below i r k j (split-last rs one r i h) q;
    }
      where
        each : (i : ℕ) (r : Reduced) → (slice_get rs i ≡ Some r) ⊎ ((i ≡ length rs) × (one ≡ r)) → text_at longer i ≡ value_of g nodes longer r
        each i r (inl h) = sym (agree i (slice_get_within rs i r h)) ∙ list.are.each i r h ∙ same_value texts longer r (old_agree i r h)
        each i r (inr (q, p)) = last_text i q ∙ same_value texts longer one own_agree ∙ ap (value_of g nodes longer) p

        below : (i : ℕ) (r : Reduced) (k j : ℕ) → (slice_get rs i ≡ Some r) ⊎ ((i ≡ length rs) × (one ≡ r)) → slice_get r.kids k ≡ Some j → j < i
        below i r k j (inl h) q = list.are.below i r k j h q
        below i r k j (inr (q, p)) h = let low = kids_inside k j (ap (λ (x : Reduced). slice_get x.kids k) p ∙ h) in omega arith

    listed_next : IsListed g nodes (advance g nodes s step) new after
    listed_next = record {
      texts = longer;
      are = subst (λ x. AreTexts g nodes x longer) (sym added.reductions_are) are_longer;
      lines = ap (lines_of g nodes longer) added.reductions_are ∙ lines-last longer rs one
          ∙ (λ j. sym (same_lines texts longer rs (length rs) low agree) j ++ sym (same_line texts longer one own_agree) j)
          ∙ ap (λ x. x ++ line) list.lines ∙ sym (ap (λ (e : Emission). e.lines) emits);
      inside = λ k j h. inside k j (split-last (take (length left - step.kids) left) (length rs) j k (ap (λ x. slice_get x k) (sym added.left_are) ∙ h));
      values = ap (map (text_at longer)) added.left_are ∙ map-append (text_at longer) (take (length left - step.kids) left) (length rs ∷ [])
          ∙ (λ j. sym (map-same (text_at texts) (text_at longer) (take (length left - step.kids) left) front_agree) j ++ last_text (length rs) refl j ∷ [])
          ∙ ap (λ x. x ++ value ∷ []) (sym front) ∙ sym (ap (λ (e : Emission). take (length s.values - step.kids) s.values ++ e.value ∷ []) emits);
    }
      where
        low : (i : ℕ) (r : Reduced) (k j : ℕ) → slice_get rs i ≡ Some r → slice_get r.kids k ≡ Some j → j < length rs
        low i r k j h q = let under = list.are.below i r k j h q in let within = slice_get_within rs i r h in omega arith

        front_agree : (k j : ℕ) → slice_get (take (length left - step.kids) left) k ≡ Some j → text_at texts j ≡ text_at longer j
        front_agree k j h = let (m, e) = get-take (length left - step.kids) k j left h in agree j (list.inside m j e)

        inside : (k j : ℕ) → (slice_get (take (length left - step.kids) left) k ≡ Some j) ⊎ ((k ≡ length (take (length left - step.kids) left)) × (length rs ≡ j)) → j < length new
        inside k j (inl h) = let (m, e) = get-take (length left - step.kids) k j left h in let within = list.inside m j e in
            omega (arith, length-append rs (one ∷ []), ap length added.reductions_are)
        inside k j (inr (q, p)) = omega (arith, length-append rs (one ∷ []), ap length added.reductions_are)

    next_is : next' ≡ (advance g nodes s step).next
    next_is = added.next_is ∙ sym (ap (λ (e : Emission). e.next) emits)

abbrev added_one : Grammar → Step → ℕ → List ℕ → Reduced
added_one g step next left = record { own = record { rule = step.rule; kind = kind_of (parts_at g step.rule); at = step.at; next = next }; kids = drop (length left - step.kids) left }

next_small : (g : Grammar) (step : Step) (next next' : ℕ) (rs new : List Reduced) (left after : List ℕ) → IsAdded g step next next' rs new left after → next' ≤ next + 1
next_small g step next next' rs new left after added = subst (λ n. n ≤ next + 1) (sym added.next_is) (go (kind_of (parts_at g step.rule)))
  where
    go : (k : Kind) → next_by k next ≤ next + 1
    go Named = omega arith
    go Unnamed = omega arith
    go Fragment = omega arith

-- nothing is listed yet
listed_first : (g : Grammar) (nodes : List Node) (rs : List Reduced) (left : List ℕ) → rs ≡ [] → left ≡ [] → IsListed g nodes nothing rs left
listed_first g nodes rs left e h = record {
  texts = [];
  are = subst (λ x. AreTexts g nodes x []) (sym e) (record { long = refl; each = λ i r q. absurd (some_none (sym q)); below = λ i r k j q p. absurd (some_none (sym q)) });
  lines = ap (lines_of g nodes []) e;
  inside = λ k j q. absurd (some_none (sym (ap (λ x. slice_get x k) (sym h) ∙ q)));
  values = ap (map (text_at [])) h;
}

module _ (g : Grammar) (nodes : List Node) (root : Goal) (rules : List ℕ) where
  -- steps of a derivation with this list, of which so many are made and listed
  pub record IsPartlyListed (rs : List Reduced) (left : List ℕ) (next : ℕ) (rest : List ℕ) (tasks : List Task) : Type 0 where
    pub steps : List Step
    pub placed : IsPartlyPlaced g nodes root rules steps rest tasks
    pub listed : IsListed g nodes (run g nodes nothing steps) rs left
    pub next_is : next ≡ (run g nodes nothing steps).next
    pub small : next ≤ length rs + 1

  pub listing_first : (rs : List Reduced) (left : List ℕ) (tasks before : List Task) → HasCover g nodes root rules → rs ≡ [] → left ≡ [] → before ≡ [] → tasks ≡ before ++ Derive root ∷ [] → IsPartlyListed rs left 1 rules tasks
  listing_first rs left tasks before cover e h b t = record {
    steps = [];
    placed = subst (λ x. IsPartlyPlaced g nodes root rules [] rules x) (sym (t ∙ ap (λ x. x ++ Derive root ∷ []) b)) (placing_first g nodes root rules cover);
    listed = listed_first g nodes rs left e h;
    next_is = refl;
    small = omega arith;
  }

  module _ (rs : List Reduced) (left : List ℕ) (next : ℕ) (rest : List ℕ) (tasks old : List Task) (p : IsPartlyListed rs left next rest old) where
    pub listing_emit : (step : Step) (new : List Reduced) (after : List ℕ) (next' : ℕ) → old ≡ tasks ++ Emit step ∷ [] → IsAdded g step next next' rs new left after → IsPartlyListed new after next' rest tasks
    listing_emit step new after next' e added =
        let ran : run g nodes nothing (p.steps ++ step ∷ []) ≡ advance g nodes (run g nodes nothing p.steps) step = run-append g nodes nothing p.steps (step ∷ []) in
        record {
          steps = p.steps ++ step ∷ [];
          placed = placing_emit g nodes root rules p.steps rest tasks old step e p.placed;
          listed = subst (λ (x : Emissions). IsListed g nodes x new after) (sym ran) (listed_next g nodes step next next' (run g nodes nothing p.steps) rs new left after p.listed p.next_is added);
          next_is = next_is g nodes step next next' (run g nodes nothing p.steps) rs new left after p.listed p.next_is added ∙ ap (λ (x : Emissions). x.next) (sym ran);
          small = let low = next_small g step next next' rs new left after added in let more = ap length added.reductions_are in let s = p.small in omega (arith, low, more, s, length-append rs (added_one g step next left ∷ []));
        }

    pub listing_derive : (goal : Goal) (number : ℕ) (others : List ℕ) (new : List Task) → old ≡ tasks ++ Derive goal ∷ [] → rest ≡ number ∷ others
        → new ≡ (tasks ++ Emit (step_at g nodes number goal.at) ∷ []) ++ map Derive (reverse (goals_at (rule_at g number) nodes goal.at)) → IsPartlyListed rs left next others new
    listing_derive goal number others new e split pushed = record {
      steps = p.steps;
      placed = placing_derive g nodes root rules p.steps rest tasks old goal e p.placed number others new split pushed;
      listed = p.listed;
      next_is = p.next_is;
      small = p.small;
    }

    pub none_left : (goal : Goal) → old ≡ tasks ++ Derive goal ∷ [] → rest ≡ [] → ⊥
    none_left goal e none = number_left g nodes root rules p.steps rest tasks old goal e p.placed none

  pub listing_end : (rs : List Reduced) (left : List ℕ) (next : ℕ) (rest : List ℕ) (tasks : List Task) → tasks ≡ [] → IsPartlyListed rs left next rest tasks → AreListed g nodes root rules rs left
  listing_end rs left next rest tasks none p = record { steps = p.steps; placed = placing_end g nodes root rules p.steps rest tasks none p.placed; listed = p.listed }
