-- Where a budget is enough there are candidates, and what a drawn one is.
use Rattle.std.proofs.Common.{◌≡◌, ℕ, zero, suc, ◌+◌, ◌-◌, ◌%◌, ◌<◌, ◌≤◌, Bool, true, false, ◌&&◌, ◌==◌, cond, if◌then◌else◌, List, [], ◌∷◌, length, map, refl, ap, sym, ◌∙◌, subst, arith, Option, Some, None, slice_get, length-append}
use Rattle.std.specs.List.{filter, sum, count_by}
use Rattle.std.specs.Option.{option_map, option_and_then, unwrap_or}
use Rattle.std.proofs.lemmas.Bool.Decides.{nat_tests}
use Rattle.std.proofs.lemmas.List.Sums.{sum_by-cons}
use Rattle.rand_pcg.specs.Lcg.{Lcg}
use Rattle.sel_grammar.specs.declared.grammar.Grammar.{Grammar}
use Rattle.sel_grammar.specs.declared.grammar.Rule.{Rule}
use Rattle.sel_grammar.specs.Derivations.{Derivation, Deriv, Derivations, no_more, more, list, lists}
use Rattle.sel_grammar.specs.Fits.{leaves}
use Rattle.sel_grammar.specs.Limits.{IsWithinLimits}
use Rattle.sel_gen.specs.declared.choices.Choice.{Choice}
use Rattle.sel_gen.specs.Sizes.{is_usable, Builds, BuildAll, IsLeastSize, Sizes, size_at, AreLeastSizes, plus, rule_size}
use Rattle.sel_gen.specs.Made.{is_within, is_candidate, candidates, leaf_sizes, word, taken, shared}
use Rattle.sel_gen.specs.Drawing.{choice_of, is_open, nth_place}
use Rattle.sel_forest.proofs.Matching.{some_same, some_none}
use Rattle.sel_gen.proofs.Sums.{nat_le_is, nat_le_true, plus_parts}
use Rattle.sel_gen.proofs.Lowered.{sum_at, kids_is_sum, rule_size_of}
use Rattle.sel_gen.proofs.Picks.{count_is, nth_is}
use Rattle.sel_gen.proofs.Steps.{AreEnough}

-- items that pass a test
in_filter : {X : Type 0} (test : X → Bool) (xs : List X) (k : ℕ) (x : X) → slice_get (filter test xs) k ≡ Some x → test x ≡ true
in_filter test [] k x h = absurd (some_none (sym h))
in_filter test (y ∷ xs) k x h = go (test y) refl k h (λ k. in_filter test xs k x)
  where
    go : (b : Bool) → test y ≡ b → (k : ℕ) → slice_get (cond b (y ∷ filter test xs) (filter test xs)) k ≡ Some x → ((k : ℕ) → slice_get (filter test xs) k ≡ Some x → test x ≡ true) → test x ≡ true
    go true e zero h below = subst (λ z. test z ≡ true) (some_same h) e
    go true e (suc k) h below = below k h
    go false e k h below = below k h

some_in_filter : {X : Type 0} (test : X → Bool) (xs : List X) (k : ℕ) (x : X) → slice_get xs k ≡ Some x → test x ≡ true → 0 < length (filter test xs)
some_in_filter test [] k x h e = absurd (some_none (sym h))
some_in_filter test (y ∷ xs) zero x h e = subst (λ b. 0 < length (cond b (y ∷ filter test xs) (filter test xs))) (sym (ap test (some_same h) ∙ e)) (omega arith)
some_in_filter test (y ∷ xs) (suc k) x h e = go (test y) (some_in_filter test xs k x h e)
  where
    go : (b : Bool) → 0 < length (filter test xs) → 0 < length (cond b (y ∷ filter test xs) (filter test xs))
    go true below = omega arith
    go false below = below

pub some_get : {X : Type 0} (xs : List X) (k : ℕ) → k < length xs → (x : X) × (slice_get xs k ≡ Some x)
some_get [] k h = absurd (omega arith)
some_get (x ∷ xs) zero h = (x, refl)
some_get (x ∷ xs) (suc k) h = some_get xs k (omega arith)

and_parts : (a b : Bool) → (a && b) ≡ true → (a ≡ true) × (b ≡ true)
and_parts true b h = (refl, h)
and_parts false b h = cc

and_both : (a b : Bool) → a ≡ true → b ≡ true → (a && b) ≡ true
and_both true b h k = k
and_both false b h k = h

same_left : (a b : ℕ) → (a == b) ≡ true → a ≡ b
same_left a b h = grind (arith, nat_tests)

left_same : (a b : ℕ) → a ≡ b → (a == b) ≡ true
left_same a b h = grind (arith, nat_tests)

within_of : (o : Option ℕ) (b : ℕ) → is_within o b ≡ true → (k : ℕ) × (o ≡ Some k) × (k ≤ b)
within_of None b h = cc
within_of (Some k) b h = (k, refl, nat_le_is k b h)

-- what is known of a candidate
pub record IsCandidate (sizes : Sizes) (n b : ℕ) (rule : Rule) : Type 0 where
  pub left : rule.left ≡ n
  pub usable : is_usable rule.range ≡ true
  pub size : ℕ
  pub size_is : rule_size sizes rule ≡ Some size
  pub within : size ≤ b

pub candidate_is : (sizes : Sizes) (n b : ℕ) (rule : Rule) → is_candidate sizes n b rule ≡ true → IsCandidate sizes n b rule
candidate_is sizes n b rule h =
    let (left, w) = and_parts (rule.left == n) (is_usable rule.range && is_within (rule_size sizes rule) b) h in
    let (usable, inside) = and_parts (is_usable rule.range) (is_within (rule_size sizes rule) b) w in
    let (k, is, le) = within_of (rule_size sizes rule) b inside in
    record { left = same_left rule.left n left; usable = usable; size = k; size_is = is; within = le }

pub drawn_candidate : (g : Grammar) (sizes : Sizes) (n b k : ℕ) (rule : Rule) → slice_get (candidates g sizes n b) k ≡ Some rule → IsCandidate sizes n b rule
drawn_candidate g sizes n b k rule h = candidate_is sizes n b rule (in_filter (is_candidate sizes n b) g.rules k rule h)

-- the sizes of kids that are built are no more than the kids'
sums_built : (g : Grammar) (limit : ℕ) (sizes : Sizes) → AreLeastSizes g limit sizes → (ds : Derivations) (ns : List ℕ) → ((n : ℕ) (d : Derivation) → Builds g d n → length (list d) ≤ limit → (k : ℕ) × (size_at sizes n ≡ Some k) × (k ≤ length (list d)))
    → BuildAll g ds ns → length (lists ds) ≤ limit → (k : ℕ) × (sum_at sizes ns ≡ Some k) × (k ≤ length (lists ds))
sums_built g limit sizes least no_more [] each b h = (0, refl, omega arith)
sums_built g limit sizes least no_more (n ∷ ns) each b h = absurd b
sums_built g limit sizes least (more d ds) [] each b h = absurd b
sums_built g limit sizes least (more d ds) (n ∷ ns) each b h =
    let l = length-append (list d) (lists ds) in
    let (i, one, low) = each n d b.0 (omega arith) in
    let (j, others, less) = sums_built g limit sizes least ds ns each b.1 (omega arith) in
    (i + j, (λ t. plus (one t) (others t)), omega arith)

-- a nonterminal of the grammar has the size of each derivation from it, or less
least_at : (g : Grammar) (limit : ℕ) (sizes : Sizes) → AreLeastSizes g limit sizes → (n : ℕ) (d : Derivation) → n < length g.nonterminals → Builds g d n → length (list d) ≤ limit → (k : ℕ) × (size_at sizes n ≡ Some k) × (k ≤ length (list d))
least_at g limit sizes least n d inside b h = go (size_at sizes n) refl (least.least n inside)
  where
    go : (o : Option ℕ) → size_at sizes n ≡ o → IsLeastSize g limit n o → (k : ℕ) × (size_at sizes n ≡ Some k) × (k ≤ length (list d))
    go None e l = let x = l d b in absurd (omega arith)
    go (Some k) e l = (k, e, l.2 d b)

left_inside : (g : Grammar) → IsWithinLimits g → (n : ℕ) (d : Derivation) → Builds g d n → n < length g.nonterminals
left_inside g limits n (Deriv zero kids) (rule, at, left, w) = absurd (some_none (sym at))
left_inside g limits n (Deriv (suc r) kids) (rule, at, left, w) = subst (λ x. x < length g.nonterminals) left (limits.lefts r rule at)

-- a size that is no more than the budget is that of a candidate
pub some_candidate : (g : Grammar) (limit : ℕ) (sizes : Sizes) (n b k : ℕ) → IsWithinLimits g → AreLeastSizes g limit sizes → size_at sizes n ≡ Some k → k ≤ b → 0 < length (candidates g sizes n b)
some_candidate g limit sizes n b k limits least at le =
    let inside : n < length g.nonterminals = subst (λ x. n < x) least.long (size_within sizes n k at) in
    go (subst (IsLeastSize g limit n) at (least.least n inside))
  where
    size_within : (sizes : Sizes) (n k : ℕ) → size_at sizes n ≡ Some k → n < length sizes
    size_within [] n k h = absurd (some_none (sym h))
    size_within (x ∷ sizes) zero k h = omega arith
    size_within (x ∷ sizes) (suc n) k h = let i = size_within sizes n k h in omega arith

    built : (d : Derivation) → Builds g d n → length (list d) ≤ limit → length (list d) ≤ b → 0 < length (candidates g sizes n b)
    built (Deriv zero kids) (rule, at, left, w) h e = absurd (some_none (sym at))
    built (Deriv (suc r) kids) (rule, at, left, w) h e =
        let (j, sum, low) = sums_built g limit sizes least kids (leaves rule.pattern) (λ m d c s. least_at g limit sizes least m d (left_inside g limits m d c) c s) w.1 (omega arith) in
        let size : rule_size sizes rule ≡ Some (j + 1) = ap (option_map (λ k. k + 1)) (kids_is_sum sizes rule.pattern ∙ sum) in
        let inside : is_within (rule_size sizes rule) b ≡ true = ap (λ o. is_within o b) size ∙ nat_le_true (j + 1) b (omega arith) in
        some_in_filter (is_candidate sizes n b) g.rules r rule at
        (and_both (rule.left == n) (is_usable rule.range && is_within (rule_size sizes rule) b) (left_same rule.left n left) (and_both (is_usable rule.range) (is_within (rule_size sizes rule) b) w.0 inside))

    go : IsLeastSize g limit n (Some k) → 0 < length (candidates g sizes n b)
    go (low, (d, builds, count), all) = built d builds (omega arith) (omega arith)

-- a drawn candidate, by its place
pub record IsPlaced (g : Grammar) (sizes : Sizes) (n b word place : ℕ) : Type 0 where
  pub rule : Rule
  pub there : slice_get g.rules place ≡ Some rule
  pub drawn : slice_get (candidates g sizes n b) (word % length (candidates g sizes n b)) ≡ Some rule
  pub is : IsCandidate sizes n b rule

pub placed : (g : Grammar) (sizes : Sizes) (n b word place : ℕ) (choices : List Choice) → choices ≡ map (choice_of sizes) g.rules → 0 < length (candidates g sizes n b)
    → place ≡ nth_place (is_open n b) choices (word % count_by (is_open n b) choices) → IsPlaced g sizes n b word place
placed g sizes n b word place choices are some at =
    let all = length (candidates g sizes n b) in
    let count : count_by (is_open n b) choices ≡ length (candidates g sizes n b) = ap (count_by (is_open n b)) are ∙ count_is sizes n b g.rules in
    let inside : word % length (candidates g sizes n b) < length (candidates g sizes n b) = omega arith in
    let (rule, drawn) = some_get (candidates g sizes n b) (word % length (candidates g sizes n b)) inside in
    record {
      rule = rule;
      there = ap (slice_get g.rules) (at ∙ (λ i. nth_place (is_open n b) (are i) (word % count i))) ∙ nth_is sizes n b g.rules (word % length (candidates g sizes n b)) inside ∙ drawn;
      drawn = drawn;
      is = drawn_candidate g sizes n b (word % length (candidates g sizes n b)) rule drawn;
    }

-- what is kept of it has its size
pub kept_size : (g : Grammar) (sizes : Sizes) (place size : ℕ) (rule : Rule) (choices : List Choice) → choices ≡ map (choice_of sizes) g.rules → slice_get g.rules place ≡ Some rule → is_usable rule.range ≡ true → rule_size sizes rule ≡ Some size
    → unwrap_or (option_and_then (λ (c : Choice). c.size) (slice_get choices place)) 0 ≡ size
kept_size g sizes place size rule choices are there usable is =
    ap (λ xs. unwrap_or (option_and_then (λ (c : Choice). c.size) (slice_get xs place)) 0) are
    ∙ ap (λ o. unwrap_or (option_and_then (λ (c : Choice). c.size) o) 0) (mapped g.rules place there)
    ∙ ap (λ (u : Bool). unwrap_or (if u then rule_size sizes rule else None) 0) usable
    ∙ ap (λ o. unwrap_or o 0) is
  where
    mapped : (rules : List Rule) (place : ℕ) → slice_get rules place ≡ Some rule → slice_get (map (choice_of sizes) rules) place ≡ Some (choice_of sizes rule)
    mapped [] place h = absurd (some_none (sym h))
    mapped (x ∷ rules) zero h = ap (λ r. Some (choice_of sizes r)) (some_same h)
    mapped (x ∷ rules) (suc place) h = mapped rules place h

pub placed_size : (g : Grammar) (sizes : Sizes) (n b word place : ℕ) (choices : List Choice) → choices ≡ map (choice_of sizes) g.rules → (p : IsPlaced g sizes n b word place)
    → unwrap_or (option_and_then (λ (c : Choice). c.size) (slice_get choices place)) 0 ≡ (p.is).size
placed_size g sizes n b word place choices are p = kept_size g sizes place (p.is).size p.rule choices are p.there (p.is).usable (p.is).size_is

-- the shares of a rule's leaves
leaf_sum : (sizes : Sizes) (ns : List ℕ) (k : ℕ) → sum_at sizes ns ≡ Some k → sum (map (λ n. unwrap_or (size_at sizes n) 0) ns) ≡ k
leaf_sum sizes [] k h = some_same h
leaf_sum sizes (n ∷ ns) k h =
    let (a, b, x, y, e) = plus_parts (size_at sizes n) (sum_at sizes ns) k h in
    let i = leaf_sum sizes ns b y in
    let o : unwrap_or (size_at sizes n) 0 ≡ a = ap (λ o. unwrap_or o 0) x in
    omega (arith, sum_by-cons (λ x. x) (unwrap_or (size_at sizes n) 0) (map (λ n. unwrap_or (size_at sizes n) 0) ns))

pub leaf_sum_is : (sizes : Sizes) (rule : Rule) (size : ℕ) → rule_size sizes rule ≡ Some size → sum (leaf_sizes sizes rule.pattern) + 1 ≡ size
leaf_sum_is sizes rule size h = let (kids, at, e) = rule_size_of sizes rule size h in let s = leaf_sum sizes (leaves rule.pattern) kids at in omega arith

taken_most : (others : List ℕ) (spare : ℕ) (words : Lcg) → (taken others spare words).0 ≤ spare
taken_most [] spare words = omega arith
taken_most (x ∷ others) spare words = let h : word words % (spare + 1) < spare + 1 = omega arith in omega arith

pub shared_long : (xs : List ℕ) (spare : ℕ) (words : Lcg) → length (shared xs spare words).0 ≡ length xs
shared_long [] spare words = refl
shared_long (x ∷ xs) spare words = ap suc (shared_long xs (spare - (taken xs spare words).0) (taken xs spare words).1)

pub shared_sum : (xs : List ℕ) (spare : ℕ) (words : Lcg) → sum (shared xs spare words).0 ≤ sum xs + spare
shared_sum [] spare words = omega arith
shared_sum (x ∷ xs) spare words =
    let m = (taken xs spare words).0 in
    let le = taken_most xs spare words in
    let h = shared_sum xs (spare - (taken xs spare words).0) (taken xs spare words).1 in
    omega (arith, sum_by-cons (λ x. x) (x + (taken xs spare words).0) (shared xs (spare - (taken xs spare words).0) (taken xs spare words).1).0, sum_by-cons (λ x. x) x xs)

pub shared_enough : (sizes : Sizes) (ns : List ℕ) (k spare : ℕ) (words : Lcg) → sum_at sizes ns ≡ Some k → AreEnough sizes ns (shared (map (λ n. unwrap_or (size_at sizes n) 0) ns) spare words).0
shared_enough sizes [] k spare words h = tt
shared_enough sizes (n ∷ ns) k spare words h =
    let (a, b, x, y, e) = plus_parts (size_at sizes n) (sum_at sizes ns) k h in
    let m = taken (map (λ n. unwrap_or (size_at sizes n) 0) ns) spare words in
    let o : unwrap_or (size_at sizes n) 0 ≡ a = ap (λ o. unwrap_or o 0) x in
    ((a, x, omega arith), shared_enough sizes ns b (spare - m.0) m.1 y)
