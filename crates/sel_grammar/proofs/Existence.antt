-- Where free chain rules make no cycle, a tree that has a derivation has a best one.
use Rattle.std.proofs.Common.{◌≡◌, ℕ, ◌⊎◌, inl, inr, List, [], ◌∷◌, ◌++◌, refl, subst, sym, Option, Some, None, Bool, true, false, if◌then◌else◌, ◌==◌}
use Rattle.sel_grammar.specs.declared.grammar.Grammar.{Grammar}
use Rattle.sel_grammar.specs.declared.grammar.Rule.{Rule}
use Rattle.sel_grammar.specs.declared.grammar.Pattern.{Pattern, Leaf, Nullary, Unary', Binary', end_of-Pattern, more_of-Pattern}
use Rattle.sel_grammar.specs.PlainTrees.{PlainTree, Node0, Node1, Node2, attribute_of}
use Rattle.sel_grammar.specs.Fits.{leaves, fits, rule_at, subtrees, joined, in_range}
use Rattle.sel_grammar.specs.Derivations.{Derivation, Derivations, no_more, more, DeriveAll}
use Rattle.sel_grammar.specs.Chains.{HasNoFreeCycle}
use Rattle.sel_grammar.specs.Best.{HasNone, IsBest}
use Rattle.sel_grammar.specs.Firsts.{IsFirst}
use Rattle.sel_grammar.specs.Laws.{BestExists}
use Rattle.sel_grammar.proofs.Firsts.{IsBest-first}
use Rattle.sel_grammar.proofs.Closure.{IsOperator, Outcome, some_same, some_none}
use Rattle.sel_grammar.proofs.FreshChains.{first_or_none}

abbrev Each : (PlainTree → Type 0) → List PlainTree → Type 0
Each P [] = Unit {0}
Each P (t ∷ ts) = P t × Each P ts

-- of each tree below the root
abbrev Below : (PlainTree → Type 0) → PlainTree → Type 0
Below P (Node0 op a) = Unit {0}
Below P (Node1 op a t) = P t × Below P t
Below P (Node2 op a t u) = P t × Below P t × (P u × Below P u)

Each-append : (P : PlainTree → Type 0) (ts us : List PlainTree) → Each P ts → Each P us → Each P (ts ++ us)
Each-append P [] us h k = k
Each-append P (t ∷ ts) us h k = (h.0, Each-append P ts us h.1 k)

-- the subtrees under a pattern are the tree itself or below it
each_subtree : (P : PlainTree → Type 0) (p : Pattern) (t : PlainTree) (ts : List PlainTree) → (((m : ℕ) → p ≡ Leaf m → ⊥) ⊎ P t) → Below P t → subtrees p t ≡ Some ts → Each P ts
each_subtree P (Leaf n) t ts (inl op) b h = absurd (op n refl)
each_subtree P (Leaf n) t ts (inr here) b h = subst (λ x. Each P x) (some_same h) (here, tt)
each_subtree P (Nullary o) (Node0 op a) ts here b h = go (o == op) h
  where
    go : (c : Bool) → (if c then Some [] else None) ≡ Some ts → Each P ts
    go true h = subst (λ x. Each P x) (some_same h) tt
    go false h = absurd (some_none (sym h))
each_subtree P (Nullary o) (Node1 op a t) ts here b h = absurd (some_none (sym h))
each_subtree P (Nullary o) (Node2 op a t u) ts here b h = absurd (some_none (sym h))
each_subtree P (Unary' o s (more_of-Pattern p end_of-Pattern)) (Node0 op a) ts here b h = absurd (some_none (sym h))
each_subtree P (Unary' o s (more_of-Pattern p end_of-Pattern)) (Node1 op a t) ts here b h = go (o == op) h (λ e. each_subtree P p t ts (inr b.0) b.1 e)
  where
    go : (c : Bool) → (if c then subtrees p t else None) ≡ Some ts → (subtrees p t ≡ Some ts → Each P ts) → Each P ts
    go true h k = k h
    go false h k = absurd (some_none (sym h))
each_subtree P (Unary' o s (more_of-Pattern p end_of-Pattern)) (Node2 op a t u) ts here b h = absurd (some_none (sym h))
each_subtree P (Binary' o s (more_of-Pattern p end_of-Pattern) s' (more_of-Pattern q end_of-Pattern)) (Node0 op a) ts here b h = absurd (some_none (sym h))
each_subtree P (Binary' o s (more_of-Pattern p end_of-Pattern) s' (more_of-Pattern q end_of-Pattern)) (Node1 op a t) ts here b h = absurd (some_none (sym h))
each_subtree P (Binary' o s (more_of-Pattern p end_of-Pattern) s' (more_of-Pattern q end_of-Pattern)) (Node2 op a t u) ts here b h =
    go (o == op) (subtrees p t) (subtrees q u) refl refl h (λ ts e. each_subtree P p t ts (inr b.0) b.1 e) (λ ts e. each_subtree P q u ts (inr (b.2).0) (b.2).1 e)
  where
    go : (c : Bool) (x y : Option (List PlainTree)) → subtrees p t ≡ x → subtrees q u ≡ y → (if c then joined x y else None) ≡ Some ts
        → ((ts : List PlainTree) → subtrees p t ≡ Some ts → Each P ts) → ((ts : List PlainTree) → subtrees q u ≡ Some ts → Each P ts) → Each P ts
    go false x y e f h k l = absurd (some_none (sym h))
    go true None y e f h k l = absurd (some_none (sym h))
    go true (Some xs) None e f h k l = absurd (some_none (sym h))
    go true (Some xs) (Some ys) e f h k l = subst (λ x. Each P x) (some_same h) (Each-append P xs ys (k xs e) (l ys f))

pub fits_subtrees : (rule : Rule) (t : PlainTree) (ts : List PlainTree) → fits rule t ≡ Some ts → subtrees rule.pattern t ≡ Some ts
fits_subtrees rule t ts h = go (in_range rule.range (attribute_of t)) h
  where
    go : (b : Bool) → (if b then subtrees rule.pattern t else None) ≡ Some ts → subtrees rule.pattern t ≡ Some ts
    go true h = h
    go false h = absurd (some_none (sym h))

-- from each nonterminal there is a best derivation, or none
abbrev IsKnown : Grammar → PlainTree → Type 0
IsKnown g t = (n : ℕ) → ((d : Derivation) × IsFirst g d n t) ⊎ HasNone g n t

outcome : (g : Grammar) (ns : List ℕ) (ts : List PlainTree) → Each (IsKnown g) ts → Outcome g ns ts
outcome g [] [] k = inl (no_more, tt)
outcome g [] (t ∷ ts) k = inr un
  where
    un : (es : Derivations) → DeriveAll g es [] (t ∷ ts) → ⊥
    un no_more h = h
    un (more e es) h = h
outcome g (n ∷ ns) [] k = inr un
  where
    un : (es : Derivations) → DeriveAll g es (n ∷ ns) [] → ⊥
    un no_more h = h
    un (more e es) h = h
outcome g (n ∷ ns) (t ∷ ts) k = go (k.0 n) (outcome g ns ts k.1)
  where
    un : (HasNone g n t) ⊎ ((es : Derivations) → DeriveAll g es ns ts → ⊥) → (es : Derivations) → DeriveAll g es (n ∷ ns) (t ∷ ts) → ⊥
    un x no_more h = h
    un (inl x) (more e es) h = x e h.0
    un (inr x) (more e es) h = x es h.1

    go : ((d : Derivation) × IsFirst g d n t) ⊎ HasNone g n t → Outcome g ns ts → Outcome g (n ∷ ns) (t ∷ ts)
    go (inl (d, f)) (inl (ds, fs)) = inl (more d ds, (f, fs))
    go (inl f) (inr x) = inr (un (inr x))
    go (inr x) o = inr (un (inl x))

known_at : (g : Grammar) → HasNoFreeCycle g → (t : PlainTree) → Below (IsKnown g) t → IsKnown g t
known_at g none t b = first_or_none g t none low
  where
    low : (r : ℕ) (rule : Rule) (ts : List PlainTree) → rule_at g r ≡ Some rule → IsOperator rule → fits rule t ≡ Some ts → Outcome g (leaves rule.pattern) ts
    low r rule ts at op fit = outcome g (leaves rule.pattern) ts (each_subtree (IsKnown g) rule.pattern t ts (inl op) b (fits_subtrees rule t ts fit))

known : (g : Grammar) → HasNoFreeCycle g → (t : PlainTree) → IsKnown g t × Below (IsKnown g) t
known g none (Node0 op a) = (known_at g none (Node0 op a) tt, tt)
known g none (Node1 op a t) = let b = known g none t in (known_at g none (Node1 op a t) b, b)
known g none (Node2 op a t u) =
    let b = known g none t in let c = known g none u in (known_at g none (Node2 op a t u) (b.0, b.1, c), (b.0, b.1, c))

pub best_exists : BestExists
best_exists g n t e none h = go ((known g none t).0 n)
  where
    go : ((d : Derivation) × IsFirst g d n t) ⊎ HasNone g n t → (d : Derivation) × IsBest g d n t
    go (inl (d, f)) = (d, IsBest-first g d n t f)
    go (inr x) = absurd (x e h)
