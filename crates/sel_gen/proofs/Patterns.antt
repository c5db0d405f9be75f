-- Words on patterns, at each form of a pattern.
use Rattle.std.proofs.Common.{◌≡◌, ℕ, ◌+◌, ◌≤◌, Option, List, [], ◌∷◌, ◌++◌, length, take, drop, reverse, refl, ap, sym, ◌∙◌, arith, append_assoc, length-append, length-drop}
use Rattle.std.proofs.lemmas.List.{map-append, reverse-append, take-append-drop, length-take-le, drop-append-le}
use Rattle.std.specs.Option.{unwrap_or}
use Rattle.sqlite_items.specs.declared.boxed.Boxed.{Boxed}
use Rattle.sel_grammar.specs.declared.grammar.Pattern.{Pattern, Unary, Binary}
use Rattle.sel_grammar.specs.declared.grammar.Pattern.TheBlock.{shape-the_row-Pattern-0, hidden-the_row-Pattern-0}
use denote.Hole.Carrier.{hidden}
use Rattle.sel_base.specs.declared.range.Range.{Range}
use Rattle.sel_grammar.specs.declared.grammar.Pattern.{Leaf, Nullary, Unary', Binary', end_of-Pattern, more_of-Pattern}
use Rattle.sel_grammar.specs.Fits.{leaves}
use Rattle.sel_gen.specs.declared.tasks.Task.{Task}
use Rattle.sel_gen.specs.declared.tasks.Task.TheVariants.{Wrap, Join}
use Rattle.sel_gen.specs.Sizes.{Sizes, size_at}
use Rattle.sel_gen.specs.Made.{leaf_sizes}
use Rattle.sel_gen.specs.Growing.{steps, HasPushed}
use Rattle.sel_gen.specs.Lowering.{small_sum, small_kids_size}

pub small_unary : (sizes : Sizes) (op : ℕ) (p : Boxed Pattern) → small_kids_size sizes (Unary op p) ≡ small_kids_size sizes p
unfolding shape-the_row-Pattern-0 hidden-the_row-Pattern-0 hidden
small_unary sizes op p = refl

pub small_binary : (sizes : Sizes) (op : ℕ) (p q : Boxed Pattern) → small_kids_size sizes (Binary op p q) ≡ small_sum (small_kids_size sizes p) (small_kids_size sizes q)
unfolding shape-the_row-Pattern-0 hidden-the_row-Pattern-0 hidden
small_binary sizes op p q = refl

pub ruleset size_cases = (small_unary, small_binary)

pub unary_size : (pattern : Pattern) (op : ℕ) (b : Boxed Pattern) (p : Pattern) (sizes : Sizes) (r : Option ℕ) → pattern ≡ Unary op b → p ≡ b → r ≡ small_kids_size sizes p → r ≡ small_kids_size sizes pattern
unary_size pattern op b p sizes r is q e = e ∙ ap (small_kids_size sizes) q ∙ sym (small_unary sizes op b) ∙ ap (small_kids_size sizes) (sym is)

pub binary_size : (pattern : Pattern) (op : ℕ) (b b' : Boxed Pattern) (p p' : Pattern) (sizes : Sizes) (r s t : Option ℕ) → pattern ≡ Binary op b b' → p ≡ b → p' ≡ b'
    → r ≡ small_kids_size sizes p → s ≡ small_kids_size sizes p' → t ≡ small_sum r s → t ≡ small_kids_size sizes pattern
binary_size pattern op b b' p p' sizes r s t is q q' e f h =
    h ∙ ap (λ x. small_sum x s) (e ∙ ap (small_kids_size sizes) q) ∙ ap (small_sum (small_kids_size sizes b)) (f ∙ ap (small_kids_size sizes) q')
    ∙ sym (small_binary sizes op b b') ∙ ap (small_kids_size sizes) (sym is)

pub leaf_unary : (sizes : Sizes) (op : ℕ) (p : Boxed Pattern) → leaf_sizes sizes (Unary op p) ≡ leaf_sizes sizes p
unfolding shape-the_row-Pattern-0 hidden-the_row-Pattern-0 hidden
leaf_unary sizes op p = refl

pub leaf_binary : (sizes : Sizes) (op : ℕ) (p q : Boxed Pattern) → leaf_sizes sizes (Binary op p q) ≡ leaf_sizes sizes p ++ leaf_sizes sizes q
unfolding shape-the_row-Pattern-0 hidden-the_row-Pattern-0 hidden
leaf_binary sizes op p q = map-append (λ n. unwrap_or (size_at sizes n) 0) (leaves p) (leaves q)

pub ruleset leaf_cases = (leaf_unary, leaf_binary)

pub unary_leaves : (pattern : Pattern) (op : ℕ) (b : Boxed Pattern) (p : Pattern) (sizes : Sizes) (old new : List ℕ) → pattern ≡ Unary op b → p ≡ b → new ≡ old ++ leaf_sizes sizes p → new ≡ old ++ leaf_sizes sizes pattern
unary_leaves pattern op b p sizes old new is q e = e ∙ ap (λ x. old ++ leaf_sizes sizes x) q ∙ ap (λ x. old ++ x) (sym (leaf_unary sizes op b)) ∙ ap (λ x. old ++ leaf_sizes sizes x) (sym is)

pub binary_leaves : (pattern : Pattern) (op : ℕ) (b b' : Boxed Pattern) (p p' : Pattern) (sizes : Sizes) (old mid new : List ℕ) → pattern ≡ Binary op b b' → p ≡ b → p' ≡ b' → mid ≡ old ++ leaf_sizes sizes p → new ≡ mid ++ leaf_sizes sizes p'
    → new ≡ old ++ leaf_sizes sizes pattern
binary_leaves pattern op b b' p p' sizes old mid new is q q' e f =
    f ∙ ap (λ x. mid ++ leaf_sizes sizes x) q' ∙ ap (λ x. x ++ leaf_sizes sizes b') (e ∙ ap (λ x. old ++ leaf_sizes sizes x) q)
    ∙ append_assoc old (leaf_sizes sizes b) (leaf_sizes sizes b') ∙ ap (λ x. old ++ x) (sym (leaf_binary sizes op b b')) ∙ ap (λ x. old ++ leaf_sizes sizes x) (sym is)

-- only as many shares count as the pattern has nonterminals
pub steps-front : (range : Option Range) (p : Pattern) (xs ys : List ℕ) → length xs ≡ length (leaves p) → steps range p (xs ++ ys) ≡ steps range p xs
steps-front range (Leaf n) [] ys h = absurd (omega arith)
steps-front range (Leaf n) (x ∷ xs) ys h = refl
steps-front range (Nullary op) xs ys h = refl
steps-front range (Unary' op s (more_of-Pattern p end_of-Pattern)) xs ys h = ap (λ x. x ++ (Wrap op ∷ [])) (steps-front range p xs ys h)
steps-front range (Binary' op s (more_of-Pattern p end_of-Pattern) s' (more_of-Pattern q end_of-Pattern)) xs ys h =
    let le : length (leaves p) ≤ length xs = let both = length-append (leaves p) (leaves q) in omega arith in
    let one : steps range p (xs ++ ys) ≡ steps range p xs =
    ap (λ x. steps range p (x ++ ys)) (sym (take-append-drop (length (leaves p)) xs)) ∙ ap (steps range p) (append_assoc (take (length (leaves p)) xs) (drop (length (leaves p)) xs) ys)
    ∙ steps-front range p (take (length (leaves p)) xs) (drop (length (leaves p)) xs ++ ys) (length-take-le (length (leaves p)) xs le)
    ∙ sym (steps-front range p (take (length (leaves p)) xs) (drop (length (leaves p)) xs) (length-take-le (length (leaves p)) xs le))
    ∙ ap (steps range p) (take-append-drop (length (leaves p)) xs) in
    let two : steps range q (drop (length (leaves p)) (xs ++ ys)) ≡ steps range q (drop (length (leaves p)) xs) =
    ap (steps range q) (drop-append-le (length (leaves p)) xs ys le)
    ∙ steps-front range q (drop (length (leaves p)) xs) ys (let both = length-append (leaves p) (leaves q) in omega (arith, length-drop (length (leaves p)) xs)) in
    (λ i. one i ++ (two i ++ (Join op ∷ [])))

pub leaves_unary : (op : ℕ) (p : Boxed Pattern) → leaves (Unary op p) ≡ leaves p
unfolding shape-the_row-Pattern-0 hidden-the_row-Pattern-0 hidden
leaves_unary op p = refl

pub leaves_binary : (op : ℕ) (p q : Boxed Pattern) → leaves (Binary op p q) ≡ leaves p ++ leaves q
unfolding shape-the_row-Pattern-0 hidden-the_row-Pattern-0 hidden
leaves_binary op p q = refl

pub steps_unary : (range : Option Range) (op : ℕ) (p : Boxed Pattern) (shares : List ℕ) → steps range (Unary op p) shares ≡ steps range p shares ++ (Wrap op ∷ [])
unfolding shape-the_row-Pattern-0 hidden-the_row-Pattern-0 hidden
steps_unary range op p shares = refl

pub steps_binary : (range : Option Range) (op : ℕ) (p q : Boxed Pattern) (shares : List ℕ) → steps range (Binary op p q) shares ≡ steps range p shares ++ (steps range q (drop (length (leaves p)) shares) ++ (Join op ∷ []))
unfolding shape-the_row-Pattern-0 hidden-the_row-Pattern-0 hidden
steps_binary range op p q shares = refl

-- what a call says of a pattern's steps
abbrev pub Pushes : Option Range → Pattern → List ℕ → List ℕ → List Task → List Task → Type 0
Pushes range p shares left old new = (front own : List ℕ) → shares ≡ front ++ own → length own ≡ length (leaves p) → HasPushed range p front own left old new

pub unary_pushes : (range : Option Range) (pattern : Pattern) (op : ℕ) (b : Boxed Pattern) (p : Pattern) (shares left : List ℕ) (old mid new : List Task) → pattern ≡ Unary op b → p ≡ b
    → mid ≡ old ++ Wrap op ∷ [] → Pushes range p shares left mid new → Pushes range pattern shares left old new
unary_pushes range pattern op b p shares left old mid new is q one pushes front own e long =
    let h = pushes front own e (long ∙ ap (λ p. length (leaves p)) is ∙ ap length (leaves_unary op b) ∙ ap (λ p. length (leaves p)) (sym q)) in
    record {
      shares_left = h.shares_left;
      pushed = h.pushed ∙ ap (λ x. x ++ reverse (steps range p own)) one ∙ append_assoc old (Wrap op ∷ []) (reverse (steps range p own))
          ∙ ap (λ x. old ++ x) (sym (reverse-append (steps range p own) (Wrap op ∷ [])) ∙ ap (λ p. reverse (steps range p own ++ (Wrap op ∷ []))) q ∙ ap reverse (sym (steps_unary range op b own)) ∙ ap (λ p. reverse (steps range p own)) (sym is));
    }

pub binary_pushes : (range : Option Range) (pattern : Pattern) (op : ℕ) (b b' : Boxed Pattern) (p p' : Pattern) (shares between left : List ℕ) (old mid more new : List Task) → pattern ≡ Binary op b b' → p ≡ b → p' ≡ b'
    → mid ≡ old ++ Join op ∷ [] → Pushes range p' shares between mid more → Pushes range p between left more new → Pushes range pattern shares left old new
binary_pushes range pattern op b b' p p' shares between left old mid more new is q q' one second first front own e long =
    let total : length own ≡ length (leaves p) + length (leaves p') = long ∙ ap (λ p. length (leaves p)) is ∙ ap length (leaves_binary op b b') ∙ (λ i. length (leaves (sym q i) ++ leaves (sym q' i))) ∙ length-append (leaves p) (leaves p') in
    let le : length (leaves p) ≤ length own = omega arith in
    let h = second (front ++ take (length (leaves p)) own) (drop (length (leaves p)) own) (e ∙ ap (λ x. front ++ x) (sym (take-append-drop (length (leaves p)) own)) ∙ sym (append_assoc front (take (length (leaves p)) own) (drop (length (leaves p)) own)))
    (omega (arith, length-drop (length (leaves p)) own)) in
    let k = first front (take (length (leaves p)) own) h.shares_left (length-take-le (length (leaves p)) own le) in
    let mine : steps range p (take (length (leaves p)) own) ≡ steps range p own = sym (steps-front range p (take (length (leaves p)) own) (drop (length (leaves p)) own) (length-take-le (length (leaves p)) own le)) ∙ ap (steps range p) (take-append-drop (length (leaves p)) own) in
    let turned : reverse (steps range p own ++ (steps range p' (drop (length (leaves p)) own) ++ (Join op ∷ []))) ≡ ((Join op ∷ []) ++ reverse (steps range p' (drop (length (leaves p)) own))) ++ reverse (steps range p own) =
    reverse-append (steps range p own) (steps range p' (drop (length (leaves p)) own) ++ (Join op ∷ [])) ∙ ap (λ x. x ++ reverse (steps range p own)) (reverse-append (steps range p' (drop (length (leaves p)) own)) (Join op ∷ [])) in
    let whole : steps range pattern own ≡ steps range p own ++ (steps range p' (drop (length (leaves p)) own) ++ (Join op ∷ [])) =
    ap (λ p. steps range p own) is ∙ steps_binary range op b b' own ∙ (λ i. steps range (sym q i) own ++ (steps range (sym q' i) (drop (length (leaves (sym q i))) own) ++ (Join op ∷ []))) in
    record {
      shares_left = k.shares_left;
      pushed = k.pushed ∙ ap (λ x. more ++ reverse x) mine ∙ ap (λ x. x ++ reverse (steps range p own)) (h.pushed ∙ ap (λ x. x ++ reverse (steps range p' (drop (length (leaves p)) own))) one)
          ∙ ap (λ x. x ++ reverse (steps range p own)) (append_assoc old (Join op ∷ []) (reverse (steps range p' (drop (length (leaves p)) own))))
          ∙ append_assoc old ((Join op ∷ []) ++ reverse (steps range p' (drop (length (leaves p)) own))) (reverse (steps range p own))
          ∙ ap (λ x. old ++ x) (sym turned ∙ ap reverse (sym whole));
    }
