-- Trees made in so many levels are made in more.
use Rattle.std.proofs.Common.{◌≡◌, ℕ, zero, suc, ◌+◌, Option, List, length, drop, arith, subst}
use Rattle.rand_pcg.specs.Lcg.{Lcg}
use Rattle.sel_base.specs.declared.range.Range.{Range}
use Rattle.sel_grammar.specs.declared.grammar.Grammar.{Grammar}
use Rattle.sel_grammar.specs.declared.grammar.Pattern.{Pattern, Leaf, Nullary, Unary', Binary', end_of-Pattern, more_of-Pattern}
use Rattle.sel_grammar.specs.Fits.{leaves}
use Rattle.sel_grammar.specs.PlainTrees.{PlainTree}
use Rattle.sel_gen.specs.Sizes.{Sizes}
use Rattle.sel_gen.specs.Made.{Making, first_share, IsFilled, IsMadeIn, IsMade}

pub IsFilled-map : (Made Wider : Making) → ((n b : ℕ) (before : Lcg) (t : PlainTree) (after : Lcg) → Made n b before t after → Wider n b before t after)
    → (range : Option Range) (p : Pattern) (shares : List ℕ) (before : Lcg) (t : PlainTree) (after : Lcg) → IsFilled Made range p shares before t after → IsFilled Wider range p shares before t after
IsFilled-map Made Wider wider range (Leaf n) shares before t after h = wider n (first_share shares) before t after h
IsFilled-map Made Wider wider range (Nullary op) shares before t after h = h
IsFilled-map Made Wider wider range (Unary' op s (more_of-Pattern p end_of-Pattern)) shares before t after (u, e, h) = (u, e, IsFilled-map Made Wider wider range p shares before u after h)
IsFilled-map Made Wider wider range (Binary' op s (more_of-Pattern p end_of-Pattern) s' (more_of-Pattern q end_of-Pattern)) shares before t after (u, v, e, w) =
    (u, v, e, (w.0, IsFilled-map Made Wider wider range p shares before u w.0 w.1, IsFilled-map Made Wider wider range q (drop (length (leaves p)) shares) w.0 v after w.2))

module _ (g : Grammar) (sizes : Sizes) where
  one_more : (k n b : ℕ) (before : Lcg) (t : PlainTree) (after : Lcg) → IsMadeIn g sizes k n b before t after → IsMadeIn g sizes (suc k) n b before t after
  one_more zero n b before t after h = absurd h
  one_more (suc k) n b before t after h = record {
    rule = h.rule;
    size = h.size;
    drawn = h.drawn;
    size_is = h.size_is;
    shares = h.shares;
    between = h.between;
    sharing = h.sharing;
    filled = IsFilled-map (IsMadeIn g sizes k) (IsMadeIn g sizes (suc k)) (one_more k) h.rule.range h.rule.pattern h.shares h.between t after h.filled;
  }

  pub raised : (k m n b : ℕ) (before : Lcg) (t : PlainTree) (after : Lcg) → IsMadeIn g sizes k n b before t after → IsMadeIn g sizes (m + k) n b before t after
  raised k zero n b before t after h = let e : k ≡ zero + k = omega arith in subst (λ x. IsMadeIn g sizes x n b before t after) e h
  raised k (suc m) n b before t after h = let e : suc (m + k) ≡ suc m + k = omega arith in subst (λ x. IsMadeIn g sizes x n b before t after) e (one_more (m + k) n b before t after (raised k m n b before t after h))

  raise : (k m : ℕ) (range : Option Range) (p : Pattern) (shares : List ℕ) (before : Lcg) (t : PlainTree) (after : Lcg) → IsFilled (IsMadeIn g sizes k) range p shares before t after → IsFilled (IsMadeIn g sizes (m + k)) range p shares before t after
  raise k m = IsFilled-map (IsMadeIn g sizes k) (IsMadeIn g sizes (m + k)) (raised k m)

  -- what is filled by made trees is filled by trees made in so many levels
  pub in_levels : (range : Option Range) (p : Pattern) (shares : List ℕ) (before : Lcg) (t : PlainTree) (after : Lcg) → IsFilled (IsMade g sizes) range p shares before t after
      → (k : ℕ) × IsFilled (IsMadeIn g sizes k) range p shares before t after
  in_levels range (Leaf n) shares before t after h = h
  in_levels range (Nullary op) shares before t after h = (0, h)
  in_levels range (Unary' op s (more_of-Pattern p end_of-Pattern)) shares before t after (u, e, h) = let r = in_levels range p shares before u after h in (r.0, (u, e, r.1))
  in_levels range (Binary' op s (more_of-Pattern p end_of-Pattern) s' (more_of-Pattern q end_of-Pattern)) shares before t after (u, v, e, w) =
      let a = in_levels range p shares before u w.0 w.1 in
      let b = in_levels range q (drop (length (leaves p)) shares) w.0 v after w.2 in
      (b.0 + a.0, (u, v, e, (w.0, raise a.0 b.0 range p shares before u w.0 a.1, swapped a.0 b.0 range q (drop (length (leaves p)) shares) w.0 v after b.1)))
    where
      swapped : (k m : ℕ) (range : Option Range) (p : Pattern) (shares : List ℕ) (before : Lcg) (t : PlainTree) (after : Lcg) → IsFilled (IsMadeIn g sizes m) range p shares before t after → IsFilled (IsMadeIn g sizes (m + k)) range p shares before t after
      swapped k m range p shares before t after h = let e : k + m ≡ m + k = omega arith in subst (λ x. IsFilled (IsMadeIn g sizes x) range p shares before t after) e (raise m k range p shares before t after h)
