-- The rules of helpers for two lists of parts, one behind the other.
use Rattle.std.proofs.Common.{◌≡◌, ℕ, ◌+◌, suc, List, [], ◌∷◌, ◌++◌, length, refl, ap, sym, ◌∙◌, append_assoc, arith}
use Rattle.sel_grammar.specs.declared.grammar.Pattern.{Pattern}
use Rattle.sel_normal.specs.declared.normal.NormalRule.{NormalRule}
use Rattle.sel_normal.specs.Forms.{parts, helper_rule, helper_rules}
use Rattle.sel_normal.proofs.Cases.{IsOver, AreOver}

pub helpers_at : (m k : ℕ) (ps : List Pattern) → m ≡ k → helper_rules m ps ≡ helper_rules k ps
helpers_at m k ps h = ap (λ x. helper_rules x ps) h

pub helper_rules-append : (k : ℕ) (ps qs : List Pattern) → helper_rules k (ps ++ qs) ≡ helper_rules k ps ++ helper_rules (k + length ps) qs
helper_rules-append k [] qs = helpers_at k (k + 0) qs (omega arith)
helper_rules-append k (p ∷ ps) qs =
    ap (λ l. helper_rule k p ∷ l) (helper_rules-append (k + 1) ps qs ∙ ap (λ l. helper_rules (k + 1) ps ++ l) (helpers_at (k + 1 + length ps) (k + suc (length ps)) qs (omega arith)))

-- the helpers of two lists of parts, one behind the other
pub pushed_both : (k m : ℕ) (ps qs : List Pattern) (old one all : List NormalRule) → m ≡ k + length ps → one ≡ old ++ helper_rules k ps → all ≡ one ++ helper_rules m qs → all ≡ old ++ helper_rules k (ps ++ qs)
pushed_both k m ps qs old one all is e f =
    f ∙ ap (λ l. l ++ helper_rules m qs) e ∙ append_assoc old (helper_rules k ps) (helper_rules m qs)
    ∙ ap (λ l. old ++ (helper_rules k ps ++ l)) (helpers_at m (k + length ps) qs is) ∙ ap (λ l. old ++ l) (sym (helper_rules-append k ps qs))

-- one helper, and those of the parts below it
pub pushed_root : (k : ℕ) (part : Pattern) (below : List Pattern) (old one all : List NormalRule) → parts part ≡ part ∷ below → one ≡ old ++ helper_rule k part ∷ [] → all ≡ one ++ helper_rules (k + 1) below
    → all ≡ old ++ helper_rules k (parts part)
pushed_root k part below old one all is e f =
    f ∙ ap (λ l. l ++ helper_rules (k + 1) below) e ∙ append_assoc old (helper_rule k part ∷ []) (helper_rules (k + 1) below) ∙ ap (λ l. old ++ helper_rules k l) (sym is)
