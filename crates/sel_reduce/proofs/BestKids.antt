-- The kids of a best derivation are best.
use Rattle.std.proofs.Common.{◌≡◌, ℕ, Some, List, [], ◌∷◌, subst}
use Rattle.sel_grammar.specs.declared.grammar.Grammar.{Grammar}
use Rattle.sel_grammar.specs.declared.grammar.Rule.{Rule}
use Rattle.sel_grammar.specs.PlainTrees.{PlainTree}
use Rattle.sel_grammar.specs.Fits.{leaves, fits, rule_at}
use Rattle.sel_grammar.specs.Derivations.{Derivation, Deriv, Derivations, no_more, more, DeriveAll}
use Rattle.sel_grammar.specs.Chains.{HasNoFreeCycle}
use Rattle.sel_grammar.specs.Firsts.{IsFirst, AllFirst}
use Rattle.sel_grammar.proofs.Existence.{best_exists}
use Rattle.sel_grammar.proofs.Firsts.{IsBest-first, DeriveAll-first, LeadAll-first, Leads-kids}
use Rattle.sel_grammar.proofs.FreshChains.{Leads-trans, kids_of}
use Rattle.sel_grammar.proofs.One.{best_one}
use Rattle.sel_items.proofs.BestParts.{IsFirst-best}

-- the best derivation is one
pub first_one : (g : Grammar) (n : ℕ) (t : PlainTree) (d e : Derivation) → IsFirst g d n t → IsFirst g e n t → d ≡ e
first_one g n t d e f h = best_one g n t d e (IsBest-first g d n t f) (IsBest-first g e n t h)

-- where trees are derived, they are by best derivations
best_kids : (g : Grammar) → HasNoFreeCycle g → (ds : Derivations) (ns : List ℕ) (ts : List PlainTree) → DeriveAll g ds ns ts → (es : Derivations) × AllFirst g es ns ts
best_kids g free no_more [] [] h = (no_more, tt)
best_kids g free no_more [] (t ∷ ts) h = absurd h
best_kids g free no_more (n ∷ ns) ts h = absurd h
best_kids g free (more d ds) [] ts h = absurd h
best_kids g free (more d ds) (n ∷ ns) [] h = absurd h
best_kids g free (more d ds) (n ∷ ns) (t ∷ ts) h =
    let b = best_exists g n t d free h.0 in
    let k = best_kids g free ds ns ts h.1 in
    (more b.0 k.0, (IsFirst-best g b.0 n t b.1, k.1))

kids_same : {r : ℕ} {ds es : Derivations} → Deriv r ds ≡ Deriv r es → ds ≡ es
kids_same h = cc

pub kids_first : (g : Grammar) → HasNoFreeCycle g → (n : ℕ) (t : PlainTree) (r : ℕ) (ds : Derivations) (rule : Rule) (ts : List PlainTree) → rule_at g r ≡ Some rule → rule.left ≡ n → fits rule t ≡ Some ts
    → IsFirst g (Deriv r ds) n t → AllFirst g ds (leaves rule.pattern) ts
kids_first g free n t r ds rule ts at left fit f =
    let all = kids_of g t n r rule ts ds at fit f.derives in
    let best = best_kids g free ds (leaves rule.pattern) ts all in
    let es = best.0 in
    let leads = Leads-kids g r es ds (LeadAll-first g es ds (leaves rule.pattern) ts best.1 all) in
    let other : IsFirst g (Deriv r es) n t = record {
      derives = (rule, at, left, (ts, fit, DeriveAll-first g es (leaves rule.pattern) ts best.1));
      leads = λ e h. Leads-trans g (Deriv r es) (Deriv r ds) e leads (f.leads e h);
    } in
    let same : es ≡ ds = kids_same (first_one g n t (Deriv r es) (Deriv r ds) other f) in
    subst (λ x. AllFirst g x (leaves rule.pattern) ts) same best.1
