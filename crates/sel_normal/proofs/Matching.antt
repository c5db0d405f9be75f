-- Derivations under a grammar and in its normal form, one for one.
use Rattle.std.proofs.Common.{◌≡◌, ℕ, ◌<◌, List, [], ◌∷◌, ◌++◌, length, refl, ap, sym, ◌∙◌}
use Rattle.sel_grammar.specs.declared.grammar.Grammar.{Grammar}
use Rattle.sel_grammar.specs.PlainTrees.{PlainTree}
use Rattle.sel_grammar.specs.Derivations.{Derivation, Derives, list}
use Rattle.sel_grammar.specs.Lawful.{IsLawful}
use Rattle.sel_grammar.proofs.Words.{lists_are_words}
use Rattle.sel_normal.specs.NormalForms.{NormalForm}
use Rattle.sel_normal.specs.Forms.{IsFormOf}
use Rattle.sel_normal.specs.Laws.{EachHasNormalMatch, EachHasUserMatch}
use Rattle.sel_normal.proofs.Kept.{form_cut}
use Rattle.sel_normal.proofs.Ups.{up}
use Rattle.sel_normal.proofs.Downs.{user_down}
use Rattle.sel_normal.proofs.Tells.{tells}

pub each_has_normal_match : EachHasNormalMatch
each_has_normal_match g normal n t d h form derives =
    let cut = form_cut g normal h form in
    let u = up g normal h form cut d n t derives in
    record {
      normal_one = u.one;
      derives = u.derives;
      matched = record { costs = u.cost_is; lists = u.list_is };
      only = λ e k m. (tells g normal h form cut e u.one n t [] [] k u.derives (ap (λ l. l ++ []) (m.lists ∙ sym u.list_is))).0;
    }

pub each_has_user_match : EachHasUserMatch
each_has_user_match g normal n t e h form low derives =
    let u = user_down g normal h form (form_cut g normal h form) e n t low derives in
    record {
      user_one = u.one;
      derives = u.derives;
      matched = record { costs = sym u.cost_is; lists = sym u.list_is };
      only = λ d k m. (lists_are_words g n t d u.one [] [] k u.derives (ap (λ l. l ++ []) (sym m.lists ∙ sym u.list_is))).0;
    }
