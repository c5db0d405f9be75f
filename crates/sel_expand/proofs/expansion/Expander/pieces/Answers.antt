-- The temporaries of a derivation's text are numbered.
use Rattle.std.proofs.Common.{◌≡◌, ◌∙◌, Some, ap, sym, subst}
use Rattle.std.specs.Prelude.{IfSome}
use Rattle.sel_expand.specs.Expanding.{IsText}
use Rattle.sel_expand.specs.Pieces.{pieces_text, AreNumbered}
use Rattle.sel_expand.specs.Values.{IsReduced}
use Rattle.sel_expand.proofs.Numbering.{emitted_numbered}
use Rattle.sel_expand.proofs.Wholes.{is_emitted}
use Rattle.sel_expand.proofs.expansion.Expander.pieces.Goals as goal

some_same : {A : Type 0} {x y : A} → Some x ≡ Some y → x ≡ y
some_same h = cc

pub cut-requires : goal.cut-requires
cut-requires c =
    let g = c.args.grammar.now in
    let tree = c.args.tree.now in
    let rules = c.args.cover.now.rules in
    let rs = c.emit.new.self.reductions in
    let bytes = c.emit.new.self.bytes.items in
    let text = c.emit_apart.new.self.text.items in
    let reduced = subst (λ o. IfSome o (IsReduced g tree rules rs)) c.in-Some.is c.in_ok-last.ensures.reduced in
    let is = subst (λ o. IfSome o (λ _. IsText g tree rules bytes)) c.in-Some.is c.in_ok-last.ensures.text in
    subst AreNumbered (sym c.as_slice.ensures.value)
    (emitted_numbered g tree rules text c.requires.tree c.requires.covered (is_emitted g tree rules rs c.in-Some.last bytes text reduced is c.in_ok-emit_apart-in-Some.ensures))

pub returns-in_ok-pieces-in-Some-clause-numbered : goal.returns-in_ok-pieces-in-Some-clause-numbered
returns-in_ok-pieces-in-Some-clause-numbered c = λ ps same.
    let g = c.args.grammar.now in
    let tree = c.args.tree.now in
    let rules = c.args.cover.now.rules in
    let rs = c.emit.new.self.reductions in
    let bytes = c.emit.new.self.bytes.items in
    let text = c.emit_apart.new.self.text.items in
    let reduced = subst (λ o. IfSome o (IsReduced g tree rules rs)) c.in-Some.is c.in_ok-last.ensures.reduced in
    let is = subst (λ o. IfSome o (λ _. IsText g tree rules bytes)) c.in-Some.is c.in_ok-last.ensures.text in
    let shows : pieces_text ps ≡ text = ap pieces_text (sym (some_same same)) ∙ c.in_ok-pieces-in-Some.ensures ∙ c.as_slice.ensures.value in
    subst AreNumbered (sym shows)
    (emitted_numbered g tree rules text c.requires.tree c.requires.covered (is_emitted g tree rules rs c.in-Some.last bytes text reduced is c.in_ok-emit_apart-in-Some.ensures))
