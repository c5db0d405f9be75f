-- What each kind of token does to the open nodes.
use Rattle.std.proofs.Common.{◌≡◌, subst, sym, ap, ◌∙◌, ◌++◌, ◌∷◌, [], inl, inr, rules, w64}
use Rattle.std.proofs.lemmas.Int.{to_z-of_z}
use mir.Val.{SFits, of_z, to_z}
use Rattle.sel_grammar.specs.declared.grammar.Attribute.TheVariants as attribute
use Rattle.sel_forest.specs.OpenNodes.{opened_next, Holds, TakesToken, with_attribute}
use Rattle.sel_forest.specs.Pieces.{view}
use Rattle.sel_forest.specs.Tokens as tokens
use Rattle.sel_forest.proofs.PutDown.{marked, attribute_held, close_held}
use Rattle.sel_forest.proofs.build.take.Goals as goal

pub returns-in-Some : goal.returns-in-Some
returns-in-Some c = λ g os named h takes.
    let some : TakesToken os (tokens.Number c.in-Number.bytes.now) = subst (λ p. TakesToken os (view p)) c.in-Number.is takes in
    let fits : SFits w64 c.in-Some.number = search rules in
    let same : attribute.Number (to_z w64 (of_z w64 c.in-Some.number)) ≡ attribute.Number c.in-Some.number = ap attribute.Number (to_z-of_z w64 c.in-Some.number fits) in
    subst (λ p. Holds (opened_next g os (view p)) c.set_attribute.new.stack.items c.args.nodes.now.items) (sym c.in-Number.is)
    (subst (λ z. Holds (with_attribute (attribute.Number z) os) c.set_attribute.new.stack.items c.args.nodes.now.items) c.in-Some.ensures.0
    (attribute_held os c.args.stack.now.items c.set_attribute.new.stack.items c.args.nodes.now.items (attribute.Number c.in-Some.number) h
    (λ below inner e. c.set_attribute.ensures below inner e ∙ ap (λ x. below ++ (marked x inner ∷ [])) same) some.1))

pub returns-in_ok-from_slice-in-Symbol : goal.returns-in_ok-from_slice-in-Symbol
returns-in_ok-from_slice-in-Symbol c = λ g os named h takes.
    let some : TakesToken os (tokens.Symbol c.in-Symbol.bytes.now) = subst (λ p. TakesToken os (view p)) c.in-Symbol.is takes in
    subst (λ p. Holds (opened_next g os (view p)) c.set_attribute-in-Symbol.new.stack.items c.args.nodes.now.items) (sym c.in-Symbol.is)
    (subst (λ z. Holds (with_attribute (attribute.Symbol z) os) c.set_attribute-in-Symbol.new.stack.items c.args.nodes.now.items)
    (c.from_vec-symbol.ensures ∙ c.in_ok-from_slice-in-Symbol.ensures.items)
    (attribute_held os c.args.stack.now.items c.set_attribute-in-Symbol.new.stack.items c.args.nodes.now.items (attribute.Symbol c.from_vec-symbol.result) h
    c.set_attribute-in-Symbol.ensures some))

pub returns-in_ok-close-in-Comma : goal.returns-in_ok-close-in-Comma
returns-in_ok-close-in-Comma c = λ g os named h takes.
    elim c.in-Comma.is [
      | inl e ↦ subst (λ p. Holds (opened_next g os (view p)) c.close.new.stack.items c.close.new.nodes.items) (sym e)
          (close_held os c.args.stack.now.items c.close.new.stack.items c.args.nodes.now.items c.close.new.nodes.items h
          (subst (λ p. TakesToken os (view p)) e takes) c.in_ok-close-in-Comma.ensures)
      | inr e ↦ subst (λ p. Holds (opened_next g os (view p)) c.close.new.stack.items c.close.new.nodes.items) (sym e)
          (close_held os c.args.stack.now.items c.close.new.stack.items c.args.nodes.now.items c.close.new.nodes.items h
          (subst (λ p. TakesToken os (view p)) e takes) c.in_ok-close-in-Comma.ensures)
    ]
