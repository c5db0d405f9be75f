use Rattle.std.proofs.Common.{◌≡◌, ◌∙◌, ◌++◌, ◌∷◌, [], ap, sym, arith, length}
use Rattle.sel_forest.specs.OpenNodes.{attached}
use Rattle.sel_forest.proofs.Lasts.{last_is, last_set, same_front, same_last}
use Rattle.sel_forest.proofs.build.close.Goals as goal

pub returns-in-Some : goal.returns-in-Some
returns-in-Some c = λ below outer inner e.
    let front : c.take_last.new.self.items ≡ below ++ (outer ∷ []) = same_front c.take_last.new.self.items c.take_last.result (below ++ (outer ∷ [])) inner (sym c.take_last.ensures.items ∙ e) in
    let last = same_last c.take_last.new.self.items c.take_last.result (below ++ (outer ∷ [])) inner (sym c.take_last.ensures.items ∙ e) in
    let at : c.len-at.result ≡ length c.args.nodes.now.items = omega (arith, c.len-at.ensures) in
    let around = c.in-Some.ensures.value ∙ last_is c.take_last.new.self.items below outer c.in-Some.outer.now _ front (omega arith) in
    let kid = c.attach.ensures ∙ ap (λ n. attached n c.len-at.result) around ∙ ap (attached outer) at in
    (last_set c.take_last.new.self.items below outer _ _ front (omega arith) ∙ ap (λ n. below ++ (n ∷ [])) kid, c.push_reserved.ensures.items ∙ (λ j. c.reserve.ensures.items j ++ (last j ∷ [])))
