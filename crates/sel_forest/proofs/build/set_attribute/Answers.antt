use Rattle.std.proofs.Common.{◌∙◌, ◌++◌, ◌∷◌, [], ap, arith}
use Rattle.sel_forest.proofs.Lasts.{last_is, last_set}
use Rattle.sel_forest.proofs.PutDown.{marked}
use Rattle.sel_forest.proofs.build.set_attribute.Goals as goal

pub returns-in-Some : goal.returns-in-Some
returns-in-Some c = λ below inner e.
    last_set c.args.stack.now.items below inner _ _ e (omega arith)
    ∙ ap (λ n. below ++ (marked c.args.attribute n ∷ [])) (c.in-Some.ensures.value ∙ last_is c.args.stack.now.items below inner c.in-Some.inner.now _ e (omega arith))
