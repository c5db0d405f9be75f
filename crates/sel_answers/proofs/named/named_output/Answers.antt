use Rattle.std.proofs.Common.{◌≡◌, ◌+◌, ◌<◌, ◌^◌, length, map, ap, ◌∙◌, arith}
use Rattle.sel_answers.proofs.Naming.{named-length}
use Rattle.sel_answers.proofs.named.named_output.Goals as goal

pub put_named_answers-requires : goal.put_named_answers-requires
put_named_answers-requires c =
    let many : length c.deref.result.now ≡ length c.args.trees.now =
    ap length c.deref.ensures.value ∙ named-length c.args.grammar.now (map (λ name. name.now) c.args.names.now) c.args.trees.now c.in_ok-named.named.items c.in_ok-named.ensures in
    let few = c.requires.few in
    record { few = omega (arith, many, few) }
