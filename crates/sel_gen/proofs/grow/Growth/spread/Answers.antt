-- The leaves' sizes, their shares, and the steps with these shares.
use Rattle.std.proofs.Common.{◌≡◌, ℕ, List, [], ◌++◌, length, refl, sym, ap, ◌∙◌}
use Rattle.std.proofs.lemmas.List.{length-map}
use Rattle.std.specs.Option.{unwrap_or}
use Rattle.rand_pcg.specs.Lcg.{Lcg}
use Rattle.sel_grammar.specs.Fits.{leaves}
use Rattle.sel_gen.specs.Sizes.{size_at}
use Rattle.sel_gen.specs.Made.{leaf_sizes, shared}
use Rattle.sel_gen.proofs.Candidates.{shared_long}
use Rattle.sel_gen.proofs.grow.Growth.spread.Goals as goal

pub returns-clause-spread : goal.returns-clause-spread
returns-clause-spread c =
    let sizes = c.args.sizes.now in
    let p = c.args.rule.now.pattern in
    let shares : List ℕ = c.share_out.new.shares.items in
    let leaves_are : c.as_slice.result.now ≡ leaf_sizes sizes p = c.as_slice.ensures.value ∙ c.in_ok-push_leaves.ensures ∙ ap (λ x. x ++ leaf_sizes sizes p) c.clear.ensures.items in
    let sharing : shared (leaf_sizes sizes p) c.args.spare c.args.words.now ≡ (shares, c.share_out.new.words) = sym (c.in_ok-share_out.ensures ∙ ap (λ xs. shared xs c.args.spare c.args.words.now) leaves_are) in
    let long : length shares ≡ length (leaves p) =
    ap (λ (x : List ℕ × Lcg). length x.0) (sym sharing) ∙ shared_long (leaf_sizes sizes p) c.args.spare c.args.words.now ∙ length-map (leaves p) (λ n. unwrap_or (size_at sizes n) 0) in
    record { shares = shares; sharing = sharing; pushed = (c.in_ok-push_steps.ensures [] shares refl long).pushed }
