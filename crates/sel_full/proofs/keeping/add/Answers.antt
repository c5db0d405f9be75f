use Rattle.std.proofs.Common.{◌+◌, ◌∷◌, [], ◌++◌, List, ap, sym, ◌∙◌, subst, refl}
use Rattle.sel_items.specs.declared.items.Items.{Items}
use Rattle.sel_full.specs.Taking.{AreStates, AreFew}
use Rattle.sel_full.proofs.Kept.{too_dear, too_many, still_states, one_more}
use Rattle.sel_full.proofs.keeping.add.Goals as goal

pub returns-then-has_dear_entry-clause-stop : goal.returns-then-has_dear_entry-clause-stop
returns-then-has_dear_entry-clause-stop c = too_dear c.args.normal.now c.args.items c.args.limits.states c.args.limits.rows c.requires.reached (c.if-has_dear_entry.ensures.yes refl)

pub returns-then-not-is_allowed-clause-stop : goal.returns-then-not-is_allowed-clause-stop
returns-then-not-is_allowed-clause-stop c =
    let xs = c.args.states.now in
    let i = c.args.items in
    too_many c.args.normal.now xs i c.requires.are c.requires.new c.requires.reached c.args.limits.states c.args.limits.rows
    (c.if-not-is_allowed.ensures.no (xs ++ i ∷ []) (one_more xs i ∙ ap (λ n. n + 1) (sym c.len.ensures)) refl)

pub returns-clause-found : goal.returns-clause-found
returns-clause-found c =
    let xs = c.args.states.now in
    let i = c.args.items in
    subst (λ (ys : List Items). AreStates c.args.normal.now ys × AreFew c.args.normal.now c.args.limits.states c.args.limits.rows ys) (sym c.in_ok-push.ensures.ok) (
      still_states c.args.normal.now xs i c.requires.are c.requires.new c.requires.reached c.requires.long (c.if-has_dear_entry.ensures.no refl),
      c.if-not-is_allowed.ensures.yes (xs ++ i ∷ []) (one_more xs i ∙ ap (λ n. n + 1) (sym c.len.ensures)) refl,
    )
