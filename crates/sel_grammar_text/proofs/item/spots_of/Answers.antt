use Rattle.std.proofs.Common.{◌≡◌, ◌∙◌, ◌++◌, ◌∷◌, [], ◌-◌, ap, sym, refl, subst, arith, map, length}
use Rattle.std.specs.List.{AllByRecursion}
use Rattle.std.proofs.lemmas.List.{map-append}
use Rattle.sel_grammar_text.specs.ItemNumbers.{IsSpot}
use Rattle.sel_grammar_text.specs.Spots.{Spot, spot, first}
use Rattle.sel_grammar_text.specs.Pieces.{view}
use Rattle.sel_grammar_text.specs.Words.{view_spot}
use Rattle.sel_grammar_text.proofs.ItemWords.{spots_step, all_snoc}
use Rattle.sel_grammar_text.proofs.item.spots_of.Goals as goal

pub tokens-preserved : goal.tokens-preserved
tokens-preserved c =
    let found = c.next_token-found.result in
    let s : Spot = record { token = view found.piece; at = c.args.all - length found.from.now } in
    let pushed : map view_spot c.push.new.self.items ≡ map view_spot c.tokens.spots.items ++ (s ∷ []) =
    ap (map view_spot) c.in_ok-push.ensures.items ∙ map-append view_spot c.tokens.spots.items _ in
    let is : s ≡ spot c.args.all c.tokens.rest.now = rw (c.next_token-found.ensures.token, c.next_token-found.ensures.from) refl in
    let e = c.next_token-found.ensures in
    let ok : IsSpot s = record { within = omega (arith, e.behind_within, e.from_within, c.tokens.invariant.within, c.requires.text); digits = e.digits } in
    record {
      same = spots_step c.args.all c.args.count c.tokens.counter (map view_spot c.tokens.spots.items) (map view_spot c.push.new.self.items) (first c.args.all c.args.count c.args.left.now)
          c.tokens.rest.now found.behind.now s c.tokens-test.true c.tokens.invariant.same is e.behind pushed;
      within = omega (arith, e.behind_within, e.from_within, c.tokens.invariant.within);
      lexical = subst (AllByRecursion IsSpot) (sym pushed) (all_snoc IsSpot (map view_spot c.tokens.spots.items) s c.tokens.invariant.lexical ok);
    }
