-- The loop over a line's tokens, in the values that the code's calls give.
use Rattle.std.proofs.Common.{◌≡◌, ℕ, suc, ◌-◌, ◌≤◌, ◌<◌, ◌^◌, inl, inr, Bool, List, [], ◌∷◌, ◌++◌, Option, Some, None, ap, sym, ◌∙◌, subst, arith, length, drop, map, IfSome}
use Rattle.sel_grammar.specs.declared.grammar.Grammar.{Grammar}
use Rattle.sel_forest.specs.declared.forest.Tree.{Tree}
use Rattle.sel_forest.specs.Limits as limits
use Rattle.sel_forest.specs.Limits.{most_nodes, most_trees}
use Rattle.sel_forest.specs.Tokens.{Token, token_of, skip, width, start, first, IsCutInto}
use Rattle.sel_forest.specs.LineFaults.{Around, around, around_next, kind_of, HasFirstFault}
use Rattle.sel_forest.specs.ForestText.{SpellsLine, IsBlankLine}
use Rattle.sel_forest.specs.OpenNodes.{Opened, Fresh, Half, Full, opened, total, parent_of, parents_in, behind_first, first_parent, TakesToken}
use Rattle.sel_forest.specs.Pieces.{IsLawful, IsNamedBy}
use Rattle.sel_forest.specs.Taking.{Continues, AreTokensOf}
use Rattle.sel_forest.specs.Machine.{step, wants_attribute, open_count}
use Rattle.sel_forest.specs.declared.line.State.{State}
use Rattle.sel_forest.specs.declared.line.State.TheVariants.{Start, Wanted, Named, Colonned, Attributed, Closed, Ended}
use Rattle.sel_forest.proofs.Lawful.{lawful}
use Rattle.sel_forest.proofs.Strides.{skip_short, shorter}
use Rattle.sel_forest.proofs.LineCopies.{ended_is}
use Rattle.sel_forest.proofs.Reading.{HasPairsAtMost}
use Rattle.sel_forest.proofs.Standing.{Stands, stands_start, token_here, stands_stray, stands_wrong, stands_takes, stands_next, stands_end, step_ended, one_more, around_more, LineEnds}

-- The loop's invariant, without what the taker took.
pub record Reached (g : Grammar) (trees : ℕ) (line : List ℕ) (s : State) (rest : List ℕ) (a : Around) : Type 0 where
  pub n : ℕ
  pub stands : Stands g trees line n s rest
  pub around_is : a ≡ around g (first n (start line))

abbrev pub reached_start : (g : Grammar) (trees : ℕ) (line : List ℕ) (a : Around) → a ≡ around g [] → Reached g trees line Start line a
reached_start g trees line a e = record { n = 0; stands = stands_start g trees line; around_is = e }

-- What the calls on a token gave: the flag, the text from the token on, what is behind it, the token and the state.
pub record Sees (s : State) (rest : List ℕ) (flag : Bool) (text behind : List ℕ) (t : Token) (o : Option State) : Type 0 where
  pub flag_is : flag ≡ wants_attribute s
  pub from : text ≡ skip rest
  pub token_is : t ≡ token_of flag (skip rest)
  pub behind_is : behind ≡ drop (width t) (skip rest)
  pub stepped : o ≡ step s t

pub sees : {flag : Bool} {text behind : List ℕ} {t : Token} {o : Option State} (s : State) (rest : List ℕ) → flag ≡ wants_attribute s → text ≡ skip rest → t ≡ token_of flag (skip rest)
    → behind ≡ drop (width t) (skip rest) → o ≡ step s t → Sees s rest flag text behind t o
sees s rest flag_is from token_is behind_is stepped = record { flag_is = flag_is; from = from; token_is = token_is; behind_is = behind_is; stepped = stepped }

-- no parent has more than two kids
few_first : (os : List Opened) → IfSome (first_parent (map parent_of os)) (λ parent. parent.kids < 255)
few_first [] = tt
few_first (Fresh op a ∷ os) = omega arith
few_first (Half op a t ∷ os) = omega arith
few_first (Full op a t u ∷ os) = omega arith

few_in : (s : State) (os : List Opened) → IfSome (first_parent (parents_in s os)) (λ parent. parent.kids < 255)
few_in Start os = few_first os
few_in (Wanted d) os = few_first os
few_in (Named d) os = few_first (behind_first os)
few_in (Colonned d) os = few_first (behind_first os)
few_in (Attributed d) os = few_first (behind_first os)
few_in (Closed d) os = few_first (behind_first os)
few_in Ended os = few_first os

module _ (g : Grammar) (trees : ℕ) (line : List ℕ) (s : State) (rest : List ℕ) (a : Around) (r : Reached g trees line s rest a) where
  -- the tokens so far
  abbrev pub ts : List Token
  ts = first r.n (start line)

  pub reached_depth : open_count s ≤ length line
  reached_depth = let h = r.stands.room in omega arith

  pub reached_rest : length (skip rest) ≤ length line
  reached_rest = let h = r.stands.room in let k = skip_short rest in omega arith

  pub reached_names : a.names < 2 ^ 63
  reached_names = let e : a.names ≡ (around g ts).names = ap (λ a. a.names) r.around_is in omega (arith, e, r.stands.fits.few)

  pub reached_kids : IfSome (first_parent a.parents) (λ parent. parent.kids < 255)
  reached_kids =
      let e : a.parents ≡ parents_in s (opened g ts) = ap (λ a. a.parents) r.around_is ∙ r.stands.fits.parents in
      subst (λ ps. IfSome (first_parent ps) (λ parent. parent.kids < 255)) (sym e) (few_in s (opened g ts))

  module _ (flag : Bool) (text behind : List ℕ) (t : Token) (o : Option State) (e : Sees s rest flag text behind t o) where
    pub seen : t ≡ token_here s rest
    seen = e.token_is ∙ ap (λ f. token_of f (skip rest)) e.flag_is

    pub steps : (p : Option State) → o ≡ p → step s (token_here s rest) ≡ p
    steps p h = ap (step s) (sym seen) ∙ sym e.stepped ∙ h

    pub sees_inside : length text ≤ length line
    sees_inside = let k : length text ≡ length (skip rest) = ap length e.from in let h = reached_rest in omega arith

    pub sees_lawful : IsLawful t
    sees_lawful = subst IsLawful (sym e.token_is) (lawful flag (skip rest))

    pub sees_stray : HasPairsAtMost g → o ≡ None → HasFirstFault g trees line limits.token (length line - length text)
    sees_stray two h =
        subst (λ x. HasFirstFault g trees line limits.token (length line - length x)) (sym e.from) (stands_stray g two trees line r.n s rest r.stands (steps None h))

    module _ (k : Option ℕ) (judged : k ≡ kind_of g trees a t) where
      pub kind_is : (x : Option ℕ) → k ≡ x → kind_of g trees (around g ts) (token_here s rest) ≡ x
      kind_is x h = sym (λ j. kind_of g trees (r.around_is j) (seen j)) ∙ sym judged ∙ h

      pub sees_wrong : HasPairsAtMost g → (u : State) (kind : ℕ) → o ≡ Some u → k ≡ Some kind → HasFirstFault g trees line kind (length line - length text)
      sees_wrong two u kind h w =
          subst (λ x. HasFirstFault g trees line kind (length line - length x)) (sym e.from)
          (stands_wrong g two trees line r.n s rest r.stands u kind (steps (Some u) h) (kind_is (Some kind) w))

      pub sees_end : HasPairsAtMost g → (u : State) → o ≡ Some u → u ≡ Ended → k ≡ None → LineEnds g trees line ts
      sees_end two u h ended w = stands_end g two trees line r.n s rest r.stands (steps (Some Ended) (h ∙ ap Some ended)) (kind_is None w)

      pub sees_continues : HasPairsAtMost g → (u : State) (operator : ℕ) → o ≡ Some u → k ≡ None → IsNamedBy g operator t → Continues g operator ts t
      sees_continues two u operator h w named = record {
        lawful = sees_lawful;
        named = named;
        takes = subst (TakesToken (opened g ts)) (sym seen) (stands_takes g two trees line r.n s rest r.stands u (steps (Some u) h) (kind_is None w));
        small = omega (arith, r.stands.fits.few, r.stands.fits.names);
      }

      abbrev pub sees_next : HasPairsAtMost g → (u : State) (a' : Around) → o ≡ Some u → k ≡ None → (u ≡ Ended → ⊥) → a' ≡ around_next g a t → Reached g trees line u behind a'
      sees_next two u a' h w open_still followed =
          let b : behind ≡ drop (width (token_here s rest)) (skip rest) = e.behind_is ∙ ap (λ x. drop (width x) (skip rest)) seen in
          record {
            n = suc r.n;
            stands = subst (Stands g trees line (suc r.n) u) (sym b) (stands_next g two trees line r.n s rest r.stands u (steps (Some u) h) (kind_is None w) open_still);
            around_is = followed ∙ (λ j. around_next g (r.around_is j) (seen j)) ∙ sym (around_more g two trees line r.n s rest r.stands);
          }

    pub sees_nothing : (u : State) → o ≡ Some u → u ≡ Ended → skip rest ≡ []
    sees_nothing u h ended = ended_is (wants_attribute s) (skip rest) (step_ended s (token_here s rest) (steps (Some Ended) (h ∙ ap Some ended)))

    -- the tokens with one more
    pub sees_more : HasPairsAtMost g → ts ++ (t ∷ []) ≡ first (suc r.n) (start line)
    sees_more two = ap (λ t. ts ++ (t ∷ [])) seen ∙ sym (one_more g two trees line r.n s rest r.stands)

    pub sees_shorter : (u : State) → o ≡ Some u → (u ≡ Ended → ⊥) → length behind < length rest
    sees_shorter u h open_still =
        let b : length behind ≡ length (drop (width (token_here s rest)) (skip rest)) = ap length e.behind_is ∙ ap (λ x. length (drop (width x) (skip rest))) seen in
        omega (arith, b, shorter s u (skip rest) (steps (Some u) h) open_still, skip_short rest)

  -- how many names came, where the line ends
  pub names_total : a.names ≡ total (opened g ts)
  names_total = ap (λ a. a.names) r.around_is ∙ r.stands.fits.names

-- What a line's end gives: no tree where no name came, and else one.
pub ends_blank : (g : Grammar) (trees : ℕ) (line : List ℕ) (ts : List Token) → LineEnds g trees line ts → total (opened g ts) ≡ 0 → (ts ≡ []) × IsBlankLine line
ends_blank g trees line ts (inl e) h = (e.0, e.1)
ends_blank g trees line ts (inr e) h = absurd (omega (arith, e.4, h))

pub ends_tree : (g : Grammar) (trees : ℕ) (line : List ℕ) (ts : List Token) → LineEnds g trees line ts → (total (opened g ts) ≡ 0 → ⊥)
    → (tree : Tree) × AreTokensOf g ts tree × SpellsLine g line tree × (trees < most_trees) × IsCutInto line ts
ends_tree g trees line ts (inl e) h = absurd (h e.2)
ends_tree g trees line ts (inr e) h = (e.0, e.1, e.2, e.3, e.5)
