-- A `Bare` owns what a box of the same types owns: the steps of boxes serve for both.
--     Bare             its row
--     bare_out         from what a `Bare` owns: the value in memory, the right to free it, the handle
--     bare_in          and back
--     told             the walk goes on at the machine values that a parameter is known to have
use mathlib.Core.Path.{◌≡◌, refl}
use mathlib.Core.List.{List, [], ◌∷◌}
use Prim.Native.Nat.{ℕ}
use seplogic.Ra.Ura.{Ura}
use mir.Raw.{raw as bare}
use mir.Val.{Val}
use base.Fraction.{full_share}
use types.Logic.{Logic}
use types.Kit.{Item, Goal, Seq, Step, ‵}
use denote.RattleType.{RattleType}
use denote.Memory.{part_at}
use denote.RawPtr.{block_ptr}
use Rattle.core.proofs.alloc.Calls.{Fits, token}
use Rattle.std_alloc.proofs.BoxSteps.Form.{Bx, D, X, R, P, τ, word, handle}
use Rattle.std_alloc.proofs.BoxSteps.Steps.{box_out, box_in}
use Rattle.sel_c.specs.contracts.bare.Bare as contract

module _ (E : Bx) where
  abbrev pub Bare : RattleType
  Bare = contract.the_row (R E) (P E) E.al.g

  -- the box of these parts
  abbrev pub boxed : Bare.Denot → D E
  boxed d = record { ptr = d.at; alloc = d.alloc; value = d.value }

  module _ {M : Type 1} {𝓤 : Ura M} {𝓛 : Logic 𝓤} {K : Type 0} {Γ : List (Item 𝓤)} {G : Goal 𝓤 𝓛.H} where
    pub bare_out : K → (d : Bare.Denot) (vs : List Val)
        → ((b o : ℕ) (h : Val) → d.at ≡ block_ptr b o → vs ≡ word E h b o ∷ [] → Fits E.al h
        → Seq K 𝓛 (‵ (part_at (R E) full_share d.value b o) ∷ ‵ (token E.al d.alloc (bare (τ E)) (block_ptr b o)) ∷ ‵ (handle E d.alloc h) ∷ Γ) G)
        → Seq K 𝓛 (‵ (Bare.own_val d vs) ∷ Γ) G
    bare_out t d vs k = box_out E t (boxed d) vs k

    pub bare_in : K → (h : Val) (a : E.al.row.Denot) (x : X E) (b o : ℕ)
        → Step K 𝓛 (‵ (Bare.own_val (record { at = block_ptr b o; alloc = a; value = x }) (word E h b o ∷ [])) ∷ Γ) G
        (‵ (part_at (R E) full_share x b o) ∷ ‵ (token E.al a (bare (τ E)) (block_ptr b o)) ∷ ‵ (handle E a h) ∷ Γ) G
    bare_in t h a x b o = box_in E t (record { ptr = block_ptr b o; alloc = a; value = x }) b o x refl refl
