-- `empty` makes a `Held` over null, which owns nothing.
use Rattle.std.proofs.Common.{◌≡◌, None, List, [], ◌∷◌, ◌++◌, refl, sym, ap, subst, lit<}
use lib.Dec.{T}
use mir.Val.{Val, vstruct, vcons, vnil, vnull, has_ty, WT}
use base.Logic.{SProp, ent, emp, id⊢}
use base.Fml.{ftrue}
use prog.Wp.{WpFn}
use types.Kit.{‵, raw, ◌⊛◌, ◌$◌, ◌∵◌, !, qed, by, keep, move, suffices, use0, use1, split, fsplit, fjoin, fpack, feq_i}
use types.Run.{no_more, and_then, returns, enter, lit}
use types.ByLocal.{alloc_all, pass_all, free_all, look_at, get, sets}
use types.Part.{agg}
use contract.Monad.{fact, fact_i}
use contract.Running.{tables}
use denote.Exit.{yes}
use denote.RattleType.{Valss, owns}
use denote.Signature.{types_at, plain}
use denote.Param.{layout}
use denote.RawPtr.{RawPtr, null_ptr}
use denote.Struct.Struct.{within}
use denote.Struct.Owning.{shape}
use denote.Steps.{nothing}
use denote.Triple.Walked.{Stays, stay_dropped, Goes-dropped, walk_of}
use Rattle.std.proofs.raw_atomic.Walks.{proved_at, leaves}
use Rattle.std_heap.specs.contracts.Global as Heap
use Rattle.sel_c.proofs.TableSteps.{E}
use Rattle.sel_c.specs.Held.{MaybeTable}
use Rattle.sel_c.specs.contracts.held.Held as place
use Rattle.sel_c.specs.contracts.held.Held.empty as f
use Rattle.sel_c.proofs.held.Held.empty.Statement.{statement}
use Rattle.sel_c.proofs.held.Held.empty.Code as code
use Rattle.core.proofs.alloc.Calls.{handle_tells}
use Rattle.std_alloc.proofs.ResultValues.{and_tt}

abbrev stayed : Stays f.ended.signature.params f.ended.kept
stayed = (stay_dropped (plain (λ _. Heap.the_row)) yes, tt)

pub empty_spec : {M : Type 1} → statement M
empty_spec 𝓤 𝓛 𝓜 𝓡 wired =
    let c = f.clauses 𝓛 𝓜.mem 𝓡.returns in let 𝓣 = tables 𝓤 𝓛.H 𝓜 𝓡 𝓡.env in
    proved_at 𝓛 f.ended stayed c 𝓜 𝓡 (Goes-dropped 𝓛 0 (plain (λ _. Heap.the_row)) yes (λ κs x w. refl), tt) f.Key.name code.function (code.unfolded 𝓤 𝓛.H 𝓜 𝓡 wired) (λ y are.
    let alloc = y.0.3.0 in let none : MaybeTable = None in
    let Post : Val → SProp 𝓤 = (walk_of 𝓛 f.ended stayed c).post y in
    let runs : List Val → SProp 𝓤 = λ ws. WpFn 𝓤 𝓛.H 𝓣.C 𝓣.Λ code.function ws Post in
    qed 𝓛 ((‵ ftrue ⊛ ‵ (owns (types_at f.ended.signature.params y.0.0) y.0.3 y.0.4)) ∷ raw ((c y.0.0 y.0.3).requires y.1) ∷ []) ∵
    split ! $ move ! (1 ∷ []) $ fsplit ! $ handle_tells E.al ! alloc y.0.4.0 (λ h ws fits.
    -- [the handle; nothing; the tokens; what is required]
    suffices ! (runs (h ∷ [])) (subst (λ us. ent 𝓤 (runs (h ∷ [])) (runs us)) (sym (ap (λ us. us ++ []) ws)) (id⊢ 𝓤 _)) $
    enter ! 𝓣.C 𝓣.Λ code.function (h ∷ []) Post $ alloc_all ! (λ l. pass_all ! refl (fits, tt) $
    let w : Val = vstruct (vcons vnull (vcons h vnil)) in
    let good : T (has_ty (layout place.the_row) w) × WT w = (and_tt (has_ty (layout Heap.the_row) h) fits.0, (record { fits = lit< tt }, (fits.1, tt))) in
    sets ! (agg ! (and_then ! (lit ! tt) (and_then ! (get ! refl) (no_more !)))) refl good $
    returns ! (look_at ! 0 refl) $ free_all ! refl $
    -- [the handle; nothing; the tokens; what is required]
    nothing ! $ move ! (1 ∷ 0 ∷ []) $ fjoin ! $ feq_i ! (List Val) (vnull ∷ []) (vnull ∷ []) refl $ fjoin ! $ feq_i ! (List Val) (w ∷ []) (w ∷ []) refl $ fjoin ! $
    fpack ! (Valss (RawPtr ∷ Heap.the_row ∷ [])) (within (shape place.the_type) (null_ptr, (((alloc.memory.seal, tt), tt), tt)) (w ∷ [])) (vnull ∷ [], (h ∷ [], tt)) $
    nothing ! $ move ! (1 ∷ 0 ∷ []) $ fjoin ! $
    use1 𝓛 (‵ (place.the_row.own_val (record { at = null_ptr; alloc = alloc; table = None }) (w ∷ []))) (id⊢ 𝓤 _) $
    use0 𝓛 (raw (fact 𝓤 (none ≡ None))) (fact_i 𝓤 (none ≡ None) (emp 𝓤) refl) $ nothing ! $ nothing ! $ fjoin ! $
    keep ! (4 ∷ 0 ∷ 2 ∷ 1 ∷ []) $ by ! (leaves 𝓛 f.ended stayed c y w (record { at = null_ptr; alloc = alloc; table = None }) (tt, tt) (tt, tt)))))
