-- `of_box` takes the box apart: what it owned goes on in the parts.
use Rattle.std.proofs.Common.{◌≡◌, List, [], ◌∷◌, ◌++◌, refl, sym, ap, ◌∙◌, subst}
use mir.Syntax.{Args, Fn, a_type, dcons, dnil}
use mir.Raw.{raw as bare}
use mir.Val.{Val, vstruct, of_list}
use mir.MapTy.{inst_fn}
use base.Logic.{SProp, ent, never, id⊢, fst∗}
use base.Fml.{ftrue, fsep, flft}
use prog.Wp.{WpFn}
use types.Logic.{sem}
use types.Kit.{Item, ‵, raw, ◌⊛◌, some, later, ◌$◌, ◌∵◌, !, qed, by, move, keep, drop, suffices, use0, use1, split, split3, join, fsplit, fjoin, fpick, feq_l, pick, await, rewrite}
use types.Run.{stop, fld, of_opd, no_more, and_then, returns, enter}
use types.ByLocal.{alloc_all, pass_all, free_all, look_at, get, get_in, sets, lands_as}
use types.Part.{agg, sub, whole}
use contract.Monad.{fact, fact_i}
use contract.Running.{tables}
use base.Logic.{emp}
use denote.Exit.{no}
use denote.RattleType.{owns}
use denote.Signature.{types_at, plain}
use denote.RawPtr.{Ptr, RawPtr, block_ptr, null_ptr, ptr_val, in_a_block}
use denote.Steps.{nothing, only, heard}
use denote.Param.{bounded}
use denote.Struct.Tuple.{Tuple}
use denote.Triple.Spec.{triple_of}
use denote.Triple.Call.{calls_at}
use denote.Triple.Walked.{Stays, stay_dropped, walk_of}
use Rattle.core.proofs.alloc.Calls.{Goes-blank, handle_tells, token}
use Rattle.core.proofs.atomic.Steps.{fm}
use Rattle.std_alloc.specs.Box.Ownership.{box_owns}
use Rattle.std_alloc.proofs.BoxSteps.Form.{Bx, B, R, P, τ, word, box_typed}
use Rattle.std_alloc.proofs.BoxSteps.Steps.{box_out, box_in}
use Rattle.std.proofs.raw_atomic.Walks.{proved_at, leaves}
use Rattle.std_alloc.specs.contracts.boxed.Box.into_raw_with_allocator as opens
use Rattle.std_alloc.proofs.boxed.Box.into_raw_with_allocator.Met.{met}
use Rattle.sel_c.proofs.BareSteps.{bare_in}
use Rattle.sel_c.specs.contracts.bare.Bare.of_box as f
use Rattle.sel_c.specs.contracts.bare.Bare.of_box.Key.{name as #key}
use Rattle.sel_c.proofs.bare.Bare.of_box.Statement.{statement}
use Rattle.sel_c.proofs.bare.Bare.of_box.Code as code

pub of_box_spec : {M : Type 1} → statement M
of_box_spec 𝓤 𝓛 𝓜 𝓡 wired T A LT LA g d dx dd allocator glue glued =
    let E : Bx = record { row = T; laws = LT; al = record { row = A; laws = LA; g = g; d = d; drops = dd } } in
    let args : Args = bounded (a_type ∷ a_type ∷ []) (T, (A, tt)) (dcons d (dcons dx (dcons dd dnil))) in
    let fn : Fn = inst_fn args code.function in
    let 𝓣 = tables 𝓤 𝓛.H 𝓜 𝓡 𝓡.env in
    let ended = f.ended T A g d dx dd in
    let c = f.clauses T A g d dx dd 𝓛 𝓜.mem 𝓡.returns in
    let stayed : Stays ended.signature.params ended.kept = (stay_dropped (plain (λ _. B E)) no, tt) in
    proved_at 𝓛 ended stayed c 𝓜 𝓡 (Goes-blank 𝓛 2 (plain (λ _. B E)) no (λ κs x w. tt), tt) (#key args) fn
    (code.unfolded 𝓤 𝓛.H 𝓜 𝓡 wired (T, (A, tt)) d dx dd) (λ y are.
    let κs = y.0.0 in let qs = y.0.1 in let box = y.0.3.0 in let a = box.alloc in let x = box.value in
    let Post : Val → SProp 𝓤 = (walk_of 𝓛 ended stayed c).post y in
    let runs : List Val → SProp 𝓤 = λ ws. WpFn 𝓤 𝓛.H 𝓣.C 𝓣.Λ fn ws Post in
    let tokens : Item 𝓤 = ‵ (flft κs.0 qs.0) ⊛ ‵ (flft κs.1.0 qs.1.0) ⊛ ‵ ftrue in
    -- [the tokens, the box; the requires]
    qed 𝓛 ((tokens ⊛ ‵ (owns (types_at ended.signature.params κs) y.0.3 y.0.4)) ∷ raw ((c κs y.0.3).requires y.1) ∷ []) ∵
    split ! $ move ! (1 ∷ []) $ fsplit ! $ box_out E ! box y.0.4.0 (λ b o h e ws fits. box_in E ! box b o x e refl $
    let w = word E h b o in
    let G = triple_of 𝓛 (opens.signature T A g d dd dx) (opens.spec T A g d dd dx 𝓛 𝓜.mem 𝓡.returns) in
    let z : G.Ghost = ((κs, qs, tt, (box, tt), (w ∷ [], tt)), tt) in
    fjoin ! $ move ! (1 ∷ 0 ∷ []) $ join ! $ join ! $ use1 𝓛 (raw (G.pre z)) (id⊢ 𝓤 _) $
    suffices ! (runs (w ∷ [])) (subst (λ us. ent 𝓤 (runs (w ∷ [])) (runs us)) (sym (ap (λ us. us ++ []) ws)) (id⊢ 𝓤 _)) $
    enter ! 𝓣.C 𝓣.Λ fn (w ∷ []) Post $ alloc_all ! (λ l. pass_all ! refl (box_typed E h b o fits, tt) $
    sets ! (of_opd ! (get ! refl)) refl (box_typed E h b o fits) $
    calls_at ! (fm 𝓛 𝓜 𝓡) G (met 𝓤 𝓛 𝓜 𝓡 (code.calls-std_alloc::boxed::Box::into_raw_with_allocator 𝓡.env wired) T A LT LA g d dd dx allocator glued glue) z
    (and_then ! (get ! refl) (no_more !)) (λ v.
    -- the pair that comes back: its two parts, and what the box owned
    use1 𝓛 (later (some (λ (r : Ptr × A.Denot). (tokens ⊛ ‵ ((Tuple (RawPtr ∷ P E ∷ [])).own_val r (v ∷ []))) ⊛
    some (λ (_ : (Unit {0} × (Unit {0} × Unit {0})) × Unit {0}). ‵ (fsep (fsep ftrue (fsep ftrue ftrue)) ftrue) ⊛
    (raw (fact 𝓤 (r.1 ≡ a)) ⊛ ‵ (box_owns (token E.al a) (R E) r.0 x)))))) (id⊢ 𝓤 _) $
    await ! tt $ pick ! (λ r. split ! $ move ! (1 ∷ []) $ pick ! (λ _. split3 ! $ drop ! $ heard ! (r.1 ≡ a) (λ same.
    in_a_block ! r.0 (λ p. box_owns (token E.al a) (R E) p x) (fst∗ 𝓤 (never 𝓤) (sem 𝓛 (token E.al a (bare (τ E)) null_ptr))) (λ b' o' at.
    -- [what the box owned; the tokens with the pair]
    move ! (1 ∷ []) $ split ! $ move ! (1 ∷ []) $ fpick ! (λ vss. fsplit ! $ feq_l ! (λ pair. fsplit ! $ feq_l ! (λ first. fsplit !
    $ rewrite ! 0 (λ (s : A.Denot). ‵ (A.own_val s vss.1.0)) same refl $ handle_tells E.al ! a vss.1.0 (λ h' second fits'.
    lands_as ! (ap only (pair ∙ (λ i. vstruct (of_list ((first ∙ ap (λ (p : Ptr). ptr_val p ∷ []) at) i ++ (second i ++ []))) ∷ []))) refl (box_typed E h' b' o' fits') $
    sets ! (of_opd ! (get_in ! (fld ! refl (stop !)) (sub ! 0 refl (whole !)))) refl (tt, tt) $
    sets ! (of_opd ! (get_in ! (fld ! refl (stop !)) (sub ! 1 refl (whole !)))) refl fits' $
    sets ! (of_opd ! (get ! refl)) refl fits' $
    sets ! (agg ! (and_then ! (get ! refl) (and_then ! (get ! refl) (no_more !)))) refl (box_typed E h' b' o' fits') $
    returns ! (look_at ! 0 refl) $ free_all ! refl $
    -- [the handle; nothing; the tokens; what the box owned]
    move ! (3 ∷ []) $ fsplit ! $ bare_in E ! h' a x b' o' $ use0 𝓛 (raw (fact 𝓤 (x ≡ x))) (fact_i 𝓤 (x ≡ x) (emp 𝓤) refl) $ nothing ! $ nothing ! $ fjoin ! $
    -- [nothing is left of the parameter; what is ensured; the parts; nothing; the tokens]
    keep ! (4 ∷ 0 ∷ 2 ∷ 1 ∷ []) $
    by ! (leaves 𝓛 ended stayed c y (word E h' b' o') (record { at = block_ptr b' o'; alloc = a; value = x }) ((tt, (tt, tt)), tt) (tt, tt))))))))))))))
