-- `of` takes the box apart, and keeps its pointer.
use Rattle.std.proofs.Common.{◌≡◌, List, [], ◌∷◌, ◌++◌, refl, sym, ap, subst, ◌∙◌}
use base.Fraction.{full_share}
use mir.Syntax.{impl, tnil, dnil, Dict, method}
use mir.Raw.{raw as bare}
use mir.Val.{Val, has_ty}
use seplogic.Ra.Ura.{Ura}
use base.Logic.{SProp, ent, emp, id⊢, never, fst∗}
use base.Fml.{ftrue, flft}
use prog.Model.{Model}
use prog.Wired.{Wired}
use prog.Wp.{WpFn}
use types.Logic.{Logic, sem}
use types.Kit.{‵, raw, ◌⊛◌, some, later, ◌$◌, ◌∵◌, !, qed, by, move, keep, drop, split, join, fsplit, fjoin, pick, suffices, use0, use1, await, feq_l}
use types.Run.{of_opd, no_more, and_then, returns, enter}
use types.ByLocal.{alloc_all, pass_all, free_all, look_at, get, sets, lands_as}
use types.Part.{agg}
use borrow.Fn.Glue.{glue_by, glue_ps}
use borrow.Fn.Impl.{via_longer, method_Known}
use borrow.Fn.Kinds.{ended_of, stays, r_unit}
use borrow.Fn.Run.{Over}
use contract.BorrowLft.{◌⊑◌, ⊑_refl}
use contract.Monad.{fact, fact_i}
use contract.Running.{Running, tables}
use denote.Exit.{yes, no}
use denote.Memory.{lone}
use denote.RattleType.{RattleType, owns}
use denote.Signature.{types_at, plain}
use denote.Builtin.{RawPtr}
use denote.RawPtr.{Ptr, block_ptr, null_ptr, ptr_val, in_a_block}
use denote.Steps.{nothing, only}
use denote.Param.{layout, layouts, param}
use denote.Param.Glue.{Met}
use denote.Param.Laws.{Laws, arg_laws}
use denote.Param.NoDrop.{glues}
use denote.Triple.Carry.{AllWithin}
use denote.Triple.Clauses.{Lasts, lasts, at_exit}
use denote.Triple.Call.{calls_at}
use denote.Triple.Entry.{alive}
use denote.Triple.Spec.{triple_of}
use denote.Triple.Table.{framed}
use denote.Triple.Walked.{Fit, Stays, stay_dropped, walk_of}
use Rattle.core.proofs.cell.Inside.{Good}
use Rattle.std.proofs.raw_atomic.Walks.{proved_at, leaves}
use Rattle.std.proofs.impls.GlobalAllocator.TheImpl.Met.{passed}
use Rattle.std.specs.contracts.impls.GlobalAllocator.TheImpl.{ghosts, dict}
use Rattle.std.specs.contracts.alloc.Global as heap
use Rattle.std.proofs.alloc.Global.TheLaws as heap_laws
use Rattle.std.specs.declared.option.Option.{Option}
use Rattle.std.specs.declared.option.Option.TheVariants.{Some}
use Rattle.std_alloc.specs.Box.Ownership.{box_owns}
use Rattle.std_alloc.proofs.BoxSteps.Form as box
use Rattle.std_alloc.proofs.BoxSteps.Steps.{box_out, box_in}
use Rattle.std_alloc.proofs.ResultValues.{and_tt}
use Rattle.std_alloc.specs.contracts.boxed.Box as boxes
use Rattle.std_alloc.specs.contracts.boxed.Box.into_raw as callee
use Rattle.std_alloc.proofs.boxed.Box.into_raw.Met.{met}
use Rattle.recycler_c.proofs.Rows.{heap_row, end_row, no_drop}
use Rattle.recycler_c.proofs.Values.{held_in, owned_in}
use Rattle.recycler_c.specs.declared.end.End.{End}
use Rattle.recycler_c.specs.contracts.end.End as end
use Rattle.recycler_c.proofs.end.End.TheLaws as end_laws
use Rattle.recycler_c.proofs.recycler_c++end++End+Destruct.drop.Kinds as dropped
use Rattle.recycler_c.proofs.recycler_c++end++End+Destruct.drop.Met as dropped_met
use Rattle.recycler_c.proofs.recycler_c++end++End+Destruct.drop.Reads as reads
use Rattle.recycler_c.proofs.recycler_c++end++End+Destruct.drop.Symbol as dropping
use Rattle.recycler_c.specs.contracts.owned.Owned.of.{ended, clauses}
use Rattle.recycler_c.specs.contracts.owned.Owned.of.Key.{name as #self}
use Rattle.recycler_c.proofs.owned.Owned.of.Statement.{statement}
use Rattle.recycler_c.proofs.owned.Owned.of.Code as code

abbrev end_row_laws : Laws end_row
end_row_laws = arg_laws (bare (layout end.the_row)) no end.the_row end_laws.the_row_laws refl

abbrev end_drop : Dict
end_drop = impl ("recycler_c::recycler_c++end++End+Destruct::drop" ∷ []) tnil dnil

abbrev E : box.Bx
E = record { row = end_row; laws = end_row_laws; al = record { row = heap_row; laws = arg_laws (bare (layout heap.the_row)) no heap.the_row heap_laws.the_row_laws refl; g = ghosts; d = dict; drops = no_drop } }

-- an end's own drop lets it go
end_drops : {M : Type 1} (𝓤 : Ura M) (𝓛 : Logic 𝓤) (𝓜 : Model 𝓤 𝓛.H) (𝓡 : Running 𝓤 𝓛.H 𝓜) → Wired 𝓡.env dropping.code → Met 𝓛 𝓜 𝓡 𝓡.env end_row end_drop
end_drops {M} 𝓤 𝓛 𝓜 𝓡 w =
    let En = ended_of 0 dropped.ps dropped.r in
    glue_by end_row end_row_laws (record { M = M; 𝓤 = 𝓤; 𝓛 = 𝓛; 𝓜 = 𝓜; 𝓡 = 𝓡 }) end_drop 𝓡.env (λ κs a. Lasts En tt a) (λ κs a. lasts En tt a)
    (λ κs a x ws. Fit En (stays dropped.ps) tt a ws × reads.Learnt tt a x (at_exit En tt a ws)) (λ κs a. AllWithin 1 (κs.0, tt) (end_row.lives, tt) × Unit {0}) 0 tt (λ κs a h. ((h, tt), tt))
    (via_longer 𝓛 (Over 𝓛 𝓜 𝓡 𝓡.env) 1 (glue_ps end_row end_row_laws) r_unit (λ κs a. Lasts En tt a) (λ κs a. lasts En tt a)
    (λ κs a x ws. Fit En (stays dropped.ps) tt a ws × reads.Learnt tt a x (at_exit En tt a ws)) (λ κs a. AllWithin 1 (κs.0, tt) (end_row.lives, tt) × Unit {0}) (method end_drop 0 (layouts [] tt)) 0 tt
    (λ κs. tt) (λ κs a. reads.Asked tt a) (λ κs a p. (tt, tt)) (λ κs bd within a vss qs. method_Known 0 dropped.ps dropped.r reads.requires reads.ensures reads.Asked reads.Learnt reads.known
    (record { M = M; 𝓤 = 𝓤; 𝓛 = 𝓛; 𝓜 = 𝓜; 𝓡 = 𝓡 }) dropping.name (method end_drop 0 (layouts [] tt)) (dropping.as_method 𝓡.env w (method end_drop 0 (layouts [] tt)) refl) (dropped_met.met 𝓤 𝓛 𝓜 𝓡 w) ((tt, qs, tt, a, vss), tt)))

pub of_spec : {M : Type 1} → statement M
unfolding Rattle.recycler_c.proofs.Destruct++none.drop.Code.code
of_spec {M} 𝓤 𝓛 𝓜 𝓡 wired =
    let H = 𝓛.H in let 𝓣 = tables 𝓤 H 𝓜 𝓡 𝓡.env in let c = clauses 𝓛 𝓜.mem 𝓡.returns in let T = end_row in let A = heap_row in let R : RattleType = param 0 T in
    let hs : Stays ended.signature.params ended.kept = (stay_dropped (plain (λ _. boxes.the_row end.the_row heap.the_row ghosts)) yes, tt) in
    proved_at 𝓛 ended hs c 𝓜 𝓡 ((λ κs x f vs ok. 𝓛.laws.⇛_intro (emp 𝓤)), tt) #self code.function (code.unfolded 𝓤 H 𝓜 𝓡 wired) (λ z are.
    let κs = z.0.0 in let qs = z.0.1 in let v = z.0.3.0 in let Post : Val → SProp 𝓤 = (walk_of 𝓛 ended hs c).post z in let Run : List Val → SProp 𝓤 = λ ws. WpFn 𝓤 H 𝓣.C 𝓣.Λ code.function ws Post in
    let k = triple_of 𝓛 (callee.signature T A ghosts dict no_drop end_drop) (callee.spec T A ghosts dict no_drop end_drop 𝓛 𝓜.mem 𝓡.returns) in
    let toks = ‵ (flft [] full_share) ⊛ ‵ (flft [] full_share) ⊛ ‵ ftrue in let x : Option End = Some v.value in
    qed 𝓛 ((raw (alive 𝓛 ended.signature κs qs) ⊛ ‵ (owns (types_at ended.signature.params κs) z.0.3 z.0.4)) ∷ raw ((c κs z.0.3).requires z.1) ∷ []) ∵ split ! $ move ! (1 ∷ []) $ fsplit ! $
    box_out E ! v z.0.4.0 (λ b o h e ws fits. box_in E ! v b o v.value e refl $
    let w : Val = box.word E h b o in let typed : Good (layout (box.B E)) w = (and_tt (has_ty (layout A) h) fits.0, (tt, (fits.1, tt))) in let y : k.Ghost = ((([], ([], tt)), (full_share, (full_share, tt)), tt, (v, tt), (w ∷ [], tt)), tt) in
    fjoin ! $ move ! (2 ∷ []) $ use0 𝓛 (raw (fact 𝓤 ([] ⊑ A.lives))) (fact_i 𝓤 ([] ⊑ A.lives) (emp 𝓤) (⊑_refl [])) $ join ! $ use0 𝓛 (raw (fact 𝓤 ([] ⊑ T.lives))) (fact_i 𝓤 ([] ⊑ T.lives) (emp 𝓤) (⊑_refl [])) $ join ! $ move ! (1 ∷ []) $
    nothing ! $ use0 𝓛 (‵ (flft [] full_share)) (𝓛.lfts.lft-nil full_share) $ join ! $ use0 𝓛 (‵ (flft [] full_share)) (𝓛.lfts.lft-nil full_share) $ join ! $ join ! $ join ! $ use1 𝓛 (raw (k.pre y)) (id⊢ 𝓤 _) $
    suffices ! (Run (w ∷ [])) (subst (λ (us : List Val). ent 𝓤 (Run (w ∷ [])) (Run us)) (sym (λ i. ws i ++ [])) (id⊢ 𝓤 (Run (w ∷ [])))) $
    enter ! 𝓣.C 𝓣.Λ code.function (w ∷ []) Post $ alloc_all ! (λ l. pass_all ! refl (typed, tt) $ sets ! (of_opd ! (get ! refl)) refl typed $
    calls_at ! (λ f. framed 𝓤 H 𝓜 𝓣 f) k (met 𝓤 𝓛 𝓜 𝓡 (code.calls-std_alloc::boxed::Box::into_raw 𝓡.env wired) T A E.laws E.al.laws ghosts dict no_drop end_drop
    (passed 𝓡.env (code.calls-std_heap::GlobalAllocator::allocate 𝓡.env wired) (code.calls-std_heap::GlobalAllocator::deallocate 𝓡.env wired) (code.calls-std_heap::GlobalAllocator::grow 𝓡.env wired) (code.calls-std_heap::GlobalAllocator::shrink 𝓡.env wired) M 𝓤 𝓛 𝓜 𝓡)
    (glues "recycler_c::Destruct++none::drop" 𝓡.env (code.calls-recycler_c::Destruct++none::drop 𝓡.env wired) A E.al.laws M 𝓤 𝓛 𝓜 𝓡)
    (end_drops 𝓤 𝓛 𝓜 𝓡 (code.calls-recycler_c::recycler_c++end++End+Destruct::drop 𝓡.env wired))) y (and_then ! (get ! refl) (no_more !)) (λ u.
    use1 𝓛 (later (some (λ (r : Ptr). (toks ⊛ ‵ (RawPtr.own_val r (u ∷ []))) ⊛ some (λ (ls : Lasts (callee.ended T A ghosts dict no_drop end_drop) y.0.0 y.0.3). ‵ (lasts (callee.ended T A ghosts dict no_drop end_drop) y.0.0 y.0.3 ls) ⊛ ‵ (box_owns (ghosts.dealloc_token v.alloc) R r v.value))))) (id⊢ 𝓤 (k.post y u)) $
    await ! tt $ pick ! (λ r. split ! $ move ! (1 ∷ []) $ pick ! (λ _. split ! $ drop ! $
    in_a_block ! r (λ p. box_owns (ghosts.dealloc_token v.alloc) R p v.value) (fst∗ 𝓤 (never 𝓤) (sem 𝓛 (ghosts.dealloc_token v.alloc (bare (lone R.mir)) null_ptr))) (λ b' o' e'.
    move ! (1 ∷ []) $ split ! $ drop ! $ feq_l ! (λ eu.
    lands_as ! (ap only (eu ∙ ap (λ (p : Ptr). ptr_val p ∷ []) e')) refl (tt, tt) $ sets ! (of_opd ! (get ! refl)) refl (tt, tt) $ sets ! (agg ! (and_then ! (get ! refl) (no_more !))) refl (tt, (tt, tt)) $
    owned_in ! (block_ptr b' o') x $ use0 𝓛 (raw (fact 𝓤 (x ≡ x))) (fact_i 𝓤 (x ≡ x) (emp 𝓤) refl) $ nothing ! $ nothing ! $ fjoin ! $
    returns ! (look_at ! 0 refl) $ free_all ! refl $ keep ! (5 ∷ 0 ∷ 2 ∷ 1 ∷ []) $ by ! (leaves 𝓛 ended hs c z (held_in (block_ptr b' o')) (record { at = block_ptr b' o'; held = x }) (tt, tt) (tt, tt))))))))))
