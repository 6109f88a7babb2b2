-- `empty` holds a null pointer, and so owns nothing.
use Rattle.std.proofs.Common.{[], ◌∷◌, refl, ◌≡◌, lit<}
use mir.Val.{Val}
use base.Logic.{SProp, emp}
use types.Kit.{‵, raw, ◌⊛◌, ◌$◌, ◌∵◌, !, qed, by, keep, split, use0}
use types.Run.{no_more, and_then, lit, returns, enter}
use types.ByLocal.{alloc_all, pass_all, free_all, look_at, sets}
use types.Part.{agg}
use contract.Monad.{fact, fact_i}
use contract.Running.{tables}
use denote.RattleType.{owns}
use denote.RawPtr.{null_ptr}
use denote.Signature.{types_at}
use denote.Steps.{nothing}
use denote.Triple.Entry.{alive}
use denote.Triple.Walked.{Stays, walk_of}
use Rattle.std.proofs.raw_atomic.Walks.{proved_at, leaves}
use Rattle.std.specs.declared.option.Option.{Option}
use Rattle.std.specs.declared.option.Option.TheVariants.{None}
use Rattle.recycler_c.proofs.Values.{held_in, owned_in}
use Rattle.recycler_c.specs.declared.end.End.{End}
use Rattle.recycler_c.specs.contracts.owned.Owned.empty.{ended, clauses}
use Rattle.recycler_c.specs.contracts.owned.Owned.empty.Key.{name as #self}
use Rattle.recycler_c.proofs.owned.Owned.empty.Statement.{statement}
use Rattle.recycler_c.proofs.owned.Owned.empty.Code as code

pub empty_spec : {M : Type 1} → statement M
empty_spec 𝓤 𝓛 𝓜 𝓡 wired =
    let H = 𝓛.H in let 𝓣 = tables 𝓤 H 𝓜 𝓡 𝓡.env in let c = clauses 𝓛 𝓜.mem 𝓡.returns in
    let hs : Stays ended.signature.params ended.kept = tt in
    proved_at 𝓛 ended hs c 𝓜 𝓡 tt #self code.function (code.unfolded 𝓤 H 𝓜 𝓡 wired) (λ z are.
    let κs = z.0.0 in let qs = z.0.1 in let Post : Val → SProp 𝓤 = (walk_of 𝓛 ended hs c).post z in let none : Option End = None in
    qed 𝓛 ((raw (alive 𝓛 ended.signature κs qs) ⊛ ‵ (owns (types_at ended.signature.params κs) z.0.3 z.0.4)) ∷ raw ((c κs z.0.3).requires z.1) ∷ []) ∵ split ! $
    enter ! 𝓣.C 𝓣.Λ code.function [] Post $ alloc_all ! (λ l. pass_all ! refl tt $
    sets ! (agg ! (and_then ! (lit ! tt) (no_more !))) refl (tt, (record { fits = lit< tt }, tt)) $
    nothing ! $ owned_in ! null_ptr none $ use0 𝓛 (raw (fact 𝓤 (none ≡ none))) (fact_i 𝓤 (none ≡ none) (emp 𝓤) refl) $
    returns ! (look_at ! 0 refl) $ free_all ! refl $ keep ! (2 ∷ 3 ∷ 1 ∷ 0 ∷ []) $ by ! (leaves 𝓛 ended hs c z (held_in null_ptr) (record { at = null_ptr; held = none }) tt tt)))
