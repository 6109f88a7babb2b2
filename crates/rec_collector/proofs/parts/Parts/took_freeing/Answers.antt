-- The contract of `Parts::took_freeing`: a word came out of a field of a member of the set that is freed.
use Rattle.std.proofs.Common.{◌≡◌, ℕ, ◌<◌, true, false, is_some, sym, ◌∙◌, ap, subst}
use Rattle.rec_collector.proofs.Common.{IsKept, IsClear, followed, relieved, with_freed, worked, Parts, zeros_released, Freeing}
use Rattle.rec_collector.specs.Works.{MayWork}
use Rattle.rec_release.specs.CycleFree as frees
use Rattle.rec_collector.proofs.Answering.{begun_follows, due, freed_clear, more_freed, over_freed, whole}
use Rattle.rec_collector.proofs.Goings.{with_counts}
use Rattle.rec_collector.proofs.Steps.{freeing_next}
use Rattle.rec_collector.proofs.parts.Parts.took_freeing.Goals as goal

pub took-requires-clause-busy : goal.took-requires-clause-busy
took-requires-clause-busy c = freeing_next c.in-Freeing.freeing ∙ (subst (MayWork c.args.self.now c.args.word) c.in-Freeing.is c.requires.may).0.clearing.busy

pub returns-else-is_none : goal.returns-else-is_none
returns-else-is_none c =
    let w : Parts = whole c.self.inside in
    let v : frees.Work = record { machine = c.took.new.self; counts = c.took.new.counts } in
    begun_follows (with_counts w v.counts) (Freeing v.machine)
    ∙ ap followed (more_freed w v (due c.next.ensures.next c.is_none.ensures c.if-is_none.false) ∙ ap (relieved w) c.took.ensures.took ∙ ap (λ (u : Parts). with_freed c.in-Freeing.freeing u c.args.word) c.self.view_is)
    ∙ ap (worked c.args.self.now c.args.word) (sym c.in-Freeing.is)

freed : (m : frees.Machine) (w p : Parts) (v : frees.Work) (word : ℕ) → w ≡ p → is_some (frees.next_of v.machine) ≡ false → v ≡ frees.took_of (record { machine = m; counts = w.counts }) word → zeros_released true (with_counts w v.counts) ≡ with_freed m p word
freed m w p v word same over took = over_freed w v over ∙ ap (relieved w) took ∙ ap (λ (u : Parts). with_freed m u word) same

pub end_freeing-requires-clause-clear : goal.end_freeing-requires-clause-clear
end_freeing-requires-clause-clear c =
    let v : frees.Work = record { machine = c.took.new.self; counts = c.took.new.counts } in
    let may = subst (MayWork c.args.self.now c.args.word) c.in-Freeing.is c.requires.may in
    subst IsClear (sym (freed c.in-Freeing.freeing (whole c.self.inside) c.args.self.now v c.args.word c.self.view_is (due c.next.ensures.next c.is_none.ensures c.if-is_none.true) c.took.ensures.took))
    (freed_clear c.in-Freeing.freeing c.args.self.now c.args.word may.1 (subst (λ (u : Parts). IsKept u.counts) c.self.view_is c.rules.ensures) (subst (λ (u : Parts). 0 < u.fields) c.self.view_is c.self.invariant) may.0)

pub returns-then-is_none : goal.returns-then-is_none
returns-then-is_none c =
    let v : frees.Work = record { machine = c.took.new.self; counts = c.took.new.counts } in
    c.end_freeing.ensures
    ∙ ap followed (freed c.in-Freeing.freeing (whole c.self.inside) c.args.self.now v c.args.word c.self.view_is (due c.next.ensures.next c.is_none.ensures c.if-is_none.true) c.took.ensures.took)
    ∙ ap (worked c.args.self.now c.args.word) (sym c.in-Freeing.is)
