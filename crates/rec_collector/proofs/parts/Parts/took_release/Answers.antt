-- The contract of `Parts::took_release`: a word came out of a field of a released slot.
use Rattle.std.proofs.Common.{◌≡◌, ℕ, ◌<◌, false, is_some, sym, ◌∙◌, ap, subst}
use Rattle.rec_collector.proofs.Common.{IsKept, IsClear, followed, with_released, worked, Parts, with_release, Releasing}
use Rattle.rec_collector.specs.Works.{MayWork}
use Rattle.rec_release.specs.Release as releases
use Rattle.rec_collector.proofs.Answering.{begun_follows, due, more_released, over_released, released_clear, whole}
use Rattle.rec_collector.proofs.Goings.{still, with_counts}
use Rattle.rec_collector.proofs.Steps.{release_next}
use Rattle.rec_collector.proofs.parts.Parts.took_release.Goals as goal

pub took-requires-clause-busy : goal.took-requires-clause-busy
took-requires-clause-busy c = release_next c.in-Releasing.release ∙ (subst (MayWork c.args.self.now c.args.word) c.in-Releasing.is c.requires.may).0.clearing.busy

pub returns-else-is_none : goal.returns-else-is_none
returns-else-is_none c =
    let w : Parts = whole c.self.inside in
    let v : releases.Work = record { machine = c.took.new.self; counts = c.took.new.counts } in
    begun_follows (with_counts w v.counts) (Releasing v.machine)
    ∙ ap followed (more_released w v (due c.next.ensures.next c.is_none.ensures c.if-is_none.false) ∙ ap (with_release w) c.took.ensures.took ∙ ap (λ (u : Parts). with_released c.in-Releasing.release u c.args.word) c.self.view_is)
    ∙ ap (worked c.args.self.now c.args.word) (sym c.in-Releasing.is)

released : (m : releases.Machine) (w p : Parts) (v : releases.Work) (word : ℕ) → w ≡ p → is_some (releases.next_of v.machine) ≡ false → v ≡ releases.took_of (record { machine = m; counts = w.counts }) word → still (with_counts w v.counts) ≡ with_released m p word
released m w p v word same over took = over_released w v over ∙ ap (with_release w) took ∙ ap (λ (u : Parts). with_released m u word) same

pub end_release-requires : goal.end_release-requires
end_release-requires c =
    let v : releases.Work = record { machine = c.took.new.self; counts = c.took.new.counts } in
    let may = subst (MayWork c.args.self.now c.args.word) c.in-Releasing.is c.requires.may in
    subst IsClear (sym (released c.in-Releasing.release (whole c.self.inside) c.args.self.now v c.args.word c.self.view_is (due c.next.ensures.next c.is_none.ensures c.if-is_none.true) c.took.ensures.took))
    (released_clear c.in-Releasing.release c.args.self.now c.args.word may.1 (subst (λ (u : Parts). IsKept u.counts) c.self.view_is c.rules.ensures) (subst (λ (u : Parts). 0 < u.fields) c.self.view_is c.self.invariant) may.0)

pub returns-then-is_none : goal.returns-then-is_none
returns-then-is_none c =
    let v : releases.Work = record { machine = c.took.new.self; counts = c.took.new.counts } in
    c.end_release.ensures
    ∙ ap followed (released c.in-Releasing.release (whole c.self.inside) c.args.self.now v c.args.word c.self.view_is (due c.next.ensures.next c.is_none.ensures c.if-is_none.true) c.took.ensures.took)
    ∙ ap (worked c.args.self.now c.args.word) (sym c.in-Releasing.is)
