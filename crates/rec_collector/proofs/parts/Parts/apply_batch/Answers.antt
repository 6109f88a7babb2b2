-- The contract of `Parts::apply_batch`: the batch of these buffers is applied, and its zeros are to be released.
use Rattle.std.proofs.Common.{◌≡◌, ◌<◌, false, sym, ◌∙◌, ap, subst}
use Rattle.rec_collector.proofs.Common.{IsKept, State, IsClear, Parts, Begun, zeros_released}
use Rattle.rec_counts.specs.Batch.{applied}
use Rattle.rec_collector.proofs.Answering.{batch_clear}
use Rattle.rec_collector.proofs.parts.Parts.apply_batch.Goals as goal

pub follow-requires : goal.follow-requires
follow-requires c =
    let w : Parts = record { counts = c.self.inside.counts; fields = c.self.inside.fields; sets = c.self.inside.sets; offers = c.self.inside.offers; postponed = c.self.inside.postponed; policy = c.self.inside.policy } in
    let e : ◌≡◌ {A = Begun} (record { parts = c.release_zeros-begun.new.self; phase = c.release_zeros-begun.result }) (zeros_released false (record c.args.self.now { counts = applied c.args.self.now.policy.steady c.args.self.now.counts c.args.newer.now c.args.older.now })) =
    c.release_zeros-begun.ensures ∙ ap (λ (s : State). zeros_released false (record w { counts = s })) c.apply.ensures.order ∙ ap (λ (v : Parts). zeros_released false (record v { counts = applied v.policy.steady v.counts c.args.newer.now c.args.older.now })) c.self.view_is in
    subst IsClear (sym e) (batch_clear c.args.self.now.policy.steady c.args.self.now c.args.newer.now c.args.older.now (subst (λ (v : Parts). 0 < v.fields) c.self.view_is c.self.invariant) (subst (λ (v : Parts). IsKept v.counts) c.self.view_is c.rules.ensures) c.requires.alike c.requires.covered c.requires.cleared c.requires.unreleased c.requires.counted c.requires.told)
