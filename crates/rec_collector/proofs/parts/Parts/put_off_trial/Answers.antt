-- The contract of `Parts::put_off_trial`: the trial is postponed.
use Rattle.std.proofs.Common.{◌≡◌, ◌+◌, ◌∙◌, ap}
use Rattle.rec_collector.proofs.Common.{Parts, prep_started, prepared, put_off}
use Rattle.rec_collector.proofs.parts.Parts.put_off_trial.Goals as goal

pub returns : goal.returns
returns c =
    let w : Parts = record { counts = c.self.inside.counts; fields = c.self.inside.fields; sets = c.self.inside.sets; offers = c.self.inside.offers; postponed = c.self.inside.postponed; policy = c.self.inside.policy } in
    let e : record w { counts = c.postpone.new.counts; postponed = w.postponed + 1 } ≡ put_off c.args.self.now = ap (λ s. record w { counts = s; postponed = w.postponed + 1 }) c.postpone.ensures ∙ ap put_off c.self.view_is in
    c.prepare.ensures ∙ ap (λ (u : Parts). prepared u (prep_started u)) e
