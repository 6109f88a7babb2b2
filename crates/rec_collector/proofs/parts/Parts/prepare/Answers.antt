-- The contract of `Parts::prepare`: the sets that the trial found are to be prepared.
use Rattle.std.proofs.Common.{is_some, Option, sym, ◌∙◌, ap}
use Rattle.rec_collector.proofs.Common.{Op, Parts, prep_started, prepared}
use Rattle.rec_sigma.specs.Prepare as preps
use Rattle.rec_collector.proofs.Answering.{more_prepared, over_prepared}
use Rattle.rec_collector.proofs.parts.Parts.prepare.Goals as goal

pub returns-then-is_some : goal.returns-then-is_some
returns-then-is_some c =
    let w : Parts = record { counts = c.self.inside.counts; fields = c.self.inside.fields; sets = c.self.inside.sets; offers = c.self.inside.offers; postponed = c.self.inside.postponed; policy = c.self.inside.policy } in
    let v : preps.Work = record { machine = c.start.new.self; counts = c.start.new.counts } in
    more_prepared w v (sym (ap (λ (o : Option Op). is_some o) c.next.ensures.next) ∙ sym c.is_some.ensures ∙ c.if-is_some.true) ∙ ap (prepared w) (c.start.ensures.started ∙ ap (λ m. preps.started_of m w.counts) c.idle-prep.ensures.idle) ∙ ap (λ (u : Parts). prepared u (prep_started u)) c.self.view_is

pub returns : goal.returns
returns c =
    let w : Parts = record { counts = c.self.inside.counts; fields = c.self.inside.fields; sets = c.self.inside.sets; offers = c.self.inside.offers; postponed = c.self.inside.postponed; policy = c.self.inside.policy } in
    let v : preps.Work = record { machine = c.start.new.self; counts = c.start.new.counts } in
    ap (λ phase. record { parts = record w { counts = c.start.new.counts }; phase = phase }) c.end_preparation.ensures
    ∙ over_prepared w v (sym (ap (λ (o : Option Op). is_some o) c.next.ensures.next) ∙ sym c.is_some.ensures ∙ c.if-is_some.false) ∙ ap (prepared w) (c.start.ensures.started ∙ ap (λ m. preps.started_of m w.counts) c.idle-prep.ensures.idle) ∙ ap (λ (u : Parts). prepared u (prep_started u)) c.self.view_is
