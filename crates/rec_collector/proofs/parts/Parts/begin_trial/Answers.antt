-- The contract of `Parts::begin_trial`: a trial begins.
use Rattle.std.proofs.Common.{◌≡◌, is_some, Option, sym, ◌∙◌, ap, subst}
use Rattle.rec_collector.proofs.Common.{Op, Parts, tried, with_offers}
use Rattle.rec_trial.specs.Rules.{IsReady}
use Rattle.rec_trial.specs.Trial as trials
use Rattle.rec_collector.proofs.Answering.{more_tried, over_tried}
use Rattle.rec_collector.proofs.Offering.{where_ready}
use Rattle.rec_collector.proofs.parts.Parts.begin_trial.Goals as goal

pub start-requires-clause-ready : goal.start-requires-clause-ready
start-requires-clause-ready c = subst (λ (u : Parts). IsReady u.counts) (sym (c.self.view_is ∙ c.make_offers.ensures)) (where_ready c.args.self.now.offers c.args.self.now.counts c.requires.ready)

pub returns-then-is_some : goal.returns-then-is_some
returns-then-is_some c =
    let w : Parts = record { counts = c.self.inside.counts; fields = c.self.inside.fields; sets = c.self.inside.sets; offers = c.self.inside.offers; postponed = c.self.inside.postponed; policy = c.self.inside.policy } in
    let e : w ≡ with_offers c.args.self.now = c.self.view_is ∙ c.make_offers.ensures in
    let v : trials.Work = record { machine = c.start.new.self; counts = c.start.new.counts } in
    more_tried w v (sym (ap (λ (o : Option Op). is_some o) c.next.ensures) ∙ sym c.is_some.ensures ∙ c.if-is_some.true) ∙ ap (tried w) (c.start.ensures.started ∙ ap (λ (m : trials.Machine). trials.started_of m.fields w.counts) c.idle-trial.ensures.idle) ∙ ap (λ (u : Parts). tried u (trials.started_of u.fields u.counts)) e

pub returns : goal.returns
returns c =
    let w : Parts = record { counts = c.self.inside.counts; fields = c.self.inside.fields; sets = c.self.inside.sets; offers = c.self.inside.offers; postponed = c.self.inside.postponed; policy = c.self.inside.policy } in
    let e : w ≡ with_offers c.args.self.now = c.self.view_is ∙ c.make_offers.ensures in
    let v : trials.Work = record { machine = c.start.new.self; counts = c.start.new.counts } in
    c.prepare.ensures ∙ over_tried w v (sym (ap (λ (o : Option Op). is_some o) c.next.ensures) ∙ sym c.is_some.ensures ∙ c.if-is_some.false) ∙ ap (tried w) (c.start.ensures.started ∙ ap (λ (m : trials.Machine). trials.started_of m.fields w.counts) c.idle-trial.ensures.idle) ∙ ap (λ (u : Parts). tried u (trials.started_of u.fields u.counts)) e
